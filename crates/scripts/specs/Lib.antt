pub mod Reasons
pub mod Commands
pub mod Reading
pub mod Laws
pub mod Lists
pub mod Cursors
pub mod Steps
