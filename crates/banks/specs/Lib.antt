pub mod Bank
pub mod Refusals
pub mod Sweeps
pub mod Laws
pub mod Single
pub mod Joined
