pub mod Votes
pub mod Looks
pub mod Runs
pub mod OnBank
