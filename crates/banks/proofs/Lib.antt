pub mod Joined
pub mod Turns
pub mod OneStore
