mod Chains
pub mod Held
pub mod Laws
mod OnePlace
mod Places
mod Steps
