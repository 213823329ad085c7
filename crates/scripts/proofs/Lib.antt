mod Kept
pub mod Lawful
mod Rules
mod Steps
mod Turns
