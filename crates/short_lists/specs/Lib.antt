pub mod ShortList
pub mod Lengths
