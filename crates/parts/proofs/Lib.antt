pub mod Kept
pub mod BankRuns
pub mod Backs
