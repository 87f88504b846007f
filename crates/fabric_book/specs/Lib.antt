pub mod Kept
pub mod Nets
pub mod Told
pub mod Accounts
pub mod Rounds
