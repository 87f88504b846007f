pub mod Repairs
pub mod Reports
pub mod SetRows
pub mod Flags
pub mod Given
