pub mod TableForms
pub mod Names
pub mod Rows
pub mod Pieces
pub mod Decimals
