pub mod Floods
