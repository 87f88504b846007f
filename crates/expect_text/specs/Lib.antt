pub mod Expect
