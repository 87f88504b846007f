pub mod Skeptics
