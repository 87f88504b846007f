pub mod Readers
pub mod Turns
pub mod FrameReaders
pub mod Decoding
pub mod Lengths
pub mod Loops
