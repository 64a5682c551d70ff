pub mod Heads
pub mod Numerals
pub mod Powers
pub mod Reading
pub mod Usable
