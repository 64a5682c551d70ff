pub mod Appends
pub mod Counters
pub mod Moves
