pub mod Stepping
pub mod WorkedKept
