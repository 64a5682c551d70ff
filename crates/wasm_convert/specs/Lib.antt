pub mod Conversion
pub mod Known
pub mod Operators
pub mod Constants
pub mod Evaluation
