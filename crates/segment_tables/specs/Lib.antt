pub mod Operators
pub mod Expressions
pub mod Elements
pub mod DataSegments
pub mod References
pub mod Tables
pub mod Causes
