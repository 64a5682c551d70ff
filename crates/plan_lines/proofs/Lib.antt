pub mod Decimal
pub mod Hexadecimal
mod Operators
pub mod PartWritten
pub mod Plain
pub mod PlainTable
pub mod Spaced
pub mod Trampolines
