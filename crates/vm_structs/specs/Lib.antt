pub mod Fields
pub mod Structs
