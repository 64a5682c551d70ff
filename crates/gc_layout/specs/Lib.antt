pub mod Sizes
pub mod Fields
pub mod Arrays
pub mod Objects
pub mod Kinds
pub mod Worked
