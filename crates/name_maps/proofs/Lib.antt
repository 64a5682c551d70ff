pub mod Adding
pub mod Contents
pub mod AsRead
pub mod Placed
pub mod Unique
pub mod WorkedMaps
