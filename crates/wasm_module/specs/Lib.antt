pub mod Record
pub mod Spaces
pub mod Entities
pub mod Imports
pub mod Elements
pub mod ModuleData
pub mod ModuleShapes
