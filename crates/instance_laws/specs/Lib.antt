pub mod Running
pub mod Objects
pub mod Instances
pub mod Recipes
pub mod Worked
