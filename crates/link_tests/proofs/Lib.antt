pub mod ListedLists
pub mod Registered
