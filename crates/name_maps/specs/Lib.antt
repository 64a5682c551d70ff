pub mod Entries
pub mod NameMaps
pub mod Told
pub mod Reading
pub mod Worked
