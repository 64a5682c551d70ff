pub mod Kept
pub mod Told
pub mod Names
pub mod Hints
pub mod DebugSections
pub mod Worked
