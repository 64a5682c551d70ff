pub mod Adapters
pub mod Ends
pub mod Telling
