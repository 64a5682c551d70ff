pub mod Views
pub mod Ready
pub mod Errors
pub mod Images
pub mod Startup
pub mod Tables
pub mod Held
pub mod Agreement
