pub mod Exported
pub mod Faults
pub mod Members
pub mod NameRows
pub mod Nothing
pub mod Placing
pub mod Told
