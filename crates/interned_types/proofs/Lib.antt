mod InTurn
pub mod DeclaredKinds
pub mod DeclaredLooks
pub mod Naming
pub mod Excepting
pub mod Tagging
mod NoMemory
