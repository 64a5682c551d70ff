pub mod Runs
pub mod Addressed
pub mod Alike
pub mod TablePhases
pub mod MemoryPhases
pub mod ModuleInstance
pub mod OfPlan
