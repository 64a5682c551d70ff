pub mod GlobalNumbers
pub mod ImagesFit
pub mod StartupTypes
pub mod TableImages
pub mod Runnable
pub mod Translated
pub mod PlannedWhole
pub mod FieldCounts
pub mod ModuleFields
pub mod LaidWhole
mod OptionsAlike
mod WorkedValid
