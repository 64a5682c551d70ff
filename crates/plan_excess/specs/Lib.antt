pub mod Large
pub mod Past
pub mod Excess
pub mod ExcessTexts
pub mod Found
