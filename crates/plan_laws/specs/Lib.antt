pub mod Causes
pub mod Same
pub mod Kept
pub mod Runs
pub mod Records
pub mod TextCosts
pub mod Widths
pub mod TextBounds
