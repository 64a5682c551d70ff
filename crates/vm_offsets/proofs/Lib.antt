pub mod Placing
pub mod Kept
pub mod Order
pub mod Labels
