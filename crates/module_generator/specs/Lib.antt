pub mod Spelling
pub mod Generated
