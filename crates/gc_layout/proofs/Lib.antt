pub mod Placing
pub mod Bits
pub mod Found
pub mod Multiples
pub mod FieldLaws
pub mod KindLaws
pub mod AlignmentLaws
pub mod Powers
