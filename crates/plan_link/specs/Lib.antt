pub mod Answers
pub mod Linkable
pub mod Linked
pub mod Program
pub mod Members
pub mod Registering
