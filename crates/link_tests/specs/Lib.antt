pub mod Growing
pub mod Lists
