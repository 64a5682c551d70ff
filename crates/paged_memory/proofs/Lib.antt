pub mod Counts
pub mod Paged
pub mod Lists
pub mod Place
