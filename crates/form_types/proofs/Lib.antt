pub mod AllOf
mod PartsBelow
mod Counting
mod Looking
mod Decoding
mod KeyLaws
mod InOrder
mod InPlace
pub mod Steps
mod Listing
mod Rows
mod Built
pub mod Ruled
mod Taking
pub mod AtIds
mod Final
