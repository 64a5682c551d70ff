pub mod Calls
pub mod Counter
pub mod Device
pub mod ListSink
pub mod ListSource
