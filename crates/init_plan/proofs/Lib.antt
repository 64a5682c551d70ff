pub mod Entered
pub mod Totals
pub mod Unplanned
pub mod TablesKept
pub mod Planning
pub mod ImagesOff
pub mod Sized
pub mod MemoriesKept
pub mod Holding
pub mod Agreeing
mod WholeRanges
mod OtherHalf
