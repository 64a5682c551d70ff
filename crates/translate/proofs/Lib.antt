mod Segments
mod Started
pub mod Unchanged
mod EqualTypes
mod PlannedMemories
mod PlannedTables
mod Refusals
mod AllPlanned
pub mod Counts
mod LayoutsInTurn
pub mod ObjectSizes
mod OnePlan
mod PlansFit
mod Planning
mod Printable
mod WholeInput
mod Causes
pub mod FewTypes
pub mod DataBytes
mod ImagesTotal
pub mod EntryCounts
mod CellCounts
pub mod Costs
