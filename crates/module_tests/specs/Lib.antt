pub mod FirstGroups
