mod AskedHints
mod WayPlaces
mod WholeTranslation
pub mod Answering
pub mod HoldsLists
pub mod MemoriesReady
pub mod TablesReady
pub mod AlikeFunctions
mod PooledNames
