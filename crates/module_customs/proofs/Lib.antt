mod Keeping
mod Functions
mod ByNumber
mod LocalNames
mod NamesInTurn
mod HintsInTurn
mod FirstHints
pub mod AsTold
