pub mod Views
pub mod HintGrammar
pub mod HintReading
pub mod NameLists
pub mod NameGrammar
pub mod NameReading
pub mod CutNames
pub mod DebugNames
