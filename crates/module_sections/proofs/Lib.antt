pub mod FromRules
mod ReferencesInRange
mod RuledSections
mod FilledInitialisers
pub mod FilledSections
pub mod Numbering
pub mod NotingEscapes
pub mod Typed
pub mod Referring
pub mod FirstCauses
pub mod Escaped
pub mod GrownPool
mod ImportsInTurn
mod ExportsInTurn
mod ImportPlaces
mod FilledEntities
pub mod Filling
mod GatheredGlobals
pub mod HeldExpressions
pub mod BySection
pub mod HeldElements
pub mod DataSteps
pub mod Agreeing
