-- What makes a module too large to be planned, and where it is.
use Rattle.std.specs.Prelude.{◌≡◌, ℕ, ◌^◌, ◌≤◌, List, length, Option, Some, None, IfSome, IsSomeAnd}
use Rattle.wasm_spec.specs.Module.{Module}
use Rattle.rule_breaks.specs.declared.lists.Break.{Break}
use Rattle.rule_breaks.specs.declared.lists.ModuleList.TheVariants as list
use Rattle.rule_breaks.specs.declared.list_places.EntryPlace.{EntryPlace}
use Rattle.rule_breaks.specs.ListPlaces.{IsPlacedAt}
use Rattle.rule_breaks.specs.Listed.{IsListed}
use Rattle.translate.specs.Options.{Options}
use Rattle.translate.specs.Planned.{KeepsAnd}
use Rattle.plan_excess.specs.declared.kinds.ExcessKind.{ExcessKind}
use Rattle.plan_excess.specs.declared.kinds.ExcessKind.TheVariants as kind
use Rattle.plan_excess.specs.declared.kinds.Excess.{Excess}
use Rattle.plan_excess.specs.Large.{IsFirstLarge, IsLargeContext, HasSmallObjects, HasSmallExceptions}
use Rattle.plan_excess.specs.Past.{PassesWithImage}

-- ---- the module

-- what the module exceeds by
abbrev pub CausesExcess : Options → Module → ExcessKind → Type 0
CausesExcess o m kind.Input = ⊥
CausesExcess o m (kind.Image memory) = PassesWithImage o.init m memory
CausesExcess o m (kind.Object i) = IsFirstLarge o.collector m (Some (kind.Object i))
CausesExcess o m (kind.Exception tag) = IsFirstLarge o.collector m (Some (kind.Exception tag))
CausesExcess o m kind.Context = IsLargeContext o m × HasSmallObjects o.collector m × HasSmallExceptions o.collector m

-- ---- the bytes

-- the entry of a list that exceeds; none of the input and the context
abbrev pub entry_of : ExcessKind → Option Break
entry_of kind.Input = None
entry_of (kind.Image memory) = Some (record { list = list.Memories; entry = memory })
entry_of (kind.Object i) = Some (record { list = list.Types; entry = i })
entry_of (kind.Exception tag) = Some (record { list = list.Tags; entry = tag })
entry_of kind.Context = None

-- the module has this entry, where there is one
abbrev pub HasEntry : Module → Option Break → Type 0
HasEntry m entry = IfSome entry (λ b. IsListed m b.list b.entry)

-- the entry is at this place; nowhere without an entry
abbrev pub IsPlaced : List ℕ → Module → Option Break → Option EntryPlace → Type 0
IsPlaced bytes m None place = place ≡ None
IsPlaced bytes m (Some entry) place = IsSomeAnd place (IsPlacedAt bytes m entry)

-- the module that the bytes spell keeps the listed rules and exceeds by this, at this place
abbrev pub ExceedsBy : Options → List ℕ → ExcessKind → Option EntryPlace → Type 0
ExceedsBy o bytes kind.Input place = (2 ^ 30 ≤ length bytes) × (place ≡ None)
ExceedsBy o bytes kind place = KeepsAnd bytes (λ m. CausesExcess o m kind × IsPlaced bytes m (entry_of kind) place)

abbrev pub IsExcess : Options → List ℕ → Excess → Type 0
IsExcess o bytes e = ExceedsBy o bytes e.kind e.place
