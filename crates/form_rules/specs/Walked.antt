-- What the rules require of globals and of segments, where one walk checks all entries of a kind.
use Rattle.std.specs.Prelude.{◌≡◌, ◌↔◌, ◌+◌, ℕ, length, All, IsTrue}
use Rattle.wasm_spec.specs.Module.{Element, GlobalDef, Segment}
use Rattle.rule_spec.specs.Lists.{Lists}
use Rattle.rule_spec.specs.Rules.{AreDistinct}
use Rattle.rule_spec.specs.Expressions.{AreGlobalsTyped, HasMemoryOffset, IsElementTyped}
use Rattle.rule_spec.specs.Indices.{IsElementInRange, NamesMemory}
use Rattle.rule_spec.specs.References.{DataKindRefersIn, ElementRefersIn, GlobalRefersIn}
use Rattle.form_rules.specs.Globals.{IsGlobalTyped}
use Rattle.form_rules.specs.declared.elements.ElementsKeep.{ElementsKeep}
use Rattle.form_rules.specs.declared.globals.GlobalsKeep.{GlobalsKeep}
use Rattle.form_rules.specs.declared.segments.SegmentsKeep.{SegmentsKeep}
use Rattle.form_rules.specs.declared.rules.Findings.{Findings}

-- for each rule it is known whether all globals keep it
pub record AreGlobalsWalked (l : Lists) (kept : GlobalsKeep) : Type 0 where
  pub typed : IsTrue kept.typed ↔ AreGlobalsTyped l l.imported_globals l.globals
  pub refer : IsTrue kept.refer ↔ All (GlobalRefersIn (length l.types)) l.globals

-- one global more was checked, which has this index
pub record IsGlobalAdded (l : Lists) (index : ℕ) (before : GlobalsKeep) (g : GlobalDef) (kept : GlobalsKeep) : Type 0 where
  pub typed : IsTrue kept.typed ↔ (IsTrue before.typed × IsGlobalTyped l index g)
  pub refer : IsTrue kept.refer ↔ (IsTrue before.refer × GlobalRefersIn (length l.types) g)

-- for each rule it is known whether all element segments keep it
pub record AreElementsWalked (l : Lists) (kept : ElementsKeep) : Type 0 where
  pub typed : IsTrue kept.typed ↔ All (IsElementTyped l) l.elements
  pub in_range : IsTrue kept.in_range ↔ All (IsElementInRange l) l.elements
  pub refer : IsTrue kept.refer ↔ All (ElementRefersIn (length l.types)) l.elements

-- one segment more was checked
pub record IsElementAdded (l : Lists) (before : ElementsKeep) (e : Element) (kept : ElementsKeep) : Type 0 where
  pub typed : IsTrue kept.typed ↔ (IsTrue before.typed × IsElementTyped l e)
  pub in_range : IsTrue kept.in_range ↔ (IsTrue before.in_range × IsElementInRange l e)
  pub refer : IsTrue kept.refer ↔ (IsTrue before.refer × ElementRefersIn (length l.types) e)

-- for data segments their number is known, and for each rule whether all of them keep it
pub record AreSegmentsWalked (l : Lists) (kept : SegmentsKeep) : Type 0 where
  pub count : kept.count ≡ length l.segments
  pub typed : IsTrue kept.typed ↔ All (λ (s : Segment). HasMemoryOffset l s.kind) l.segments
  pub in_range : IsTrue kept.in_range ↔ All (λ (s : Segment). NamesMemory l s.kind) l.segments
  pub refer : IsTrue kept.refer ↔ All (λ (s : Segment). DataKindRefersIn (length l.types) s.kind) l.segments

-- one segment more was checked
pub record IsSegmentAdded (l : Lists) (before : SegmentsKeep) (s : Segment) (kept : SegmentsKeep) : Type 0 where
  pub count : kept.count ≡ before.count + 1
  pub typed : IsTrue kept.typed ↔ (IsTrue before.typed × HasMemoryOffset l s.kind)
  pub in_range : IsTrue kept.in_range ↔ (IsTrue before.in_range × NamesMemory l s.kind)
  pub refer : IsTrue kept.refer ↔ (IsTrue before.refer × DataKindRefersIn (length l.types) s.kind)

-- what was checked of all entries of a kind, before the rules are checked
pub record AreFindings (l : Lists) (findings : Findings) : Type 0 where
  pub globals : AreGlobalsWalked l findings.globals
  pub elements : AreElementsWalked l findings.elements
  pub segments : AreSegmentsWalked l findings.segments
  pub distinct : IsTrue findings.distinct ↔ AreDistinct l.exports
