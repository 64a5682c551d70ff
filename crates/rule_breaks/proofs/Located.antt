-- A rule of which an entry is the first break is broken.
use Rattle.std.proofs.Common.{◌≡◌, ◌↔◌, ◌<◌, ◌≤◌, ℕ, length, Option, Some, None, Result, Ok, Err, refl, arith, inl, inr}
use Rattle.std.specs.Prelude.{IfSome, IfOk}
use Rattle.wasm_spec.specs.Module.{Import, Segment, Body}
use Rattle.rule_spec.specs.declared.rules.Rule.{Rule}
use Rattle.rule_spec.specs.declared.rules.Rule.TheVariants.{L1, L2, L3, L4, L5, L6, L7, L8, L9, L10}
use Rattle.rule_spec.specs.Lists.{Lists}
use Rattle.rule_spec.specs.TypeRules.{IsDeclaredWell, NamesFunctionType}
use Rattle.rule_spec.specs.Limits.{HasLimits, IsOrdered}
use Rattle.rule_spec.specs.Indices.{IsInSpace, CanStart, NamesMemory, IsElementInRange}
use Rattle.rule_spec.specs.References.{ImportRefersIn, TableRefersIn, GlobalRefersIn, ElementRefersIn, BodyRefersIn, DataKindRefersIn}
use Rattle.rule_spec.specs.Expressions.{HasTypedInitialiser, IsElementTyped, HasMemoryOffset}
use Rattle.rule_spec.specs.Rules.{IsInitialised, Satisfies, locals, number_of}
use Rattle.rule_breaks.specs.declared.lists.ModuleList.{ModuleList}
use Rattle.rule_breaks.specs.declared.lists.ModuleList.TheVariants as list
use Rattle.rule_breaks.specs.declared.lists.Break.{Break}
use Rattle.rule_breaks.specs.Breaks.{Counts, HasBodies, IsFirstBodiless, IsFirstUnused, IsFirstBreak, Locates}
use Rattle.rule_breaks.proofs.Searching.{none-lacks}
use Rattle.rule_breaks.proofs.UntypedGlobals.{none-untyped}
use Rattle.rule_breaks.proofs.RepeatedNames.{none-repeated}

bodiless : (l : Lists) (n : ℕ) → IsFirstBodiless l n → HasBodies l → ⊥
bodiless l n first has = absurd (omega (arith, first.follows, first.listed, has))

unused : (l : Lists) (n : ℕ) → IsFirstUnused l n → HasBodies l → ⊥
unused l n first has = absurd (omega (arith, first.follows, first.listed, has))

pub broken : (r : Rule) (l : Lists) (ls : ModuleList) (n : ℕ) → IsFirstBreak r l ls n → Satisfies r l → ⊥
broken L1 l list.Types n first kept = none-lacks (IsDeclaredWell l) l.types n first kept
broken L2 l list.Functions n first kept = none-lacks (NamesFunctionType l) l.functions n first kept.functions
broken L2 l list.Tags n first kept = none-lacks (NamesFunctionType l) l.tags n first.1 kept.tags
broken L3 l list.Functions n first kept = bodiless l n first kept.bodies
broken L3 l list.DataCounts n first kept = none-lacks (Counts l) l.data_counts n first.1 kept.data_segments
broken L3 l list.Bodies n first kept = elim first [
  | inl unmatched ↦ unused l n unmatched kept.bodies
  | inr many ↦ none-lacks (λ (b : Body). locals b ≤ 4294967295) l.bodies n many.2 kept.locals
]
broken L4 l list.TableTypes n first kept = none-lacks IsOrdered l.table_types n first kept.tables
broken L4 l list.Memories n first kept = none-lacks HasLimits l.memories n first.1 kept.memories
broken L5 l list.Tables n first kept = none-lacks IsInitialised l.tables n first kept
broken L6 l list.Tables n first kept = none-lacks (HasTypedInitialiser l) l.tables n first kept.tables
broken L6 l list.Globals n first kept = none-untyped l n first.1 kept.globals
broken L6 l list.Elements n first kept = none-lacks (IsElementTyped l) l.elements n first.2 kept.elements
broken L6 l list.Segments n first kept = none-lacks (λ (s : Segment). HasMemoryOffset l s.kind) l.segments n first.3 kept.segments
broken L7 l list.Exports n first kept = elim first [
  | inl outside ↦ none-lacks (IsInSpace l) l.exports n outside kept.in_space
  | inr repeated ↦ none-repeated l.exports n repeated.1 kept.distinct
]
broken L8 l list.Starts n first kept = none-lacks (CanStart l) l.starts n first kept
broken L9 l list.Elements n first kept = none-lacks (IsElementInRange l) l.elements n first kept.elements
broken L9 l list.Segments n first kept = none-lacks (λ (s : Segment). NamesMemory l s.kind) l.segments n first.1 kept.segments
broken L10 l list.Imports n first kept = none-lacks (λ (i : Import). ImportRefersIn (length l.types) i.type) l.imports n first kept.imports
broken L10 l list.Tables n first kept = none-lacks (TableRefersIn (length l.types)) l.tables n first.1 kept.tables
broken L10 l list.Globals n first kept = none-lacks (GlobalRefersIn (length l.types)) l.globals n first.2 kept.globals
broken L10 l list.Elements n first kept = none-lacks (ElementRefersIn (length l.types)) l.elements n first.3 kept.elements
broken L10 l list.Bodies n first kept = none-lacks (BodyRefersIn (length l.types)) l.bodies n first.4 kept.bodies
broken L10 l list.Segments n first kept = none-lacks (λ (s : Segment). DataKindRefersIn (length l.types) s.kind) l.segments n first.5 kept.segments
broken r l ls n first kept = absurd first

located-none : (r : Rule) (l : Lists) (b : Option Break) → Locates r l b → (b ≡ None) ↔ Satisfies r l
located-none r l None kept = (λ is. kept, λ satisfied. refl)
located-none r l (Some b) first = (λ is. absurd cc, λ satisfied. absurd (broken r l b.list b.entry first satisfied))

located-first : (r : Rule) (l : Lists) (b : Option Break) → Locates r l b → IfSome b (λ (x : Break). IsFirstBreak r l x.list x.entry)
located-first r l None kept = tt
located-first r l (Some b) first = first

pub none_where_kept : {E : Type 0} (r : Rule) (l : Lists) (result : Result (Option Break) E) → IfOk result (Locates r l)
    → IfOk result (λ (b : Option Break). (b ≡ None) ↔ Satisfies r l)
none_where_kept r l (Ok b) located = located-none r l b located
none_where_kept r l (Err e) located = tt

pub first_where_broken : {E : Type 0} (r : Rule) (l : Lists) (result : Result (Option Break) E) → IfOk result (Locates r l)
    → IfOk result (λ (b : Option Break). IfSome b (λ (x : Break). IsFirstBreak r l x.list x.entry))
first_where_broken r l (Ok b) located = located-first r l b located
first_where_broken r l (Err e) located = tt

-- each rule but the first has a higher number
pub later : (r : Rule) → (r ≡ L1 → ⊥) → 1 < number_of r
later L1 other = absurd (other refl)
later L2 other = omega arith
later L3 other = omega arith
later L4 other = omega arith
later L5 other = omega arith
later L6 other = omega arith
later L7 other = omega arith
later L8 other = omega arith
later L9 other = omega arith
later L10 other = omega arith
