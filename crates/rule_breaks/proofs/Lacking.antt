-- What the entry lacks that is the first to break a rule.
use Rattle.std.proofs.Common.{◌≡◌, ◌≢◌, ◌<◌, ◌≤◌, ◌+◌, ℕ, List, length, map, take, Option, Some, None, Contains, refl, arith, inl, inr}
use Rattle.std.specs.Prelude.{IfSome, IsSomeAnd, slice_get}
use Rattle.wasm_spec.specs.Module.{Import, TableDef, GlobalDef, Export, Element, Body, Segment}
use Rattle.rule_spec.specs.declared.rules.Rule.{Rule}
use Rattle.rule_spec.specs.declared.rules.Rule.TheVariants.{L1, L2, L3, L4, L5, L6, L7, L8, L9, L10}
use Rattle.rule_spec.specs.Lists.{Lists}
use Rattle.rule_spec.specs.TypeRules.{IsDeclaredWell, NamesFunctionType}
use Rattle.rule_spec.specs.Limits.{HasLimits, IsOrdered}
use Rattle.rule_spec.specs.Indices.{IsInSpace, CanStart}
use Rattle.rule_spec.specs.References.{ImportRefersIn}
use Rattle.rule_spec.specs.Rules.{Satisfies, locals}
use Rattle.form_rules.specs.Globals.{IsGlobalTyped}
use Rattle.rule_breaks.specs.declared.lists.ModuleList.{ModuleList}
use Rattle.rule_breaks.specs.declared.lists.ModuleList.TheVariants as list
use Rattle.rule_breaks.specs.Search.{IsFirstWithout}
use Rattle.rule_breaks.specs.Breaks.{Counts, HasBodies, IsFirstBreak}
use Rattle.rule_breaks.specs.Kept.{TableKeeps, ElementKeeps, SegmentKeeps}
use Rattle.rule_breaks.specs.FaultKept.{FunctionKeeps, BodyFits, GlobalKeeps, IsExportBroken}
use Rattle.rule_breaks.specs.Faults.{At}
use Rattle.rule_breaks.proofs.Searching.{inside, none-lacks}

-- an entry of a list, of which something holds
there : {X : Type 0} (P : X → Type 0) (xs : List X) (n : ℕ) → n < length xs → IfSome (slice_get xs n) P → At xs n P
there {X = X} P xs n lt holds = found (slice_get xs n) refl holds where
  found : (o : Option X) → slice_get xs n ≡ o → IfSome o P → IsSomeAnd o P
  found None is h = absurd (inside xs n lt is)
  found (Some x) is h = h

lacking : {X : Type 0} (P : X → Type 0) (xs : List X) (n : ℕ) → IsFirstWithout P xs n → At xs n (λ x. ¬ P x)
lacking P xs n first = there (λ x. ¬ P x) xs n first.listed first.lacks

-- each entry of a list
always : {X : Type 0} (P : X → Type 0) (xs : List X) (n : ℕ) → n < length xs → ((x : X) → P x) → At xs n P
always {X = X} P xs n lt all = there P xs n lt (some (slice_get xs n)) where
  some : (o : Option X) → IfSome o P
  some None = tt
  some (Some x) = all x

weaker : {X : Type 0} (P Q : X → Type 0) (xs : List X) (n : ℕ) → ((x : X) → P x → Q x) → At xs n P → At xs n Q
weaker {X = X} P Q xs n to at = found (slice_get xs n) at where
  found : (o : Option X) → IsSomeAnd o P → IsSomeAnd o Q
  found None h = h
  found (Some x) h = to x h

module _ (l : Lists) (n : ℕ) where
  pub lacks_function : (r : Rule) → IsFirstBreak r l list.Functions n → At l.functions n (λ (type : ℕ). ¬ FunctionKeeps r l type)
  lacks_function L2 first = lacking (NamesFunctionType l) l.functions n first
  lacks_function L3 first = always (λ (type : ℕ). ¬ HasBodies l) l.functions n first.listed (λ type has. absurd (omega (arith, first.follows, first.listed, has)))
  lacks_function r first = absurd first

  pub lacks_tag : (r : Rule) → IsFirstBreak r l list.Tags n → At l.tags n (λ (type : ℕ). ¬ NamesFunctionType l type)
  lacks_tag L2 first = lacking (NamesFunctionType l) l.tags n first.1
  lacks_tag r first = absurd first

  pub lacks_table_type : (r : Rule) → IsFirstBreak r l list.TableTypes n → At l.table_types n (λ t. ¬ IsOrdered t)
  lacks_table_type L4 first = lacking IsOrdered l.table_types n first
  lacks_table_type r first = absurd first

  pub lacks_memory : (r : Rule) → IsFirstBreak r l list.Memories n → At l.memories n (λ t. ¬ HasLimits t)
  lacks_memory L4 first = lacking HasLimits l.memories n first.1
  lacks_memory r first = absurd first

  pub lacks_import : (r : Rule) → IsFirstBreak r l list.Imports n → At l.imports n (λ (i : Import). ¬ ImportRefersIn (length l.types) i.type)
  lacks_import L10 first = lacking (λ (i : Import). ImportRefersIn (length l.types) i.type) l.imports n first
  lacks_import r first = absurd first

  pub lacks_table : (r : Rule) → IsFirstBreak r l list.Tables n → At l.tables n (λ t. ¬ TableKeeps r l t)
  lacks_table L5 first = lacking (TableKeeps L5 l) l.tables n first
  lacks_table L6 first = lacking (TableKeeps L6 l) l.tables n first
  lacks_table L10 first = lacking (TableKeeps L10 l) l.tables n first.1
  lacks_table r first = absurd first

  pub lacks_global : (r : Rule) → IsFirstBreak r l list.Globals n → At l.globals n (λ g. ¬ GlobalKeeps r l (l.imported_globals + n) g)
  lacks_global L6 first = there (λ (g : GlobalDef). ¬ IsGlobalTyped l (l.imported_globals + n) g) l.globals n first.1.listed first.1.lacks
  lacks_global L10 first = lacking (λ g. GlobalKeeps L10 l (l.imported_globals + n) g) l.globals n first.2
  lacks_global r first = absurd first

  pub lacks_export : (r : Rule) → IsFirstBreak r l list.Exports n → At l.exports n (IsExportBroken l n)
  lacks_export L7 first = elim first [
    | inl outside ↦ weaker (λ e. ¬ IsInSpace l e) (IsExportBroken l n) l.exports n (λ e out. inl out) (lacking (IsInSpace l) l.exports n outside)
    | inr repeated ↦ weaker (λ (e : Export). Contains (map (λ (earlier : Export). earlier.name) (take n l.exports)) e.name) (IsExportBroken l n) l.exports n
        (λ e has. inr has)
        (there (λ (e : Export). Contains (map (λ (earlier : Export). earlier.name) (take n l.exports)) e.name) l.exports n repeated.1.listed repeated.1.repeats)
  ]
  lacks_export r first = absurd first

  pub lacks_start : (r : Rule) → IsFirstBreak r l list.Starts n → At l.starts n (λ start. ¬ CanStart l start)
  lacks_start L8 first = lacking (CanStart l) l.starts n first
  lacks_start r first = absurd first

  pub lacks_element : (r : Rule) → IsFirstBreak r l list.Elements n → At l.elements n (λ e. ¬ ElementKeeps r l e)
  lacks_element L6 first = lacking (ElementKeeps L6 l) l.elements n first.2
  lacks_element L9 first = lacking (ElementKeeps L9 l) l.elements n first
  lacks_element L10 first = lacking (ElementKeeps L10 l) l.elements n first.3
  lacks_element r first = absurd first

  pub lacks_data_count : (r : Rule) → IsFirstBreak r l list.DataCounts n → At l.data_counts n (λ (stated : ℕ). ¬ Counts l stated)
  lacks_data_count L3 first = lacking (Counts l) l.data_counts n first.1
  lacks_data_count r first = absurd first

  pub lacks_body : (r : Rule) → IsFirstBreak r l list.Bodies n → At l.bodies n (λ b. ¬ BodyFits r l b)
  lacks_body L3 first = elim first [
    | inl unused ↦ always (λ (b : Body). ¬ BodyFits L3 l b) l.bodies n unused.listed (λ b fits. absurd (omega (arith, unused.follows, unused.listed, fits.0)))
    | inr many ↦ weaker (λ (b : Body). ¬ (locals b ≤ 4294967295)) (λ b. ¬ BodyFits L3 l b) l.bodies n (λ b lacks fits. lacks fits.1)
        (lacking (λ (b : Body). locals b ≤ 4294967295) l.bodies n many.2)
  ]
  lacks_body L10 first = lacking (BodyFits L10 l) l.bodies n first.4
  lacks_body r first = absurd first

  pub lacks_segment : (r : Rule) → IsFirstBreak r l list.Segments n → At l.segments n (λ s. ¬ SegmentKeeps r l s)
  lacks_segment L6 first = lacking (SegmentKeeps L6 l) l.segments n first.3
  lacks_segment L9 first = lacking (SegmentKeeps L9 l) l.segments n first.1
  lacks_segment L10 first = lacking (SegmentKeeps L10 l) l.segments n first.5
  lacks_segment r first = absurd first

  pub lacks_type : IsFirstBreak L1 l list.Types n → At l.types n (λ d. ¬ IsDeclaredWell l d)
  lacks_type first = lacking (IsDeclaredWell l) l.types n first

  -- no other list is one of the first rule
  pub only_types : (ls : ModuleList) → ls ≢ list.Types → IsFirstBreak L1 l ls n → ⊥
  only_types list.Types others first = absurd (others refl)
  only_types ls others first = first

  -- types break no other rule than the first
  pub no_type_broken : (r : Rule) → Satisfies L1 l → IsFirstBreak r l list.Types n → ⊥
  no_type_broken L1 kept first = none-lacks (IsDeclaredWell l) l.types n first kept
  no_type_broken r kept first = first

-- ---- rules that speak of an entry

pub table_unruled : (r : Rule) (l : Lists) (t : TableDef) → r ≢ L5 → r ≢ L6 → r ≢ L10 → ¬ TableKeeps r l t → ⊥
table_unruled L5 l t a b c lacks = absurd (a refl)
table_unruled L6 l t a b c lacks = absurd (b refl)
table_unruled L10 l t a b c lacks = absurd (c refl)
table_unruled r l t a b c lacks = lacks tt

pub function_unruled : (r : Rule) (l : Lists) (type : ℕ) → r ≢ L2 → r ≢ L3 → ¬ FunctionKeeps r l type → ⊥
function_unruled L2 l t a b lacks = absurd (a refl)
function_unruled L3 l t a b lacks = absurd (b refl)
function_unruled r l t a b lacks = lacks tt

pub global_unruled : (r : Rule) (l : Lists) (index : ℕ) (g : GlobalDef) → r ≢ L6 → r ≢ L10 → ¬ GlobalKeeps r l index g → ⊥
global_unruled L6 l index g a b lacks = absurd (a refl)
global_unruled L10 l index g a b lacks = absurd (b refl)
global_unruled r l index g a b lacks = lacks tt

pub body_unruled : (r : Rule) (l : Lists) (b : Body) → r ≢ L3 → r ≢ L10 → ¬ BodyFits r l b → ⊥
body_unruled L3 l b x y lacks = absurd (x refl)
body_unruled L10 l b x y lacks = absurd (y refl)
body_unruled r l b x y lacks = lacks tt

pub element_unruled : (r : Rule) (l : Lists) (e : Element) → r ≢ L6 → r ≢ L9 → r ≢ L10 → ¬ ElementKeeps r l e → ⊥
element_unruled L6 l e a b c lacks = absurd (a refl)
element_unruled L9 l e a b c lacks = absurd (b refl)
element_unruled L10 l e a b c lacks = absurd (c refl)
element_unruled r l e a b c lacks = lacks tt

pub segment_unruled : (r : Rule) (l : Lists) (s : Segment) → r ≢ L6 → r ≢ L9 → r ≢ L10 → ¬ SegmentKeeps r l s → ⊥
segment_unruled L6 l s a b c lacks = absurd (a refl)
segment_unruled L9 l s a b c lacks = absurd (b refl)
segment_unruled L10 l s a b c lacks = absurd (c refl)
segment_unruled r l s a b c lacks = lacks tt
