-- What the types are where all rules hold.
use Rattle.std.proofs.Common.{◌≡◌, ◌↔◌, ◌∙◌, ℕ, true, false, List, [], ◌∷◌, Option, None, refl, sym, ap, eq-eqb, arith}
use Rattle.std.specs.List.{AllByRecursion}
use Rattle.std.proofs.lemmas.Bool.{eqb-true, leb-true, le-leb}
use Rattle.std.proofs.lemmas.Option.{none-some, same_Some}
use Rattle.wasm_types.specs.declared.entity.EntityType.{EntityType}
use Rattle.wasm_types.specs.declared.index.EngineOrModuleTypeIndex.{EngineOrModuleTypeIndex}
use Rattle.wasm_types.specs.declared.limits.IndexType.{IndexType}
use Rattle.wasm_types.specs.declared.value.WasmRefType.{WasmRefType}
use Rattle.wasm_types.specs.declared.value.WasmValType.{WasmValType}
use Rattle.wasm_types.specs.declared.value.WasmValType.TheVariants.{Ref}
use Rattle.wasm_types.specs.declared.table.Table.{Table}
use Rattle.wasm_types.specs.declared.memory.Memory.{Memory}
use Rattle.wasm_types.specs.declared.global.Global.{Global}
use Rattle.wasm_types.specs.declared.tag.Tag.{Tag}
use Rattle.wasm_types.specs.contracts.index.EngineOrModuleTypeIndexPartialEq.TheImpl as indices
use Rattle.wasm_types.specs.contracts.index.EngineOrModuleTypeIndexEq.TheImpl.Laws as indices_equal
use Rattle.wasm_types.specs.contracts.limits.IndexTypePartialEq.TheImpl as index_types
use Rattle.wasm_types.specs.contracts.limits.IndexTypeEq.TheImpl.Laws as index_types_equal
use Rattle.wasm_types.specs.contracts.value.WasmRefTypePartialEq.TheImpl as references
use Rattle.wasm_types.specs.contracts.value.WasmRefTypeEq.TheImpl.Laws as references_equal
use Rattle.wasm_types.specs.contracts.value.WasmValTypePartialEq.TheImpl as values
use Rattle.wasm_types.specs.contracts.value.WasmValTypeEq.TheImpl.Laws as values_equal
use Rattle.wasm_types.specs.Views.{ref_in}
use Rattle.wasm_types.proofs.Sound.{Sound, decides, index-sound, value-sound}
use Rattle.import_match.specs.declared.error.Mismatch.TheVariants as rule
use Rattle.import_match.specs.Rules.{Rule, is_within, first_broken, function_rules, table_rules, memory_rules, global_rules, tag_rules, mismatch}
use Rattle.import_match.specs.Matching.{IsWithin, TableMatches, MemoryMatches, GlobalMatches, Matches}

-- ---- rules one after another

-- each rule holds
abbrev AllHold : List Rule → Type 0
AllHold rs = AllByRecursion (λ (r : Rule). r.0 ≡ true) rs

holds : (rs : List Rule) → first_broken rs ≡ None → AllHold rs
holds [] e = tt
holds (r ∷ rs) e = grind (arith, none-some, (holds rs))

unbroken : (rs : List Rule) → AllHold rs → first_broken rs ≡ None
unbroken [] all = refl
unbroken (r ∷ rs) all = ap (λ c. first_broken ((c, r.1) ∷ rs)) all.0 ∙ unbroken rs all.1

-- ---- tests that hold of equal values alone

reference-sound : Sound references.ghosts.eq
reference-sound a b same = same_Some a b (ap ref_in (value-sound (Ref a) (Ref b) same))

index_type-sound : Sound index_types.ghosts.eq
index_type-sound h1 h2 same = grind arith

same-index : (a b : EngineOrModuleTypeIndex) → (indices.ghosts.eq a b ≡ true) ↔ (a ≡ b)
same-index = decides indices.ghosts.eq index-sound indices_equal.laws-law.refl

same-index_type : (a b : IndexType) → (index_types.ghosts.eq a b ≡ true) ↔ (a ≡ b)
same-index_type = decides index_types.ghosts.eq index_type-sound index_types_equal.laws-law.refl

same-reference : (a b : WasmRefType) → (references.ghosts.eq a b ≡ true) ↔ (a ≡ b)
same-reference = decides references.ghosts.eq reference-sound references_equal.laws-law.refl

same-value : (a b : WasmValType) → (values.ghosts.eq a b ≡ true) ↔ (a ≡ b)
same-value = decides values.ghosts.eq value-sound values_equal.laws-law.refl

within : (have want : Option ℕ) → (is_within have want ≡ true) ↔ IsWithin have want
within have want = grind (arith, leb-true, le-leb)

-- ---- kinds

function : (a b : EngineOrModuleTypeIndex) → (first_broken (function_rules a b) ≡ None) ↔ (a ≡ b)
function a b = (λ e. (same-index a b).0 (holds (function_rules a b) e).0, λ h. unbroken (function_rules a b) ((same-index a b).1 h, tt))

tag : (a b : Tag) → (first_broken (tag_rules a b) ≡ None) ↔ (a.signature ≡ b.signature)
tag a b = grind (arith, same-index, holds, unbroken)

table-holds : (a b : Table) → first_broken (table_rules a b) ≡ None → TableMatches a b
table-holds a b e = grind (arith, leb-true, holds (table_rules a b) e, same-reference a.ref_type b.ref_type, same-index_type a.idx_type b.idx_type, within a.limits.max b.limits.max)

table-matches : (a b : Table) → TableMatches a b → first_broken (table_rules a b) ≡ None
table-matches a b m = grind (arith, unbroken, same-reference, same-index_type, le-leb, within)

memory-holds : (a b : Memory) → first_broken (memory_rules a b) ≡ None → MemoryMatches a b
memory-holds a b e = grind (arith, holds, same-index_type, eqb-true, leb-true, within)

memory-matches : (a b : Memory) → MemoryMatches a b → first_broken (memory_rules a b) ≡ None
memory-matches a b m = grind (arith, unbroken, same-index_type, eq-eqb, le-leb, within)

global-holds : (a b : Global) → first_broken (global_rules a b) ≡ None → GlobalMatches a b
global-holds a b e = grind (arith, holds (global_rules a b) e, same-value a.wasm_ty b.wasm_ty)

global-matches : (a b : Global) → GlobalMatches a b → first_broken (global_rules a b) ≡ None
global-matches a b m = grind (arith, unbroken, same-value)

other : (first_broken ((false, rule.Kind) ∷ []) ≡ None) ↔ ⊥
other = (λ e. none-some rule.Kind (sym e), λ h. absurd h)

pub matching : (have want : EntityType) → (mismatch have want ≡ None) ↔ Matches have want
matching have want = grind (arith, function, table-holds, table-matches, memory-holds, memory-matches, global-holds, global-matches, tag, other)
