-- The indices of a range one by one, and the first type that passes a test.
use Rattle.std.proofs.Common.{◌≡◌, ◌≤◌, ◌<◌, ℕ, ◌+◌, ◌-◌, [], ◌∷◌, map, arith, Bool, List, drop, Some}
use Rattle.std.specs.List.{range_with_len}
use Rattle.std.proofs.lemmas.List.{drop_more}
use Rattle.std.proofs.lemmas.Option.{slice_get_within, get_or_from_slice_get}
use Rattle.wasm_index.specs.Index.{index_of}
use Rattle.module_types.specs.Views.{TypeIndex}
use Rattle.std.specs.Prelude.{slice_get, if◌then◌else◌}
use Rattle.wasm_types.specs.declared.composite.WasmCompositeInnerType.{WasmCompositeInnerType}
use Rattle.wasm_types.specs.declared.sub.WasmSubType.{WasmSubType}
use Rattle.module_types.specs.TypeParts.{first_from}

pub elements-first : (next end : ℕ) → next < end
    → map {B = TypeIndex} index_of (range_with_len next (end - next)) ≡ index_of next ∷ map index_of (range_with_len (next + 1) (end - (next + 1)))
elements-first next end h = grind arith

pub elements-end : (next end : ℕ) → end ≤ next → map {B = TypeIndex} index_of (range_with_len next (end - next)) ≡ []
elements-end next end h = grind arith

pub ruleset in_turn = (elements-first, elements-end)

-- ---- the first type that passes a test

pub first-step : (test : WasmCompositeInnerType → Bool) (ts : List WasmSubType) (i : ℕ) (t : WasmSubType) → slice_get ts i ≡ Some t
    → (b : Bool) → test t.composite_type.inner ≡ b
    → first_from test i (drop i ts) ≡ (if b then Some (index_of i) else first_from test (i + 1) (drop (i + 1) ts))
first-step test ts i t e b tested = grind (arith, drop_more ts i t (slice_get_within ts i t e), slice_get_within ts i t e, get_or_from_slice_get ts i t t e)
