-- The way back from data, mapped types with their codes, and which keys are equal.
use Rattle.std.proofs.Common.{[], arith}
use Rattle.std.proofs.Common.{◌≡◌, ◌↔◌, ℕ, true, ◌&&◌, List, ◌∷◌, map, refl, sym, ap, ◌∙◌}
use Rattle.std.specs.Cmp.Lexicographic.{pointwise}
use Rattle.std.proofs.lemmas.Bool.Decides.{same_from_decides}
use Rattle.wasm_spec.specs.TypeData as types
use Rattle.wasm_spec.specs.TypeData.{map_value, map_function}
use Rattle.type_spec.specs.Shapes.{erased}
use Rattle.type_spec.specs.Names.{Named, named}
use Rattle.type_spec.specs.Same.{same_value, same_function}
use Rattle.type_spec.specs.Tests.{function-decides}
use Rattle.type_spec.specs.Interned.{Called, passed, mapped, decide_mapped, same_mapped}
use Rattle.wasm_types.specs.declared.value.WasmValType.{WasmValType}
use Rattle.wasm_types.specs.declared.func.WasmFuncType.{WasmFuncType}
use Rattle.wasm_types.specs.contracts.value.WasmValTypePartialEq.TheImpl as values
use Rattle.wasm_types.specs.contracts.equal.WasmFuncTypePartialEq.TheImpl as func
use Rattle.wasm_types.specs.contracts.equal.WasmFuncTypeEq.TheImpl.Laws as func_equal
use Rattle.wasm_types.proofs.Sound.{decides, function-sound}
use Rattle.wasm_types.specs.Trampolines.{trampoline_val, trampoline_of}
use Rattle.wasm_types.specs.ValueViews.{value_of}
use Rattle.module_types.specs.Views.{plain_value, interned_number, called_of, value_at, function_at}
use Rattle.std.specs.List.{fold}
use Rattle.std.specs.Hash.FoldHasher as folding
use Rattle.std.specs.declared.hash.FoldHasher.{FoldHasher}
use Rattle.module_types.specs.Passed.{code_of, words_of, fed_with}

-- ---- the way back

values-back : (vs : List (types.ValueType (Named ℕ))) → map (map_value (named interned_number)) (map value_of (map value_at vs)) ≡ vs
values-back [] = refl
values-back (v ∷ vs) = grind (arith, (values-back vs))

pub function-back : (f : Called) → called_of (function_at f) ≡ f
function-back f = λ i. record { params = values-back f.params i; results = values-back f.results i }

-- ---- mapped types

passed-all : (vs : List WasmValType) → map trampoline_val vs ≡ map value_at (map passed (map (map_value (named interned_number)) (map value_of vs)))
passed-all [] = refl
passed-all (v ∷ vs) = grind (arith, (passed-all vs))

pub mapped-is : (f : WasmFuncType) → trampoline_of f ≡ function_at (mapped (called_of f))
mapped-is f = λ i. record { params = passed-all f.params i; results = passed-all f.results i }

pub called-mapped : (f : WasmFuncType) → called_of (trampoline_of f) ≡ mapped (called_of f)
called-mapped f = ap called_of (mapped-is f) ∙ function-back (mapped (called_of f))

-- ---- equality of keys

value-is : (v : types.ValueType (Named ℕ)) (b : WasmValType)
    → values.ghosts.eq (value_at (passed v)) b ≡ same_value (map_value erased (passed v)) (map_value erased (plain_value b))
value-is v b = grind arith

values-are : (vs : List (types.ValueType (Named ℕ))) (ws : List WasmValType)
    → pointwise values.ghosts.eq (map value_at (map passed vs)) ws
    ≡ pointwise same_value (map (map_value erased) (map passed vs)) (map (map_value erased) (map (map_value (named interned_number)) (map value_of ws)))
values-are [] [] = refl
values-are [] (w ∷ ws) = refl
values-are (v ∷ vs) [] = refl
values-are (v ∷ vs) (w ∷ ws) = λ i. value-is v w i && values-are vs ws i

pub equal : (f g : WasmFuncType) → (func.ghosts.eq f g ≡ true) ↔ (f ≡ g)
equal f g = decides func.ghosts.eq function-sound func_equal.laws-law.refl f g

-- the decision answers what the test answers
mapped-tested : (f g : Called) → same_mapped f g ≡ same_function (map_function erased f) (map_function erased g)
mapped-tested f g = same_from_decides (same_mapped f g) _ (decide_mapped f g).1 (function-decides (map_function erased f) (map_function erased g))

key-tested : (f q : WasmFuncType)
    → func.ghosts.eq (trampoline_of f) q ≡ same_function (map_function erased (mapped (called_of f))) (map_function erased (called_of q))
key-tested f q = grind (arith, mapped-is, values-are)

-- a mapped type is equal to another type exactly where the definition's decision says so
pub key-is : (f q : WasmFuncType) → func.ghosts.eq (trampoline_of f) q ≡ same_mapped (mapped (called_of f)) (called_of q)
key-is f q = key-tested f q ∙ sym (mapped-tested (mapped (called_of f)) (called_of q))

-- ---- mapped again and compared

all-twice : (vs : List (types.ValueType (Named ℕ))) → map passed (map passed vs) ≡ map passed vs
all-twice [] = refl
all-twice (v ∷ vs) = grind (arith, (all-twice vs))

pub mapped-twice : (f : Called) → mapped (mapped f) ≡ mapped f
mapped-twice f = λ i. record { params = all-twice f.params i; results = all-twice f.results i }

-- the test distinguishes mapped types
module _ (f g : Called) where
  tie : func.ghosts.eq (trampoline_of (function_at f)) (function_at g) ≡ same_mapped (mapped f) g
  tie = key-is (function_at f) (function_at g) ∙ (λ i. same_mapped (mapped (function-back f i)) (function-back g i))

  pub same-mapped : same_mapped (mapped f) g ≡ true → mapped f ≡ g
  same-mapped e = grind (arith, equal (trampoline_of (function_at f)) (function_at g), tie, called-mapped (function_at f), function-back f, function-back g)

  pub mapped-same : mapped f ≡ g → same_mapped (mapped f) g ≡ true
  mapped-same e = grind (arith, tie, equal (trampoline_of (function_at f)) (function_at g), mapped-is (function_at f), function-back f)

-- a mapped type is its own mapped type
pub trampoline-twice : (f : WasmFuncType) → trampoline_of (trampoline_of f) ≡ trampoline_of f
trampoline-twice f = grind (arith, mapped-is (trampoline_of f), called-mapped f, mapped-twice (called_of f), mapped-is f)

-- ---- a mapped type has the codes of the type

pub same-codes : (vs : List WasmValType) → map code_of (map trampoline_val vs) ≡ map code_of vs
same-codes [] = refl
same-codes (v ∷ vs) = grind (arith, (same-codes vs))

pub same-feed : (h : FoldHasher) (vs : List WasmValType) → fed_with h (map trampoline_val vs) ≡ fed_with h vs
same-feed h vs = ap (λ cs. fold folding.write h (words_of 1 cs)) (same-codes vs)
