-- Names that are added in turn: each declared type is named at its index.
use Rattle.std.proofs.Common.{◌≡◌, ◌<◌, ℕ, zero, suc, Some, List, [], ◌∷◌, ◌++◌, length, ap, arith}
use Rattle.wasm_spec.specs.TypeData.{Concrete}
use Rattle.wasm_types.specs.declared.heap.WasmHeapType.{WasmHeapType}
use Rattle.wasm_types.specs.ValueViews.{Name, heap_of}
use Rattle.interned_types.specs.Named.{named_by, name_at}

-- each is named so
abbrev pub AreNamed : List WasmHeapType → (ℕ → Name) → Type 0
AreNamed names name = (i : ℕ) → i < length names → name_at names i ≡ Some (name i)

pub named-more : (names : List WasmHeapType) (h : WasmHeapType) (name : ℕ → Name) → AreNamed names name → heap_of h ≡ Concrete (name (length names))
    → AreNamed (names ++ h ∷ []) name
named-more [] h name each is zero lt = ap named_by is
named-more [] h name each is (suc i) lt = absurd (omega (arith, lt))
named-more (n ∷ names) h name each is zero lt = each 0 (omega arith)
named-more (n ∷ names) h name each is (suc i) lt =
    named-more names h (λ k. name (suc k)) (λ k below. each (suc k) (omega (arith, below))) is i (omega (arith, lt))
