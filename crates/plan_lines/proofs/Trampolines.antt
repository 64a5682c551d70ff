-- The types of a list, each with its trampoline, taken from those that remain.
use Rattle.std.proofs.Common.{◌≡◌, ℕ, ◌+◌, ◌<◌, List, [], ◌∷◌, ◌++◌, Option, Some, None, refl, ap, arith}
use Rattle.entity_map.specs.Keyed.{keyed_from}
use Rattle.wasm_index.specs.Index.{number_of, index_of}
use Rattle.wasm_types.specs.declared.sub.WasmSubType.{WasmSubType}
use Rattle.module_types.specs.TypeList.{called_from}
use Rattle.module_types.specs.Views.{TypeIndex}
use Rattle.plan_lines.specs.TypeLines.{type_line}
use Rattle.plan_lines.specs.TypeListLines.{type_lines_from, taken_at, left_after}

-- each type with the trampoline that is taken for it
abbrev pub lines_taking : List (TypeIndex × WasmSubType) → List (TypeIndex × TypeIndex) → List ℕ
lines_taking [] left = []
lines_taking (p ∷ ps) left = type_line p.0 p.1 (taken_at (number_of p.0) left) ++ lines_taking ps (left_after (number_of p.0) left)

-- none is taken before its index
taken_later : (n m : ℕ) (ks : List (Option TypeIndex)) → n < m → taken_at n (called_from m ks) ≡ None
taken_later n m [] lt = refl
taken_later n m (None ∷ ks) lt = taken_later n (m + 1) ks (omega arith)
taken_later n m (Some k ∷ ks) lt = grind arith

left_later : (n m : ℕ) (ks : List (Option TypeIndex)) → n < m → left_after n (called_from m ks) ≡ called_from m ks
left_later n m [] lt = refl
left_later n m (None ∷ ks) lt = left_later n (m + 1) ks (omega arith)
left_later n m (Some k ∷ ks) lt = grind arith

-- at its index it is
taken_here : (n : ℕ) (k : Option TypeIndex) (ks : List (Option TypeIndex)) → taken_at n (called_from n (k ∷ ks)) ≡ k
taken_here n None ks = taken_later n (n + 1) ks (omega arith)
taken_here n (Some k) ks = grind arith

left_here : (n : ℕ) (k : Option TypeIndex) (ks : List (Option TypeIndex)) → left_after n (called_from n (k ∷ ks)) ≡ called_from (n + 1) ks
left_here n None ks = left_later n (n + 1) ks (omega arith)
left_here n (Some k) ks = grind arith

-- so each type gets the trampoline at its index
pub lines_taken : (n : ℕ) (ts : List WasmSubType) (ks : List (Option TypeIndex))
    → lines_taking (keyed_from index_of n ts) (called_from n ks) ≡ type_lines_from n ts ks
lines_taken n [] ks = refl
lines_taken n (t ∷ ts) [] = ap (λ others. type_line (index_of n) t None ++ others) (lines_taken (n + 1) ts [])
lines_taken n (t ∷ ts) (k ∷ ks) =
    rw (taken_here n k ks, left_here n k ks) (ap (λ others. type_line (index_of n) t k ++ others) (lines_taken (n + 1) ts ks))
