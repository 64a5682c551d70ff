-- What a list of interned types holds.
use Rattle.std.specs.Prelude.{ℕ, ◌+◌, ◌-◌, List, [], ◌∷◌, ◌++◌, length, map, replicate, set, slice_get, Option, Some, None, option_and_then}
use Rattle.std.specs.declared.ops.Range.{Range}
use Rattle.std.specs.List.{range_with_len}
use Rattle.wasm_index.specs.Index.{number_of, index_of}
use Rattle.wasm_types.specs.declared.sub.WasmSubType.{WasmSubType}
use Rattle.module_types.specs.Views.{TypeIndex}

-- the types, the indices of each group, and the trampoline of each type that has one
pub record TypeList : Type 0 where
  pub types : List WasmSubType
  pub groups : List (Range TypeIndex)
  pub trampolines : List (Option TypeIndex)

abbrev pub no_types : TypeList
no_types = record { types = []; groups = []; trampolines = [] }

-- one more type, in no group, with its trampoline if it has one
abbrev pub with_type : TypeList → WasmSubType → Option TypeIndex → TypeList
with_type l t k = record l { types = l.types ++ t ∷ []; trampolines = l.trampolines ++ k ∷ [] }

-- more types, in no group and without trampolines
abbrev pub with_types : TypeList → List WasmSubType → TypeList
with_types l ts = record l { types = l.types ++ ts; trampolines = l.trampolines ++ replicate (length ts) None }

abbrev pub with_range : TypeList → Range TypeIndex → TypeList
with_range l r = record l { groups = l.groups ++ r ∷ [] }

-- the type at a position is called by a trampoline
abbrev pub called_by : TypeList → ℕ → TypeIndex → TypeList
called_by l i k = record l { trampolines = set l.trampolines i (Some k) }

-- the trampoline of the type at a position
abbrev pub trampoline_at : TypeList → ℕ → Option TypeIndex
trampoline_at l i = option_and_then (λ t. t) (slice_get l.trampolines i)

-- the indices of a range, in order
abbrev pub elements_of : Range TypeIndex → List TypeIndex
elements_of r = map index_of (range_with_len (number_of r.start) (number_of r.end - number_of r.start))

-- each type that has a trampoline, from a position on, with its trampoline
abbrev pub called_from : ℕ → List (Option TypeIndex) → List (TypeIndex × TypeIndex)
called_from i [] = []
called_from i (None ∷ ts) = called_from (i + 1) ts
called_from i (Some k ∷ ts) = (index_of i, k) ∷ called_from (i + 1) ts
