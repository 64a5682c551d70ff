-- Small lists of groups.
use Rattle.std.specs.Prelude.{ℕ, Bool, true, false, List, [], ◌∷◌, None}
use Rattle.wasm_spec.specs.declared.types.AbstractHeapType.TheVariants as heap
use Rattle.wasm_spec.specs.TypeData.{Group, SubType, Heap, ValueType, Ref, Concrete, Abstract, Func}

abbrev pub function : Bool → List (ValueType ℕ) → SubType ℕ ℕ
function final ps = record { is_final = final; supertype = None; composite = record { inner = Func (record { params = ps; results = [] }); shared = false } }

abbrev pub to : ℕ → ValueType ℕ
to i = Ref (record { nullable = true; heap = Concrete i })

-- [] -> [], a function that takes it, the same two again, and a function that takes the other
abbrev pub twice : List (Group ℕ ℕ)
twice = (function true [] ∷ []) ∷ (function true (to 0 ∷ []) ∷ []) ∷ (function true [] ∷ []) ∷ (function true (to 2 ∷ []) ∷ []) ∷ (function true (to 1 ∷ []) ∷ []) ∷ []

-- a function that takes itself, and two that take one another
abbrev pub rings : List (Group ℕ ℕ)
rings = (function true (to 0 ∷ []) ∷ []) ∷ (function true (to 2 ∷ []) ∷ function true (to 1 ∷ []) ∷ []) ∷ (function true (to 3 ∷ []) ∷ []) ∷ []

-- a group of one, and the same type in a group of two
abbrev pub longer : List (Group ℕ ℕ)
longer = (function true [] ∷ []) ∷ (function true [] ∷ function false [] ∷ []) ∷ []

-- [] -> [] twice, and then once more, open
abbrev pub repeated : List (Group ℕ ℕ)
repeated = (function true [] ∷ []) ∷ (function true [] ∷ []) ∷ (function false [] ∷ []) ∷ []

-- the same two, the open one first
abbrev pub turned : List (Group ℕ ℕ)
turned = (function false [] ∷ []) ∷ (function true [] ∷ []) ∷ []

abbrev pub not_null : {H : Type 0} → Heap H → ValueType H
not_null h = Ref (record { nullable = false; heap = h })

abbrev pub or_null : {H : Type 0} → Heap H → ValueType H
or_null h = Ref (record { nullable = true; heap = h })

-- a function that takes a reference to itself, which is not null
abbrev pub itself : List (Group ℕ ℕ)
itself = (function true (not_null (Concrete 0) ∷ []) ∷ []) ∷ []

-- a group without types between two others
abbrev pub hollow : List (Group ℕ ℕ)
hollow = (function true [] ∷ []) ∷ [] ∷ (function false [] ∷ []) ∷ []

-- a function that takes a function, and one whose type is the trampoline of the first
abbrev pub as_called : List (Group ℕ ℕ)
as_called = (function true (not_null (Abstract heap.Func) ∷ []) ∷ []) ∷ (function true (or_null (Abstract heap.Func) ∷ []) ∷ []) ∷ []
