-- What the type section satisfies (core specification, 3.2).
use Rattle.std.specs.Prelude.{ℕ, ◌<◌, All, IfSome, IsSomeAnd}
use Rattle.wasm_spec.specs.declared.types.UnpackedIndex.{UnpackedIndex}
use Rattle.wasm_spec.specs.declared.types.UnpackedIndex.TheVariants.{Module}
use Rattle.wasm_spec.specs.TypeData.{Heap, ValueType, Composite, Func, Cont, heap_edges, value_edges, composite_edges}
use Rattle.rule_spec.specs.Lists.{Declared, Lists, kind_at}

-- ---- indices below a bound

-- the index is below a bound; what is not an index of the module is below none
abbrev pub IsBelow : ℕ → UnpackedIndex → Type 0
IsBelow bound (Module index) = index < bound
IsBelow bound _ = ⊥

-- each index that the type names is below a bound
unfoldable pub HeapIsBelow : ℕ → Heap UnpackedIndex → Type 0
HeapIsBelow bound h = All (IsBelow bound) (heap_edges (λ i. i) h)

unfoldable pub ValueIsBelow : ℕ → ValueType UnpackedIndex → Type 0
ValueIsBelow bound v = All (IsBelow bound) (value_edges (λ i. i) v)

unfoldable pub KindIsBelow : ℕ → Composite UnpackedIndex UnpackedIndex → Type 0
KindIsBelow bound kind = All (IsBelow bound) (composite_edges (λ i. i) kind)

-- ---- function types

abbrev pub IsFunction : Composite UnpackedIndex UnpackedIndex → Type 0
IsFunction (Func type) = Unit {0}
IsFunction _ = ⊥

-- a declared function type has this index
abbrev pub NamesFunctionType : Lists → ℕ → Type 0
NamesFunctionType l index = IsSomeAnd (kind_at l index) IsFunction

abbrev pub IndexNamesFunctionType : Lists → UnpackedIndex → Type 0
IndexNamesFunctionType l (Module index) = NamesFunctionType l index
IndexNamesFunctionType l _ = ⊥

-- a continuation names a function type (3.2, composite types)
abbrev pub ContinuesFunction : Lists → Composite UnpackedIndex UnpackedIndex → Type 0
ContinuesFunction l (Cont function) = IndexNamesFunctionType l function
ContinuesFunction l _ = Unit {0}

-- ---- declared types

-- indices below the end of the type's own group, a supertype at a lower index, and a continuation
-- of a function type (3.2, recursive types)
pub record IsDeclaredWell (l : Lists) (d : Declared) : Type 0 where
  pub indices : KindIsBelow d.group_end d.type.composite.inner
  pub supertype : IfSome d.type.supertype (IsBelow d.index)
  pub continuation : ContinuesFunction l d.type.composite.inner
