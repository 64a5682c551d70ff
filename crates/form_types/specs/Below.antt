-- Parts of types whose indices are below a bound.
use Rattle.std.specs.Prelude.{ℕ, All, IfSome}
use Rattle.wasm_spec.specs.declared.types.UnpackedIndex.{UnpackedIndex}
use Rattle.wasm_spec.specs.TypeData.{Storage, Field, storage_edges, field_edges}
use Rattle.rule_spec.specs.Lists.{Declared}
use Rattle.rule_spec.specs.TypeRules.{IsBelow, KindIsBelow}

unfoldable pub StorageIsBelow : ℕ → Storage UnpackedIndex → Type 0
StorageIsBelow bound t = All (IsBelow bound) (storage_edges (λ i. i) t)

unfoldable pub FieldIsBelow : ℕ → Field UnpackedIndex → Type 0
FieldIsBelow bound f = All (IsBelow bound) (field_edges (λ i. i) f)

abbrev pub HasSupertypeBelow : Declared → Type 0
HasSupertypeBelow d = IfSome d.type.supertype (IsBelow d.index)

-- indices below the end of the type's own group, and a supertype at a lower index (core
-- specification, 3.2, recursive types)
pub record NamesBelow (d : Declared) : Type 0 where
  pub indices : KindIsBelow d.group_end d.type.composite.inner
  pub supertype : IfSome d.type.supertype (IsBelow d.index)
