use Rattle.std.proofs.Common.{◌≡◌, ◌++◌, length, map}
use Rattle.std.specs.List.{flat_map}
use Rattle.plan_tables.specs.Interned.{fields_of, type_rows}
use Rattle.plan_tables.proofs.interned.interned_record.Given as goal

abbrev pub invariant-loop-ty : goal.invariant-loop-ty
invariant-loop-ty l = record {
  rows : l.rows.items ++ type_rows (length l.fields.items) (map (λ p. p.1) l.ty-iterator) ≡ type_rows 0 l.types.types;
  fields : l.fields.items ++ flat_map (λ p. fields_of p.1.composite_type.inner) l.ty-iterator ≡ flat_map (λ t. fields_of t.composite_type.inner) l.types.types;
}
