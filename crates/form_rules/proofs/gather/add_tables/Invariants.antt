use Rattle.std.proofs.Common.{◌≡◌, ◌++◌, map, take}
use Rattle.form_rules.proofs.gather.add_tables.Given as goal

-- the types of the tables so far are added
abbrev pub invariant-loop-table : goal.invariant-loop-table
invariant-loop-table l = l.types.items ≡ l.initial.types.items ++ map (λ t. t.ty) (take l.table-index l.tables)
