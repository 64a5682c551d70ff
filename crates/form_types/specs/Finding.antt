-- Groups that were read, while the types of a module are numbered.
use Rattle.std.specs.Prelude.{ℕ, List, length, Option, slice_index}
use Rattle.std.specs.HashMap.{get, HashMap}
use Rattle.wasm_spec.specs.TypeData.{Group}
use Rattle.type_spec.specs.Equality.{canonical}
use Rattle.entity_map.specs.declared.seed.Seeded.{Seeded}
use Rattle.form_types.specs.declared.canonical.CanonicalGroup.{CanonicalGroup}
use Rattle.form_types.specs.contracts.canonical.CanonicalGroupPartialEq.TheImpl as group
use Rattle.form_types.specs.Keys.{GroupKey, group_key}

abbrev pub FirstIds : Type 0
FirstIds = HashMap CanonicalGroup ℕ Seeded

-- the first id of the group that has the key
abbrev pub first_of : FirstIds → CanonicalGroup → Option ℕ
first_of ids key = get group.ghosts.eq ids key

-- the key of a group that comes next
abbrev pub next_key : List ℕ → Group ℕ ℕ → GroupKey
next_key ids g = group_key (canonical (slice_index ids) (record { start = length ids; members = g }))
