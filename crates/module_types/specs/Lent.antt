-- The state of a list of interned types once a borrow of all its types has ended.
use Rattle.std.specs.Prelude.{length}
use Rattle.std.specs.List.{refill}
use Rattle.std.specs.Borrow.{Fml, MutBor, Array, follows}
use Rattle.entity_map.specs.ValuesMut.{name_of}
use Rattle.entity_map.specs.declared.values_mut.ValuesMut.{ValuesMut}
use Rattle.wasm_types.specs.declared.sub.WasmSubType.{WasmSubType}
use Rattle.wasm_types.specs.contracts.sub.WasmSubType.{the_row as type_row}
use Rattle.module_types.specs.contracts.list.ModuleTypes.{the_row}
use Rattle.module_types.specs.TypeList.{TypeList}

-- the list has the last types written through the slice that an iterator iterates
abbrev pub LendsTypes : MutBor TypeList → ValuesMut WasmSubType → Fml
LendsTypes list result =
    follows the_row (Array type_row 0) list.ghost_name (name_of result) (λ types. record list.now { types = refill (length list.now.types) list.now.types types })
