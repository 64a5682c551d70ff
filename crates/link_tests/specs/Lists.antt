-- Lists of types that are registered.
use Rattle.std.specs.Prelude.{◌+◌, true, false, [], length, None}
use Rattle.wasm_index.specs.Index.{index_of}
use Rattle.wasm_types.specs.declared.composite.WasmCompositeInnerType.TheVariants as inner
use Rattle.wasm_types.specs.declared.sub.WasmSubType.{WasmSubType}
use Rattle.module_types.specs.TypeList.{TypeList, no_types, with_type, with_range}

-- a function type without parameters and results
abbrev pub function : WasmSubType
function = record {
  is_final = true;
  supertype = None;
  composite_type = record { inner = inner.Func (record { params = []; results = [] }); shared = false };
}

-- one more type, in a group with no other member
abbrev pub alone : TypeList → WasmSubType → TypeList
alone l t = with_range (with_type l t None) (record { start = index_of (length l.types); end = index_of (length l.types + 1) })

-- a type without parameters alone
abbrev pub startup : TypeList
startup = alone no_types function

-- the same type twice
abbrev pub twice : TypeList
twice = alone startup function
