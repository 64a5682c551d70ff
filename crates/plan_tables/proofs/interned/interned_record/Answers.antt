use Rattle.std.proofs.Common.{◌≡◌, map, ap}
use Rattle.std.specs.List.{flat_map}
use Rattle.entity_map.specs.Keyed.{keyed}
use Rattle.wasm_index.specs.declared.spaces.ModuleInternedTypeSpace.{ModuleInternedTypeSpace}
use Rattle.wasm_index.specs.Index.{index_of}
use Rattle.wasm_types.specs.declared.sub.WasmSubType.{WasmSubType}
use Rattle.module_types.specs.Views.{TypeIndex}
use Rattle.plan_tables.specs.Interned.{fields_of, type_rows}
use Rattle.plan_tables.proofs.Keyed.{flat_keyed, values_keyed}
use Rattle.plan_tables.proofs.interned.interned_record.Goals as goal

-- at the start, all types remain
pub loop-ty-init : goal.loop-ty-init
loop-ty-init c =
    let rows : type_rows 0 (map (λ (p : TypeIndex × WasmSubType). p.1) (keyed index_of c.args.types.now.types)) ≡ type_rows 0 c.args.types.now.types
    = ap (type_rows 0) (values_keyed (index_of {Space = ModuleInternedTypeSpace}) 0 c.args.types.now.types) in
    let fields : flat_map (λ (p : TypeIndex × WasmSubType). fields_of p.1.composite_type.inner) (keyed index_of c.args.types.now.types)
    ≡ flat_map (λ (t : WasmSubType). fields_of t.composite_type.inner) c.args.types.now.types
    = flat_keyed (index_of {Space = ModuleInternedTypeSpace}) (λ t. fields_of t.composite_type.inner) 0 c.args.types.now.types in
    record {
      rows = rw (c.into_iter-ty-iterator.ensures.into_iter_gives, c.wasm_types-ty-items.ensures, c.new-rows.ensures.items, c.new-fields.ensures.items) rows;
      fields = rw (c.into_iter-ty-iterator.ensures.into_iter_gives, c.wasm_types-ty-items.ensures, c.new-fields.ensures.items) fields;
    }
