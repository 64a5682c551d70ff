-- A list of interned types as data over references: its types have the references, and all else is
-- unchanged.
use Rattle.std.specs.Prelude.{List, Option}
use Rattle.std.specs.declared.ops.Range.{Range}
use Rattle.std.proofs.Common.{ap}
use Rattle.wasm_spec.specs.TypeData.{Group, map_group, group_edges}
use Rattle.type_spec.specs.Shapes.{Shape}
use Rattle.type_spec.specs.TypeShapes.{group_shape}
use Rattle.wasm_types.specs.declared.index.EngineOrModuleTypeIndex.{EngineOrModuleTypeIndex}
use Rattle.wasm_types.specs.ValueViews.{Name}
use Rattle.wasm_types.specs.TypeViews.{group_of}
use Rattle.wasm_types.specs.ViewsTell.{Back, group_back}
use Rattle.module_types.specs.Views.{TypeIndex}
use Rattle.module_types.specs.TypeList.{TypeList}

pub record TypeListData (H R : Type 0) : Type 0 where
  pub types : Group H R
  pub groups : List (Range TypeIndex)
  pub trampolines : List (Option TypeIndex)

abbrev pub data_of : TypeList → TypeListData Name EngineOrModuleTypeIndex
data_of l = record { types = group_of l.types; groups = l.groups; trampolines = l.trampolines }

abbrev pub type_list_shape : Shape (λ H R. TypeListData H R)
type_list_shape = record {
  map = λ h f x. record { types = map_group h f x.types; groups = x.groups; trampolines = x.trampolines };
  edges = λ index x. group_edges index x.types;
  map_same = λ x. λ i. record { types = group_shape.map_same x.types i; groups = x.groups; trampolines = x.trampolines };
  map_twice = λ h h' f f' x. λ i. record { types = group_shape.map_twice h h' f f' x.types i; groups = x.groups; trampolines = x.trampolines };
  edges_map = λ index index' h f each x. group_shape.edges_map index index' h f each x.types;
  determined = λ kind index tells x y frames all.
      let types = group_shape.determined kind index tells x.types y.types (ap (λ t. t.types) frames) all in
      λ i. record { types = types i; groups = ap (λ t. t.groups) frames i; trampolines = ap (λ t. t.trampolines) frames i };
}

pub type_list_back : Back data_of
type_list_back = record {
  back = λ x. record { types = group_back.back x.types; groups = x.groups; trampolines = x.trampolines };
  is = λ l. λ i. record { types = group_back.is l.types i; groups = l.groups; trampolines = l.trampolines };
}
