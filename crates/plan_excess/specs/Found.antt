-- What is found among the interned types of a module.
use Rattle.std.specs.Prelude.{ℕ, ◌≤◌, List, Option, Some, None, IfSome, slice_get, All}
use Rattle.wasm_types.specs.declared.index.EngineOrModuleTypeIndex.{EngineOrModuleTypeIndex}
use Rattle.wasm_types.specs.declared.sub.WasmSubType.{WasmSubType}
use Rattle.wasm_types.specs.declared.tag.Tag.{Tag}
use Rattle.wasm_types.specs.Views.{module_index}
use Rattle.wasm_index.specs.Index.{number_of}
use Rattle.gc_layout.specs.Objects.{gc_layout_of, fixed_size}
use Rattle.rule_breaks.specs.Search.{IsFirstWithout}
use Rattle.plan_excess.specs.declared.kinds.ExcessKind.{ExcessKind}
use Rattle.plan_excess.specs.declared.kinds.ExcessKind.TheVariants as kind

module _ (header : ℕ) (types : List WasmSubType) where
  -- objects of the type at a position have at most 4294967295 bytes
  abbrev pub IsSmallAt : ℕ → Type 0
  IsSmallAt n = IfSome (slice_get types n) (λ t. fixed_size (gc_layout_of header t.composite_type.inner) ≤ 4294967295)

  -- the same by its index
  abbrev pub IsSmall : EngineOrModuleTypeIndex → Type 0
  IsSmall index = IfSome (module_index index) (λ i. IsSmallAt (number_of i))

  -- exceptions of the tag do
  abbrev pub HasSmall : Tag → Type 0
  HasSmall tag = IsSmall tag.exception

  -- the first type that is not small; where there is none, the first tag
  abbrev pub FindsLarge : List EngineOrModuleTypeIndex → List Tag → Option ExcessKind → Type 0
  FindsLarge declared tags None = All IsSmall declared × All HasSmall tags
  FindsLarge declared tags (Some (kind.Object i)) = IsFirstWithout IsSmall declared i
  FindsLarge declared tags (Some (kind.Exception tag)) = All IsSmall declared × IsFirstWithout HasSmall tags tag
  FindsLarge declared tags (Some _) = ⊥
