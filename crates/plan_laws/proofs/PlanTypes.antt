-- The types of a plan with the fields of their layouts have as many parts as the interned types
-- weigh, and the groups of a module as many as its types.
use Rattle.std.proofs.Common.{◌≡◌, ◌∙◌, ◌+◌, ℕ, List, [], ◌∷◌, length, map, Option, Some, None, sum_by, refl, sym, ap, arith}
use Rattle.std.specs.List.{flat_map, scan}
use Rattle.std.specs.Option.{option_map}
use Rattle.std.proofs.lemmas.List.{length-map}
use Rattle.std.proofs.lemmas.List.Sums.{sum_by-append, sum_by-cons}
use Rattle.wasm_spec.specs.declared.types.UnpackedIndex.{UnpackedIndex}
use Rattle.wasm_spec.specs.TypeData.{Composite, Func, Array, Struct, Cont, Exn, Group, map_value, map_field}
use Rattle.wasm_spec.specs.Module as plain
use Rattle.type_spec.specs.Names.{named}
use Rattle.type_spec.proofs.Homes.{joined}
use Rattle.form_types.specs.Placed.{place_of, placed, placed_groups}
use Rattle.wasm_types.specs.declared.composite.WasmCompositeInnerType.{WasmCompositeInnerType}
use Rattle.wasm_types.specs.declared.composite.WasmCompositeInnerType.TheVariants as inner
use Rattle.wasm_types.specs.declared.field.WasmFieldType.{WasmFieldType}
use Rattle.wasm_types.specs.declared.sub.WasmSubType.{WasmSubType}
use Rattle.wasm_types.specs.ValueViews.{value_of, field_of}
use Rattle.module_types.specs.Views.{interned_number, inner_of, interned_of}
use Rattle.gc_layout.specs.declared.object.GcLayout.{GcLayout}
use Rattle.gc_layout.specs.declared.object.GcLayout.TheVariants as layout
use Rattle.gc_layout.specs.Fields.{end_after, placed_after, placed_fields}
use Rattle.gc_layout.specs.Objects.{ObjectLayout, OfArray, OfFields, object_layout, gc_layout_of}
use Rattle.plan_laws.specs.TextCosts.{parts_of, type_parts, layout_fields}
use Rattle.plan_laws.proofs.ModuleContents as contents
use Rattle.plan_laws.proofs.InternedParts.{parts, member_parts, group-parts, weight, type_weight}
use Rattle.plan_laws.proofs.SumLaws.{sum-mapped}

-- ---- layouts

scan-long : {S X Y : Type 0} (step : S → X → S) (give : S → X → Y) (s : S) (xs : List X) → length (scan step give s xs) ≡ length xs
scan-long step give s [] = refl
scan-long step give s (x ∷ xs) = omega (arith, scan-long step give (step s x) xs)

fields-long : (header : ℕ) (fields : List WasmFieldType) → length (placed_fields header fields) ≡ length fields
fields-long header fields = scan-long end_after placed_after header fields

abbrev object_fields : Option ObjectLayout → ℕ
object_fields None = 0
object_fields (Some (OfArray a)) = 0
object_fields (Some (OfFields s)) = length s.fields

object-same : (o : Option GcLayout) → layout_fields o ≡ object_fields (option_map object_layout o)
object-same None = refl
object-same (Some (layout.Array a)) = refl
object-same (Some (layout.Struct s)) = refl

-- ---- types

module _ (header : ℕ) where
  abbrev type_fields : WasmSubType → ℕ
  type_fields t = object_fields (gc_layout_of header t.composite_type.inner)

  inner-weighs : (c : WasmCompositeInnerType) → parts_of c + object_fields (gc_layout_of header c) ≡ weight (inner_of c)
  inner-weighs (inner.Array t) = refl
  inner-weighs (inner.Func t) = omega (
    arith,
    length-map t.params value_of,
    length-map (map value_of t.params) (map_value (named interned_number)),
    length-map t.results value_of,
    length-map (map value_of t.results) (map_value (named interned_number)),
  )
  inner-weighs (inner.Struct t) = omega (arith, fields-long header t, length-map t field_of, length-map (map field_of t) (map_field (named interned_number)))
  inner-weighs (inner.Cont t) = refl
  inner-weighs (inner.Exn t) =
      omega (arith, fields-long (header + 8) t.fields, length-map t.fields field_of, length-map (map field_of t.fields) (map_field (named interned_number)))

  each-weighs : (ts : List WasmSubType) → sum_by type_parts ts + sum_by type_fields ts ≡ sum_by type_weight (map interned_of ts)
  each-weighs [] = refl
  each-weighs (t ∷ ts) = omega (
    arith,
    inner-weighs t.composite_type.inner,
    each-weighs ts,
    sum_by-cons type_parts t ts,
    sum_by-cons type_fields t ts,
    sum_by-cons type_weight (interned_of t) (map interned_of ts),
  )

  pub types-weigh : (ts : List WasmSubType) (layouts : List (Option GcLayout))
      → map (option_map object_layout) layouts ≡ map (λ (t : WasmSubType). gc_layout_of header t.composite_type.inner) ts
      → sum_by type_parts ts + sum_by layout_fields layouts ≡ sum_by type_weight (map interned_of ts)
  types-weigh ts layouts same =
      let of-types : WasmSubType → Option ObjectLayout = λ t. gc_layout_of header t.composite_type.inner in
      let fields : sum_by layout_fields layouts ≡ sum_by type_fields ts =
      sum-mapped (option_map object_layout) object_fields layout_fields object-same layouts ∙ ap (sum_by object_fields) same
      ∙ sym (sum-mapped of-types object_fields type_fields (λ t. refl) ts) in
      omega (arith, fields, each-weighs ts)

-- ---- the groups of a module

composite-same : (c : Composite UnpackedIndex UnpackedIndex) → parts c ≡ contents.composite_parts c
composite-same (Func f) = refl
composite-same (Array f) = refl
composite-same (Struct fs) = refl
composite-same (Cont i) = refl
composite-same (Exn e) = refl

members-same : (ts : Group UnpackedIndex UnpackedIndex) → sum_by member_parts ts ≡ sum_by contents.member_parts ts
members-same [] = refl
members-same (t ∷ ts) = omega (arith, composite-same t.composite.inner, members-same ts, sum_by-cons member_parts t ts, sum_by-cons contents.member_parts t ts)

groups-same : (gs : List (Group UnpackedIndex UnpackedIndex)) → sum_by member_parts (joined (map placed gs)) ≡ sum_by contents.member_parts (flat_map (λ g. g) gs)
groups-same [] = refl
groups-same (g ∷ gs) = omega (
  arith,
  group-parts place_of place_of g,
  members-same g,
  groups-same gs,
  sum_by-append member_parts (placed g) (joined (map placed gs)),
  sum_by-append contents.member_parts g (flat_map (λ (h : Group UnpackedIndex UnpackedIndex). h) gs),
)

pub module-parts : (m : plain.Module) → sum_by member_parts (joined (placed_groups m)) ≡ sum_by contents.member_parts (plain.types m)
module-parts m = groups-same (plain.groups m)
