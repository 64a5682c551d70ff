-- The type of a declared type's id.
use Rattle.std.proofs.Common.{◌≡◌, ◌∙◌, ℕ, ◌<◌, List, [], length, get_or, ap, arith}
use Rattle.std.specs.Prelude.{slice_index}
use Rattle.std.proofs.lemmas.List.{length-map, get_or-map}
use Rattle.std.proofs.lemmas.List.Concat.{get_or-flat_map}
use Rattle.wasm_spec.specs.declared.types.UnpackedIndex.{UnpackedIndex}
use Rattle.wasm_spec.specs.TypeData.{Group, SubType, map_sub_type}
use Rattle.wasm_spec.specs.Module as plain
use Rattle.type_spec.specs.TypeShapes.{sub_type_shape}
use Rattle.type_spec.specs.Equality.{home}
use Rattle.type_spec.proofs.Homes.{size, home-within, home-type}
use Rattle.type_spec.proofs.Numbers.{place}
use Rattle.form_types.specs.Types.{NamedGroup, TypesData, types_by_id}
use Rattle.form_types.specs.Placed.{place_of, placed_groups, id_at, named_index}
use Rattle.form_types.specs.Numbered.{AreNumbered}
use Rattle.form_types.proofs.Ruled.{places-joined, size-places}

module _ (m : plain.Module) (t : TypesData) (numbered : AreNumbered m t) where
  abbrev gs : List (Group ℕ ℕ)
  gs = placed_groups m

  abbrev rename : UnpackedIndex → UnpackedIndex
  rename i = named_index t.declared i

  -- it is the declared type, in which each reference is the id of what it names
  pub type-at-id : (j : ℕ) → j < length (plain.types m) → (d : SubType UnpackedIndex UnpackedIndex)
      → get_or (types_by_id t.groups) (slice_index t.declared j) d ≡ map_sub_type rename rename (get_or (plain.types m) j d)
  type-at-id j lt d =
      let h : j < size gs = omega (arith, lt, size-places (plain.groups m)) in
      let s = numbered.held j lt in
      let w = home-within gs j h in
      let p = place gs j in
      let ren : ℕ → UnpackedIndex = id_at t.declared in
      let d' : SubType ℕ ℕ = map_sub_type place_of place_of d in
      let long : length (get_or t.groups s.number []) ≡ length (home gs j).members = ap length s.group ∙ length-map (home gs j).members (map_sub_type ren ren) in
      let place_within : p < length (home gs j).members = omega (arith, w.to, w.from) in
      ap (λ k. get_or (types_by_id t.groups) k d) s.member
      ∙ get_or-flat_map (λ (g : NamedGroup). g) t.groups s.number p [] d s.below (omega (arith, long, place_within))
      ∙ ap (λ (g : NamedGroup). get_or g p d) s.group
      ∙ get_or-map (map_sub_type ren ren) (home gs j).members p d' d place_within
      ∙ ap (map_sub_type ren ren) (home-type gs j d' h ∙ ap (λ l. get_or l j d') (places-joined (plain.groups m))
      ∙ get_or-map (map_sub_type place_of place_of) (plain.types m) j d d' lt)
      ∙ sub_type_shape.map_twice place_of ren place_of ren (get_or (plain.types m) j d)
