-- The struct types of an interned list have as many fields as those of the module.
use Rattle.std.proofs.Common.{◌≡◌, ◌∙◌, ◌<◌, ℕ, zero, suc, ◌-◌, Bool, List, [], ◌∷◌, length, get_or, map, refl, sym, ap, arith}
use Rattle.std.specs.Prelude.{slice_get, unwrap_or, option_and_then}
use Rattle.std.specs.Option.{option_map}
use Rattle.std.proofs.lemmas.List.{length-map, get_or-map}
use Rattle.wasm_spec.specs.declared.types.UnpackedIndex.{UnpackedIndex}
use Rattle.wasm_spec.specs.TypeData.{Composite, Struct, SubType, Group, map_composite, map_sub_type, map_group}
use Rattle.wasm_spec.specs.Module as plain
use Rattle.type_spec.specs.Shapes.{erased}
use Rattle.type_spec.specs.Names.{index_of}
use Rattle.type_spec.specs.Equality.{home, SameType}
use Rattle.type_spec.specs.Interned.{Built, startup_type, taken, interned}
use Rattle.type_spec.specs.Taken.{NameEarlier}
use Rattle.type_spec.proofs.Equivalence.{type-groups}
use Rattle.type_spec.proofs.Homes.{joined, size, home-within, home-type}
use Rattle.type_spec.proofs.ByNames.{some_type}
use Rattle.rule_spec.specs.Lists.{Declared, declared_groups}
use Rattle.rule_spec.specs.Typing.{struct_fields}
use Rattle.form_types.specs.Placed.{place_of, placed_groups}
use Rattle.form_types.proofs.Ruled.{declared-types, places-joined}
use Rattle.wasm_types.specs.declared.composite.WasmCompositeInnerType.{WasmCompositeInnerType}
use Rattle.wasm_types.specs.declared.composite.WasmCompositeInnerType.TheVariants as inner
use Rattle.wasm_types.specs.declared.sub.WasmSubType.{WasmSubType}
use Rattle.wasm_types.specs.TypeViews.{struct_of}
use Rattle.wasm_types.specs.Views.{struct_in}
use Rattle.module_types.specs.ListGroups.{list_groups}
use Rattle.module_types.specs.Views.{interned_of}
use Rattle.module_types.proofs.GroupMembers.{extends-long, extends-interned}
use Rattle.module_types.proofs.Taking.{number_in, whole}
use Rattle.module_types.proofs.NamedLists.{well-named}
use Rattle.module_types.proofs.SameIndex.{same-index}
use Rattle.module_types.proofs.Standing.{joined-from, list-size}
use Rattle.init_plan.specs.Agreement.{fields_of}
use Rattle.plan_run.specs.Fields.{length_or_zero}

-- how many fields a struct type has, and 0 for another type
abbrev pub fields_in : {H R : Type 0} → Composite H R → ℕ
fields_in (Struct fs) = length fs
fields_in c = 0

abbrev pub fields_at : {H R : Type 0} → Group H R → ℕ → SubType H R → ℕ
fields_at g p d = fields_in (get_or g p d).composite.inner

fields-mapped : {H R K S : Type 0} (f : H → K) (g : R → S) (c : Composite H R) → fields_in (map_composite f g c) ≡ fields_in c
fields-mapped f g (Struct fs) = length-map fs _
fields-mapped f g c = refl

-- ---- equal types have equally many fields

frame-fields : (g : Group ℕ ℕ) (p : ℕ) → p < length g
    → fields_at (map_group erased erased g) p (map_sub_type erased erased some_type) ≡ fields_at g p some_type
frame-fields g p lt =
    ap (λ (t : SubType (Unit {0}) (Unit {0})). fields_in t.composite.inner)
    (get_or-map (map_sub_type erased erased) g p some_type (map_sub_type erased erased some_type) lt)
    ∙ fields-mapped erased erased (get_or g p some_type).composite.inner

home-fields : (gs : List (Group ℕ ℕ)) (i : ℕ) → i < size gs
    → fields_at (joined gs) i some_type ≡ fields_at (map_group erased erased (home gs i).members) (i - (home gs i).start) (map_sub_type erased erased some_type)
home-fields gs i lt =
    let w = home-within gs i lt in
    ap (λ (t : SubType ℕ ℕ). fields_in t.composite.inner) (sym (home-type gs i some_type lt))
    ∙ sym (frame-fields (home gs i).members (i - (home gs i).start) (omega (arith, w.from, w.to)))

same-fields : (ms ns : List (Group ℕ ℕ)) (i j : ℕ) → i < size ms → j < size ns → SameType ms ns i j
    → fields_at (joined ms) i some_type ≡ fields_at (joined ns) j some_type
same-fields ms ns i j h k same =
    home-fields ms i h
    ∙ (λ t. fields_at ((type-groups ms ns i j same).frames t) (same.0 t) (map_sub_type erased erased some_type))
    ∙ sym (home-fields ns j k)

-- ---- an interned list

module _ (gs : List (Group ℕ ℕ)) (near : NameEarlier 0 gs) (tags : List ℕ) (startup : Bool) (i : ℕ) (lt : i < length (taken gs).declared) where
  abbrev list : Built
  list = interned gs tags startup

  inside : i < size gs
  inside = omega (arith, lt, (whole gs near).counted)

  -- the index of a declared type is one of the list
  pub declared-below : number_in gs i < length list.types
  declared-below =
      omega (arith, (whole gs near).below i inside, extends-long (taken gs).built list (extends-interned gs tags startup))

  -- the type at the index of a declared type has its fields
  pub declared-fields : fields_at list.types (number_in gs i) startup_type ≡ fields_at (joined gs) i some_type
  declared-fields =
      let well = well-named gs near tags startup in
      let k = number_in gs i in
      let plainly : fields_at (joined (list_groups list)) k some_type ≡ fields_at list.types k startup_type =
      ap (λ (g : Group ℕ ℕ). fields_at g k some_type) (joined-from list.types list.groups 0 well.orderly)
      ∙ ap (λ (t : SubType ℕ ℕ). fields_in t.composite.inner)
      (get_or-map (map_sub_type (index_of {R = ℕ}) (λ (r : ℕ). r)) list.types k startup_type some_type declared-below)
      ∙ fields-mapped (index_of {R = ℕ}) (λ (r : ℕ). r) (get_or list.types k startup_type).composite.inner in
      sym (same-fields gs (list_groups list) i k inside (omega (arith, declared-below, list-size list well)) (same-index gs near tags startup i lt) ∙ plainly)

-- ---- the record's types, and the module's

-- a type of the list has the fields of its view
pub view-fields : (t : WasmSubType) → length_or_zero (struct_in t.composite_type.inner) ≡ fields_in (interned_of t).composite.inner
view-fields t = by t.composite_type.inner where
  by : (c : WasmCompositeInnerType) → length_or_zero (struct_in c) ≡ fields_in (interned_of (record t { composite_type = record t.composite_type { inner = c } })).composite.inner
  by (inner.Struct x) = sym (length-map (struct_of x) _ ∙ length-map x _)
  by c = refl

abbrev type_of : Declared → SubType UnpackedIndex UnpackedIndex
type_of d = d.type

struct-read : (c : Composite UnpackedIndex UnpackedIndex) → length (unwrap_or (struct_fields c) []) ≡ fields_in (map_composite place_of place_of c)
struct-read (Struct fs) = sym (length-map fs _)
struct-read c = refl

fields-read : (ds : List Declared) (i : ℕ) → i < length ds
    → length (unwrap_or (option_and_then struct_fields (option_map (λ (d : Declared). d.type.composite.inner) (slice_get ds i))) [])
    ≡ fields_at (map (map_sub_type place_of place_of) (map type_of ds)) i some_type
fields-read [] i lt = absurd (omega arith)
fields-read (d ∷ ds) zero lt = struct-read d.type.composite.inner
fields-read (d ∷ ds) (suc i) lt = fields-read ds i (omega arith)

-- the fields of a module's struct types, read by places
pub fields-joined : (m : plain.Module) (i : ℕ) → i < length (plain.types m) → fields_of m i ≡ fields_at (joined (placed_groups m)) i some_type
fields-joined m i lt =
    let ds = declared_groups 0 (plain.groups m) in
    let listed = declared-types 0 (plain.groups m) in
    let long : i < length ds = (let n = length-map ds type_of in let all = ap length listed in omega (arith, lt, n, all)) in
    fields-read ds i long
    ∙ ap (λ (ts : List (SubType UnpackedIndex UnpackedIndex)). fields_at (map (map_sub_type place_of place_of) ts) i some_type) listed
    ∙ sym (ap (λ (ts : List (SubType ℕ ℕ)). fields_at ts i some_type) (places-joined (plain.groups m)))
