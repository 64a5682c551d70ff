-- The metadata of the functions of a module, by what its declared types are looked up to.
use Rattle.std.proofs.Common.{◌≡◌, ◌∙◌, ℕ, suc, ◌+◌, ◌<◌, ◌≤◌, List, [], ◌∷◌, ◌++◌, Option, Some, None, length, map, get_or, refl, sym, ap, subst, arith, length-append, append_assoc}
use Rattle.std.specs.Prelude.{All, slice_get, unwrap_or}
use Rattle.std.specs.List.{flat_map, enumerate_from}
use Rattle.std.specs.Option.{option_map}
use Rattle.std.proofs.lemmas.List.{length_push, map_push}
use Rattle.std.proofs.lemmas.List.Elements.{All-nil, All-cons, All-append, All-map, All-weaker}
use Rattle.std.proofs.lemmas.Option.{slice_get_past, slice_get-get_or, slice_get-map}
use Rattle.std.proofs.lemmas.Simd.{map-map}
use Rattle.wasm_spec.specs.declared.types.UnpackedIndex.{UnpackedIndex}
use Rattle.wasm_spec.specs.declared.types.UnpackedIndex.TheVariants.{Module}
use Rattle.wasm_spec.specs.declared.types.ValType.{ValType}
use Rattle.wasm_spec.specs.TypeData.{ValueType, Composite, Func, Group, SubType, value_edges, map_value, value_of}
use Rattle.wasm_spec.specs.Module.{Body}
use Rattle.wasm_spec.specs.Module as plain
use Rattle.rule_spec.specs.declared.rules.Rule.TheVariants.{L1, L3}
use Rattle.rule_spec.specs.Lists.{Declared, declared_from, declared_groups, lists_of_module, kind_at}
use Rattle.rule_spec.specs.Lists as rule
use Rattle.rule_spec.specs.References.{BodyRefersIn}
use Rattle.rule_spec.specs.TypeRules.{IsBelow, KindIsBelow, ValueIsBelow, IsDeclaredWell}
use Rattle.form_rules.specs.declared.lists.Lists.{Lists}
use Rattle.form_types.proofs.AllOf.{All-joined, All-parts}
use Rattle.form_types.proofs.Ruled.{declared-types}
use Rattle.wasm_types.specs.ValueViews.{Name, value_of as view_value}
use Rattle.wasm_convert.specs.Conversion.{LookUp}
use Rattle.wasm_convert.specs.Known.{Known}
use Rattle.init_plan.specs.declared.debug_info.FunctionMetadata.{FunctionMetadata}
use Rattle.interned_types.specs.Environment.{LooksUpTypes}
use Rattle.module_sections.specs.Filling.{module_in, IsGathered}
use Rattle.module_environ.specs.Metadata.{ParamsAndLocals, params_of, KnowsParams, params_to, params_at, params_of_types, function_data, view_function}
use Rattle.interned_types.specs.Types.{look_up_in}
use Rattle.module_sections.proofs.Agreeing.{known-edges}

-- ---- no group ends past the last type

abbrev EndsBy : ℕ → Declared → Type 0
EndsBy bound d = d.group_end ≤ bound

from-end : (bound end index : ℕ) (ts : List (SubType UnpackedIndex UnpackedIndex)) → end ≤ bound → All (EndsBy bound) (declared_from end index ts)
from-end bound end index [] le = All-nil (EndsBy bound)
from-end bound end index (t ∷ ts) le = All-cons (EndsBy bound) _ (declared_from end (index + 1) ts) le (from-end bound end (index + 1) ts le)

length-declared_from : (end index : ℕ) (ts : List (SubType UnpackedIndex UnpackedIndex)) → length (declared_from end index ts) ≡ length ts
length-declared_from end index [] = refl
length-declared_from end index (t ∷ ts) = ap (λ (n : ℕ). suc n) (length-declared_from end (index + 1) ts)

groups-end : (bound index : ℕ) (gs : List (Group UnpackedIndex UnpackedIndex)) → index + length (declared_groups index gs) ≤ bound
    → All (EndsBy bound) (declared_groups index gs)
groups-end bound index [] le = All-nil (EndsBy bound)
groups-end bound index (g ∷ gs) le =
    let end = index + length g in
    let members = declared_from end index g in
    let rest = declared_groups end gs in
    let long : length (members ++ rest) ≡ length g + length rest = omega (arith, length-append members rest, length-declared_from end index g) in
    All-append (EndsBy bound) members rest
    (from-end bound end index g (omega (arith, le, long)))
    (groups-end bound end gs (omega (arith, le, long)))

-- ---- the parameters of a function name declared types

-- a kind whose indices are below a bound
module _ (count : ℕ) where
  below-more : (bound : ℕ) → bound ≤ count → (i : UnpackedIndex) → IsBelow bound i → IsBelow count i
  below-more bound le (Module i) below = omega (arith, below, le)
  below-more bound le _ below = absurd below

  params-below : (bound : ℕ) (kind : Composite UnpackedIndex UnpackedIndex) → bound ≤ count → KindIsBelow bound kind
      → All (ValueIsBelow count) (params_of kind)
  unfolding KindIsBelow ValueIsBelow
  params-below bound (Func type) le below =
      let edges : ValueType UnpackedIndex → List UnpackedIndex = value_edges (λ i. i) in
      let front = ((All-joined (IsBelow bound) (flat_map edges type.params) (flat_map edges type.results)).0 below).0 in
      (All-parts (IsBelow count) edges type.params).0
      (All-weaker (IsBelow bound) (IsBelow count) (below-more bound le) (flat_map edges type.params) front)
  params-below bound _ le below = All-nil (ValueIsBelow count)

-- those of each declared type
params-declared : (m : plain.Module) → All (IsDeclaredWell (lists_of_module m)) (lists_of_module m).types
    → All (λ type. All (ValueIsBelow (length (lists_of_module m).types)) (params_of type.composite.inner)) (plain.types m)
params-declared m well =
    let ds = (lists_of_module m).types in
    let count = length ds in
    let P : SubType UnpackedIndex UnpackedIndex → Type 0 = λ type. All (ValueIsBelow count) (params_of type.composite.inner) in
    subst (All P) (declared-types 0 (plain.groups m)) (All-map P (λ (d : Declared). d.type) ds (λ i x lt.
    let d = get_or ds i x in
    params-below count d.group_end d.type.composite.inner (groups-end count 0 (plain.groups m) (omega arith) i x lt) (well i x lt).indices))

-- of a list that has what the types are looked up to, the entry at the type of a function has its
-- parameters
module _ (look : LookUp) (l : rule.Lists) {X : Type 0} (see : X → List (ValueType Name)) (xs : List X) (listed : map see xs ≡ params_of_types look l)
    (fs : List ℕ) (f t d : ℕ) (same : fs ≡ l.functions) (lt : f < length fs) (is : t ≡ get_or fs f d) where
  entry : unwrap_or (option_map see (slice_get xs t)) [] ≡ map (map_value look) (params_at l f)
  entry =
      let at : slice_get l.functions f ≡ Some t = cc (slice_get-get_or fs f d lt) in
      let looked-up : Declared → List (ValueType Name) = λ d. params_to look d.type in
      let same : option_map see (slice_get xs t) ≡ option_map looked-up (slice_get l.types t) =
      cc (slice_get-map see xs t, slice_get-map looked-up l.types t) in
      rw (same, at) (by (slice_get l.types t)) where
        by : (o : Option Declared) → unwrap_or (option_map (λ (d : Declared). params_to look d.type) o) []
            ≡ map (map_value look) (unwrap_or (option_map params_of (option_map (λ (d : Declared). d.type.composite.inner) o)) [])
        by None = refl
        by (Some d) = refl

  pub params-some : (x : X) → t < length xs → x ≡ get_or xs t x → see x ≡ map (map_value look) (params_at l f)
  params-some x within at =
      let here : slice_get xs t ≡ Some x = cc (slice_get-get_or xs t x within) in
      ap (λ (o : Option X). unwrap_or (option_map see o) []) (sym here) ∙ entry

  pub params-none : length xs ≤ t → [] ≡ map (map_value look) (params_at l f)
  params-none past = ap (λ (o : Option X). unwrap_or (option_map see o) []) (sym (slice_get_past xs t past)) ∙ entry

-- ---- what was gathered

module _ (lists : Lists) (gathered : IsGathered lists) where
  abbrev m : plain.Module
  m = module_in lists

  abbrev all : rule.Lists
  all = lists_of_module m

  abbrev count : ℕ
  count = length all.types

  -- there are as many bodies as functions that are not imported
  pub bodies-counted : length lists.spaces.functions.items ≡ lists.imported_functions + length all.bodies
  bodies-counted =
      ap (λ (r : rule.Lists). length r.functions) gathered.lists
      ∙ (gathered.keeps L3).bodies
      ∙ ap (λ (r : rule.Lists). r.imported_functions + length all.bodies) (sym gathered.lists)

  module _ (known : UnpackedIndex → Type 0) (look : LookUp) (looks : LooksUpTypes m known look) where
    abbrev KnowsValue : ValueType UnpackedIndex → Type 0
    KnowsValue v = Known known (value_edges (λ i. i) v)

    known-value : (v : ValueType UnpackedIndex) → ValueIsBelow count v → KnowsValue v
    unfolding ValueIsBelow
    known-value v below = known-edges known count looks.knows (value_edges (λ i. i) v) below

    -- ---- parameters and locals can be converted

    pub types-known : All (KnowsParams known) (plain.types m)
    types-known = λ i x lt k d in'.
        known-value (get_or (params_of (get_or (plain.types m) i x).composite.inner) k d) (params-declared m (gathered.keeps L1) i x lt k d in')

    -- what they are converted to
    pub types-alike : map (params_to look) (plain.types m) ≡ params_of_types (look_up_in m) all
    types-alike =
        ap (map (params_to look)) (sym (declared-types 0 (plain.groups m))) ∙ map-map (params_to look) (λ (d : Declared). d.type) all.types
        ∙ ap (λ (l : LookUp). params_of_types l all) looks.same

    pub locals-known : (body : Body) → BodyRefersIn count body → (runs : List (ℕ × ValType)) → runs ≡ body.locals
        → All (λ (run : ℕ × ValType). KnowsValue (value_of run.1)) runs
    locals-known body refers runs are = rw are (λ k d lt. known-value (value_of (get_or body.locals k d).1) (refers k d lt))

    -- ---- what locals are converted to

    abbrev run_of : LookUp → ℕ × ValType → ℕ × ValueType Name
    run_of to run = (run.0, map_value to (value_of run.1))

    -- so the metadata of a function is as the definition has it
    pub metadata : (n f : ℕ) (body : Body) (runs : List (ℕ × ValType)) (z : FunctionMetadata)
        → f ≡ lists.imported_functions + n → runs ≡ body.locals
        → map view_value z.params.value.items ≡ map (map_value (look_up_in m)) (params_at all f)
        → map {B = ℕ × ValueType Name} (λ run. (run.0, view_value run.1)) z.locals.items ≡ map (run_of look) runs
        → view_function z ≡ function_data (look_up_in m) all (n, body)
    metadata n f body runs z at listed first second =
        let place : f ≡ all.imported_functions + n = at ∙ ap (λ (r : rule.Lists). r.imported_functions + n) gathered.lists in
        let ps = first ∙ ap (λ (k : ℕ). map (map_value (look_up_in m)) (params_at all k)) place in
        let ls : map {B = ℕ × ValueType Name} (λ run. (run.0, view_value run.1)) z.locals.items ≡ map (run_of (look_up_in m)) body.locals =
        second ∙ (λ i. map (run_of (looks.same i)) (listed i)) in
        λ i. record { params = ps i; locals = ls i }

-- ---- one body more

pub metadata_more : {Z : Type 0} (seen : Z → ParamsAndLocals) (made : ℕ × Body → ParamsAndLocals) (now after : List Z) (z : Z) (left rest : List Body) (b : Body)
    (all : List ParamsAndLocals) → left ≡ b ∷ rest → seen z ≡ made (length now, b) → after ≡ now ++ z ∷ []
    → map seen now ++ map made (enumerate_from (length now) left) ≡ all → map seen after ++ map made (enumerate_from (length after) rest) ≡ all
metadata_more seen made now after z left rest b all at is pushed before =
    cc (map_push seen now z, length_push now z, append_assoc (map seen now) (seen z ∷ []) (map made (enumerate_from (length after) rest)))
