-- Registered types have one index exactly where they are equal.
use Rattle.std.proofs.Common.{◌≡◌, ℕ, zero, suc, ◌-◌, ◌<◌, ◌≤◌, List, [], ◌∷◌, length, take, get_or, slice_get, Option, Some, None, refl, ap, arith}
use Rattle.std.proofs.lemmas.List.{length-map}
use Rattle.std.proofs.lemmas.Option.{slice_get-get_or}
use Rattle.type_spec.specs.Interned.{GroupSpan}
use Rattle.wasm_types.specs.declared.sub.WasmRecGroup.{WasmRecGroup}
use Rattle.module_types.specs.Views.{interned_of}
use Rattle.module_types.specs.TypeList.{TypeList}
use Rattle.module_types.specs.Conversion.{no_span}
use Rattle.module_types.specs.ListGroups.{span_at, EngineMap, TellTypes, OneIndex, AreCompared}
use Rattle.module_types.proofs.Standing.{stands-at}
use Rattle.module_types.proofs.ToldByForms.{told-by-forms}
use Rattle.type_registry.specs.Registry as registry
use Rattle.type_registry.specs.Registry.{Registry, Group}
use Rattle.module_types.specs.Listed.{Listed, list_of}
use Rattle.type_registry.specs.Changes.{given, members_of}
use Rattle.type_registry.specs.Standing.{kept_at, GroupStands, Stands, TellsTypes}
use Rattle.type_registry.proofs.Copies.{get-dropped, members-are}

-- ---- parts of lists

pub take-get : {A : Type 0} (xs : List A) (n p : ℕ) → p < n → slice_get (take n xs) p ≡ slice_get xs p
take-get xs zero p h = absurd (omega (arith, h))
take-get (x ∷ xs) (suc n) (suc p) h = take-get xs n p (omega (arith, h))
take-get _ _ _ _ = refl

abbrev canonical_in : Option Group → WasmRecGroup
canonical_in None = []
canonical_in (Some g) = g.canonical

-- ---- a module that is held

module _ {r : Registry} {a : ℕ} {l : TypeList} (listed : Listed l) (st : Stands r a l) where
  abbrev pub indices : List ℕ
  indices = st.listed.indices

  abbrev pub engine : EngineMap
  engine = given indices

  abbrev span : ℕ → GroupSpan
  span k = span_at (list_of l) k

  abbrev pub canonicals : ℕ → WasmRecGroup
  canonicals k = canonical_in (kept_at r (get_or indices (span k).start 0))

  abbrev pub olds : ℕ → WasmRecGroup
  olds k = members_of l (span k)

  pub group-at : (k : ℕ) → k < length (list_of l).groups → GroupStands r indices l (span k)
  group-at k lt = st.groups k (span k) (slice_get-get_or (list_of l).groups k no_span lt)

  pub canonical-at : (k : ℕ) (lt : k < length (list_of l).groups) → canonicals k ≡ (group-at k lt).group.canonical
  canonical-at k lt = ap canonical_in (group-at k lt).kept

  pub are : AreCompared (list_of l) engine olds canonicals
  are k lt = grind (arith, members-are l listed (span k), canonical-at k lt, group-at k lt)

  -- the index of a member
  pub member : (k : ℕ) (lt : k < length (list_of l).groups) (i : ℕ) → (span k).start ≤ i → i < (span k).end → i < length l.types
      → slice_get (group-at k lt).group.indices (i - (span k).start) ≡ Some (get_or indices i 0)
  member k lt i low high short = grind (arith, slice_get, group-at, take-get, get-dropped, slice_get-get_or)

  pub index-is : (i : ℕ) → i < length l.types → registry.index_at r a i ≡ Some (get_or indices i 0)
  index-is i lt = grind (arith, slice_get-get_or)

  pub short : (k : ℕ) → k < length (list_of l).groups → (i : ℕ) → i < (span k).end → i < length l.types
  short k lt i high = grind (arith, stands-at (list_of l) listed.well_named k lt, length-map l.types interned_of)

module _ {r : Registry} {a b : ℕ} {l m : TypeList} (listed : Listed l) (listed' : Listed m) (st : Stands r a l) (st' : Stands r b m) where
  abbrev is : List ℕ
  is = indices listed st

  abbrev js : List ℕ
  js = indices listed' st'

  one : OneIndex (list_of l) (list_of m) (engine listed st) (engine listed' st') (canonicals listed st) (canonicals listed' st')
  one k o i j lt lt' low high low' high' =
      let x = group-at listed st k lt in
      let y = group-at listed' st' o lt' in
      let first = get_or is (span_at (list_of l) k).start 0 in
      let first' = get_or js (span_at (list_of m) o).start 0 in
      let at = member listed st k lt i low high (short listed st k lt i high) in
      let at' = member listed' st' o lt' j low' high' (short listed' st' o lt' j high') in
      let owned = st.sound.owned first first' (i - (span_at (list_of l) k).start) (j - (span_at (list_of m) o).start) (get_or js j 0) x.group y.group x.kept y.kept in
      let groups = st.sound.groups first first' x.group y.group x.kept y.kept in
      grind arith

  told : TellTypes (list_of l) (list_of m) (engine listed st) (engine listed' st')
  told = told-by-forms (list_of l) (list_of m) listed.well_named listed'.well_named (engine listed st) (engine listed' st') (olds listed st) (canonicals listed st)
      (olds listed' st') (canonicals listed' st') (are listed st) (are listed' st') one

  pub tells : TellsTypes r a l b m
  tells i j lt lt' =
      let t = told i j (omega (arith, lt, length-map l.types interned_of)) (omega (arith, lt', length-map m.types interned_of)) in
      let at = index-is listed st i lt in
      let at' = index-is listed' st' j lt' in
      grind arith
