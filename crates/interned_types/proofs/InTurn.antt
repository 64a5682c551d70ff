-- Declared types that are interned in turn, one after another.
use Rattle.std.proofs.Common.{◌≡◌, ◌∙◌, ℕ, ◌+◌, ◌<◌, ◌≤◌, Option, Some, None, List, [], ◌∷◌, ◌++◌, length, get_or, take, refl, sym, ap, subst, arith}
use Rattle.std.specs.Prelude.{◌^◌, slice_index, slice_get, option_and_then, IsSomeAnd, map}
use Rattle.std.proofs.Math.Seq.{take-length}
use Rattle.std.proofs.lemmas.List.{length-map, length-take-le, get_or-map, map-append, take_more}
use Rattle.std.proofs.lemmas.List.Sums.{fold_more}
use Rattle.std.proofs.lemmas.Option.{slice_get-get_or}
use Rattle.wasm_spec.specs.Module as plain
use Rattle.type_spec.specs.Interned.{Interned, Built, with_group, taken}
use Rattle.type_spec.proofs.Homes.{size}
use Rattle.form_types.specs.Types.{TypesData}
use Rattle.form_types.specs.Placed.{placed_groups}
use Rattle.form_types.proofs.Ruled.{size-places}
use Rattle.wasm_index.specs.Index.{number_of}
use Rattle.wasm_types.specs.declared.index.EngineOrModuleTypeIndex.{EngineOrModuleTypeIndex}
use Rattle.wasm_types.specs.declared.index.EngineOrModuleTypeIndex.TheVariants.{Module}
use Rattle.wasm_types.specs.Views.{module_index}
use Rattle.module_types.specs.Views.{TypeIndex}
use Rattle.module_types.specs.Builder.{Builder, new_builder, noted, interns_by}
use Rattle.module_types.specs.Conversion.{group_of_id, interned_members, interned_index, HoldsGroups, NamesInterned}
use Rattle.module_types.specs.InTurn.{interns_type}
use Rattle.module_types.proofs.Convertible.{members-kinds}
use Rattle.module_types.proofs.Holding.{holds-kept}
use Rattle.module_types.proofs.Taking.{done_at, state, number_in, whole}
use Rattle.module_types.proofs.FewTypes.{few}
use Rattle.module_types.proofs.DeclaredGroups.{Has, has-none, has-next, has-index, has-below, comes-next}
use Rattle.interned_types.specs.Types.{declared, type_index, AreTypesOf, HoldsGroupsAlone}
use Rattle.interned_types.specs.Environment.{AreHeld}
use Rattle.interned_types.specs.OnTheWay.{after_types}

module _ (m : plain.Module) (t : TypesData) (of : AreTypesOf m t) where
  -- a builder holds what is taken of the types before a position
  abbrev pub Reached : Builder → ℕ → Type 0
  Reached b i = Has m t of.numbered of.earlier b (done_at (placed_groups m) i) (state (placed_groups m) i)

  -- the module's types before number i were interned, and listed by their indices
  pub record Interns (b : Builder) (i : ℕ) (types : List EngineOrModuleTypeIndex) : Type 0 where
    pub reached : Reached b i
    pub holds : HoldsGroups t b
    pub listed : types ≡ map type_index (take i (declared m))
    pub alone : HoldsGroupsAlone t.validator b
    pub after : b ≡ after_types t i

few-reached : {m : plain.Module} {t : TypesData} (of : AreTypesOf m t) (b : Builder) (i : ℕ) → i ≤ size (placed_groups m) → Reached m t of b i
    → length b.built.types < 2 ^ 31
few-reached {m} of b i le r =
    omega (arith, few (placed_groups m) i le, ap (λ (c : Built). length c.types) r.built, of.few, size-places (plain.groups m))

pub interns-none : {m : plain.Module} {t : TypesData} (of : AreTypesOf m t) (b : Builder) → b ≡ new_builder t.validator → Interns m t of b 0 []
interns-none {m} {t} of b new = rw new (record {
  reached = has-none m t of.numbered of.earlier t.validator;
  holds = λ k j e. absurd (let no : None ≡ Some j = e in cc);
  listed = refl;
  alone = refl;
  after = refl;
})

module _ {m : plain.Module} {t : TypesData} {of : AreTypesOf m t} {b : Builder} {i : ℕ} {types : List EngineOrModuleTypeIndex}
    (x : Interns m t of b i types) (lt : i < length t.declared) where
  inside : i < size (placed_groups m)
  inside = omega (arith, lt, of.numbered.each, size-places (plain.groups m))

  abbrev id : ℕ
  id = slice_index t.declared i

  abbrev later : Builder
  later = interns_type t b id

  reached-later : Reached m t of later (i + 1)
  reached-later = has-next m t of.numbered of.earlier b i inside x.reached

  alone-by : (k : ℕ) (ts : List Interned) (o : Option ℕ) → HoldsGroupsAlone t.validator (interns_by b k ts o)
  alone-by k ts (Some j) = x.alone
  alone-by k ts None =
      ap (λ (c : Builder). record c { built = with_group b.built ts; ids = noted b.ids k (length b.built.groups) }) x.alone

  pub listed-long : length types ≡ i
  listed-long =
      let long : length (declared m) ≡ size (placed_groups m) = (whole (placed_groups m) of.earlier).counted in
      ap length x.listed ∙ length-map (take i (declared m)) type_index ∙ length-take-le i (declared m) (omega (arith, inside, long))

  module _ {n : ℕ} (is : n ≡ id) where
    pub names : NamesInterned t b (group_of_id t n)
    names = subst (λ k. NamesInterned t b (group_of_id t k)) (sym is) (comes-next m t of.numbered of.earlier b i inside x.reached x.holds).named

    pub room : length (interns_type t b n).built.types < 4294967295
    room = subst (λ k. length (interns_type t b k).built.types < 4294967295) (sym is)
        (omega (arith, few-reached of later (i + 1) (omega (arith, inside)) reached-later))

    pub interns-next : (c : Builder) (index : TypeIndex) → c ≡ interns_type t b n → number_of index ≡ interned_index t c n
        → Interns m t of c (i + 1) (types ++ Module index ∷ [])
    interns-next c index made at =
        let all = placed_groups m in
        let made' : c ≡ later = made ∙ ap (interns_type t b) is in
        let k = group_of_id t id in
        let long : i < length (declared m) = omega (arith, inside, (whole all of.earlier).counted) in
        let number : number_of index ≡ number_in all i = at ∙ (λ j. interned_index t (made' j) (is j))
        ∙ has-index m t of.numbered of.earlier later (i + 1) (omega (arith, inside)) reached-later i (omega arith) in
        record {
          reached = rw made' reached-later;
          holds = rw made' (holds-kept t b k (interned_members t b k) x.holds (members-kinds t b k));
          listed = (λ j. x.listed j ++ type_index (number j) ∷ [])
              ∙ sym (map-append type_index (take i (declared m)) (get_or (declared m) i 0 ∷ []))
              ∙ ap (map type_index) (sym (take_more (declared m) i 0 long));
          alone = rw made' (alone-by k (interned_members t b k) (b.ids k));
          after = made' ∙ ap (λ (d : Builder). interns_type t d id) x.after
              ∙ sym (fold_more (interns_type t) (new_builder t.validator) t.declared i 0 lt);
        }

-- in the end all are listed
module _ {m : plain.Module} {t : TypesData} {of : AreTypesOf m t} {b : Builder} {types : List EngineOrModuleTypeIndex}
    (x : Interns m t of b (length t.declared) types) where
  sized : length t.declared ≡ size (placed_groups m)
  sized = omega (arith, of.numbered.each, size-places (plain.groups m))

  reached-all : Reached m t of b (size (placed_groups m))
  reached-all = subst (Reached m t of b) sized x.reached

  pub listed-all : types ≡ map type_index (declared m)
  listed-all =
      let long : length t.declared ≡ length (declared m) = omega (arith, sized, (whole (placed_groups m) of.earlier).counted) in
      x.listed ∙ ap (λ n. map type_index (take n (declared m))) long ∙ ap (map type_index) (take-length (declared m))

  pub built-all : b.built ≡ (taken (placed_groups m)).built
  built-all = reached-all.built

  pub few-all : length b.built.types < 2 ^ 31
  few-all = few-reached of b (size (placed_groups m)) (omega arith) reached-all

  pub held-all : AreHeld types (length b.built.types)
  held-all i lt =
      let d = declared m in
      let sizes : length types ≡ length d = ap length listed-all ∙ length-map d type_index in
      let inside : i < length t.declared = omega (arith, lt, sizes, sized, (whole (placed_groups m) of.earlier).counted) in
      let is : slice_get types i ≡ Some (type_index (get_or d i 0)) = ap (λ l. slice_get l i) listed-all
      ∙ slice_get-get_or (map type_index d) i (type_index 0) (omega (arith, lt, sizes, length-map d type_index))
      ∙ ap Some (get_or-map type_index d i 0 (type_index 0) (omega (arith, lt, sizes))) in
      subst (λ o. IsSomeAnd (option_and_then module_index o) (λ k. number_of k < length b.built.types)) (sym is)
      (has-below m t of.numbered of.earlier b (size (placed_groups m)) (omega arith) reached-all i (omega (arith, inside, sized)))
