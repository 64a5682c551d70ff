-- What is found among the types of a translation is the first declared type, or the first tag,
-- whose objects are too large.
use Rattle.std.proofs.Common.{◌≡◌, ◌∙◌, ℕ, ◌<◌, ◌+◌, Bool, false, List, length, get_or, map, position, Option, Some, None, Result, Ok, Err, All, refl, sym, ap, subst, arith, length-append}
use Rattle.std.specs.Prelude.{◌==◌, slice_get, unwrap_or, IfOk}
use Rattle.std.specs.Option.{option_map}
use Rattle.std.proofs.lemmas.List.{length-map}
use Rattle.std.proofs.lemmas.List.Elements.{Contains-get_or}
use Rattle.std.proofs.lemmas.List.Quantifiers.{position-Some}
use Rattle.std.proofs.lemmas.Option.{slice_get-get_or, slice_get_within, slice_get-map, same_Some}
use Rattle.wasm_spec.specs.Module.{types, tags}
use Rattle.wasm_spec.specs.Module as plain
use Rattle.wasm_types.specs.declared.index.EngineOrModuleTypeIndex.{EngineOrModuleTypeIndex}
use Rattle.wasm_types.specs.declared.tag.Tag.{Tag}
use Rattle.wasm_types.specs.declared.sub.WasmSubType.{WasmSubType}
use Rattle.form_types.specs.Placed.{placed_groups}
use Rattle.form_types.proofs.Ruled.{size-places}
use Rattle.type_spec.specs.Interned.{Built, taken}
use Rattle.module_types.specs.Views.{interned_of}
use Rattle.module_types.specs.TypeList.{TypeList}
use Rattle.module_types.specs.Builder.{BuilderState}
use Rattle.wasm_types.specs.declared.tunables.Tunables.{Tunables}
use Rattle.wasm_index.specs.Index.{index_of}
use Rattle.init_plan.specs.declared.translation.ModuleTranslation.{ModuleTranslation}
use Rattle.module_environ.specs.Translated.{IsTranslated, starts_always}
use Rattle.translate.specs.Planned.{KeepsAnd}
use Rattle.command_words.specs.declared.command.Collector.{Collector}
use Rattle.interned_types.specs.Types.{declared, type_index, interned_at, interned_list, exception_at, exception_functions}
use Rattle.interned_types.specs.Tagged.{tags_of}
use Rattle.interned_types.proofs.Excepting.{excepted}
use Rattle.module_sections.proofs.FirstCauses.{contains-firsts}
use Rattle.translate.specs.Options.{header_size}
use Rattle.rule_breaks.specs.Search.{IsFirstWithout}
use Rattle.plan_excess.specs.declared.kinds.ExcessKind.{ExcessKind}
use Rattle.plan_excess.specs.declared.kinds.ExcessKind.TheVariants as kind
use Rattle.plan_excess.specs.Found.{IsSmall, HasSmall, FindsLarge}
use Rattle.plan_excess.specs.Large.{IsLargeType, IsLargeException, IsFirstLarge, HasSmallObjects, HasSmallExceptions}
use Rattle.plan_excess.proofs.Origins.{taken-below, taken-long}
use Rattle.plan_excess.proofs.Read.{all-at, before-at, lacks-at}
use Rattle.plan_excess.proofs.LargeTypes.{small-not-large, not-small-large}

-- ---- where declared types and exception types are

module _ (m : plain.Module) where
  list-long : length (interned_list m false).types ≡ length (taken (placed_groups m)).built.types + length (exception_functions m)
  list-long =
      let e = excepted (exception_functions m) (taken (placed_groups m)).built in
      omega (arith, ap length e.types, length-append (taken (placed_groups m)).built.types e.more, e.counted)

  declared-long : length (declared m) ≡ length (types m)
  declared-long = taken-long (placed_groups m) ∙ size-places (plain.groups m)

  type-listed : (i : ℕ) → i < length (types m) → interned_at m i < length (interned_list m false).types
  type-listed i lt =
      let below = taken-below (placed_groups m) i (omega (arith, lt, size-places (plain.groups m))) in
      omega (arith, below, list-long)

  type-at : (i : ℕ) → i < length (types m) → slice_get (map type_index (declared m)) i ≡ Some (type_index (interned_at m i))
  type-at i lt =
      slice_get-map type_index (declared m) i
      ∙ ap (option_map type_index) (slice_get-get_or (declared m) i 0 (omega (arith, lt, declared-long)))

  place-among : (t : ℕ → Bool) (ks : List ℕ) → 0 < length ks → unwrap_or (position t ks) 0 < length ks
  place-among t ks some = by (position t ks) refl where
    by : (o : Option ℕ) → position t ks ≡ o → unwrap_or o 0 < length ks
    by None is = some
    by (Some k) is = (position-Some t ks k 0 is).0

  tag-listed : (tag function : ℕ) → slice_get (tags m) tag ≡ Some function → exception_at m function < length (interned_list m false).types
  tag-listed tag function at =
      let ns = map (interned_at m) (tags m) in
      let inside : tag < length ns = omega (arith, slice_get_within (tags m) tag function at, length-map (tags m) (interned_at m)) in
      let first = (contains-firsts ns (get_or ns tag 0)).1 (Contains-get_or ns tag 0 inside) in
      let among = place-among (λ k. k == interned_at m function) (exception_functions m) (omega (arith, first.1)) in
      omega (arith, among, list-long)

  abbrev tag_in : ℕ → Tag
  tag_in i = record { signature = type_index (interned_at m i); exception = type_index (exception_at m i) }

  tag-at : (tag function : ℕ) → slice_get (tags m) tag ≡ Some function → slice_get (tags_of m) tag ≡ Some (tag_in function)
  tag-at tag function at = slice_get-map tag_in (tags m) tag ∙ ap (option_map tag_in) at

  tag-back : (tag : ℕ) (t : Tag) → slice_get (tags_of m) tag ≡ Some t → (function : ℕ) × (slice_get (tags m) tag ≡ Some function) × (tag_in function ≡ t)
  tag-back tag t at = by (slice_get (tags m) tag) refl (sym (slice_get-map tag_in (tags m) tag) ∙ at) where
    by : (o : Option ℕ) → slice_get (tags m) tag ≡ o → option_map tag_in o ≡ Some t
        → (function : ℕ) × (slice_get (tags m) tag ≡ Some function) × (tag_in function ≡ t)
    by None is e = absurd cc
    by (Some function) is e = (function, is, same_Some _ _ e)

-- ---- what is found

module _ (c : Collector) (m : plain.Module) (startup : Bool) (ts : List WasmSubType) (is : map interned_of ts ≡ (interned_list m startup).types) where
  abbrev small : EngineOrModuleTypeIndex → Type 0
  small = IsSmall (header_size c) ts

  abbrev small_tag : Tag → Type 0
  small_tag = HasSmall (header_size c) ts

  abbrev declared_types : List EngineOrModuleTypeIndex
  declared_types = map type_index (declared m)

  type-fits : (i : ℕ) → (i < length (types m) → small (type_index (interned_at m i))) → IsLargeType c m i → ⊥
  type-fits i fits x = small-not-large c m startup ts is (interned_at m i) (fits x.declared) x.large

  tag-fits : (tag : ℕ) → ((function : ℕ) → slice_get (tags m) tag ≡ Some function → small_tag (tag_in m function)) → IsLargeException c m tag → ⊥
  tag-fits tag fits x = small-not-large c m startup ts is (exception_at m x.function) (fits x.function x.stands) x.large

  objects-small : All small declared_types → HasSmallObjects c m
  objects-small all i = type-fits i (λ lt. all-at small declared_types all i _ (type-at m i lt))

  exceptions-small : All small_tag (tags_of m) → HasSmallExceptions c m
  exceptions-small all tag = tag-fits tag (λ function at. all-at small_tag (tags_of m) all tag _ (tag-at m tag function at))

  first-type : (i : ℕ) → IsFirstWithout small declared_types i → IsFirstLarge c m (Some (kind.Object i))
  first-type i first =
      let lt : i < length (types m) = omega (arith, first.listed, length-map (declared m) type_index, declared-long m) in
      let x = lacks-at small declared_types i first in
      let at : type_index (interned_at m i) ≡ x.entry = same_Some _ _ (sym (type-at m i lt) ∙ x.stands) in (
        record {
          declared = lt;
          large = not-small-large c m startup ts is (interned_at m i) (type-listed m i lt) (λ fits. x.lacks (subst small at fits));
        },
        λ j before. type-fits j (λ lt. before-at small declared_types i first.before j _ before (type-at m j lt)),
      )

  first-tag : (tag : ℕ) → HasSmallObjects c m → IsFirstWithout small_tag (tags_of m) tag → IsFirstLarge c m (Some (kind.Exception tag))
  first-tag tag objects first =
      let x = lacks-at small_tag (tags_of m) tag first in
      let b = tag-back m tag x.entry x.stands in (
        objects,
        record {
          function = b.0;
          stands = b.1;
          large = not-small-large c m startup ts is (exception_at m b.0) (tag-listed m tag b.0 b.1) (λ fits. x.lacks (subst small_tag b.2 fits));
        },
        λ j before. tag-fits j (λ function at. before-at small_tag (tags_of m) tag first.before j _ before (tag-at m j function at)),
      )

  pub finds-first : (found : Option ExcessKind) → FindsLarge (header_size c) ts declared_types (tags_of m) found → IsFirstLarge c m found
  finds-first None none = (objects-small none.0, exceptions-small none.1)
  finds-first (Some (kind.Object i)) first = first-type i first
  finds-first (Some (kind.Exception tag)) first = first-tag tag (objects-small first.0) first.1
  finds-first (Some kind.Input) first = absurd first
  finds-first (Some (kind.Image memory)) first = absurd first
  finds-first (Some kind.Context) first = absurd first

-- ---- of a translation

pub kept-first : (c : Collector) {tunables : Tunables} {bytes : List ℕ} {t : ModuleTranslation} {b : BuilderState}
    → IsTranslated tunables (index_of 0) 0 bytes t b → (l : TypeList) (listed : List EngineOrModuleTypeIndex) (tags : List Tag) → l ≡ b.list
    → listed ≡ t.module.types → tags ≡ t.module.tags → {E : Type 0} (r : Result (Option ExcessKind) E)
    → IfOk r (FindsLarge (header_size c) l.types listed tags) → IfOk r (λ found. KeepsAnd bytes (λ m. IsFirstLarge c m found))
kept-first c told l listed tags same types tagged (Ok found) finds =
    let m = told.meaning in
    let as_data : map interned_of l.types ≡ (interned_list m (starts_always m)).types =
    ap (λ (x : TypeList). map interned_of x.types) same ∙ ap (λ (x : Built). x.types) told.types.built in
    let all = rw (types ∙ told.translation.types.declared, tagged ∙ told.translation.types.tags) at finds in
    record { meaning = m; read = told.read; keeps = told.keeps; fact = finds-first c m (starts_always m) l.types as_data found all }
kept-first c told l listed tags same types tagged (Err e) finds = tt
