-- The names of exports are the same with the types of modules and with the engine's.
use Rattle.std.proofs.Common.{◌≡◌, ◌∙◌, ℕ, ◌+◌, Bool, true, false, List, [], ◌∷◌, ◌++◌, length, map, take, slice_get, Some, refl, sym, ap, subst}
use Rattle.std.specs.Prelude.{Any, IsSome, if◌then◌else◌}
use Rattle.std.specs.List.{flat_map, zip}
use Rattle.std.proofs.lemmas.List.{map-append, take-map}
use Rattle.std.proofs.lemmas.List.Concat.{flat_map-cons}
use Rattle.std.proofs.lemmas.Option.{slice_get-get_or, slice_get-map, slice_get_within, get_or_from_slice_get, same_Some}
use Rattle.std.proofs.lemmas.Slice.Zip.{firsts-zip}
use Rattle.std.specs.Option.{option_map}
use Rattle.type_registry.specs.Keys.{key_number}
use Rattle.type_registry.specs.Registry.{Registry, RegistryState, registry_of}
use Rattle.type_registry.specs.declared.key.ModuleKey.{ModuleKey}
use Rattle.import_match.specs.Definitions.{Definition, TwoNames, names_eq, found_from, IsDefined}
use Rattle.import_match.specs.Linking.{engine_definitions, exported}
use Rattle.import_match.proofs.Listing.{slice_get-from_map}
use Rattle.plan_link.specs.declared.program.ProgramModule.{ProgramModule}
use Rattle.plan_link.specs.Program.{Member, all_exported, named_exports, RepeatsNames}
use Rattle.plan_link.specs.Members.{IsTaken}

abbrev pub names : List Definition → List TwoNames
names ds = map (λ (d : Definition). d.0) ds

-- ---- definitions of the same names

found-same : (k : ℕ) (ds es : List Definition) → names ds ≡ names es → (n : TwoNames) → IsSome (found_from k ds n) → IsSome (found_from k es n)
found-same k [] [] same n is = is
found-same k [] (e ∷ es) same n is = absurd cc
found-same k (d ∷ ds) [] same n is = absurd cc
found-same k (d ∷ ds) (e ∷ es) same n is =
    let first : d.0 ≡ e.0 = cc in
    let rest : names ds ≡ names es = cc in
    subst (λ (x : TwoNames). IsSome (if names_eq n x then Some (k, e.1) else found_from (k + 1) es n)) first
    (by (names_eq n d.0) (found-same (k + 1) ds es rest n) is)
  where
    by : (b : Bool) → (IsSome (found_from (k + 1) ds n) → IsSome (found_from (k + 1) es n))
        → IsSome (if b then Some (k, d.1) else found_from (k + 1) ds n) → IsSome (if b then Some (k, e.1) else found_from (k + 1) es n)
    by true later is = refl
    by false later is = later is

-- one of some definitions is under names that are defined
abbrev pub IsAnyIn : List Definition → List Definition → Type 0
IsAnyIn ds es = Any (λ (d : Definition). IsDefined ds d.0) es

pub any-same : (ds ds' es es' : List Definition) → names ds ≡ names ds' → names es ≡ names es' → IsAnyIn ds es → IsAnyIn ds' es'
any-same ds ds' es es' same more (k, d, less, is, defined) =
    let at : slice_get es k ≡ Some d = slice_get-get_or es k d less ∙ ap Some is in
    let named : slice_get (names es') k ≡ Some d.0 =
    ap (λ ns. slice_get ns k) (sym more) ∙ slice_get-map (λ (x : Definition). x.0) es k ∙ ap (option_map (λ (x : Definition). x.0)) at
    in
    let other = slice_get-from_map (λ (x : Definition). x.0) es' k d.0 named in (
      k,
      other.0,
      slice_get_within es' k other.0 other.1,
      get_or_from_slice_get es' k other.0 other.0 other.1,
      subst (λ (n : TwoNames). IsDefined ds' n) (sym other.2) (found-same 0 ds ds' same d.0 defined),
    )

-- ---- of modules

engine-names : (r : Registry) (key : ℕ) (ds : List Definition) → names (engine_definitions r key ds) ≡ names ds
engine-names r key [] = refl
engine-names r key (d ∷ ds) = ap (λ (ns : List TwoNames). d.0 ∷ ns) (engine-names r key ds)

module _ (registry : RegistryState) where
  abbrev exports : Member → List Definition
  exports m = exported registry m.1 m.0.plan.now.translation.module m.0.name.now

  own-names : (m : Member) → names (exports m) ≡ names (named_exports m.0)
  own-names m = engine-names (registry_of registry) (key_number m.1) (named_exports m.0)

  all-names : (ms : List Member) → names (all_exported registry ms) ≡ names (flat_map named_exports (map (λ (m : Member). m.0) ms))
  all-names [] = refl
  all-names (m ∷ ms) =
      let mods = map (λ (x : Member). x.0) ms in
      ap names (flat_map-cons exports m ms)
      ∙ map-append (λ (d : Definition). d.0) (exports m) (all_exported registry ms)
      ∙ ap (λ ns. ns ++ names (all_exported registry ms)) (own-names m)
      ∙ ap (λ ns. names (named_exports m.0) ++ ns) (all-names ms)
      ∙ sym (map-append (λ (d : Definition). d.0) (named_exports m.0) (flat_map named_exports mods))
      ∙ sym (ap names (flat_map-cons named_exports m.0 mods))

  module _ (modules : List ProgramModule) (keys : List ModuleKey) (long : length keys ≡ length modules) (i : ℕ) (m : ProgramModule) (key : ModuleKey)
      (at : slice_get modules i ≡ Some m) where
    abbrev before : List Member
    before = take i (zip modules keys)

    before-names : names (all_exported registry before) ≡ names (flat_map named_exports (take i modules))
    before-names =
        all-names before
        ∙ ap (λ ms. names (flat_map named_exports ms)) (sym (take-map (λ (x : Member). x.0) i (zip modules keys)) ∙ ap (take i) (firsts-zip modules keys long))

    -- what is taken repeats names
    pub taken-repeats : IsTaken registry (all_exported registry before) m key → RepeatsNames modules i
    taken-repeats taken = record {
      repeating = m;
      at = at;
      twice = any-same (all_exported registry before) (flat_map named_exports (take i modules)) (exports (m, key)) (named_exports m) before-names
          (own-names (m, key)) taken;
    }

    pub repeats-taken : RepeatsNames modules i → IsTaken registry (all_exported registry before) m key
    repeats-taken repeats =
        let same : repeats.repeating ≡ m = same_Some repeats.repeating m (sym repeats.at ∙ at) in
        any-same (flat_map named_exports (take i modules)) (all_exported registry before) (named_exports m) (exports (m, key)) (sym before-names)
        (sym (own-names (m, key))) (subst (λ (x : ProgramModule). IsAnyIn (flat_map named_exports (take i modules)) (named_exports x)) same repeats.twice)
