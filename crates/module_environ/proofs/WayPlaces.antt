-- States of a builder while it processes the types of a module, and what a call that stops there
-- returns.
use Rattle.std.proofs.Common.{◌≡◌, ◌≢◌, ◌∙◌, ◌⊎◌, inl, inr, ℕ, Bool, true, false, List, length, map, Result, Ok, Err, refl, ap, arith}
use Rattle.std.specs.Prelude.{IfErr, OnErr}
use Rattle.std.proofs.lemmas.Bool.{cases_Bool}
use Rattle.wasm_spec.specs.Module as plain
use Rattle.rule_spec.specs.declared.rules.Rule.TheVariants.{L2}
use Rattle.rule_spec.specs.Lists as rule
use Rattle.rule_spec.specs.Rules.{Keeps}
use Rattle.type_spec.specs.Interned.{taken}
use Rattle.form_types.specs.Types.{TypesData}
use Rattle.form_types.specs.Numbered.{AreNumbered}
use Rattle.form_types.specs.Placed.{placed_groups}
use Rattle.form_rules.specs.declared.lists.Lists.{Lists}
use Rattle.wasm_types.specs.declared.index.EngineOrModuleTypeIndex.{EngineOrModuleTypeIndex}
use Rattle.module_types.specs.Builder.{Builder, BuilderState, builder_view, starts}
use Rattle.module_types.specs.declared.error.BuildError.{BuildError}
use Rattle.module_types.specs.declared.error.BuildError.TheVariants as build
use Rattle.module_types.proofs.NamingEarlier.{keeps-earlier}
use Rattle.module_environ.specs.declared.error.EnvironError.{EnvironError}
use Rattle.module_environ.specs.declared.error.EnvironError.TheVariants as refusal
use Rattle.module_environ.specs.Errors.{error_of_build}
use Rattle.module_sections.specs.Filling.{module_in, IsGathered}
use Rattle.module_environ.specs.Forming.{FormCause}
use Rattle.interned_types.specs.OnTheWay.{after_types, after_tags, IsOnTheWay}
use Rattle.module_environ.specs.OnTheWay.{StopsOnTheWay}
use Rattle.module_environ.specs.Readable.{IsReadable, SucceedsOrNoMemory, IsPoisonedOrNoMemory}
use Rattle.interned_types.specs.Tagged.{CanTag}
use Rattle.interned_types.specs.Types.{declared, type_index, AreTypesOf, HoldsGroupsAlone}

-- the types of the module whose lists were gathered
pub types-gathered : (l : Lists) → IsGathered l → (t : TypesData) → AreNumbered (module_in l) t → AreTypesOf (module_in l) t
types-gathered l gathered t numbered =
    record { numbered = numbered; earlier = keeps-earlier (module_in l) gathered.keeps; few = gathered.few.types }

-- and its tags
pub can-tag : (l : Lists) → IsGathered l → {t : TypesData} → AreTypesOf (module_in l) t → (types : List EngineOrModuleTypeIndex) (b : Builder)
    → types ≡ map type_index (declared (module_in l)) → b.built ≡ (taken (placed_groups (module_in l))).built → (validator : ℕ)
    → HoldsGroupsAlone validator b → (tags : List ℕ) → tags ≡ l.spaces.tags.items → CanTag (module_in l) tags types b
can-tag l gathered of types b listed built validator alone tags are = record {
  earlier = of.earlier;
  few = of.few;
  listed = listed;
  built = built;
  validator = validator;
  alone = alone;
  named = are ∙ ap (λ (r : rule.Lists). r.tags) gathered.lists;
  functions = (gathered.keeps L2).tags;
}

module _ (m : plain.Module) (validator : ℕ) (t : TypesData) (numbered : AreNumbered m t) (made : t.validator ≡ validator) where
  pub at-type : (b : Builder) → (count : ℕ) × (b ≡ after_types t count) → IsOnTheWay m validator b
  at-type b at = record { types = t; numbered = numbered; made = made; place = inl at }

  -- all declared types were interned
  module _ (groups : Builder) (whole : groups ≡ after_types t (length t.declared)) (tags : List ℕ) (named : tags ≡ plain.tags m) where
    there : (count : ℕ) → after_tags m tags groups count ≡ after_tags m (plain.tags m) (after_types t (length t.declared)) count
    there count = λ i. after_tags m (named i) (whole i) count

    pub at-tag : (b : Builder) → (count : ℕ) × (b ≡ after_tags m tags groups count) → IsOnTheWay m validator b
    at-tag b at = record { types = t; numbered = numbered; made = made; place = inr (inl (at.0, at.1 ∙ there at.0)) }

    pub at-startup : (tagged b : Builder) → tagged ≡ after_tags m tags groups (length tags) → b ≡ starts tagged → IsOnTheWay m validator b
    at-startup tagged b all is = record {
      types = t;
      numbered = numbered;
      made = made;
      place = inr (inr (is ∙ ap starts (all ∙ there (length tags)
          ∙ ap (λ (ns : List ℕ). after_tags m (plain.tags m) (after_types t (length t.declared)) (length ns)) named)));
    }

-- ---- results

-- a builder that is not poisoned reports that there is no memory
pub build-memory : (e : BuildError) → (e ≡ build.Poisoned → ⊥) → error_of_build e ≡ refusal.OutOfMemory
build-memory build.OutOfMemory sound = refl
build-memory build.Poisoned sound = absurd (sound refl)

module _ {A : Type 0} where
  pub none_else : (r : Result A EnvironError) (poisoned : Bool) → (poisoned ≡ true → r ≡ Err refusal.Poisoned)
      → (poisoned ≡ false → SucceedsOrNoMemory r) → (m : plain.Module) → IfErr r (FormCause m poisoned)
  none_else (Ok a) poisoned told sound m = tt
  none_else (Err e) true told sound m = let same : e ≡ refusal.Poisoned = cc (told refl) in rw same refl
  none_else (Err e) false told sound m = rw (sound refl) tt

  pub unchanged : (r : Result A EnvironError) (old new : BuilderState) → (old.is_poisoned ≡ true → new ≡ old)
      → (old.is_poisoned ≡ false → SucceedsOrNoMemory r) → OnErr r (r ≢ Err refusal.OutOfMemory → new ≡ old)
  unchanged (Ok a) old new stays sound = tt
  unchanged (Err e) old new stays sound = λ other. grind (arith, cases_Bool old.is_poisoned, stays, sound, other)

  pub told_poisoned : (r : Result A EnvironError) → r ≡ Err refusal.Poisoned → IsPoisonedOrNoMemory r
  told_poisoned r is = rw is tt

-- where the builder was poisoned it is as it was
pub stops-anyhow : (old new : BuilderState) (P : Type 0) → (old.is_poisoned ≡ true → new ≡ old)
    → (old.is_poisoned ≡ false → new.is_poisoned ≡ false → (new ≡ old) ⊎ P) → new.is_poisoned ≡ false → (new ≡ old) ⊎ P
stops-anyhow old new P stays stops sound = elim (cases_Bool old.is_poisoned) [ inl is ↦ inl (stays is) | inr is ↦ stops is sound ]

-- over the bytes that spell the module
pub stops-read : (validator : ℕ) (bytes : List ℕ) (m : plain.Module) (old new : BuilderState) → IsReadable bytes m
    → (new.is_poisoned ≡ false → (new ≡ old) ⊎ (Keeps m × IsOnTheWay m validator (builder_view new))) → StopsOnTheWay validator bytes old new
stops-read validator bytes m old new readable stops sound =
    elim (stops sound) [
      | inl unchanged ↦ inl unchanged
      | inr way ↦ inr (m, readable, way.0, way.1)
    ]
