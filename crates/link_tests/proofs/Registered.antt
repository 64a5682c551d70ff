-- The effect of registrations and releases on the counts of held modules.
use Rattle.std.proofs.Common.{◌≡◌, ◌∙◌, ◌<◌, ℕ, inl, Bool, true, false, Option, Some, None, length, nat_eq, refl, sym, ap, subst, arith}
use Rattle.std.specs.Prelude.{IsSome, IfSome, if◌then◌else◌}
use Rattle.std.specs.Option.{option_map}
use Rattle.std.proofs.lemmas.Bool.{eqb-true, eq-eqb}
use Rattle.std.proofs.lemmas.Option.{none-some}
use Rattle.module_types.specs.TypeList.{TypeList}
use Rattle.type_registry.specs.declared.key.ModuleKey.{ModuleKey}
use Rattle.type_registry.specs.Changes.{registered, released, released_by, planned, IsFull}
use Rattle.type_registry.specs.Keys.{key_number}
use Rattle.module_types.specs.Listed.{Listed}
use Rattle.type_registry.specs.Registry.{Registry, RegistryState, Module, registry_of, count_of}
use Rattle.type_registry.specs.Standing.{Stands, MayRegister}
use Rattle.plan_link.specs.Linkable.{HasCount}
use Rattle.link_tests.specs.Growing.{MayGrow}

-- a count that is known is the one that a key has
pub has-count : (registry : RegistryState) (key : ModuleKey) (count : ℕ) → count_of (registry_of registry) (key_number key) ≡ Some count
    → HasCount registry key count
has-count registry key count is = subst (λ o. IfSome o (λ held. held ≡ count)) (sym is) refl

-- no module is held
pub has-none : (registry : RegistryState) (key : ModuleKey) (count : ℕ) → count_of (registry_of registry) (key_number key) ≡ None
    → HasCount registry key count
has-none registry key count is = subst (λ o. IfSome o (λ held. held ≡ count)) (sym is) tt

-- the list may be registered where it was not refused
pub may-register : (r : Registry) (l : TypeList) → Listed l → length l.types < 4294967295 → MayGrow r → (IsFull r l → ⊥) → MayRegister r l
may-register r l listed few may fits = record {
  listed = listed;
  few = few;
  most = may.most;
  fits = λ many. fits (inl many);
  sound = may.sound;
}

-- the module that is registered
pub own-count : (r : Registry) (l : TypeList) → Stands (registered r l) r.registrations l → count_of (registered r l) r.registrations ≡ Some (length l.types)
own-count r l st = ap (option_map (λ (m : Module). length m.indices)) st.held ∙ ap Some st.count

is-held : (o : Option Module) (count : ℕ) → option_map (λ (m : Module). length m.indices) o ≡ Some count → IsSome o
is-held None count is = absurd (none-some count is)
is-held (Some m) count is = refl

-- the others
pub other-count : (r : Registry) (l : TypeList) → ((k : ℕ) → IsSome (r.held k) → k < r.registrations) → (key count : ℕ)
    → count_of r key ≡ Some count → count_of (registered r l) key ≡ Some count
other-count r l lower key count is = by (nat_eq r.registrations key) refl where
  by : (b : Bool) → nat_eq r.registrations key ≡ b
      → option_map (λ (m : Module). length m.indices) (if b then Some (planned r l).listed else r.held key) ≡ Some count
  by true e = absurd (omega (arith, eqb-true r.registrations key e, lower key (is-held (r.held key) count is)))
  by false e = is

-- a module that was released
pub released-count : (r : Registry) (key : ℕ) → count_of (released r key) key ≡ None
released-count r key = by (r.held key) refl where
  by : (o : Option Module) → r.held key ≡ o → count_of (released_by r key o) key ≡ None
  by None is = ap (option_map (λ (m : Module). length m.indices)) is
  by (Some m) is = ap (λ b. option_map (λ (x : Module). length x.indices) (if b then None else r.held key)) (eq-eqb key key refl)
