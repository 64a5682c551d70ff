-- Whole programs: capacity, equal types, and why one is refused.
use Rattle.std.proofs.Common.{◌≡◌, ◌∙◌, ◌≤◌, ◌+◌, ℕ, zero, suc, List, [], ◌∷◌, length, map, take, slice_get, All, Some, Result, Ok, Err, inl, inr, refl, sym, ap, subst, arith}
use Rattle.std.specs.Prelude.{◌⊎◌, IfErr, OnOk, IsOk, IsErrOf}
use Rattle.std.specs.List.{sum_by, zip}
use Rattle.std.specs.Option.{option_map}
use Rattle.std.proofs.lemmas.Bool.{cases_order}
use Rattle.std.proofs.lemmas.List.Sums.{sum_by-cons}
use Rattle.std.proofs.lemmas.Option.{slice_get-map, slice_get_within}
use Rattle.std.proofs.lemmas.Slice.Zip.{AllZip-long, firsts-zip}
use Rattle.type_spec.specs.Equality.{SameType}
use Rattle.module_types.specs.ListGroups.{list_groups}
use Rattle.module_types.specs.Listed.{Listed, list_of}
use Rattle.module_types.specs.TypeList.{TypeList}
use Rattle.type_registry.specs.Keys.{key_number}
use Rattle.type_registry.specs.Registry.{Registry, RegistryState, registry_of}
use Rattle.type_registry.specs.Standing.{Stands, TellsTypes}
use Rattle.type_registry.specs.declared.key.ModuleKey.{ModuleKey}
use Rattle.import_match.proofs.Listing.{All-slice_get, All-from_slice_get, slice_get-from_map}
use Rattle.import_match.specs.Linking.{wanted}
use Rattle.plan_link.specs.declared.answer.ImportAnswer.{ImportAnswer}
use Rattle.plan_link.specs.Answers.{IsBelow}
use Rattle.plan_link.specs.declared.program.LinkedModule.{LinkedModule}
use Rattle.plan_link.specs.declared.program.ProgramModule.{ProgramModule}
use Rattle.plan_link.specs.declared.program_error.ProgramError.{ProgramError}
use Rattle.plan_link.specs.declared.program_error.ProgramError.TheVariants as refused
use Rattle.plan_link.specs.Program.{Member, ShareIndices, GivesEarlier, all_exported, IsHeldIn, TellApart, AreLinked, IsProgram, IsCrowded, IsDuplicate, RepeatsNames}
use Rattle.plan_link.specs.Members.{IsLinkableModule, AreHeld, IsUnlinked}
use Rattle.plan_link.proofs.Below.{answers-below}
use Rattle.plan_link.proofs.Positions.{zip-all, some-at}

-- ---- capacity

-- more modules have no fewer types
grows : {X : Type 0} (f : X → ℕ) (xs : List X) (i j : ℕ) → i ≤ j → sum_by f (take i xs) ≤ sum_by f (take j xs)
grows f xs zero j le = omega arith
grows f [] (suc i) zero le = absurd (omega (arith, le))
grows f [] (suc i) (suc j) le = omega arith
grows f (x ∷ xs) (suc i) zero le = absurd (omega (arith, le))
grows f (x ∷ xs) (suc i) (suc j) le =
    omega (arith, sum_by-cons f x (take i xs), sum_by-cons f x (take j xs), grows f xs i j (omega (arith, le)))

-- they pass the capacity at one module
pub crowded-once : (ms : List ProgramModule) (i j : ℕ) → IsCrowded ms i → IsCrowded ms j → i ≡ j
crowded-once ms i j a b =
    let f : ProgramModule → ℕ = λ m. length m.plan.now.types.types in
    elim (cases_order i j) [
      | inl is ↦ is
      | inr other ↦ elim other [
        | inl less ↦ absurd (omega (arith, a.passes, b.fits, grows f ms (i + 1) j (omega (arith, less))))
        | inr more ↦ absurd (omega (arith, b.passes, a.fits, grows f ms (j + 1) i (omega (arith, more))))
      ]
    ]

-- ---- equal types

-- types of two held lists have one index exactly where they are equal
abbrev pub Tells : Type 0
Tells = (r : Registry) (a b : ℕ) (l k : TypeList) → Listed l → Listed k → Stands r a l → Stands r b k → TellsTypes r a l b k

pub program-of : Tells → (registry : RegistryState) (modules : List ProgramModule) (keys : List ModuleKey) → AreHeld registry modules keys
    → All IsLinkableModule modules → (linked : List LinkedModule) → AreLinked registry (zip modules keys) linked → IsProgram modules linked
program-of tells registry modules keys held linkable linked is =
    let Holds : ProgramModule → ModuleKey → Type 0 = λ x k. IsHeldIn registry (x, k) in
    let members = zip modules keys in
    let in_order : map (λ (m : Member). m.0) members ≡ modules = firsts-zip modules keys (AllZip-long Holds modules keys held) in
    let stands : All (IsHeldIn registry) members = zip-all Holds modules keys held in
    let listed : (i : ℕ) (a : Member) → slice_get members i ≡ Some a → Listed a.0.plan.now.types =
    λ i a at. (All-slice_get IsLinkableModule modules i a.0 linkable (ap (λ (ms : List ProgramModule). slice_get ms i) (sym in_order)
    ∙ slice_get-map (λ (m : Member). m.0) members i ∙ ap (option_map (λ (m : Member). m.0)) at)).listed
    in
    record {
      registry = registry;
      members = members;
      in_order = in_order;
      held = stands;
      tells = All-from_slice_get (λ (a : Member). All (TellApart registry a) members) members (λ i a at_a.
          All-from_slice_get (TellApart registry a) members (λ j b at_b.
          tells (registry_of registry) (key_number a.1) (key_number b.1) a.0.plan.now.types b.0.plan.now.types (listed i a at_a) (listed j b at_b)
          (All-slice_get (IsHeldIn registry) members i a stands at_a) (All-slice_get (IsHeldIn registry) members j b stands at_b)));
      linked = is;
    }

-- ---- refusals

pub duplicate-once : (ms : List ProgramModule) (i j : ℕ) → IsDuplicate ms i → IsDuplicate ms j → i ≡ j
duplicate-once ms i j a b =
    elim (cases_order i j) [
      | inl is ↦ is
      | inr other ↦ elim other [
        | inl less ↦ absurd (b.first i less a.repeats)
        | inr more ↦ absurd (a.first j more b.repeats)
      ]
    ]

pub repeated-of : {A : Type 0} (ms : List ProgramModule) (r : Result A ProgramError) → OnOk r ((k : ℕ) → RepeatsNames ms k → ⊥) → IfErr r (IsUnlinked ms)
    → (k : ℕ) → IsDuplicate ms k → IsErrOf r (refused.Duplicate k) ⊎ IsErrOf r refused.OutOfMemory
repeated-of ms (Ok x) once err k twice = absurd (once k twice.repeats)
repeated-of ms (Err (refused.Duplicate j)) once err k twice = inl (ap (λ (n : ℕ). Err (refused.Duplicate n)) (duplicate-once ms j k err twice))
repeated-of ms (Err (refused.TooManyTypes j)) once err k twice = absurd err
repeated-of ms (Err refused.OutOfMemory) once err k twice = inr refl

pub complete-of : {A : Type 0} (ms : List ProgramModule) (r : Result A ProgramError) → IfErr r (IsUnlinked ms) → ((k : ℕ) → IsDuplicate ms k → ⊥)
    → IsOk r ⊎ IsErrOf r refused.OutOfMemory
complete-of ms (Ok x) err none = inl refl
complete-of ms (Err (refused.Duplicate j)) err none = absurd (none j err)
complete-of ms (Err (refused.TooManyTypes j)) err none = absurd err
complete-of ms (Err refused.OutOfMemory) err none = inr refl

-- ---- numbers of exports

-- imports are given by exports before the module's own
pub program-below : (ms : List ProgramModule) (ls : List LinkedModule) → IsProgram ms ls → All GivesEarlier ls
program-below ms ls is =
    All-from_slice_get GivesEarlier ls (λ k l at.
    let member = some-at is.members k (omega (arith, slice_get_within ls k l at, is.linked.counted)) in
    let m = member.0 in
    let ds = all_exported is.registry (take k is.members) in
    let h = is.linked.each k m l member.1 at in
    subst (λ (answers : List ImportAnswer). All (IsBelow l.first_export) answers) (sym h.answers)
    (answers-below ds (wanted is.registry m.1 m.0.plan.now.translation.module) l.first_export (omega (arith, h.first_export))))

-- ---- indices of types

module _ (ms : List ProgramModule) (ls : List LinkedModule) (is : IsProgram ms ls) where
  -- the member that has a module
  member-of : (k : ℕ) (m : ProgramModule) → slice_get ms k ≡ Some m → (x : Member) × (slice_get is.members k ≡ Some x) × (x.0 ≡ m)
  member-of k m at = slice_get-from_map (λ (x : Member). x.0) is.members k m (ap (λ (xs : List ProgramModule). slice_get xs k) is.in_order ∙ at)

  pub program-shares : ShareIndices ms ls
  program-shares a b m n x y at_m at_n at_x at_y i j less_i less_j =
      let first = member-of a m at_m in
      let second = member-of b n at_n in
      let one = is.linked.each a first.0 x first.1 at_x in
      let two = is.linked.each b second.0 y second.1 at_y in
      let tells = All-slice_get (TellApart is.registry first.0) is.members b second.0
      (All-slice_get (λ (p : Member). All (TellApart is.registry p) is.members) is.members a first.0 is.tells first.1) second.1 in
      let same = tells i j (rw first.2 less_i) (rw second.2 less_j) in (
        λ e. subst (λ (p : ProgramModule). SameType (list_groups (list_of p.plan.now.types)) (list_groups (list_of n.plan.now.types)) i j) first.2
            (subst (λ (q : ProgramModule). SameType (list_groups (list_of first.0.0.plan.now.types)) (list_groups (list_of q.plan.now.types)) i j) second.2
            (same.0 (sym (one.types i) ∙ e ∙ two.types j))),
        λ e. one.types i
            ∙ same.1 (subst (λ (p : ProgramModule). SameType (list_groups (list_of p.plan.now.types)) (list_groups (list_of second.0.0.plan.now.types)) i j) (sym first.2)
            (subst (λ (q : ProgramModule). SameType (list_groups (list_of m.plan.now.types)) (list_groups (list_of q.plan.now.types)) i j) (sym second.2) e))
            ∙ sym (two.types j),
      )
