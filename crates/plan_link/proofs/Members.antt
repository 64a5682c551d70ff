-- Members of a program, one after another.
use Rattle.std.proofs.Common.{◌≡◌, ◌∙◌, ◌<◌, ◌≤◌, ◌+◌, ℕ, List, [], ◌∷◌, ◌++◌, length, take, get_or, slice_get, All, Option, Some, None, inl, inr, refl, sym, ap, subst, arith, length-append}
use Rattle.std.specs.Prelude.{◌⊎◌, unwrap_or, option_and_then}
use Rattle.std.specs.List.{zip}
use Rattle.std.specs.Option.{option_map}
use Rattle.std.proofs.lemmas.List.{take_more, take-append-le, flat_map_more}
use Rattle.std.proofs.Math.Seq.{take-append_seam}
use Rattle.std.proofs.lemmas.Option.{none-some, slice_get-get_or, slice_get_past, slice_get_within, get_or_from_slice_get}
use Rattle.std.proofs.lemmas.Slice.Zip.{AllZip-long}
use Rattle.indexmap.proofs.ReorderLemmas.{slice_get-zip_some}
use Rattle.type_registry.specs.Keys.{key_number}
use Rattle.type_registry.specs.Registry.{Registry, RegistryState, Module, registry_of, index_at, count_of}
use Rattle.type_registry.specs.Standing.{Stands}
use Rattle.type_registry.specs.declared.key.ModuleKey.{ModuleKey}
use Rattle.import_match.specs.Linking.{exported}
use Rattle.import_match.proofs.Listing.{All-slice_get}
use Rattle.plan_link.specs.declared.program.LinkedModule.{LinkedModule}
use Rattle.plan_link.specs.declared.program.ProgramModule.{ProgramModule}
use Rattle.plan_link.specs.declared.program_error.ProgramError.{ProgramError}
use Rattle.plan_link.specs.declared.program_error.ProgramError.TheVariants as refused
use Rattle.plan_link.specs.Program.{Member, IsHeldIn, all_exported, IsLinkedBy, AreLinked, RepeatsNames}
use Rattle.plan_link.specs.Members.{IsLinkableModule, AreHeld, IsRefusedAt, IsUnlinked}
use Rattle.plan_link.proofs.Positions.{at-either, zip-all}

-- ---- indices of types

abbrev listed-at : Option Module → ℕ → Option ℕ
listed-at o i = option_and_then (λ (m : Module). slice_get m.indices i) o

abbrev listed-count : Option Module → ℕ
listed-count o = unwrap_or (option_map (λ (m : Module). length m.indices) o) 0

past : (o : Option Module) (i : ℕ) → listed-count o ≤ i → listed-at o i ≡ None
past None i many = refl
past (Some m) i many = slice_get_past m.indices i many

below : (o : Option Module) (i : ℕ) → i < listed-count o → listed-at o i ≡ None → ⊥
below None i less none = absurd (omega (arith, less))
below (Some m) i less none = absurd (none-some _ (sym none ∙ slice_get-get_or m.indices i 0 less))

-- a module has no type past their count
pub none-past : (r : Registry) (key i : ℕ) → unwrap_or (count_of r key) 0 ≤ i → index_at r key i ≡ None
none-past r key i many = past (r.held key) i many

pub some-below : (r : Registry) (key i : ℕ) → i < unwrap_or (count_of r key) 0 → index_at r key i ≡ None → ⊥
some-below r key i less none = below (r.held key) i less none

-- ---- members

-- the members so far, and the next
pub one-more : (members : List Member) (i : ℕ) (m : Member) → slice_get members i ≡ Some m → take (i + 1) members ≡ take i members ++ m ∷ []
one-more members i m at = take_more members i m (slice_get_within members i m at) ∙ ap (λ x. take i members ++ x ∷ []) (get_or_from_slice_get members i m m at)

-- the member at a position
pub record MemberAt (registry : RegistryState) (modules : List ProgramModule) (keys : List ModuleKey) (i : ℕ) (m : ProgramModule) (key : ModuleKey) : Type 0 where
  pub at : slice_get modules i ≡ Some m
  pub long : length keys ≡ length modules
  pub member : slice_get (zip modules keys) i ≡ Some (m, key)
  pub stands : Stands (registry_of registry) (key_number key) m.plan.now.types
  pub linkable : IsLinkableModule m

pub member-at : (registry : RegistryState) (modules : List ProgramModule) (keys : List ModuleKey) → AreHeld registry modules keys
    → All IsLinkableModule modules → (i : ℕ) → i < length modules → (m : ProgramModule) → m ≡ get_or modules i m → (d : ModuleKey)
    → MemberAt registry modules keys i m (get_or keys i d)
member-at registry modules keys held linkable i less m is d =
    let Holds : ProgramModule → ModuleKey → Type 0 = λ x k. IsHeldIn registry (x, k) in
    let long = AllZip-long Holds modules keys held in
    let at : slice_get modules i ≡ Some m = slice_get-get_or modules i m less ∙ ap Some (sym is) in
    let at_key = slice_get-get_or keys i d (omega (arith, less, long)) in
    let member = slice_get-zip_some modules keys i m (get_or keys i d) at at_key in
    record {
      at = at;
      long = long;
      member = member;
      stands = All-slice_get (IsHeldIn registry) (zip modules keys) i (m, get_or keys i d) (zip-all Holds modules keys held) member;
      linkable = All-slice_get IsLinkableModule modules i m linkable at;
    }

-- the exports of one more
pub exported-more : (registry : RegistryState) (ms : List Member) (m : Member)
    → all_exported registry (ms ++ m ∷ []) ≡ all_exported registry ms ++ exported registry m.1 m.0.plan.now.translation.module m.0.name.now
exported-more registry ms m =
    sym (flat_map_more (λ (x : Member). exported registry x.1 x.0.plan.now.translation.module x.0.name.now) [] ms m)

-- the first module that repeats names is refused
pub unlinked : (modules : List ProgramModule) (i : ℕ) (Taken : Type 0) (e : ProgramError) → IsRefusedAt i Taken e → (Taken → RepeatsNames modules i)
    → ((k : ℕ) → k < i → RepeatsNames modules k → ⊥) → IsUnlinked modules e
unlinked modules i Taken (refused.Duplicate k) (is, taken) repeats once = record {
  repeats = subst (RepeatsNames modules) (sym is) (repeats taken);
  first = λ j less. once j (omega (arith, less, is));
}
unlinked modules i Taken (refused.TooManyTypes k) none repeats once = absurd none
unlinked modules i Taken refused.OutOfMemory _ repeats once = tt

-- a member that is linked behind others
pub linked-more : (registry : RegistryState) (ms : List Member) (m : Member) (ls : List LinkedModule) (l : LinkedModule) → AreLinked registry ms ls
    → IsLinkedBy registry (all_exported registry ms) m l → AreLinked registry (ms ++ m ∷ []) (ls ++ l ∷ [])
linked-more registry ms m ls l so_far next = record {
  counted = omega (arith, so_far.counted, length-append ls (l ∷ []), length-append ms (m ∷ []));
  each = λ k x found at_m at_l. by k x found (at-either ms m k x at_m) (at-either ls l k found at_l);
} where
  by : (k : ℕ) (x : Member) (found : LinkedModule) → ((k < length ms) × (slice_get ms k ≡ Some x)) ⊎ ((k ≡ length ms) × (m ≡ x))
      → ((k < length ls) × (slice_get ls k ≡ Some found)) ⊎ ((k ≡ length ls) × (l ≡ found))
      → IsLinkedBy registry (all_exported registry (take k (ms ++ m ∷ []))) x found
  by k x found (inl here) (inl there) =
      subst (λ (before : List Member). IsLinkedBy registry (all_exported registry before) x found)
      (sym (take-append-le k ms (m ∷ []) (omega (arith, here.0)))) (so_far.each k x found here.1 there.1)
  by k x found (inl here) (inr there) = absurd (omega (arith, here.0, there.0, so_far.counted))
  by k x found (inr here) (inl there) = absurd (omega (arith, here.0, there.0, so_far.counted))
  by k x found (inr here) (inr there) =
      let front : take k (ms ++ m ∷ []) ≡ ms = ap (λ (n : ℕ). take n (ms ++ m ∷ [])) here.0 ∙ take-append_seam ms (m ∷ []) in
      subst (λ (before : List Member). IsLinkedBy registry (all_exported registry before) x found) (sym front)
      (subst (λ (y : Member). IsLinkedBy registry (all_exported registry ms) y found) here.1
      (subst (λ (y : LinkedModule). IsLinkedBy registry (all_exported registry ms) m y) there.1 next))
