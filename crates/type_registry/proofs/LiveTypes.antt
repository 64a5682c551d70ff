-- An index has a type exactly where it is live.
use Rattle.std.proofs.Common.{if◌then◌else◌, ◌≡◌, ◌∙◌, ◌↔◌, ◌<◌, ℕ, Bool, true, false, nat_eq, List, [], ◌∷◌, ◌++◌, length, map, Contains, Option, Some, None, refl, sym, ap, arith, eq-eqb}
use Rattle.std.specs.Borrow.{Bor}
use Rattle.std.specs.Prelude.{IsSome, is_some, ◌||◌}
use Rattle.std.specs.Option.{option_copied, option_map}
use Rattle.std.specs.Cmp.{nat_eq_equiv}
use Rattle.std.specs.List.{list_any, zip}
use Rattle.std.specs.Map.{lookup}
use Rattle.std.proofs.lemmas.Bool.{eqb-true, ne_eqb}
use Rattle.std.proofs.lemmas.Bool.Decides.{nat_tests}
use Rattle.std.proofs.lemmas.List.{length-map}
use Rattle.std.proofs.lemmas.List.Folds.{list_any-append}
use Rattle.std.proofs.lemmas.Map.Views.{Contains-from_any, list_any-from_Contains}
use Rattle.wasm_types.specs.declared.sub.WasmSubType.{WasmSubType}
use Rattle.wasm_types.specs.TypeViews.{sub_type_of}
use Rattle.type_registry.specs.Registry.{Registry, Group, Groups, UsedType, indices_of, live, type_at, used_type, used_types}
use Rattle.type_registry.specs.Standing.{AreOrdered}
use Rattle.type_registry.specs.Balanced.{IsBalanced}
use Rattle.type_registry.proofs.Sound.{found, found-above}
use Rattle.type_registry.proofs.UsedTypes.{or_else, lookup-both}

zip-has : (n : ℕ) (is : List ℕ) (ts : List UsedType) → length is ≡ length ts → is_some (lookup (nat_eq n) (zip is ts)) ≡ list_any (nat_eq n) is
zip-has n [] [] long = refl
zip-has n [] (t ∷ ts) long = refl
zip-has n (i ∷ is) [] long = absurd cc
zip-has n (i ∷ is) (t ∷ ts) long = let rest = zip-has n is ts (cc) in grind (arith, nat_tests)

either-some : (a b : Option UsedType) → is_some (or_else a b) ≡ (is_some a || is_some b)
either-some None b = refl
either-some (Some t) b = refl

-- each group has as many indices as members
abbrev AreSized : Groups → Type 0
AreSized gs = (i : ℕ) (g : Group) → found gs i ≡ Some g → length g.indices ≡ length g.canonical

types-of-live : (gs : Groups) (n : ℕ) → AreOrdered gs → AreSized gs → is_some (lookup (nat_eq n) (used_types gs)) ≡ list_any (nat_eq n) (indices_of gs)
types-of-live [] n ordered sized = refl
types-of-live (e ∷ gs) n ordered sized =
    let types = map (used_type e.1.indices) e.1.canonical in
    let here : length e.1.indices ≡ length e.1.canonical = sized e.0 e.1 (ap (λ (c : Bool). if c then Some e.1 else found gs e.0) (eq-eqb e.0 e.0 refl)) in
    let long : length e.1.indices ≡ length types = here ∙ sym (length-map e.1.canonical (used_type e.1.indices)) in
    let behind : AreSized gs = λ i g is. sized i g (later i g is) in
    ap is_some (lookup-both n (zip e.1.indices types) (used_types gs))
    ∙ either-some (lookup (nat_eq n) (zip e.1.indices types)) (lookup (nat_eq n) (used_types gs))
    ∙ (λ j. zip-has n e.1.indices types long j || types-of-live gs n ordered.1 behind j)
    ∙ sym (list_any-append (nat_eq n) e.1.indices (indices_of gs)) where
      later : (i : ℕ) (g : Group) → found gs i ≡ Some g → found (e ∷ gs) i ≡ Some g
      later i g is = let low = found-above gs e.0 i g ordered.0 is in grind (arith, ne_eqb)

live-types : (r : Registry) → IsBalanced r → (n : ℕ) → IsSome (type_at r n) ↔ Contains (live r) n
live-types r b n =
    let same = types-of-live r.groups n b.sound.ordered b.sound.members in (
      λ some. Contains-from_any eqb-true n (live r) (sym same ∙ some),
      λ has. same ∙ list_any-from_Contains nat_eq_equiv n (live r) has,
    )

copied-some : {A B : Type 0} (f : A → B) (o : Option (Bor A)) → is_some (option_map f (option_copied o)) ≡ is_some o
copied-some f None = refl
copied-some f (Some x) = refl

-- a look-up of an index gives a type exactly where the index is live
pub got-live : (r : Registry) → IsBalanced r → (n : ℕ) (o : Option (Bor WasmSubType)) → option_map sub_type_of (option_copied o) ≡ type_at r n
    → IsSome o ↔ Contains (live r) n
got-live r b n o is =
    let same : is_some o ≡ is_some (type_at r n) = sym (copied-some sub_type_of o) ∙ ap is_some is in
    let both = live-types r b n in
    (λ some. both.0 (sym same ∙ some), λ has. same ∙ both.1 has)
