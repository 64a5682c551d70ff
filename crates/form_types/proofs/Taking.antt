-- Groups that are numbered, one by one.
use Rattle.std.proofs.Common.{◌≡◌, ◌∙◌, ◌↔◌, ℕ, ◌+◌, ◌^◌, ◌<◌, Bool, true, false, List, [], ◌∷◌, ◌++◌, length, map, All, IsTrue, sym, ap, subst, arith}
use Rattle.std.proofs.lemmas.List.{append-nil, length-map}
use Rattle.std.proofs.lemmas.List.Concat.{flat_map-append}
use Rattle.std.proofs.lemmas.List.Elements.{All-nil, All-append}
use Rattle.wasm_spec.specs.Sizes.{HasShortLists}
use Rattle.wasm_spec.specs.declared.types.CoreTypeId.{CoreTypeId}
use Rattle.rule_spec.specs.Lists.{declared_from, declared_groups}
use Rattle.form_reader.specs.declared.types.RecGroup.{RecGroup}
use Rattle.form_reader.specs.declared.types.SubType.{SubType}
use Rattle.form_reader.specs.Views.{group_of, sub_type_of}
use Rattle.form_types.specs.declared.canonical.CanonicalGroup.{CanonicalGroup}
use Rattle.form_types.specs.declared.numbering.Numbering.{Numbering}
use Rattle.form_types.specs.Types.{NamedGroup, types_by_id}
use Rattle.form_types.specs.Adding.{AddsGroup}
use Rattle.form_types.specs.Taken.{FirstAreNumbered, IsNumberingOf}
use Rattle.form_types.specs.Below.{NamesBelow}
use Rattle.form_types.proofs.Steps.{total-more}
use Rattle.form_types.proofs.Built.{HasNone, built-none, built-empty, built-more}
use Rattle.form_types.proofs.Ruled.{last_declared, size-places, below-more, near-last}

pub took-none : (n : Numbering) → n.names_below ≡ true → HasNone n → IsNumberingOf n []
took-none n is none = record {
  below = (λ on. All-nil NamesBelow, λ all. is);
  built = λ on. built-none n none;
  few = λ on. omega arith;
  short = λ on. All-nil HasShortLists;
}

-- the key of the last group says nothing of those that were taken
pub took-keyed : (done : List NamedGroup) (n : Numbering) (key : CanonicalGroup) → IsNumberingOf n done → IsNumberingOf (record n { key = key }) done
took-keyed done n key t = record {
  below = t.below;
  built = λ on. let b = t.built on in record { keys = b.keys; numbered = b.numbered; counted = b.counted; listed = b.listed };
  few = t.few;
  short = t.short;
}

-- ---- what tests of a group say

module _ (done : List NamedGroup) (n : Numbering) (g : RecGroup) (t : IsNumberingOf n done) (on : IsTrue n.names_below) (start : ℕ) (at : start ≡ length n.declared.items) where
  -- the first member's index
  pub start-is : start ≡ length (types_by_id done)
  start-is = omega (arith, at, (t.built on).counted, length-map n.declared.items (λ (id : CoreTypeId). id.0), size-places done)

  pub last-tells : (types : List SubType) → types ≡ g.types.items → (b : Bool)
      → IsTrue b ↔ All NamesBelow (declared_from (start + length types) start (map sub_type_of types)) → IsTrue b ↔ All NamesBelow (last_declared done (group_of g))
  last-tells types is b tells =
      let members : map sub_type_of types ≡ group_of g = ap (map sub_type_of) is in
      let end : start + length types ≡ length (types_by_id done) + length (group_of g) = omega (arith, start-is, ap length is, length-map g.types.items sub_type_of) in
      coe 0 1 (i. IsTrue b ↔ All NamesBelow (declared_from (end i) (start-is i) (members i))) tells

-- ---- one group more

module _ (done : List NamedGroup) (n n' : Numbering) (g : NamedGroup) (t : IsNumberingOf n done) where
  -- no more are numbered, since the group or one before it names what it may not
  pub took-not : n'.names_below ≡ false → (All NamesBelow (declared_groups 0 done) → All NamesBelow (last_declared done g) → ⊥) → IsNumberingOf n' (done ++ g ∷ [])
  took-not stopped fails = record {
    below = (λ on. absurd (never on), λ all. let both = (below-more done g).0 all in absurd (fails both.0 both.1));
    built = λ on. absurd (never on);
    few = λ on. absurd (never on);
    short = λ on. absurd (never on);
  } where
    never : IsTrue n'.names_below → ⊥
    never on = let e : true ≡ false = sym on ∙ stopped in absurd cc

  took-more : IsTrue n.names_below → IsTrue n'.names_below → All NamesBelow (last_declared done g) → length (types_by_id done) + length g < 2 ^ 30
      → All HasShortLists g → FirstAreNumbered (done ++ g ∷ []) n' → IsNumberingOf n' (done ++ g ∷ [])
  took-more on on' last few short built = record {
    below = (λ _. (below-more done g).1 (t.below.0 on, last), λ all. on');
    built = λ _. built;
    few = λ _. omega (arith, few, total-more done g);
    short = λ _. subst (All HasShortLists) (sym (flat_map-append (λ (g : NamedGroup). g) done (g ∷ []) ∙ ap (λ l. types_by_id done ++ l) (append-nil g)))
        (All-append HasShortLists (types_by_id done) g (t.short on) short);
  }

  pub took-added : IsTrue n.names_below → IsTrue n'.names_below → All NamesBelow (last_declared done g) → length (types_by_id done) + length g < 2 ^ 30
      → All HasShortLists g → 0 < length g → AddsGroup n n' g → IsNumberingOf n' (done ++ g ∷ [])
  took-added on on' last few short some adds = took-more on on' last few short (built-more done n n' g (t.built on) some (near-last done g last) adds)

-- a group of no type
pub took-empty : (done : List NamedGroup) (n : Numbering) (g : NamedGroup) → IsNumberingOf n done → IsTrue n.names_below → g ≡ [] → IsNumberingOf n (done ++ g ∷ [])
took-empty done n g t on none =
    took-more done n n g t on on (subst (λ (h : NamedGroup). All NamesBelow (last_declared done h)) (sym none) (All-nil NamesBelow)) (omega (arith, t.few on, ap length none))
    (subst (All HasShortLists) (sym none) (All-nil HasShortLists)) (built-empty done n g (ap length none) (t.built on))
