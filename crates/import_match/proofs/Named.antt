-- Two names.
use Rattle.std.proofs.Common.{◌≡◌, ◌∙◌, Bool, true, false, refl, sym, ap, ◌&&◌, arith}
use Rattle.std.specs.Ordering.{is_eq, ordering_then, nat_cmp}
use Rattle.std.specs.Cmp.{tied_then, nat_cmp_is}
use Rattle.std.specs.declared.cmp.Ordering.{Ordering}
use Rattle.std.specs.declared.cmp.Ordering.TheVariants.{Equal}
use Rattle.std.specs.Cmp.Lexicographic.{slice_cmp}
use Rattle.std.proofs.lemmas.Bool.{and_from, and_parts}
use Rattle.std.proofs.lemmas.Slice.Eq.{bytes_eq-Decides}
use Rattle.std.proofs.lemmas.Map.Text.{is_eq-slice_cmp}
use Rattle.import_match.specs.declared.names.DefinitionNames.{DefinitionNames}
use Rattle.import_match.specs.contracts.names.DefinitionNamesOrd.TheImpl as ordered
use Rattle.import_match.specs.Digest.{digest_of}
use Rattle.import_match.specs.Definitions.{TwoNames, names_of, names_eq}

pub names-equal : (a b : TwoNames) → a ≡ b → names_eq a b ≡ true
names-equal a b same = grind (arith, and_from, bytes_eq-Decides)

pub equal-names : (a b : TwoNames) → names_eq a b ≡ true → a ≡ b
equal-names a b e = grind (arith, and_parts, bytes_eq-Decides)

-- the order of names is equal exactly at equal names, which have one digest
pub order-eq : (a b : DefinitionNames) → is_eq (ordered.ghosts.cmp a b) ≡ names_eq (names_of a) (names_of b)
order-eq a b = by (names_eq (names_of a) (names_of b)) refl
  where
    digests : Ordering
    digests = nat_cmp a.digest b.digest

    rest : Ordering
    rest = ordering_then (slice_cmp nat_cmp (names_of a).0 (names_of b).0) (slice_cmp nat_cmp (names_of a).1 (names_of b).1)

    texts : is_eq rest ≡ names_eq (names_of a) (names_of b)
    texts =
        sym (tied_then (slice_cmp nat_cmp (names_of a).0 (names_of b).0) (slice_cmp nat_cmp (names_of a).1 (names_of b).1))
        ∙ (λ i. is_eq-slice_cmp (names_of a).0 (names_of b).0 i && is_eq-slice_cmp (names_of a).1 (names_of b).1 i)

    same-digest : a.digest ≡ b.digest → is_eq digests ≡ true
    same-digest one = ap is_eq (sym (nat_cmp_is a.digest b.digest Equal one))

    and-false : (t : Bool) → (t && false) ≡ false
    and-false true = refl
    and-false false = refl

    by : (t : Bool) → names_eq (names_of a) (names_of b) ≡ t → is_eq (ordering_then digests rest) ≡ names_eq (names_of a) (names_of b)
    by true test =
        let same = equal-names (names_of a) (names_of b) test in
        let one : a.digest ≡ b.digest = a.digested ∙ ap (λ (n : TwoNames). digest_of n.0 n.1) same ∙ sym b.digested in
        sym (tied_then digests rest) ∙ (λ i. same-digest one i && texts i)
    by false test = sym (tied_then digests rest) ∙ ap (λ t. is_eq digests && t) (texts ∙ test) ∙ and-false (is_eq digests) ∙ sym test
