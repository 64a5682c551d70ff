-- The first positions of numbers: each number of a list is listed once, in the order of their first
-- positions.
use Rattle.std.proofs.Common.{◌≡◌, ◌≢◌, ◌⊎◌, ℕ, ◌<◌, Bool, append-nil, true, false, List, [], ◌∷◌, ◌++◌, length, get_or, refl, ap, subst, arith, length-append, append_assoc}
use Rattle.std.specs.Prelude.{◌==◌, ◌↔◌, All, Contains, if◌then◌else◌}
use Rattle.std.specs.List.{list_any, AllPairs}
use Rattle.std.proofs.lemmas.Bool.{eqb-true, eq-eqb, ne_eqb}
use Rattle.std.proofs.lemmas.List.Elements.{All-push}
use Rattle.std.proofs.lemmas.List.Folds.{list_any_at}
use Rattle.std.proofs.lemmas.List.Quantifiers.{all_pairs_push}
use Rattle.std.proofs.lemmas.List.Sums.{position_or_len_is, passes_at_first}
use Rattle.entity_map.specs.Firsts.{firsts_after, firsts}
use Rattle.module_sections.specs.Numbers.{StandOnce}
use Rattle.module_sections.proofs.Numbering.{place, place-le, place-new, place-old, place-other, met-place, unmet-place}

-- whether a number is in a list follows from its first position
pub met-any : (ns : List ℕ) (f : ℕ) → list_any (λ k. k == f) ns ≡ true → place ns f < length ns
met-any ns f any = grind (arith, unmet-place ns f, place-le ns f)

unmet-any : (ns : List ℕ) (f : ℕ) → list_any (λ k. k == f) ns ≡ false → place ns f ≡ length ns
unmet-any ns f none = grind (arith, met-place ns f, place-le ns f)

pub met-contained : (ns : List ℕ) (f : ℕ) → Contains ns f → place ns f < length ns
met-contained ns f h = met-any ns f (list_any_at (λ k. k == f) ns h.0 f h.1 (eq-eqb (get_or ns h.0 f) f h.2))

pub contained-met : (ns : List ℕ) (f : ℕ) → place ns f < length ns → Contains ns f
contained-met ns f lt = (place ns f, lt, eqb-true (get_or ns (place ns f) f) f (passes_at_first (λ k. k == f) ns f lt))

-- those that are listed of some numbers: each of these, in the order of their first places
pub record AreFirsts (ns listed : List ℕ) : Type 0 where
  pub among : All (λ f. place ns f < length ns) listed
  pub all : (f : ℕ) → place ns f < length ns → place listed f < length listed
  pub rising : AllPairs (λ f g. place ns f < place ns g) listed

-- the position after one more number, which was seen before or not
still : (ns : List ℕ) (n f : ℕ) → place ns f < length ns → place (ns ++ n ∷ []) f < length (ns ++ n ∷ [])
still ns n f lt = omega (arith, lt, place-old ns n f lt, length-append ns (n ∷ []))

before-or-last : (ns : List ℕ) (n f : ℕ) → place (ns ++ n ∷ []) f < length (ns ++ n ∷ []) → (place ns f < length ns) ⊎ (n ≡ f)
before-or-last ns n f lt = grind (arith, place-other ns n f, place-le ns f, length-append ns (n ∷ []))

rising-still : (ns listed : List ℕ) (n : ℕ) → AreFirsts ns listed → AllPairs (λ f g. place (ns ++ n ∷ []) f < place (ns ++ n ∷ []) g) listed
rising-still ns listed n h i j d lt in' =
    let f = get_or listed i d in
    let g = get_or listed j d in
    omega (arith, h.rising i j d lt in', place-old ns n f (h.among i d (omega (arith, lt, in'))), place-old ns n g (h.among j d in'))

known-again : (ns listed : List ℕ) (n : ℕ) → AreFirsts ns listed → place listed n < length listed → AreFirsts (ns ++ n ∷ []) listed
known-again ns listed n h met = record {
  among = λ k d lt. still ns n _ (h.among k d lt);
  all = λ f lt. grind (arith, before-or-last ns n f lt, h.all f, met);
  rising = rising-still ns listed n h;
}

listed-new : (ns listed : List ℕ) (n : ℕ) → AreFirsts ns listed → place listed n ≡ length listed → AreFirsts (ns ++ n ∷ []) (listed ++ n ∷ [])
listed-new ns listed n h unmet =
    let new : place ns n ≡ length ns = grind (arith, h.all n, place-le ns n) in
    let last = place-new ns n new in
    record {
      among = All-push (λ f. place (ns ++ n ∷ []) f < length (ns ++ n ∷ [])) listed n (λ k d lt. still ns n _ (h.among k d lt))
          (omega (arith, last, length-append ns (n ∷ [])));
      all = λ f lt. grind (arith, before-or-last ns n f lt, h.all f, still listed n f, place-new listed n unmet, length-append listed (n ∷ []));
      rising = all_pairs_push (λ f g. place (ns ++ n ∷ []) f < place (ns ++ n ∷ []) g) listed n (rising-still ns listed n h)
          (λ k d lt. omega (arith, last, place-old ns n (get_or listed k d) (h.among k d lt), h.among k d lt));
    }

firsts-are : (ns listed rest : List ℕ) → AreFirsts ns listed → AreFirsts (ns ++ rest) (firsts_after listed rest)
firsts-are ns listed [] h = rw append-nil h
firsts-are ns listed (n ∷ rest) h =
    rw (← append_assoc ns (n ∷ []) rest) (firsts-are (ns ++ n ∷ []) _ rest (by (list_any (λ k. k == n) listed) refl))
  where
    by : (c : Bool) → list_any (λ k. k == n) listed ≡ c → AreFirsts (ns ++ n ∷ []) (if c then listed else listed ++ n ∷ [])
    by true e = known-again ns listed n h (met-any listed n e)
    by false e = listed-new ns listed n h (unmet-any listed n e)

pub are-firsts : (ns : List ℕ) → AreFirsts ns (firsts ns)
are-firsts ns = firsts-are [] [] ns (record { among = λ k d lt. absurd (omega arith); all = λ f lt. absurd (omega arith); rising = λ i j d lt in'. absurd (omega arith) })

pub contains-firsts : (ns : List ℕ) (f : ℕ) → Contains (firsts ns) f ↔ Contains ns f
contains-firsts ns f = (
  λ h. contained-met ns f (subst (λ k. place ns k < length ns) h.2 ((are-firsts ns).among h.0 f h.1)),
  λ h. contained-met (firsts ns) f ((are-firsts ns).all f (met-contained ns f h)),
)

pub firsts-rise : (ns : List ℕ) → AllPairs (λ f g. place ns f < place ns g) (firsts ns)
firsts-rise ns = (are-firsts ns).rising

pub firsts-apart : (ns : List ℕ) → AllPairs (λ f g. f ≢ g) (firsts ns)
firsts-apart ns i j d lt in' same = omega (arith, (are-firsts ns).rising i j d lt in', ap (place ns) same)

pub firsts-once : (ns : List ℕ) → StandOnce (firsts ns)
firsts-once ns k lt =
    let f = get_or (firsts ns) k 0 in
    position_or_len_is (λ x. x == f) (firsts ns) k 0 (omega (arith, lt))
    (λ j below. ne_eqb (get_or (firsts ns) j 0) f (firsts-apart ns j k 0 below lt)) (λ in'. eq-eqb f f refl)
