-- Searches for the first entry that lacks a property.
use Rattle.std.proofs.Common.{◌≡◌, ◌↔◌, ℕ, zero, suc, ◌+◌, ◌<◌, Bool, false, IsTrue, List, [], ◌∷◌, ◌++◌, length, take, get_or, Option, Some, None, All, refl, sym, ap, subst, ◌∙◌, arith, append_assoc}
use Rattle.std.specs.Prelude.{IfSome, slice_get, option_to_list}
use Rattle.std.specs.List.{flat_map}
use Rattle.std.proofs.Math.Seq.{take-append_seam, take-append-add}
use Rattle.std.proofs.lemmas.List.{append-nil, length-append, take-append-le}
use Rattle.std.proofs.lemmas.List.Concat.{flat_map-append}
use Rattle.std.proofs.lemmas.Option.{slice_get-get_or}
use Rattle.std.proofs.lemmas.List.Elements.{All-nil, All-push, All-get_or, All-same, All-append, All-weaker}
use Rattle.wasm_spec.specs.Module as plain
use Rattle.form_reader.specs.Input.{Takes}
use Rattle.rule_breaks.specs.Search.{IsFirstWithout, Finds}

-- an index below the length is that of an entry
pub inside : {X : Type 0} (xs : List X) (k : ℕ) → k < length xs → slice_get xs k ≡ None → ⊥
inside [] k lt missing = absurd (omega arith)
inside (x ∷ xs) zero lt missing = absurd cc
inside (x ∷ xs) (suc k) lt missing = inside xs k (omega arith) missing

-- where all have the property, no entry lacks it
pub none-lacks : {X : Type 0} (P : X → Type 0) (xs : List X) (entry : ℕ) → IsFirstWithout P xs entry → All P xs → ⊥
none-lacks {X = X} P xs entry first all = found (slice_get xs entry) refl first.lacks where
  found : (o : Option X) → slice_get xs entry ≡ o → IfSome o (λ x. ¬ P x) → ⊥
  found None is lacks = inside xs entry first.listed is
  found (Some x) is lacks =
      let at : get_or xs entry x ≡ x = (let e = sym (slice_get-get_or xs entry x first.listed) ∙ is in cc) in
      lacks (subst P at (All-get_or P xs entry x first.listed all))

-- so many entries come before those that remain, and all of them have the property
pub record Passes {X : Type 0} (P : X → Type 0) (count : ℕ) (left all : List X) : Type 0 where
  pub done : List X
  pub counted : length done ≡ count
  pub kept : All P done
  pub whole : done ++ left ≡ all

pub passes_none : {X : Type 0} (P : X → Type 0) (left all : List X) → left ≡ all → Passes P 0 left all
passes_none P left all at = record { done = []; counted = refl; kept = All-nil P; whole = at }

pub passes_all : {X : Type 0} (P : X → Type 0) (count : ℕ) (left all : List X) → Passes P count left all → left ≡ [] → All P all
passes_all {X = X} P count left all passes none =
    All-same P all passes.done (sym passes.whole ∙ ap (λ (l : List X). passes.done ++ l) none ∙ append-nil passes.done) passes.kept

pub empty : {X : Type 0} (xs : List X) → length xs ≡ 0 → xs ≡ []
empty [] none = refl
empty (x ∷ xs) none = absurd (omega arith)

pub seam : {X : Type 0} (xs ys : List X) (x : X) → slice_get (xs ++ x ∷ ys) (length xs) ≡ Some x
seam [] ys x = refl
seam (z ∷ xs) ys x = seam xs ys x

module _ {X : Type 0} (P : X → Type 0) (count : ℕ) (left rest all : List X) (x : X) (passes : Passes P count left all) (at : left ≡ x ∷ rest) where
  through : passes.done ++ x ∷ rest ≡ all
  through = ap (λ (l : List X). passes.done ++ l) (sym at) ∙ passes.whole

  -- one more has it
  pub passes_more : (next : ℕ) → next ≡ count + 1 → P x → Passes P next rest all
  passes_more next is here = record {
    done = passes.done ++ x ∷ [];
    counted = omega (arith, length-append passes.done (x ∷ []), passes.counted, is);
    kept = All-push P passes.done x passes.kept here;
    whole = append_assoc passes.done (x ∷ []) rest ∙ through;
  }

  -- one lacks it
  pub passes_lack : (P x → ⊥) → IsFirstWithout P all count
  passes_lack lacks =
      subst (λ (l : List X). IsFirstWithout P l count) through (subst (IsFirstWithout P (passes.done ++ x ∷ rest)) passes.counted (record {
        before = All-same P _ passes.done (take-append_seam passes.done (x ∷ rest)) passes.kept;
        listed = omega (arith, length-append passes.done (x ∷ rest));
        lacks = subst (λ o. IfSome o (λ y. ¬ P y)) (sym (seam passes.done rest x)) lacks;
      }))

  pub passes_fails : (b : Bool) → b ≡ false → IsTrue b ↔ P x → IsFirstWithout P all count
  passes_fails b is tells = passes_lack (λ here. let answered = tells.1 here in absurd cc)

-- all were seen
pub passes_ended : {X : Type 0} (P : X → Type 0) (count : ℕ) (left rest all : List X) (x : X) (more : Bool) → Passes P count left all → more ≡ false
    → Takes left x rest more → All P all
passes_ended P count left rest all x more passes ended takes = passes_all P count left all passes (subst (Takes left x rest) ended takes).0

-- ---- several entries at once

module _ {X : Type 0} (P : X → Type 0) (count : ℕ) (left ys rest all : List X) (passes : Passes P count left all) (at : left ≡ ys ++ rest) where
  whole : passes.done ++ (ys ++ rest) ≡ all
  whole = ap (λ (l : List X). passes.done ++ l) (sym at) ∙ passes.whole

  -- all of them have it
  pub passes_many : (next : ℕ) → next ≡ count + length ys → All P ys → Passes P next rest all
  passes_many next is here = record {
    done = passes.done ++ ys;
    counted = omega (arith, length-append passes.done ys, passes.counted, is);
    kept = All-append P passes.done ys passes.kept here;
    whole = append_assoc passes.done ys rest ∙ whole;
  }

  -- one of them lacks it
  pub passes_many_fail : (place number : ℕ) → number ≡ count + place → IsFirstWithout P ys place → IsFirstWithout P all number
  passes_many_fail place number is first =
      let at' : number ≡ length passes.done + place = omega (arith, is, passes.counted) in
      subst (λ (l : List X). IsFirstWithout P l number) whole (subst (IsFirstWithout P (passes.done ++ (ys ++ rest))) (sym at') (record {
        before = All-same P _ (passes.done ++ take place ys)
            (take-append-add passes.done (ys ++ rest) place ∙ ap (λ (l : List X). passes.done ++ l) (take-append-le place ys rest (omega (arith, first.listed))))
            (All-append P passes.done (take place ys) passes.kept first.before);
        listed = omega (arith, first.listed, length-append passes.done (ys ++ rest), length-append ys rest);
        lacks = subst (λ o. IfSome o (λ y. ¬ P y)) (sym (there passes.done)) (subst (λ o. IfSome o (λ y. ¬ P y)) (sym (before ys place first.listed)) first.lacks);
      })) where
        there : (xs : List X) → slice_get (xs ++ (ys ++ rest)) (length xs + place) ≡ slice_get (ys ++ rest) place
        there [] = let e : 0 + place ≡ place = omega arith in ap (slice_get (ys ++ rest)) e
        there (x ∷ xs) = let e : length (x ∷ xs) + place ≡ suc (length xs + place) = omega arith in ap (slice_get (x ∷ (xs ++ (ys ++ rest)))) e ∙ there xs

        before : (zs : List X) (k : ℕ) → k < length zs → slice_get (zs ++ rest) k ≡ slice_get zs k
        before [] k lt = absurd (omega arith)
        before (z ∷ zs) zero lt = refl
        before (z ∷ zs) (suc k) lt = before zs k (omega arith)

-- the same entry lacks a property that means the same
pub finds-same : {X : Type 0} (P Q : X → Type 0) → ((x : X) → P x ↔ Q x) → (xs : List X) (r : Option ℕ) → Finds P xs r → Finds Q xs r
finds-same P Q same xs None all = All-weaker P Q (λ x. (same x).0) xs all
finds-same {X = X} P Q same xs (Some n) first = record {
  before = All-weaker P Q (λ x. (same x).0) (take n xs) first.before;
  listed = first.listed;
  lacks = lacking (slice_get xs n) first.lacks;
} where
  lacking : (o : Option X) → IfSome o (λ x. ¬ P x) → IfSome o (λ x. ¬ Q x)
  lacking None no_one = tt
  lacking (Some x) lacks = λ q. lacks ((same x).1 q)

-- ---- sections

-- what a section lists comes before what the remaining sections list
pub parts_step : {X : Type 0} (f : plain.Payload → List X) (left ps rest : plain.Module) (r : Option X) → left ≡ ps ++ rest → option_to_list r ≡ flat_map f ps
    → flat_map f left ≡ option_to_list r ++ flat_map f rest
parts_step {X = X} f left ps rest r at listed =
    ap (flat_map f) at ∙ flat_map-append f ps rest ∙ ap (λ (xs : List X). xs ++ flat_map f rest) (sym listed)
