-- A section that is not read, by its id.
use Rattle.std.proofs.Common.{◌≡◌, ℕ, ◌+◌, ◌-◌, ◌<◌, ◌≤◌, List, [], ◌∷◌, length, take, drop, get_or, Option, Some, None, Result, Ok, Err, true, false, refl, sym, ap, subst, ◌∙◌, arith}
use Rattle.std.specs.Prelude.{IfOk, IfSome}
use Rattle.std.proofs.lemmas.Bool.{ltb-true}
use Rattle.std.proofs.lemmas.List.{take_all}
use Rattle.wasm_spec.specs.Grammar.{order_of}
use Rattle.form_reader.specs.Reading.{Fault as ReadFault}
use Rattle.form_reader.specs.SectionRows.{section}
use Rattle.refusal_place.specs.declared.kind.SectionKind.{SectionKind}
use Rattle.refusal_place.specs.declared.place.Fault.TheVariants as fault
use Rattle.refusal_place.specs.declared.place.Place.{Place}
use Rattle.refusal_place.specs.Kinds.{id_of, kind_of}
use Rattle.refusal_place.specs.Places.{IsMisplaced, IsOpenWhereItEnds, IsWrong}
use Rattle.refusal_place.specs.Found.{after_id_at, misplaced, IsDecidedAfter, IsDecidedBy, IsAfterId, place_of_id}
use Rattle.refusal_place.proofs.AfterId.{read_after_id, misplaced_unread, unknown_unread, id_decides, after_decides, kind_id}

-- the id, and what follows it
abbrev pub id_in : List ℕ → ℕ
id_in rest = get_or rest 0 0

abbrev pub after_in : List ℕ → List ℕ
after_in rest = take (length rest - 1) (drop 1 rest)

pub front_is : (rest : List ℕ) → 1 ≤ length rest → rest ≡ id_in rest ∷ after_in rest
front_is [] l = absurd (omega arith)
front_is (b ∷ bytes) l = ap (λ (l : List ℕ). b ∷ l) (sym (take_all (length (b ∷ bytes) - 1) bytes (omega arith)))

if_ok : {A E : Type 0} (r : Result A E) (P Q : A → Type 0) → ((x : A) → P x → Q x) → IfOk r P → IfOk r Q
if_ok (Ok x) P Q h p = h x p
if_ok (Err e) P Q h p = tt

if_some : {A : Type 0} (o : Option A) (P Q : A → Type 0) → ((x : A) → P x → Q x) → IfSome o P → IfSome o Q
if_some (Some x) P Q h p = h x p
if_some None P Q h p = tt

early_order : (next : ℕ) (o : Option ℕ) → misplaced next o ≡ true → (order : ℕ) × (o ≡ Some order) × (order < next)
early_order next None m = absurd cc
early_order next (Some order) m = (order, refl, ltb-true order next m)

module _ (start next : ℕ) (rest : List ℕ) (some : 1 ≤ length rest) where
  front : rest ≡ id_in rest ∷ after_in rest
  front = front_is rest some

  pub unknown_decided : kind_of (id_in rest) ≡ None → IsDecidedBy start next rest (start + 1)
  unknown_decided e = let P : List ℕ → Type 0 = λ l. IsDecidedBy start next l (start + 1) in
      subst P (sym front) (id_decides start next (id_in rest) (after_in rest) (λ bytes. unknown_unread start next (id_in rest) bytes e))

  pub misplaced_decided : misplaced next (order_of (id_in rest)) ≡ true → IsDecidedBy start next rest (start + 1)
  misplaced_decided m = let P : List ℕ → Type 0 = λ l. IsDecidedBy start next l (start + 1) in
      subst P (sym front) (id_decides start next (id_in rest) (after_in rest) (λ bytes. misplaced_unread start next (id_in rest) bytes m))

  module _ (k : SectionKind) (known : kind_of (id_in rest) ≡ Some k) where
    id_is : id_in rest ≡ id_of k
    id_is = kind_id (id_in rest) k known

    kind_front : rest ≡ id_of k ∷ after_in rest
    kind_front = front ∙ ap (λ (n : ℕ). n ∷ after_in rest) id_is

    pub misplaced_wrong : misplaced next (order_of (id_in rest)) ≡ true → IsMisplaced next rest (place_of_id (Some k) start fault.SectionOrder)
    misplaced_wrong m = let early = early_order next (order_of (id_in rest)) m in
        record {
          section = k;
          after = after_in rest;
          order = early.0;
          parts = kind_front;
          order_is = ap order_of (sym id_is) ∙ early.1;
          early = early.2;
          section_is = (refl, refl);
          byte_is = refl;
        }

    module _ (m : misplaced next (order_of (id_in rest)) ≡ false) where
      may_follow : misplaced next (order_of (id_of k)) ≡ false
      may_follow = ap (λ (n : ℕ). misplaced next (order_of n)) (sym id_is) ∙ m

      pub after_unread : (f : ReadFault) → (section start next).read rest ≡ Err f → after_id_at start (id_of k) (after_in rest) ≡ Err f
      after_unread f e = sym (read_after_id start next k (after_in rest) may_follow) ∙ ap (section start next).read (sym kind_front) ∙ e

      pub after_wrong : {E : Type 0} (r : Result Place E) → IfOk r (IsAfterId start k (after_in rest))
          → IfOk r (λ p. (p.section_start ≡ start) × IsWrong p.fault next rest p)
      after_wrong r h = if_ok r _ _ (λ p a.
          (a.starts, let P : List ℕ → Type 0 = λ l. IsWrong p.fault next l p in subst P (sym kind_front) (a.wrong next))) h

      pub after_decided : {E : Type 0} (r : Result Place E) → IfOk r (IsAfterId start k (after_in rest))
          → IfOk r (λ p. IfSome p.decided (IsDecidedBy start next rest))
      after_decided r h = if_ok r _ _ (λ p a. if_some p.decided (IsDecidedAfter start (id_of k) (after_in rest)) _ (λ end d.
          let P : List ℕ → Type 0 = λ l. IsDecidedBy start next l end in
          subst P (sym kind_front) (after_decides start next k (after_in rest) end may_follow d)) a.decided) h

      pub after_open : {E : Type 0} (r : Result Place E) → IfOk r (IsAfterId start k (after_in rest))
          → IfOk r (IsOpenWhereItEnds (start + length rest))
      after_open r h = if_ok r _ _ (λ p a.
          let P : ℕ → Type 0 = λ n. IsOpenWhereItEnds n p in subst P (omega (arith, ap length kind_front)) a.early) h
