-- A list that is changed in place, one entry after another.
use Rattle.std.proofs.Common.{◌≡◌, ◌∙◌, ◌+◌, ◌++◌, ◌∷◌, [], ◌<◌, ◌≤◌, ℕ, List, take, drop, map, get_or, length, refl, sym, ap, arith}
use Rattle.std.specs.Prelude.{set}
use Rattle.std.proofs.lemmas.List.{take_all, take_more_set, drop_more, drop-set-lt, length-set, map_more, map_push}

-- as many entries as k are other ones, and the rest is as it was
pub record Changes {X Y : Type 0} (view : X → Y) (change : Y → Y) (k : ℕ) (old now : List X) : Type 0 where
  pub long : length now ≡ length old
  pub front : map view (take k now) ≡ map change (map view (take k old))
  pub left : drop k now ≡ drop k old

module _ {X Y : Type 0} (view : X → Y) (change : Y → Y) where
  pub none_changed : (xs : List X) → Changes view change 0 xs xs
  none_changed xs = record { long = refl; front = refl; left = refl }

  pub one_changed : (k : ℕ) (old now : List X) (was x : X) → k < length old → view x ≡ change (view (get_or now k was))
      → Changes view change k old now → Changes view change (k + 1) old (set now k x)
  one_changed k old now was x lt' is h =
      let lt : k < length now = omega (arith, lt', h.long) in
      let next : get_or now k was ∷ drop (k + 1) now ≡ get_or old k was ∷ drop (k + 1) old =
      sym (drop_more now k was lt) ∙ h.left ∙ drop_more old k was lt' in
      let same : get_or now k was ≡ get_or old k was = ap (λ l. get_or l 0 was) next in
      record {
        long = length-set now k x ∙ h.long;
        front = ap (map view) (take_more_set now k x lt) ∙ map_push view (take k now) x
            ∙ (λ i. h.front i ++ (is ∙ ap (λ y. change (view y)) same) i ∷ [])
            ∙ sym (ap (map change) (map_more view old k was lt') ∙ map_push change (map view (take k old)) (view (get_or old k was)));
        left = drop-set-lt (k + 1) now k x (omega arith) ∙ ap (drop 1) next;
      }

  pub all_changed : (k : ℕ) (old now : List X) → length now ≤ k → Changes view change k old now → map view now ≡ map change (map view old)
  all_changed k old now le h =
      sym (ap (map view) (take_all k now le)) ∙ h.front ∙ ap (λ l. map change (map view l)) (take_all k old (omega (arith, le, h.long)))
