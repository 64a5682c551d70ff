-- There is only one longest prefix.
use Rattle.std.proofs.Common.{◌≡◌, List, [], ◌∷◌, ◌++◌, ℕ, Bool, All, refl, sym, ◌∙◌}
use Rattle.replay_spec.specs.Elements.{ActiveElements, DefinedTable}
use Rattle.replay_spec.specs.Tables.{MayBeTaken, TakesPrefix}
use Rattle.std.proofs.lemmas.List.Elements.{All-head, All-tail}

module _ {X : Type 0} (P : X → Type 0) where
  one-beginning : (xs ys us vs : List X) → All P xs → All P us → ((x : X) (rest : List X) → ys ≡ x ∷ rest → P x → ⊥)
      → ((x : X) (rest : List X) → vs ≡ x ∷ rest → P x → ⊥) → xs ++ ys ≡ us ++ vs → xs ≡ us
  one-beginning [] ys [] vs all_x all_u end_y end_v e = refl
  one-beginning [] ys (u ∷ us) vs all_x all_u end_y end_v e = absurd (end_y u (us ++ vs) e (All-head P u us all_u))
  one-beginning (x ∷ xs) ys [] vs all_x all_u end_y end_v e = absurd (end_v x (xs ++ ys) (sym e) (All-head P x xs all_x))
  one-beginning (x ∷ xs) ys (u ∷ us) vs all_x all_u end_y end_v e =
      let same : x ≡ u = cc in
      let rest : xs ++ ys ≡ us ++ vs = cc in
      let more = one-beginning xs ys us vs (All-tail P x xs all_x) (All-tail P u us all_u) end_y end_v rest in
      rw (same, more) refl

pub one-prefix : (lazy : Bool) (imports : ℕ) (tables : List DefinedTable) (active taken kept others rest : List ActiveElements)
    → TakesPrefix lazy imports tables active taken kept → TakesPrefix lazy imports tables active others rest → taken ≡ others
one-prefix lazy imports tables active taken kept others rest a b =
    one-beginning (MayBeTaken lazy imports tables) taken kept others rest a.takes b.takes a.longest b.longest (sym a.parts ∙ b.parts)
