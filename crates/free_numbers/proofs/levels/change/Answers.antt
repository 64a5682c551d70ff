use Rattle.std.proofs.lemmas.Grind.{common_steps}
use Rattle.std.proofs.Common.{rules, arith, ◌≡◌, ◌∙◌, ◌<◌, ◌++◌, ◌+◌, ◌/◌, suc, List, ℕ, length, get_or, set, take, drop, sym, ap, subst}
use Rattle.std.proofs.lemmas.List.{length-map, get_or-map, map-set}
use Rattle.std.specs.Global.{Vec}
use Rattle.free_numbers.specs.Counts.{change_at}
use Rattle.free_numbers.specs.Levels.{lists_of, changed, half, CanChange, CanChangeFirst, IsTree}
use Rattle.free_numbers.proofs.Pairs.{can-head, can-next, change-step, half-is, no_counts}
use Rattle.free_numbers.proofs.levels.change.Goals as goal

pub change_count-requires : goal.change_count-requires
change_count-requires c =
    let vs = c.loop-level.levels.items in
    let i = c.loop-level.level in
    let v = c.index_mut.result.now in
    let short : i < length vs = search rules in
    let short' : i < length (lists_of vs) = omega (arith, short, length-map vs (λ (w : Vec ℕ). w.items)) in
    let can = can-head c.args.less c.args.more (lists_of vs) i c.loop-level.place short' c.loop-level.invariant.can in
    subst (λ (l : List ℕ). CanChange c.args.less c.args.more c.loop-level.place l)
    (get_or-map (λ (u : Vec ℕ). u.items) vs i v no_counts short ∙ ap (λ (w : Vec ℕ). w.items) (sym c.index_mut.ensures.value)) can

module _ (less more number place i : ℕ) (orig : List (List ℕ)) (vs : List (Vec ℕ)) (v w : Vec ℕ) (short : i < length vs) (at : v ≡ get_or vs i v)
    (is : w.items ≡ change_at less more place v.items)
    (same : changed less more number orig ≡ take i (lists_of vs) ++ changed less more place (drop i (lists_of vs)))
    (tree : IsTree (drop i (lists_of vs))) (can : CanChangeFirst less more place (drop i (lists_of vs))) where
  short' : i < length (lists_of vs)
  short' = omega (arith, short, length-map vs (λ (w : Vec ℕ). w.items))

  abbrev ys : List ℕ
  ys = change_at less more place (get_or (lists_of vs) i no_counts)

  new : lists_of (set vs i w) ≡ set (lists_of vs) i ys
  new = grind (arith, common_steps, map-set, get_or-map)

  Kept : ℕ → ℕ → List (List ℕ) → Type 0
  Kept j p ls = (changed less more number orig ≡ take j ls ++ changed less more p (drop j ls)) × IsTree (drop j ls) × CanChangeFirst less more p (drop j ls)

  next : Kept (suc i) (half place) (set (lists_of vs) i ys)
  unfolding Kept
  next =
      let rest = can-next less more (lists_of vs) i place ys short' tree can in
      (same ∙ change-step less more (lists_of vs) i place short', rest.0, rest.1)

  pub kept : (changed less more number orig ≡ take (i + 1) (lists_of (set vs i w)) ++ changed less more (place / 2) (drop (i + 1) (lists_of (set vs i w))))
      × IsTree (drop (i + 1) (lists_of (set vs i w))) × CanChangeFirst less more (place / 2) (drop (i + 1) (lists_of (set vs i w)))
  unfolding Kept
  kept =
      let more-is : suc i ≡ i + 1 = omega arith in
      let a = subst (λ j. Kept j (half place) (set (lists_of vs) i ys)) more-is next in
      let b = subst (λ p. Kept (i + 1) p (set (lists_of vs) i ys)) (sym (half-is place)) a in
      subst (λ (ls : List (List ℕ)). Kept (i + 1) (place / 2) ls) (sym new) b

pub loop-level-preserved : goal.loop-level-preserved
loop-level-preserved c =
    let vs = c.loop-level.levels.items in
    let i = c.loop-level.level in
    let short : i < length vs = search rules in
    let k = kept c.args.less c.args.more c.args.number c.loop-level.place i (lists_of c.args.levels.now.items) vs c.index_mut.result.now c.change_count.new.counts short
    c.index_mut.ensures.value c.change_count.ensures c.loop-level.invariant.same c.loop-level.invariant.tree c.loop-level.invariant.can in
    record { same = k.0; tree = k.1; can = k.2 }
