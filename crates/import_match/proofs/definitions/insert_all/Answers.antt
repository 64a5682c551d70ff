use Rattle.std.proofs.Common.{◌∙◌, ◌∷◌, ◌++◌, [], length, map, All, sym, ap, subst, arith, rules}
use Rattle.std.specs.Vec.Iter.{into_iter_items}
use Rattle.std.proofs.lemmas.List.{append_assoc}
use Rattle.std.proofs.lemmas.List.Elements.{All-head}
use Rattle.import_match.specs.Definitions.{AreOnce}
use Rattle.import_match.specs.Kept.{definition_of, in_order}
use Rattle.import_match.proofs.Keeping.{IsNew, once-rest, new-rest, below-all}
use Rattle.import_match.proofs.definitions.insert_all.Goals as goal

pub insert-requires-clause-kept : goal.insert-requires-clause-kept
insert-requires-clause-kept c = c.loop-names.invariant.kept

pub insert-requires-clause-new : goal.insert-requires-clause-new
insert-requires-clause-new c =
    let ds = in_order c.loop-names.numbered.entries in
    All-head (IsNew ds) (definition_of (c.in-Some.names, c.in-Some.ty)) (map definition_of (into_iter_items c.next.new.self))
    (subst (λ es. All (IsNew ds) (map definition_of es)) c.in-Some.ensures.steps.0 c.loop-names.invariant.new)

pub loop-names-init : goal.loop-names-init
loop-names-init c = record {
  kept = c.requires.kept;
  listed = search rules;
  new = search rules;
  once = search rules;
  before = below-all (length c.args.numbered.now.entries) c.args.numbered.now.entries c.requires.kept.numbers;
  more = omega arith;
}

pub loop-names-preserved : goal.loop-names-preserved
loop-names-preserved c =
    let before = c.loop-names.invariant in
    let ds = in_order c.loop-names.numbered.entries in
    let x = definition_of (c.in-Some.names, c.in-Some.ty) in
    let left = map definition_of (into_iter_items c.next.new.self) in
    let steps = c.in-Some.ensures.steps.0 in
    let grown = c.in_ok-insert.ensures.ok in
    let once = subst (λ es. AreOnce (map definition_of es)) steps before.once in
    let new = subst (λ es. All (IsNew ds) (map definition_of es)) steps before.new in
    record {
      kept = c.in_ok-insert.ensures.kept;
      listed = ap (λ es. es ++ left) grown ∙ append_assoc ds (x ∷ []) left ∙ ap (λ es. ds ++ map definition_of es) (sym steps) ∙ before.listed;
      new = subst (λ es. All (IsNew es) left) (sym grown) (new-rest x left once ds new);
      once = once-rest x left once;
      before = c.in_ok-insert.ensures.others (length c.args.numbered.now.entries) before.more ∙ before.before;
      more = omega (arith, before.more, c.in_ok-insert.ensures.count);
    }
