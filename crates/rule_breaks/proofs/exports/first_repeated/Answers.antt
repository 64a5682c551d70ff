use Rattle.std.proofs.Common.{◌≡◌, ◌∙◌, true, false, sym}
use Rattle.std.specs.List.{list_any}
use Rattle.std.specs.Str.{bytes_eq}
use Rattle.std.proofs.lemmas.Bool.{not-true, not-false}
use Rattle.form_reader.specs.Views.{export_of}
use Rattle.form_rules.proofs.ExportNames.{gathers-more, gathers-all}
use Rattle.rule_breaks.proofs.RepeatedNames.{repeated-from_Gathers, counted-more}
use Rattle.rule_breaks.proofs.exports.first_repeated.Goals as goal

pub loop-export-preserved : goal.loop-export-preserved
loop-export-preserved c =
    let absent : list_any (bytes_eq c.in-Some.export.now.name.now) c.loop-export.pool ≡ false = not-true _ (sym c.in_ok-insert_new.ensures.new ∙ c.if-not-branch.false) in
    let so_far = c.loop-export.invariant in
    record {
      counted = counted-more _ _ c.loop-export.pool _ c.in-Some.export.now.name.now so_far.counted c.in_ok-number.ensures absent c.in_ok-insert_new.ensures.inserted;
      gathers = gathers-more c.loop-export.pool _ _ _ (export_of c.in-Some.export.now) so_far.gathers c.in-Some.ensures.steps c.insert_new.new.pool absent c.in_ok-insert_new.ensures.inserted;
    }

pub returns-then-not-branch : goal.returns-then-not-branch
returns-then-not-branch c =
    let present : list_any (bytes_eq c.in-Some.export.now.name.now) c.loop-export.pool ≡ true = not-false _ (sym c.in_ok-insert_new.ensures.new ∙ c.if-not-branch.true) in
    let so_far = c.loop-export.invariant in
    repeated-from_Gathers _ c.loop-export.pool _ _ _ (export_of c.in-Some.export.now) so_far.gathers so_far.counted c.in-Some.ensures.steps present

pub returns : goal.returns
returns c = (gathers-all c.loop-export.pool _ _ c.loop-export.invariant.gathers c.in-None.ensures.steps.0).1
