use Rattle.std.proofs.Common.{◌≡◌, ◌∙◌, true, false, sym}
use Rattle.std.specs.List.{list_any}
use Rattle.std.specs.Str.{bytes_eq}
use Rattle.std.proofs.lemmas.Bool.{not-true, not-false}
use Rattle.form_reader.specs.Views.{export_of}
use Rattle.form_rules.proofs.ExportNames.{gathers-more, gathers-fails}
use Rattle.form_rules.proofs.names.pool_of_exports.Goals as goal

pub loop-export-preserved : goal.loop-export-preserved
loop-export-preserved c =
    let absent : list_any (bytes_eq c.in-Some.export.now.name.now) c.loop-export.pool ≡ false = not-true _ (sym c.in_ok-insert_new.ensures.new ∙ c.if-not-branch.false) in
    gathers-more c.loop-export.pool _ _ _ (export_of c.in-Some.export.now) c.loop-export.invariant c.in-Some.ensures.steps c.insert_new.new.pool absent c.in_ok-insert_new.ensures.inserted

pub returns-then-not-branch-clause-distinct : goal.returns-then-not-branch-clause-distinct
returns-then-not-branch-clause-distinct c =
    let present : list_any (bytes_eq c.in-Some.export.now.name.now) c.loop-export.pool ≡ true = not-false _ (sym c.in_ok-insert_new.ensures.new ∙ c.if-not-branch.true) in (
      λ some. absurd (cc),
      λ distinct. absurd (gathers-fails c.loop-export.pool _ _ _ (export_of c.in-Some.export.now) c.loop-export.invariant c.in-Some.ensures.steps present distinct),
    )
