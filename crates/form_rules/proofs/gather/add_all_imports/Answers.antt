use Rattle.std.proofs.Common.{sym, subst}
use Rattle.form_reader.specs.Views.{import_of}
use Rattle.form_rules.specs.Gathered.{AddsImports}
use Rattle.form_rules.proofs.Gathering.{AddsImports-none, AddsImports-more}
use Rattle.form_rules.proofs.gather.add_all_imports.Goals as goal

pub loop-import-preserved : goal.loop-import-preserved
loop-import-preserved c =
    AddsImports-more c.args.spaces.now c.loop-import.spaces c.add_import.new.spaces (import_of c.in-Some.import.now) _ _ _
    c.in-Some.ensures.steps c.in_ok-add_import.ensures c.loop-import.invariant

pub returns : goal.returns
returns c =
    let added = c.loop-import.spaces in
    c.loop-import.invariant added (subst (AddsImports added added) (sym c.in-None.ensures.steps.0) (AddsImports-none added))
