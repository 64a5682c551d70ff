use Rattle.std.proofs.Common.{sym, subst}
use Rattle.form_rules.specs.Source.{sections_in}
use Rattle.form_rules.specs.Gathered.{AddsDefined}
use Rattle.form_rules.proofs.Gathering.{AddsDefined-none, AddsDefined-more}
use Rattle.form_rules.proofs.gather.add_all_defined.Goals as goal

pub loop-section-preserved : goal.loop-section-preserved
loop-section-preserved c =
    AddsDefined-more c.args.spaces.now c.loop-section.spaces c.add_section.new.spaces (sections_in c.in-Some.section) _ _ _
    c.in-Some.ensures.steps c.in_ok-add_section.ensures c.loop-section.invariant

pub returns : goal.returns
returns c =
    let added = c.loop-section.spaces in
    c.loop-section.invariant added (subst (AddsDefined added added) (sym c.in-None.ensures.steps.0) (AddsDefined-none added))
