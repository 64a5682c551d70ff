use Rattle.form_rules.specs.Views.{lists_of}
use Rattle.rule_breaks.proofs.Located.{none_where_kept, first_where_broken}
use Rattle.rule_breaks.proofs.breaks.first_break.Goals as goal

pub returns-clause-none : goal.returns-clause-none
returns-clause-none c = none_where_kept c.args.rule (lists_of c.args.lists.now) c.located.result c.located.ensures

pub returns-clause-first : goal.returns-clause-first
returns-clause-first c = first_where_broken c.args.rule (lists_of c.args.lists.now) c.located.result c.located.ensures
