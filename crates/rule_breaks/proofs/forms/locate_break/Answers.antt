use Rattle.rule_spec.specs.Lists.{lists_of_module}
use Rattle.form_reader.specs.Views.{module_of}
use Rattle.rule_breaks.proofs.Located.{none_where_kept, first_where_broken}
use Rattle.rule_breaks.proofs.forms.locate_break.Goals as goal

pub returns-clause-none : goal.returns-clause-none
returns-clause-none c =
    none_where_kept c.args.rule (lists_of_module (module_of c.args.form.now)) c.located_in_form.result c.located_in_form.ensures

pub returns-clause-first : goal.returns-clause-first
returns-clause-first c =
    first_where_broken c.args.rule (lists_of_module (module_of c.args.form.now)) c.located_in_form.result c.located_in_form.ensures
