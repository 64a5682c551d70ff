use Rattle.std.proofs.Common.{rules}
use Rattle.form_reader.specs.Views.{expression_of}
use Rattle.rule_spec.specs.References.{ExpressionRefersIn}
use Rattle.form_types.proofs.AllOf.{tells_of_map}
use Rattle.form_rules.proofs.references.all_expressions_refer.Goals as goal

pub returns : goal.returns
returns c = tells_of_map (ExpressionRefersIn c.args.types) expression_of c.args.expressions.now c.all.result (search rules)
