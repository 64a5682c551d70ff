use Rattle.std.proofs.lemmas.Option.{IfSome_then}
use Rattle.form_reader.proofs.PastOperators.{past_indexed, past_constant, past_sum}
use Rattle.form_reader.proofs.passed_expressions.past_operator.Goals as goal

pub returns-in-35 : goal.returns-in-35
returns-in-35 c = IfSome_then c.past_u32.result c.past_u32.ensures (λ x h. past_indexed c.args.first c.args.bytes.now x.now c.in-35.is h)

pub returns-in-65 : goal.returns-in-65
returns-in-65 c = IfSome_then c.past_s32.result c.past_s32.ensures (λ x h. past_constant c.args.first c.args.bytes.now x.now c.in-65.is h)

pub returns-in-106 : goal.returns-in-106
returns-in-106 c = past_sum c.args.first c.args.bytes.now c.in-106.is

pub returns-in-251 : goal.returns-in-251
returns-in-251 c = rw c.in-251.is c.past_object.ensures
