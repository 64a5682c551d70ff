use Rattle.std.proofs.lemmas.Option.{IfSome_then}
use Rattle.form_reader.proofs.PastOperators.{past_new}
use Rattle.form_reader.proofs.passed_expressions.past_object.Goals as goal

pub returns-in-Some : goal.returns-in-Some
returns-in-Some c =
    IfSome_then c.past_u32.result c.past_u32.ensures
    (λ x h. past_new c.in-Some.number c.args.bytes.now c.in-Some.rest.now x.now c.if-number-lt2.true c.in-Some.ensures h)
