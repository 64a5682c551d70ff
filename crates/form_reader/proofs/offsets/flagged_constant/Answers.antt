use Rattle.std.proofs.lemmas.Option.{IfSome_then}
use Rattle.form_reader.proofs.ShortNumbers.{zero_u32}
use Rattle.form_reader.proofs.offsets.flagged_constant.Goals as goal

pub returns-in-Some : goal.returns-in-Some
returns-in-Some c =
    let flag = zero_u32 c.in-Some.flag c.in-Some.rest.now c.args.bytes.now c.in-Some.ensures c.if-flag-eq0.true in
    IfSome_then c.one_constant.result c.one_constant.ensures (λ x h. (c.in-Some.rest.now, flag, h))
