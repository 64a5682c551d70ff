use Rattle.std.proofs.lemmas.Option.{IfSome_then}
use Rattle.form_reader.proofs.OneConstant.{one_is}
use Rattle.form_reader.proofs.offsets.one_constant.Goals as goal

pub returns-in-Some : goal.returns-in-Some
returns-in-Some c =
    IfSome_then c.ended_s32.result c.ended_s32.ensures
    (λ x h. one_is c.args.bytes.now c.in-Some.rest.now x.1.now c.in-Some.byte x.0 c.in-Some.ensures c.if-byte-eq-I32_CONST.true h)
