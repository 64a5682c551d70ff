use Rattle.plan_laws.proofs.ListTexts.{type-list-short}
use Rattle.std.proofs.Common.{arith}
use Rattle.plan_laws.proofs.type_list_bytes.type_list.Goals as goal

pub returns : goal.returns
returns c = type-list-short c.args.types.now (omega arith) c.subtypes.ensures c.trampolines.ensures c.groups.ensures
