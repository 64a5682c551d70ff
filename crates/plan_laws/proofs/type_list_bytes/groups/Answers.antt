use Rattle.plan_laws.proofs.ListTexts.{group-lines-short}
use Rattle.plan_laws.proofs.type_list_bytes.groups.Goals as goal

pub returns : goal.returns
returns c = group-lines-short c.args.types.now.groups c.each_group.ensures
