use Rattle.module_types.proofs.Places.{group-is, filled}
use Rattle.module_tests.proofs.groups.ids_of.Goals as goal

pub returns-clause-group : goal.returns-clause-group
returns-clause-group c = group-is c.args.types.now c.core_type_at_in_module-id.result.0 c.rec_group_id_of-group.result.0 c.rec_group_id_of-group.ensures.number

pub returns-clause-filled : goal.returns-clause-filled
returns-clause-filled c = filled c.args.types.now c.core_type_at_in_module-id.result.0 c.rec_group_id_of-group.result.0 c.rec_group_id_of-group.ensures.number
