use Rattle.std.proofs.Common.{rules, map}
use Rattle.form_reader.specs.Views.{sub_type_of, group_of}
use Rattle.form_types.specs.Types.{types_by_id, ContinuesFunction}
use Rattle.form_types.proofs.AllOf.{tells_of_map}
use Rattle.form_types.proofs.continuations.members_continue.Goals as goal

pub returns : goal.returns
returns c =
    tells_of_map (ContinuesFunction (types_by_id (map group_of c.args.distinct.now.groups.items))) sub_type_of c.args.types.now c.all.result (search rules)
