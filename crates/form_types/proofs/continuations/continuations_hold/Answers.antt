use Rattle.std.proofs.Common.{rules, ◌↔◌, map, All, IsTrue}
use Rattle.form_reader.specs.Views.{group_of}
use Rattle.form_types.specs.Types.{NamedGroup, types_by_id, ContinuesFunction}
use Rattle.form_types.proofs.AllOf.{tells_of_map, All-parts}
use Rattle.form_types.proofs.continuations.continuations_hold.Goals as goal

pub returns : goal.returns
returns c =
    let groups = map group_of c.args.distinct.now.groups.items in
    let continues = ContinuesFunction (types_by_id groups) in
    let each : IsTrue c.all.result ↔ All (λ (g : NamedGroup). All continues g) groups =
    tells_of_map (λ (g : NamedGroup). All continues g) group_of c.args.distinct.now.groups.items c.all.result (search rules) in
    let parts = All-parts continues (λ (g : NamedGroup). g) groups in
    (λ all. parts.1 (each.0 all), λ all. each.1 (parts.0 all))
