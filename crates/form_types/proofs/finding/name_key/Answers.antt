use Rattle.std.proofs.Common.{◌∙◌, length, sym, ap}
use Rattle.std.specs.Prelude.{slice_index}
use Rattle.std.proofs.lemmas.List.{length-map}
use Rattle.wasm_spec.specs.declared.types.CoreTypeId.{CoreTypeId}
use Rattle.type_spec.specs.Equality.{canonical}
use Rattle.form_types.specs.EarlierTypes.{ids_of}
use Rattle.form_types.specs.Placed.{placed}
use Rattle.form_types.specs.Keys.{group_key, targets}
use Rattle.form_types.proofs.KeyLaws.{group_key-made}
use Rattle.form_types.proofs.finding.name_key.Goals as goal

pub returns-clause-key : goal.returns-clause-key
returns-clause-key c = λ g read.
    let ids = ids_of c.args.ids.now in
    let start = length c.args.ids.now in
    (λ k. record { codes = (read k).codes; references = c.name_targets.ensures k })
    ∙ (λ k. record { codes = (read 1).codes; references = targets ids start (read k).references })
    ∙ group_key-made ids start g
    ∙ ap (λ n. group_key (canonical (slice_index ids) (record { start = n; members = placed g }))) (sym (length-map c.args.ids.now (λ (id : CoreTypeId). id.0)))
