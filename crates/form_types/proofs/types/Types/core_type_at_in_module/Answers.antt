use Rattle.std.proofs.Common.{◌≡◌, ◌∙◌, ◌<◌, ℕ, length, get_or, map, sym, ap, arith}
use Rattle.std.proofs.lemmas.List.{length-map, get_or-map}
use Rattle.std.proofs.lemmas.List.Elements.{All-get_or}
use Rattle.wasm_spec.specs.declared.types.CoreTypeId.{CoreTypeId}
use Rattle.form_reader.specs.Views.{group_of}
use Rattle.form_types.specs.Types.{types_by_id}
use Rattle.form_types.proofs.types.Types.core_type_at_in_module.Goals as goal

pub returns-clause-known : goal.returns-clause-known
returns-clause-known c =
    let known = rw (← c.self.view_is) at c.requires in
    let ids = map (λ (id : CoreTypeId). id.0) c.self.inside.declared.items in
    let id = c.index.result.now in
    let at : get_or ids c.args.index id.0 ≡ id.0 =
    get_or-map (λ (id : CoreTypeId). id.0) c.self.inside.declared.items c.args.index id id.0 (omega (arith, known, length-map c.self.inside.declared.items (λ (id : CoreTypeId). id.0)))
    ∙ ap (λ (id : CoreTypeId). id.0) (sym c.index.ensures) in
    let few = All-get_or (λ (n : ℕ). n < length (types_by_id (map group_of c.self.inside.distinct.groups.items))) ids c.args.index id.0 known c.self.invariant.sound.declared in
    rw (← c.self.view_is) (rw at at few)
