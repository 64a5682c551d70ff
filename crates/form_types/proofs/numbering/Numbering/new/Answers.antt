use Rattle.std.proofs.Common.{map, refl, ap, rules}
use Rattle.wasm_spec.specs.declared.types.CoreTypeId.{CoreTypeId}
use Rattle.form_types.proofs.Taking.{took-none}
use Rattle.form_types.proofs.numbering.Numbering.new.Goals as goal

pub returns : goal.returns
returns c = took-none _ refl (record {
  ids = ap (map (λ (id : CoreTypeId). id.0)) c.new-3.ensures.items;
  listed = c.new-2.ensures;
  met = λ q. search rules;
})
