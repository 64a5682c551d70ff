use Rattle.std.proofs.Common.{◌∙◌, sym, ap}
use Rattle.wasm_types.specs.TypeViews.{group_of}
use Rattle.wasm_types.specs.ViewsTell.{group_back}
use Rattle.type_registry.proofs.planning.shared_canonical.Goals as goal

pub canonical-requires-clause-can : goal.canonical-requires-clause-can
canonical-requires-clause-can c = rw c.requires.long c.requires.may.consed

pub returns-clause-canonical : goal.returns-clause-canonical
returns-clause-canonical c = sym (group_back.is c.in_ok-new.field-0.value) ∙ ap group_back.back (ap group_of c.in_ok-new.ensures.ok ∙ c.in_ok-members.ensures)
