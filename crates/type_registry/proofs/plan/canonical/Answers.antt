use Rattle.std.proofs.Common.{◌∙◌, map, ap, arith}
use Rattle.wasm_spec.specs.TypeData.{map_group}
use Rattle.type_spec.specs.Names.{named}
use Rattle.wasm_index.specs.Index.{number_of}
use Rattle.wasm_types.specs.TypeViews.{group_of}
use Rattle.wasm_trace.specs.Canonical.{consed_edge}
use Rattle.type_registry.specs.Changes.{given}
use Rattle.type_registry.proofs.plan.canonical.Goals as goal

pub from_u32-requires : goal.from_u32-requires
from_u32-requires c = omega (arith, c.requires.range, c.requires.few)

pub from_u32-requires-2 : goal.from_u32-requires-2
from_u32-requires-2 c = c.requires.few

pub canonicalize_for_hash_consing-requires : goal.canonicalize_for_hash_consing-requires
canonicalize_for_hash_consing-requires c = rw (c.from_u32.ensures, c.from_u32-2.ensures, c.in_ok-group.ensures) c.requires.can

pub returns : goal.returns
returns c =
    let engine = given (map number_of c.args.indices.now) in
    c.canonicalize_for_hash_consing.ensures.mapped engine (λ i e post. post.1)
    ∙ ap (λ s. map_group (named (consed_edge engine (number_of s))) (consed_edge engine (number_of s)) (group_of c.in_ok-group.group)) c.from_u32.ensures
    ∙ ap (λ g. map_group (named (consed_edge engine c.args.start)) (consed_edge engine c.args.start) (group_of g)) c.in_ok-group.ensures
