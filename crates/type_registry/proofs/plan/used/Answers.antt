use Rattle.std.proofs.Common.{map}
use Rattle.wasm_index.specs.Index.{number_of}
use Rattle.type_registry.specs.Changes.{given}
use Rattle.type_registry.proofs.plan.used.Goals as goal

pub canonicalize_for_runtime_usage-requires : goal.canonicalize_for_runtime_usage-requires
canonicalize_for_runtime_usage-requires c = rw c.in_ok-group.ensures c.requires.can

pub returns : goal.returns
returns c = rw (← c.in_ok-group.ensures) (c.canonicalize_for_runtime_usage.ensures.mapped (given (map number_of c.args.indices.now)) (λ i e post. post.1))
