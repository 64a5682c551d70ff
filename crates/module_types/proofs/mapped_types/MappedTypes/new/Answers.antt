use Rattle.std.proofs.Common.{ap}
use Rattle.std.specs.Prelude.{nat_eq}
use Rattle.std.specs.Option.{unwrap_or}
use Rattle.std.specs.Map.{lookup}
use Rattle.module_types.proofs.Chaining.{linked-none}
use Rattle.module_types.proofs.mapped_types.MappedTypes.new.Goals as goal

pub returns-clause-linked : goal.returns-clause-linked
returns-clause-linked c = λ types. linked-none types _ c.new.ensures.items (λ q. ap (λ es. unwrap_or (lookup (nat_eq q) es) 0) c.with_hasher.ensures.empty)
