use Rattle.std.proofs.Common.{ap}
use Rattle.type_spec.specs.Interned.{empty}
use Rattle.module_types.specs.Runs.{with_groups}
use Rattle.module_types.proofs.EqualLists.{groups_determined}
use Rattle.module_types.proofs.laws.built_groups_law.Goals as goal

pub returns : goal.returns
returns c = λ tss uss p q. (λ e. (ap (λ vs. (with_groups empty vs).types) e, ap (λ vs. (with_groups empty vs).groups) e), λ e. groups_determined empty tss uss p q e.0 e.1)
