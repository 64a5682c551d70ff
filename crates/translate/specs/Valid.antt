-- Input that has a plan, unless memory runs out.
use Rattle.std.specs.Prelude.{ℕ, ◌^◌, ◌<◌, List, length, sum_by}
use Rattle.wasm_spec.specs.Module.{Module}
use Rattle.rule_spec.specs.Rules.{Keeps}
use Rattle.module_environ.specs.Readable.{IsReadable}
use Rattle.replay_spec.specs.Plan.{MemoryPlan}
use Rattle.translate.specs.Options.{InitOptions, Options, PlansMemories}
use Rattle.translate.specs.Contexts.{Fits}

-- the bytes spell a module that keeps the listed rules, and its runtime data, its objects and its
-- context have sizes of 32 bits
pub record IsValid (o : Options) (bytes : List ℕ) : Type 0 where
  pub meaning : Module
  pub read : IsReadable bytes meaning
  pub keeps : Keeps meaning
  pub fits : Fits o meaning

-- the same, but for the sizes of objects and of the context
pub record CanBeInitialised (i : InitOptions) (bytes : List ℕ) : Type 0 where
  pub meaning : Module
  pub read : IsReadable bytes meaning
  pub keeps : Keeps meaning
  pub memories : MemoryPlan
  pub memory_plan : PlansMemories i meaning memories
  pub runtime : sum_by length memories.runtime < 2 ^ 32
