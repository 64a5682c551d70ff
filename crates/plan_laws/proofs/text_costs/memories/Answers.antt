use Rattle.std.proofs.Common.{arith}
use Rattle.plan_text.specs.PlanText.{memories_text}
use Rattle.plan_laws.proofs.Lengths.{lengths-6}
use Rattle.plan_laws.proofs.ListTexts.{initialization-short}
use Rattle.plan_laws.proofs.text_costs.memories.Goals as goal

pub returns : goal.returns
unfolding memories_text
returns c = rw lengths-6 (omega (arith, initialization-short c.args.t.now.module.memory_initialization, c.alignment.ensures, c.memory_images.ensures, c.data_segments.ensures, c.passive_data.ensures, c.runtime_data.ensures))
