use Rattle.std.proofs.Common.{subst}
use Rattle.wasm_spec.specs.Module.{Module}
use Rattle.rule_spec.specs.WorkedKept.{overlapping, overlap_bytes}
use Rattle.form_reader.proofs.SectionLaws.{module_once}
use Rattle.form_rules.proofs.OverlapRead.{overlap-spelled}
use Rattle.replay_spec.proofs.WorkedPlan.{one-image}
use Rattle.init_plan.specs.Views.{memory_plan_of}
use Rattle.translate.specs.Options.{PlansMemories}
use Rattle.translate.specs.Worked.{cow_options}
use Rattle.translate.proofs.worked.worked_plan.Goals as goal

pub returns : goal.returns
returns c = λ plan is.
    let memories = memory_plan_of plan.translation in
    one-image 1048576 memories
    (subst (λ (m : Module). PlansMemories cow_options.init m memories) (module_once overlap_bytes is.meaning overlapping is.read.spelled overlap-spelled.0)
    is.planned.translation.memories.plan)
