use Rattle.plan_laws.proofs.ListTexts.{region-lines-short}
use Rattle.std.specs.Prelude.{codes}
use Rattle.std.proofs.Common.{arith}
use Rattle.vm_offsets.specs.Layouts.{fields_of, pointer_of, size_of_context}
use Rattle.plan_laws.proofs.LineTexts.{one-number}
use Rattle.plan_laws.proofs.memory_bytes.context.Goals as goal

pub returns-clause-regions : goal.returns-clause-regions
returns-clause-regions c = region-lines-short (pointer_of c.args.offsets.now) (fields_of c.args.offsets.now) c.each_region.ensures

pub returns-clause-size : goal.returns-clause-size
returns-clause-size c = omega (arith, one-number (codes "context") (size_of_context c.args.offsets.now) (omega arith))
