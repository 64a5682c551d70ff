use Rattle.std.proofs.Common.{arith}
use Rattle.plan_laws.proofs.ListTexts.{count-lines-short}
use Rattle.plan_laws.proofs.entity_bytes.counts.Goals as goal

pub returns : goal.returns
returns c =
    count-lines-short c.args.module.now c.imported.ensures c.imported-2.ensures c.imported-3.ensures c.imported-4.ensures c.imported-5.ensures
    (omega (arith, c.len-functions.ensures.length, c.len-functions.ensures.below)) (omega (arith, c.len-tables.ensures.length, c.len-tables.ensures.below)) (omega (arith, c.len-memories.ensures.length, c.len-memories.ensures.below)) (omega (arith, c.len-globals.ensures.length, c.len-globals.ensures.below)) (omega (arith, c.len-tags.ensures.length, c.len-tags.ensures.below))
