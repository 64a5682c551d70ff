use Rattle.std.proofs.Common.{◌≤◌, arith}
use Rattle.plan_tables.proofs.MemorySizes.{greatest}
use Rattle.plan_tables.proofs.memory_sizes.pages_in_bytes.Goals as goal

pub returns-else-pages-eq0 : goal.returns-else-pages-eq0
returns-else-pages-eq0 c =
    let some : 1 ≤ c.args.pages = omega (arith, c.if-pages-eq0.false) in
    let wide : 64 ≤ c.args.log2 = omega (arith, c.if-log2-lt64.false) in
    greatest c.args.pages c.args.log2 some wide
