use Rattle.std.proofs.Common.{◌≤◌, arith}
use Rattle.plan_tables.proofs.MemorySizes.{nothing-reached}
use Rattle.plan_tables.proofs.memory_sizes.reached_bytes.Goals as goal

pub returns-in-I64-2 : goal.returns-in-I64-2
returns-in-I64-2 c =
    let wide : 64 ≤ c.args.log2 = omega (arith, c.if-log2-lt64.false) in
    rw c.in-I64-2.is (nothing-reached c.args.log2 wide)
