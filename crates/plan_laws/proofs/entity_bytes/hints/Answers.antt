use Rattle.std.specs.Prelude.{List, Option, IfSome, length, ◌<◌, ◌^◌}
use Rattle.std.proofs.Common.{subst, arith}
use Rattle.init_plan.specs.declared.debug_info.BranchHint.{BranchHint}
use Rattle.init_plan.specs.Views.{hints_of}
use Rattle.wasm_index.specs.Index.{number_of}
use Rattle.plan_laws.proofs.ListTexts.{hint-short}
use Rattle.plan_laws.proofs.entity_bytes.hints.Goals as goal

pub returns : goal.returns
returns c =
    let P : Option (List BranchHint) → Type 0 = λ hints. IfSome hints (λ list. length list < 2 ^ 64) in
    hint-short c.args.function (hints_of c.args.translation.now (number_of c.args.function)) (omega arith) (subst P c.branch_hints.ensures c.count.ensures)
