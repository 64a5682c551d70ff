use Rattle.std.proofs.Common.{◌≡◌, ◌∙◌, ◌+◌, ◌++◌, [], ◌∷◌, length, take, sym, ap, subst, arith, length-append}
use Rattle.std.specs.List.{AllZip}
use Rattle.planner_c.specs.Members.{IsBetween}
use Rattle.planner_c.specs.Programs.{TellsAnswer}
use Rattle.planner_c.proofs.Placing.{zip-behind}
use Rattle.planner_c.proofs.program_tables.push_answers.Goals as goal

pub loop-answer-preserved : goal.loop-answer-preserved
loop-answer-preserved c =
    let answers = c.args.answers.now in
    let i = c.loop-answer.answer-index in
    let rows = c.loop-answer.rows.items in
    let inv = c.loop-answer.invariant in
    let row = c.answer_row.result in
    let all = c.in_ok-push.ensures.items in
    let more : length c.push.new.self.items ≡ length rows + 1 = ap length all ∙ length-append rows (row ∷ []) in
    let Tells = TellsAnswer (IsBetween c.args.linked.now) in
    record {
      long = omega (arith, more, inv.long);
      told = λ before zipped. subst (AllZip Tells (before ++ take (i + 1) answers)) (sym all)
          (zip-behind Tells before answers rows i _ row c.loop-answer-test.true (inv.told before zipped) c.answer_row.ensures);
    }
