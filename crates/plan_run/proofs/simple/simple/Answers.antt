use Rattle.std.proofs.Common.{sym, arith}
use Rattle.std.proofs.lemmas.Option.{slice_get-map}
use Rattle.plan_run.specs.Values.{values_in}
use Rattle.plan_run.proofs.Lists.{copied-is}
use Rattle.plan_run.proofs.simple.simple.Goals as goal

pub returns-in-GlobalGet-clause-means : goal.returns-in-GlobalGet-clause-means
returns-in-GlobalGet-clause-means c = grind (arith, copied-is, slice_get-map)

pub returns-in_err-n-in-RefI31-clause-means : goal.returns-in_err-n-in-RefI31-clause-means
returns-in_err-n-in-RefI31-clause-means c = λ terms fields. rw (c.from_residual.ensures, c.in-RefI31.is) (sym (c.in_err-n-in-RefI31.ensures terms))

pub returns-in_ok-n-in-RefI31-clause-means : goal.returns-in_ok-n-in-RefI31-clause-means
returns-in_ok-n-in-RefI31-clause-means c = λ terms fields. rw c.in-RefI31.is (sym (c.in_ok-n-in-RefI31.ensures terms))

pub returns-in_default : goal.returns-in_default
returns-in_default c = record {
  means = λ terms fields. c.plain_value.ensures.means terms (values_in terms c.args.globals.now) fields;
  below = λ k all. c.plain_value.ensures.below k;
}
