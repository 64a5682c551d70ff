use Rattle.std.proofs.Common.{◌≡◌, ◌-◌, ◌++◌, length, map, take, replicate, refl, arith}
use Rattle.std.proofs.lemmas.List.{length-map}
use Rattle.std.proofs.lemmas.Option.{none-some}
use Rattle.std.proofs.lemmas.List.Elements.{All-append, All-take, All-replicate}
use Rattle.replay_spec.specs.Values as plain
use Rattle.plan_run.specs.declared.value.Value.TheVariants as value
use Rattle.plan_run.specs.Values.{values_in, terms_of, imported_value, NamesBelow}
use Rattle.plan_run.proofs.Terms.{all-names-more, plain-mean}
use Rattle.plan_run.proofs.Written.{first-globals}
use Rattle.plan_run.proofs.evaluation.Evaluator.with_globals.Goals as goal

pub write_kept-requires-clause-sound : goal.write_kept-requires-clause-sound
write_kept-requires-clause-sound c =
    let n = length c.new-nodes.result.items in
    let imported = c.args.imported.items in
    record {
      ordered = λ k n at. grind (arith, none-some);
      globals = c.write_simple.ensures.below n
          (rw c.in_ok-resize.ensures.items
          (All-append (NamesBelow n) (take c.len.result imported) (replicate (c.len.result - c.args.imported.len) value.Null)
          (All-take (NamesBelow n) c.len.result imported (all-names-more 0 n imported (omega arith) c.requires.plain))
          (All-replicate (NamesBelow n) (c.len.result - c.args.imported.len) value.Null tt)));
    }

pub returns-clause-laid : goal.returns-clause-laid
returns-clause-laid c =
    let t = c.args.translation.now in
    let start = c.new-nodes.result.items in
    let imported = c.args.imported.items in
    let known = map imported_value imported in
    let null = plain.Ref plain.Null in
    let count = length t.«module».globals - t.«module».num_imported_globals in
    let n = c.len.result in
    let ok = c.args.imported.ok.0 in
    let number : c.len-imports.result ≡ length known = (let b = length-map imported imported_value in omega arith) in
    let first : values_in (terms_of start) c.resize.new.self.items ≡ known ++ replicate count null =
    first-globals (terms_of start) imported c.resize.new.self.items n count value.Null refl (omega arith) (omega arith)
    (rw ok at c.in_ok-resize.ensures.items) (plain-mean start imported c.requires.plain).are in
    let written = rw (c.deref.ensures.value, first) at (c.write_simple.ensures.written (terms_of start)) in
    rw (written, number) at c.in_ok-write_kept.ensures.written
