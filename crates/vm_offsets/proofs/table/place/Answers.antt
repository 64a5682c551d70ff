-- One more row is placed.
use Rattle.std.proofs.Common.{◌≡◌, ◌+◌, ◌*◌, ℕ, drop, arith, rules}
use Rattle.vm_offsets.specs.Context.{end_from}
use Rattle.vm_offsets.specs.Entries.{rows_of}
use Rattle.vm_offsets.proofs.Placing.{end_from-grows, end_from-step, placed_from-step, all_placed}
use Rattle.vm_offsets.proofs.table.place.Goals as goal

-- a size that is past the limit stays past it
pub returns-then-end-from-clause-overflow : goal.returns-then-end-from-clause-overflow
returns-then-end-from-clause-overflow c =
    let next : ℕ = c.begin-begin.result + c.from.result * c.from-in-loop-place.result in
    let rest : end_from next (rows_of (drop (c.loop-place.place + 1) c.args.rows.now)) ≡ end_from c.args.begin (rows_of c.args.rows.now) =
    end_from-step _ _ c.args.rows.now c.loop-place.place _ _ _ _ (omega arith) c.begin-begin.ensures.value c.from.ensures
    c.from-in-loop-place.ensures c.loop-place.invariant.rest in
    omega (arith, rest, end_from-grows next (rows_of (drop (c.loop-place.place + 1) c.args.rows.now)))

pub loop-place-preserved : goal.loop-place-preserved
loop-place-preserved c = record {
  room = search rules;
  small = omega arith;
  rest = end_from-step _ _ c.args.rows.now c.loop-place.place _ _ _ _ (omega arith) c.begin-begin.ensures.value c.from.ensures
      c.from-in-loop-place.ensures c.loop-place.invariant.rest;
  placed = placed_from-step _ c.loop-place.entries _ c.args.rows.now c.loop-place.place _ _ _ _ _ (omega arith) (omega arith)
      c.begin-begin.ensures.value c.from.ensures c.from-in-loop-place.ensures c.from-in-loop-place-3.ensures
      c.loop-place.invariant.placed;
}

pub returns-clause-entries : goal.returns-clause-entries
returns-clause-entries c =
    all_placed _ _ _ c.args.rows.now c.loop-place.place (omega arith) (omega arith) c.loop-place.invariant.placed
