-- The source's clauses for each read give what its trait requires.
use Rattle.std.proofs.Common.{Some, length, min, ap, arith}
use Rattle.std.proofs.lemmas.Result.{IfOk-weaker, on_err_weaker}
use Rattle.devices.proofs.Counters.{Rose-raised}
use Rattle.devices.proofs.Moves.{front-and-rest-on-ok}
use Rattle.devices.proofs.list_source.ListSourceSource.TheImpl.Goals as goal

pub read-tells : goal.read-tells
read-tells g c =
    let source = c.args.self.now in
    let count = min (min (length c.args.buf.now) source.piece) (length source.left) in
    record {
      within = IfOk-weaker c.result _ _ (λ n e. omega arith) c.ensures.count;
      moves = front-and-rest-on-ok c.result count source.left c.args.buf.now _ _ (omega arith) c.ensures.count c.ensures.bytes
          (IfOk-weaker c.result _ _ (λ n e. ap (λ s. s.left) e) c.ensures.ok);
      ends = c.ensures.ends;
      end_noted = IfOk-weaker c.result _ _ (λ n e untold. cc) c.ensures.count;
      no_fault = IfOk-weaker c.result _ _ (λ n e. ap (λ s. s.calls.faults) e) c.ensures.ok;
      stays = on_err_weaker c.result (λ e. ap (λ s. Some s.left) e) c.ensures.err;
      no_end = on_err_weaker c.result (λ e untold. cc) c.ensures.err;
      counted = c.ensures.counted;
      cause = on_err_weaker c.result (λ e. rw e (Rose-raised source.calls.faults)) c.ensures.err;
    }
