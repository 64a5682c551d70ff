-- The sink's clauses for each write give what its trait requires.
use Rattle.std.proofs.Common.{Some, ap}
use Rattle.std.proofs.lemmas.Result.{IfOk-weaker, on_err_weaker}
use Rattle.devices.proofs.Counters.{Rose-raised}
use Rattle.devices.proofs.list_sink.ListSinkSink.TheImpl.Goals as goal

pub write-tells : goal.write-tells
write-tells g c =
    let sink = c.args.self.now in
    record {
      takes = c.ensures.takes;
      appends = IfOk-weaker c.result _ _ (λ n e. ap (λ s. s.held) e) c.ensures.ok;
      no_fault = IfOk-weaker c.result _ _ (λ n e. ap (λ s. s.calls.faults) e) c.ensures.ok;
      stays = on_err_weaker c.result (λ e. ap (λ s. Some s.held) e) c.ensures.err;
      counted = c.ensures.counted;
      cause = on_err_weaker c.result (λ e. rw e (Rose-raised sink.calls.faults)) c.ensures.err;
    }
