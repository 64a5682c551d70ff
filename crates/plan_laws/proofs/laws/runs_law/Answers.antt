use Rattle.std.specs.Prelude.{map, string_bytes}
use Rattle.plan_laws.proofs.Runs.{gain-alike}
use Rattle.plan_laws.proofs.laws.runs_law.Goals as goal

pub returns : goal.returns
returns c = λ bytes left rest before after old new refusal other.
    gain-alike (map string_bytes c.args.words.now) c.read_words.result c.read_words.ensures.complete c.args.p.now c.args.q.now c.determined_law.ensures.same
    bytes left rest before after old new refusal other
