use Rattle.std.proofs.Common.{◌≡◌, ◌<◌, ℕ, take}
use Rattle.std.specs.List.{zip}
use Rattle.plan_link.specs.Program.{AreLinked, RepeatsNames, all_exported}
use Rattle.plan_link.proofs.program_links.link_members.Given as goal

abbrev pub invariant-loop-place : goal.invariant-loop-place
invariant-loop-place l = record {
  defined : l.linker ≡ all_exported l.registry (take l.place (zip l.modules l.keys));
  linked : AreLinked l.registry (take l.place (zip l.modules l.keys)) l.linked.items;
  once : (k : ℕ) → k < l.place → RepeatsNames l.modules k → ⊥;
}
