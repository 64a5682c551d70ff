use Rattle.std.proofs.Common.{[], ◌∷◌}
use Rattle.std.proofs.lemmas.List.Elements.{All-nil, All-cons}
use Rattle.plan_link.specs.Program.{IsPlannedModule}
use Rattle.link_tests.proofs.programs.linked.Goals as goal

pub link_program-linked-requires : goal.link_program-linked-requires
link_program-linked-requires c =
    let a = c.module_of.result in
    let b = c.module_of-2.result in
    let d = c.module_of-3.result in
    All-cons IsPlannedModule a (b ∷ d ∷ []) c.module_of.ensures
    (All-cons IsPlannedModule b (d ∷ []) c.module_of-2.ensures (All-cons IsPlannedModule d [] c.module_of-3.ensures (All-nil IsPlannedModule)))
