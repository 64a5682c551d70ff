use Rattle.std.proofs.Common.{◌≡◌, ◌++◌, map, take}
use Rattle.form_rules.proofs.gather.add_globals.Given as goal

-- the types of the globals so far are added
abbrev pub invariant-loop-global : goal.invariant-loop-global
invariant-loop-global l = l.types.items ≡ l.initial.types.items ++ map (λ g. g.ty) (take l.global-index l.globals)
