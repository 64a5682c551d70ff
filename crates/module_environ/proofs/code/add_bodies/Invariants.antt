use Rattle.std.proofs.Common.{◌≡◌, ◌++◌, map}
use Rattle.form_reader.specs.Views.{body_of}
use Rattle.module_environ.proofs.code.add_bodies.Given as goal

-- the bodies so far are added
abbrev pub invariant-loop-body : goal.invariant-loop-body
invariant-loop-body l = map (λ input. body_of input.body) l.bodies ≡ map (λ input. body_of input.body) l.initial.bodies ++ map body_of l.yielded
