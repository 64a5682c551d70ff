use Rattle.std.proofs.Common.{length, Err, ap, arith}
use Rattle.type_registry.specs.Registry.{Registry, registry_of, live}
use Rattle.plan_link.proofs.Fitting.{live-few, not-full, only-memory}
use Rattle.plan_link.proofs.registering.register.Goals as goal

pub memory-requires : goal.memory-requires
memory-requires c =
    only-memory c.in-Err.refusal
    (λ e. not-full (registry_of c.args.registry.now) c.args.types.now c.requires.listed c.requires.room (c.in-Err.ensures.full (ap Err e)))
    (λ e. c.in-Err.ensures.held (ap Err e))

pub returns-in-Ok-clause-live : goal.returns-in-Ok-clause-live
returns-in-Ok-clause-live c =
    omega (arith, ap (λ (s : Registry). length (live s)) c.in-Ok.ensures.ok, live-few (registry_of c.args.registry.now) c.args.types.now c.requires.listed)
