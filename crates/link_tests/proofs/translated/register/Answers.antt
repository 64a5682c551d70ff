use Rattle.std.proofs.Common.{ap, sym, subst, ◌∙◌}
use Rattle.type_registry.specs.Registry.{Registry, registry_of, count_of}
use Rattle.link_tests.specs.Growing.{MayGrow}
use Rattle.link_tests.proofs.Registered.{may-register, own-count, other-count}
use Rattle.link_tests.proofs.translated.register.Goals as goal

pub returns-clause-may : goal.returns-clause-may
returns-clause-may c =
    let r = registry_of c.args.registry.now in
    let l = c.args.types.now in
    let may = may-register r l c.requires.listed c.requires.few c.requires.may c.in_ok-key.ensures.fits in
    subst MayGrow (sym c.in_ok-key.ensures.ok) (record { sound = c.sound_law.ensures.registered r l may; most = may.most })

pub returns-clause-itself : goal.returns-clause-itself
returns-clause-itself c =
    let r = registry_of c.args.registry.now in
    let l = c.args.types.now in
    let may = may-register r l c.requires.listed c.requires.few c.requires.may c.in_ok-key.ensures.fits in
    (λ i. count_of (c.in_ok-key.ensures.ok i) (c.in_ok-key.ensures.key i)) ∙ own-count r l (c.registered_law.ensures.itself r l may)

pub returns-clause-others : goal.returns-clause-others
returns-clause-others c = λ key count is.
    ap (λ (s : Registry). count_of s key) c.in_ok-key.ensures.ok
    ∙ other-count (registry_of c.args.registry.now) c.args.types.now c.in_ok-key.ensures.lower key count is
