use Rattle.std.proofs.Common.{◌≡◌, ◌∙◌, ap, None, length}
use Rattle.type_registry.specs.Keys.{key_number}
use Rattle.type_registry.specs.Registry.{Registry, registry_of, count_of}
use Rattle.link_tests.proofs.Registered.{has-count, has-none, released-count}
use Rattle.link_tests.proofs.rows.define_twice.Goals as goal

-- while the module is held

pub define_exports-requires : goal.define_exports-requires
define_exports-requires c =
    let count = length c.args.types.now.types in
    c.requires.exports c.register.new.registry c.in_ok-key.key _ (has-count c.register.new.registry c.in_ok-key.key count c.in_ok-key.ensures.itself)

pub define_exports-requires-2 : goal.define_exports-requires-2
define_exports-requires-2 c =
    let count = length c.args.types.now.types in
    c.requires.exports c.register.new.registry c.in_ok-key.key _ (has-count c.register.new.registry c.in_ok-key.key count c.in_ok-key.ensures.itself)

-- once it was released

pub define_exports-requires-3 : goal.define_exports-requires-3
define_exports-requires-3 c =
    let key = c.in_ok-key.key in
    let none : count_of (registry_of c.release.new.self) (key_number key) ≡ None =
    ap (λ (r : Registry). count_of r (key_number key)) c.in_ok-release.ensures.ok ∙ released-count (registry_of c.register.new.registry) (key_number key) in
    c.requires.exports c.release.new.self key _ (has-none c.release.new.self key (length c.args.types.now.types) none)

pub resolve-requires : goal.resolve-requires
resolve-requires c =
    let key = c.in_ok-key.key in
    let none : count_of (registry_of c.release.new.self) (key_number key) ≡ None =
    ap (λ (r : Registry). count_of r (key_number key)) c.in_ok-release.ensures.ok ∙ released-count (registry_of c.register.new.registry) (key_number key) in
    c.requires.imports c.release.new.self key (has-none c.release.new.self key (length c.args.types.now.types) none)
