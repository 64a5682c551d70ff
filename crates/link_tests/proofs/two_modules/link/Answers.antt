use Rattle.std.proofs.Common.{length}
use Rattle.type_registry.specs.Keys.{key_number}
use Rattle.link_tests.proofs.Registered.{has-count}
use Rattle.link_tests.proofs.two_modules.link.Goals as goal

pub define_exports-requires : goal.define_exports-requires
define_exports-requires c =
    let count = length c.args.first_types.now.types in
    let key = c.in_ok-first_key.first_key in
    c.requires.first.exports c.register-2.new.registry key _
    (has-count c.register-2.new.registry key count (c.in_ok-second_key.ensures.others (key_number key) count c.in_ok-first_key.ensures.itself))
