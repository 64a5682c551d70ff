use Rattle.std.proofs.Common.{◌∙◌, ◌^◌, List, length, All, sym, ap, subst, arith}
use Rattle.type_registry.specs.Keys.{key_number}
use Rattle.type_registry.specs.Registry.{Registry, registry_of, live}
use Rattle.import_match.specs.Definitions.{Definition}
use Rattle.import_match.specs.Linking.{exported, wanted}
use Rattle.plan_link.specs.Answers.{import_answers, IsBelow}
use Rattle.plan_link.proofs.Below.{answers-below, exported-long}
use Rattle.plan_link.proofs.Held.{stands-has}
use Rattle.plan_link.proofs.Outcomes.{if-ok}
use Rattle.plan_link.proofs.linking.link_plans.Goals as goal

pub register-requires-clause-listed : goal.register-requires-clause-listed
register-requires-clause-listed c = (c.planned_can_link.ensures.linkable _ _ _ c.requires.exporter.planned).listed

pub register-requires-clause-room : goal.register-requires-clause-room
register-requires-clause-room c =
    let few = c.planned_can_link.ensures.types _ _ _ c.requires.exporter.planned in
    rw c.new-registry.ensures.empty (record { types = omega (arith, few); key = omega arith })

pub register-requires-2-clause-listed : goal.register-requires-2-clause-listed
register-requires-2-clause-listed c = (c.planned_can_link.ensures.linkable _ _ _ c.requires.importer.planned).listed

pub register-requires-2-clause-room : goal.register-requires-2-clause-room
register-requires-2-clause-room c =
    let few = c.planned_can_link.ensures.types _ _ _ c.requires.exporter.planned in
    let few' = c.planned_can_link.ensures.types _ _ _ c.requires.importer.planned in
    let none = c.new-registry.ensures.empty in
    let e = c.in_ok-first.ensures in
    record {
      types = omega (arith, few, few', ap (λ (r : Registry). length (live r)) none, ap (λ (r : Registry). r.max_types) none, e.live, e.most);
      key = omega (arith, ap (λ (r : Registry). r.registrations) none, e.keys);
    }

pub exports_of-requires-clause-can : goal.exports_of-requires-clause-can
exports_of-requires-clause-can c =
    let stands = c.in_ok-second.ensures.others (key_number c.in_ok-first.first) c.args.exporter.now.types c.in_ok-first.ensures.stands in
    (c.planned_can_link.ensures.linkable _ _ _ c.requires.exporter.planned).exports c.register-2.new.registry c.in_ok-first.first c.args.as_module.now
    (stands-has c.register-2.new.registry c.in_ok-first.first c.args.exporter.now.types stands)

pub answers_of-requires-clause-can : goal.answers_of-requires-clause-can
answers_of-requires-clause-can c =
    (c.planned_can_link.ensures.linkable _ _ _ c.requires.importer.planned).imports c.register-2.new.registry c.in_ok-second.second
    (stands-has c.register-2.new.registry c.in_ok-second.second c.args.importer.now.types c.in_ok-second.ensures.stands)

pub returns-clause-linked : goal.returns-clause-linked
returns-clause-linked c =
    let plan = c.args.exporter.now in
    let other = c.args.importer.now in
    let registry = c.register-2.new.registry in
    let first = c.in_ok-first.first in
    let second = c.in_ok-second.second in
    let one = c.in_ok-second.ensures.others (key_number first) plan.types c.in_ok-first.ensures.stands in
    let two = c.in_ok-second.ensures.stands in
    if-ok c.answers_of.result _ _ (λ answers is. record {
      registry = registry;
      first = first;
      second = second;
      exporter_types = one;
      importer_types = two;
      tells = c.same_law.ensures (registry_of registry) (key_number first) (key_number second) plan.types other.types
          (c.planned_can_link.ensures.linkable _ _ _ c.requires.exporter.planned).listed
          (c.planned_can_link.ensures.linkable _ _ _ c.requires.importer.planned).listed one two;
      answered = is ∙ ap (λ (ds : List Definition). import_answers ds (wanted registry second other.translation.module)) c.in_ok-linker.ensures;
    }) c.answers_of.ensures

pub returns-clause-few : goal.returns-clause-few
returns-clause-few c =
    let plan = c.args.exporter.now in
    let registry = c.register-2.new.registry in
    let first = c.in_ok-first.first in
    let stands = c.in_ok-second.ensures.others (key_number first) plan.types c.in_ok-first.ensures.stands in
    let can = (c.planned_can_link.ensures.linkable _ _ _ c.requires.exporter.planned).exports registry first c.args.as_module.now
    (stands-has registry first plan.types stands) in
    let long = exported-long registry first plan.translation.module c.args.as_module.now can in
    let few = c.planned_can_link.ensures.exports _ _ _ c.requires.exporter.planned in
    let wants = wanted registry c.in_ok-second.second c.args.importer.now.translation.module in
    if-ok c.answers_of.result _ _ (λ answers is. subst (All (IsBelow (2 ^ 30)))
    (sym (is ∙ ap (λ (ds : List Definition). import_answers ds wants) c.in_ok-linker.ensures))
    (answers-below (exported registry first plan.translation.module c.args.as_module.now) wants (2 ^ 30) (omega (arith, long, few)))) c.answers_of.ensures
