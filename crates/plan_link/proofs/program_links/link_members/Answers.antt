use Rattle.std.proofs.Common.{◌≡◌, ◌∙◌, ◌+◌, List, ◌++◌, [], ◌∷◌, take, get_or, inl, inr, sym, ap, subst, arith}
use Rattle.std.specs.List.{zip}
use Rattle.std.proofs.lemmas.Bool.{cases_lt}
use Rattle.std.proofs.lemmas.List.{take_all}
use Rattle.std.proofs.lemmas.Option.{slice_get_within}
use Rattle.std.proofs.lemmas.Result.{err_from_is_err_and}
use Rattle.std.proofs.lemmas.Slice.Zip.{length-zip, AllZip-long}
use Rattle.type_registry.specs.declared.key.ModuleKey.{ModuleKey}
use Rattle.import_match.specs.Definitions.{Definition}
use Rattle.import_match.specs.Linking.{exported}
use Rattle.plan_link.specs.declared.program.LinkedModule.{LinkedModule}
use Rattle.plan_link.specs.declared.program.ProgramModule.{ProgramModule}
use Rattle.plan_link.specs.Program.{Member, IsHeldIn, IsLinkedBy, AreLinked, RepeatsNames, all_exported}
use Rattle.plan_link.specs.Members.{IsTaken}
use Rattle.plan_link.proofs.Held.{stands-has, stands-held}
use Rattle.plan_link.proofs.Members.{member-at, one-more, linked-more, exported-more, unlinked}
use Rattle.plan_link.proofs.Repeats.{taken-repeats, repeats-taken}
use Rattle.plan_link.proofs.program_links.link_members.Goals as goal

abbrev none : ModuleKey
none = record { 0 = 0 }

pub bounds-keys-place : goal.bounds-keys-place
bounds-keys-place c =
    let long = AllZip-long (λ (x : ProgramModule) (k : ModuleKey). IsHeldIn c.args.registry.now (x, k)) c.args.modules.now c.args.keys.now c.requires.held in
    omega (arith, long, c.loop-place-test.true)

pub link_member-requires-clause-held : goal.link_member-requires-clause-held
link_member-requires-clause-held c =
    let i = c.loop-place.place in
    let m = c.index-modules-place.result in
    let key = get_or c.args.keys.now i none in
    let h = member-at c.args.registry.now c.args.modules.now c.args.keys.now c.requires.held c.requires.linkable i c.loop-place-test.true m
    c.index-modules-place.is none in
    stands-held c.args.registry.now key m.plan.now.types h.stands

pub link_member-requires-clause-can : goal.link_member-requires-clause-can
link_member-requires-clause-can c =
    let i = c.loop-place.place in
    let m = c.index-modules-place.result in
    let key = get_or c.args.keys.now i none in
    let h = member-at c.args.registry.now c.args.modules.now c.args.keys.now c.requires.held c.requires.linkable i c.loop-place-test.true m
    c.index-modules-place.is none in
    h.linkable.imports c.args.registry.now key (stands-has c.args.registry.now key m.plan.now.types h.stands)

pub define_member-requires-clause-held : goal.define_member-requires-clause-held
define_member-requires-clause-held c =
    let i = c.loop-place.place in
    let m = c.index-modules-place.result in
    let key = get_or c.args.keys.now i none in
    let h = member-at c.args.registry.now c.args.modules.now c.args.keys.now c.requires.held c.requires.linkable i c.loop-place-test.true m
    c.index-modules-place.is none in
    stands-held c.args.registry.now key m.plan.now.types h.stands

pub define_member-requires-clause-can : goal.define_member-requires-clause-can
define_member-requires-clause-can c =
    let i = c.loop-place.place in
    let m = c.index-modules-place.result in
    let key = get_or c.args.keys.now i none in
    let h = member-at c.args.registry.now c.args.modules.now c.args.keys.now c.requires.held c.requires.linkable i c.loop-place-test.true m
    c.index-modules-place.is none in
    h.linkable.exports c.args.registry.now key m.name.now (stands-has c.args.registry.now key m.plan.now.types h.stands)

pub returns-in_err-define_member-clause-err : goal.returns-in_err-define_member-clause-err
returns-in_err-define_member-clause-err c =
    let registry = c.args.registry.now in
    let modules = c.args.modules.now in
    let i = c.loop-place.place in
    let m = c.index-modules-place.result in
    let key = get_or c.args.keys.now i none in
    let h = member-at registry modules c.args.keys.now c.requires.held c.requires.linkable i c.loop-place-test.true m c.index-modules-place.is none in
    let repeats : IsTaken registry c.loop-place.linker m key → RepeatsNames modules i =
    λ taken. taken-repeats registry modules c.args.keys.now h.long i m key h.at
    (subst (λ (ds : List Definition). IsTaken registry ds m key) c.loop-place.invariant.defined taken) in
    let why = unlinked modules i (IsTaken registry c.loop-place.linker m key) c.in_err-define_member.field-0.0 c.in_err-define_member.ensures.err repeats
    c.loop-place.invariant.once in
    let p = err_from_is_err_and c.from_residual-in_err-define_member.result c.from_residual-in_err-define_member.ensures.1 in
    rw (p.1, p.2) why

pub loop-place-preserved : goal.loop-place-preserved
loop-place-preserved c =
    let registry = c.args.registry.now in
    let modules = c.args.modules.now in
    let keys = c.args.keys.now in
    let i = c.loop-place.place in
    let m = c.index-modules-place.result in
    let key = get_or keys i none in
    let h = member-at registry modules keys c.requires.held c.requires.linkable i c.loop-place-test.true m c.index-modules-place.is none in
    let before = take i (zip modules keys) in
    let next : take (i + 1) (zip modules keys) ≡ before ++ (m, key) ∷ [] = one-more (zip modules keys) i (m, key) h.member in
    let defined = c.loop-place.invariant.defined in
    let found = c.in_ok-link_member.field-0 in
    let linked = linked-more registry before (m, key) c.loop-place.linked.items found c.loop-place.invariant.linked
    (subst (λ (ds : List Definition). IsLinkedBy registry ds (m, key) found) defined c.in_ok-link_member.ensures) in
    record {
      defined =
          c.in_ok-define_member.ensures.ok
          ∙ ap (λ (ds : List Definition). ds ++ exported registry key m.plan.now.translation.module m.name.now) defined
          ∙ sym (exported-more registry before (m, key))
          ∙ ap (all_exported registry) (sym next);
      linked =
          subst (λ (ls : List LinkedModule). AreLinked registry (take (i + 1) (zip modules keys)) ls) (sym c.in_ok-push.ensures.items)
          (subst (λ (ms : List Member). AreLinked registry ms (c.loop-place.linked.items ++ found ∷ [])) (sym next) linked);
      once = λ k less repeats. elim (cases_lt k i) [
        | inl earlier ↦ c.loop-place.invariant.once k earlier repeats
        | inr later ↦
            let here : k ≡ i = omega (arith, less, later) in
            c.in_ok-define_member.ensures.new
            (subst (λ (ds : List Definition). IsTaken registry ds m key) (sym defined)
            (repeats-taken registry modules keys h.long i m key h.at (subst (RepeatsNames modules) here repeats)))
      ];
    }

pub returns-clause-linked : goal.returns-clause-linked
returns-clause-linked c =
    let registry = c.args.registry.now in
    let modules = c.args.modules.now in
    let keys = c.args.keys.now in
    let long = AllZip-long (λ (x : ProgramModule) (k : ModuleKey). IsHeldIn registry (x, k)) modules keys c.requires.held in
    let all : take c.loop-place.place (zip modules keys) ≡ zip modules keys =
    take_all c.loop-place.place (zip modules keys) (omega (arith, length-zip modules keys, long, c.loop-place-test.false)) in
    subst (λ (ms : List Member). AreLinked registry ms c.loop-place.linked.items) all c.loop-place.invariant.linked

pub returns-clause-once : goal.returns-clause-once
returns-clause-once c = λ k repeats.
    c.loop-place.invariant.once k
    (omega (arith, slice_get_within c.args.modules.now k repeats.repeating repeats.at, c.loop-place-test.false)) repeats
