use Rattle.std.proofs.Common.{◌≡◌, Err, ap, sym, subst}
use Rattle.std.proofs.lemmas.List.Elements.{All-weaker}
use Rattle.plan_link.specs.declared.program_error.ProgramError.TheVariants as refused
use Rattle.plan_link.specs.Program.{IsPlannedModule, IsCrowded}
use Rattle.plan_link.specs.Members.{IsLinkableModule, AreHeld}
use Rattle.plan_link.proofs.Outcomes.{if-ok}
use Rattle.plan_link.proofs.Programs.{crowded-once, program-of, program-below, program-shares, repeated-of, complete-of}
use Rattle.plan_link.proofs.program.link_program.Goals as goal

pub returns-in-Some-clause-crowded : goal.returns-in-Some-clause-crowded
returns-in-Some-clause-crowded c = λ k.
    let ms = c.args.modules.now in (
      λ e. let same : c.in-Some.place ≡ k = cc in subst (IsCrowded ms) same c.in-Some.ensures.crowded,
      λ crowded. ap (λ n. Err (refused.TooManyTypes n)) (crowded-once ms c.in-Some.place k c.in-Some.ensures.crowded crowded),
    )

pub register_all-requires-clause-linkable : goal.register_all-requires-clause-linkable
register_all-requires-clause-linkable c =
    All-weaker IsPlannedModule IsLinkableModule (λ m p. c.planned_can_link.ensures.linkable p.options p.bytes m.plan.now p.planned) c.args.modules.now c.requires

pub link_members-requires-clause-linkable : goal.link_members-requires-clause-linkable
link_members-requires-clause-linkable c =
    All-weaker IsPlannedModule IsLinkableModule (λ m p. c.planned_can_link.ensures.linkable p.options p.bytes m.plan.now p.planned) c.args.modules.now c.requires

pub returns-clause-linked : goal.returns-clause-linked
returns-clause-linked c =
    let ms = c.args.modules.now in
    let linkable =
    All-weaker IsPlannedModule IsLinkableModule (λ m p. c.planned_can_link.ensures.linkable p.options p.bytes m.plan.now p.planned) ms c.requires
    in
    if-ok c.link_members.result _ _
    (λ linked is. program-of c.same_law.ensures c.register_all.new.registry ms c.deref.result.now
    (subst (AreHeld c.register_all.new.registry ms) (sym c.deref.ensures.value) c.in_ok-keys.ensures) linkable linked.items is)
    c.link_members.ensures.linked

pub returns-clause-types : goal.returns-clause-types
returns-clause-types c =
    let ms = c.args.modules.now in
    let linkable =
    All-weaker IsPlannedModule IsLinkableModule (λ m p. c.planned_can_link.ensures.linkable p.options p.bytes m.plan.now p.planned) ms c.requires
    in
    if-ok c.link_members.result _ _
    (λ linked is. program-shares ms linked.items
    (program-of c.same_law.ensures c.register_all.new.registry ms c.deref.result.now
    (subst (AreHeld c.register_all.new.registry ms) (sym c.deref.ensures.value) c.in_ok-keys.ensures) linkable linked.items is))
    c.link_members.ensures.linked

pub returns-clause-earlier : goal.returns-clause-earlier
returns-clause-earlier c =
    let ms = c.args.modules.now in
    let linkable =
    All-weaker IsPlannedModule IsLinkableModule (λ m p. c.planned_can_link.ensures.linkable p.options p.bytes m.plan.now p.planned) ms c.requires
    in
    if-ok c.link_members.result _ _
    (λ linked is. program-below ms linked.items
    (program-of c.same_law.ensures c.register_all.new.registry ms c.deref.result.now
    (subst (AreHeld c.register_all.new.registry ms) (sym c.deref.ensures.value) c.in_ok-keys.ensures) linkable linked.items is))
    c.link_members.ensures.linked

pub returns-clause-repeated : goal.returns-clause-repeated
returns-clause-repeated c = λ k fits twice.
    repeated-of c.args.modules.now c.link_members.result c.link_members.ensures.once c.link_members.ensures.err k twice

pub returns-clause-complete : goal.returns-clause-complete
returns-clause-complete c = λ fits none. complete-of c.args.modules.now c.link_members.result c.link_members.ensures.err none
