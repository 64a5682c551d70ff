use Rattle.std.proofs.Common.{◌≡◌, ◌∙◌, List, length, map, inl, inr, sym, ap, subst, arith}
use Rattle.std.specs.List.{AllZip}
use Rattle.std.proofs.lemmas.Slice.Zip.{AllZip-long}
use Rattle.translate.specs.Options.{options_of}
use Rattle.translate.specs.Valid.{IsValid}
use Rattle.command_words.specs.declared.command.Command.{Command}
use Rattle.plan_text.specs.declared.plan.Plan.{Plan}
use Rattle.plan_link.specs.declared.program.ProgramModule.{ProgramModule}
use Rattle.import_match.proofs.Listing.{All-slice_get}
use Rattle.planner_c.specs.Members.{HasThisPlan, IsNamedAs}
use Rattle.planner_c.specs.Programs.{IsValidModule, TellsProgram, TellsFault}
use Rattle.planner_c.proofs.Members.{plan_of, all-planned, all-members, has-program, refuses}
use Rattle.planner_c.proofs.program_linking.bobbinazure_link_program.Goals as goal

pub members_of-requires-clause-long : goal.members_of-requires-clause-long
members_of-requires-clause-long c =
    ap length c.deref.ensures.value ∙ AllZip-long (HasThisPlan (options_of c.in-Some.command)) c.args.modules.now c.in-Ok.plans.items c.in-Ok.ensures.planned

pub link_members-requires : goal.link_members-requires
link_members-requires c =
    let value = sym c.deref-in-Ok-members_of.ensures.value in
    all-planned c.args.options.now c.in-Some.command c.in-Some.ensures.command c.args.modules.now c.in-Ok.plans.items c.deref-in-Ok-members_of.result.now
    c.in-Ok.ensures.planned (subst (AllZip IsNamedAs c.args.modules.now) value c.in-Ok-members_of.ensures.named)
    (ap (map plan_of) (sym value) ∙ c.in-Ok-members_of.ensures.plans ∙ c.deref.ensures.value)

-- the modules are planned

pub returns-in-Ok-members_of-clause-linked : goal.returns-in-Ok-members_of-clause-linked
returns-in-Ok-members_of-clause-linked c = λ success.
    let value = sym c.deref-in-Ok-members_of.ensures.value in
    has-program c.args.options.now c.in-Some.command c.in-Some.ensures.command c.args.modules.now c.in-Ok.plans.items c.deref-in-Ok-members_of.result.now
    c.in-Ok.ensures.planned (subst (AllZip IsNamedAs c.args.modules.now) value c.in-Ok-members_of.ensures.named)
    (ap (map plan_of) (sym value) ∙ c.in-Ok-members_of.ensures.plans ∙ c.deref.ensures.value)
    (λ (ps : List ProgramModule). TellsProgram ps c.link_members.new.out) (c.link_members.ensures.told success)

pub returns-in-Ok-members_of-clause-refused : goal.returns-in-Ok-members_of-clause-refused
returns-in-Ok-members_of-clause-refused c = λ refused.
    let value = sym c.deref-in-Ok-members_of.ensures.value in
    inr (has-program c.args.options.now c.in-Some.command c.in-Some.ensures.command c.args.modules.now c.in-Ok.plans.items c.deref-in-Ok-members_of.result.now
    c.in-Ok.ensures.planned (subst (AllZip IsNamedAs c.args.modules.now) value c.in-Ok-members_of.ensures.named)
    (ap (map plan_of) (sym value) ∙ c.in-Ok-members_of.ensures.plans ∙ c.deref.ensures.value)
    (λ (ps : List ProgramModule). TellsFault ps c.link_members.new.out) (c.link_members.ensures.fault refused))

pub returns-in-Ok-members_of-clause-complete : goal.returns-in-Ok-members_of-clause-complete
returns-in-Ok-members_of-clause-complete c = λ valid right.
    let value = sym c.deref-in-Ok-members_of.ensures.value in
    c.link_members.ensures.complete (right c.deref-in-Ok-members_of.result.now
    (all-members c.args.options.now c.in-Some.command c.in-Some.ensures.command c.args.modules.now c.in-Ok.plans.items c.deref-in-Ok-members_of.result.now
    c.in-Ok.ensures.planned (subst (AllZip IsNamedAs c.args.modules.now) value c.in-Ok-members_of.ensures.named)
    (ap (map plan_of) (sym value) ∙ c.in-Ok-members_of.ensures.plans ∙ c.deref.ensures.value)))

-- a module is refused

pub returns-clause-refused : goal.returns-clause-refused
returns-clause-refused c = λ refused.
    inl (refuses c.args.options.now c.in-Some.command c.in-Some.ensures.command c.args.modules.now c.in-Err.refused.place c.in-Err.refused.why
    c.tell_module.new.out c.in-Err.ensures.refused (c.tell_module.ensures.told refused))

pub returns-clause-complete : goal.returns-clause-complete
returns-clause-complete c = λ valid right is.
    let first = c.in-Err.ensures.refused in
    let good = All-slice_get (IsValidModule c.args.options.now) c.args.modules.now c.in-Err.refused.place first.refused valid first.at in
    let memory = first.complete (subst (λ (d : Command). IsValid (options_of d) first.refused.bytes.now) (sym c.in-Some.ensures.command) good) in
    omega (arith, is, c.tell_module.ensures.memory memory)
