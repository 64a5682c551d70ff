use Rattle.std.proofs.Common.{is_some, inl, inr, ap, arith}
use Rattle.translate.specs.Options.{options_of}
use Rattle.planner_c.proofs.Told.{both-planned, first-refused, second-refused}
use Rattle.planner_c.proofs.linking.bobbinazure_link.Goals as goal

pub tell_links-requires-clause-first : goal.tell_links-requires-clause-first
tell_links-requires-clause-first c = record {
  options = options_of c.in-Some.command;
  bytes = c.args.exporter.now;
  planned = c.in-Ok-plan_of.ensures.planned;
}

pub tell_links-requires-clause-second : goal.tell_links-requires-clause-second
tell_links-requires-clause-second c = record {
  options = options_of c.in-Some.command;
  bytes = c.args.importer.now;
  planned = c.in-Ok-plan_of-2.ensures.planned;
}

-- both are planned

pub returns-in-Ok-plan_of-2-clause-statuses : goal.returns-in-Ok-plan_of-2-clause-statuses
returns-in-Ok-plan_of-2-clause-statuses c = elim c.tell_links.ensures.statuses [ inl success ↦ inl success | inr memory ↦ inr (inr (inr memory)) ]

pub returns-in-Ok-plan_of-2-clause-planned : goal.returns-in-Ok-plan_of-2-clause-planned
returns-in-Ok-plan_of-2-clause-planned c = λ success.
    both-planned c.args.options.now c.in-Some.command c.in-Some.ensures.command c.args.exporter.now c.args.importer.now c.tell_links.new.out
    c.args.as_module.now c.in-Ok.as_module.now c.in-Ok-plan_of.first c.in-Ok-plan_of-2.second c.in-Ok.ensures.cases.0
    c.in-Ok-plan_of.ensures.planned c.in-Ok-plan_of-2.ensures.planned (c.tell_links.ensures.told success)

pub returns-in-Ok-plan_of-2-clause-usage : goal.returns-in-Ok-plan_of-2-clause-usage
returns-in-Ok-plan_of-2-clause-usage c = (
  λ usage. elim c.tell_links.ensures.statuses [ inl success ↦ absurd (omega (arith, usage, success)) | inr memory ↦ absurd (omega (arith, usage, memory)) ],
  λ wrong. absurd (wrong (c.command_of.ensures.right (ap is_some c.in-Some.is), c.in-Ok.ensures.cases.1)),
)

-- the second is refused

pub returns-in-Ok-plan_of-clause-statuses : goal.returns-in-Ok-plan_of-clause-statuses
returns-in-Ok-plan_of-clause-statuses c = elim c.tell_refusal_of.ensures.statuses [ inl told ↦ inr (inl told) | inr memory ↦ inr (inr (inr memory)) ]

pub returns-in-Ok-plan_of-clause-usage : goal.returns-in-Ok-plan_of-clause-usage
returns-in-Ok-plan_of-clause-usage c = (
  λ usage. elim c.tell_refusal_of.ensures.statuses [ inl told ↦ absurd (omega (arith, usage, told)) | inr memory ↦ absurd (omega (arith, usage, memory)) ],
  λ wrong. absurd (wrong (c.command_of.ensures.right (ap is_some c.in-Some.is), c.in-Ok.ensures.cases.1)),
)

pub returns-in-Ok-plan_of-clause-planned : goal.returns-in-Ok-plan_of-clause-planned
returns-in-Ok-plan_of-clause-planned c = λ success.
    elim c.tell_refusal_of.ensures.statuses [ inl told ↦ absurd (omega (arith, success, told)) | inr memory ↦ absurd (omega (arith, success, memory)) ]

pub returns-in-Ok-plan_of-clause-refused : goal.returns-in-Ok-plan_of-clause-refused
returns-in-Ok-plan_of-clause-refused c = λ told.
    second-refused c.args.options.now c.in-Some.command c.in-Some.ensures.command c.args.exporter.now c.args.importer.now c.tell_refusal_of.new.out
    c.in-Ok-plan_of.first c.in-Err-plan_of.refusal c.in-Ok-plan_of.ensures.planned c.in-Err-plan_of.ensures.cause (c.tell_refusal_of.ensures.told told)

-- the first is refused

pub returns-clause-usage : goal.returns-clause-usage
returns-clause-usage c = (
  λ usage. elim c.tell_refusal_of-in-Err.ensures.statuses [ inl told ↦ absurd (omega (arith, usage, told)) | inr memory ↦ absurd (omega (arith, usage, memory)) ],
  λ wrong. absurd (wrong (c.command_of.ensures.right (ap is_some c.in-Some.is), c.in-Ok.ensures.cases.1)),
)

pub returns-clause-planned : goal.returns-clause-planned
returns-clause-planned c = λ success.
    elim c.tell_refusal_of-in-Err.ensures.statuses [ inl told ↦ absurd (omega (arith, success, told)) | inr memory ↦ absurd (omega (arith, success, memory)) ]

pub returns-clause-refused : goal.returns-clause-refused
returns-clause-refused c = λ told.
    first-refused c.args.options.now c.in-Some.command c.in-Some.ensures.command c.args.exporter.now c.args.importer.now
    c.tell_refusal_of-in-Err.new.out c.in-Err.refusal c.in-Err.ensures.cause (c.tell_refusal_of-in-Err.ensures.told told)
