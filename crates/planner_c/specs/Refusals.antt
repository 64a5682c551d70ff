-- A refusal as numbers.
use Rattle.std.specs.Prelude.{◌≡◌, ℕ}
use Rattle.rule_spec.specs.declared.rules.Rule.{Rule}
use Rattle.rule_spec.specs.declared.rules.Rule.TheVariants as rule
use Rattle.wasm_spec.specs.declared.operators.What.{What}
use Rattle.wasm_spec.specs.declared.operators.What.TheVariants as what
use Rattle.plan_text.specs.declared.error.TranslateError.{TranslateError}
use Rattle.plan_text.specs.declared.error.TranslateError.TheVariants as refusal
use Rattle.plan_tables.specs.declared.record.PlanRecord.{PlanRecord}
use Rattle.plan_text.specs.Refusals.{text_of_refusal}

abbrev pub rule_number : Rule → ℕ
rule_number rule.L1 = 1
rule_number rule.L2 = 2
rule_number rule.L3 = 3
rule_number rule.L4 = 4
rule_number rule.L5 = 5
rule_number rule.L6 = 6
rule_number rule.L7 = 7
rule_number rule.L8 = 8
rule_number rule.L9 = 9
rule_number rule.L10 = 10

abbrev pub what_number : What → ℕ
what_number what.Component = 1
what_number what.Shared = 2
what_number what.Supertypes = 3
what_number what.Operator = 4
what_number what.ExactImport = 5
what_number what.InterfaceTypes = 6

-- its kind, and which rule is broken, or what is not supported
abbrev pub refusal_row : TranslateError → ℕ × ℕ
refusal_row refusal.Malformed = (1, 0)
refusal_row (refusal.Invalid r) = (2, rule_number r)
refusal_row (refusal.Unsupported w) = (3, what_number w)
refusal_row refusal.TooLarge = (4, 0)
refusal_row refusal.OffsetOverflow = (5, 0)
refusal_row refusal.OutOfMemory = (0, 0)

-- the record reports the refusal
pub record TellsRefusal (e : TranslateError) (r : PlanRecord) : Type 0 where
  pub numbers : (r.refusal, r.refusal_detail) ≡ refusal_row e
  pub line : r.refusal_line.now ≡ text_of_refusal e
