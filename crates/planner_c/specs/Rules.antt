-- What a record reports of a rule that a module breaks.
use Rattle.std.specs.Prelude.{◌≡◌, ℕ, List}
use Rattle.rule_breaks.specs.declared.lists.ModuleList.{ModuleList}
use Rattle.rule_breaks.specs.declared.lists.ModuleList.TheVariants as list
use Rattle.rule_breaks.specs.declared.refused.BrokenRule.{BrokenRule}
use Rattle.rule_breaks.specs.Refused.{BreaksFirst}
use Rattle.rule_breaks.specs.FaultTexts.{broken_text}
use Rattle.refusal_place.specs.Kinds.{id_of}
use Rattle.planner_c.specs.declared.rules.BrokenRuleRecord.{BrokenRuleRecord}
use Rattle.planner_c.specs.Refusals.{rule_number}

abbrev pub list_number : ModuleList → ℕ
list_number list.Types = 0
list_number list.Functions = 1
list_number list.TableTypes = 2
list_number list.Memories = 3
list_number list.Tags = 4
list_number list.Imports = 5
list_number list.Tables = 6
list_number list.Globals = 7
list_number list.Exports = 8
list_number list.Starts = 9
list_number list.Elements = 10
list_number list.DataCounts = 11
list_number list.Bodies = 12
list_number list.Segments = 13

-- the record represents the rule and the entry
pub record TellsRule (b : BrokenRule) (r : BrokenRuleRecord) : Type 0 where
  pub rule : r.rule ≡ rule_number b.rule
  pub list : r.list ≡ list_number b.place.list
  pub entry : r.entry ≡ b.place.entry
  -- the entry of a section that has it
  pub section : (r.section ≡ id_of b.section) × (r.section_entry ≡ b.section_entry)
  pub byte : r.byte ≡ b.byte
  pub sentence : (r.sentence.now ≡ broken_text b) × (r.made ≡ 1)

-- the bytes spell a module that breaks a rule first at an entry, of which a fact holds
pub record HasBrokenRule (bytes : List ℕ) (P : BrokenRule → Type 0) : Type 0 where
  pub broken : BrokenRule
  pub breaks : BreaksFirst bytes broken
  pub holds : P broken
