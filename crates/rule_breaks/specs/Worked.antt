-- Small modules for the worked example.
use Rattle.std.specs.Prelude.{ℕ, false, List, [], ◌∷◌, ◌++◌, None, Some}
use Rattle.wasm_spec.specs.declared.entities.MemoryType.{MemoryType}
use Rattle.wasm_spec.specs.declared.entities.TypeRef.TheVariants as imported
use Rattle.wasm_spec.specs.declared.types.UnpackedIndex.{UnpackedIndex}
use Rattle.wasm_spec.specs.TypeData.{Group}
use Rattle.wasm_spec.specs.Grammar.{header}
use Rattle.wasm_spec.specs.Module.{Module, Imports, Memories}
use Rattle.rule_spec.specs.declared.rules.Rule.TheVariants as rule
use Rattle.rule_spec.specs.Worked.{alone, nothing_to_nothing}
use Rattle.rule_spec.specs.WorkedKept.{one_page}
use Rattle.refusal_place.specs.declared.kind.SectionKind.TheVariants as kind
use Rattle.rule_breaks.specs.declared.lists.ModuleList.TheVariants as list
use Rattle.rule_breaks.specs.declared.fault.RuleFault.TheVariants as fault
use Rattle.rule_breaks.specs.declared.refused.BrokenRule.{BrokenRule}

-- a memory whose maximum is below the minimum
abbrev pub narrow : MemoryType
narrow = record { memory64 = false; shared = false; initial = 2; maximum = Some 1; page_size_log2 = None }

-- of three memories, all but the first break rule L4
abbrev pub two_narrow : Module
two_narrow = Memories (one_page ∷ narrow ∷ narrow ∷ []) ∷ []

-- a memory of one page that is imported, and a narrow one that is defined
abbrev pub imported_and_narrow : Module
imported_and_narrow = Imports (record { space = []; name = []; type = imported.Memory one_page } ∷ []) ∷ Memories (narrow ∷ []) ∷ []

-- the memory section of that module, which begins at byte 16
abbrev pub narrow_section : List ℕ
narrow_section = 0x05 ∷ 0x04 ∷ 0x01 ∷ 0x01 ∷ 0x02 ∷ 0x01 ∷ []

abbrev pub imported_and_narrow_bytes : List ℕ
imported_and_narrow_bytes = header ++ 0x02 ∷ 0x06 ∷ 0x01 ∷ 0x00 ∷ 0x00 ∷ 0x02 ∷ 0x00 ∷ 0x01 ∷ narrow_section

-- memory 1 breaks L4: it is entry 0 of the memory section, at byte 19, and its maximum is 1
abbrev pub narrow_is_broken : BrokenRule
narrow_is_broken = record {
  rule = rule.L4;
  place = record { list = list.Memories; entry = 1 };
  section = kind.Memory;
  section_entry = 0;
  byte = 19;
  fault = fault.MaximumBelowMinimum 2 1;
}

-- a group of two types, and a group of one
abbrev pub two_and_one : List (Group UnpackedIndex UnpackedIndex)
two_and_one = (alone nothing_to_nothing ++ alone nothing_to_nothing) ∷ alone nothing_to_nothing ∷ []
