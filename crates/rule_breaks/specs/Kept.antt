-- What a rule requires of one entry of a section.
use Rattle.std.specs.Prelude.{◌≤◌, length}
use Rattle.wasm_spec.specs.Module.{TableDef, Element, Body, Segment}
use Rattle.rule_spec.specs.declared.rules.Rule.{Rule}
use Rattle.rule_spec.specs.declared.rules.Rule.TheVariants as rule
use Rattle.rule_spec.specs.Lists.{Lists}
use Rattle.rule_spec.specs.Indices.{NamesMemory, IsElementInRange}
use Rattle.rule_spec.specs.References.{TableRefersIn, ElementRefersIn, BodyRefersIn, DataKindRefersIn}
use Rattle.rule_spec.specs.Expressions.{HasTypedInitialiser, IsElementTyped, HasMemoryOffset}
use Rattle.rule_spec.specs.Rules.{IsInitialised, locals}

abbrev pub TableKeeps : Rule → Lists → TableDef → Type 0
TableKeeps rule.L5 l t = IsInitialised t
TableKeeps rule.L6 l t = HasTypedInitialiser l t
TableKeeps rule.L10 l t = TableRefersIn (length l.types) t
TableKeeps _ l t = Unit {0}

abbrev pub BodyKeeps : Rule → Lists → Body → Type 0
BodyKeeps rule.L3 l b = locals b ≤ 4294967295
BodyKeeps rule.L10 l b = BodyRefersIn (length l.types) b
BodyKeeps _ l b = Unit {0}

abbrev pub ElementKeeps : Rule → Lists → Element → Type 0
ElementKeeps rule.L6 l e = IsElementTyped l e
ElementKeeps rule.L9 l e = IsElementInRange l e
ElementKeeps rule.L10 l e = ElementRefersIn (length l.types) e
ElementKeeps _ l e = Unit {0}

abbrev pub SegmentKeeps : Rule → Lists → Segment → Type 0
SegmentKeeps rule.L6 l s = HasMemoryOffset l s.kind
SegmentKeeps rule.L9 l s = NamesMemory l s.kind
SegmentKeeps rule.L10 l s = DataKindRefersIn (length l.types) s.kind
SegmentKeeps _ l s = Unit {0}
