-- How an excess prints.
use Rattle.std.specs.Prelude.{ℕ, List, ◌++◌, Option, Some, None, codes, decimal}
use Rattle.refusal_place.specs.Texts.{section_text}
use Rattle.rule_breaks.specs.declared.list_places.EntryPlace.{EntryPlace}
use Rattle.plan_excess.specs.declared.kinds.ExcessKind.{ExcessKind}
use Rattle.plan_excess.specs.declared.kinds.ExcessKind.TheVariants as kind
use Rattle.plan_excess.specs.declared.kinds.Excess.{Excess}

-- what is too large
abbrev pub kind_text : ExcessKind → List ℕ
kind_text kind.Input = codes "the input has more than 1073741823 bytes"
kind_text (kind.Image memory) =
    codes "with the image of memory " ++ (decimal memory ++ codes ", the runtime data have more than 4294967295 bytes")
kind_text (kind.Object i) = codes "an object of type " ++ (decimal i ++ codes " has more than 4294967295 bytes")
kind_text (kind.Exception tag) = codes "an exception of tag " ++ (decimal tag ++ codes " has more than 4294967295 bytes")
kind_text kind.Context = codes "the context of an instance has more than 4294967295 bytes"

-- the section and the entry, where there is one, and what is too large
abbrev pub placed_text : Option EntryPlace → ExcessKind → List ℕ
placed_text None k = kind_text k
placed_text (Some p) k = section_text p.section ++ (codes ", entry " ++ (decimal p.section_entry ++ (codes ": " ++ kind_text k)))

abbrev pub excess_text : Excess → List ℕ
excess_text e = placed_text e.place e.kind
