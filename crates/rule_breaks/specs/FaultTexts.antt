-- How faults of entries print.
use Rattle.std.specs.Prelude.{ℕ, List, ◌++◌, codes, decimal, nat_eq, if◌then◌else◌}
use Rattle.refusal_place.specs.declared.kind.SectionKind.{SectionKind}
use Rattle.refusal_place.specs.declared.kind.SectionKind.TheVariants as kind
use Rattle.refusal_place.specs.Texts.{section_text}
use Rattle.rule_breaks.specs.declared.refused.BrokenRule.{BrokenRule}
use Rattle.rule_breaks.specs.declared.fault.IndexSpace.{IndexSpace}
use Rattle.rule_breaks.specs.declared.fault.IndexSpace.TheVariants as space
use Rattle.rule_breaks.specs.declared.fault.ExpressionPlace.{ExpressionPlace}
use Rattle.rule_breaks.specs.declared.fault.ExpressionPlace.TheVariants as place
use Rattle.rule_breaks.specs.declared.fault.RuleFault.{RuleFault}
use Rattle.rule_breaks.specs.declared.fault.RuleFault.TheVariants as fault

-- ---- words

-- an entry of an index space
abbrev pub space_text : IndexSpace → List ℕ
space_text space.Types = codes "type"
space_text space.Functions = codes "function"
space_text space.Tables = codes "table"
space_text space.Memories = codes "memory"
space_text space.Globals = codes "global"
space_text space.Tags = codes "tag"

-- several entries of it
abbrev pub spaces_text : IndexSpace → List ℕ
spaces_text space.Types = codes "types"
spaces_text space.Functions = codes "functions"
spaces_text space.Tables = codes "tables"
spaces_text space.Memories = codes "memories"
spaces_text space.Globals = codes "globals"
spaces_text space.Tags = codes "tags"

-- a number, and the word for one or for another number of things
abbrev pub amount_text : ℕ → List ℕ → List ℕ → List ℕ
amount_text n one many = if nat_eq n 1 then codes "1 " ++ one else decimal n ++ codes " " ++ many

-- the verb of so many things
abbrev pub verb_text : ℕ → List ℕ
verb_text n = if nat_eq n 1 then codes "is" else codes "are"

-- so many things, named before
abbrev pub there_text : ℕ → List ℕ
there_text n = if nat_eq n 1 then codes "there is 1" else codes "there are " ++ decimal n

-- ---- indices

-- an index of a space that has only so many entries
abbrev pub no_such_entry_text : IndexSpace → ℕ → ℕ → List ℕ
no_such_entry_text s index count =
    space_text s ++ codes " index " ++ decimal index ++ codes ", but there " ++ verb_text count ++ codes " " ++ amount_text count (space_text s) (spaces_text s)

-- a type index that is not below a bound
abbrev pub no_earlier_type_text : ℕ → ℕ → List ℕ
no_earlier_type_text index bound =
    codes "type index " ++ decimal index ++ codes ", but only those below " ++ decimal bound ++ codes " may be named here"

-- ---- counts

-- so many functions, and so many bodies
abbrev pub body_count_text : ℕ → ℕ → List ℕ
body_count_text functions bodies =
    amount_text functions (codes "function") (codes "functions") ++ codes " " ++ verb_text functions ++ codes " defined, but there "
    ++ verb_text bodies ++ codes " " ++ amount_text bodies (codes "body") (codes "bodies")

-- the stated number of data segments, and how many there are
abbrev pub data_count_text : ℕ → ℕ → List ℕ
data_count_text stated segments =
    codes "the data count section states " ++ (amount_text stated (codes "data segment") (codes "data segments") ++ (codes ", but " ++ there_text segments))

-- so many locals
abbrev pub many_locals_text : ℕ → List ℕ
many_locals_text n = codes "the body has " ++ decimal n ++ codes " locals, but at most 4294967295 are allowed"

-- ---- limits

-- so many pages of a size
abbrev pub pages_text : ℕ → ℕ → List ℕ
pages_text n log2 = decimal n ++ (codes " pages of 2^" ++ (decimal log2 ++ codes " bytes"))

-- so many pages, where addresses have so many bits
abbrev pub many_pages_text : ℕ → ℕ → ℕ → List ℕ
many_pages_text n log2 bits = pages_text n log2 ++ codes ", but addresses have " ++ decimal bits ++ codes " bits"

-- ---- expressions and the start function

-- where an expression stands
abbrev pub place_text : ExpressionPlace → List ℕ
place_text place.Initialiser = codes "the initialiser"
place_text place.Offset = codes "the offset"
place_text (place.Item i) = codes "item " ++ decimal i

-- the start function has parameters or results
abbrev pub start_type_text : ℕ → List ℕ
start_type_text function = codes "the type of function " ++ decimal function ++ codes " has parameters or results"

-- ---- faults

-- what is wrong
abbrev pub fault_text : RuleFault → List ℕ
fault_text (fault.NoSuchEntry s index count) = no_such_entry_text s index count
fault_text (fault.NoEarlierType index bound) = no_earlier_type_text index bound
fault_text (fault.NotAFunctionType index) = codes "type " ++ decimal index ++ codes " is no function type"
fault_text (fault.BodyCount functions bodies) = body_count_text functions bodies
fault_text (fault.DataCount stated segments) = data_count_text stated segments
fault_text (fault.ManyLocals n) = many_locals_text n
fault_text (fault.MaximumBelowMinimum minimum maximum) =
    codes "the maximum " ++ (decimal maximum ++ (codes " is below the minimum " ++ decimal minimum))
fault_text (fault.PageSize log2) = codes "pages of 2^" ++ decimal log2 ++ codes " bytes, but a page has 2^0 or 2^16"
fault_text (fault.ManyPages pages log2 bits) = many_pages_text pages log2 bits
fault_text fault.SharedWithoutMaximum = codes "the memory is shared and has no maximum"
fault_text fault.NotInitialised = codes "the cells cannot be null, and there is no initialiser"
fault_text (fault.Mistyped p) = place_text p ++ codes " has another type than its place requires"
fault_text (fault.RepeatedName earlier) = codes "export " ++ decimal earlier ++ codes " has the same name"
fault_text (fault.StartType function) = start_type_text function
fault_text fault.ForeignIndex = codes "a type is named by an index that is not the module's"

-- ---- with the section

-- start and data count sections have one number, and no entries
abbrev pub broken_in_text : SectionKind → ℕ → RuleFault → List ℕ
broken_in_text kind.Start entry f = section_text kind.Start ++ codes ": " ++ fault_text f
broken_in_text kind.DataCount entry f = section_text kind.DataCount ++ codes ": " ++ fault_text f
broken_in_text k entry f = section_text k ++ codes ", entry " ++ decimal entry ++ codes ": " ++ fault_text f

-- the section, the entry, and what is wrong
abbrev pub broken_text : BrokenRule → List ℕ
broken_text b = broken_in_text b.section b.section_entry b.fault
