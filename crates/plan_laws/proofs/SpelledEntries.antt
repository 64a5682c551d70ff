-- An entry of a list of a module weighs no more than its bytes: itself, and what it holds.
use Rattle.std.proofs.Common.{◌+◌, ◌==◌, ℕ, [], ◌∷◌, length, Bool, true, false, Option, Some, None, sum_by, ap, arith, length-append}
use Rattle.std.specs.Str.{is_utf8}
use Rattle.std.proofs.lemmas.List.{length-map}
use Rattle.wasm_spec.specs.declared.types.RefType.{RefType}
use Rattle.wasm_spec.specs.declared.types.UnpackedIndex.{UnpackedIndex}
use Rattle.wasm_spec.specs.declared.operators.What.TheVariants as what
use Rattle.wasm_spec.specs.Parts.{◌>>=◌, unsigned, first_byte, counted_bytes}
use Rattle.wasm_spec.specs.TypeData.{SubType, Group, value_of, field_of}
use Rattle.wasm_spec.specs.Module.{Import, TableDef, GlobalDef, Export, ElementKind, PassiveElement, DeclaredElement, Element, Segment}
use Rattle.wasm_spec.specs.TypeGrammar.{value_type, field_type, function_type, composite_after, with_supertype, sub_type_after, group, reference_type, memory_type, tag_type}
use Rattle.wasm_spec.specs.ExpressionGrammar.{operator, operator_after, expression}
use Rattle.wasm_spec.specs.Grammar.{name, import_entry, export_entry, initialised_table, table_entry, global_entry, functions_as, expressions_as, after_function_kind, active_in, active_in_named, funcref, flagged_element, element_segment, body, active_segment, passive_segment, flagged_segment, data_segment}
use Rattle.plan_laws.proofs.ModuleContents.{composite_parts, member_parts, import_name_bytes, export_name_bytes, cell_operators, first_operators, kind_operators, element_operators, element_items, item_operators, segment_operators, segment_bytes}
use Rattle.plan_laws.proofs.SpelledParts.{Weighs, gives-weighs, nothing-weighs, stops-weigh, any-weighs, number-weighs, more-weigh, less-weigh, signed-weighs, then-weighs, after-weighs, choice-weighs, first-weighs, byte-weighs, checked-weighs, sized-weighs, sum_by-sucs, elements-count, vector-weighs, vector-counts, counted-weigh}

-- ---- names and expressions

pub name-weighs : (n : ℕ) → Weighs n (λ text. 1 + n + length text) name
name-weighs n = checked-weighs is_utf8 counted_bytes (counted-weigh n)

-- the end mark has a byte too
expression-weighs : (n : ℕ) → Weighs n (λ ops. 1 + n + length ops) expression
expression-weighs n = record {
  within = λ bytes ops s.
      let m = (elements-count operator n (length ops) (byte-weighs 0 operator_after)).within s.front ops s.are_operators in
      omega (arith, m, ap length s.parts, length-append s.front (0x0B ∷ []));
}

-- ---- types

-- a member of a group, and its parts
abbrev pub member_weight : SubType UnpackedIndex UnpackedIndex → ℕ
member_weight t = 1 + member_parts t

-- a group takes a byte in addition to its members
abbrev pub group_weight : Group UnpackedIndex UnpackedIndex → ℕ
group_weight g = 1 + sum_by member_weight g

field-weighs : (n : ℕ) → Weighs n (λ f. 2 + n) field_type
field-weighs n = then-weighs (byte-weighs n _) (λ x. then-weighs (byte-weighs (1 + n) _) (λ y. gives-weighs _ (omega arith)))

field-counts : Weighs 0 (λ f. 1) field_type
field-counts = less-weigh _ field_type (λ f. omega arith) (field-weighs 0)

function-weighs : (n : ℕ) → Weighs n (λ c. 1 + n + composite_parts c) function_type
function-weighs n = then-weighs (vector-counts value_type n (byte-weighs 0 _)) (λ params.
    then-weighs (vector-counts value_type (1 + n + length params) (byte-weighs 0 _)) (λ results.
    gives-weighs _ (omega (arith, length-map params value_of, length-map results value_of))))

composite-weighs : (n b : ℕ) → Weighs n (λ c. 1 + n + composite_parts c) (composite_after b)
composite-weighs n b =
    choice-weighs (b == 0x60) _ _ (function-weighs n)
    (choice-weighs (b == 0x5F) _ _
    (then-weighs (vector-counts field_type n field-counts) (λ fields. gives-weighs _ (omega (arith, length-map fields field_of))))
    (choice-weighs (b == 0x5E) _ _ (then-weighs (field-weighs n) (λ field. gives-weighs _ (omega arith)))
    (choice-weighs (b == 0x5D) _ _ (then-weighs (signed-weighs n 33) (λ x. gives-weighs _ (omega arith)))
    (choice-weighs (b == 0x65) _ _ (stops-weigh what.Shared) nothing-weighs))))

super-weighs : (n : ℕ) (is_final : Bool) → Weighs n (λ t. 1 + n + member_parts t) (with_supertype is_final)
super-weighs n is_final = after-weighs (λ super.
    then-weighs (first-weighs composite_after (λ b. composite-weighs (1 + n) b)) (λ composite. gives-weighs _ (omega arith)))

member-weighs : (n b : ℕ) → Weighs n (λ t. 1 + n + member_parts t) (sub_type_after b)
member-weighs n b = choice-weighs (b == 0x50) _ _ (super-weighs n false) (choice-weighs (b == 0x4F) _ _ (super-weighs n true)
    (then-weighs (composite-weighs n b) (λ composite. gives-weighs _ (omega arith))))

first-member : Weighs 0 member_weight (first_byte sub_type_after)
first-member = first-weighs sub_type_after (λ b. more-weigh _ (omega arith) (member-weighs 0 b))

pub group-weighs : Weighs 0 group_weight group
group-weighs = first-weighs _ (λ b. choice-weighs (b == 0x4E) _ _
    (less-weigh _ _ (λ g. omega arith) (vector-weighs (first_byte sub_type_after) 1 first-member))
    (then-weighs (member-weighs 1 b) (λ t. gives-weighs _ (omega arith))))

-- ---- imports and exports

abbrev pub import_weight : Import → ℕ
import_weight i = 1 + import_name_bytes i

pub import-weighs : Weighs 0 import_weight import_entry
import-weighs = then-weighs (name-weighs 0) (λ space. then-weighs (name-weighs (1 + length space)) (λ field.
    after-weighs (λ type. gives-weighs _ (omega arith))))

abbrev pub export_weight : Export → ℕ
export_weight e = 1 + export_name_bytes e

pub export-weighs : Weighs 0 export_weight export_entry
export-weighs = then-weighs (name-weighs 0) (λ text. after-weighs (λ kind. after-weighs (λ index. gives-weighs _ (omega arith))))

-- ---- tables and globals

abbrev pub table_weight : TableDef → ℕ
table_weight t = 1 + cell_operators t

initialised-weighs : Weighs 1 table_weight initialised_table
initialised-weighs = first-weighs _ (λ zero. choice-weighs (zero == 0x00) _ _
    (after-weighs (λ t. then-weighs (expression-weighs 2) (λ e. gives-weighs _ (omega arith)))) nothing-weighs)

pub table-weighs : Weighs 0 table_weight table_entry
table-weighs = first-weighs _ (λ b. choice-weighs (b == 0x40) _ _ initialised-weighs
    (after-weighs (λ element. after-weighs (λ t. gives-weighs _ (omega arith)))))

abbrev pub global_weight : GlobalDef → ℕ
global_weight g = 1 + first_operators g

pub global-weighs : Weighs 0 global_weight global_entry
global-weighs = after-weighs (λ type. then-weighs (expression-weighs 0) (λ init. gives-weighs _ (omega arith)))

-- ---- element segments

abbrev pub element_weight : Element → ℕ
element_weight e = 1 + element_operators e + element_items e + item_operators e

functions-weigh : (kind : ElementKind) → Weighs (1 + kind_operators kind) element_weight (functions_as kind)
functions-weigh kind = then-weighs (vector-counts (unsigned 32) (1 + kind_operators kind) (number-weighs 0 32)) (λ indices. gives-weighs _ (omega arith))

expressions-weigh : (kind : ElementKind) (type : RefType) → Weighs (1 + kind_operators kind) element_weight (expressions_as kind type)
expressions-weigh kind type = then-weighs (vector-weighs expression (1 + kind_operators kind) (expression-weighs 0)) (λ items.
    gives-weighs _ (omega (arith, sum_by-sucs length items)))

function-kind-weighs : (kind : ElementKind) → Weighs (1 + kind_operators kind) element_weight (after_function_kind (functions_as kind))
function-kind-weighs kind = first-weighs _ (λ b. choice-weighs (b == 0x00) _ _ (more-weigh _ (omega arith) (functions-weigh kind)) nothing-weighs)

active-weighs : (table : Option ℕ) → Weighs 1 (λ kind. 1 + kind_operators kind) (active_in table)
active-weighs table = then-weighs (expression-weighs 1) (λ offset. gives-weighs _ (omega arith))

named-weighs : Weighs 1 (λ kind. 1 + kind_operators kind) active_in_named
named-weighs = after-weighs (λ table. active-weighs (Some table))

typed-weigh : (kind : ElementKind) → Weighs (1 + kind_operators kind) element_weight (reference_type >>= λ type. expressions_as kind type)
typed-weigh kind = after-weighs (expressions-weigh kind)

flagged-weighs : (flag : ℕ) → Weighs 1 element_weight (flagged_element flag)
flagged-weighs flag =
    choice-weighs (flag == 0) _ _ (then-weighs (active-weighs None) functions-weigh)
    (choice-weighs (flag == 1) _ _ (function-kind-weighs PassiveElement)
    (choice-weighs (flag == 2) _ _ (then-weighs named-weighs function-kind-weighs)
    (choice-weighs (flag == 3) _ _ (function-kind-weighs DeclaredElement)
    (choice-weighs (flag == 4) _ _ (then-weighs (active-weighs None) (λ kind. expressions-weigh kind funcref))
    (choice-weighs (flag == 5) _ _ (typed-weigh PassiveElement)
    (choice-weighs (flag == 6) _ _ (then-weighs named-weighs typed-weigh)
    (choice-weighs (flag == 7) _ _ (typed-weigh DeclaredElement)
    nothing-weighs)))))))

pub element-weighs : Weighs 0 element_weight element_segment
element-weighs = then-weighs (number-weighs 0 32) flagged-weighs

-- ---- bodies and data segments

pub body-weighs : Weighs 0 (λ b. 1) body
body-weighs = sized-weighs _ (any-weighs _ (λ b. omega arith))

abbrev pub segment_weight : Segment → ℕ
segment_weight s = 1 + segment_operators s + segment_bytes s

active-segment-weighs : (memory : ℕ) → Weighs 1 segment_weight (active_segment memory)
active-segment-weighs memory = then-weighs (expression-weighs 1) (λ offset.
    then-weighs (counted-weigh (2 + length offset)) (λ bytes. gives-weighs _ (omega arith)))

passive-segment-weighs : Weighs 1 segment_weight passive_segment
passive-segment-weighs = then-weighs (counted-weigh 1) (λ bytes. gives-weighs _ (omega arith))

flagged-segment-weighs : (flag : ℕ) → Weighs 1 segment_weight (flagged_segment flag)
flagged-segment-weighs flag =
    choice-weighs (flag == 0) _ _ (active-segment-weighs 0)
    (choice-weighs (flag == 1) _ _ passive-segment-weighs
    (choice-weighs (flag == 2) _ _ (after-weighs active-segment-weighs) nothing-weighs))

pub segment-weighs : Weighs 0 segment_weight data_segment
segment-weighs = then-weighs (number-weighs 0 32) flagged-segment-weighs

-- ---- entries that hold nothing else

pub index-counts : Weighs 0 (λ n. 1) (unsigned 32)
index-counts = number-weighs 0 32

pub memory-counts : Weighs 0 (λ t. 1) memory_type
memory-counts = byte-weighs 0 _

pub tag-counts : Weighs 0 (λ n. 1) tag_type
tag-counts = byte-weighs 0 _
