-- How types are read: a row for each part of `TypeGrammar`.
use Rattle.std.specs.Prelude.{◌≡◌, ℕ, List, [], ◌∷◌, ◌++◌, Bool, true, false, ◌&&◌, not, nat_lt, ◌==◌, Option, None, Some}
use Rattle.wasm_spec.specs.declared.types.AbstractHeapType.{AbstractHeapType}
use Rattle.wasm_spec.specs.declared.types.HeapType.{HeapType}
use Rattle.wasm_spec.specs.declared.types.HeapType.TheVariants.{Abstract}
use Rattle.wasm_spec.specs.declared.types.RefType.{RefType}
use Rattle.wasm_spec.specs.declared.operators.What.TheVariants as what
use Rattle.wasm_spec.specs.Numbers.{EndsOnce}
use Rattle.wasm_spec.specs.Parts as part
use Rattle.wasm_spec.specs.TypeGrammar as grammar
use Rattle.wasm_spec.specs.TypeGrammar.{named_by, number_types, abstract_heap, has_bit, address_bits}
use Rattle.form_reader.specs.Rows.{Row, ◌>>=◌, gives, nothing, stops_at, unsigned, non_negative, choose, given, optional, first_byte, next_byte, vector}

-- ---- value types

-- a heap type has a byte
concrete_filled : (y : HeapType) → ¬ grammar.concrete.spells [] y
concrete_filled y s = over s.front s.back s.parts s.is_first.form where
  over : (front back : List ℕ) → [] ≡ front ++ back → EndsOnce front → ⊥
  over [] back e f = f
  over (b ∷ front) back e f = absurd cc

pub heap_type_filled : (o : Option AbstractHeapType) (shared : Bool) (y : HeapType)
    → ¬ (part.given o (λ h. part.first_byte (λ same. part.gives (Abstract h)))
    (part.choose shared (part.stops_at what.Shared) grammar.concrete)).spells [] y
heap_type_filled (Some h) shared y s = s
heap_type_filled None true y s = s
heap_type_filled None false y s = concrete_filled y s

unfoldable pub concrete : Row grammar.concrete
concrete = non_negative 33 >>= λ n. gives _

unfoldable pub heap_type : Row grammar.heap_type
heap_type = next_byte
    (λ b. given (abstract_heap b) (λ h. first_byte (λ same. gives _)) (choose (b == 0x65) (stops_at what.Shared) concrete))
    (λ b y s. heap_type_filled (abstract_heap b) (b == 0x65) y s)

unfoldable pub reference_after : (b : ℕ) → Row (grammar.reference_after b)
reference_after b =
    choose (b == 0x63) (heap_type >>= λ h. gives _)
    (choose (b == 0x64) (heap_type >>= λ h. gives _) (given (abstract_heap b) (λ h. gives _) nothing))

unfoldable pub reference_type : Row grammar.reference_type
reference_type = first_byte reference_after

unfoldable pub value_after : (b : ℕ) → Row (grammar.value_after b)
value_after b =
    given (named_by 0x7B number_types b) (λ t. gives _)
    (choose (b == 0x65) (stops_at what.Shared) (reference_after b >>= λ r. gives _))

unfoldable pub value_type : Row grammar.value_type
value_type = first_byte value_after

-- ---- composite types

unfoldable pub storage_type : Row grammar.storage_type
storage_type = first_byte (λ b. choose (b == 0x78) (gives _) (choose (b == 0x77) (gives _) (value_after b >>= λ t. gives _)))

unfoldable pub mutability : Row grammar.mutability
mutability = first_byte (λ b. choose (b == 0x00) (gives _) (choose (b == 0x01) (gives _) nothing))

unfoldable pub field_type : Row grammar.field_type
field_type = storage_type >>= λ element_type. mutability >>= λ mutable. gives _

unfoldable pub function_type : Row grammar.function_type
function_type = vector value_type >>= λ params. vector value_type >>= λ results. gives _

unfoldable pub composite_after : (b : ℕ) → Row (grammar.composite_after b)
composite_after b =
    choose (b == 0x60) function_type
    (choose (b == 0x5F) (vector field_type >>= λ fields. gives _)
    (choose (b == 0x5E) (field_type >>= λ field. gives _)
    (choose (b == 0x5D) (non_negative 33 >>= λ n. gives _)
    (choose (b == 0x65) (stops_at what.Shared) nothing))))

unfoldable pub supertype : Row grammar.supertype
supertype = unsigned 32 >>= λ count.
    choose (count == 0) (gives _)
    (choose (count == 1) (unsigned 32 >>= λ n. gives _) (stops_at what.Supertypes))

unfoldable pub with_supertype : (is_final : Bool) → Row (grammar.with_supertype is_final)
with_supertype is_final = supertype >>= λ super. first_byte composite_after >>= λ composite. gives _

unfoldable pub sub_type_after : (b : ℕ) → Row (grammar.sub_type_after b)
sub_type_after b =
    choose (b == 0x50) (with_supertype false)
    (choose (b == 0x4F) (with_supertype true) (composite_after b >>= λ composite. gives _))

unfoldable pub group : Row grammar.group
group = first_byte (λ b. choose (b == 0x4E) (vector (first_byte sub_type_after)) (sub_type_after b >>= λ t. gives _))

-- ---- memory, table, global and tag types

unfoldable pub flagged_memory_type : (flags : ℕ) → Row (grammar.flagged_memory_type flags)
flagged_memory_type flags =
    unsigned (address_bits flags) >>= λ initial.
    optional (has_bit 0 flags) (unsigned (address_bits flags)) >>= λ maximum.
    optional (has_bit 3 flags) (unsigned 32) >>= λ page_size_log2. gives _

unfoldable pub memory_type : Row grammar.memory_type
memory_type = first_byte (λ flags. choose (nat_lt flags 16) (flagged_memory_type flags) nothing)

unfoldable pub flagged_table_type : (element : RefType) (flags : ℕ) → Row (grammar.flagged_table_type element flags)
flagged_table_type element flags =
    unsigned (address_bits flags) >>= λ initial.
    optional (has_bit 0 flags) (unsigned (address_bits flags)) >>= λ maximum. gives _

unfoldable pub table_limits : (element : RefType) → Row (grammar.table_limits element)
table_limits element = first_byte (λ flags. choose (nat_lt flags 8 && not (has_bit 1 flags)) (flagged_table_type element flags) nothing)

unfoldable pub table_type : Row grammar.table_type
table_type = reference_type >>= λ element. table_limits element

unfoldable pub global_type : Row grammar.global_type
global_type = value_type >>= λ content. mutability >>= λ mutable. gives _

unfoldable pub tag_type : Row grammar.tag_type
tag_type = first_byte (λ b. choose (b == 0x00) (unsigned 32) nothing)
