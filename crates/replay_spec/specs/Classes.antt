-- The classes of values, and what coarse typing refers to (core specification, 4.2, runtime
-- structure: values).
use Rattle.std.specs.Prelude.{◌≡◌, ℕ, ◌^◌, ◌<◌, List, [], length, unwrap_or, slice_get, Some}
use Rattle.wasm_spec.specs.declared.entities.GlobalType.{GlobalType}
use Rattle.wasm_spec.specs.TypeData.{value_of}
use Rattle.rule_spec.specs.declared.classes.Class.{Class}
use Rattle.rule_spec.specs.declared.classes.Class.TheVariants as class
use Rattle.rule_spec.specs.Lists.{Lists}
use Rattle.rule_spec.specs.Typing.{class_of, struct_at}
use Rattle.replay_spec.specs.Values.{Value, I32, I64, F32, F64, V128, Ref}

-- a value is of a class; numbers are within their range
abbrev pub IsOfClass : Value → Class → Type 0
IsOfClass (I32 n) c = (c ≡ class.I32) × (n < 2 ^ 32)
IsOfClass (I64 n) c = (c ≡ class.I64) × (n < 2 ^ 64)
IsOfClass (F32 bits) c = c ≡ class.F32
IsOfClass (F64 bits) c = c ≡ class.F64
IsOfClass (V128 bits) c = c ≡ class.V128
IsOfClass (Ref term) c = c ≡ class.Ref

-- each visible global has a value of its class
abbrev pub HaveClasses : List Value → List GlobalType → Type 0
HaveClasses globals visible = (g : ℕ) (type : GlobalType) → slice_get visible g ≡ Some type
    → (v : Value) × (slice_get globals g ≡ Some v) × IsOfClass v (class_of (value_of type.content_type))

-- how many fields the struct type of an index has, and 0 where there is none
abbrev pub field_count : Lists → ℕ → ℕ
field_count l t = length (unwrap_or (struct_at l t) [])
