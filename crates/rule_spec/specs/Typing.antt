-- Coarse typing of constant expressions: of a value only its class counts (core specification, 3.4,
-- constant expressions).
use Rattle.std.specs.Prelude.{◌≡◌, ℕ, ◌-◌, Bool, true, false, ◌∷◌, [], ◌++◌, List, map, length, take, drop, replicate, nat_lt, slice_get, Option, None, Some, if◌then◌else◌}
use Rattle.std.specs.Option.{option_and_then}
use Rattle.std.specs.List.{list_all}
use Rattle.wasm_spec.specs.declared.entities.GlobalType.{GlobalType}
use Rattle.wasm_spec.specs.declared.operators.Operator.{Operator}
use Rattle.wasm_spec.specs.declared.operators.Operator.TheVariants as op
use Rattle.wasm_spec.specs.declared.types.UnpackedIndex.{UnpackedIndex}
use Rattle.wasm_spec.specs.TypeData.{ValueType, I32, I64, F32, F64, V128, Ref, Storage, Val, Field, Composite, Array, Struct, value_of}
use Rattle.wasm_spec.specs.Module.{Expression}
use Rattle.rule_spec.specs.declared.classes.Class.{Class}
use Rattle.rule_spec.specs.declared.classes.Class.TheVariants as class
use Rattle.rule_spec.specs.Classes.{decide_classes}
use Rattle.rule_spec.specs.Machine.{evaluated}
use Rattle.rule_spec.specs.Lists.{Lists, kind_at}

-- ---- classes and defaults of types

abbrev pub class_of : ValueType UnpackedIndex → Class
class_of I32 = class.I32
class_of I64 = class.I64
class_of F32 = class.F32
class_of F64 = class.F64
class_of V128 = class.V128
class_of (Ref reference) = class.Ref

-- a packed value is an i32 on the stack
abbrev pub storage_class : Storage UnpackedIndex → Class
storage_class (Val v) = class_of v
storage_class _ = class.I32

abbrev pub field_class : Field UnpackedIndex → Class
field_class f = storage_class f.element

-- numbers, vectors and nullable references have a default
abbrev pub value_has_default : ValueType UnpackedIndex → Bool
value_has_default (Ref reference) = reference.nullable
value_has_default _ = true

-- and packed values
abbrev pub storage_has_default : Storage UnpackedIndex → Bool
storage_has_default (Val v) = value_has_default v
storage_has_default _ = true

abbrev pub has_default : Field UnpackedIndex → Bool
has_default f = storage_has_default f.element

-- ---- what indices name

abbrev pub struct_fields : Composite UnpackedIndex UnpackedIndex → Option (List (Field UnpackedIndex))
struct_fields (Struct fields) = Some fields
struct_fields _ = None

abbrev pub array_field : Composite UnpackedIndex UnpackedIndex → Option (Field UnpackedIndex)
array_field (Array field) = Some field
array_field _ = None

-- the fields of the struct type that has this index
abbrev pub struct_at : Lists → ℕ → Option (List (Field UnpackedIndex))
struct_at l t = option_and_then struct_fields (kind_at l t)

-- the elements of the array type that has this index
abbrev pub array_at : Lists → ℕ → Option (Field UnpackedIndex)
array_at l t = option_and_then array_field (kind_at l t)

-- ---- operators

-- what an operator takes from the stack, the last on top, and the one value that it pushes
pub record Signature : Type 0 where
  pub takes : List Class
  pub pushes : Class

abbrev pub gives : Class → Option Signature
gives c = Some (record { takes = []; pushes = c })

-- two values of a class, and one
abbrev pub joins : Class → Option Signature
joins c = Some (record { takes = c ∷ c ∷ []; pushes = c })

-- some values, and a reference
abbrev pub refers_to : List Class → Option Signature
refers_to cs = Some (record { takes = cs; pushes = class.Ref })

abbrev pub where_true : Bool → Option Signature → Option Signature
where_true true s = s
where_true false s = None

-- the value of an immutable global
abbrev pub global_signature : GlobalType → Option Signature
global_signature t = if t.mutable then None else gives (class_of (value_of t.content_type))

-- what an operator takes and pushes, where these globals are visible; none where it names nothing
-- that it may name
abbrev pub signature : Lists → List GlobalType → Operator → Option Signature
signature l visible (op.I32Const value) = gives class.I32
signature l visible (op.I64Const value) = gives class.I64
signature l visible (op.F32Const bits) = gives class.F32
signature l visible (op.F64Const bits) = gives class.F64
signature l visible (op.V128Const value) = gives class.V128
signature l visible (op.GlobalGet g) = option_and_then global_signature (slice_get visible g)
signature l visible op.RefI31 = refers_to (class.I32 ∷ [])
signature l visible (op.RefNull heap) = refers_to []
signature l visible (op.RefFunc f) = where_true (nat_lt f (length l.functions)) (refers_to [])
signature l visible op.I32Add = joins class.I32
signature l visible op.I32Sub = joins class.I32
signature l visible op.I32Mul = joins class.I32
signature l visible op.I64Add = joins class.I64
signature l visible op.I64Sub = joins class.I64
signature l visible op.I64Mul = joins class.I64
signature l visible (op.StructNew t) = option_and_then (λ fields. refers_to (map field_class fields)) (struct_at l t)
signature l visible (op.StructNewDefault t) = option_and_then (λ fields. where_true (list_all has_default fields) (refers_to [])) (struct_at l t)
signature l visible (op.ArrayNew t) = option_and_then (λ field. refers_to (field_class field ∷ class.I32 ∷ [])) (array_at l t)
signature l visible (op.ArrayNewDefault t) = option_and_then (λ field. where_true (has_default field) (refers_to (class.I32 ∷ []))) (array_at l t)
signature l visible (op.ArrayNewFixed t n) = option_and_then (λ field. refers_to (replicate n (field_class field))) (array_at l t)
signature l visible op.ExternConvertAny = refers_to (class.Ref ∷ [])
signature l visible op.AnyConvertExtern = refers_to (class.Ref ∷ [])

-- ---- expressions

-- the stack after an operator: the values that it takes are the last ones, and it pushes one in
-- their place
abbrev pub typed_step : Signature → List Class → Option (List Class)
typed_step s stack = let rest = length stack - length s.takes in
    if (decide_classes (drop rest stack) s.takes).0 then Some (take rest stack ++ s.pushes ∷ []) else None

-- an expression leaves one value of the class on an empty stack
unfoldable pub HasClass : Lists → List GlobalType → Expression → Class → Type 0
HasClass l visible e c = evaluated (λ op stack. option_and_then (λ s. typed_step s stack) (signature l visible op)) e ≡ Some c
