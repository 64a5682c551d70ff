-- The values of constant expressions: a machine with a stack (core specification, 4.2, runtime
-- structure, and 4.6, instructions).
use Rattle.std.specs.Prelude.{ℕ, ◌+◌, ◌-◌, ◌*◌, ◌%◌, ◌^◌, Bool, true, false, List, [], ◌∷◌, ◌++◌, length, take, drop, nat_le, slice_get, Option, None, Some, if◌then◌else◌}
use Rattle.std.specs.Int.{cast_unsigned, w32, w64}
use Rattle.std.specs.Option.{option_map, option_and_then}
use Rattle.wasm_spec.specs.declared.operators.Operator.{Operator}
use Rattle.wasm_spec.specs.declared.operators.Operator.TheVariants as op
use Rattle.wasm_spec.specs.Module.{Expression}
pub use Rattle.rule_spec.specs.Machine.{run, only_value, evaluated}

-- ---- values

mutual
  -- numbers are unsigned: from 0 to 2 ^ 32 - 1, or to 2 ^ 64 - 1; floats and vectors are their
  -- bits; references are terms
  pub data Value : Type 0 where
    I32 : (number : ℕ) → Value
    I64 : (number : ℕ) → Value
    F32 : (bits : ℕ) → Value
    F64 : (bits : ℕ) → Value
    V128 : (bits : ℕ) → Value
    Ref : (term : Term) → Value

  pub data Term : Type 0 where
    -- every null, of whichever type
    Null : Term
    Func : (function : ℕ) → Term
    Host : (number : ℕ) → Term
    -- a number below 2 ^ 31
    I31 : (number : ℕ) → Term
    -- what an operator allocates from its arguments
    Allocated : (operator : Operator) (arguments : Arguments) → Term
    -- a reference of this side as one of the outside, and the other way
    AsExtern : (term : Term) → Term
    AsAny : (term : Term) → Term

  pub data Arguments : Type 0 where
    NoMore : Arguments
    Argument : (value : Value) (rest : Arguments) → Arguments

abbrev pub arguments_of : List Value → Arguments
arguments_of [] = NoMore
arguments_of (v ∷ vs) = Argument v (arguments_of vs)

-- ---- operators

-- how many values an operator takes from the stack, the last on top, and the one value that it makes of them
pub record Action : Type 0 where
  pub takes : ℕ
  pub makes : List Value → Option Value

abbrev pub pushes : Value → Action
pushes v = record { takes = 0; makes = λ taken. Some v }

-- two numbers of a class, joined modulo
abbrev pub joined_i32 : (ℕ → ℕ → ℕ) → List Value → Option Value
joined_i32 f (I32 a ∷ I32 b ∷ []) = Some (I32 (f a b % 2 ^ 32))
joined_i32 f _ = None

abbrev pub joined_i64 : (ℕ → ℕ → ℕ) → List Value → Option Value
joined_i64 f (I64 a ∷ I64 b ∷ []) = Some (I64 (f a b % 2 ^ 64))
joined_i64 f _ = None

abbrev pub joins_i32 : (ℕ → ℕ → ℕ) → Action
joins_i32 f = record { takes = 2; makes = joined_i32 f }

abbrev pub joins_i64 : (ℕ → ℕ → ℕ) → Action
joins_i64 f = record { takes = 2; makes = joined_i64 f }

-- the low 31 bits
abbrev pub i31_of : List Value → Option Value
i31_of (I32 n ∷ []) = Some (Ref (I31 (n % 2 ^ 31)))
i31_of _ = None

-- a conversion of null is null, and a conversion of the opposite one's result gives the argument of
-- that one
abbrev pub to_extern : Term → Term
to_extern Null = Null
to_extern (AsAny term) = term
to_extern term = AsExtern term

abbrev pub to_any : Term → Term
to_any Null = Null
to_any (AsExtern term) = term
to_any term = AsAny term

abbrev pub converted : (Term → Term) → List Value → Option Value
converted f (Ref term ∷ []) = Some (Ref (f term))
converted f _ = None

abbrev pub converts : (Term → Term) → Action
converts f = record { takes = 1; makes = converted f }

-- an operator that allocates takes a given number of values
abbrev pub allocates : Operator → ℕ → Action
allocates operator n = record { takes = n; makes = λ taken. Some (Ref (Allocated operator (arguments_of taken))) }

-- what each operator does, over the values of the globals and how many fields each struct type has
abbrev pub action : List Value → (ℕ → ℕ) → Operator → Action
action globals fields (op.I32Const value) = pushes (I32 (cast_unsigned w32 value % 2 ^ 32))
action globals fields (op.I64Const value) = pushes (I64 (cast_unsigned w64 value % 2 ^ 64))
action globals fields (op.F32Const bits) = pushes (F32 bits)
action globals fields (op.F64Const bits) = pushes (F64 bits)
action globals fields (op.V128Const value) = pushes (V128 value)
action globals fields (op.GlobalGet g) = record { takes = 0; makes = λ taken. slice_get globals g }
action globals fields op.RefI31 = record { takes = 1; makes = i31_of }
action globals fields (op.RefNull heap) = pushes (Ref Null)
action globals fields (op.RefFunc f) = pushes (Ref (Func f))
action globals fields op.I32Add = joins_i32 (λ a b. a + b)
action globals fields op.I32Sub = joins_i32 (λ a b. a + (2 ^ 32 - b))
action globals fields op.I32Mul = joins_i32 (λ a b. a * b)
action globals fields op.I64Add = joins_i64 (λ a b. a + b)
action globals fields op.I64Sub = joins_i64 (λ a b. a + (2 ^ 64 - b))
action globals fields op.I64Mul = joins_i64 (λ a b. a * b)
action globals fields (op.StructNew t) = allocates (op.StructNew t) (fields t)
action globals fields (op.StructNewDefault t) = allocates (op.StructNewDefault t) 0
action globals fields (op.ArrayNew t) = allocates (op.ArrayNew t) 2
action globals fields (op.ArrayNewDefault t) = allocates (op.ArrayNewDefault t) 1
action globals fields (op.ArrayNewFixed t n) = allocates (op.ArrayNewFixed t n) n
action globals fields op.ExternConvertAny = converts to_extern
action globals fields op.AnyConvertExtern = converts to_any

-- ---- expressions

-- the stack with the popped values replaced by the value that is made of them: none where there are
-- fewer
abbrev pub acted : Action → List Value → Option (List Value)
acted a stack = let rest = length stack - a.takes in
    if nat_le a.takes (length stack) then option_map (λ v. take rest stack ++ v ∷ []) (a.makes (drop rest stack)) else None

-- the value of an expression
abbrev pub eval : List Value → (ℕ → ℕ) → Expression → Option Value
eval globals fields e = evaluated (λ op. acted (action globals fields op)) e

-- ---- what is known without globals and types

-- constants, sums, differences and products
abbrev pub is_plain : Operator → Bool
is_plain (op.I32Const value) = true
is_plain (op.I64Const value) = true
is_plain (op.F32Const bits) = true
is_plain (op.F64Const bits) = true
is_plain (op.V128Const value) = true
is_plain op.I32Add = true
is_plain op.I32Sub = true
is_plain op.I32Mul = true
is_plain op.I64Add = true
is_plain op.I64Sub = true
is_plain op.I64Mul = true
is_plain _ = false

-- a stack of at most 16 values
abbrev pub within_16 : List Value → Option (List Value)
within_16 stack = if nat_le (length stack) 16 then Some stack else None

-- one of these operators, after which the stack has at most 16 values
abbrev pub plain_step : Operator → List Value → Option (List Value)
plain_step op stack = if is_plain op then option_and_then within_16 (acted (action [] (λ t. 0) op) stack) else None

-- the constant value of an expression: of constants, sums, differences and products alone, on a
-- stack of at most 16 values
abbrev pub const_value : Expression → Option Value
const_value e = evaluated plain_step e

-- ---- offsets

abbrev pub number_of : Value → ℕ
number_of (I32 n) = n
number_of (I64 n) = n
number_of _ = 0

-- the number of a value, and 0 where there is none
abbrev pub number_or_zero : Option Value → ℕ
number_or_zero None = 0
number_or_zero (Some v) = number_of v

-- the offset that an expression gives, over the values of the globals
abbrev pub offset_over : List Value → (ℕ → ℕ) → Expression → ℕ
offset_over globals fields e = number_or_zero (eval globals fields e)

-- the same, where there is no global
abbrev pub offset_of : Expression → ℕ
offset_of e = offset_over [] (λ t. 0) e
