use Rattle.std.proofs.Common.{◌≡◌, ℕ, ◌*◌, ◌≤◌, ◌/◌, zero, suc, List, [], ◌∷◌, ◌++◌, length, refl, arith, length-append, lit≤}
use Rattle.std.specs.Prelude.{codes, All}
use Rattle.std.specs.List.{flat_map, join_by}
use Rattle.std.proofs.lemmas.List.Elements.{All-head, All-tail, All-weaker}
use Rattle.wasm_index.specs.Index.{number_of}
use Rattle.wasm_convert.specs.declared.operators.ConstOp.{ConstOp}
use Rattle.wasm_convert.specs.declared.operators.ConstOp.TheVariants as ops
use Rattle.wasm_convert.specs.Operators.{operands_of}
use Rattle.plan_lines.specs.Expressions.{hexadecimal, operator_text, expression_text}
use Rattle.plan_laws.specs.Widths.{HasWidth}
use Rattle.plan_laws.proofs.Lengths.{decimal-narrow, signed-narrow, signed-wide, append-short, flat-each}

pub length-hexadecimal : (digits n : ℕ) → length (hexadecimal digits n) ≡ digits
unfolding hexadecimal
length-hexadecimal zero n = refl
length-hexadecimal (suc others) n = simp length-append (omega (arith, length-hexadecimal others (n / 16)))

pub operator-short : (op : ConstOp) → HasWidth (operands_of op) → length (operator_text op) ≤ 45
operator-short (ops.I32Const value) h = simp length-append (omega (arith, signed-narrow value h))
operator-short (ops.I64Const value) h = simp length-append (omega (arith, signed-wide value h))
operator-short (ops.F32Const bits) h = simp length-append (omega (arith, length-hexadecimal 8 bits))
operator-short (ops.F64Const bits) h = simp length-append (omega (arith, length-hexadecimal 16 bits))
operator-short (ops.V128Const bits) h = simp length-append (omega (arith, length-hexadecimal 32 bits))
operator-short (ops.GlobalGet global) h = simp length-append (omega (arith, decimal-narrow (number_of global) h))
operator-short ops.RefI31 h = lit≤ tt
operator-short (ops.RefNull heap) h = simp length-append (omega (arith, h))
operator-short (ops.RefFunc function) h = simp length-append (omega (arith, decimal-narrow (number_of function) h))
operator-short ops.I32Add h = lit≤ tt
operator-short ops.I32Sub h = lit≤ tt
operator-short ops.I32Mul h = lit≤ tt
operator-short ops.I64Add h = lit≤ tt
operator-short ops.I64Sub h = lit≤ tt
operator-short ops.I64Mul h = lit≤ tt
operator-short (ops.StructNew type) h = simp length-append (omega (arith, decimal-narrow (number_of type) h))
operator-short (ops.StructNewDefault type) h = simp length-append (omega (arith, decimal-narrow (number_of type) h))
operator-short (ops.ArrayNew type) h = simp length-append (omega (arith, decimal-narrow (number_of type) h))
operator-short (ops.ArrayNewDefault type) h = simp length-append (omega (arith, decimal-narrow (number_of type) h))
operator-short (ops.ArrayNewFixed type size) h = simp length-append (omega (arith, decimal-narrow (number_of type) h.0, decimal-narrow size h.1))
operator-short ops.ExternConvertAny h = lit≤ tt
operator-short ops.AnyConvertExtern h = lit≤ tt

abbrev IsShort : ConstOp → Type 0
IsShort op = length (operator_text op) ≤ 45

-- operators joined by a semicolon and a space
joined-short : (e : List ConstOp) → All IsShort e → length (join_by operator_text (codes "; ") e) ≤ 47 * length e
joined-short [] h = lit≤ tt
joined-short (op ∷ e) h =
    let one : length (operator_text op) ≤ 45 = All-head IsShort op e h in
    let others : length (flat_map (λ y. codes "; " ++ operator_text y) e) ≤ 47 * length e = flat-each (λ y. codes "; " ++ operator_text y) 47 e
    (All-weaker IsShort (λ y. length (codes "; " ++ operator_text y) ≤ 47) (λ y short. append-short (codes "; ") (operator_text y) 2 45 (lit≤ tt) short) e
    (All-tail IsShort op e h)) in
    omega (arith, append-short (operator_text op) (flat_map (λ y. codes "; " ++ operator_text y) e) 45 (47 * length e) one others)

pub expression-short : (e : List ConstOp) → All (λ op. length (operator_text op) ≤ 45) e → length (expression_text e) ≤ 47 * length e
unfolding expression_text
expression-short e h = joined-short e h
