-- How constant expressions are read: a row for each part of `ExpressionGrammar`.
use Rattle.std.specs.Prelude.{ℕ, ◌==◌}
use Rattle.wasm_spec.specs.declared.operators.Operator.{Operator}
use Rattle.wasm_spec.specs.declared.operators.What.TheVariants as what
use Rattle.wasm_spec.specs.ExpressionGrammar as grammar
use Rattle.form_reader.specs.Rows.{Row, ◌>>=◌, gives, nothing, stops_at, unsigned, signed, raw_bytes, choose}
use Rattle.form_reader.specs.TypeRows.{heap_type}

unfoldable pub indexed : (make : ℕ → Operator) → Row (grammar.indexed make)
indexed make = unsigned 32 >>= λ n. gives _

unfoldable pub object_operator : (n : ℕ) → Row (grammar.object_operator n)
object_operator n =
    choose (n == 0) (indexed _)
    (choose (n == 1) (indexed _)
    (choose (n == 6) (indexed _)
    (choose (n == 7) (indexed _)
    (choose (n == 8) (unsigned 32 >>= λ type. indexed _)
    (choose (n == 26) (gives _)
    (choose (n == 27) (gives _)
    (choose (n == 28) (gives _)
    (stops_at what.Operator))))))))

unfoldable pub vector_operator : (n : ℕ) → Row (grammar.vector_operator n)
vector_operator n = choose (n == 12) (raw_bytes 16 >>= λ bytes. gives _) (stops_at what.Operator)

unfoldable pub arithmetic_after : (b : ℕ) → Row (grammar.arithmetic_after b)
arithmetic_after b =
    choose (b == 0x6A) (gives _)
    (choose (b == 0x6B) (gives _)
    (choose (b == 0x6C) (gives _)
    (choose (b == 0x7C) (gives _)
    (choose (b == 0x7D) (gives _)
    (choose (b == 0x7E) (gives _)
    (stops_at what.Operator))))))

unfoldable pub constant_after : (b : ℕ) → Row (grammar.constant_after b)
constant_after b =
    choose (b == 0x41) (signed 32 >>= λ value. gives _)
    (choose (b == 0x42) (signed 64 >>= λ value. gives _)
    (choose (b == 0x43) (raw_bytes 4 >>= λ bytes. gives _)
    (choose (b == 0x44) (raw_bytes 8 >>= λ bytes. gives _)
    (choose (b == 0xFD) (unsigned 32 >>= λ n. vector_operator n)
    (arithmetic_after b)))))

unfoldable pub operator_after : (b : ℕ) → Row (grammar.operator_after b)
operator_after b =
    choose (b == 0x0B) nothing
    (choose (b == 0x23) (indexed _)
    (choose (b == 0xD0) (heap_type >>= λ h. gives _)
    (choose (b == 0xD2) (indexed _)
    (choose (b == 0xFB) (unsigned 32 >>= λ n. object_operator n)
    (constant_after b)))))
