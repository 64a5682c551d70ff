use Rattle.std.specs.Prelude.{◌+◌, ◌*◌}
use Rattle.std.proofs.Common.{arith}
use Rattle.wasm_types.specs.Texts.{composite_text}
use Rattle.plan_laws.specs.TextCosts.{type_parts}
use Rattle.plan_laws.proofs.TypeTexts.{composite-short, sub-short}
use Rattle.plan_laws.proofs.type_bytes.subtype.Goals as goal

pub returns : goal.returns
returns c =
    let t = c.args.ty.now in let n = 29 + 46 * type_parts t in
    let short = sub-short t.is_final t.supertype (composite_text t.composite_type) (9 + n) c.supertype.ensures (composite-short t.composite_type n c.inner.ensures) in
    omega (arith, short)
