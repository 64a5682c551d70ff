use Rattle.std.specs.Prelude.{ℕ, List, All, ◌<◌, ◌^◌}
use Rattle.std.specs.Borrow.{Bor}
use Rattle.std.proofs.Common.{subst, sym}
use Rattle.std.proofs.lemmas.List.Elements.{All-cons}
use Rattle.wasm_index.specs.declared.index.Index.{Index}
use Rattle.wasm_index.specs.declared.spaces.FuncSpace.{FuncSpace}
use Rattle.wasm_index.specs.Index.{number_of}
use Rattle.plan_laws.proofs.entity_bytes.each_name.Goals as goal

pub loop-index-preserved : goal.loop-index-preserved
loop-index-preserved c =
    let P : Index FuncSpace × Bor (List ℕ) → Type 0 = λ name. number_of name.0 < 2 ^ 32 in
    let Q : List (Index FuncSpace × Bor (List ℕ)) → Type 0 = λ names. All P names in
    λ h. c.loop-index.invariant (subst Q (sym c.in-Some.ensures.steps) (All-cons P (c.in-Some.index.now, c.in-Some.field-0-1.now) c.next.new.self c.named.ensures h))
