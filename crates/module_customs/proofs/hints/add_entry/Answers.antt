use Rattle.std.proofs.Common.{◌≡◌, ◌∷◌, [], ℕ, ◌++◌, true, false, refl, sym, ap, ◌∙◌, subst}
use Rattle.std.specs.Option.{is_some}
use Rattle.wasm_index.specs.Index.{number_of, index_of}
use Rattle.module_customs.specs.Names.{at_number}
use Rattle.module_customs.specs.Hints.{HasFirst}
use Rattle.module_customs.proofs.ByNumber.{got, written}
use Rattle.module_customs.proofs.FirstHints.{first-kept, first-again, first-nowhere}
use Rattle.module_customs.proofs.hints.add_entry.Goals as goal

pub returns-then-function-eq4294967295 : goal.returns-then-function-eq4294967295
returns-then-function-eq4294967295 c = λ before had.
    first-nowhere before c.args.function c.args.hints.now (at_number number_of c.args.kept.now) had c.if-function-eq4294967295.true

pub returns-then-contains_key : goal.returns-then-contains_key
returns-then-contains_key c = λ before had.
    let old = at_number number_of c.args.kept.now in
    let f = number_of c.from_u32-function.result in
    let present : is_some (old f) ≡ true =
    ap is_some (sym (got number_of index_of (λ n. refl) _ (λ a b. refl) c.args.kept.now f)) ∙ sym c.if-contains_key.ensures in
    subst (λ (n : ℕ). HasFirst (before ++ (n, c.args.hints.now) ∷ []) old) (ap number_of c.from_u32-function.ensures)
    (first-again before f c.args.hints.now old had present)

pub returns : goal.returns
returns c = λ before had.
    let old = at_number number_of c.args.kept.now in
    let new = at_number number_of c.insert.new.self in
    let f = number_of c.from_u32-function.result in
    let is : f ≡ c.args.function = ap number_of c.from_u32-function.ensures in
    let absent : is_some (old f) ≡ false =
    ap is_some (sym (got number_of index_of (λ n. refl) _ (λ a b. refl) c.args.kept.now f)) ∙ sym c.if-contains_key.ensures in
    let writes = written number_of index_of (λ n. refl) _ c.args.kept.now c.insert.new.self c.from_u32-function.result _
    c.in_ok-insert.ensures.updates.0 (λ a b. refl) in
    subst (λ (n : ℕ). HasFirst (before ++ (n, c.args.hints.now) ∷ []) new) is
    (first-kept before f c.args.hints.now old had new c.in_ok-branch_hints.field-0 c.in_ok-branch_hints.ensures (λ e. c.if-function-eq4294967295.false (sym is ∙ e))
    absent writes)
