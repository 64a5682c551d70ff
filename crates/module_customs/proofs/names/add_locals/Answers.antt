use Rattle.std.proofs.Common.{◌≡◌, ◌<◌, ◌≤◌, ◌∷◌, [], ℕ, List, ◌++◌, map, take, get_or, sym, ap, ◌∙◌, subst, arith}
use Rattle.wasm_index.specs.Index.{number_of}
use Rattle.custom_sections.specs.Views.{text_of, locals_of}
use Rattle.module_customs.specs.Names.{below, HasLocals}
use Rattle.module_customs.proofs.ByNumber.{below-more, below-same, take-through}
use Rattle.module_customs.proofs.names.add_locals.Goals as goal
use Rattle.module_customs.proofs.names.add_locals.Goals.{then-function-declared+in_ok-add_local_names, else-function-declared}

pub loop-function-preserved : goal.loop-function-preserved
loop-function-preserved c = λ before had.
    let locals = c.args.locals.now in
    let k = c.loop-function.function-index in
    let x = c.loop-function-item.result in
    let lt = c.loop-function-test.true in
    let now = before ++ below c.args.declared (map locals_of (take k locals)) in
    let one : locals_of (get_or locals k x) ≡ (x.0, map text_of x.1.items) = ap locals_of (sym c.loop-function-item.is) in
    elim c.if-function-declared.branch [
      | then-function-declared+in_ok-add_local_names w ↦
          let entry : (number_of w.from_u32.result, map text_of w.deref.result.now) ≡ locals_of (get_or locals k x) =
          (λ i. (number_of (w.from_u32.ensures i), map text_of (w.deref.ensures.value i))) ∙ sym one in
          let whole = below-more locals_of c.args.declared before locals k x lt
          (subst (λ (e : ℕ × List (ℕ × List ℕ)). e.0 < c.args.declared) (sym one) w.if-function-declared.true)
          ∙ ap (λ (e : ℕ × List (ℕ × List ℕ)). now ++ e ∷ []) (sym entry) in
          rw w.kept-is (subst (λ (l : List (ℕ × List (ℕ × List ℕ))). HasLocals l w.add_local_names.new.kept) (sym whole)
          (w.in_ok-add_local_names.ensures now (c.loop-function.invariant before had)))
      | else-function-declared w ↦
          rw w.kept-is (subst (λ (l : List (ℕ × List (ℕ × List ℕ))). HasLocals l c.loop-function.kept)
          (sym (below-same locals_of c.args.declared before locals k x lt
          (subst (λ (e : ℕ × List (ℕ × List ℕ)). c.args.declared ≤ e.0) (sym one) w.if-function-declared.false)))
          (c.loop-function.invariant before had))
    ]

pub returns : goal.returns
returns c = λ before had.
    subst (λ xs. HasLocals (before ++ below c.args.declared (map locals_of xs)) c.loop-function.kept)
    (take-through c.loop-function.function-index c.args.locals.now (omega arith)) (c.loop-function.invariant before had)
