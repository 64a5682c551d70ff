use Rattle.std.proofs.Common.{◌∷◌, [], ℕ, List, ◌++◌, map, take, get_or, Some, refl, sym, ap, ◌∙◌, subst}
use Rattle.wasm_index.specs.Index.{number_of, index_of}
use Rattle.custom_sections.specs.Views.{text_of}
use Rattle.module_customs.specs.Names.{at_number, below, HasLast}
use Rattle.module_customs.proofs.ByNumber.{written, last-more, below-more, below-same}
use Rattle.module_customs.proofs.names.enter_names.Goals as goal
use Rattle.module_customs.proofs.names.enter_names.Goals.{then-function-declared+in-Ok, else-function-declared}

pub loop-function-preserved : goal.loop-function-preserved
loop-function-preserved c = λ before had.
    let names = c.args.names.now in
    let k = c.loop-function.function-index in
    let now = before ++ below c.args.declared (map text_of (take k names)) in
    elim c.if-function-declared.branch [
      | then-function-declared+in-Ok w ↦
          let x = get_or names k _ in
          let whole = below-more text_of c.args.declared before names k _ c.loop-function-test.true w.if-function-declared.true
          ∙ ap (λ (n : ℕ). now ++ (n, x.1.now) ∷ []) (sym (ap number_of w.from_u32.ensures)) in
          rw w.kept-is (subst (λ (l : List (ℕ × List ℕ)). HasLast l (at_number number_of w.insert.new.self)) (sym whole)
          (last-more now (at_number number_of c.loop-function.kept) (at_number number_of w.insert.new.self) (number_of w.from_u32.result) x.1
          (written number_of index_of (λ n. refl) _ c.loop-function.kept w.insert.new.self w.from_u32.result (Some x.1)
          w.in-Ok.ensures.updates.0 (λ a b. refl))
          (c.loop-function.invariant before had)))
      | else-function-declared w ↦
          rw w.kept-is (subst (λ (l : List (ℕ × List ℕ)). HasLast l (at_number number_of c.loop-function.kept))
          (sym (below-same text_of c.args.declared before names k _ c.loop-function-test.true w.if-function-declared.false))
          (c.loop-function.invariant before had))
    ]
