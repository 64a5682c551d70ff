use Rattle.std.proofs.Common.{◌≡◌, ℕ, List, length, map, None, refl, sym, subst, ◌∙◌, arith}
use Rattle.std.proofs.lemmas.Bool.{eqb-false}
use Rattle.std.proofs.lemmas.List.{length-map}
use Rattle.custom_sections.specs.Views.{text_of}
use Rattle.wasm_index.specs.Index.{number_of, index_of}
use Rattle.module_customs.specs.Names.{at_number, HasLast, local_names}
use Rattle.module_customs.proofs.ByNumber.{got, written, none-yet}
use Rattle.module_customs.proofs.LocalNames.{had-locals, no-locals-yet, locals-kept, written-twice}
use Rattle.module_customs.proofs.names.add_local_names.Goals as goal
use Rattle.module_customs.proofs.names.add_local_names.Goals.{in-Some, in-None}

pub returns : goal.returns
returns c = λ before had.
    let f = number_of c.args.function in
    let names = map text_of c.args.names.now in
    let old = at_number number_of c.args.kept.now in
    let found : c.remove.result ≡ old f = c.remove.ensures.value ∙ got number_of index_of (λ n. refl) _ (λ a b. refl) c.args.kept.now f in
    let differs : ¬ (length c.args.names.now ≡ 0) = eqb-false _ _ (sym c.if-is_empty.ensures) in
    let first : HasLast (local_names before f) (at_number (λ n. n) c.match-remove.of_function) =
    elim c.match-remove.branch [
      | in-Some w ↦ rw w.of_function-is (had-locals (local_names before f) (old f) w.in-Some.of_function (sym found ∙ w.in-Some.is) (had f))
      | in-None w ↦
          let none = no-locals-yet (local_names before f) (old f) (sym found ∙ w.in-None.is) (had f) in
          rw w.of_function-is (subst (λ (l : List (ℕ × List ℕ)). HasLast l (at_number (λ n. n) w.new-of_function.result)) (sym none)
          (none-yet (λ n. n) w.new-of_function.result w.new-of_function.ensures.empty))
    ] in
    let removed = written number_of index_of (λ n. refl) _ c.args.kept.now c.remove.new.self c.args.function None c.remove.ensures.updates.0 (λ a b. refl) in
    let added = written number_of index_of (λ n. refl) _ c.remove.new.self c.insert.new.self c.args.function _ c.in_ok-insert.ensures.updates.0 (λ a b. refl) in
    locals-kept before f names old (at_number number_of c.insert.new.self) c.add_texts.new.kept (omega (arith, length-map c.args.names.now text_of))
    (c.in_ok-add_texts.ensures (local_names before f) first) (written-twice f c.add_texts.new.kept old (at_number number_of c.remove.new.self) (at_number number_of c.insert.new.self) removed added) had
