use Rattle.std.proofs.Common.{◌≡◌, ◌+◌, ◌∷◌, [], ℕ, List, ◌++◌, map, take, sym, ap, ◌∙◌, subst, arith}
use Rattle.std.specs.Global.{Vec}
use Rattle.std.proofs.lemmas.List.{map_more}
use Rattle.wasm_index.specs.Index.{number_of}
use Rattle.custom_sections.specs.declared.hints.Hint.{Hint}
use Rattle.custom_sections.specs.Views.{hint_entry_of}
use Rattle.module_customs.specs.Names.{at_number}
use Rattle.module_customs.specs.Hints.{HintLists, HasFirst}
use Rattle.module_customs.proofs.ByNumber.{take-through}
use Rattle.module_customs.proofs.FirstHints.{none-first}
use Rattle.module_customs.proofs.hints.by_function.Goals as goal

pub loop-function-init : goal.loop-function-init
loop-function-init c = none-first number_of c.new-kept.result c.new-kept.ensures.empty

pub loop-function-preserved : goal.loop-function-preserved
loop-function-preserved c =
    let es = c.args.entries.now in
    let k = c.loop-function.function-index in
    let x = c.loop-function-item.result in
    let now = map hint_entry_of (take k es) in
    let one : hint_entry_of x ≡ (x.0, c.deref.result.now) = λ i. (x.0, sym c.deref.ensures.value i) in
    let whole : map hint_entry_of (take (k + 1) es) ≡ now ++ (x.0, c.deref.result.now) ∷ [] =
    map_more hint_entry_of es k x c.loop-function-test.true
    ∙ ap (λ (e : ℕ × List Hint). now ++ e ∷ []) (ap hint_entry_of (sym c.loop-function-item.is) ∙ one) in
    subst (λ (l : HintLists). HasFirst l (at_number number_of c.add_entry.new.kept)) (sym whole)
    (c.in_ok-add_entry.ensures now c.loop-function.invariant)

pub returns : goal.returns
returns c = subst (λ (xs : List (ℕ × Vec Hint)). HasFirst (map hint_entry_of xs) (at_number number_of c.loop-function.kept))
    (take-through c.loop-function.function-index c.args.entries.now (omega arith)) c.loop-function.invariant
