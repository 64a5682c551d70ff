use Rattle.std.proofs.Common.{ℕ, List, ◌++◌, map, take, get_or, Some, refl, sym, subst}
use Rattle.custom_sections.specs.Views.{text_of}
use Rattle.module_customs.specs.Names.{at_number, HasLast}
use Rattle.module_customs.proofs.ByNumber.{written, last-more, texts-more}
use Rattle.module_customs.proofs.names.add_texts.Goals as goal

pub loop-index-preserved : goal.loop-index-preserved
loop-index-preserved c = λ before had.
    let names = c.args.names.now in
    let k = c.loop-index.index-index in
    let x = get_or names k _ in
    subst (λ (l : List (ℕ × List ℕ)). HasLast l (at_number (λ n. n) c.insert.new.self))
    (sym (texts-more text_of before names k _ c.loop-index-test.true))
    (last-more (before ++ map text_of (take k names)) (at_number (λ n. n) c.loop-index.kept) (at_number (λ n. n) c.insert.new.self) x.0 x.1
    (written (λ n. n) (λ n. n) (λ n. refl) _ c.loop-index.kept c.insert.new.self x.0 (Some x.1) c.in_ok-insert.ensures.updates.0 (λ a b. refl))
    (c.loop-index.invariant before had))
