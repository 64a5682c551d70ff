use Rattle.std.proofs.Common.{◌≡◌, ℕ, List, ◌++◌, map, None, refl, sym, subst, ◌∙◌}
use Rattle.std.specs.Ordering.{nat_cmp}
use Rattle.std.specs.declared.cmp.Ordering.{Ordering}
use Rattle.std.proofs.lemmas.Iterator.{items_from_drains}
use Rattle.std.proofs.lemmas.Iterator.Consumers.{YieldsList-from_first}
use Rattle.std.proofs.lemmas.List.{nil_from_length}
use Rattle.wasm_index.specs.declared.index.Index.{Index}
use Rattle.wasm_index.specs.declared.spaces.FuncSpace.{FuncSpace}
use Rattle.wasm_index.specs.Index.{index_of, number_of}
use Rattle.custom_sections.specs.Views.{text_of}
use Rattle.module_customs.specs.Names.{at_number, below, named, names_left, HasLast}
use Rattle.module_customs.proofs.ByNumber.{last-made, none-yet}
use Rattle.module_customs.proofs.names.add_function_names.Goals as goal

abbrev by_number : Index FuncSpace → Index FuncSpace → Ordering
by_number a b = nat_cmp (number_of a) (number_of b)

pub returns : goal.returns
returns c = λ before had.
    let kept = c.in_ok-kept.field-0 in
    let made = c.in_ok-kept.ensures.ran in
    let empty = nil_from_length c.args.kept.now.entries (c.is_empty.ensures.0 c.if-not-is_empty.false) in
    let none : HasLast before (λ _. None) = λ n. sym (none-yet number_of c.args.kept.now empty n) ∙ had n in
    let all : map named made.0 ≡ below c.args.declared (map text_of c.args.names.now) =
    items_from_drains made.0 made.1 (YieldsList-from_first named names_left _ refl) in
    subst (λ (names : List (ℕ × List ℕ)). HasLast (before ++ names) (at_number number_of kept)) all
    (last-made number_of index_of (λ n. refl) by_number (λ a b. refl) made.0 kept before none made.2.0)
