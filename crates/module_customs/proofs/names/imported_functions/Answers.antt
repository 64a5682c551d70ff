use Rattle.std.proofs.Common.{◌+◌, ◌≤◌, map, take, sym, ap, ◌∙◌, subst, arith}
use Rattle.std.proofs.lemmas.List.{length-map, length-take-le, map_more}
use Rattle.form_reader.specs.Views.{import_of}
use Rattle.module_customs.specs.Names.{functions_among}
use Rattle.module_customs.proofs.Functions.{functions-push, functions-le}
use Rattle.module_customs.proofs.NamesInTurn.{one_if-le}
use Rattle.module_customs.proofs.names.imported_functions.Goals as goal

pub overflow_add-count : goal.overflow_add-count
overflow_add-count c =
    let is = c.args.imports.now in
    let k = c.loop-import.import-index in
    let few : c.imported_function-count.result ≤ 1 = subst (λ n. n ≤ 1) (sym c.imported_function-count.ensures) (one_if-le _) in
    omega (
      arith,
      c.loop-import.invariant,
      functions-le (map import_of (take k is)),
      length-map (take k is) import_of,
      length-take-le k is (omega arith),
    )

pub loop-import-preserved : goal.loop-import-preserved
loop-import-preserved c =
    let is = c.args.imports.now in
    let k = c.loop-import.import-index in
    ap (λ n. n + c.imported_function-count.result) c.loop-import.invariant
    ∙ ap (λ n. functions_among (map import_of (take k is)) + n) c.imported_function-count.ensures
    ∙ sym (ap functions_among (map_more import_of is k _ c.loop-import-test.true) ∙ functions-push (map import_of (take k is)) _)
