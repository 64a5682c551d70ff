use Rattle.std.proofs.Common.{◌≡◌, List, ◌++◌, ℕ, map, ap, subst, sym}
use Rattle.std.specs.Option.{option_map, option_or}
use Rattle.custom_sections.specs.Views.{text_of, locals_of}
use Rattle.init_plan.specs.declared.debug_info.NameSection.{NameSection}
use Rattle.std.specs.Global.{Vec}
use Rattle.wasm_index.specs.Index.{number_of}
use Rattle.module_customs.specs.Names.{Text, at_number, below, HasLast, HasLocals}
use Rattle.module_customs.proofs.NamesInTurn.{on-ok, named-more, named-same}
use Rattle.module_customs.proofs.names.add_names.Goals as goal
use Rattle.module_customs.proofs.names.add_names.Goals.{in-Some, in_default}

pub returns : goal.returns
returns c = on-ok c.add_locals.result c.add_locals.ensures (λ locals before had.
    let names = c.args.names.now in
    let named : option_map (λ (text : Text). text.now) c.match-names.kept.module_name
    ≡ option_or (option_map (λ (text : Text). text.now) names.module_name) before.module_name =
    elim c.match-names.branch [
      | in-Some w ↦ rw w.kept-is (named-more names.module_name _ before.module_name w.in-Some.is)
      | in_default w ↦ rw w.kept-is (named-same names.module_name before.module_name _ w.in_default.not-Some had.module_name)
    ] in
    let same : record c.match-names.kept { module_name = c.args.kept.now.module_name } ≡ c.args.kept.now =
    elim c.match-names.branch [
      | in-Some w ↦ ap (λ (k : NameSection). (let r : NameSection = record k { module_name = c.args.kept.now.module_name } in r)) w.kept-is
      | in_default w ↦ ap (λ (k : NameSection). (let r : NameSection = record k { module_name = c.args.kept.now.module_name } in r)) w.kept-is
    ] in
    record {
      module_name = named;
      functions = subst (λ (xs : List (ℕ × Text)). HasLast (before.functions ++ below c.args.declared (map text_of xs))
          (at_number number_of c.add_function_names.new.kept)) c.deref.ensures.value
          (c.in_ok-add_function_names.ensures before.functions
          (subst (λ (k : NameSection). HasLast before.functions (at_number number_of k.func_names)) (sym same) had.functions));
      locals = subst (λ (xs : List (ℕ × Vec (ℕ × Text))). HasLocals (before.locals ++ below c.args.declared (map locals_of xs)) c.add_locals.new.kept)
          c.deref-2.ensures.value
          (locals before.locals (subst (λ (k : NameSection). HasLocals before.locals k.locals_names) (sym same) had.locals));
    })
