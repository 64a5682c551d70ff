use Rattle.std.proofs.Common.{◌≡◌, ◌+◌, ◌≤◌, ◌++◌, length, map, All}
use Rattle.std.specs.List.{flat_map, enumerate_from}
use Rattle.wasm_spec.specs.Module.{bodies_of_section}
use Rattle.rule_spec.specs.Lists.{lists_of_module}
use Rattle.rule_spec.specs.References.{BodyRefersIn}
use Rattle.form_reader.specs.Views.{body_of}
use Rattle.form_rules.specs.Sections.{entries_left}
use Rattle.module_sections.specs.Filling.{module_in}
use Rattle.module_environ.specs.Metadata.{function_data, view_function}
use Rattle.interned_types.specs.Types.{look_up_in}
use Rattle.module_environ.proofs.metadata.function_metadata.Given as goal

-- with the metadata of the remaining bodies, all are there
abbrev pub invariant-loop-body : goal.invariant-loop-body
invariant-loop-body g l =
    let m = module_in l.lists in
    let bodies = entries_left body_of bodies_of_section l.body-iterator in
    let made = function_data (look_up_in m) (lists_of_module m) in
    record {
      refer : All (BodyRefersIn (length (lists_of_module m).types)) bodies;
      counted : l.lists.imported_functions + length l.all.items + length bodies ≤ length l.lists.spaces.functions.items;
      metadata : map view_function l.all.items ++ map made (enumerate_from (length l.all.items) bodies)
          ≡ map made (enumerate_from 0 (flat_map bodies_of_section m));
    }
