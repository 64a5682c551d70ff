use Rattle.std.proofs.Common.{◌≡◌, ◌++◌, map}
use Rattle.std.specs.List.{flat_map}
use Rattle.std.specs.Option.{option_to_list}
use Rattle.std.specs.Vec.Iter.{into_iter_items}
use Rattle.std.specs.Prelude.{slice_get}
use Rattle.wasm_spec.specs.Module.{bodies_of_section}
use Rattle.form_reader.specs.Views.{body_of}
use Rattle.form_reader.specs.Input.{sections_of_part, input_module_of}
use Rattle.module_environ.specs.Translation.{code_places}
use Rattle.module_environ.proofs.code.take_bodies.Given as goal

-- with those of the remaining sections, the bodies are all, and the first position is the first of
-- all
abbrev pub invariant-loop-part : goal.invariant-loop-part
invariant-loop-part l = record {
  bodies : map (λ input. body_of input.body) l.bodies ++ flat_map bodies_of_section (flat_map sections_of_part (into_iter_items l.part-iterator))
      ≡ flat_map bodies_of_section (input_module_of l.fn.form);
  place : slice_get (option_to_list l.place ++ flat_map code_places (flat_map sections_of_part (into_iter_items l.part-iterator))) 0
      ≡ slice_get (flat_map code_places (input_module_of l.fn.form)) 0;
}
