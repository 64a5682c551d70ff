-- The entries of a module that may stay in the input, in order.
use Rattle.std.specs.Prelude.{List, ◌++◌, map, Option, Some, None}
use Rattle.std.specs.List.{flat_map}
use denote.Ref.{Bor}
use Rattle.wasm_spec.specs.Module as plain
use Rattle.form_reader.specs.Reading.{Reader}
use Rattle.form_reader.specs.Input.{vector_in}
use Rattle.form_rules.specs.Source.{sections_left}
use Rattle.form_rules.specs.declared.walk.Walk.{Walk}

-- what remains of the current section of a walk
abbrev pub left_here : {E X : Type 0} → Reader X → (E → X) → Walk E → List X
left_here form view walk = map view walk.listed.now ++ vector_in form walk.input

-- what remains of it: the rest of that section, and the sections after that
unfoldable pub walk_left : {E X : Type 0} → Reader X → (E → X) → (plain.Payload → List X) → Walk E → List X
walk_left form view of_section walk = left_here form view walk ++ flat_map of_section (sections_left walk.sections)

-- the current entry of a walk: one of a form's, or else the one that was read last
abbrev pub one_of : {E X : Type 0} → (E → X) → Option (Bor E) → E → X
one_of view (Some entry) read = view entry.now
one_of view None read = view read

abbrev pub standing : {E X : Type 0} → (E → X) → Walk E → X
standing view walk = one_of view walk.standing walk.read
