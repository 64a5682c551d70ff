-- Groups that a sink holds, section after section.
use Rattle.std.proofs.Common.{List, [], ◌++◌, sym, subst, ap, ◌∙◌, append_assoc}
use Rattle.std.proofs.lemmas.List.{append-nil}
use Rattle.std.proofs.lemmas.Grind.{flat_map-append}
use Rattle.wasm_spec.specs.declared.types.UnpackedIndex.{UnpackedIndex}
use Rattle.wasm_spec.specs.TypeData.{Group}
use Rattle.wasm_spec.specs.Module as plain
use Rattle.form_reader.specs.Input.{AddsGroups}

module _ {T : Type 0} (holds : T → List (Group UnpackedIndex UnpackedIndex) → Type 0) where
  pub takes_none : (t : T) → AddsGroups holds t t []
  takes_none t before is = subst (holds t) (sym (append-nil before)) is

  pub takes_more : (old mid new : T) (some more : List (Group UnpackedIndex UnpackedIndex)) → AddsGroups holds old mid some → AddsGroups holds mid new more
      → AddsGroups holds old new (some ++ more)
  takes_more old mid new some more h k before is = subst (holds new) (append_assoc before some more) (k (before ++ some) (h before is))

  pub takes_sections : (old mid new : T) (before more : plain.Module) → AddsGroups holds old mid (plain.groups before)
      → AddsGroups holds mid new (plain.groups more) → AddsGroups holds old new (plain.groups (before ++ more))
  takes_sections old mid new before more h k =
      subst (AddsGroups holds old new) (sym (flat_map-append plain.groups_of_section before more))
      (takes_more old mid new (plain.groups before) (plain.groups more) h k)
