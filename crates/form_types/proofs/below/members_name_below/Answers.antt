use Rattle.std.proofs.Common.{◌≡◌, ◌∙◌, ◌+◌, true, false, length, map, All, sym, arith}
use Rattle.std.proofs.lemmas.List.{length-map}
use Rattle.wasm_spec.specs.TypeData.{group_edges}
use Rattle.form_reader.specs.Views.{sub_type_of}
use Rattle.rule_spec.specs.TypeRules.{IsBelow}
use Rattle.form_types.proofs.PartsBelow.{group_below}
use Rattle.form_types.proofs.below.members_name_below.Goals as goal

pub returns-then-are_below : goal.returns-then-are_below
returns-then-are_below c =
    let g = map sub_type_of c.args.types.now in
    let end = c.args.start + length c.args.types.now in
    let both = group_below end c.args.start g (omega (arith, length-map c.args.types.now sub_type_of)) in
    let named : All (IsBelow end) (group_edges (λ i. i) g) = coe 0 1 (i. All (IsBelow end) (c.requires.named i)) (c.are_below.ensures.0 c.if-are_below.true) in
    (λ answered. both.0 (named, c.supertypes_are_below.ensures.0 answered), λ all. c.supertypes_are_below.ensures.1 (both.1 all).1)

pub returns-else-are_below : goal.returns-else-are_below
returns-else-are_below c =
    let g = map sub_type_of c.args.types.now in
    let end = c.args.start + length c.args.types.now in
    let both = group_below end c.args.start g (omega (arith, length-map c.args.types.now sub_type_of)) in (
      λ answered. absurd cc,
      λ all.
          let named = coe 1 0 (i. All (IsBelow end) (c.requires.named i)) (both.1 all).0 in
          let no : true ≡ false = sym (c.are_below.ensures.1 named) ∙ c.if-are_below.false in absurd cc,
    )
