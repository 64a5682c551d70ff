use Rattle.std.proofs.Common.{length, sym, ap, arith}
use Rattle.std.proofs.lemmas.List.{length-map}
use Rattle.module_types.specs.Views.{interned_of}
use Rattle.module_types.specs.Builder.{BuilderState, builder_view}
use Rattle.module_types.specs.Conversion.{StandGroups}
use Rattle.module_types.proofs.Places.{group-ends}
use Rattle.module_tests.proofs.groups.look_up.Goals as goal

pub with_rec_group-converter-requires-clause-holds : goal.with_rec_group-converter-requires-clause-holds
with_rec_group-converter-requires-clause-holds c =
    let back = sym c.new-converter.ensures.types in
    coe 0 1 (j. StandGroups c.args.types.now (builder_view (back j))) (λ k number e. (c.requires.first.holds k number e).stands)

pub with_rec_group-converter-requires-clause-room : goal.with_rec_group-converter-requires-clause-room
with_rec_group-converter-requires-clause-room c = λ none.
    omega (
      arith,
      c.requires.first.few,
      c.requires.first.sound.few,
      length-map c.args.builder.now.list.types interned_of,
      ap (λ (s : BuilderState). length s.list.types) c.new-converter.ensures.types,
      group-ends c.args.types.now.groups c.args.group.0,
    )
