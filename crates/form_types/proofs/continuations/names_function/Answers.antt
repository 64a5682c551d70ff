use Rattle.std.proofs.Common.{◌≤◌, List, length, map, ap, arith}
use Rattle.std.proofs.lemmas.Option.{slice_get_past}
use Rattle.wasm_spec.specs.declared.types.UnpackedIndex.{UnpackedIndex}
use Rattle.wasm_spec.specs.declared.types.UnpackedIndex.TheVariants.{Id}
use Rattle.wasm_spec.specs.declared.types.CoreTypeId.{CoreTypeId}
use Rattle.wasm_spec.specs.TypeData.{SubType}
use Rattle.form_reader.specs.Views.{group_of}
use Rattle.form_types.specs.Types.{types_by_id, NamesFunction}
use Rattle.form_types.proofs.Looking.{length_numbers}
use Rattle.form_types.proofs.continuations.names_function.Goals as goal

past-last : (types : List (SubType UnpackedIndex UnpackedIndex)) (id : CoreTypeId) → length types ≤ id.0 → NamesFunction types (Id id) → ⊥
past-last types id le names = rw (slice_get_past types id.0 le) at names

pub type_of-requires-clause-known : goal.type_of-requires-clause-known
type_of-requires-clause-known c =
    let groups = map group_of c.args.distinct.now.groups.items in
    omega (arith, c.if-id-len.true, c.len.ensures, ap length c.requires.numbers_are, length_numbers 0 groups, c.args.distinct.now.numbers.ok.0)

pub returns-else-id-len : goal.returns-else-id-len
returns-else-id-len c =
    let groups = map group_of c.args.distinct.now.groups.items in
    let past : length (types_by_id groups) ≤ c.in-Id.id.0 =
    omega (arith, c.if-id-len.false, c.len.ensures, ap length c.requires.numbers_are, length_numbers 0 groups, c.args.distinct.now.numbers.ok.0) in
    grind (arith, past, past-last)
