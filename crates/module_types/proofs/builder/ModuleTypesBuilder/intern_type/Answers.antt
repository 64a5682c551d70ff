use Rattle.std.proofs.Common.{◌≡◌, ◌∙◌, ◌<◌, false, length, map, sym, ap}
use Rattle.std.proofs.lemmas.List.{length-map}
use Rattle.module_types.specs.Views.{interned_of, span_of}
use Rattle.wasm_index.specs.Index.{number_of}
use Rattle.module_types.specs.Builder.{builder_view, interns}
use Rattle.module_types.specs.IndicesByKey.{noted_at}
use Rattle.module_types.specs.Conversion.{interned_members, NamesInterned, HasIndex}
use Rattle.module_types.proofs.Convertible.{members-kinds}
use Rattle.module_types.proofs.Holding.{has-index}
use Rattle.module_types.proofs.Places.{group-is, filled}
use Rattle.module_types.proofs.builder.ModuleTypesBuilder.intern_type.Goals as goal

pub intern_rec_group-requires-clause-filled : goal.intern_rec_group-requires-clause-filled
intern_rec_group-requires-clause-filled c = filled c.args.types.now c.args.id.0 c.rec_group_id_of-group.result.0 c.rec_group_id_of-group.ensures.number

pub intern_rec_group-requires-clause-named : goal.intern_rec_group-requires-clause-named
intern_rec_group-requires-clause-named c =
    let is = group-is c.args.types.now c.args.id.0 c.rec_group_id_of-group.result.0 c.rec_group_id_of-group.ensures.number in
    coe 0 1 (j. NamesInterned c.args.types.now (builder_view c.args.self.now) (is j)) c.requires.named

pub intern_rec_group-requires-clause-room : goal.intern_rec_group-requires-clause-room
intern_rec_group-requires-clause-room c =
    let is = group-is c.args.types.now c.args.id.0 c.rec_group_id_of-group.result.0 c.rec_group_id_of-group.ensures.number in
    let b = builder_view c.args.self.now in
    coe 0 1 (j. b.is_poisoned ≡ false → length (interns b (is j) (interned_members c.args.types.now b (is j))).built.types < 4294967295) c.requires.room

pub index_of-requires : goal.index_of-requires
index_of-requires c =
    let t = c.args.types.now in
    let k = c.rec_group_id_of-group.result.0 in
    let b = builder_view c.args.self.now in
    let ts = interned_members t b k in
    let new = c.intern_rec_group.new.self in
    let is = group-is t c.args.id.0 k c.rec_group_id_of-group.ensures.number in
    let made = sym c.in_ok-intern_rec_group.ensures.interned in
    let has : HasIndex t (length (builder_view new).built.types) (builder_view new).built.groups (builder_view new).ids c.args.id.0 =
    coe 0 1 (j. HasIndex t (length (made j).built.types) (made j).built.groups (made j).ids c.args.id.0)
    (has-index t b k ts c.requires.holds (members-kinds t b k) c.args.id.0 c.requires.known is) in
    let list = sym c.looking_up.ensures.list in
    let ids = sym c.looking_up.ensures.ids in
    let types = sym c.looking_up.ensures.types in
    let next : length (builder_view new).built.types ≡ number_of c.looking_up.result.next = length-map new.list.types interned_of ∙ ap number_of (sym c.looking_up.ensures.next) in
    coe 0 1 (j. HasIndex (types j) (next j) (map span_of (list j).groups) (noted_at (ids j)) c.args.id.0) has

pub returns-clause-interned : goal.returns-clause-interned
returns-clause-interned c =
    let is = group-is c.args.types.now c.args.id.0 c.rec_group_id_of-group.result.0 c.rec_group_id_of-group.ensures.number in
    let b = builder_view c.args.self.now in
    c.in_ok-intern_rec_group.ensures.interned ∙ ap (λ k. interns b k (interned_members c.args.types.now b k)) (sym is)
