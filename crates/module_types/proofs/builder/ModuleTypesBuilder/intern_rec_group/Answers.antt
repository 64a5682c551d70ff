use Rattle.std.proofs.Common.{◌≡◌, ◌∙◌, ◌<◌, ℕ, None, false, length, refl, sym, ap, subst, arith}
use Rattle.std.proofs.lemmas.List.{length-map}
use Rattle.type_spec.specs.Interned.{with_group}
use Rattle.form_types.specs.Types.{TypesData}
use Rattle.wasm_index.specs.Index.{number_of}
use Rattle.module_types.specs.IndicesByKey.{noted_at}
use Rattle.module_types.specs.Views.{span_of}
use Rattle.module_types.specs.Builder.{BuilderState, builder_view, interns, interns_by}
use Rattle.module_types.specs.Conversion.{interned_members, HoldsGroups, NamesInterned}
use Rattle.module_types.specs.contracts.builder.ModuleTypesBuilder.{the_view}
use Rattle.module_types.proofs.GroupMembers.{group-long, few-groups}
use Rattle.module_types.proofs.Convertible.{members-long}
use Rattle.module_types.proofs.Holding.{shows-interned}
use Rattle.module_types.proofs.builder.ModuleTypesBuilder.intern_rec_group.Goals as goal

pub push_group-requires-clause-can : goal.push_group-requires-clause-can
push_group-requires-clause-can c =
    let back = sym c.self.view_is in
    record {
      known = c.requires.known;
      filled = c.requires.filled;
      holds = coe 0 1 (j. HoldsGroups c.args.types.now (builder_view (back j))) c.requires.holds;
      named = coe 0 1 (j. NamesInterned c.args.types.now (builder_view (back j)) c.args.id.0) c.requires.named;
    }

-- there is capacity for the group
opens : (t : TypesData) (k : ℕ) (s now : BuilderState) → s ≡ now → None ≡ noted_at s.ids k → s.is_poisoned ≡ false
    → (now.is_poisoned ≡ false → length (interns (builder_view now) k (interned_members t (builder_view now) k)).built.types < 4294967295)
    → length (with_group (builder_view s).built (interned_members t (builder_view s) k)).types < 4294967295
opens t k s now is unheld sound room =
    let P : BuilderState → Type 0 = λ b. b.is_poisoned ≡ false → length (interns (builder_view b) k (interned_members t (builder_view b) k)).built.types < 4294967295 in
    coe 0 1 (j. length (interns_by (builder_view s) k (interned_members t (builder_view s) k) (sym unheld j)).built.types < 4294967295) (subst P (sym is) room sound)

pub push_group-requires-clause-room : goal.push_group-requires-clause-room
push_group-requires-clause-room c = opens c.args.types.now c.args.id.0 (the_view c.self.inside) _ c.self.view_is c.in_default.ensures c.if-self.false c.requires.room

pub note-requires : goal.note-requires
note-requires c =
    let old : BuilderState = the_view c.self.inside in
    let room = opens c.args.types.now c.args.id.0 old _ c.self.view_is c.in_default.ensures c.if-self.false c.requires.room in
    let few = few-groups (builder_view old).built (c.self.invariant c.if-self.false).0.orderly in
    let long = group-long (builder_view old).built (interned_members c.args.types.now (builder_view old) c.args.id.0) in
    omega (arith, room, few, long, c.requires.filled, members-long c.args.types.now (builder_view old) c.args.id.0, length-map old.list.groups span_of, ap number_of c.next_rec_group-next.ensures)

pub returns-clause-interned : goal.returns-clause-interned
returns-clause-interned c =
    let old : BuilderState = the_view c.self.inside in
    shows-interned old _ (interned_members c.args.types.now (builder_view old) c.args.id.0) c.args.id.0 c.next_rec_group-next.result c.in_default.ensures
    c.in_ok-push_group.ensures.built c.next_rec_group-next.ensures c.in_ok-note.ensures refl refl refl (sym c.if-self.false)
    ∙ ap (λ (k : BuilderState). interns (builder_view k) c.args.id.0 (interned_members c.args.types.now (builder_view k) c.args.id.0)) c.self.view_is
