use Rattle.std.proofs.lemmas.Grind.{common_steps}
use Rattle.std.proofs.Common.{◌≡◌, ◌∙◌, ◌<◌, ◌≤◌, ◌+◌, ℕ, List, [], ◌∷◌, ◌++◌, length, take, drop, get_or, map, All, Option, false, refl, sym, ap, arith}
use Rattle.std.specs.Prelude.{slice_get, Some, None}
use Rattle.std.proofs.lemmas.List.{length-append, length-map, map-append, take-map, take_all, drop_at}
use Rattle.std.proofs.lemmas.List.Elements.{All-nil, All-cons}
use Rattle.std.proofs.lemmas.Option.{get_or_from_slice_get}
use Rattle.std.proofs.lemmas.Result.{on_ok_weaker}
use Rattle.std.specs.declared.ops.Range.{Range}
use Rattle.wasm_spec.specs.TypeData.{SubType, map_sub_type, sub_type_edges}
use Rattle.type_spec.specs.Interned.{Interned, Built, assign_trampolines, opened, with_group}
use Rattle.form_reader.specs.declared.types.SubType.{SubType as Read}
use Rattle.form_reader.specs.Views as form
use Rattle.form_types.specs.Types.{TypesData, TypesAreSound}
use Rattle.wasm_spec.specs.declared.types.UnpackedIndex.{UnpackedIndex}
use Rattle.wasm_types.specs.declared.sub.WasmSubType.{WasmSubType}
use Rattle.wasm_convert.specs.Conversion.{index_in}
use Rattle.wasm_convert.specs.Known.{Known}
use Rattle.wasm_index.specs.Index.{number_of, index_of}
use Rattle.module_types.specs.Views.{TypeIndex, interned_of, span_of}
use Rattle.module_types.specs.TypeList.{TypeList, with_type, with_types, with_range}
use Rattle.module_types.specs.Orderly.{IsOrderly}
use Rattle.module_types.specs.IndicesByKey.{noted_at}
use Rattle.module_types.specs.Builder.{Builder}
use Rattle.module_types.specs.Conversion.{id_number, members_of, interned_members, index_by_id, name_by_id, KnowsId, look_by_id}
use Rattle.module_types.specs.InTurn.{CanIntern}
use Rattle.module_types.specs.Held.{built_of}
use Rattle.module_types.specs.declared.interner.Interner.{Interner}
use Rattle.module_types.specs.Interner.{known, built, holding, FindsMapped}
use Rattle.module_types.specs.MappedTypes.{mapped_at, AreFoundByDigest}
use Rattle.module_types.specs.Listed.{IsUnshared, MayBeListed}
use Rattle.module_types.proofs.NamedGroups.{group-listed}
use Rattle.module_types.proofs.Chaining.{known-on, linked-on}
use Rattle.module_types.proofs.GroupMembers.{orderly-opened, group-long, few-groups}
use Rattle.module_types.proofs.Convertible.{members-known, members-can, members-long, made-is}
use Rattle.module_types.proofs.Steps.{Grown, opened-is}
use Rattle.module_types.proofs.interner.Interner.push_group.Goals as goal

stepped : {A B C : Type 0} (f : B → C) (g : A → B) (xs : List A) (n : ℕ) (x : A) → n < length xs → x ≡ get_or xs n x
    → take (n + 1) (map f (map g xs)) ≡ take n (map f (map g xs)) ++ f (g x) ∷ []
stepped f g xs n x lt at = grind (arith, common_steps, take-map, map-append)

-- a member more
module _ (i : Interner) (ids : List (Option ℕ)) (t : TypesData) (k : ℕ) (members : List Read) (read : slice_get t.groups k ≡ Some (map form.sub_type_of members)) where
  abbrev b : Builder
  b = holding (built i) ids

  are : members_of t k ≡ map form.sub_type_of members
  are = get_or_from_slice_get t.groups k (map form.sub_type_of members) [] read

  count : length (interned_members t b k) ≡ length members
  count = members-long t b k ∙ ap length are ∙ length-map members form.sub_type_of

  abbrev interned_member : SubType UnpackedIndex UnpackedIndex → Interned
  interned_member = map_sub_type (λ i. name_by_id t (length b.built.types) b.built.groups b.ids (id_number i)) (λ i. index_by_id t (length b.built.types) b.built.groups b.ids (id_number i))

  next-member : (n : ℕ) (m : Read) → n < length members → m ≡ get_or members n m → (ty : WasmSubType) → interned_of ty ≡ interned_member (form.sub_type_of m)
      → take (n + 1) (interned_members t b k) ≡ take n (interned_members t b k) ++ interned_of ty ∷ []
  next-member n m lt at ty is =
      (λ j. take (n + 1) (map interned_member (are j))) ∙ stepped interned_member form.sub_type_of members n m lt at
      ∙ (λ j. take n (map interned_member (sym are j)) ++ sym is j ∷ [])

  -- no type that is read is shared
  all-unshared : IsUnshared (interned_members t b k)
  all-unshared = coe 0 1 (j. IsUnshared (map interned_member (sym are j))) (unshared members) where
    unshared : (ms : List Read) → IsUnshared (map interned_member (map form.sub_type_of ms))
    unshared [] = All-nil (λ (t : Interned). t.composite.shared ≡ false)
    unshared (m ∷ ms) =
        All-cons (λ (t : Interned). t.composite.shared ≡ false) (interned_member (form.sub_type_of m)) (map interned_member (map form.sub_type_of ms)) refl (unshared ms)

  module _ (can : CanIntern t b k) (room : length (with_group (built i) (interned_members t b k)).types < 4294967295) where
    long : length i.list.types + length members < 4294967295
    long = omega (arith, room, group-long (built i) (interned_members t b k), length-map i.list.types interned_of, count)

    each-known : TypesAreSound t → All (λ m. Known (KnowsId t (length i.list.types) (map span_of i.list.groups) (noted_at ids)) (sub_type_edges (λ i. i) (form.sub_type_of m))) members
    each-known sound =
        members-known t (length i.list.types) (map span_of i.list.groups) (noted_at ids) k (λ m j held. (can.holds m j held).stands)
        (λ none. omega (arith, long, ap length are, length-map members form.sub_type_of)) sound can.named members are

module _ (i now : Interner) {ts : List Interned} {n : ℕ} (g : Grown i now ts n) where
  types-now : length now.list.types ≤ length i.list.types + n
  types-now = grind (arith, common_steps, ap length g.are)

  grown-more : (ty : WasmSubType) (l : TypeList) → l ≡ with_type now.list ty None → take (n + 1) ts ≡ take n ts ++ interned_of ty ∷ []
      → Grown i (record now { list = l }) ts (n + 1)
  grown-more ty l pushed next = record { more = g.more ++ ty ∷ []; is = grind (arith, common_steps); are = grind (arith, map-append, g.are) }

  -- all are there
  module _ (range : Range TypeIndex) (l : TypeList) (pushed : l ≡ with_range now.list range) (found : FindsMapped i) where
    listed : l ≡ with_range (with_types i.list g.more) range
    listed = pushed ∙ ap (λ (s : Interner). with_range s.list range) g.is

    found-now : FindsMapped (record now { list = l })
    found-now = coe 0 1 (j. AreFoundByDigest (sym listed j).types (sym g.is j).mapped_types) (linked-on i.list.types g.more i.mapped_types found)

    module _ (start : range.start ≡ index_of (length i.list.types)) (end : range.end ≡ index_of (length now.list.types)) (past : length ts ≤ n)
        (b : Built) (seeded : b ≡ built (record now { list = l })) where
      opened-now : b ≡ opened (built i) ts
      opened-now =
          seeded ∙ (λ j. built_of (listed j) (mapped_at (listed j).types (g.is j).mapped_types))
          ∙ ap (built_of (with_range (with_types i.list g.more) range)) (known-on i.list.types g.more i.mapped_types found)
          ∙ opened-is i.list (known i) g.more range start (end ∙ ap (λ (s : Interner). index_of (length s.list.types)) g.is)
          ∙ ap (opened (built i)) (g.are ∙ take_all n ts past)

      assigned : (first : ℕ) → first ≡ number_of range.start → assign_trampolines b first (drop first b.types) ≡ with_group (built i) ts
      assigned first from = grind (arith, opened-now, start, drop_at, length-map)

pub convert_sub_type-requires-clause-known : goal.convert_sub_type-requires-clause-known
convert_sub_type-requires-clause-known c =
    let each = each-known c.args.self.now c.args.ids.now c.args.types.now c.args.id.0 c.members-members.result.now c.members-members.ensures.members c.requires.can c.requires.room
    c.members-members.ensures.sound c.loop-member.member-index c.member-item.result c.loop-member-test.true in
    coe 0 1 (j. Known (KnowsId c.args.types.now (number_of (sym c.next_ty-next.ensures j)) (map span_of (sym c.loop-member.invariant.is j).list.groups)
    (noted_at c.args.ids.now)) (sub_type_edges (λ i. i) (form.sub_type_of (sym c.member-item.is j)))) each

pub convert_sub_type-requires-clause-can : goal.convert_sub_type-requires-clause-can
convert_sub_type-requires-clause-can c =
    let is = are c.args.self.now c.args.ids.now c.args.types.now c.args.id.0 c.members-members.result.now c.members-members.ensures.members in
    let each = members-can c.args.types.now (number_of c.next_ty-next.result) (map span_of c.loop-member.self.list.groups) (noted_at c.args.ids.now) c.args.id.0
    c.members-members.result.now is c.members-members.ensures.sound in
    grind (arith, common_steps, each c.loop-member.member-index c.member-item.result c.loop-member-test.true)

pub push-requires : goal.push-requires
push-requires c =
    let l = long c.args.self.now c.args.ids.now c.args.types.now c.args.id.0 c.members-members.result.now c.members-members.ensures.members c.requires.can c.requires.room in
    omega (arith, l, types-now c.args.self.now c.loop-member.self c.loop-member.invariant)

pub loop-member-preserved : goal.loop-member-preserved
loop-member-preserved c =
    let i = c.args.self.now in
    let t = c.args.types.now in
    let g = c.loop-member.invariant in
    let next = c.next_ty-next.ensures ∙ ap index_of (sym (length-map i.list.types interned_of)) in
    let made = made-is t (length (built i).types) (built i).groups (noted_at c.args.ids.now) (form.sub_type_of c.member-item.result) c.in_ok-ty.ty
    (c.in_ok-ty.ensures ∙ (λ j. let look = look_by_id t (number_of (next j)) (map span_of (g.is j).list.groups) (noted_at c.args.ids.now) in
    map_sub_type look (index_in look) (form.sub_type_of c.member-item.result))) in
    grown-more i c.loop-member.self g c.in_ok-ty.ty c.push.new.self c.in_ok-push.ensures.ok
    (next-member i c.args.ids.now t c.args.id.0 c.members-members.result.now c.members-members.ensures.members c.loop-member.member-index c.member-item.result c.loop-member-test.true
    c.member-item.is c.in_ok-ty.ty made)

pub push_rec_group-requires : goal.push_rec_group-requires
push_rec_group-requires c =
    let i = c.args.self.now in
    let long = group-long (built i) (interned_members c.args.types.now (holding (built i) c.args.ids.now) c.args.id.0) in
    let some = members-long c.args.types.now (holding (built i) c.args.ids.now) c.args.id.0 in
    let few = few-groups (built i) c.requires.sound.orderly in
    let same = ap (λ (s : Interner). length s.list.groups) c.loop-member.invariant.is in
    omega (arith, long, some, few, same, length-map i.list.types interned_of, length-map i.list.groups span_of)

pub seed_from-requires : goal.seed_from-requires
seed_from-requires c = record { found = found-now c.args.self.now c.loop-member.self c.loop-member.invariant _ _ c.in_ok-push_rec_group.ensures.ok c.requires.sound.found }

pub assign_trampolines-requires : goal.assign_trampolines-requires
assign_trampolines-requires c =
    let i = c.args.self.now in
    let n = count i c.args.ids.now c.args.types.now c.args.id.0 c.members-members.result.now c.members-members.ensures.members in
    let e = opened-now i c.loop-member.self c.loop-member.invariant _ _ c.in_ok-push_rec_group.ensures.ok c.requires.sound.found c.next_ty-next.ensures c.next_ty-end.ensures
    (omega (arith, n)) _ c.seed_from.ensures.built in
    let made = assigned i c.loop-member.self c.loop-member.invariant _ _ c.in_ok-push_rec_group.ensures.ok c.requires.sound.found c.next_ty-next.ensures c.next_ty-end.ensures
    (omega (arith, n)) _ c.seed_from.ensures.built c.index.result c.index.ensures.number in
    let ts = interned_members c.args.types.now (holding (built i) c.args.ids.now) c.args.id.0 in
    let filled : 0 < length ts = omega (arith, members-long c.args.types.now (holding (built i) c.args.ids.now) c.args.id.0) in
    record {
      in_range = omega (arith, ap (λ (b : Built). length b.types) e, length-append (built i).types ts, length-map i.list.types interned_of, length-map c.seed_from.new.self.list.types interned_of, ap number_of c.next_ty-next.ensures);
      sound = record { orderly = coe 0 1 (j. IsOrderly (sym e j)) (orderly-opened (built i) ts filled c.requires.sound.orderly); found = c.seed_from.ensures.found };
      room = omega (arith, c.requires.room, ap (λ (b : Built). length b.types) made);
    }

pub returns-clause-built : goal.returns-clause-built
returns-clause-built c =
    let n = count c.args.self.now c.args.ids.now c.args.types.now c.args.id.0 c.members-members.result.now c.members-members.ensures.members in
    let made = assigned c.args.self.now c.loop-member.self c.loop-member.invariant _ _ c.in_ok-push_rec_group.ensures.ok c.requires.sound.found c.next_ty-next.ensures c.next_ty-end.ensures
    (omega (arith, n)) _ c.seed_from.ensures.built c.index.result c.index.ensures.number in
    on_ok_weaker c.assign_trampolines.result (λ built. built ∙ made) c.assign_trampolines.ensures.built

pub returns-clause-listed : goal.returns-clause-listed
returns-clause-listed c =
    let i = c.args.self.now in
    let b = holding (built i) c.args.ids.now in
    let t = c.args.types.now in
    let k = c.args.id.0 in
    let unshared = all-unshared i c.args.ids.now t k c.members-members.result.now c.members-members.ensures.members in
    let keeps = group-listed t b k c.requires.can c.members-members.ensures.sound unshared in
    on_ok_weaker c.assign_trampolines.result (λ is listed. coe 0 1 (j. MayBeListed (sym is j)) (keeps listed)) (returns-clause-built c)
