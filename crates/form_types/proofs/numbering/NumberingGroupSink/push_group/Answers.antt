use Rattle.std.proofs.Common.{◌≡◌, ◌∙◌, map, length, true, false, refl, sym, ap, subst, arith, inl, inr}
use Rattle.std.proofs.lemmas.List.{length-map, nil_from_length}
use Rattle.std.specs.List.{All}
use Rattle.wasm_spec.specs.Sizes.{HasShortLists}
use Rattle.wasm_spec.specs.TypeData.{group_edges}
use Rattle.form_reader.specs.Views.{group_of, sub_type_of}
use Rattle.form_types.specs.Keys.{GroupKey, read_key}
use Rattle.form_types.proofs.Built.{few-ids}
use Rattle.form_types.proofs.Ruled.{size-places}
use Rattle.form_types.proofs.Taking.{start-is, last-tells, took-keyed, took-not, took-empty, took-added}
use Rattle.form_types.proofs.numbering.NumberingGroupSink.push_group.Goals as goal

pub returns-then-not-self : goal.returns-then-not-self
returns-then-not-self c = λ before t.
    let n = c.args.self.now in
    let g = c.args.group in
    let long : c.len-count.result ≡ length (group_of g) = omega (arith, c.len-count.ensures, g.types.ok.0, length-map g.types.items sub_type_of) in
    elim c.then-not-self.either [
      | inl off ↦ took-not before n n (group_of g) t off (λ all last. let no : true ≡ false = sym (t.below.1 all) ∙ off in absurd cc)
      | inr none ↦ took-empty before n (group_of g) t none.0 (nil_from_length (group_of g) (sym long ∙ none.1))
    ]

pub members_name_below-requires-clause-named : goal.members_name_below-requires-clause-named
members_name_below-requires-clause-named c =
    c.as_slice-4.ensures.value ∙ ap (λ (k : GroupKey). k.references) c.in_ok-read_key.ensures
    ∙ ap (λ types. group_edges (λ i. i) (map sub_type_of types)) (c.as_slice-2.ensures.value ∙ sym c.as_slice-3.ensures.value)

pub returns-then-not-members_name_below : goal.returns-then-not-members_name_below
returns-then-not-members_name_below c = λ before t.
    let n = record c.args.self.now { key = c.read_key.new.key } in
    let start : c.len-start.result ≡ length n.declared.items = c.len-start.ensures ∙ n.declared.ok.0 in
    let tells = last-tells before n c.args.group (took-keyed before c.args.self.now c.read_key.new.key t) c.if-not-self.false c.len-start.result start
    c.as_slice-3.result.now c.as_slice-3.ensures.value c.members_name_below.result c.members_name_below.ensures in
    took-not before c.args.self.now _ (group_of c.args.group) t refl
    (λ all last. let no : true ≡ false = sym (tells.1 last) ∙ c.if-not-members_name_below.true in absurd cc)

pub add_group-requires-clause-read : goal.add_group-requires-clause-read
add_group-requires-clause-read c = c.in_ok-read_key.ensures ∙ ap (λ types. read_key (map sub_type_of types)) c.as_slice-2.ensures.value

pub add_group-requires-clause-ids : goal.add_group-requires-clause-ids
add_group-requires-clause-ids c =
    let t = c.requires.1 in
    few-ids c.requires.0 c.args.self.now (t.built c.if-not-self.false) (omega (arith, t.few c.if-not-self.false, size-places c.requires.0))

pub returns : goal.returns
returns c = λ before t.
    let n = record c.args.self.now { key = c.read_key.new.key } in
    let keyed = took-keyed before c.args.self.now c.read_key.new.key t in
    let g = c.args.group in
    let yes = c.if-not-self.false in
    let start : c.len-start.result ≡ length n.declared.items = c.len-start.ensures ∙ n.declared.ok.0 in
    let tells = last-tells before n g keyed yes c.len-start.result start c.as_slice-3.result.now c.as_slice-3.ensures.value
    c.members_name_below.result c.members_name_below.ensures in
    let long : c.len-count.result ≡ length (group_of g) = omega (arith, c.len-count.ensures, g.types.ok.0, length-map g.types.items sub_type_of) in
    let short : All HasShortLists (group_of g) = subst (λ types. All HasShortLists (map sub_type_of types)) c.as_slice.ensures.value (c.members_are_short.ensures.0 c.if-not-members_are_short.false) in
    took-added before n c.add_group.new.self (group_of g) keyed yes (c.add_group.ensures.stays ∙ yes) (tells.0 c.if-not-members_name_below.false)
    (omega (arith, start-is before n g keyed yes c.len-start.result start, long, c.if-start-gt-MOST_TYPES.false, c.if-count-start.false)) short
    (omega (arith, long, c.if-count-eq0.false)) c.in_ok-add_group.ensures.adds
