use Rattle.std.proofs.Common.{◌≡◌, ◌∙◌, ◌+◌, [], ◌∷◌, length, map, slice_get, Some, inl, inr, sym, ap, arith, length-append}
use Rattle.std.specs.Prelude.{unwrap_or}
use Rattle.std.proofs.lemmas.Bool.{cases_lt}
use Rattle.std.proofs.lemmas.List.{length-map, map-append}
use Rattle.std.proofs.lemmas.Option.{slice_get_past}
use Rattle.wasm_index.specs.Index.{number_of}
use Rattle.type_registry.specs.Keys.{key_number}
use Rattle.type_registry.specs.Registry.{registry_of, index_at}
use Rattle.plan_link.proofs.Members.{none-past, some-below}
use Rattle.plan_link.proofs.Positions.{each-more}
use Rattle.plan_link.proofs.program_types.indices_of.Goals.{in-Some+in_ok-push, in_default}
use Rattle.plan_link.proofs.program_types.indices_of.Goals as goal

pub loop-place-preserved : goal.loop-place-preserved
loop-place-preserved c =
    let r = registry_of c.args.registry.now in
    let key = key_number c.args.key in
    let items = c.loop-place.indices.items in
    elim c.match-index_of.branch [
      | in-Some+in_ok-push w ↦
          let all = ap (λ v. v.items) w.indices-is ∙ w.in_ok-push.ensures.items in
          let next : index_at r key c.loop-place.place ≡ Some (number_of w.in-Some.index) =
          ap (λ x. index_at r key (number_of x)) (sym c.from_u32.ensures) ∙ sym w.in-Some.ensures
          in
          let long = c.loop-place.invariant.long in
          let more = each-more (index_at r key) (map number_of items) (number_of w.in-Some.index) c.loop-place.place (length-map items number_of ∙ long)
          c.loop-place.invariant.each next in
          record {
            long = ap length all ∙ length-append items (w.in-Some.index ∷ []) ∙ ap (λ n. n + 1) long;
            each = λ i less. ap (λ xs. slice_get xs i) (ap (map number_of) all ∙ map-append number_of items (w.in-Some.index ∷ [])) ∙ more i less;
          }
      | in_default w ↦
          let count = c.unwrap_or-count.ensures ∙ ap (λ o. unwrap_or o 0) c.type_count.ensures in
          let none = ap (λ x. index_at r key (number_of x)) (sym c.from_u32.ensures) ∙ sym w.in_default.ensures in
          absurd (some-below r key c.loop-place.place (omega (arith, count, c.loop-place-test.true)) none)
    ]

pub returns : goal.returns
returns c = λ i.
    let r = registry_of c.args.registry.now in
    let key = key_number c.args.key in
    let count = c.unwrap_or-count.ensures ∙ ap (λ o. unwrap_or o 0) c.type_count.ensures in
    let long = c.loop-place.invariant.long in
    elim (cases_lt i c.loop-place.place) [
      | inl less ↦ c.loop-place.invariant.each i less
      | inr more ↦
          slice_get_past (map number_of c.loop-place.indices.items) i (omega (arith, more, long, length-map c.loop-place.indices.items number_of))
          ∙ sym (none-past r key i (omega (arith, count, c.loop-place-test.false, more)))
    ]
