use Rattle.std.proofs.Common.{◌≡◌, ◌∙◌, ◌++◌, ◌∷◌, [], ◌+◌, map, take, sym, ap, subst}
use Rattle.std.proofs.lemmas.List.{append-nil, map_more}
use Rattle.std.proofs.lemmas.List.Concat.{flat_map-append}
use Rattle.wasm_spec.specs.Module.{groups, groups_of_section}
use Rattle.form_reader.specs.Views.{payload_of, group_of}
use Rattle.form_types.specs.Taken.{IsNumberingOf}
use Rattle.form_types.proofs.copied.numbering_of_form.Goals as goal

pub loop-payload-preserved : goal.loop-payload-preserved
loop-payload-preserved c =
    let ps = c.deref-payload-items.result.now in
    let k = c.loop-payload.payload-index in
    let p = c.payload-item.result in
    let front = map payload_of (take k ps) in
    let more : map payload_of (take (k + 1) ps) ≡ front ++ payload_of p ∷ [] =
    map_more payload_of ps k p c.loop-payload-test.true ∙ ap (λ x. front ++ payload_of x ∷ []) (sym c.payload-item.is) in
    let all : groups front ++ map group_of c.in_payload.result.now ≡ groups (map payload_of (take (k + 1) ps)) =
    ap (λ gs. groups front ++ gs) (c.in_payload.ensures ∙ sym (append-nil (groups_of_section (payload_of p))))
    ∙ sym (flat_map-append groups_of_section front (payload_of p ∷ [])) ∙ ap groups (sym more) in
    subst (IsNumberingOf c.push_copies.new.numbering) all (c.in_ok-push_copies.ensures (groups front) c.loop-payload.invariant)
