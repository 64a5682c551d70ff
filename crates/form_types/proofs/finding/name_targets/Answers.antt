use Rattle.std.proofs.Common.{◌≡◌, ◌∙◌, ◌+◌, ◌++◌, ◌∷◌, [], ◌<◌, List, take, drop, map, get_or, length, sym, ap, arith}
use Rattle.std.proofs.lemmas.List.{take_more, take_more_set, drop_more, drop-set-lt, length-set, map-append}
use Rattle.wasm_spec.specs.declared.types.UnpackedIndex.{UnpackedIndex}
use Rattle.form_types.specs.EarlierTypes.{ids_of}
use Rattle.form_types.specs.Keys.{canonical_index}
use Rattle.form_types.proofs.finding.name_targets.Goals as goal

pub loop-place-preserved : goal.loop-place-preserved
loop-place-preserved c =
    let i = c.loop-place.place in
    let now : List UnpackedIndex = c.loop-place.references.items in
    let read : List UnpackedIndex = c.args.references.now.items in
    let d : UnpackedIndex = c.index.result.now in
    let target = canonical_index (ids_of c.args.earlier.ids.now) c.args.earlier.start in
    let lt : i < length now = omega (arith, c.loop-place-test.true, c.len-place-end.ensures, c.loop-place.invariant.long, c.args.references.now.ok.0) in
    let lt' : i < length read = omega (arith, lt, c.loop-place.invariant.long) in
    let next : get_or now i d ∷ drop (i + 1) now ≡ get_or read i d ∷ drop (i + 1) read =
    sym (drop_more now i d lt) ∙ c.loop-place.invariant.left ∙ drop_more read i d lt' in
    record {
      long = length-set now i c.target.result ∙ c.loop-place.invariant.long;
      named = take_more_set now i c.target.result lt
          ∙ (λ k. c.loop-place.invariant.named k ++ (c.target.ensures ∙ ap target (c.index.ensures ∙ ap (λ l. get_or l 0 d) next)) k ∷ [])
          ∙ sym (ap (map target) (take_more read i d lt') ∙ map-append target (take i read) (get_or read i d ∷ []));
      left = drop-set-lt (i + 1) now i c.target.result (omega arith) ∙ ap (drop 1) next;
    }
