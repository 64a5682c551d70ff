-- A text that is added to a buffer.
use Rattle.std.proofs.Common.{◌≡◌, ℕ, ◌+◌, ◌-◌, ◌≤◌, List, [], ◌∷◌, ◌++◌, All, length, map, drop, refl, arith, length-append, length-drop}
use Rattle.std.specs.Str.{IsCharBoundary, IsUtf8}
use Rattle.std.proofs.Math.Seq.{drop-append_seam, take-length}
use Rattle.std.proofs.lemmas.List.{map-append, take-append-le, drop-append-le}
use Rattle.std.proofs.lemmas.List.Elements.{All-head, All-push, All-tail, All-weaker}
use Rattle.std.proofs.lemmas.Str.{IsCharBoundary-at_seam, IsCharBoundary-end, IsCharBoundary-from_drop, IsUtf8-append, IsUtf8-drop}
use Rattle.entity_map.specs.Texts.{text_in, IsTextRange}
use Rattle.entity_map.specs.declared.texts.TextRange.{TextRange}

module _ (buffer text : List ℕ) (is_buffer : IsUtf8 buffer) (is_text : IsUtf8 text) where
  boundary : (i : ℕ) → IsCharBoundary buffer i → IsCharBoundary (buffer ++ text) i
  boundary i is =
      IsCharBoundary-from_drop (buffer ++ text) i (simp length-append (omega (arith, is.0)))
      (rw (drop-append-le i buffer text is.0) (IsUtf8-append (drop i buffer) text (IsUtf8-drop buffer i is_buffer is) is_text))

  cut : (p : TextRange) → IsTextRange buffer p → IsTextRange (buffer ++ text) p
  cut p is = record { ordered = is.ordered; from = boundary p.start is.from; to = boundary p.end is.to }

  same_text : (p : TextRange) → IsTextRange buffer p → text_in (buffer ++ text) p ≡ text_in buffer p
  same_text p is =
      let few : p.end - p.start ≤ length (drop p.start buffer) = simp length-drop (omega (arith, is.to.0))
      in rw (drop-append-le p.start buffer text is.from.0, take-append-le (p.end - p.start) (drop p.start buffer) text few) refl

  same_texts : (places : List TextRange) → All (IsTextRange buffer) places → map (text_in (buffer ++ text)) places ≡ map (text_in buffer) places
  same_texts [] all = refl
  same_texts (p ∷ places) all =
      rw (same_text p (All-head (IsTextRange buffer) p places all), same_texts places (All-tail (IsTextRange buffer) p places all)) refl

  -- the range of the text is cut out, and the texts are those before it and this one
  pub pushed : (later : List ℕ) (places more : List TextRange) (p : TextRange) → later ≡ buffer ++ text → more ≡ places ++ p ∷ [] → p.start ≡ length buffer
      → p.end ≡ length buffer + length text → All (IsTextRange buffer) places
      → All (IsTextRange later) more × (map (text_in later) more ≡ map (text_in buffer) places ++ text ∷ [])
  pushed later places more p longer one_more start end all =
      let count : p.end - p.start ≡ length text = omega (arith, start, end) in
      let last : text_in (buffer ++ text) p ≡ text = rw (count, start, drop-append_seam buffer text) (take-length text) in
      let is : IsTextRange (buffer ++ text) p = record {
        ordered = omega (arith, start, end);
        from = rw start (IsCharBoundary-at_seam (buffer ++ text) buffer text refl is_text);
        to = rw (end, ← length-append buffer text) (IsCharBoundary-end (buffer ++ text));
      } in
      rw (longer, one_more) (
        All-push (IsTextRange (buffer ++ text)) places p (All-weaker (IsTextRange buffer) (IsTextRange (buffer ++ text)) cut places all) is,
        rw (map-append (text_in (buffer ++ text)) places (p ∷ []), same_texts places all, last) refl,
      )
