-- The id of a section that is read is that of what is read.
use Rattle.std.proofs.Common.{◌≡◌, ℕ, ◌+◌, List, ◌∷◌, Option, Some, None, Ok, false, refl, sym, ap, ◌∙◌, inl, inr}
use Rattle.std.proofs.lemmas.Bool.{cases_Bool}
use Rattle.wasm_spec.specs.Module.{Payload, Types, Imports, FunctionTypes, Tables, Memories, Tags, Globals, Exports, Start, Elements, DataCount, Segments}
use Rattle.wasm_spec.specs.Grammar as grammar
use Rattle.wasm_spec.specs.Grammar.{section_id, order_of}
use Rattle.form_reader.specs.Reading as at
use Rattle.form_reader.specs.Reading.{Bad, Reader, gives_at, whole}
use Rattle.form_reader.specs.ReadingNumbers.{unsigned_at, vector_at, sized_at}
use Rattle.form_reader.specs.TypeRows.{group, memory_type, tag_type}
use Rattle.form_reader.specs.Agrees.{ok_is, ok_not_err, step_ok}
use Rattle.form_reader.specs.SectionRows.{section, section_contents, custom_section, code_at, import_entry, table_entry, global_entry, export_entry, element_segment, data_segment}
use Rattle.form_reader.proofs.CustomRuns.{custom_is}
use Rattle.refusal_place.specs.declared.kind.SectionKind.{SectionKind}
use Rattle.refusal_place.specs.declared.kind.SectionKind.TheVariants as kind
use Rattle.refusal_place.specs.Kinds.{id_of, kind_of}
use Rattle.refusal_place.specs.Found.{after_id_at, misplaced}
use Rattle.refusal_place.proofs.AfterId.{kind_id, unknown_unread, misplaced_unread, read_after_id}

module _ {B : Type 0} (r : Reader B) (make : B → Payload) (id : ℕ) (is : (x : B) → section_id (make x) ≡ id) where
  made : (bytes later : List ℕ) (p : Payload) → (at.◌>>=◌ r (λ x. gives_at (make x))) bytes ≡ Ok (p, later) → section_id p ≡ id
  made bytes later p e =
      let s = step_ok (r bytes) (λ x. gives_at (make x.0) x.1) (p, later) e in
      let same : (make s.0.0, s.0.1) ≡ (p, later) = ok_is (make s.0.0, s.0.1) (p, later) s.2 in
      ap (λ (q : Payload × List ℕ). section_id q.0) (sym same) ∙ is s.0.0

code_is : (place : ℕ) (front : List ℕ) (p : Payload) → (grammar.code_at place).spells front p → section_id p ≡ 10
code_is place front p s = let inside = s.is_second.1 in ap section_id inside.is_second.1

after_id_read : (start : ℕ) (k : SectionKind) (bytes later : List ℕ) (p : Payload) → after_id_at start (id_of k) bytes ≡ Ok (p, later) → section_id p ≡ id_of k
unfolding section_contents custom_section
after_id_read start kind.Custom bytes later p e = let is = custom_is (0 ∷ bytes) later p e in ap section_id is.2
after_id_read start kind.Type bytes later p e = made (sized_at (whole (vector_at group.read))) Types 1 (λ x. refl) bytes later p e
after_id_read start kind.Import bytes later p e = made (sized_at (whole (vector_at import_entry.read))) Imports 2 (λ x. refl) bytes later p e
after_id_read start kind.Function bytes later p e = made (sized_at (whole (vector_at (unsigned_at 32)))) FunctionTypes 3 (λ x. refl) bytes later p e
after_id_read start kind.Table bytes later p e = made (sized_at (whole (vector_at table_entry.read))) Tables 4 (λ x. refl) bytes later p e
after_id_read start kind.Memory bytes later p e = made (sized_at (whole (vector_at memory_type.read))) Memories 5 (λ x. refl) bytes later p e
after_id_read start kind.Global bytes later p e = made (sized_at (whole (vector_at global_entry.read))) Globals 6 (λ x. refl) bytes later p e
after_id_read start kind.Export bytes later p e = made (sized_at (whole (vector_at export_entry.read))) Exports 7 (λ x. refl) bytes later p e
after_id_read start kind.Start bytes later p e = made (sized_at (whole (unsigned_at 32))) Start 8 (λ x. refl) bytes later p e
after_id_read start kind.Element bytes later p e = made (sized_at (whole (vector_at element_segment.read))) Elements 9 (λ x. refl) bytes later p e
after_id_read start kind.Code bytes later p e = code_is (start + 1) _ p ((code_at (start + 1)).agrees.found bytes p later e).2
after_id_read start kind.Data bytes later p e = made (sized_at (whole (vector_at data_segment.read))) Segments 11 (λ x. refl) bytes later p e
after_id_read start kind.DataCount bytes later p e = made (sized_at (whole (unsigned_at 32))) DataCount 12 (λ x. refl) bytes later p e
after_id_read start kind.Tag bytes later p e = made (sized_at (whole (vector_at tag_type.read))) Tags 13 (λ x. refl) bytes later p e

pub id_read : (start next b : ℕ) (bytes later : List ℕ) (p : Payload) → (section start next).read (b ∷ bytes) ≡ Ok (p, later) → section_id p ≡ b
id_read start next b bytes later p e = by_kind (kind_of b) refl where
  by_place : (k : SectionKind) → b ≡ id_of k → misplaced next (order_of b) ≡ false → section_id p ≡ b
  by_place k id f =
      let may : misplaced next (order_of (id_of k)) ≡ false = ap (λ (n : ℕ). misplaced next (order_of n)) (sym id) ∙ f in
      let read = sym (read_after_id start next k bytes may) ∙ ap (λ (n : ℕ). (section start next).read (n ∷ bytes)) (sym id) ∙ e in
      after_id_read start k bytes later p read ∙ sym id

  by_kind : (o : Option SectionKind) → kind_of b ≡ o → section_id p ≡ b
  by_kind None h = absurd (ok_not_err (p, later) Bad (sym e ∙ unknown_unread start next b bytes h))
  by_kind (Some k) h = elim (cases_Bool (misplaced next (order_of b))) [
    | inl t ↦ absurd (ok_not_err (p, later) Bad (sym e ∙ misplaced_unread start next b bytes t))
    | inr f ↦ by_place k (kind_id b k h) f
  ]
