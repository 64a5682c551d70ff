-- Sections, as a loop reads them.
use Rattle.std.proofs.Common.{◌≡◌, ℕ, suc, zero, ◌-◌, ◌+◌, ◌<◌, ◌≤◌, List, [], ◌∷◌, ◌++◌, length, Result, Ok, Err, refl, sym, ap, subst, ◌∙◌, append_assoc, arith}
use Rattle.std.proofs.lemmas.List.{append-nil, nil_from_length, length-append}
use Rattle.form_reader.specs.declared.error.ReadError.{ReadError}
use Rattle.form_reader.specs.declared.error.ReadError.TheVariants as errors
use Rattle.wasm_spec.specs.Module.{Payload, Module}
use Rattle.wasm_spec.specs.Grammar as grammar
use Rattle.wasm_spec.specs.Grammar.{next_order}
use Rattle.form_reader.specs.Reading.{Fails, Fault}
use Rattle.form_reader.specs.SectionRows.{section}
use Rattle.form_reader.specs.ReadingSections.{sections_at, with_payloads, Passes}
use Rattle.form_reader.proofs.ContentLaws.{taken_spells}

joined : (front more : Module) (read : Result Module Fault) → with_payloads front (with_payloads more read) ≡ with_payloads (front ++ more) read
joined front more (Ok ps) = ap (λ (qs : Module). Ok qs) (sym (append_assoc front more ps))
joined front more (Err fault) = refl

-- nothing was read before
all_so_far : (read : Result Module Fault) → with_payloads [] read ≡ read
all_so_far (Ok ps) = refl
all_so_far (Err fault) = refl

no_bytes : (k place next : ℕ) → sections_at k place next [] ≡ Ok []
unfolding sections_at
no_bytes zero place next = refl
no_bytes (suc k) place next = refl

pub section_shortens : (place next : ℕ) (bytes : List ℕ) (p : Payload) (rest : List ℕ) → (section place next).read bytes ≡ Ok (p, rest)
    → length rest < length bytes
section_shortens place next bytes p rest e = by_front
    (let f = (section place next).agrees.found bytes p rest e in (f.0, f.1, (taken_spells place next f.0 p f.2).0)) where
      by_front : ((front : List ℕ) × (bytes ≡ front ++ rest) × (grammar.section place next).spells front p) → length rest < length bytes
      by_front ([], parts, is) = absurd is
      by_front (c ∷ front, parts, is) = let long : length bytes ≡ suc (length front + length rest) =
          rw parts (ap suc (length-append front rest)) in omega arith

-- ---- some sections, and others after them

pub none_pass : (place next : ℕ) (bytes : List ℕ) → Passes place next bytes [] place next bytes
none_pass place next bytes = record {
  fits = omega arith;
  reads = λ k. ap (λ n. sections_at n place next bytes) (let e : 0 + k ≡ k = omega arith in e) ∙ sym (all_so_far (sections_at k place next bytes));
}

pub one_passes : (place next : ℕ) (bytes : List ℕ) (p : Payload) (rest : List ℕ) → (section place next).read bytes ≡ Ok (p, rest)
    → Passes place next bytes (p ∷ []) (place + (length bytes - length rest)) (next_order next p) rest
unfolding sections_at
one_passes place next [] p rest e = absurd (omega (arith, section_shortens place next [] p rest e))
one_passes place next (b ∷ bytes) p rest e = record {
  fits = omega (arith, section_shortens place next (b ∷ bytes) p rest e);
  reads = λ k. ap (λ n. sections_at n place next (b ∷ bytes)) (let one : 1 + k ≡ suc k = omega arith in one) ∙ rw e refl;
}

module _ (place next : ℕ) (old : List ℕ) (front : Module) (later after : ℕ) (mid : List ℕ) (passes : Passes place next old front later after mid) where
  pub then_pass : (more : Module) (last end : ℕ) (new : List ℕ) → Passes later after mid more last end new → Passes place next old (front ++ more) last end new
  then_pass more last end new others = record {
    fits = omega (arith, passes.fits, others.fits, length-append front more);
    reads = λ k.
        let far : length (front ++ more) + k ≡ length front + (length more + k) = omega (arith, length-append front more) in
        ap (λ n. sections_at n place next old) far ∙ passes.reads (length more + k) ∙ ap (with_payloads front) (others.reads k)
        ∙ joined front more (sections_at k last end new);
  }

  -- at the end of the bytes all are read
  pub all_pass : length mid ≡ 0 → sections_at (length old) place next old ≡ Ok front
  all_pass none =
      let k = length old - length front in
      let all : length old ≡ length front + k = omega (arith, passes.fits) in
      ap (λ n. sections_at n place next old) all ∙ passes.reads k
      ∙ rw (nil_from_length mid none, no_bytes k later after) (ap (λ (ps : Module). Ok ps) (append-nil front))

  fails_as : (error : ReadError) (k : ℕ) → Fails error (sections_at k later after mid) → Fails error (sections_at (length front + k) place next old)
  fails_as errors.OutOfMemory k h = tt
  fails_as errors.TooLarge k h = h
  fails_as errors.Malformed k h = passes.reads k ∙ ap (with_payloads front) h
  fails_as (errors.Unsupported w) k h = passes.reads k ∙ ap (with_payloads front) h

  -- where the next is not read, nothing is
  pub fail_after : (error : ReadError) → ((k : ℕ) → 0 < length mid → length mid ≤ k → Fails error (sections_at k later after mid))
      → 0 < length mid → (k : ℕ) → length old ≤ k → Fails error (sections_at k place next old)
  fail_after error fails some k enough =
      let all : length front + (k - length front) ≡ k = omega (arith, passes.fits) in
      subst (λ n. Fails error (sections_at n place next old)) all (fails_as error (k - length front) (fails (k - length front) some (omega (arith, passes.fits))))

-- the next section is not read
pub section_fails : (error : ReadError) (place next : ℕ) (bytes : List ℕ) → Fails error ((section place next).read bytes)
    → (k : ℕ) → 0 < length bytes → length bytes ≤ k → Fails error (sections_at k place next bytes)
unfolding sections_at
section_fails error place next [] h k some enough = absurd (omega arith)
section_fails error place next (b ∷ bytes) h zero some enough = absurd (omega arith)
section_fails errors.OutOfMemory place next (b ∷ bytes) h (suc k) some enough = tt
section_fails errors.TooLarge place next (b ∷ bytes) h (suc k) some enough = h
section_fails errors.Malformed place next (b ∷ bytes) h (suc k) some enough = rw h refl
section_fails (errors.Unsupported w) place next (b ∷ bytes) h (suc k) some enough = rw h refl
