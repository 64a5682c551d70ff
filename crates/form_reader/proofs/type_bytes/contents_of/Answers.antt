use Rattle.std.proofs.Common.{◌≡◌, ◌≢◌, ◌∙◌, ◌+◌, ◌-◌, ℕ, suc, List, Some, refl, sym, ap, arith, length}
use Rattle.std.proofs.lemmas.Bool.{ne_eqb}
use Rattle.form_reader.specs.TypeBytes.{section_bytes_at, contents_of}
use Rattle.form_reader.proofs.type_bytes.contents_of.Goals as goal

-- a section of another id is skipped
passed : (id n : ℕ) (bytes : List ℕ) (s : ℕ × List ℕ × List ℕ) → section_bytes_at bytes ≡ Some s → s.0 ≢ id
    → contents_of id (suc n) bytes ≡ contents_of id n s.2
unfolding contents_of
passed id n bytes s is other = rw (is, ne_eqb s.0 id other) refl

pub sections-preserved : goal.sections-preserved
sections-preserved c =
    let most = length c.args.sections.now in
    let left : most - c.sections.counter ≡ suc (most - (c.sections.counter + 1)) = omega (arith, c.sections-test.true) in
    sym (passed c.args.id (most - (c.sections.counter + 1)) c.sections.rest.now (c.in-Some.found, c.in-Some.contents.now, c.in-Some.others.now)
    (sym c.in-Some.ensures) c.if-found-id.false)
    ∙ ap (λ n. contents_of c.args.id n c.sections.rest.now) (sym left) ∙ c.sections.invariant
