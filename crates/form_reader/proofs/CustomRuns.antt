-- Custom sections one after another.
use Rattle.std.proofs.Common.{◌≡◌, ℕ, zero, suc, ◌+◌, ◌-◌, ◌<◌, ◌≤◌, List, [], ◌∷◌, ◌++◌, length, drop, Result, Ok, Err, Bool, true, false, refl, sym, ap, subst, ◌∙◌, append_assoc, arith}
use Rattle.std.specs.Prelude.{nat_eq, ◌==◌}
use Rattle.std.specs.List.{starts_with, flat_map, All}
use Rattle.std.proofs.lemmas.Bool.Decides.{Decides-eqb}
use Rattle.std.proofs.lemmas.Slice.Eq.{starts_is}
use Rattle.std.proofs.lemmas.List.{append-nil, length-append}
use Rattle.std.proofs.lemmas.List.Elements.{All-nil, All-cons, All-head, All-tail}
use Rattle.wasm_spec.specs.Module.{Payload, Module, Custom}
use Rattle.wasm_spec.specs.Parts as part
use Rattle.wasm_spec.specs.Grammar.{name, next_order}
use Rattle.form_reader.specs.declared.error.ReadError.{ReadError}
use Rattle.form_reader.specs.declared.customs.InputCustoms.{InputCustoms}
use Rattle.form_reader.specs.Reading.{Fails, Fault}
use Rattle.form_reader.specs.SectionRows.{section, custom_taken, custom_section}
use Rattle.form_reader.specs.ReadingSections.{Passes, sections_at}
use Rattle.form_reader.specs.Input.{listed, listed_after, customs_in}
use Rattle.form_reader.proofs.Listed.{taken_at}
use Rattle.form_reader.proofs.SectionList.{none_pass, one_passes, then_pass, fail_after, section_fails}

-- a custom section follows
abbrev pub IsAtCustom : List ℕ → Bool → Type 0
IsAtCustom bytes t = starts_with nat_eq bytes (0 ∷ []) ≡ t

abbrev pub IsCustom : Payload → Type 0
IsCustom p = (name bytes : List ℕ) × (p ≡ Custom name bytes)

-- ---- what is read is a custom section

pub custom_is : (bytes rest : List ℕ) (p : Payload) → custom_section.read bytes ≡ Ok (p, rest) → IsCustom p
unfolding custom_section
custom_is bytes rest p e = let f = custom_section.agrees.found bytes p rest e in by_front f.0 f.2 where
  by_test : (test : Bool) (front : List ℕ) → (part.choose test (part.sized (part.◌>>=◌ name custom_taken)) part.nothing).spells front p → IsCustom p
  by_test true front s = let inside = s.is_second.1 in (inside.value, inside.back, inside.is_second.0)
  by_test false front s = absurd s

  by_front : (front : List ℕ)
      → (part.first_byte (λ id. part.choose (id == 0) (part.sized (part.◌>>=◌ name custom_taken)) part.nothing)).spells front p → IsCustom p
  by_front [] s = absurd s
  by_front (id ∷ front) s = by_test (id == 0) front s

all_custom_by : (n : ℕ) → ((bytes : List ℕ) → All IsCustom (listed custom_section.read n bytes)) → (bytes : List ℕ)
    → (r : Result (Payload × List ℕ) Fault) → custom_section.read bytes ≡ r → All IsCustom (listed_after r (listed custom_section.read n))
all_custom_by n others bytes (Ok x) e = All-cons IsCustom x.0 _ (custom_is bytes x.1 x.0 e) (others x.1)
all_custom_by n others bytes (Err f) e = All-nil IsCustom

all_custom : (n : ℕ) (bytes : List ℕ) → All IsCustom (listed custom_section.read n bytes)
unfolding listed
all_custom zero bytes = All-nil IsCustom
all_custom (suc n) bytes = all_custom_by n (all_custom n) bytes (custom_section.read bytes) refl

-- what no custom section lists, a run does not list
pub none_listed : {A : Type 0} (of_section : Payload → List A) → ((name bytes : List ℕ) → of_section (Custom name bytes) ≡ []) → (run : InputCustoms)
    → flat_map of_section (customs_in run) ≡ []
none_listed of_section none run = by (customs_in run) (all_custom run.count run.bytes.now) where
  by : (ps : List Payload) → All IsCustom ps → flat_map of_section ps ≡ []
  by [] all = refl
  by (p ∷ ps) all = let is = All-head IsCustom p ps all in
      rw (is.2, none is.0 is.1) (by ps (All-tail IsCustom p ps all))

-- ---- a run, as a loop reads it

-- a custom section is read as any section is
pub read_alike : (place next : ℕ) (bytes : List ℕ) → IsAtCustom bytes true → (section place next).read bytes ≡ custom_section.read bytes
unfolding section custom_section
read_alike place next bytes is =
    let id : bytes ≡ 0 ∷ drop 1 bytes = (starts_is Decides-eqb bytes (0 ∷ []) (starts_with nat_eq bytes (0 ∷ [])) refl).0 is in
    ap (section place next).read id ∙ alike (drop 1 bytes) ∙ sym (ap custom_section.read id) where
      alike : (rest : List ℕ) → (section place next).read (0 ∷ rest) ≡ custom_section.read (0 ∷ rest)
      alike rest = refl

pub custom_shortens : (bytes rest : List ℕ) (p : Payload) → IsAtCustom bytes true → custom_section.read bytes ≡ Ok (p, rest) → length rest < length bytes
custom_shortens bytes rest p is e = omega (arith, (one_passes 0 0 bytes p rest (read_alike 0 0 bytes is ∙ e)).fits)

-- so many sections were read
pub record RunSoFar (count : ℕ) (start now : List ℕ) : Type 0 where
  pub front : Module
  pub counted : count ≡ length front
  pub lists : (k : ℕ) → listed custom_section.read (count + k) start ≡ front ++ listed custom_section.read k now
  pub passes : (place next : ℕ) → Passes place next start front (place + (length start - length now)) next now
  pub begins : count ≡ 0 → now ≡ start

pub run_begins : (bytes : List ℕ) → RunSoFar 0 bytes bytes
run_begins bytes = record {
  front = [];
  counted = refl;
  lists = λ k. ap (λ n. listed custom_section.read n bytes) (let e : 0 + k ≡ k = omega arith in e);
  passes = λ place next.
      let same : place ≡ place + (length bytes - length bytes) = omega arith in
      subst (λ q. Passes place next bytes [] q next bytes) same (none_pass place next bytes);
  begins = λ e. refl;
}

module _ (count : ℕ) (start now : List ℕ) (so_far : RunSoFar count start now) where
  -- the run fits
  pub run_fits : count + length now ≤ length start
  run_fits = omega (arith, so_far.counted, (so_far.passes 0 0).fits)

  -- one more
  pub run_goes_on : (rest : List ℕ) (p : Payload) → IsAtCustom now true → custom_section.read now ≡ Ok (p, rest) → RunSoFar (count + 1) start rest
  run_goes_on rest p is e = record {
    front = so_far.front ++ p ∷ [];
    counted = omega (arith, so_far.counted, length-append so_far.front (p ∷ []));
    lists = λ k.
        let more : (count + 1) + k ≡ count + suc k = omega arith in
        ap (λ n. listed custom_section.read n start) more ∙ so_far.lists (suc k)
        ∙ ap (λ (ps : Module). so_far.front ++ ps) (taken_at custom_section.read k now rest p e)
        ∙ sym (append_assoc so_far.front (p ∷ []) (listed custom_section.read k rest));
    passes = λ place next.
        let q = place + (length start - length now) in
        let before = so_far.passes place next in
        let one = one_passes q next now p rest (read_alike q next now is ∙ e) in
        let there : q + (length now - length rest) ≡ place + (length start - length rest) = omega (arith, before.fits, one.fits) in
        let stays : next_order next p ≡ next = ap (next_order next) (custom_is now rest p e).2 in
        then_pass place next start so_far.front q next now before (p ∷ []) _ next rest
        (subst (λ n. Passes q next now (p ∷ []) (place + (length start - length rest)) n rest) stays
        (subst (λ l. Passes q next now (p ∷ []) l (next_order next p) rest) there one));
    begins = λ none. absurd (omega arith);
  }

  -- the next one is not read
  pub run_fails : (error : ReadError) → IsAtCustom now true → Fails error (custom_section.read now) → (place next k : ℕ) → length start ≤ k
      → Fails error (sections_at k place next start)
  run_fails error is fails place next k enough =
      let q = place + (length start - length now) in
      fail_after place next start so_far.front q next now (so_far.passes place next) error
      (section_fails error q next now (subst (λ r. Fails error r) (sym (read_alike q next now is)) fails)) (some now is) k enough where
        some : (bytes : List ℕ) → IsAtCustom bytes true → 0 < length bytes
        some [] is = absurd cc
        some (b ∷ bytes) is = omega arith

  -- another section follows
  pub run_ends : IsAtCustom start true → IsAtCustom now false → (place next : ℕ)
      → Passes place next start (listed custom_section.read count start) (place + (length start - length now)) next now × (length now < length start)
  unfolding listed
  run_ends first last place next =
      let some : count ≡ 0 → ⊥ = λ none. absurd (let both : true ≡ false = sym first ∙ ap at_custom (sym (so_far.begins none)) ∙ last in cc) in
      let all : listed custom_section.read count start ≡ so_far.front =
      ap (λ n. listed custom_section.read n start) (let e : count ≡ count + 0 = omega arith in e) ∙ so_far.lists 0 ∙ append-nil so_far.front in
      (rw all (so_far.passes place next), omega (arith, some, run_fits)) where
        at_custom : List ℕ → Bool
        at_custom bytes = starts_with nat_eq bytes (0 ∷ [])
