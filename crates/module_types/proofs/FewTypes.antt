-- A group appends at most two types for each of its members: itself, and the mapped type of a
-- function. So there are at most two for each declared type.
use Rattle.std.proofs.Common.{◌≡◌, ℕ, suc, ◌+◌, ◌<◌, ◌≤◌, List, [], ◌∷◌, length, inl, inr, arith, length-append}
use Rattle.std.proofs.lemmas.Bool.{cases_lt}
use Rattle.std.proofs.lemmas.List.{length-map}
use Rattle.wasm_spec.specs.TypeData.{Group}
use Rattle.type_spec.specs.Equality.{Home, home}
use Rattle.type_spec.specs.Interned.{Interned, Built, Taking, assign_trampoline, assign_trampolines, opened, with_group, numbered, interned_group}
use Rattle.type_spec.proofs.Homes.{size, home-within, home-again}
use Rattle.module_types.proofs.GroupMembers.{few-more}
use Rattle.module_types.proofs.Taking.{done_at, state, through-places, starts-here}

steps-few : (ts : List Interned) (b : Built) (i : ℕ) → length (assign_trampolines b i ts).types ≤ length b.types + length ts
steps-few [] b i = omega arith
steps-few (t ∷ ts) b i = omega (arith, few-more b i t.composite.inner, steps-few ts (assign_trampoline b i t.composite.inner) (suc i))

pub group-few : (b : Built) (ts : List Interned) → length (with_group b ts).types ≤ length b.types + length ts + length ts
group-few b ts = omega (arith, steps-few ts (opened b ts) (length b.types), length-append b.types ts)

module _ (all : List (Group ℕ ℕ)) where
  -- the groups that start before a position end before another
  abbrev End : ℕ → ℕ → Type 0
  End n end = (i : ℕ) → i < size all → (home all i).start < n → (home all i).start + length (home all i).members ≤ end

  abbrev Few : ℕ → List Home → Taking → Type 0
  Few n done t = (end : ℕ) → End n end → length t.built.types ≤ end + end

  few-new : (n : ℕ) → n < size all → Few n (done_at all n) (state all n) → (home all n).start ≡ n → (ts : List Interned)
      → length ts ≡ length (home all n).members → (end : ℕ) → End (n + 1) end → length (with_group (state all n).built ts).types ≤ end + end
  few-new n lt few starts ts long end ends =
      let here = ends n lt (omega (arith, starts)) in
      let before : End n n = λ i lt' start.
      elim (cases_lt n ((home all i).start + length (home all i).members)) [
        | inl within ↦ grind (arith, home-again)
        | inr le ↦ le
      ] in
      omega (arith, few n before, group-few (state all n).built ts, long, here, starts)

  pub few : (n : ℕ) → n ≤ size all → length (state all n).built.types ≤ size all + size all
  few n le =
      through-places all Few (λ end ends. omega arith) (λ n lt p met end ends. p end (λ i lt' start. ends i lt' (omega (arith, start))))
      (λ n lt p unmet.
      let s = state all n in
      let number = numbered all s.number (home all n) (length s.built.types) in
      few-new n lt p (starts-here all n lt unmet) (interned_group all number (home all n).members) (length-map (home all n).members _))
      n le (size all) (λ i lt start. let w = home-within all i lt in omega (arith, w.high))
