-- What a linker answers to an import, and what the import is given.
use Rattle.std.proofs.Common.{◌≡◌, ◌∙◌, ◌↔◌, ◌+◌, ℕ, List, [], ◌∷◌, map, slice_get, Option, Some, None, Result, Ok, Err, inl, inr, refl, sym, ap, subst}
use Rattle.std.specs.Prelude.{⊤}
use Rattle.std.specs.List.{enumerate_from}
use Rattle.std.specs.Option.{option_map}
use Rattle.std.proofs.lemmas.Option.{none-some, same_Some, slice_get-map}
use Rattle.wasm_types.specs.declared.entity.EntityType.{EntityType}
use Rattle.import_match.specs.declared.error.LinkError.{LinkError}
use Rattle.import_match.specs.declared.error.LinkError.TheVariants as error
use Rattle.import_match.specs.declared.error.Mismatch.{Mismatch}
use Rattle.import_match.specs.Rules.{mismatch}
use Rattle.import_match.specs.Definitions.{Definition, found}
use Rattle.import_match.specs.Resolving as linker
use Rattle.plan_link.specs.declared.answer.ImportAnswer.{ImportAnswer}
use Rattle.plan_link.specs.declared.answer.ImportAnswer.TheVariants as answer
use Rattle.plan_link.specs.Answers.{judged, answer_by, answer_to, import_answers, told_by, CanCome}

abbrev Answer : Type 0
Answer = Result ℕ LinkError

-- the same without the index of the import
abbrev pub told : Answer → ImportAnswer
told (Ok number) = answer.Given number
told (Err (error.Mismatch i rule)) = answer.Mismatch rule
told (Err e) = answer.Missing

told-at : (i : ℕ) (want : EntityType) (o : Option (ℕ × EntityType)) → told (linker.answer_at i want o) ≡ answer_by want o
told-at i want None = refl
told-at i want (Some have) = elim (mismatch have.1 want) as (λ m. told (linker.judged i have.0 m) ≡ judged have.0 m) [ None ↦ refl | Some rule ↦ refl ]

told-from : (k : ℕ) (ds wants : List Definition) → map told (map (linker.answer_to ds) (enumerate_from k wants)) ≡ import_answers ds wants
told-from k ds [] = refl
told-from k ds (want ∷ wants) = λ i. told-at k want.1 (found ds want.0) i ∷ told-from (k + 1) ds wants i

-- the answer of a linker at an index gives the one that is given there
given-at : (ds wants : List Definition) (i : ℕ) (r : Answer) → slice_get (linker.answers ds wants) i ≡ Some r
    → slice_get (import_answers ds wants) i ≡ Some (told r)
given-at ds wants i r is =
    ap (λ (rs : List ImportAnswer). slice_get rs i) (sym (told-from 0 ds wants)) ∙ slice_get-map told (linker.answers ds wants) i ∙ ap (option_map told) is

-- ---- one import

abbrev Comes : Answer → Type 0
Comes (Ok number) = ⊤
Comes (Err e) = CanCome e

can-come : (i : ℕ) (want : EntityType) (o : Option (ℕ × EntityType)) → Comes (linker.answer_at i want o)
can-come i want None = tt
can-come i want (Some have) = elim (mismatch have.1 want) as (λ m. Comes (linker.judged i have.0 m)) [ None ↦ tt | Some rule ↦ tt ]

come-at : (ds wants : List Definition) (i : ℕ) (r : Answer) → slice_get (linker.answers ds wants) i ≡ Some r → Comes r
come-at ds wants i r is = by (slice_get (enumerate_from 0 wants) i) (sym (slice_get-map (linker.answer_to ds) (enumerate_from 0 wants) i) ∙ is) where
  by : (o : Option (ℕ × Definition)) → option_map (linker.answer_to ds) o ≡ Some r → Comes r
  by None e = absurd (none-some r e)
  by (Some x) e = subst Comes (same_Some (linker.answer_to ds x) r e) (can-come x.0 x.1.1 (found ds x.1.0))

pub comes : (ds wants : List Definition) (i : ℕ) (e : LinkError) → linker.IsAnswerAt (Err e) ds wants i → CanCome e
comes ds wants i e (inl memory) = subst Comes (sym memory) tt
comes ds wants i e (inr at) = come-at ds wants i (Err e) at

pub number-given : (ds wants : List Definition) (i number : ℕ) → linker.IsAnswerAt (Ok number) ds wants i
    → slice_get (import_answers ds wants) i ≡ Some (answer.Given number)
number-given ds wants i number (inl memory) = absurd cc
number-given ds wants i number (inr at) = given-at ds wants i (Ok number) at

told-is : (e : LinkError) (a : ImportAnswer) → told_by e ≡ Some a → told (Err e) ≡ a
told-is (error.Missing i) a is = cc
told-is e a is = cc

pub refusal-told : (ds wants : List Definition) (i : ℕ) (e : LinkError) (a : ImportAnswer) → linker.IsAnswerAt (Err e) ds wants i
    → told_by e ≡ Some a → slice_get (import_answers ds wants) i ≡ Some a
refusal-told ds wants i e a (inl memory) is = let same : e ≡ error.OutOfMemory = cc in absurd (none-some a (rw same at is))
refusal-told ds wants i e a (inr at) is = given-at ds wants i (Err e) at ∙ ap Some (told-is e a is)

-- ---- where all imports are given

given-ok : (i : ℕ) (want : EntityType) (o : Option (ℕ × EntityType)) (n : ℕ) → answer_by want o ≡ answer.Given n → linker.answer_at i want o ≡ Ok n
given-ok i want None n e = absurd cc
given-ok i want (Some have) n e = by (mismatch have.1 want) e where
  by : (m : Option Mismatch) → judged have.0 m ≡ answer.Given n → linker.judged i have.0 m ≡ Ok n
  by None e' = ap Ok cc
  by (Some rule) e' = absurd cc

-- the answers are the values, where there are all
values-are : (rs : List Answer) (ns : List ℕ) → linker.all_values rs ≡ Ok ns → rs ≡ map Ok ns
values-are [] ns e = let none : [] ≡ ns = cc in ap (map Ok) none
values-are (Err x ∷ rs) ns e = absurd cc
values-are (Ok n ∷ rs) ns e = by (linker.all_values rs) e (λ ms. values-are rs ms) where
  by : (o : Result (List ℕ) LinkError) → linker.with_value n o ≡ Ok ns → ((ms : List ℕ) → o ≡ Ok ms → rs ≡ map Ok ms) → Ok n ∷ rs ≡ map Ok ns
  by (Err x) e rest = absurd cc
  by (Ok ms) e rest = let same : n ∷ ms ≡ ns = cc in ap (λ (xs : List Answer). Ok n ∷ xs) (rest ms refl) ∙ ap (map Ok) same

told-values : (ns : List ℕ) → map told (map Ok ns) ≡ map answer.Given ns
told-values [] = refl
told-values (n ∷ ns) = ap (λ (xs : List ImportAnswer). answer.Given n ∷ xs) (told-values ns)

abbrev from : ℕ → List Definition → List Definition → Result (List ℕ) LinkError
from k ds wants = linker.all_values (map (linker.answer_to ds) (enumerate_from k wants))

all-ok : (k : ℕ) (ds wants : List Definition) (ns : List ℕ) → import_answers ds wants ≡ map answer.Given ns → from k ds wants ≡ Ok ns
all-ok k ds [] [] e = refl
all-ok k ds [] (n ∷ ns) e = absurd cc
all-ok k ds (want ∷ wants) [] e = absurd cc
all-ok k ds (want ∷ wants) (n ∷ ns) e =
    let first : answer_to ds want ≡ answer.Given n = cc in
    let rest : import_answers ds wants ≡ map answer.Given ns = cc in
    ap (λ (r : Answer). linker.all_values (r ∷ map (linker.answer_to ds) (enumerate_from (k + 1) wants))) (given-ok k want.1 (found ds want.0) n first)
    ∙ ap (linker.with_value n) (all-ok (k + 1) ds wants ns rest)

pub given-resolved : (ds wants : List Definition) (ns : List ℕ) → (import_answers ds wants ≡ map answer.Given ns) ↔ (linker.resolved ds wants ≡ Ok ns)
given-resolved ds wants ns = (
  all-ok 0 ds wants ns,
  λ e. sym (told-from 0 ds wants) ∙ ap (map told) (values-are (linker.answers ds wants) ns e) ∙ told-values ns,
)
