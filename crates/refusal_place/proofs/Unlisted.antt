-- Where no entry is found, a module that the bytes spell lists no such entry.
use Rattle.std.proofs.Common.{◌≡◌, ℕ, zero, suc, ◌+◌, ◌<◌, ◌≤◌, List, [], ◌∷◌, ◌++◌, length, take, drop, All, Option, Some, None, Ok, false, refl, sym, ap, subst, ◌∙◌, append_assoc, arith, inl, inr}
use Rattle.std.specs.Prelude.{◌≢◌, ◌⊎◌}
use Rattle.std.proofs.lemmas.Bool.{cases_Bool, ltb-false}
use Rattle.std.proofs.lemmas.List.{length-append, append-nil, take_at}
use Rattle.std.proofs.lemmas.List.Elements.{All-nil, All-cons, All-head, All-tail}
use Rattle.wasm_spec.specs.declared.operators.What.{What}
use Rattle.wasm_spec.specs.Module.{Payload, Module}
use Rattle.wasm_spec.specs.Parts as part
use Rattle.wasm_spec.specs.Parts.{Part}
use Rattle.wasm_spec.specs.Grammar as grammar
use Rattle.wasm_spec.specs.Grammar.{header, Spells, SpellsSections, section_id, order_of, next_order, order_after, order_after_all}
use Rattle.wasm_spec.specs.Interfaces.{IsNoInterface, HasNoInterfaceTypes}
use Rattle.form_reader.specs.Reading.{Reader, Stops}
use Rattle.form_reader.specs.ReadingNumbers.{unsigned_at}
use Rattle.form_reader.specs.Agrees.{Agrees, ok_is, ok_not_err}
use Rattle.form_reader.specs.NumberLaws.{unsigned_agrees}
use Rattle.form_reader.specs.SectionRows.{section}
use Rattle.form_reader.proofs.ContentLaws.{spelled_is_taken, stops_taken, section_once}
use Rattle.refusal_place.specs.declared.kind.SectionKind.{SectionKind}
use Rattle.refusal_place.specs.declared.kind.SectionKind.TheVariants as kind
use Rattle.refusal_place.specs.declared.place.Fault.{Fault}
use Rattle.refusal_place.specs.declared.place.Fault.TheVariants as fault
use Rattle.refusal_place.specs.Kinds.{id_of, OfEntries}
use Rattle.refusal_place.specs.Places.{IsUnspelled, IsUnread, ListsEntries, IsFirstUnspelled, IsFirstStopped, IsInContents, HasContents, ComesTo}
use Rattle.refusal_place.specs.Entries.{ListsNothing, HasFewer, HasNoEntry, SectionHasNoEntry, IsEntryPlace}
use Rattle.refusal_place.specs.Contents.{SectionHasNoContents, IsContentsPlace}
use Rattle.refusal_place.specs.Listed.{listed_count, ListsAtMost, HasNoSection}
use Rattle.refusal_place.specs.Found.{misplaced}
use Rattle.refusal_place.proofs.IdLaws.{id_read}
use Rattle.refusal_place.proofs.AfterId.{misplaced_unread}
use Rattle.refusal_place.proofs.KindSections.{Counts, Holds, holds, both, count_in, none_listed, one_lists, has_order, nothing_listed}

-- ---- sections after others

spells_some : (place next : ℕ) (front : List ℕ) (p : Payload) → (grammar.section place next).spells front p → 0 < length front
spells_some place next [] p s = absurd s
spells_some place next (b ∷ front) p s = omega arith

same_cons : (q p : Payload) (ps qs : Module) → q ≡ p → ps ≡ qs → p ∷ ps ≡ q ∷ qs
same_cons q p ps qs e f = rw (e, f) refl

-- what follows the sections before is spelled by what is left
split : (before : Module) (place next : ℕ) (front rest : List ℕ) (m : Module) → SpellsSections place next front before
    → SpellsSections place next (front ++ rest) m
    → (after : Module) × (m ≡ before ++ after) × SpellsSections (place + length front) (order_after_all next before) rest after
split [] place next front rest m s t =
    let same : place ≡ place + length front = rw s (omega arith) in
    let here : SpellsSections place next rest m = let P : List ℕ → Type 0 = λ l. SpellsSections place next (l ++ rest) m in subst P s t in
    (m, refl, let P : ℕ → Type 0 = λ n. SpellsSections n next rest m in subst P same here)
split (q ∷ qs) place next front rest [] (h, b, parts, is, later) t =
    absurd (omega (arith, ap length t, length-append front rest, ap length parts, length-append h b, spells_some place next h q is))
split (q ∷ qs) place next front rest (p ∷ ps) (h, b, parts', is', later') (g, c, parts, is, later) =
    let all : h ++ (b ++ rest) ≡ g ++ c = sym (append_assoc h b rest) ∙ ap (λ (l : List ℕ). l ++ rest) (sym parts') ∙ parts in
    let once = section_once place next h g (b ++ rest) c q p is' is all in
    let long : length g ≡ length h = omega (arith, ap length all, length-append h (b ++ rest), length-append g c, ap length once.1) in
    let there : (place + length h) + length b ≡ place + length front = omega (arith, ap length parts', length-append h b) in
    let after : SpellsSections (place + length h) (next_order next q) (b ++ rest) ps =
    let P : ℕ → Payload → List ℕ → Type 0 = λ n r l. SpellsSections (place + n) (next_order next r) l ps in
    let one = let Q : ℕ → Type 0 = λ n. P n p c in subst Q long later in
    let two = let Q : Payload → Type 0 = λ r. P (length h) r c in subst Q (sym once.0) one in
    let Q : List ℕ → Type 0 = λ l. P (length h) q l in subst Q (sym once.1) two in
    let r = split qs (place + length h) (next_order next q) b rest ps later' after in (
      r.0,
      same_cons q p ps (qs ++ r.0) once.0 r.1,
      let P : ℕ → Type 0 = λ n. SpellsSections n (order_after_all (next_order next q) qs) rest r.0 in subst P there r.2,
    )

none_after : (before after : Module) → HasNoInterfaceTypes (before ++ after) → HasNoInterfaceTypes after
none_after [] after all = all
none_after (q ∷ qs) after all = none_after qs after (All-tail IsNoInterface q (qs ++ after) all)

-- ---- the order of sections

-- a section that is spelled comes in order
in_order : (place next : ℕ) (front : List ℕ) (p : Payload) → (grammar.section place next).spells front p → IsNoInterface p
    → misplaced next (order_of (section_id p)) ≡ false
in_order place next [] p s none = absurd s
in_order place next (b ∷ front) p s none =
    let read : (section place next).read (b ∷ (front ++ [])) ≡ Ok (p, []) =
    (section place next).agrees.again (b ∷ front) p [] (spelled_is_taken place next (b ∷ front) p s none) in
    let id = id_read place next b (front ++ []) [] p read in
    ap (λ (n : ℕ). misplaced next (order_of n)) id ∙ elim (cases_Bool (misplaced next (order_of b))) [
      | inl t ↦ absurd (let bad = misplaced_unread place next b (front ++ []) t in let both = sym read ∙ bad in absurd cc)
      | inr f ↦ f
    ]

-- the order of a section that is in order, and the next
ordered : (next order : ℕ) (o : Option ℕ) → misplaced next o ≡ false → order < next → (o ≡ Some order → ⊥) × (order < order_after next o)
ordered next order None in_place l = (λ e. absurd cc, l)
ordered next order (Some other) in_place l =
    let later = ltb-false other next in_place in
    (λ e. let same : other ≡ order = cc in omega (arith, later, same, l), omega (arith, later, l))

-- sections of a lower order do not follow
none_follows : (ps : Module) (place next : ℕ) (bytes : List ℕ) (id order : ℕ) → order_of id ≡ Some order → order < next
    → SpellsSections place next bytes ps → HasNoInterfaceTypes ps → All (λ q. section_id q ≢ id) ps
none_follows [] place next bytes id order is l s none = All-nil (λ q. section_id q ≢ id)
none_follows (p ∷ ps) place next bytes id order is l (f, b, parts, first, later) none =
    let o = ordered next order (order_of (section_id p)) (in_order place next f p first (All-head IsNoInterface p ps none)) l in
    All-cons (λ q. section_id q ≢ id) p ps (λ e. o.0 (ap order_of e ∙ is))
    (none_follows ps (place + length f) (next_order next p) b id order is o.1 later (All-tail IsNoInterface p ps none))

after_itself : (next order : ℕ) (o : Option ℕ) → o ≡ Some order → order < order_after next o
after_itself next order o is = rw is (omega arith)

-- ---- what is spelled once

number_once : (f g b c : List ℕ) (m n : ℕ) → (part.unsigned 32).spells f m → (part.unsigned 32).spells g n → f ++ b ≡ g ++ c → (m ≡ n) × (b ≡ c)
number_once f g b c m n s t e =
    let same : (m, b) ≡ (n, c) =
    ok_is (m, b) (n, c) (sym ((unsigned_agrees 32).again f m b s) ∙ ap (unsigned_at 32) e ∙ (unsigned_agrees 32).again g n c t) in
    (ap (λ (x : ℕ × List ℕ). x.0) same, ap (λ (x : ℕ × List ℕ). x.1) same)

elements_long : {A : Type 0} (g : Part A) (n : ℕ) (bytes : List ℕ) (xs : List A) → (part.elements g n).spells bytes xs → length xs ≡ n
elements_long g zero bytes xs s = ap length s.1
elements_long g (suc n) bytes xs s =
    let inner = s.is_second in
    let later = elements_long g n inner.front inner.value inner.is_first in
    omega (arith, ap length inner.is_second.1, later)

module _ {A : Type 0} (read : Reader A) (g : Part A) (a : Agrees read g) where
  once : (f h b c : List ℕ) (x y : A) → g.spells f x → g.spells h y → f ++ b ≡ h ++ c → b ≡ c
  once f h b c x y s t e =
      let same : (x, b) ≡ (y, c) = ok_is (x, b) (y, c) (sym (a.again f x b s) ∙ ap read e ∙ a.again h y c t) in
      ap (λ (z : A × List ℕ). z.1) same

  -- after the first elements the next is spelled
  next_spelled : (k n : ℕ) (front rest : List ℕ) (ys xs : List A) → k < n → (part.elements g k).spells front ys
      → (part.elements g n).spells (front ++ rest) xs → (x : A) × (f : List ℕ) × (b : List ℕ) × (rest ≡ f ++ b) × g.spells f x
  next_spelled k zero front rest ys xs l s t = absurd (omega arith)
  next_spelled zero (suc n) front rest ys xs l s t =
      (t.value, t.front, t.back, ap (λ (l : List ℕ). l ++ rest) (sym s.0) ∙ t.parts, t.is_first)
  next_spelled (suc k) (suc n) front rest ys xs l s t =
      let i = s.is_second in
      let j = t.is_second in
      let left : s.back ≡ i.front = i.parts ∙ ap (λ (l : List ℕ). i.front ++ l) i.is_second.0 ∙ append-nil i.front in
      let right : t.back ≡ j.front = j.parts ∙ ap (λ (l : List ℕ). j.front ++ l) j.is_second.0 ∙ append-nil j.front in
      let all : s.front ++ (s.back ++ rest) ≡ t.front ++ t.back =
      sym (append_assoc s.front s.back rest) ∙ ap (λ (l : List ℕ). l ++ rest) (sym s.parts) ∙ t.parts in
      let same : s.back ++ rest ≡ t.back = once s.front t.front (s.back ++ rest) t.back s.value t.value s.is_first t.is_first all in
      let both : j.front ≡ i.front ++ rest = sym right ∙ sym same ∙ ap (λ (l : List ℕ). l ++ rest) left in
      let there : (part.elements g n).spells (i.front ++ rest) j.value =
      let P : List ℕ → Type 0 = λ l. (part.elements g n).spells l j.value in subst P both j.is_first in
      next_spelled k n i.front rest i.value j.value (omega arith) i.is_first there

  module _ (contents : List ℕ) (count entry offset number : ℕ) (rest : List ℕ) (c : Counts g contents count) (l : ListsEntries g contents entry offset number rest) where
    counted : (number ≡ c.spelled.value) × (l.front ++ rest ≡ c.spelled.back)
    counted = number_once l.number c.spelled.front (l.front ++ rest) c.spelled.back number c.spelled.value l.counts c.spelled.is_first (sym l.parts ∙ c.spelled.parts)

    listed_next : entry < number → (x : A) × (f : List ℕ) × (b : List ℕ) × (rest ≡ f ++ b) × g.spells f x
    listed_next few =
        let P : List ℕ → Type 0 = λ bs. (part.elements g c.spelled.value).spells bs c.entries in
        next_spelled entry c.spelled.value l.front rest l.entries c.entries (omega (arith, few, counted.0)) l.before (subst P (sym counted.1) c.spelled.is_second)

  pub not_unspelled : (contents : List ℕ) (count entry offset : ℕ) → Counts g contents count → IsFirstUnspelled g contents entry offset → ⊥
  not_unspelled contents count entry offset c u =
      let n = listed_next contents count entry offset u.count u.rest c u.lists u.listed in
      u.unspelled n.1 n.2 n.0 n.3 n.4

  pub not_stopped : (w : What) (contents : List ℕ) (count entry offset : ℕ) → Counts g contents count → IsFirstStopped w g contents entry offset → ⊥
  not_stopped w contents count entry offset c u =
      let n = listed_next contents count entry offset u.count u.rest c u.lists u.listed in
      let is : read u.rest ≡ Ok (n.0, n.2) = ap read n.3 ∙ a.again n.1 n.0 n.2 n.4 in
      ok_not_err (n.0, n.2) (Stops w) (sym is ∙ a.stops_again u.rest w u.stops)

-- ---- in the contents

no_count : {A : Type 0} (g : Part A) (contents : List ℕ) (count : ℕ) → Counts g contents count → IsUnspelled (part.unsigned 32) contents → ⊥
no_count g contents count c u = u c.spelled.front c.spelled.back c.spelled.value c.spelled.parts c.spelled.is_first

few_counted : {A : Type 0} (g : Part A) (contents : List ℕ) (count entry : ℕ) → Counts g contents count → HasFewer contents entry → count ≤ entry
few_counted g contents count entry c u =
    let same = number_once u.number c.spelled.front u.rest c.spelled.back u.count c.spelled.value u.counts c.spelled.is_first (sym u.parts ∙ c.spelled.parts) in
    let long = elements_long g c.spelled.value c.spelled.back c.entries c.spelled.is_second in
    omega (arith, same.0, long, c.count_is, u.few)

-- no entry before it is wrong
none_wrong : (k : SectionKind) (f : Fault) (contents : List ℕ) (count earlier offset : ℕ) → OfEntries k (λ A g. Counts g contents count)
    → IsInContents f k contents (Some earlier) offset → ⊥
none_wrong k fault.Entry contents count earlier offset c u =
    both k (λ A g. Counts g contents count) (λ A g. IsFirstUnspelled g contents earlier offset) ⊥
    (λ A read g a d v. not_unspelled read g a contents count earlier offset d v) c u
none_wrong k (fault.Unsupported w) contents count earlier offset c u =
    both k (λ A g. Counts g contents count) (λ A g. IsFirstStopped w g contents earlier offset) ⊥
    (λ A read g a d v. not_stopped read g a w contents count earlier offset d v) c u
none_wrong kind.Custom f contents count earlier offset c u = absurd c
none_wrong kind.Start f contents count earlier offset c u = absurd c
none_wrong kind.DataCount f contents count earlier offset c u = absurd c
none_wrong k f contents count earlier offset c u = absurd u

few_in : (k : SectionKind) (contents : List ℕ) (count entry : ℕ) → OfEntries k (λ A g. Counts g contents count) → HasNoEntry k contents entry
    → ListsNothing k ⊎ (count ≤ entry)
few_in k contents count entry c (inl nothing) = inl nothing
few_in k contents count entry c (inr (inl u)) =
    absurd (both k (λ A g. Counts g contents count) (λ A g. Counts g contents count) ⊥ (λ A read g a d v. no_count g contents count d u) c c)
few_in k contents count entry c (inr (inr (inl u))) =
    inr (both k (λ A g. Counts g contents count) (λ A g. Counts g contents count) (count ≤ entry) (λ A read g a d v. few_counted g contents count entry d u) c c)
few_in k contents count entry c (inr (inr (inr u))) = absurd (none_wrong k u.fault contents count u.earlier u.offset c u.wrong)

-- ---- in a section

cons_parts : {b c : ℕ} {xs ys : List ℕ} → b ∷ xs ≡ c ∷ ys → (b ≡ c) × (xs ≡ ys)
cons_parts e = (cc, cc)

-- the section at the front of bytes that begin with the id
at_front : (k : SectionKind) (place next : ℕ) (front back after : List ℕ) (p : Payload) → (grammar.section place next).spells front p
    → front ++ back ≡ id_of k ∷ after → (sized : List ℕ) × (after ≡ sized ++ back) × Holds k sized p
at_front k place next [] back after p s e = absurd s
at_front k place next (b ∷ sized) back after p s e =
    let both = cons_parts e in
    let is : (grammar.section place next).spells (id_of k ∷ sized) p =
    let P : ℕ → Type 0 = λ n. (grammar.section place next).spells (n ∷ sized) p in subst P both.0 s in
    (sized, sym both.1, holds k place next sized p is)

module _ (k : SectionKind) (place next : ℕ) (front back rest : List ℕ) (p : Payload) (s : (grammar.section place next).spells front p) (parts : rest ≡ front ++ back) where
  module _ (after : List ℕ) (begins : rest ≡ id_of k ∷ after) where
    here : (sized : List ℕ) × (after ≡ sized ++ back) × Holds k sized p
    here = at_front k place next front back after p s (sym parts ∙ begins)

    abbrev h : Holds k here.0 p
    h = here.2

    after_is : after ≡ h.number ++ (h.contents ++ back)
    after_is = here.1 ∙ ap (λ (l : List ℕ). l ++ back) h.parts ∙ append_assoc h.number h.contents back

    sized_here : IsUnspelled (part.unsigned 32) after → ⊥
    sized_here u = u h.number (h.contents ++ back) (length h.contents) after_is h.size_is

    long_here : (number later : List ℕ) (size : ℕ) → after ≡ number ++ later → (part.unsigned 32).spells number size
        → (length h.contents ≡ size) × (h.contents ++ back ≡ later)
    long_here number later size e t = number_once h.number number (h.contents ++ back) later (length h.contents) size h.size_is t (sym after_is ∙ e)

  tail : (xs ys : List ℕ) → id_of k ∷ xs ≡ id_of k ∷ ys → xs ≡ ys
  tail xs ys e = (cons_parts e).1

  pub has_contents : SectionHasNoContents k rest → ⊥
  has_contents (inl (after, begins, u)) = sized_here after begins u
  has_contents (inr u) =
      let begins : rest ≡ id_of k ∷ (u.number ++ u.after) = u.parts in
      let long = long_here (u.number ++ u.after) begins u.number u.after u.size refl u.size_is in
      omega (
        arith,
        long.0,
        ap length long.1,
        length-append (h (u.number ++ u.after) begins).contents back,
        u.short,
      )

  few_here : (contents : List ℕ) (before entry : ℕ) → HasContents k rest contents before → HasNoEntry k contents entry
      → ListsNothing k ⊎ (count_in k p ≤ entry)
  few_here contents before entry c none =
      let after = c.number ++ (contents ++ c.later) in
      let x = h after c.parts in
      let long = long_here after c.parts c.number (contents ++ c.later) (length contents) refl c.size_is in
      let same : x.contents ≡ contents =
      sym (take_at x.contents back (length contents) long.0) ∙ ap (take (length contents)) long.1 ∙ take_at contents c.later (length contents) refl in
      elim x.lists [
        | inl nothing ↦ inl nothing
        | inr lists ↦
            let P : List ℕ → Type 0 = λ l. OfEntries k (λ A g. Counts g l (count_in k p)) in
            few_in k contents (count_in k p) entry (subst P same lists) none
      ]

  pub few_of : (entry : ℕ) → SectionHasNoEntry k rest entry → ListsNothing k ⊎ (count_in k p ≤ entry)
  few_of entry (inl u) = absurd (has_contents (inl u))
  few_of entry (inr (inl u)) = absurd (has_contents (inr u))
  few_of entry (inr (inr (contents, before, c, none))) = few_here contents before entry c none

  -- its id is that of the kind
  pub id_here : (after : List ℕ) → rest ≡ id_of k ∷ after → IsNoInterface p → section_id p ≡ id_of k
  id_here after begins none =
      let read : (section place next).read (id_of k ∷ after) ≡ Ok (p, back) =
      ap (section place next).read (sym begins ∙ parts) ∙ (section place next).agrees.again front p back (spelled_is_taken place next front p s none) in
      id_read place next (id_of k) after back p read

  -- it is read
  pub is_read : IsNoInterface p → IsUnread (grammar.section place next) rest → ⊥
  is_read none (inl u) = u front back p parts s
  is_read none (inr (w, u)) =
      let read : (section place next).read rest ≡ Ok (p, back) =
      ap (section place next).read parts ∙ (section place next).agrees.again front p back (spelled_is_taken place next front p s none) in
      ok_not_err (p, back) (Stops w) (sym read ∙ (section place next).agrees.stops_again rest w (stops_taken place next rest w u))

begins_with : (k : SectionKind) (rest : List ℕ) (entry : ℕ) → SectionHasNoEntry k rest entry → (after : List ℕ) × (rest ≡ id_of k ∷ after)
begins_with k rest entry (inl (after, parts, u)) = (after, parts)
begins_with k rest entry (inr (inl u)) = (u.number ++ u.after, u.parts)
begins_with k rest entry (inr (inr (contents, before, c, none))) = (c.number ++ (contents ++ c.later), c.parts)

-- ---- in the module

after_header : (a b : List ℕ) → header ++ a ≡ header ++ b → a ≡ b
after_header a b e = ap (drop 8) e

module _ (bytes : List ℕ) (k : SectionKind) (start next : ℕ) (rest : List ℕ) (c : ComesTo bytes start next rest) (none_before : All (λ p. section_id p ≢ id_of k) c.before)
    (m : Module) (s : Spells bytes m) (none : HasNoInterfaceTypes m) where
  same_body : s.body ≡ c.front ++ rest
  same_body = after_header s.body (c.front ++ rest) (sym s.parts ∙ c.parts)

  follows : (after : Module) × (m ≡ c.before ++ after) × SpellsSections (8 + length c.front) (order_after_all 0 c.before) rest after
  follows = split c.before 8 0 c.front rest m c.are_sections (let P : List ℕ → Type 0 = λ l. SpellsSections 8 0 l m in subst P same_body s.are_sections)

  -- what follows, as the search has it
  pub sections_from : (after : Module) × (m ≡ c.before ++ after) × SpellsSections start next rest after × HasNoInterfaceTypes after
  sections_from =
      let P : ℕ → ℕ → Type 0 = λ i n. SpellsSections i n rest follows.0 in
      let Q : ℕ → Type 0 = λ i. P i (order_after_all 0 c.before) in
      let one = subst Q (sym c.start_is) follows.2 in
      (follows.0, follows.1, subst (P start) (sym c.next_is) one, none_after c.before follows.0 (subst HasNoInterfaceTypes follows.1 none))

  few_before : (entry : ℕ) → listed_count k (c.before ++ []) ≤ entry
  few_before entry =
      let zero_listed = none_listed k c.before none_before in
      omega (arith, zero_listed, ap (listed_count k) (append-nil c.before))

  few_with : (entry : ℕ) (after : Module) → SpellsSections start next rest after → HasNoInterfaceTypes after
      → (rest ≡ []) ⊎ (IsUnread (grammar.section start next) rest ⊎ SectionHasNoEntry k rest entry) → listed_count k (c.before ++ after) ≤ entry
  few_with entry [] t plain why = few_before entry
  few_with entry (p ∷ ps) (f, b, parts, first, later) plain (inl empty) =
      absurd (omega (arith, ap length empty, ap length parts, length-append f b, spells_some start next f p first))
  few_with entry (p ∷ ps) (f, b, parts, first, later) plain (inr (inl unread)) =
      absurd (is_read k start next f b rest p first parts (All-head IsNoInterface p ps plain) unread)
  few_with entry (p ∷ ps) (f, b, parts, first, later) plain (inr (inr lacks)) = elim (few_of k start next f b rest p first parts entry lacks) [
    | inl nothing ↦ omega (arith, nothing_listed k (c.before ++ p ∷ ps) nothing)
    | inr few ↦ by_order (has_order k) few
  ]
    where
      begins : (after : List ℕ) × (rest ≡ id_of k ∷ after)
      begins = begins_with k rest entry lacks

      id : section_id p ≡ id_of k
      id = id_here k start next f b rest p first parts begins.0 begins.1 (All-head IsNoInterface p ps plain)

      by_order : (((m : Module) → listed_count k m ≡ 0) ⊎ ((order : ℕ) × (order_of (id_of k) ≡ Some order))) → count_in k p ≤ entry
          → listed_count k (c.before ++ p ∷ ps) ≤ entry
      by_order (inl nothing) few = omega (arith, nothing (c.before ++ p ∷ ps))
      by_order (inr (order, is)) few =
          let later_order = after_itself next order (order_of (section_id p)) (ap order_of id ∙ is) in
          let others = none_follows ps (start + length f) (next_order next p) b (id_of k) order is later_order later (All-tail IsNoInterface p ps plain) in
          omega (arith, one_lists k c.before p ps none_before others, few)

  none_with : (after : Module) → SpellsSections start next rest after → HasNoInterfaceTypes after
      → (rest ≡ []) ⊎ (IsUnread (grammar.section start next) rest ⊎ SectionHasNoContents k rest) → All (λ p. section_id p ≢ id_of k) (c.before ++ after)
  none_with [] t plain why = subst (All (λ p. section_id p ≢ id_of k)) (sym (append-nil c.before)) none_before
  none_with (p ∷ ps) (f, b, parts, first, later) plain (inl empty) =
      absurd (omega (arith, ap length empty, ap length parts, length-append f b, spells_some start next f p first))
  none_with (p ∷ ps) (f, b, parts, first, later) plain (inr (inl unread)) =
      absurd (is_read k start next f b rest p first parts (All-head IsNoInterface p ps plain) unread)
  none_with (p ∷ ps) (f, b, parts, first, later) plain (inr (inr lacks)) = absurd (has_contents k start next f b rest p first parts lacks)

  pub lists_few : (entry : ℕ) → (rest ≡ []) ⊎ (IsUnread (grammar.section start next) rest ⊎ SectionHasNoEntry k rest entry) → listed_count k m ≤ entry
  lists_few entry why =
      let f = sections_from in
      omega (arith, few_with entry f.0 f.2 f.3 why, ap (listed_count k) f.1)

  pub has_none : (rest ≡ []) ⊎ (IsUnread (grammar.section start next) rest ⊎ SectionHasNoContents k rest) → All (λ p. section_id p ≢ id_of k) m
  has_none why =
      let f = sections_from in
      subst (All (λ p. section_id p ≢ id_of k)) (sym f.1) (none_with f.0 f.2 f.3 why)

pub few_listed : (bytes : List ℕ) (k : SectionKind) (entry : ℕ) → IsEntryPlace bytes k entry None → ListsAtMost bytes k entry
few_listed bytes k entry (inl long) short m s none = absurd (omega (arith, long, short))
few_listed bytes k entry (inr (inl other)) short m s none = absurd (other s.body s.parts)
few_listed bytes k entry (inr (inr u)) short m s none = lists_few bytes k u.start u.next u.rest u.comes_to u.none_before m s none entry u.why

pub no_section : (bytes : List ℕ) (k : SectionKind) → IsContentsPlace bytes k None → HasNoSection bytes k
no_section bytes k (inl long) short m s none = absurd (omega (arith, long, short))
no_section bytes k (inr (inl other)) short m s none = absurd (other s.body s.parts)
no_section bytes k (inr (inr u)) short m s none = has_none bytes k u.start u.next u.rest u.comes_to u.none_before m s none u.why
