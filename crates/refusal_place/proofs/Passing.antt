-- Sections one after another, up to one that is not read.
use Rattle.std.proofs.Common.{◌≡◌, ℕ, zero, suc, ◌+◌, ◌-◌, ◌<◌, ◌≤◌, List, [], ◌∷◌, ◌++◌, length, take, drop, Option, Some, None, Result, Ok, Err, true, refl, sym, ap, subst, ◌∙◌, append_assoc, arith, inl, inr}
use Rattle.std.specs.Prelude.{IfOk}
use Rattle.std.proofs.lemmas.List.{append-nil, length-append, drop_at}
use Rattle.std.proofs.lemmas.List.Elements.{All-nil, All-cons, All-head, All-tail}
use Rattle.wasm_spec.specs.declared.operators.What.TheVariants as what
use Rattle.wasm_spec.specs.Module.{Payload, Module}
use Rattle.wasm_spec.specs.Grammar as grammar
use Rattle.wasm_spec.specs.Grammar.{SpellsSections, next_order, order_after_all, header}
use Rattle.wasm_spec.specs.Interfaces.{IsNoInterface, HasNoInterfaceTypes}
use Rattle.entity_map.specs.declared.OutOfMemory.{OutOfMemory}
use Rattle.form_reader.specs.declared.error.ReadError.{ReadError}
use Rattle.form_reader.specs.declared.error.ReadError.TheVariants as errors
use Rattle.form_reader.specs.Reading.{Fault, Bad, Stops, Fails}
use Rattle.form_reader.specs.SectionRows.{section, custom_section}
use Rattle.form_reader.specs.Agrees.{ok, ok_not_err, bad_not_stops}
use Rattle.form_reader.proofs.ContentLaws.{taken_spells, spelled_is_taken, taken_stops, stops_taken, plain_or_stops, section_once}
use Rattle.form_reader.proofs.SectionList.{section_shortens}
use Rattle.form_reader.proofs.CustomRuns.{IsAtCustom, custom_is, read_alike}
use Rattle.refusal_place.specs.Found.{IsPassed, IsDecidedBy}
use Rattle.refusal_place.specs.Places.{AreAModule, Decides, IsUnread, IsUnspelled, ComesTo}

-- ---- one more section

pub sections_more : (before : Module) (place next : ℕ) (front one : List ℕ) (p : Payload) → SpellsSections place next front before
    → (grammar.section (place + length front) (order_after_all next before)).spells one p → SpellsSections place next (front ++ one) (before ++ p ∷ [])
sections_more [] place next front one p s is =
    let same : place + length front ≡ place = rw s (omega arith) in
    let here : (grammar.section place next).spells one p = let P : ℕ → Type 0 = λ n. (grammar.section n next).spells one p in subst P same is in
    (one, [], rw s (sym (append-nil one)), here, refl)
sections_more (q ∷ qs) place next front one p (f, b, parts, first, later) is =
    let there : place + length front ≡ (place + length f) + length b = rw parts (omega (arith, length-append f b)) in
    let here = let P : ℕ → Type 0 = λ n. (grammar.section n (order_after_all (next_order next q) qs)).spells one p in subst P there is in (
      f,
      b ++ one,
      rw parts (append_assoc f b one),
      first,
      sections_more qs (place + length f) (next_order next q) b one p later here,
    )

pub order_more : (before : Module) (next : ℕ) (p : Payload) → order_after_all next (before ++ p ∷ []) ≡ next_order (order_after_all next before) p
order_more [] next p = refl
order_more (q ∷ qs) next p = order_more qs (next_order next q) p

none_more : (before : Module) (p : Payload) → HasNoInterfaceTypes before → IsNoInterface p → HasNoInterfaceTypes (before ++ p ∷ [])
none_more [] p all is = All-cons IsNoInterface p [] is (All-nil IsNoInterface)
none_more (q ∷ qs) p all is =
    All-cons IsNoInterface q (qs ++ p ∷ []) (All-head IsNoInterface q qs all) (none_more qs p (All-tail IsNoInterface q qs all) is)

-- the sections before were read
pub record IsReadTo (bytes : List ℕ) (start next : ℕ) (rest : List ℕ) : Type 0 where
  pub comes : ComesTo bytes start next rest
  pub none : HasNoInterfaceTypes comes.before

pub reads_header : (bytes rest : List ℕ) → bytes ≡ header ++ rest → IsReadTo bytes 8 0 rest
reads_header bytes rest e = record {
  comes = record { before = []; front = []; parts = e; are_sections = refl; start_is = refl; next_is = refl };
  none = All-nil IsNoInterface;
}

pub reads_more : (bytes : List ℕ) (start next : ℕ) (rest : List ℕ) (p : Payload) (later : List ℕ) → IsReadTo bytes start next rest
    → (section start next).read rest ≡ Ok (p, later) → IsReadTo bytes (start + (length rest - length later)) (next_order next p) later
reads_more bytes start next rest p later r e =
    let c = r.comes in
    let f = (section start next).agrees.found rest p later e in
    let s = taken_spells start next f.0 p f.2 in
    let is : (grammar.section (8 + length c.front) (order_after_all 0 c.before)).spells f.0 p =
    let P : ℕ → ℕ → Type 0 = λ m n. (grammar.section m n).spells f.0 p in
    let Q : ℕ → Type 0 = λ m. P m next in
    subst (P (8 + length c.front)) c.next_is (subst Q c.start_is s.0) in
    record {
      comes = record {
        before = c.before ++ p ∷ [];
        front = c.front ++ f.0;
        parts = c.parts ∙ ap (λ (l : List ℕ). header ++ l) (ap (λ (l : List ℕ). c.front ++ l) f.1 ∙ sym (append_assoc c.front f.0 later));
        are_sections = sections_more c.before 8 0 c.front f.0 p c.are_sections is;
        start_is = omega (arith, c.start_is, ap length f.1, length-append f.0 later, length-append c.front f.0);
        next_is = ap (λ (n : ℕ). next_order n p) c.next_is ∙ sym (order_more c.before 0 p);
      };
      none = none_more c.before p r.none s.1;
    }

pub all_read : (bytes : List ℕ) (start next : ℕ) → IsReadTo bytes start next [] → AreAModule bytes
all_read bytes start next r =
    let c = r.comes in
    let are : SpellsSections 8 0 (c.front ++ []) c.before =
    let P : List ℕ → Type 0 = λ l. SpellsSections 8 0 l c.before in subst P (sym (append-nil c.front)) c.are_sections in
    (c.before, record { body = c.front ++ []; parts = c.parts; are_sections = are }, r.none)

-- ---- a section that is not read

none_after : (before : Module) (place next : ℕ) (front rest : List ℕ) (m : Module) (f : Fault) → SpellsSections place next front before
    → (section (place + length front) (order_after_all next before)).read rest ≡ Err f → 0 < length rest → SpellsSections place next (front ++ rest) m
    → HasNoInterfaceTypes m → ⊥
none_after [] place next front rest [] f s e some t none = absurd (omega (arith, some, ap length t, length-append front rest))
none_after (q ∷ qs) place next front rest [] f s e some t none = absurd (omega (arith, some, ap length t, length-append front rest))
none_after [] place next front rest (p ∷ ps) f s e some (g, c, parts, is, later) none =
    let same : place + length front ≡ place = rw s (omega arith) in
    let taken = spelled_is_taken place next g p is (All-head IsNoInterface p ps none) in
    let read : (section place next).read rest ≡ Ok (p, c) =
    ap (section place next).read (rw s at parts) ∙ (section place next).agrees.again g p c taken in
    ok_not_err (p, c) f (sym read ∙ ap (λ (n : ℕ). (section n next).read rest) (sym same) ∙ e)
none_after (q ∷ qs) place next front rest (p ∷ ps) f (h, b, parts', is', later') e some (g, c, parts, is, later) none =
    let all : h ++ (b ++ rest) ≡ g ++ c = sym (append_assoc h b rest) ∙ ap (λ (l : List ℕ). l ++ rest) (sym parts') ∙ parts in
    let once = section_once place next h g (b ++ rest) c q p is' is all in
    let long : length g ≡ length h = omega (arith, ap length all, length-append h (b ++ rest), length-append g c, ap length once.1) in
    let there : place + length front ≡ (place + length h) + length b = omega (arith, ap length parts', length-append h b) in
    let read : (section ((place + length h) + length b) (order_after_all (next_order next q) qs)).read rest ≡ Err f =
    ap (λ (n : ℕ). (section n (order_after_all (next_order next q) qs)).read rest) (sym there) ∙ e in
    let after : SpellsSections (place + length h) (next_order next q) (b ++ rest) ps =
    let P : ℕ → Payload → List ℕ → Type 0 = λ n r l. SpellsSections (place + n) (next_order next r) l ps in
    let one = let Q : ℕ → Type 0 = λ n. P n p c in subst Q long later in
    let two = let Q : Payload → Type 0 = λ r. P (length h) r c in subst Q (sym once.0) one in
    let Q : List ℕ → Type 0 = λ l. P (length h) q l in subst Q (sym once.1) two in
    none_after qs (place + length h) (next_order next q) b rest ps f later' read some after (All-tail IsNoInterface p ps none)

pub after_header : (a b : List ℕ) → header ++ a ≡ header ++ b → a ≡ b
after_header a b e = ap (drop 8) e

pub no_module : (bytes : List ℕ) (start next : ℕ) (rest : List ℕ) (f : Fault) → ComesTo bytes start next rest → 0 < length rest
    → (section start next).read rest ≡ Err f → AreAModule bytes → ⊥
no_module bytes start next rest f c some e (m, s, none) =
    let same : s.body ≡ c.front ++ rest = after_header s.body (c.front ++ rest) (sym s.parts ∙ c.parts) in
    let are : SpellsSections 8 0 (c.front ++ rest) m = let P : List ℕ → Type 0 = λ l. SpellsSections 8 0 l m in subst P same s.are_sections in
    let read : (section (8 + length c.front) (order_after_all 0 c.before)).read rest ≡ Err f =
    ap (λ (n : ℕ). (section n (order_after_all 0 c.before)).read rest) (sym c.start_is)
    ∙ ap (λ (n : ℕ). (section start n).read rest) (sym c.next_is) ∙ e in
    none_after c.before 8 0 c.front rest m f c.are_sections read some are none

-- so it is of what begins as the bytes do, up to a later offset
cut_parts : (front rest more : List ℕ) (n m : ℕ) → n ≡ length front + m → take n (front ++ rest) ++ more ≡ front ++ (take m rest ++ more)
cut_parts [] rest more n m e = let same : n ≡ m = omega arith in ap (λ (k : ℕ). take k rest ++ more) same
cut_parts (b ∷ front) rest more zero m e = absurd (omega arith)
cut_parts (b ∷ front) rest more (suc n) m e = ap (λ (l : List ℕ). b ∷ l) (cut_parts front rest more n m (omega arith))

comes_again : (bytes : List ℕ) (start next : ℕ) (rest : List ℕ) (end : ℕ) (more : List ℕ) → ComesTo bytes start next rest → start ≤ end
    → ComesTo (take end bytes ++ more) start next (take (end - start) rest ++ more)
comes_again bytes start next rest end more c l = record {
  before = c.before;
  front = c.front;
  parts =
      let long : length (header ++ c.front) ≡ start = omega (arith, c.start_is, length-append header c.front) in
      ap (λ (l : List ℕ). take end l ++ more) (c.parts ∙ sym (append_assoc header c.front rest))
      ∙ cut_parts (header ++ c.front) rest more end (end - start) (omega (arith, long))
      ∙ append_assoc header c.front (take (end - start) rest ++ more);
  are_sections = c.are_sections;
  start_is = c.start_is;
  next_is = c.next_is;
}

some_taken : (n : ℕ) (bytes more : List ℕ) → 0 < n → 0 < length bytes → 0 < length (take n bytes ++ more)
some_taken zero bytes more l k = absurd (omega arith)
some_taken (suc n) [] more l k = absurd (omega arith)
some_taken (suc n) (b ∷ bytes) more l k = omega arith

pub decides : (bytes : List ℕ) (start next : ℕ) (rest : List ℕ) (end : ℕ) → ComesTo bytes start next rest → 0 < length rest
    → IsDecidedBy start next rest end → Decides bytes end
decides bytes start next rest end c some d = λ more m.
    let fault = d.1 more in
    no_module (take end bytes ++ more) start next (take (end - start) rest ++ more) fault.0 (comes_again bytes start next rest end more c (omega (arith, d.0)))
    (some_taken (end - start) rest more (omega (arith, d.0)) some) fault.1 m

-- ---- by the grammar

pub is_unread : (start next : ℕ) (rest : List ℕ) (f : Fault) → (section start next).read rest ≡ Err f → IsUnread (grammar.section start next) rest
is_unread start next rest (Stops w) e = inr (w, taken_stops start next rest w ((section start next).agrees.stopped rest w e))
is_unread start next rest Bad e = inl unspelled where
  unspelled : IsUnspelled (grammar.section start next) rest
  unspelled front later p parts s = elim (plain_or_stops start next front p s) [
    | inl none ↦
        let read = (section start next).agrees.again front p later (spelled_is_taken start next front p s none) in
        ok_not_err (p, later) Bad (sym read ∙ ap (section start next).read (sym parts) ∙ e)
    | inr stops ↦
        let stopped = (section start next).agrees.stops_again (front ++ later) what.InterfaceTypes
        (stops_taken start next (front ++ later) what.InterfaceTypes (stops.1 later)) in
        bad_not_stops what.InterfaceTypes (sym e ∙ ap (section start next).read parts ∙ stopped)
  ]

-- ---- what a call says of one section

pub passed : (start next : ℕ) (bytes later : List ℕ) (p : Payload) → (section start next).read bytes ≡ Ok (p, later)
    → IsPassed start next (next_order next p) bytes (Some (length bytes - length later))
passed start next bytes later p e =
    let f = (section start next).agrees.found bytes p later e in
    let long : length bytes ≡ length f.0 + length later = omega (arith, ap length f.1, length-append f.0 later) in
    let is : drop (length bytes - length later) bytes ≡ later =
    ap (drop (length bytes - length later)) f.1 ∙ drop_at f.0 later (length bytes - length later) (omega (arith, long)) in
    let short = section_shortens start next bytes p later e in
    (p, e ∙ ap (λ (l : List ℕ). ok (p, l)) (sym is), refl, omega (arith, short), omega arith)

pub custom_passed : (start next : ℕ) (bytes later : List ℕ) (p : Payload) → IsAtCustom bytes true → custom_section.read bytes ≡ Ok (p, later)
    → IsPassed start next next bytes (Some (length bytes - length later))
custom_passed start next bytes later p at e =
    let read = read_alike start next bytes at ∙ e in
    let stays : next_order next p ≡ next = ap (next_order next) (custom_is bytes later p e).2 in
    subst (λ n. IsPassed start next n bytes (Some (length bytes - length later))) stays (passed start next bytes later p read)

-- nothing was read, and memory did not run out
refused_by : (start next : ℕ) (bytes : List ℕ) (error : ReadError) → Fails error ((section start next).read bytes) → ¬ (error ≡ errors.OutOfMemory)
    → IsPassed start next next bytes None
refused_by start next bytes errors.Malformed fails not = ((Bad, fails), refl)
refused_by start next bytes (errors.Unsupported w) fails not = ((Stops w, fails), refl)
refused_by start next bytes errors.TooLarge fails not = absurd fails
refused_by start next bytes errors.OutOfMemory fails not = absurd (not refl)

pub refused : (start next : ℕ) (bytes : List ℕ) (error : ReadError) (result : Result (Option ℕ) OutOfMemory)
    → Fails error ((section start next).read bytes) → IfOk result (λ o. (o ≡ None) × (¬ (error ≡ errors.OutOfMemory)))
    → IfOk result (λ o. IsPassed start next next bytes o)
refused start next bytes error (Ok o) fails is = rw is.0 (refused_by start next bytes error fails is.1)
refused start next bytes error (Err e) fails is = tt
