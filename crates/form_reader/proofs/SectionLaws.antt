-- Reading of sections up to the end, and of modules, agrees with the grammar.
use Rattle.std.proofs.Common.{◌≡◌, ℕ, zero, suc, ◌+◌, ◌≤◌, List, [], ◌∷◌, ◌++◌, length, drop, Result, Ok, Err, Bool, true, false, cond, refl, sym, ap, subst, ◌∙◌, append_assoc, arith, inl, inr}
use Rattle.std.specs.Prelude.{◌⊎◌, nat_eq}
use Rattle.std.specs.List.{starts_with}
use Rattle.std.proofs.lemmas.Bool.{and_parts, cases_Bool}
use Rattle.std.proofs.lemmas.Slice.Eq.{starts_is}
use Rattle.std.proofs.lemmas.Bool.Decides.{Decides-eqb}
use Rattle.std.proofs.lemmas.List.{length-append}
use Rattle.std.proofs.lemmas.List.Elements.{All-nil, All-cons, All-head, All-tail}
use Rattle.wasm_spec.specs.declared.operators.What.{What}
use Rattle.wasm_spec.specs.declared.operators.What.TheVariants as what
use Rattle.wasm_spec.specs.Module.{Payload, Module}
use Rattle.wasm_spec.specs.Parts as part
use Rattle.wasm_spec.specs.Grammar as grammar
use Rattle.wasm_spec.specs.Grammar.{SpellsSections, next_order, order_after_all, magic, header, Spells, Stops as IsStopped, IsComponent}
use Rattle.wasm_spec.specs.Interfaces.{IsNoInterface, HasNoInterfaceTypes}
use Rattle.form_reader.specs.Reading.{Fault, Bad, Stops, and_then, measured_at}
use Rattle.form_reader.specs.SectionRows.{custom_taken, section_by, section}
use Rattle.form_reader.specs.ReadingSections.{sections_at, is_component, module_at}
use Rattle.form_reader.specs.Agrees.{Agrees, ok, err, ok_is, ok_not_err, bad_not_stops, step_ok, step_err}
use Rattle.form_reader.specs.MadeLaws.{measured_agrees}
use Rattle.form_reader.proofs.ContentLaws.{taken_spells, spelled_is_taken, taken_stops, stops_taken, plain_or_stops, section_once}

-- ---- sections

-- a section with the number of its bytes
one_agrees : (place next : ℕ) → Agrees (measured_at (section place next).read) (part.measured (section_by custom_taken place next))
one_agrees place next = measured_agrees (section place next).agrees

-- the sections after one that was read, in at most k steps
abbrev later_at : ℕ → ℕ → ℕ → (Payload × ℕ) × List ℕ → Result Module Fault
later_at k place next p = and_then (sections_at k (place + p.0.1) (next_order next p.0.0) p.1) (λ ps. Ok (p.0.0 ∷ ps))

-- some sections, and then one that may come next and that stops
record StopFrom (place next : ℕ) (bytes : List ℕ) (w : What) : Type 0 where
  before : Module
  front : List ℕ
  back : List ℕ
  parts : bytes ≡ front ++ back
  are_sections : SpellsSections place next front before
  stops_next : (grammar.section (place + length front) (order_after_all next before)).stops back w

-- what is read is spelled so, and has no section of interface types
abbrev Found : ℕ → ℕ → List ℕ → Module → Type 0
Found place next bytes ps = SpellsSections place next bytes ps × HasNoInterfaceTypes ps

sections_found : (k place next : ℕ) (bytes : List ℕ) (ps : Module) → sections_at k place next bytes ≡ Ok ps → Found place next bytes ps
unfolding sections_at
sections_found zero place next [] ps e = subst (Found place next []) (ok_is [] ps e) (refl, All-nil IsNoInterface)
sections_found (suc k) place next [] ps e = subst (Found place next []) (ok_is [] ps e) (refl, All-nil IsNoInterface)
sections_found zero place next (b ∷ bytes) ps e = absurd cc
sections_found (suc k) place next (b ∷ bytes) ps e =
    let s = step_ok (measured_at (section place next).read (b ∷ bytes)) (later_at k place next) ps e in
    let p = s.0.0.0 in
    let t = step_ok (sections_at k (place + s.0.0.1) (next_order next p) s.0.1) (λ ps. Ok (p ∷ ps)) ps s.2 in
    let f = (one_agrees place next).found (b ∷ bytes) s.0.0 s.0.1 s.1 in
    let is = taken_spells place next f.0 p f.2.0 in
    let later = sections_found k (place + s.0.0.1) (next_order next p) s.0.1 t.0 t.1 in
    let are : SpellsSections (place + length f.0) (next_order next p) s.0.1 t.0 = let P : ℕ
    → Type 0 = λ n. SpellsSections (place + n) (next_order next p) s.0.1 t.0 in subst P f.2.1 later.0 in
    subst (Found place next (b ∷ bytes)) (ok_is (p ∷ t.0) ps t.2) ((f.0, s.0.1, f.1, is.0, are), All-cons IsNoInterface p t.0 is.1 later.1)

-- reading stops, in some spelling
abbrev pub Stopped : Result Module Fault → Type 0
Stopped r = (w : What) × (r ≡ Err (Stops w))

-- the module is read, or it has a section of interface types, where reading stops
abbrev pub ReadOrStopped : Module → Result Module Fault → Type 0
ReadOrStopped ps r = (r ≡ Ok ps) ⊎ ((¬ HasNoInterfaceTypes ps) × Stopped r)

-- a section that is none of interface types is read
read_plain : (place next : ℕ) (front rest : List ℕ) (p : Payload) → (grammar.section place next).spells front p → IsNoInterface p
    → measured_at (section place next).read (front ++ rest) ≡ Ok ((p, length front), rest)
read_plain place next front rest p is none = (one_agrees place next).again front (p, length front) rest
    (spelled_is_taken place next front p is none, refl)

-- in a section that stops reading stops
read_stops : (place next : ℕ) (bytes : List ℕ) (w : What) → (grammar.section place next).stops bytes w
    → measured_at (section place next).read bytes ≡ Err (Stops w)
read_stops place next bytes w s = (one_agrees place next).stops_again bytes w (stops_taken place next bytes w s)

sections_again : (ps : Module) (k place next : ℕ) (bytes : List ℕ) → SpellsSections place next bytes ps → length bytes ≤ k
    → ReadOrStopped ps (sections_at k place next bytes)
unfolding sections_at
sections_again [] zero place next bytes s l = inl (rw s refl)
sections_again [] (suc k) place next bytes s l = inl (rw s refl)
sections_again (p ∷ ps) k place next bytes ([], back, parts, is, later) l = absurd is
sections_again (p ∷ ps) zero place next bytes (c ∷ cs, back, parts, is, later) l =
    absurd (let m : length bytes ≡ suc (length (cs ++ back)) = rw parts refl in omega arith)
sections_again (p ∷ ps) (suc k) place next bytes (c ∷ cs, back, parts, is, later) l =
    let long : length bytes ≡ suc (length cs + length back) = rw parts (ap suc (length-append cs back)) in
    rw parts (first (plain_or_stops place next (c ∷ cs) p is)
    (sections_again ps k (place + length (c ∷ cs)) (next_order next p) back later (omega arith))) where
      rest : ReadOrStopped ps (sections_at k (place + length (c ∷ cs)) (next_order next p) back)
          → measured_at (section place next).read (c ∷ (cs ++ back)) ≡ Ok ((p, length (c ∷ cs)), back)
          → ReadOrStopped (p ∷ ps) (sections_at (suc k) place next (c ∷ (cs ++ back)))
      rest (inl e) one = inl (rw (one, e) refl)
      rest (inr (some, (w, e))) one = inr (λ none. some (All-tail IsNoInterface p ps none), (w, rw (one, e) refl))

      first : (IsNoInterface p ⊎ ((¬ IsNoInterface p)
          × ((rest : List ℕ) → (grammar.section place next).stops ((c ∷ cs) ++ rest) what.InterfaceTypes)))
          → ReadOrStopped ps (sections_at k (place + length (c ∷ cs)) (next_order next p) back)
          → ReadOrStopped (p ∷ ps) (sections_at (suc k) place next (c ∷ (cs ++ back)))
      first (inl none) i = rest i (read_plain place next (c ∷ cs) back p is none)
      first (inr stops) i = inr (
        λ none. stops.0 (All-head IsNoInterface p ps none),
        (what.InterfaceTypes, rw (read_stops place next (c ∷ (cs ++ back)) what.InterfaceTypes (stops.1 back)) refl),
      )

sections_stopped : (k place next : ℕ) (bytes : List ℕ) (w : What) → sections_at k place next bytes ≡ Err (Stops w) → StopFrom place next bytes w
unfolding sections_at
sections_stopped zero place next [] w e = absurd (ok_not_err [] (Stops w) e)
sections_stopped (suc k) place next [] w e = absurd (ok_not_err [] (Stops w) e)
sections_stopped zero place next (b ∷ bytes) w e = absurd (bad_not_stops w e)
sections_stopped (suc k) place next (b ∷ bytes) w e =
    here (λ i m l h. sections_stopped k i m l w h)
    (step_err (measured_at (section place next).read (b ∷ bytes)) (later_at k place next) (Stops w) e) where
      there : ((i m : ℕ) (l : List ℕ) → sections_at k i m l ≡ Err (Stops w) → StopFrom i m l w) → (p : (Payload × ℕ) × List ℕ)
          → measured_at (section place next).read (b ∷ bytes) ≡ Ok p
          → ((sections_at k (place + p.0.1) (next_order next p.0.0) p.1 ≡ Err (Stops w))
          ⊎ ((ps : Module) × (sections_at k (place + p.0.1) (next_order next p.0.0) p.1 ≡ Ok ps) × (ok (p.0.0 ∷ ps) ≡ Err (Stops w))))
          → StopFrom place next (b ∷ bytes) w
      there ih p h (inr (ps, g, never)) = absurd (ok_not_err (p.0.0 ∷ ps) (Stops w) never)
      there ih p h (inl g) =
          let f = (one_agrees place next).found (b ∷ bytes) p.0 p.1 h in
          let i : StopFrom (place + length f.0) (next_order next p.0.0) p.1 w = let P : ℕ
          → Type 0 = λ n. StopFrom (place + n) (next_order next p.0.0) p.1 w in
          subst P f.2.1 (ih (place + p.0.1) (next_order next p.0.0) p.1 g) in
          let there : (place + length f.0) + length i.front ≡ place + length (f.0 ++ i.front) = omega (arith, length-append f.0 i.front) in
          record {
            before = p.0.0 ∷ i.before;
            front = f.0 ++ i.front;
            back = i.back;
            parts = f.1 ∙ ap (λ (l : List ℕ). f.0 ++ l) i.parts ∙ sym (append_assoc f.0 i.front i.back);
            are_sections = (f.0, i.front, refl, (taken_spells place next f.0 p.0.0 f.2.0).0, i.are_sections);
            stops_next = let P : ℕ → Type 0 = λ n. (grammar.section n (order_after_all (next_order next p.0.0) i.before)).stops i.back w in
                subst P there i.stops_next;
          }

      here : ((i m : ℕ) (l : List ℕ) → sections_at k i m l ≡ Err (Stops w) → StopFrom i m l w)
          → ((measured_at (section place next).read (b ∷ bytes) ≡ Err (Stops w))
          ⊎ ((p : (Payload × ℕ) × List ℕ) × (measured_at (section place next).read (b ∷ bytes) ≡ Ok p)
          × (later_at k place next p ≡ Err (Stops w)))) → StopFrom place next (b ∷ bytes) w
      here ih (inl h) =
          let stops : (grammar.section (place + 0) next).stops (b ∷ bytes) w = let P : ℕ
          → Type 0 = λ n. (grammar.section n next).stops (b ∷ bytes) w in let same : place ≡ place + 0 = omega arith in
          subst P same (taken_stops place next (b ∷ bytes) w ((one_agrees place next).stopped (b ∷ bytes) w h)) in
          record { before = []; front = []; back = b ∷ bytes; parts = refl; are_sections = refl; stops_next = stops }
      here ih (inr (p, h, g)) = there ih p h (step_err (sections_at k (place + p.0.1) (next_order next p.0.0) p.1) (λ ps. Ok (p.0.0 ∷ ps))
          (Stops w) g)

-- reading stops there, or in a section of interface types before
sections_stop_again : (before : Module) (k place next : ℕ) (front back : List ℕ) (w : What) → SpellsSections place next front before
    → (grammar.section (place + length front) (order_after_all next before)).stops back w
    → length (front ++ back) ≤ k → Stopped (sections_at k place next (front ++ back))
unfolding sections_at
sections_stop_again [] k place next front [] w s t l = absurd t
sections_stop_again [] zero place next front (c ∷ back) w s t l =
    absurd (let long : length (front ++ c ∷ back) ≡ suc (length back) = rw s refl in omega arith)
sections_stop_again [] (suc k) place next front (c ∷ back) w s t l =
    let same : place + length front ≡ place = rw s (omega arith) in
    let stops : (grammar.section place next).stops (c ∷ back) w = let P : ℕ
    → Type 0 = λ n. (grammar.section n next).stops (c ∷ back) w in subst P same t in
    (w, rw (s, read_stops place next (c ∷ back) w stops) refl)
sections_stop_again (p ∷ ps) k place next front back w ([], b, parts, is, later) t l = absurd is
sections_stop_again (p ∷ ps) zero place next front back w (c ∷ f, b, parts, is, later) t l =
    absurd (let long : length (front ++ back) ≡ suc (length ((f ++ b) ++ back)) = rw parts refl in omega arith)
sections_stop_again (p ∷ ps) (suc k) place next front back w (c ∷ f, b, parts, is, later) t l =
    let all : front ++ back ≡ c ∷ (f ++ (b ++ back)) = rw parts (ap (λ (l : List ℕ). c ∷ l) (append_assoc f b back)) in
    let long : length (front ++ back) ≡ suc (length f + length (b ++ back)) = rw all (ap suc (length-append f (b ++ back))) in
    let there : place + length front ≡ (place + length (c ∷ f)) + length b = rw parts (omega (arith, length-append f b)) in
    let stops = let P : ℕ → Type 0 = λ n. (grammar.section n (order_after_all (next_order next p) ps)).stops back w in subst P there t in
    rw all (first (plain_or_stops place next (c ∷ f) p is)
    (sections_stop_again ps k (place + length (c ∷ f)) (next_order next p) b back w later stops (omega arith))) where
      rest : Stopped (sections_at k (place + length (c ∷ f)) (next_order next p) (b ++ back))
          → measured_at (section place next).read (c ∷ (f ++ (b ++ back))) ≡ Ok ((p, length (c ∷ f)), b ++ back)
          → Stopped (sections_at (suc k) place next (c ∷ (f ++ (b ++ back))))
      rest (v, e) one = (v, rw (one, e) refl)

      first : (IsNoInterface p ⊎ ((¬ IsNoInterface p) × ((rest : List ℕ) → (grammar.section place next).stops ((c ∷ f) ++ rest) what.InterfaceTypes)))
          → Stopped (sections_at k (place + length (c ∷ f)) (next_order next p) (b ++ back))
          → Stopped (sections_at (suc k) place next (c ∷ (f ++ (b ++ back))))
      first (inl none) i = rest i (read_plain place next (c ∷ f) (b ++ back) p is none)
      first (inr stops) i = (what.InterfaceTypes, rw (read_stops place next (c ∷ (f ++ (b ++ back))) what.InterfaceTypes (stops.1 (b ++ back))) refl)

-- ---- one module at most

sections_once : (ps qs : Module) (place next : ℕ) (bytes : List ℕ) → SpellsSections place next bytes ps → SpellsSections place next bytes qs → ps ≡ qs
sections_once [] [] place next bytes s t = refl
sections_once [] (q ∷ qs) place next bytes s ([], back, parts, is, later) = absurd is
sections_once [] (q ∷ qs) place next bytes s (c ∷ f, back, parts, is, later) = absurd (let both : [] ≡ c ∷ (f ++ back) = sym s ∙ parts in cc)
sections_once (p ∷ ps) [] place next bytes ([], back, parts, is, later) t = absurd is
sections_once (p ∷ ps) [] place next bytes (c ∷ f, back, parts, is, later) t = absurd (let both : [] ≡ c ∷ (f ++ back) = sym t ∙ parts in cc)
sections_once (p ∷ ps) (q ∷ qs) place next bytes (f, b, parts, is, later) (g, c, parts', is', later') =
    let once = section_once place next f g b c p q is is' (sym parts ∙ parts') in
    let long : length g ≡ length f = omega (arith, ap length (sym parts ∙ parts'), length-append f b, length-append g c, ap length once.1) in
    let after : SpellsSections (place + length f) (next_order next p) b qs =
    let P : ℕ → Payload → List ℕ → Type 0 = λ n r l. SpellsSections (place + n) (next_order next r) l qs in
    let one = let Q : ℕ → Type 0 = λ n. P n q c in subst Q long later' in
    let two = let Q : Payload → Type 0 = λ r. P (length f) r c in subst Q (sym once.0) one in
    let Q : List ℕ → Type 0 = λ l. P (length f) p l in subst Q (sym once.1) two in
    ap (λ (rs : Module). p ∷ rs) (sections_once ps qs (place + length f) (next_order next p) b later after) ∙ ap (λ (r : Payload). r ∷ qs) once.0

-- ---- modules

header_is : (bytes : List ℕ) → starts_with nat_eq bytes header ≡ true → bytes ≡ header ++ drop 8 bytes
header_is bytes t = (starts_is Decides-eqb bytes header (starts_with nat_eq bytes header) refl).0 t

component_is : (bytes : List ℕ) → is_component bytes ≡ true → IsComponent bytes
component_is bytes t =
    let both = and_parts _ _ t in
    let first : bytes ≡ magic ++ drop 4 bytes = (starts_is Decides-eqb bytes magic (starts_with nat_eq bytes magic) refl).0 both.0 in
    let second : drop 6 bytes ≡ 0x01 ∷ 0x00 ∷ drop 2 (drop 6 bytes) =
    (starts_is Decides-eqb (drop 6 bytes) (0x01 ∷ 0x00 ∷ []) (starts_with nat_eq (drop 6 bytes) (0x01 ∷ 0x00 ∷ [])) refl).0 both.1 in
    version (drop 4 bytes) (drop 2 (drop 6 bytes)) first (sym (ap (drop 6) first) ∙ second) where
      version : (body rest : List ℕ) → bytes ≡ magic ++ body → drop 2 body ≡ 0x01 ∷ 0x00 ∷ rest → IsComponent bytes
      version [] rest e f = absurd cc
      version (v ∷ []) rest e f = absurd cc
      version (v ∷ u ∷ body) rest e f = record { version = v; revision = u; rest = rest; parts = e ∙ ap (λ (l : List ℕ). magic ++ v ∷ u ∷ l) f }

no_module : (v u : ℕ) (rest : List ℕ) → starts_with nat_eq (magic ++ v ∷ u ∷ 0x01 ∷ 0x00 ∷ rest) header ≡ false
no_module v u rest = elim (cases_Bool (starts_with nat_eq (magic ++ v ∷ u ∷ 0x01 ∷ 0x00 ∷ rest) header)) [
  | inl t ↦ absurd (let e = header_is (magic ++ v ∷ u ∷ 0x01 ∷ 0x00 ∷ rest) t in cc)
  | inr f ↦ f
]

-- the result of reading a module, where the header is that of no module
component : Bool → Result Module Fault
component t = cond t (Err (Stops what.Component)) (Err Bad)

-- what is read is spelled so, and has no section of interface types
pub module_found : (bytes : List ℕ) (m : Module) → module_at bytes ≡ Ok m → Spells bytes m × HasNoInterfaceTypes m
unfolding module_at component
module_found bytes m e = by_test (starts_with nat_eq bytes header) refl e where
  no_component : (t : Bool) → component t ≡ Ok m → ⊥
  no_component true e = absurd cc
  no_component false e = absurd cc

  by_test : (t : Bool) → starts_with nat_eq bytes header ≡ t
      → cond t (sections_at (length (drop 8 bytes)) 8 0 (drop 8 bytes)) (component (is_component bytes)) ≡ Ok m
      → Spells bytes m × HasNoInterfaceTypes m
  by_test true t e =
      let f = sections_found (length (drop 8 bytes)) 8 0 (drop 8 bytes) m e in
      (record { body = drop 8 bytes; parts = header_is bytes t; are_sections = f.0 }, f.1)
  by_test false t e = absurd (no_component (is_component bytes) e)

-- what is spelled is read, or it has a section of interface types, where reading stops
pub module_again : (bytes : List ℕ) (m : Module) → Spells bytes m → ReadOrStopped m (module_at bytes)
unfolding module_at
module_again bytes m s = rw s.parts (sections_again m (length s.body) 8 0 s.body s.are_sections (omega arith))

pub module_stopped : (bytes : List ℕ) (w : What) → module_at bytes ≡ Err (Stops w) → IsStopped bytes w
unfolding module_at component
module_stopped bytes w e = by_test (starts_with nat_eq bytes header) refl e where
  what_is : (v : What) → err {A = Module} (Stops v) ≡ Err (Stops w) → w ≡ v
  what_is v e = cc

  by_component : (t : Bool) → is_component bytes ≡ t → component t ≡ Err (Stops w) → IsStopped bytes w
  by_component true t e = inl (component_is bytes t, what_is what.Component e)
  by_component false t e = absurd (bad_not_stops w e)

  by_test : (t : Bool) → starts_with nat_eq bytes header ≡ t
      → cond t (sections_at (length (drop 8 bytes)) 8 0 (drop 8 bytes)) (component (is_component bytes)) ≡ Err (Stops w) → IsStopped bytes w
  by_test true t e =
      let s = sections_stopped (length (drop 8 bytes)) 8 0 (drop 8 bytes) w e in
      inr (record {
        before = s.before;
        front = s.front;
        back = s.back;
        parts = header_is bytes t
            ∙ ap (λ (l : List ℕ). header ++ l) s.parts;
        are_sections = s.are_sections;
        stops_next = s.stops_next;
      })
  by_test false t e = by_component (is_component bytes) refl e

-- where the grammar stops, reading stops
pub module_stops_again : (bytes : List ℕ) (w : What) → IsStopped bytes w → Stopped (module_at bytes)
unfolding module_at
module_stops_again bytes w (inl (c, e)) = (what.Component, rw (c.parts, no_module c.version c.revision c.rest) refl)
module_stops_again bytes w (inr s) = rw s.parts (sections_stop_again s.before
    (length (s.front ++ s.back)) 8 0 s.front s.back w s.are_sections s.stops_next (omega arith))

pub module_once : (bytes : List ℕ) (m n : Module) → Spells bytes m → Spells bytes n → m ≡ n
module_once bytes m n s t =
    let same : s.body ≡ t.body = after_header s.body t.body (sym s.parts ∙ t.parts) in
    sections_once m n 8 0 s.body s.are_sections (let P : List ℕ → Type 0 = λ l. SpellsSections 8 0 l n in subst P (sym same) t.are_sections) where
      after_header : (a b : List ℕ) → header ++ a ≡ header ++ b → a ≡ b
      after_header a b e = ap (drop 8) e
