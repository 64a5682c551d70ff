-- Sections, as far as they are supported: of custom sections those that are none of interface
-- types.
use Rattle.std.proofs.Common.{◌≡◌, ℕ, List, [], ◌∷◌, ◌++◌, Option, Bool, true, false, refl, ap, subst, sym, ◌∙◌, append_assoc, inl, inr}
use Rattle.std.specs.Prelude.{◌⊎◌, ◌==◌}
use Rattle.wasm_spec.specs.declared.operators.What.{What}
use Rattle.wasm_spec.specs.declared.operators.What.TheVariants as what
use Rattle.wasm_spec.specs.Module.{Payload, Custom}
use Rattle.wasm_spec.specs.Parts as part
use Rattle.wasm_spec.specs.Parts.{Part, Joined, StopsLater}
use Rattle.wasm_spec.specs.Grammar.{name, interface_names, order_of}
use Rattle.wasm_spec.specs.Grammar as grammar
use Rattle.wasm_spec.specs.Interfaces.{IsNoInterface}
use Rattle.form_reader.specs.Agrees.{ok_is}
use Rattle.form_reader.specs.Rows.{all_bytes_as}
use Rattle.form_reader.proofs.Entries.{placed_sound}
use Rattle.form_reader.specs.SectionRows.{is_interface_name, interface_is, is_interface, custom_taken, section_by, section_of}

-- ---- they hold no custom section

placed_section_plain : (place next id : ℕ) (order : Option ℕ) (bytes : List ℕ) (p : Payload) → (grammar.placed_section place next id order).spells bytes p
    → IsNoInterface p
placed_section_plain place next id order bytes p s = (placed_sound place next id order bytes p s).1

-- ---- sections by what their custom ones are

-- what g spells or stops at, of these values and these kinds of stops, h does
record Into {A : Type 0} (P : A → Type 0) (W : What → Type 0) (g h : Part A) : Type 0 where
  spelled : (bytes : List ℕ) (x : A) → P x → g.spells bytes x → h.spells bytes x
  stopped : (bytes : List ℕ) (w : What) → W w → g.stops bytes w → h.stops bytes w

module _ {B : Type 0} (P : B → Type 0) (W : What → Type 0) where
  then_into : {A : Type 0} (f : Part A) (g h : A → Part B) → ((x : A) → Into P W (g x) (h x)) → Into P W (part.◌>>=◌ f g) (part.◌>>=◌ f h)
  then_into f g h i = record { spelled = spelled; stopped = stopped } where
    spelled : (bytes : List ℕ) (y : B) → P y → Joined f g bytes y → Joined f h bytes y
    spelled bytes y p s =
        let second = (i s.value).spelled s.back y p s.is_second in
        record { value = s.value; front = s.front; back = s.back; parts = s.parts; is_first = s.is_first; is_second = second }

    stopped : (bytes : List ℕ) (w : What) → W w → f.stops bytes w ⊎ StopsLater f g bytes w → f.stops bytes w ⊎ StopsLater f h bytes w
    stopped bytes w v (inl s) = inl s
    stopped bytes w v (inr s) =
        let second = (i s.value).stopped s.back w v s.stops_second in
        inr (record { value = s.value; front = s.front; back = s.back; parts = s.parts; is_first = s.is_first; stops_second = second })

  filled_into : (n : ℕ) (g h : Part B) → Into P W g h → Into P W (part.filled g n) (part.filled h n)
  filled_into n g h i = record {
    spelled = λ bytes y p s. (s.0, i.spelled bytes y p s.1);
    stopped = λ bytes w v s.
        let inside = i.stopped s.inside w v s.stops_inside in
        record { inside = s.inside; after = s.after; parts = s.parts; long = s.long; stops_inside = inside };
  }

  either_into : (test : Bool) (g h k : Part B) → Into P W g h → Into P W (part.choose test g k) (part.choose test h k)
  either_into true g h k i = i
  either_into false g h k i = record { spelled = λ bytes y p s. s; stopped = λ bytes w v s. s }

  first_into : (g h : ℕ → Part B) → ((b : ℕ) → Into P W (g b) (h b)) → Into P W (part.first_byte g) (part.first_byte h)
  first_into g h i = record { spelled = spelled; stopped = stopped } where
    spelled : (bytes : List ℕ) (y : B) → P y → part.FirstSpells g bytes y → part.FirstSpells h bytes y
    spelled [] y p s = absurd s
    spelled (b ∷ bytes) y p s = (i b).spelled bytes y p s

    stopped : (bytes : List ℕ) (w : What) → W w → part.FirstStops g bytes w → part.FirstStops h bytes w
    stopped [] w v s = absurd s
    stopped (b ∷ bytes) w v s = (i b).stopped bytes w v s

section_into : (P : Payload → Type 0) (W : What → Type 0) (g h : List ℕ → Part Payload) → ((n : List ℕ) → Into P W (g n) (h n)) → (place next : ℕ)
    → Into P W (section_by g place next) (section_by h place next)
section_into P W g h i place next = first_into P W _ _ (λ id. either_into P W (id == 0) _ _ _
    (then_into P W _ _ _ (λ size. filled_into P W size _ _ (then_into P W _ _ _ i))))

-- ---- sections that are supported

abbrev section_taken : ℕ → ℕ → Part Payload
section_taken place next = section_by custom_taken place next

to_grammar : (place next : ℕ) → Into (λ p. Unit {0}) (λ w. Unit {0}) (section_taken place next) (grammar.section place next)
to_grammar = section_into _ _ custom_taken grammar.custom_after (λ n. record { spelled = λ bytes p u s. s.0; stopped = λ bytes w u s. s })

from_grammar : (place next : ℕ) → Into IsNoInterface (λ w. Unit {0}) (grammar.section place next) (section_taken place next)
from_grammar = section_into _ _ grammar.custom_after custom_taken
    (λ n. record { spelled = λ bytes p none e. (e, let Q : Payload → Type 0 = IsNoInterface in subst Q e none); stopped = λ bytes w u s. s })

-- what is supported is spelled, and holds no interface types
pub taken_spells : (place next : ℕ) (bytes : List ℕ) (p : Payload) → (section_taken place next).spells bytes p
    → (grammar.section place next).spells bytes p × IsNoInterface p
taken_spells place next [] p s = absurd s
taken_spells place next (id ∷ bytes) p s = (
  (to_grammar place next).spelled (id ∷ bytes) p tt s,
  plain (id == 0) s,
) where
  plain : (test : Bool) → (part.choose test (part.sized (part.◌>>=◌ name custom_taken))
      (grammar.placed_section place next id (order_of id))).spells bytes p → IsNoInterface p
  plain true s = let last = s.is_second.1.is_second in subst IsNoInterface (sym last.0) last.1
  plain false s = placed_section_plain place next id (order_of id) bytes p s

pub spelled_is_taken : (place next : ℕ) (bytes : List ℕ) (p : Payload) → (grammar.section place next).spells bytes p → IsNoInterface p
    → (section_taken place next).spells bytes p
spelled_is_taken place next bytes p s none = (from_grammar place next).spelled bytes p none s

-- ---- where reading stops

pub taken_stops : (place next : ℕ) (bytes : List ℕ) (w : What) → (section_taken place next).stops bytes w → (grammar.section place next).stops bytes w
taken_stops place next bytes w s = (to_grammar place next).stopped bytes w tt s

pub stops_taken : (place next : ℕ) (bytes : List ℕ) (w : What) → (grammar.section place next).stops bytes w → (section_taken place next).stops bytes w
stops_taken place next bytes w s = (from_grammar place next).stopped bytes w tt s

-- a section of interface types is spelled, and reading stops in it
pub plain_or_stops : (place next : ℕ) (front : List ℕ) (p : Payload) → (grammar.section place next).spells front p
    → IsNoInterface p ⊎ ((¬ IsNoInterface p) × ((rest : List ℕ) → (grammar.section place next).stops (front ++ rest) what.InterfaceTypes))
plain_or_stops place next [] p s = absurd s
plain_or_stops place next (id ∷ front) p s = by_test (id == 0) s where
  by_name : (s : (part.sized grammar.custom_contents).spells front p) → (t : Bool) → is_interface_name s.is_second.1.value ≡ t
      → IsNoInterface p ⊎ ((¬ IsNoInterface p) × ((rest : List ℕ) → (part.sized grammar.custom_contents).stops (front ++ rest) what.InterfaceTypes))
  by_name s true t =
      let i = s.is_second.1 in
      let named = interface_is i.value t in
      inr (
        λ none. (let Q : Payload → Type 0 = IsNoInterface in subst Q i.is_second none) named,
        λ rest. inr (record {
          value = s.value;
          front = s.front;
          back = s.back ++ rest;
          parts = ap (λ (l : List ℕ). l ++ rest) s.parts ∙ append_assoc s.front s.back rest;
          is_first = s.is_first;
          stops_second = record {
            inside = s.back;
            after = rest;
            parts = refl;
            long = s.is_second.0;
            stops_inside = inr (record {
              value = i.value;
              front = i.front;
              back = i.back;
              parts = i.parts;
              is_first =
                  i.is_first;
              stops_second = (named, refl);
            });
          };
        }),
      )
  by_name s false t =
      let i = s.is_second.1 in
      inl (let Q : Payload → Type 0 = IsNoInterface in
      subst Q (sym i.is_second) (λ h. let both : true ≡ false = sym (is_interface i.value h) ∙ t in absurd cc))

  by_test : (test : Bool) → (part.choose test (part.sized grammar.custom_contents)
      (grammar.placed_section place next id (order_of id))).spells front p
      → IsNoInterface p ⊎ ((¬ IsNoInterface p) × ((rest : List ℕ)
      → (part.choose test (part.sized grammar.custom_contents) (grammar.placed_section place next id (order_of id))).stops
      (front ++ rest) what.InterfaceTypes))
  by_test true s = by_name s (is_interface_name s.is_second.1.value) refl
  by_test false s = inl (placed_section_plain place next id (order_of id) front p s)

-- ---- one section at most

-- custom sections of all names
abbrev any_custom : List ℕ → Part Payload
any_custom n = part.all_bytes_as (Custom n)

to_any : (place next : ℕ) → Into (λ p. Unit {0}) (λ w. ⊥) (grammar.section place next) (section_by any_custom place next)
to_any = section_into _ _ grammar.custom_after any_custom (λ n. record { spelled = λ bytes p u e. e; stopped = λ bytes w never s. absurd never })

-- what is spelled at the front of bytes is spelled there once
pub section_once : (place next : ℕ) (f g b c : List ℕ) (p q : Payload) → (grammar.section place next).spells f p
    → (grammar.section place next).spells g q → f ++ b ≡ g ++ c → (p ≡ q) × (b ≡ c)
section_once place next f g b c p q s t e =
    let any = section_of {g = any_custom} (λ n. all_bytes_as (Custom n)) place next in
    let one = any.agrees.again f p b ((to_any place next).spelled f p tt s) in
    let other = any.agrees.again g q c ((to_any place next).spelled g q tt t) in
    let same : (p, b) ≡ (q, c) = ok_is (p, b) (q, c) (sym one ∙ ap any.read e ∙ other) in
    (ap (λ (x : Payload × List ℕ). x.0) same, ap (λ (x : Payload × List ℕ). x.1) same)
