-- Where two spellings stop reading they are one, or one of them is a section of interface types,
-- behind which reading may go on.
use Rattle.std.proofs.Common.{◌≡◌, ◌∙◌, ℕ, ◌+◌, List, [], ◌∷◌, ◌++◌, length, get_or, drop, Err, refl, sym, ap, inl, inr, arith, append_assoc, length-append}
use Rattle.std.specs.Prelude.{◌⊎◌}
use Rattle.wasm_spec.specs.declared.operators.What.{What}
use Rattle.wasm_spec.specs.declared.operators.What.TheVariants as what
use Rattle.wasm_spec.specs.Module.{Module, Payload}
use Rattle.wasm_spec.specs.Parts as part
use Rattle.wasm_spec.specs.Grammar as grammar
use Rattle.wasm_spec.specs.Grammar.{SpellsSections, next_order, order_after_all, Stops as IsStopped}
use Rattle.wasm_spec.specs.Interfaces.{IsNoInterface}
use Rattle.form_reader.specs.Reading.{Stops, measured_at}
use Rattle.form_reader.specs.SectionRows.{custom_taken, section_by, section}
use Rattle.form_reader.specs.Agrees.{Agrees, err, ok_not_err}
use Rattle.form_reader.specs.MadeLaws.{measured_agrees}
use Rattle.form_reader.proofs.ContentLaws.{spelled_is_taken, stops_taken, plain_or_stops, section_once}

-- ---- one section

abbrev StopsAt : ℕ → ℕ → List ℕ → What → Type 0
StopsAt place next bytes w = (grammar.section place next).stops bytes w

abbrev SpellsAt : ℕ → ℕ → List ℕ → Payload → Type 0
SpellsAt place next bytes p = (grammar.section place next).spells bytes p

moved : (place place' next next' : ℕ) (bytes bytes' : List ℕ) (w : What) → place ≡ place' → next ≡ next' → bytes ≡ bytes'
    → StopsAt place next bytes w → StopsAt place' next' bytes' w
moved place place' next next' bytes bytes' w a b c s = coe 0 1 (t. StopsAt (a t) (b t) (c t) w) s

agrees : (place next : ℕ) → Agrees (measured_at (section place next).read) (part.measured (section_by custom_taken place next))
agrees place next = measured_agrees (section place next).agrees

same-stop : (v w : What) → err {A = (Payload × ℕ) × List ℕ} (Stops v) ≡ Err (Stops w) → v ≡ w
same-stop v w e = cc

one-section : (place next : ℕ) (bytes : List ℕ) (v w : What) → StopsAt place next bytes v → StopsAt place next bytes w → v ≡ w
one-section place next bytes v w s t = same-stop v w
    (sym ((agrees place next).stops_again bytes v (stops_taken place next bytes v s)) ∙ (agrees place next).stops_again bytes w (stops_taken place next bytes w t))

-- what is spelled and stops is a section of interface types
spelled-stops : (place next : ℕ) (front back : List ℕ) (p : Payload) (w : What) → SpellsAt place next front p → StopsAt place next (front ++ back) w
    → w ≡ what.InterfaceTypes
spelled-stops place next front back p w s t = by (plain_or_stops place next front p s) where
  by : IsNoInterface p ⊎ ((¬ IsNoInterface p) × ((rest : List ℕ) → (grammar.section place next).stops (front ++ rest) what.InterfaceTypes)) → w ≡ what.InterfaceTypes
  by (inl none) = absurd (ok_not_err ((p, length front), back) (Stops w)
      (sym ((agrees place next).again front (p, length front) back (spelled_is_taken place next front p s none, refl))
      ∙ (agrees place next).stops_again (front ++ back) w (stops_taken place next (front ++ back) w t)))
  by (inr stops) = one-section place next (front ++ back) w what.InterfaceTypes t (stops.1 back)

-- ---- sections before

abbrev pub AreOne : What → What → Type 0
AreOne v w = (v ≡ w) ⊎ (v ≡ what.InterfaceTypes) ⊎ (w ≡ what.InterfaceTypes)

nothing-before : (place n : ℕ) (front back : List ℕ) → front ≡ [] → n ≡ place + length front → (n ≡ place) × (front ++ back ≡ back)
nothing-before place n front back none is = (let long : length front ≡ 0 = ap length none in omega (arith, is, long), ap (λ (l : List ℕ). l ++ back) none)

twice : (before before' : Module) (place place' next next' n k : ℕ) (front back front' back' : List ℕ) (v w : What) → place ≡ place' → next ≡ next'
    → n ≡ place + length front → k ≡ place' + length front' → SpellsSections place next front before → SpellsSections place' next' front' before'
    → front ++ back ≡ front' ++ back' → StopsAt n (order_after_all next before) back v → StopsAt k (order_after_all next' before') back' w → AreOne v w
twice [] [] place place' next next' n k front back front' back' v w here later a b s t same x y =
    let e = nothing-before place n front back s a in
    let f = nothing-before place' k front' back' t b in
    inl (one-section place next back v w (moved n place next next back back v e.0 refl refl x)
    (moved k place next' next back' back w (f.0 ∙ sym here) (sym later) (sym f.1 ∙ sym same ∙ e.1) y))
twice [] (q ∷ qs) place place' next next' n k front back front' back' v w here later a b s (g, c, parts, is, after) same x y =
    let e = nothing-before place n front back s a in
    let all : back ≡ g ++ (c ++ back') = sym e.1 ∙ same ∙ ap (λ (l : List ℕ). l ++ back') parts ∙ append_assoc g c back' in
    inr (inl (spelled-stops place' next' g (c ++ back') q v is (moved n place' next next' back (g ++ (c ++ back')) v (e.0 ∙ here) later all x)))
twice (p ∷ ps) [] place place' next next' n k front back front' back' v w here later a b (f, d, parts, is, after) t same x y =
    let e = nothing-before place' k front' back' t b in
    let all : back' ≡ f ++ (d ++ back) = sym e.1 ∙ sym same ∙ ap (λ (l : List ℕ). l ++ back) parts ∙ append_assoc f d back in
    inr (inr (spelled-stops place next f (d ++ back) p w is (moved k place next' next back' (f ++ (d ++ back)) w (e.0 ∙ sym here) (sym later) all y)))
twice (p ∷ ps) (q ∷ qs) place place' next next' n k front back front' back' v w here later a b (f, d, parts, is, after) (g, c, parts', is', after') same x y =
    let all : f ++ (d ++ back) ≡ g ++ (c ++ back') =
    sym (append_assoc f d back) ∙ ap (λ (l : List ℕ). l ++ back) (sym parts) ∙ same ∙ ap (λ (l : List ℕ). l ++ back') parts' ∙ append_assoc g c back' in
    let other : SpellsAt place next g q = coe 0 1 (t. SpellsAt (sym here t) (sym later t) g q) is' in
    let once = section_once place next f g (d ++ back) (c ++ back') p q is other all in
    let long : length f ≡ length g =
    omega (arith, ap length all, length-append f (d ++ back), length-append g (c ++ back'), ap length once.1) in
    twice ps qs (place + length f) (place' + length g) (next_order next p) (next_order next' q) n k d back c back' v w
    (λ i. here i + long i) (λ i. next_order (later i) (once.0 i))
    (omega (arith, a, ap length parts, length-append f d)) (omega (arith, b, ap length parts', length-append g c)) after after' once.1 x y

-- ---- modules

pub one-stop : (bytes : List ℕ) (v w : What) → IsStopped bytes v → IsStopped bytes w → AreOne v w
one-stop bytes v w (inl a) (inl b) = inl (a.1 ∙ sym b.1)
one-stop bytes v w (inl a) (inr b) = absurd (let e = ap (λ (l : List ℕ). get_or l 6 0) (sym a.0.parts ∙ b.parts) in omega (arith, e))
one-stop bytes v w (inr a) (inl b) = absurd (let e = ap (λ (l : List ℕ). get_or l 6 0) (sym a.parts ∙ b.0.parts) in omega (arith, e))
one-stop bytes v w (inr a) (inr b) =
    twice a.before b.before 8 8 0 0 (8 + length a.front) (8 + length b.front) a.front a.back b.front b.back v w refl refl refl refl a.are_sections b.are_sections
    (ap (drop 8) (sym a.parts ∙ b.parts)) a.stops_next b.stops_next
