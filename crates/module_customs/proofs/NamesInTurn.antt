-- The names of sections, one after another.
use Rattle.std.proofs.Common.{◌≡◌, ℕ, ◌+◌, ◌<◌, ◌≤◌, List, [], ◌∷◌, ◌++◌, length, Bool, Option, Some, None, Result, Ok, Err, refl, sym, ap, subst, ◌∙◌, append_assoc, arith}
use Rattle.std.specs.Prelude.{codes, OnOk}
use Rattle.std.specs.Option.{option_map, option_or}
use Rattle.std.specs.List.{flat_map, filter_map}
use Rattle.std.proofs.lemmas.Grind.{flat_map-append}
use Rattle.std.proofs.lemmas.List.{append-nil, length-append}
use Rattle.std.proofs.lemmas.List.Elements.{filter_map-append}
use Rattle.wasm_spec.specs.Module.{Import, imports_of_section, function_types_of_section, function_import}
use Rattle.wasm_spec.specs.Module as plain
use Rattle.custom_sections.specs.NameLists.{NameLists, no_names, joined}
use Rattle.init_plan.specs.declared.debug_info.NameSection.{NameSection}
use Rattle.module_customs.specs.Names.{functions_among, one_if, Text, contents_of, names_in, names_below, names_after, names_behind, KeepsNames}

-- ---- names, and later ones

or-none : {X : Type 0} (o : Option X) → option_or o None ≡ o
or-none None = refl
or-none (Some x) = refl

or-assoc : {X : Type 0} (a b c : Option X) → option_or c (option_or b a) ≡ option_or (option_or c b) a
or-assoc a b None = refl
or-assoc a b (Some x) = refl

joined-none : (names : NameLists) → joined names no_names ≡ names
joined-none names = λ i. record {
  module_name = names.module_name;
  functions = append-nil names.functions i;
  locals = append-nil names.locals i;
}

none-joined : (names : NameLists) → joined no_names names ≡ names
none-joined names = λ i. record { module_name = or-none names.module_name i; functions = names.functions; locals = names.locals }

joined-assoc : (a b c : NameLists) → joined a (joined b c) ≡ joined (joined a b) c
joined-assoc a b c = λ i. record {
  module_name = sym (or-assoc a.module_name b.module_name c.module_name) i;
  functions = sym (append_assoc a.functions b.functions c.functions) i;
  locals = sym (append_assoc a.locals b.locals c.locals) i;
}

pub after-push : (locals : Bool) (before ps : List plain.Payload) (p : plain.Payload)
    → names_after locals before (ps ++ p ∷ []) ≡ joined (names_after locals before ps) (names_behind locals (before ++ ps) p)
after-push locals before [] p =
    joined-none (names_behind locals before p) ∙ ap (λ (qs : List plain.Payload). names_behind locals qs p) (sym (append-nil before))
    ∙ sym (none-joined (names_behind locals (before ++ []) p))
after-push locals before (q ∷ ps) p =
    let first = names_behind locals before q in
    let rest = names_after locals (before ++ q ∷ []) ps in
    ap (joined first) (after-push locals (before ++ q ∷ []) ps p)
    ∙ ap (λ (qs : List plain.Payload). joined first (joined rest (names_behind locals qs p))) (append_assoc before (q ∷ []) ps)
    ∙ joined-assoc first rest (names_behind locals (before ++ q ∷ ps) p)

-- ---- functions that are declared

functions-append : (ps qs : List plain.Payload)
    → length (plain.functions (ps ++ qs)) ≡ length (plain.functions ps) + length (plain.functions qs)
functions-append ps qs =
    let kind : Import → Option ℕ = λ i. function_import i.type in
    let imports : filter_map kind (plain.imports (ps ++ qs)) ≡ filter_map kind (plain.imports ps) ++ filter_map kind (plain.imports qs) =
    ap (filter_map kind) (flat_map-append imports_of_section ps qs) ∙ filter_map-append kind (plain.imports ps) (plain.imports qs) in
    let types = flat_map-append function_types_of_section ps qs in
    omega (
      arith,
      length-append (filter_map kind (plain.imports (ps ++ qs))) (flat_map function_types_of_section (ps ++ qs)),
      length-append (filter_map kind (plain.imports ps)) (flat_map function_types_of_section ps),
      length-append (filter_map kind (plain.imports qs)) (flat_map function_types_of_section qs),
      ap length imports,
      ap length types,
      length-append (filter_map kind (plain.imports ps)) (filter_map kind (plain.imports qs)),
      length-append (flat_map function_types_of_section ps) (flat_map function_types_of_section qs),
    )

pub functions-push : (ps : List plain.Payload) (p : plain.Payload) → length (plain.functions (ps ++ p ∷ []))
    ≡ length (plain.functions ps) + (functions_among (imports_of_section p) + length (function_types_of_section p))
functions-push ps p =
    let kind : Import → Option ℕ = λ i. function_import i.type in
    omega (
      arith,
      functions-append ps (p ∷ []),
      length-append (filter_map kind (plain.imports (p ∷ []))) (flat_map function_types_of_section (p ∷ [])),
      ap (λ (is : List Import). length (filter_map kind is)) (append-nil (imports_of_section p)),
      ap length (append-nil (function_types_of_section p)),
    )

-- ---- one section more

pub declared-more : (before : List plain.Payload) (p : plain.Payload) (declared more : ℕ) → declared ≡ length (plain.functions before)
    → more ≡ functions_among (imports_of_section p) + length (function_types_of_section p)
    → declared + more ≡ length (plain.functions (before ++ p ∷ []))
declared-more before p declared more so_far is = omega (arith, so_far, is, functions-push before p)

pub next-names : (before : List plain.Payload) (p : plain.Payload) (locals : Bool) (declared : ℕ) → declared ≡ length (plain.functions before)
    → (kept : NameSection)
    → KeepsNames (joined (names_after locals [] before) (names_below declared (names_in locals (contents_of (codes "name") p)))) kept
    → KeepsNames (names_after locals [] (before ++ p ∷ [])) kept
next-names before p locals declared so_far kept keeps =
    let now = names_after locals [] before in
    let whole : names_after locals [] (before ++ p ∷ []) ≡ joined now (names_below declared (names_in locals (contents_of (codes "name") p))) =
    after-push locals [] before p ∙ ap (λ n. joined now (names_below n (names_in locals (contents_of (codes "name") p)))) (sym so_far) in
    subst (λ (n : NameLists). KeepsNames n kept) (sym whole) keeps

pub declared-few : (before left all : List plain.Payload) (bound : ℕ) → before ++ left ≡ all → length (plain.functions all) < bound
    → length (plain.functions before) < bound
declared-few before left all bound whole few =
    omega (arith, few, ap (λ (ps : List plain.Payload). length (plain.functions ps)) whole, functions-append before left)

-- ---- the names of a section

pub on-ok : {T E A B : Type 0} (r : Result T E) → OnOk r A → (A → B) → OnOk r B
on-ok (Ok x) a f = f a
on-ok (Err e) a f = tt

abbrev now : Text → List ℕ
now text = text.now

pub named-more : (new : Option Text) (name : Text) (before : Option (List ℕ)) → new ≡ Some name
    → Some name.now ≡ option_or (option_map now new) before
named-more new name before is = sym (ap (λ o. option_or (option_map now o) before) is)

-- without a name, the earlier one remains
pub named-same : (new : Option Text) (before : Option (List ℕ)) (kept : Option Text) → ((name : Text) → new ≡ Some name → ⊥)
    → option_map now kept ≡ before → option_map now kept ≡ option_or (option_map now new) before
named-same None before kept none had = had
named-same (Some name) before kept none had = absurd (none name refl)

pub one_if-le : {A : Type 0} (o : Option A) → one_if o ≤ 1
one_if-le None = omega arith
one_if-le (Some x) = omega arith
