-- Values that are popped from a stack.
use Rattle.std.proofs.Common.{◌≡◌, map, ℕ, ◌+◌, ◌<◌, Bool, true, false, List, [], ◌∷◌, ◌++◌, length, take, drop, get_or, Option, None, Some, refl, sym, ap, ◌∙◌, append_assoc, arith}
use Rattle.std.specs.Option.{option_and_then}
use Rattle.std.proofs.lemmas.List.{append-nil, append_cancel_right, drop_more, take-append-drop, length-map, get_or-map}
use Rattle.wasm_spec.specs.declared.types.FieldType.{FieldType}
use Rattle.wasm_spec.specs.declared.types.StorageType.TheVariants.{I8 as Packed}
use Rattle.wasm_spec.specs.TypeData.{field_of}
use Rattle.rule_spec.specs.declared.classes.Class.{Class}
use Rattle.rule_spec.specs.Typing.{Signature, field_class, gives}
use Rattle.form_rules.specs.Stack.{Popped, Taken}

-- values that are popped below others
pub below : (xs ys old mid new : List Class) → old ≡ mid ++ ys → mid ≡ new ++ xs → old ≡ new ++ (xs ++ ys)
below xs ys old mid new first second = first ∙ ap (λ (l : List Class). l ++ ys) second ∙ append_assoc new xs ys

-- where the upper values are not on top, neither are all
pub upper_fails : (xs ys old : List Class) → ((rest : List Class) → old ≡ rest ++ ys → ⊥) → (rest : List Class) → old ≡ rest ++ (xs ++ ys) → ⊥
upper_fails xs ys old fails rest is = fails (rest ++ xs) (is ∙ sym (append_assoc rest xs ys))

-- where the lower values are not below the upper ones, not all are on top
pub lower_fails : (xs ys old mid : List Class) → old ≡ mid ++ ys → ((rest : List Class) → mid ≡ rest ++ xs → ⊥) → (rest : List Class) → old ≡ rest ++ (xs ++ ys) → ⊥
lower_fails xs ys old mid is fails rest other =
    fails rest (append_cancel_right mid (rest ++ xs) ys (sym is ∙ other ∙ sym (append_assoc rest xs ys)))

-- ---- from the last value to the first

pub values_more : (cs old stack new : List Class) (i : ℕ) (d : Class) → i < length cs → old ≡ stack ++ drop (i + 1) cs → stack ≡ new ++ get_or cs i d ∷ []
    → old ≡ new ++ drop i cs
values_more cs old stack new i d lt is popped =
    below (get_or cs i d ∷ []) (drop (i + 1) cs) old stack new is popped ∙ ap (λ (l : List Class). new ++ l) (sym (drop_more cs i d lt))

pub values_fail : (cs old stack : List Class) (i : ℕ) (d : Class) → i < length cs → old ≡ stack ++ drop (i + 1) cs
    → ((rest : List Class) → stack ≡ rest ++ get_or cs i d ∷ [] → ⊥) → (rest : List Class) → old ≡ rest ++ cs → ⊥
values_fail cs old stack i d lt is fails rest other =
    let x = get_or cs i d in
    let whole : cs ≡ take i cs ++ (x ∷ drop (i + 1) cs) = sym (take-append-drop i cs) ∙ ap (λ (l : List Class). take i cs ++ l) (drop_more cs i d lt) in
    lower_fails (x ∷ []) (drop (i + 1) cs) old stack is fails (rest ++ take i cs)
    (other ∙ ap (λ (l : List Class). rest ++ l) whole ∙ sym (append_assoc rest (take i cs) (x ∷ drop (i + 1) cs)))

-- ---- outcomes

pub Popped-true : (xs old new : List Class) (b : Bool) → b ≡ true → Popped xs old new b → old ≡ new ++ xs
Popped-true xs old new true is popped = popped
Popped-true xs old new false is popped = absurd (cc)

pub Popped-false : (xs old new : List Class) (b : Bool) → b ≡ false → Popped xs old new b → (rest : List Class) → old ≡ rest ++ xs → ⊥
Popped-false xs old new true is popped = absurd (cc)
Popped-false xs old new false is popped = popped

-- nothing is popped where there is no signature
pub takes_unsigned : (s : Option Signature) (old new : List Class) → s ≡ None → Taken s old new None
takes_unsigned s old new is = λ other also rest popped. let two : Some other ≡ None = sym also ∙ is in absurd (cc)

-- what an index past the fields reads
abbrev pub no_field : FieldType
no_field = record { element_type = Packed; mutable = false }

pub field_at : (fields : List FieldType) (i : ℕ) → i < length fields
    → get_or (map field_class (map field_of fields)) i (field_class (field_of no_field)) ≡ field_class (field_of (get_or fields i no_field))
field_at fields i lt =
    get_or-map field_class (map field_of fields) i (field_of no_field) (field_class (field_of no_field)) (omega (arith, length-map fields field_of))
    ∙ ap field_class (get_or-map field_of fields i no_field (field_of no_field) lt)

pub fields_lt : (fields : List FieldType) (i : ℕ) → i < length fields → i < length (map field_class (map field_of fields))
fields_lt fields i lt = omega (arith, length-map fields field_of, length-map (map field_of fields) field_class)

-- the upper values are popped, and then the lower ones or not
pub Popped-then : (xs ys old mid new : List Class) (b : Bool) → old ≡ mid ++ ys → Popped xs mid new b → Popped (xs ++ ys) old new b
Popped-then xs ys old mid new true is popped = below xs ys old mid new is popped
Popped-then xs ys old mid new false is popped = lower_fails xs ys old mid is popped

-- the upper values are missing
pub Popped-upper : (xs ys old new : List Class) (b : Bool) → b ≡ false → Popped ys old new b → Popped (xs ++ ys) old new b
Popped-upper xs ys old new true is popped = absurd (cc)
Popped-upper xs ys old new false is popped = upper_fails xs ys old popped

-- an operator that takes nothing
pub takes_nothing : (pushed : Option Class) (s : Option Signature) (stack : List Class) → option_and_then gives pushed ≡ s → Taken s stack stack pushed
takes_nothing None s stack is = takes_unsigned s stack stack (sym is)
takes_nothing (Some c) s stack is = (record { takes = []; pushes = c }, sym is, sym (append-nil stack), refl)
