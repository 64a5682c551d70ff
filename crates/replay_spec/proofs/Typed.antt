-- An expression of a class has a value of that class.
use Rattle.std.proofs.lemmas.Grind.{common_steps}
use Rattle.std.proofs.Common.{rules, ◌≡◌, ℕ, suc, ◌%◌, ◌^◌, ◌<◌, List, [], ◌∷◌, ◌++◌, length, map, take, drop, Bool, refl, sym, ◌∙◌, ap, subst, Option, None, Some, arith, lit<}
use Rattle.std.specs.Prelude.{replicate, slice_get, unwrap_or, IsSomeAnd}
use Rattle.std.specs.List.{AllZip, list_all}
use Rattle.std.specs.Option.{option_and_then}
use Rattle.std.proofs.Math.Nat.{mod-lt}
use Rattle.std.proofs.lemmas.Bool.{le-leb}
use Rattle.std.proofs.lemmas.List.{length-append, length-map, length-replicate}
use Rattle.std.proofs.lemmas.Option.{none-some, same_Some}
use Rattle.wasm_spec.specs.declared.entities.GlobalType.{GlobalType}
use Rattle.wasm_spec.specs.declared.operators.Operator.{Operator}
use Rattle.wasm_spec.specs.declared.operators.Operator.TheVariants as op
use Rattle.wasm_spec.specs.declared.types.UnpackedIndex.{UnpackedIndex}
use Rattle.wasm_spec.specs.TypeData.{Field}
use Rattle.wasm_spec.specs.Module.{Expression}
use Rattle.rule_spec.specs.declared.classes.Class.{Class}
use Rattle.rule_spec.specs.declared.classes.Class.TheVariants as class
use Rattle.rule_spec.specs.Lists.{Lists}
use Rattle.rule_spec.specs.Typing.{Signature, field_class, has_default, struct_at, array_at, refers_to, where_true, global_signature, signature, HasClass}
use Rattle.rule_spec.proofs.Stepping.{Leads, leads_to}
use Rattle.replay_spec.specs.Values.{Value, I32, I64, Ref, I31, Term, Action, pushes, joined_i32, joined_i64, joins_i32, joins_i64, i31_of, converted, converts, allocates, action, acted, run, eval}
use Rattle.replay_spec.specs.Classes.{IsOfClass, HaveClasses, field_count}

abbrev AreOfClasses : List Value → List Class → Type 0
AreOfClasses vs cs = AllZip IsOfClass vs cs

-- ---- stacks

same-length : (vs : List Value) (cs : List Class) → AreOfClasses vs cs → length vs ≡ length cs
same-length [] [] h = refl
same-length [] (c ∷ cs) h = absurd h
same-length (v ∷ vs) [] h = absurd h
same-length (v ∷ vs) (c ∷ cs) h = ap suc (same-length vs cs h.1)

module _ (taken : List Class) where
  lower : (rest : List Class) (vs : List Value) → AreOfClasses vs (rest ++ taken) → AreOfClasses (take (length rest) vs) rest
  lower [] vs h = tt
  lower (c ∷ rest) [] h = absurd h
  lower (c ∷ rest) (v ∷ vs) h = (h.0, lower rest vs h.1)

  upper : (rest : List Class) (vs : List Value) → AreOfClasses vs (rest ++ taken) → AreOfClasses (drop (length rest) vs) taken
  upper [] vs h = h
  upper (c ∷ rest) [] h = absurd h
  upper (c ∷ rest) (v ∷ vs) h = upper rest vs h.1

one-more : (vs : List Value) (cs : List Class) (v : Value) (c : Class) → AreOfClasses vs cs → IsOfClass v c → AreOfClasses (vs ++ v ∷ []) (cs ++ c ∷ [])
one-more [] [] v c h is = (is, tt)
one-more [] (d ∷ cs) v c h is = absurd h
one-more (w ∷ vs) [] v c h is = absurd h
one-more (w ∷ vs) (d ∷ cs) v c h is = (h.0, one-more vs cs v c h.1 is)

-- ---- what an action does

-- it takes what the signature says, and makes a value of the class that it says
record Does (a : Action) (s : Signature) : Type 0 where
  count : a.takes ≡ length s.takes
  made : (vs : List Value) → AreOfClasses vs s.takes → (v : Value) × (a.makes vs ≡ Some v) × IsOfClass v s.pushes

-- so it leads from stacks of the classes before to one of the classes after
acts : (a : Action) (s : Signature) (rest : List Class) (vs : List Value) → Does a s → AreOfClasses vs (rest ++ s.takes)
    → (next : List Value) × (acted a vs ≡ Some next) × AreOfClasses next (rest ++ s.pushes ∷ [])
acts a s rest vs does h = grind (arith, (same-length vs (rest ++ s.takes) h), (length-append rest s.takes), (upper s.takes rest vs h), (le-leb a.takes (length vs)), (one-more (take (length rest) vs) rest), (lower s.takes rest vs h))

known : (a : Action) (t s : Signature) → Does a t → Some t ≡ Some s → Does a s
known a t s does e = subst (Does a) (same_Some t s e) does

pushes-does : (v : Value) (c : Class) → IsOfClass v c → Does (pushes v) (record { takes = []; pushes = c })
pushes-does v c is = record { count = refl; made = λ vs h. (v, refl, is) }

allocates-does : (operator : Operator) (n : ℕ) (cs : List Class) → n ≡ length cs → Does (allocates operator n) (record { takes = cs; pushes = class.Ref })
allocates-does operator n cs is = record { count = is; made = λ vs h. (_, refl, refl) }

-- ---- values of a class

i32-fits : (n : ℕ) → n % 2 ^ 32 < 2 ^ 32
i32-fits n = mod-lt n (lit< tt)

i64-fits : (n : ℕ) → n % 2 ^ 64 < 2 ^ 64
i64-fits n = mod-lt n (lit< tt)

i32-value : (v : Value) → IsOfClass v class.I32 → (n : ℕ) × (v ≡ I32 n)
i32-value v h1 = grind (arith, common_steps)

i64-value : (v : Value) → IsOfClass v class.I64 → (n : ℕ) × (v ≡ I64 n)
i64-value v h1 = grind (arith, common_steps)

ref-value : (v : Value) → IsOfClass v class.Ref → (term : Term) × (v ≡ Ref term)
ref-value v h1 = grind (arith, common_steps)

one-value : (vs : List Value) (c : Class) → AreOfClasses vs (c ∷ []) → (v : Value) × (vs ≡ v ∷ []) × IsOfClass v c
one-value [] c h = absurd h
one-value (v ∷ []) c h = (v, refl, h.0)
one-value (v ∷ w ∷ vs) c h = absurd h.1

two-values : (vs : List Value) (c d : Class) → AreOfClasses vs (c ∷ d ∷ []) → (a : Value) × (b : Value) × (vs ≡ a ∷ b ∷ []) × IsOfClass a c × IsOfClass b d
two-values [] c d h = absurd h
two-values (a ∷ []) c d h = absurd h.1
two-values (a ∷ b ∷ []) c d h = (a, b, refl, h.0, h.1.0)
two-values (a ∷ b ∷ v ∷ vs) c d h = absurd h.1.1

joins_i32-does : (f : ℕ → ℕ → ℕ) → Does (joins_i32 f) (record { takes = class.I32 ∷ class.I32 ∷ []; pushes = class.I32 })
joins_i32-does f = record {
  count = refl;
  made = λ vs h. let two = two-values vs class.I32 class.I32 h in
      let a = i32-value two.0 two.3 in
      let b = i32-value two.1 two.4 in
      (I32 (f a.0 b.0 % 2 ^ 32), ap (joined_i32 f) (two.2 ∙ ap (λ v. v ∷ two.1 ∷ []) a.1 ∙ ap (λ v. I32 a.0 ∷ v ∷ []) b.1), (refl, i32-fits (f a.0 b.0)));
}

joins_i64-does : (f : ℕ → ℕ → ℕ) → Does (joins_i64 f) (record { takes = class.I64 ∷ class.I64 ∷ []; pushes = class.I64 })
joins_i64-does f = record {
  count = refl;
  made = λ vs h. let two = two-values vs class.I64 class.I64 h in
      let a = i64-value two.0 two.3 in
      let b = i64-value two.1 two.4 in
      (I64 (f a.0 b.0 % 2 ^ 64), ap (joined_i64 f) (two.2 ∙ ap (λ v. v ∷ two.1 ∷ []) a.1 ∙ ap (λ v. I64 a.0 ∷ v ∷ []) b.1), (refl, i64-fits (f a.0 b.0)));
}

i31-does : Does (record { takes = 1; makes = i31_of }) (record { takes = class.I32 ∷ []; pushes = class.Ref })
i31-does = record {
  count = refl;
  made = λ vs h. let one = one-value vs class.I32 h in
      let n = i32-value one.0 one.2 in
      (Ref (I31 (n.0 % 2 ^ 31)), ap i31_of (one.1 ∙ ap (λ v. v ∷ []) n.1), refl);
}

converts-does : (f : Term → Term) → Does (converts f) (record { takes = class.Ref ∷ []; pushes = class.Ref })
converts-does f = record {
  count = refl;
  made = λ vs h. let one = one-value vs class.Ref h in
      let t = ref-value one.0 one.2 in
      (Ref (f t.0), ap (converted f) (one.1 ∙ ap (λ v. v ∷ []) t.1), refl);
}

if-true : (b : Bool) (o : Option Signature) (s : Signature) → where_true b o ≡ Some s → o ≡ Some s
if-true b o s h1 = grind (arith, none-some)

-- ---- expressions

module _ (l : Lists) (visible : List GlobalType) (globals : List Value) (have : HaveClasses globals visible) where
  global-does : (g : ℕ) (s : Signature) (o : Option GlobalType) → slice_get visible g ≡ o → option_and_then global_signature o ≡ Some s
      → Does (record { takes = 0; makes = λ taken. slice_get globals g }) s
  global-does g s o h1 h2 = grind (arith, none-some, known)

  struct-does : (t : ℕ) (s : Signature) (o : Option (List (Field UnpackedIndex))) → struct_at l t ≡ o
      → option_and_then (λ fields. refers_to (map field_class fields)) o ≡ Some s → Does (allocates (op.StructNew t) (field_count l t)) s
  struct-does t s None is e = absurd (none-some s e)
  struct-does t s (Some fs) is e =
      known _ _ s (allocates-does (op.StructNew t) (field_count l t) (map field_class fs)
      (ap (λ (o : Option (List (Field UnpackedIndex))). length (unwrap_or o [])) is ∙ sym (length-map fs field_class))) e

  default_struct-does : (t : ℕ) (s : Signature) (o : Option (List (Field UnpackedIndex)))
      → option_and_then (λ fields. where_true (list_all has_default fields) (refers_to [])) o ≡ Some s → Does (allocates (op.StructNewDefault t) 0) s
  default_struct-does t s None e = absurd (none-some s e)
  default_struct-does t s (Some fs) e = known _ _ s (allocates-does (op.StructNewDefault t) 0 [] refl) (if-true (list_all has_default fs) (refers_to []) s e)

  array-does : (t : ℕ) (s : Signature) (o : Option (Field UnpackedIndex))
      → option_and_then (λ field. refers_to (field_class field ∷ class.I32 ∷ [])) o ≡ Some s → Does (allocates (op.ArrayNew t) 2) s
  array-does t s None e = absurd (none-some s e)
  array-does t s (Some f) e = known _ _ s (allocates-does (op.ArrayNew t) 2 (field_class f ∷ class.I32 ∷ []) refl) e

  default_array-does : (t : ℕ) (s : Signature) (o : Option (Field UnpackedIndex))
      → option_and_then (λ field. where_true (has_default field) (refers_to (class.I32 ∷ []))) o ≡ Some s → Does (allocates (op.ArrayNewDefault t) 1) s
  default_array-does t s None e = absurd (none-some s e)
  default_array-does t s (Some f) e = search (rules, known, allocates-does, if-true)

  fixed_array-does : (t n : ℕ) (s : Signature) (o : Option (Field UnpackedIndex))
      → option_and_then (λ field. refers_to (replicate n (field_class field))) o ≡ Some s → Does (allocates (op.ArrayNewFixed t n) n) s
  fixed_array-does t n s None e = absurd (none-some s e)
  fixed_array-does t n s (Some f) e = search (rules, known, allocates-does, length-replicate)

  operator-does : (operator : Operator) (s : Signature) → signature l visible operator ≡ Some s → Does (action globals (field_count l) operator) s
  operator-does (op.GlobalGet g) s e = global-does g s (slice_get visible g) refl e
  operator-does (op.StructNew t) s e = struct-does t s (struct_at l t) refl e
  operator-does (op.StructNewDefault t) s e = default_struct-does t s (struct_at l t) e
  operator-does (op.ArrayNew t) s e = array-does t s (array_at l t) e
  operator-does (op.ArrayNewDefault t) s e = default_array-does t s (array_at l t) e
  operator-does (op.ArrayNewFixed t n) s e = fixed_array-does t n s (array_at l t) e
  -- each other pushes a value, joins two numbers, or makes a reference of one value
  operator-does operator s e = search (rules, known, pushes-does, i32-fits, i64-fits, joins_i32-does, joins_i64-does, i31-does, converts-does, if-true)

  leads : (e : Expression) (before after : List Class) (vs : List Value) → Leads l visible e before after → AreOfClasses vs before
      → (last : List Value) × (run (λ op. acted (action globals (field_count l) op)) e vs ≡ Some last) × AreOfClasses last after
  leads [] before after vs way h = (vs, refl, subst (AreOfClasses vs) way h)
  leads (op ∷ ops) before after vs way h =
      let step = way.1 in
      let here = acts (action globals (field_count l) op) step.signed step.rest vs (operator-does op step.signed step.is_signed) (subst (AreOfClasses vs) step.has_taken h) in
      let more = leads ops way.0 after here.0 way.2 (subst (AreOfClasses here.0) (sym step.has_pushed) here.2) in
      (more.0, ap (option_and_then (run (λ op. acted (action globals (field_count l) op)) ops)) here.1 ∙ more.1, more.2)

  pub value-of-class : (e : Expression) (c : Class) → HasClass l visible e c → IsSomeAnd (eval globals (field_count l) e) (λ v. IsOfClass v c)
  value-of-class e c h = grind (arith, (leads e [] (c ∷ []) [] (leads_to l visible e c h) tt), one-value)
