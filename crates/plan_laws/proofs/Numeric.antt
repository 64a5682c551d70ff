-- The offset of a data segment has no null reference: what is on the stack once a reference is
-- there keeps one.
use Rattle.std.proofs.Common.{Bool, true, false, List, [], ◌∷◌, ◌++◌, Option, None, Some, inl, inr, sym, subst}
use Rattle.std.specs.Prelude.{slice_get, ◌⊎◌, if◌then◌else◌}
use Rattle.std.specs.List.{All}
use Rattle.std.specs.Option.{option_and_then}
use Rattle.std.proofs.lemmas.List.Elements.{All-nil, All-cons}
use Rattle.wasm_spec.specs.declared.entities.GlobalType.{GlobalType}
use Rattle.wasm_spec.specs.declared.operators.Operator.{Operator}
use Rattle.wasm_spec.specs.declared.operators.Operator.TheVariants as op
use Rattle.wasm_spec.specs.Module.{Expression}
use Rattle.wasm_spec.specs.TypeData.{value_of}
use Rattle.rule_spec.specs.declared.classes.Class.{Class}
use Rattle.rule_spec.specs.declared.classes.Class.TheVariants as class
use Rattle.rule_spec.specs.Lists.{Lists}
use Rattle.rule_spec.specs.Expressions.{address_class}
use Rattle.rule_spec.specs.Typing.{Signature, class_of, gives, refers_to, where_true, global_signature, signature, HasClass, struct_at, array_at}
use Rattle.rule_spec.proofs.Stepping.{Step, Leads, leads_to}

-- a reference stands on the stack
abbrev HasRef : List Class → Type 0
HasRef [] = ⊥
HasRef (class.Ref ∷ cs) = Unit {0}
HasRef (c ∷ cs) = HasRef cs

has-front : (cs ds : List Class) → HasRef cs → HasRef (cs ++ ds)
has-front [] ds h = absurd h
has-front (class.Ref ∷ cs) ds h = tt
has-front (class.I32 ∷ cs) ds h = has-front cs ds h
has-front (class.I64 ∷ cs) ds h = has-front cs ds h
has-front (class.F32 ∷ cs) ds h = has-front cs ds h
has-front (class.F64 ∷ cs) ds h = has-front cs ds h
has-front (class.V128 ∷ cs) ds h = has-front cs ds h

has-back : (cs ds : List Class) → HasRef ds → HasRef (cs ++ ds)
has-back [] ds h = h
has-back (class.Ref ∷ cs) ds h = tt
has-back (class.I32 ∷ cs) ds h = has-back cs ds h
has-back (class.I64 ∷ cs) ds h = has-back cs ds h
has-back (class.F32 ∷ cs) ds h = has-back cs ds h
has-back (class.F64 ∷ cs) ds h = has-back cs ds h
has-back (class.V128 ∷ cs) ds h = has-back cs ds h

has-either : (cs ds : List Class) → HasRef (cs ++ ds) → HasRef cs ⊎ HasRef ds
has-either [] ds h = inr h
has-either (class.Ref ∷ cs) ds h = inl tt
has-either (class.I32 ∷ cs) ds h = has-either cs ds h
has-either (class.I64 ∷ cs) ds h = has-either cs ds h
has-either (class.F32 ∷ cs) ds h = has-either cs ds h
has-either (class.F64 ∷ cs) ds h = has-either cs ds h
has-either (class.V128 ∷ cs) ds h = has-either cs ds h

-- the operator is no null reference
abbrev pub IsNoNull : Operator → Type 0
IsNoNull (op.RefNull heap) = ⊥
IsNoNull o = Unit {0}

-- ---- signatures

-- a reference is pushed
abbrev Pushes : Option Signature → Type 0
Pushes None = Unit {0}
Pushes (Some s) = HasRef (s.pushes ∷ [])

-- where a reference is taken, a reference is pushed
abbrev Keeps : Option Signature → Type 0
Keeps None = Unit {0}
Keeps (Some s) = HasRef s.takes → HasRef (s.pushes ∷ [])

keeps-then : {A : Type 0} (f : A → Option Signature) → ((x : A) → Keeps (f x)) → (o : Option A) → Keeps (option_and_then f o)
keeps-then f each None = tt
keeps-then f each (Some x) = each x

keeps-where : (b : Bool) (s : Option Signature) → Keeps s → Keeps (where_true b s)
keeps-where true s k = k
keeps-where false s k = tt

keeps-gives : (b : Bool) (c : Class) → Keeps (if b then None else gives c)
keeps-gives true c = tt
keeps-gives false c = λ h. absurd h

keeps-global : (t : GlobalType) → Keeps (global_signature t)
keeps-global t = keeps-gives t.mutable (class_of (value_of t.content_type))

module _ (l : Lists) (visible : List GlobalType) where
  keeps : (o : Operator) → Keeps (signature l visible o)
  keeps (op.I32Const value) = λ h. absurd h
  keeps (op.I64Const value) = λ h. absurd h
  keeps (op.F32Const bits) = λ h. absurd h
  keeps (op.F64Const bits) = λ h. absurd h
  keeps (op.V128Const value) = λ h. absurd h
  keeps (op.GlobalGet g) = keeps-then global_signature keeps-global (slice_get visible g)
  keeps op.RefI31 = λ h. tt
  keeps (op.RefNull heap) = λ h. tt
  keeps (op.RefFunc f) = keeps-where _ (refers_to []) (λ h. tt)
  keeps op.I32Add = λ h. absurd h
  keeps op.I32Sub = λ h. absurd h
  keeps op.I32Mul = λ h. absurd h
  keeps op.I64Add = λ h. absurd h
  keeps op.I64Sub = λ h. absurd h
  keeps op.I64Mul = λ h. absurd h
  keeps (op.StructNew t) = keeps-then _ (λ fields h. tt) (struct_at l t)
  keeps (op.StructNewDefault t) = keeps-then _ (λ fields. keeps-where _ (refers_to []) (λ h. tt)) (struct_at l t)
  keeps (op.ArrayNew t) = keeps-then _ (λ field h. tt) (array_at l t)
  keeps (op.ArrayNewDefault t) = keeps-then _ (λ field. keeps-where _ (refers_to (class.I32 ∷ [])) (λ h. tt)) (array_at l t)
  keeps (op.ArrayNewFixed t n) = keeps-then _ (λ field h. tt) (array_at l t)
  keeps op.ExternConvertAny = λ h. tt
  keeps op.AnyConvertExtern = λ h. tt

  -- ---- steps

  step-keeps : (o : Operator) (before after : List Class) → Step l visible o before after → HasRef before → HasRef after
  step-keeps o before after s h =
      subst HasRef (sym s.has_pushed) (by (has-either s.rest s.signed.takes (subst HasRef s.has_taken h))) where
        by : HasRef s.rest ⊎ HasRef s.signed.takes → HasRef (s.rest ++ s.signed.pushes ∷ [])
        by (inl rest) = has-front s.rest (s.signed.pushes ∷ []) rest
        by (inr taken) = has-back s.rest (s.signed.pushes ∷ []) (subst Keeps s.is_signed (keeps o) taken)

  leads-keeps : (e : Expression) (before after : List Class) → Leads l visible e before after → HasRef before → HasRef after
  leads-keeps [] before after same h = subst HasRef same h
  leads-keeps (o ∷ os) before after (between, step, later) h = leads-keeps os between after later (step-keeps o before between step h)

  -- what a null reference pushes
  pushed-null : (o : Operator) (before after : List Class) → Step l visible o before after → (HasRef after → ⊥) → IsNoNull o
  pushed-null (op.RefNull heap) before after s none =
      none (subst HasRef (sym s.has_pushed) (has-back s.rest (s.signed.pushes ∷ []) (subst Pushes s.is_signed tt)))
  pushed-null o before after s none = tt

  leads-no-null : (e : Expression) (before after : List Class) → Leads l visible e before after → (HasRef after → ⊥) → All IsNoNull e
  leads-no-null [] before after same none = All-nil IsNoNull
  leads-no-null (o ∷ os) before after (between, step, later) none =
      All-cons IsNoNull o os (pushed-null o before between step (λ h. none (leads-keeps os between after later h)))
      (leads-no-null os between after later none)

  -- an expression that gives an address has none
  pub address-no-null : (e : Expression) (wide : Bool) → HasClass l visible e (address_class wide) → All IsNoNull e
  address-no-null e true is = leads-no-null e [] (class.I64 ∷ []) (leads_to l visible e class.I64 is) (λ h. h)
  address-no-null e false is = leads-no-null e [] (class.I32 ∷ []) (leads_to l visible e class.I32 is) (λ h. h)
