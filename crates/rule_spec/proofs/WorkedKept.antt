-- The worked modules keep the rules.
use Rattle.std.proofs.Common.{◌≡◌, ℕ, ◌<◌, ◌≤◌, List, [], ◌∷◌, All, refl, arith}
use Rattle.std.specs.Prelude.{AllPairs, pos}
use Rattle.std.proofs.lemmas.List.Elements.{All-nil, All-cons}
use Rattle.std.proofs.lemmas.List.Kept.{AllPairs-cons}
use Rattle.wasm_spec.specs.declared.entities.GlobalType.{GlobalType}
use Rattle.wasm_spec.specs.declared.operators.Operator.TheVariants as op
use Rattle.wasm_spec.specs.declared.types.UnpackedIndex.TheVariants.{Module}
use Rattle.wasm_spec.specs.Module.{Export, Import, Body, Segment}
use Rattle.rule_spec.specs.declared.classes.Class.TheVariants.{I32}
use Rattle.rule_spec.specs.declared.rules.Rule.TheVariants as rule
use Rattle.rule_spec.specs.Lists.{Lists, lists_of_module}
use Rattle.rule_spec.specs.TypeRules.{IsBelow, KindIsBelow, HeapIsBelow, ValueIsBelow, IsDeclaredWell, NamesFunctionType}
use Rattle.rule_spec.specs.Limits.{HasLimits, IsOrdered}
use Rattle.rule_spec.specs.Indices.{IsInSpace, CanStart, NamesMemory, IsElementInRange}
use Rattle.rule_spec.specs.References.{OperatorRefersIn, ImportRefersIn, TableRefersIn, GlobalRefersIn, ElementRefersIn, BodyRefersIn, DataKindRefersIn, AllReferIn}
use Rattle.rule_spec.specs.Typing.{Signature, HasClass}
use Rattle.rule_spec.proofs.Stepping.{has_class}
use Rattle.rule_spec.specs.Expressions.{HasTypedInitialiser, IsElementTyped, HasMemoryOffset, AreExpressionsTyped}
use Rattle.rule_spec.specs.Rules.{TypesAreNamed, CountsAgree, HaveLimits, AreExported, AreInRange, IsInitialised, locals, Keeps}
use Rattle.rule_spec.specs.Worked.{memory_as_a}
use Rattle.rule_spec.specs.WorkedKept.{type_of_an_earlier, function_with_body, maximum_above_minimum, table_with_initialiser, global_of_a_sum, memory_as_b, exported_by_two_names, function_to_start, segments_in_range, reference_to_type, overlapping, one_page}

one : {X : Type 0} (P : X → Type 0) (x : X) → P x → All P (x ∷ [])
one P x p = All-cons P x [] p (All-nil P)

two : {X : Type 0} (P : X → Type 0) (x y : X) → P x → P y → All P (x ∷ y ∷ [])
two P x y p q = All-cons P x (y ∷ []) p (one P y q)

-- ---- expressions

abbrev number : Signature
number = record { takes = []; pushes = I32 }

abbrev sum : Signature
sum = record { takes = I32 ∷ I32 ∷ []; pushes = I32 }

-- a number, and the sum of two, are an i32 in any module
constant-typed : (l : Lists) (visible : List GlobalType) (n : ℕ) → HasClass l visible (op.I32Const (pos n) ∷ []) I32
constant-typed l visible n = has_class l visible (op.I32Const (pos n) ∷ []) I32 (I32 ∷ [], record { signed = number; rest = []; is_signed = refl; has_taken = refl; has_pushed = refl }, refl)

pub sum-typed : (l : Lists) (visible : List GlobalType) → HasClass l visible (op.I32Const (pos 1) ∷ op.I32Const (pos 2) ∷ op.I32Add ∷ []) I32
sum-typed l visible = has_class l visible (op.I32Const (pos 1) ∷ op.I32Const (pos 2) ∷ op.I32Add ∷ []) I32 (
  I32 ∷ [],
  record { signed = number; rest = []; is_signed = refl; has_taken = refl; has_pushed = refl },
  (
    I32 ∷ I32 ∷ [],
    record { signed = number; rest = I32 ∷ []; is_signed = refl; has_taken = refl; has_pushed = refl },
    (I32 ∷ [], record { signed = sum; rest = []; is_signed = refl; has_taken = refl; has_pushed = refl }, refl),
  ),
)

-- ---- one module a rule

pub types-kept : All (IsDeclaredWell (lists_of_module type_of_an_earlier)) (lists_of_module type_of_an_earlier).types
unfolding KindIsBelow
types-kept = two (IsDeclaredWell (lists_of_module type_of_an_earlier)) _ _
    (record { indices = All-nil (IsBelow 1); supertype = tt; continuation = tt })
    (record { indices = one (IsBelow 2) (Module 0) (omega arith); supertype = tt; continuation = tt })

pub functions-kept : TypesAreNamed (lists_of_module function_with_body)
functions-kept = record {
  functions = one (NamesFunctionType (lists_of_module function_with_body)) 0 tt;
  tags = All-nil (NamesFunctionType (lists_of_module function_with_body));
}

pub bodies-kept : CountsAgree (lists_of_module function_with_body)
bodies-kept = record {
  bodies = refl;
  data_segments = All-nil (λ (count : ℕ). count ≡ 0);
  locals = one (λ (b : Body). locals b ≤ 4294967295) _ (omega arith);
}

pub limits-kept : HaveLimits (lists_of_module maximum_above_minimum)
limits-kept = record {
  tables = All-nil IsOrdered;
  memories = one HasLimits _ (record { ordered = omega arith; page_size = tt; initial_fits = omega arith; maximum_fits = omega arith; bounded = λ shared. refl });
}

pub tables-kept : All IsInitialised (lists_of_module table_with_initialiser).tables
tables-kept = one IsInitialised _ (λ no_null. refl)

pub expressions-kept : AreExpressionsTyped (lists_of_module global_of_a_sum)
expressions-kept = record {
  tables = All-nil (HasTypedInitialiser (lists_of_module global_of_a_sum));
  globals = (sum-typed (lists_of_module global_of_a_sum) [], tt);
  elements = All-nil (IsElementTyped (lists_of_module global_of_a_sum));
  segments = All-nil (λ (s : Segment). HasMemoryOffset (lists_of_module global_of_a_sum) s.kind);
}

no-pairs : {X : Type 0} (R : X → X → Type 0) (x : X) → AllPairs R (x ∷ [])
no-pairs R x = λ i j d before within. absurd (omega arith)

a-not-b : ◌≡◌ {A = List ℕ} (0x61 ∷ []) (0x62 ∷ []) → ⊥
a-not-b same = let h : ◌≡◌ {A = ℕ} 0x61 0x62 = cc in absurd (omega arith)

pub exports-kept : AreExported (lists_of_module exported_by_two_names)
exports-kept = record {
  in_space = two (IsInSpace (lists_of_module exported_by_two_names)) _ _ (omega arith) (omega arith);
  distinct = differ;
} where
  differ : AllPairs (λ (a b : Export). a.name ≡ b.name → ⊥) (lists_of_module exported_by_two_names).exports
  differ = AllPairs-cons (λ (a b : Export). a.name ≡ b.name → ⊥) memory_as_a (memory_as_b ∷ [])
      (one (λ (b : Export). memory_as_a.name ≡ b.name → ⊥) memory_as_b a-not-b)
      (no-pairs (λ (a b : Export). a.name ≡ b.name → ⊥) memory_as_b)

pub start-kept : All (CanStart (lists_of_module function_to_start)) (lists_of_module function_to_start).starts
start-kept = one (CanStart (lists_of_module function_to_start)) 0 (refl, refl)

pub segments-kept : AreInRange (lists_of_module segments_in_range)
segments-kept = record {
  elements = one (IsElementInRange (lists_of_module segments_in_range)) _
      (record { table = omega arith; items = one (λ (f : ℕ). f < 1) 0 (omega arith) });
  segments = one (λ (s : Segment). NamesMemory (lists_of_module segments_in_range) s.kind) _ (omega arith);
}

pub references-kept : AllReferIn 1 (lists_of_module reference_to_type)
unfolding HeapIsBelow ValueIsBelow
references-kept = record {
  imports = All-nil (λ (i : Import). ImportRefersIn 1 i.type);
  tables = All-nil (TableRefersIn 1);
  globals = one (GlobalRefersIn 1) _ (record {
    content = one (IsBelow 1) (Module 0) (omega arith);
    init = one (OperatorRefersIn 1) _ (one (IsBelow 1) (Module 0) (omega arith));
  });
  elements = All-nil (ElementRefersIn 1);
  bodies = All-nil (BodyRefersIn 1);
  segments = All-nil (λ (s : Segment). DataKindRefersIn 1 s.kind);
}

-- ---- a module that keeps them all

abbrev lists : Lists
lists = lists_of_module overlapping

pub overlapping-kept : Keeps overlapping
overlapping-kept rule.L1 = All-nil (IsDeclaredWell lists)
overlapping-kept rule.L2 = record { functions = All-nil (NamesFunctionType lists); tags = All-nil (NamesFunctionType lists) }
overlapping-kept rule.L3 = record {
  bodies = refl;
  data_segments = All-nil (λ (count : ℕ). count ≡ 2);
  locals = All-nil (λ (b : Body). locals b ≤ 4294967295);
}
overlapping-kept rule.L4 = record {
  tables = All-nil IsOrdered;
  memories = one HasLimits one_page (record { ordered = tt; page_size = tt; initial_fits = omega arith; maximum_fits = tt; bounded = λ shared. absurd cc });
}
overlapping-kept rule.L5 = All-nil IsInitialised
overlapping-kept rule.L6 = record {
  tables = All-nil (HasTypedInitialiser lists);
  globals = tt;
  elements = All-nil (IsElementTyped lists);
  segments = two (λ (s : Segment). HasMemoryOffset lists s.kind) _ _ (constant-typed lists [] 16) (constant-typed lists [] 17);
}
overlapping-kept rule.L7 = record { in_space = All-nil (IsInSpace lists); distinct = λ i j d before within. absurd (omega arith) }
overlapping-kept rule.L8 = All-nil (CanStart lists)
overlapping-kept rule.L9 = record {
  elements = All-nil (IsElementInRange lists);
  segments = two (λ (s : Segment). NamesMemory lists s.kind) _ _ (omega arith) (omega arith);
}
overlapping-kept rule.L10 = record {
  imports = All-nil (λ (i : Import). ImportRefersIn 0 i.type);
  tables = All-nil (TableRefersIn 0);
  globals = All-nil (GlobalRefersIn 0);
  elements = All-nil (ElementRefersIn 0);
  bodies = All-nil (BodyRefersIn 0);
  segments = two (λ (s : Segment). DataKindRefersIn 0 s.kind) _ _ (one (OperatorRefersIn 0) _ tt) (one (OperatorRefersIn 0) _ tt);
}
