-- The plan of globals leaves what the initialisers leave.
use Rattle.std.proofs.lemmas.Grind.{common_steps}
use Rattle.std.proofs.Common.{◌≡◌, ℕ, zero, suc, ◌+◌, ◌<◌, List, [], ◌∷◌, ◌++◌, length, map, replicate, set, All, Option, None, Some, refl, sym, ◌∙◌, ap, subst, arith, append_assoc}
use Rattle.std.specs.Prelude.{slice_get}
use Rattle.std.specs.List.{filter_map, enumerate_from}
use Rattle.std.specs.Option.{option_and_then}
use Rattle.std.proofs.lemmas.List.{length_push}
use Rattle.std.proofs.lemmas.List.Elements.{All-head, All-tail}
use Rattle.wasm_spec.specs.declared.operators.Operator.{Operator}
use Rattle.wasm_spec.specs.Module.{Expression}
use Rattle.replay_spec.specs.Values.{Value, Ref, Null, action, acted, run, only_value, const_value}
use Rattle.replay_spec.specs.Elements.{value_or_null, cell_of}
use Rattle.replay_spec.specs.Globals.{values_after, ReadsBelow, ReadEarlier, GlobalPlan, simple_written, kept_written, simple_of, kept_of, IsGlobalPlan, AgreesOnGlobals}
use Rattle.replay_spec.proofs.Constant.{eval-const_value}

-- ---- an expression that reads globals below a number has one value over all lists that are the
-- same below it

module _ (fields : ℕ → ℕ) (n : ℕ) (known later : List Value) (same : (g : ℕ) → g < n → slice_get known g ≡ slice_get later g) where
  same-step : (op : Operator) (stack : List Value) → ReadsBelow n op → acted (action known fields op) stack ≡ acted (action later fields op) stack
  same-step op stack h1 = grind (arith, common_steps)

  pub same-run : (e : Expression) (stack : List Value) → All (ReadsBelow n) e
      → run (λ op. acted (action known fields op)) e stack ≡ run (λ op. acted (action later fields op)) e stack
  same-run [] stack all = refl
  same-run (op ∷ ops) stack all =
      ap (option_and_then (run (λ op. acted (action known fields op)) ops)) (same-step op stack (All-head (ReadsBelow n) op ops all))
      ∙ over (λ next. same-run ops next (All-tail (ReadsBelow n) op ops all)) (acted (action later fields op) stack) where
        over : ((next : List Value) → run (λ op. acted (action known fields op)) ops next ≡ run (λ op. acted (action later fields op)) ops next)
            → (o : Option (List Value)) → option_and_then (run (λ op. acted (action known fields op)) ops) o ≡ option_and_then (run (λ op. acted (action later fields op)) ops) o
        over more None = refl
        over more (Some next) = more next

  same-value : (e : Expression) → All (ReadsBelow n) e → cell_of known fields e ≡ cell_of later fields e
  same-value e all = ap (λ o. value_or_null (option_and_then only_value o)) (same-run e [] all)

-- ---- writing where two lists join

set-seam : (pre rest : List Value) (x v : Value) (n : ℕ) → length pre ≡ n → set (pre ++ x ∷ rest) n v ≡ (pre ++ v ∷ []) ++ rest
set-seam [] rest x v zero e = refl
set-seam [] rest x v (suc n) e = absurd (omega arith)
set-seam (p ∷ pre) rest x v zero e = absurd (omega arith)
set-seam (p ∷ pre) rest x v (suc n) e = ap (λ xs. p ∷ xs) (set-seam pre rest x v n (omega arith))

pub get-front : (pre rest : List Value) (g : ℕ) → g < length pre → slice_get pre g ≡ slice_get (pre ++ rest) g
get-front [] rest g l = absurd (omega arith)
get-front (p ∷ pre) rest zero l = refl
get-front (p ∷ pre) rest (suc g) l = get-front pre rest g (omega arith)

-- the value of a simple global, and null for a kept one
abbrev first_value : Expression → Value
first_value e = value_or_null (const_value e)

module _ (imports : ℕ) where
  simple-all : (es : List Expression) (pre : List Value) (n : ℕ) → length pre ≡ imports + n
      → simple_written imports (pre ++ replicate (length es) (Ref Null)) (filter_map simple_of (enumerate_from n es)) ≡ pre ++ map first_value es
  simple-all [] pre n len = refl
  simple-all (e ∷ es) pre n len = over (const_value e) refl (λ v. simple-all es (pre ++ v ∷ []) (n + 1) (omega (arith, length_push pre v))) where
    over : (o : Option Value) → const_value e ≡ o
        → ((v : Value) → simple_written imports ((pre ++ v ∷ []) ++ replicate (length es) (Ref Null)) (filter_map simple_of (enumerate_from (n + 1) es)) ≡ (pre ++ v ∷ []) ++ map first_value es)
        → simple_written imports (pre ++ replicate (length (e ∷ es)) (Ref Null)) (filter_map simple_of (enumerate_from n (e ∷ es))) ≡ pre ++ map first_value (e ∷ es)
    over None is more = rw is (rw (← append_assoc pre (Ref Null ∷ []) (replicate (length es) (Ref Null))) (more (Ref Null) ∙ append_assoc pre (Ref Null ∷ []) (map first_value es)))
    over (Some v) is more = rw is (rw (set-seam pre (replicate (length es) (Ref Null)) (Ref Null) v (imports + n) len) (more v ∙ append_assoc pre (v ∷ []) (map first_value es)))

  module _ (fields : ℕ → ℕ) where
    kept-all : (es : List Expression) (known : List Value) (n : ℕ) → length known ≡ imports + n → ReadEarlier (imports + n) es
        → kept_written fields imports (known ++ map first_value es) (filter_map kept_of (enumerate_from n es)) ≡ values_after fields known es
    kept-all [] known n len h = grind (arith, common_steps)
    kept-all (e ∷ es) known n len h = over (const_value e) refl
        (kept-all es (known ++ cell_of known fields e ∷ []) (n + 1) (omega (arith, length_push known (cell_of known fields e))) (subst (λ k. ReadEarlier k es) (omega arith) h.1)) where
          over : (o : Option Value) → const_value e ≡ o
              → kept_written fields imports ((known ++ cell_of known fields e ∷ []) ++ map first_value es) (filter_map kept_of (enumerate_from (n + 1) es))
              ≡ values_after fields (known ++ cell_of known fields e ∷ []) es
              → kept_written fields imports (known ++ map first_value (e ∷ es)) (filter_map kept_of (enumerate_from n (e ∷ es))) ≡ values_after fields known (e ∷ es)
          over None is more =
              let same : cell_of (known ++ Ref Null ∷ map first_value es) fields e ≡ cell_of known fields e = sym (same-value fields (imports + n) known (known ++ Ref Null ∷ map first_value es)
              (λ g l. get-front known (Ref Null ∷ map first_value es) g (omega arith)) e h.0) in
              rw is (rw (same, set-seam known (map first_value es) (Ref Null) (cell_of known fields e) (imports + n) len) more)
          over (Some v) is more =
              let value : cell_of known fields e ≡ v = ap value_or_null (eval-const_value known fields e v is) in
              rw is (rw (← value) (rw (← append_assoc known (cell_of known fields e ∷ []) (map first_value es)) more))

pub globals-agree : (imports : ℕ) (es : List Expression) (plan : GlobalPlan) → ReadEarlier imports es → IsGlobalPlan es plan → AgreesOnGlobals imports es plan
globals-agree imports es plan reads h = grind (arith, simple-all, kept-all)
