-- The globals of a module that keeps the rules have values of their classes, and so have all its expressions.
use Rattle.std.proofs.lemmas.Grind.{common_steps}
use Rattle.std.proofs.Common.{◌≡◌, ℕ, zero, suc, ◌+◌, ◌<◌, ◌≤◌, List, [], ◌∷◌, ◌++◌, length, map, take, All, Option, Some, refl, sym, ◌∙◌, ap, subst, arith, append_assoc, length-take}
use Rattle.std.specs.Prelude.{slice_get, IfSome, IsSomeAnd}
use Rattle.std.specs.Option.{option_and_then}
use Rattle.std.proofs.Math.Logic.{⊎_elim}
use Rattle.std.proofs.lemmas.Bool.{cases_lt}
use Rattle.std.proofs.lemmas.List.{length_push, length-append}
use Rattle.std.proofs.lemmas.List.Elements.{All-weaker}
use Rattle.std.proofs.lemmas.Option.{none-some, same_Some, slice_get_within}
use Rattle.wasm_spec.specs.declared.entities.GlobalType.{GlobalType}
use Rattle.wasm_spec.specs.TypeData.{value_of}
use Rattle.wasm_spec.specs.Module.{Expression, TableDef, GlobalDef, ElementKind, ElementItems, DataKind, Module, global_import, imported_of}
use Rattle.rule_spec.specs.declared.classes.Class.{Class}
use Rattle.rule_spec.specs.declared.classes.Class.TheVariants as class
use Rattle.rule_spec.specs.declared.rules.Rule.TheVariants as rule
use Rattle.rule_spec.specs.Expressions.{AreGlobalsTyped, AreExpressionsTyped, HasTypedInitialiser, HasTableOffset, HasTypedItems, HasMemoryOffset}
use Rattle.rule_spec.specs.Indices.{NamesTable, NamesMemory}
use Rattle.rule_spec.specs.Lists.{Lists, lists_of_module}
use Rattle.rule_spec.specs.Rules.{AreInRange, Keeps}
use Rattle.rule_spec.specs.Typing.{class_of, HasClass}
use Rattle.replay_spec.specs.Classes.{IsOfClass, HaveClasses, field_count}
use Rattle.replay_spec.specs.Values.{Value, only_value, eval}
use Rattle.replay_spec.specs.Elements.{value_or_null, cell_of}
use Rattle.replay_spec.specs.Globals.{values_after, ReadsBelow}
use Rattle.replay_spec.specs.Evaluated.{AreImported, all_globals, HasValue, GivesGlobal, HasTablePlace, HaveReferences, HasMemoryPlace, HaveValues}
use Rattle.replay_spec.proofs.Typed.{value-of-class}
use Rattle.replay_spec.proofs.GlobalsKnown.{same-run, get-front}
use Rattle.replay_spec.proofs.GlobalsTyped.{reads-below}

-- ---- lists up to a number

get-take : {X : Type 0} (xs : List X) (n k : ℕ) (x : X) → slice_get (take n xs) k ≡ Some x → slice_get xs k ≡ Some x
get-take xs zero k x e = absurd (none-some x e)
get-take [] (suc n) k x e = absurd (none-some x e)
get-take (y ∷ xs) (suc n) zero x e = e
get-take (y ∷ xs) (suc n) (suc k) x e = get-take xs n k x e

get-middle : {X : Type 0} (before after : List X) (x : X) → slice_get (before ++ x ∷ after) (length before) ≡ Some x
get-middle [] after x = refl
get-middle (b ∷ before) after x = get-middle before after x

some-value : (o : Option Value) (P : Value → Type 0) → IsSomeAnd o P → (v : Value) × (o ≡ Some v) × P v
some-value o P h1 = grind (arith, common_steps)

-- what holds of the classes of all globals holds of those up to a number
have-take : (globals : List Value) (types : List GlobalType) (n : ℕ) → HaveClasses globals types → HaveClasses globals (take n types)
have-take globals types n have g type at = have g type (get-take types n g type at)

-- ---- the globals, one after another

abbrev first_values : List GlobalDef → List Expression
first_values ds = map (λ (d : GlobalDef). d.init) ds

abbrev class_at : GlobalDef → Class
class_at d = class_of (value_of d.type.content_type)

module _ (fields : ℕ → ℕ) where
  -- known values are unchanged
  stays : (es : List Expression) (known : List Value) (k : ℕ) → k < length known → slice_get (values_after fields known es) k ≡ slice_get known k
  stays [] known k l = refl
  stays (e ∷ es) known k l = grind (arith, length_push, get-front, (stays es (known ++ cell_of known fields e ∷ []) k (omega (arith, length_push known (cell_of known fields e)))))

module _ (l : Lists) where
  abbrev fields : ℕ → ℕ
  fields = field_count l

  -- one more global has a value of its class
  have-more : (known : List Value) (before : List GlobalType) (type : GlobalType) (after : List GlobalType) (v : Value) → length known ≡ length before
      → l.global_types ≡ before ++ type ∷ after
      → IsOfClass v (class_of (value_of type.content_type)) → HaveClasses known (take (length before) l.global_types)
      → HaveClasses (known ++ v ∷ []) (take (length before + 1) l.global_types)
  have-more known before type after v count parts is have = λ g t at.
      let below = slice_get_within (take (length before + 1) l.global_types) g t at in
      let within = length-take (length before + 1) l.global_types in
      let all : slice_get l.global_types g ≡ Some t = get-take l.global_types (length before + 1) g t at in
      ⊎_elim
      (λ (lt : g < length before).
      let at_front : slice_get (take (length before) l.global_types) g ≡ Some t = take-get l.global_types (length before) g lt ∙ all in
      let old = have g t at_front in
      (old.0, sym (get-front known (v ∷ []) g (omega arith)) ∙ old.1, old.2))
      (λ (ge : length before ≤ g).
      let here : g ≡ length before = omega arith in
      let same : type ≡ t = same_Some type t (sym (get-middle before after type) ∙ ap (slice_get (before ++ type ∷ after)) (sym here) ∙ ap (λ ts. slice_get ts g) (sym parts) ∙ all) in
      (v, ap (slice_get (known ++ v ∷ [])) (omega arith) ∙ get-middle known [] v, subst (λ (t : GlobalType). IsOfClass v (class_of (value_of t.content_type))) same is))
      (cases_lt g (length before)) where
        take-get : {X : Type 0} (xs : List X) (n k : ℕ) → k < n → slice_get (take n xs) k ≡ slice_get xs k
        take-get xs zero k lt = absurd (omega arith)
        take-get [] (suc n) k lt = refl
        take-get (y ∷ xs) (suc n) zero lt = refl
        take-get (y ∷ xs) (suc n) (suc k) lt = take-get xs n k (omega arith)

  -- over the values before it an initialiser has a value of its class
  first-value : (known : List Value) (index : ℕ) (d : GlobalDef) → HaveClasses known (take index l.global_types) → HasClass l (take index l.global_types) d.init (class_at d)
      → (v : Value) × (eval known fields d.init ≡ Some v) × IsOfClass v (class_at d)
  first-value known index d have typed = some-value (eval known fields d.init) (λ v. IsOfClass v (class_at d)) (value-of-class l (take index l.global_types) known have d.init (class_at d) typed)

  -- it has the same value over the values of all globals
  last-value : (known : List Value) (index : ℕ) (d : GlobalDef) (more : List Expression) (v : Value) → length known ≡ index → HasClass l (take index l.global_types) d.init (class_at d)
      → eval known fields d.init ≡ Some v → eval (values_after fields known more) fields d.init ≡ Some v
  last-value known index d more v count typed is =
      let reads : All (ReadsBelow index) d.init = reads-below l (take index l.global_types) index (omega (arith, length-take index l.global_types)) d.init (class_at d) typed in
      sym (ap (option_and_then only_value) (same-run fields index known (values_after fields known more) (λ g lt. sym (stays fields more known g (omega arith))) d.init [] reads)) ∙ is

  record AreSet (known : List Value) (index : ℕ) (ds : List GlobalDef) : Type 0 where
    classes : HaveClasses (values_after fields known (first_values ds)) l.global_types
    each : (g : ℕ) (d : GlobalDef) → slice_get ds g ≡ Some d → (v : Value) × (eval (values_after fields known (first_values ds)) fields d.init ≡ Some v)
        × IsOfClass v (class_at d) × (slice_get (values_after fields known (first_values ds)) (index + g) ≡ Some v)

  set-all : (ds : List GlobalDef) (known : List Value) (before : List GlobalType) → length known ≡ length before
      → l.global_types ≡ before ++ map (λ (d : GlobalDef). d.type) ds → HaveClasses known (take (length before) l.global_types) → AreGlobalsTyped l (length before) ds
      → AreSet known (length before) ds
  set-all [] known before count parts have typed = grind (arith, common_steps, slice_get_within, length-append, none-some)
  set-all (d ∷ ds) known before count parts have typed =
      let first = first-value known (length before) d have typed.0 in
      let v : Value = first.0 in
      let cell : cell_of known fields d.init ≡ v = ap value_or_null first.1 in
      let more : List Value = known ++ cell_of known fields d.init ∷ [] in
      let longer : length (before ++ d.type ∷ []) ≡ length before + 1 = length_push before d.type in
      let rest = set-all ds more (before ++ d.type ∷ []) (omega (arith, longer, length_push known (cell_of known fields d.init)))
      (parts ∙ sym (append_assoc before (d.type ∷ []) (map (λ (d : GlobalDef). d.type) ds)))
      (subst (λ n. HaveClasses more (take n l.global_types)) (sym longer)
      (subst (λ w. HaveClasses (known ++ w ∷ []) (take (length before + 1) l.global_types)) (sym cell)
      (have-more known before d.type (map (λ (d : GlobalDef). d.type) ds) v count parts first.2 have)))
      (subst (λ n. AreGlobalsTyped l n ds) (sym longer) typed.1) in
      record {
        classes = rest.classes;
        each = each rest;
      } where
        each : AreSet (known ++ cell_of known fields d.init ∷ []) (length (before ++ d.type ∷ [])) ds → (g : ℕ) (e : GlobalDef) → slice_get (d ∷ ds) g ≡ Some e
            → (v : Value) × (eval (values_after fields known (first_values (d ∷ ds))) fields e.init ≡ Some v)
            × IsOfClass v (class_at e) × (slice_get (values_after fields known (first_values (d ∷ ds))) (length before + g) ≡ Some v)
        each rest zero e at =
            let first = first-value known (length before) d have typed.0 in
            let v : Value = first.0 in
            let cell : cell_of known fields d.init ≡ v = ap value_or_null first.1 in
            let last = values_after fields known (first_values (d ∷ ds)) in
            let found : slice_get last (length before + 0) ≡ Some v =
            stays fields (first_values ds) (known ++ cell_of known fields d.init ∷ []) (length before + 0) (omega (arith, length_push known (cell_of known fields d.init)))
            ∙ ap (slice_get (known ++ cell_of known fields d.init ∷ [])) (omega arith) ∙ get-middle known [] (cell_of known fields d.init) ∙ ap Some cell in
            subst (λ (e : GlobalDef). (v : Value) × (eval last fields e.init ≡ Some v) × IsOfClass v (class_at e) × (slice_get last (length before + 0) ≡ Some v)) (same_Some d e at)
            (v, last-value known (length before) d (first_values (d ∷ ds)) v count typed.0 first.1, first.2, found)
        each rest (suc g) e at =
            let longer : length (before ++ d.type ∷ []) ≡ length before + 1 = length_push before d.type in
            let one = rest.each g e at in
            (one.0, one.1, one.2, ap (slice_get (values_after fields known (first_values (d ∷ ds)))) (omega arith) ∙ one.3)

-- ---- a module

module _ (m : Module) (keeps : Keeps m) (imported : List Value) (given : AreImported (lists_of_module m) imported) where
  abbrev lists : Lists
  lists = lists_of_module m

  typed : AreExpressionsTyped lists
  typed = keeps rule.L6

  in_range : AreInRange lists
  in_range = keeps rule.L9

  set : AreSet lists imported (length (imported_of global_import m)) lists.globals
  set = set-all lists lists.globals imported (imported_of global_import m) given.count refl given.classes typed.globals

  pub globals-of-class : HaveClasses (all_globals lists imported) lists.global_types
  globals-of-class = set.classes

  -- an expression that sees some of the globals has a value of its class
  value-over : (n : ℕ) (e : Expression) (c : Class) → HasClass lists (take n lists.global_types) e c → HasValue lists (all_globals lists imported) e c
  value-over n e c h = value-of-class lists (take n lists.global_types) (all_globals lists imported) (have-take (all_globals lists imported) lists.global_types n globals-of-class) e c h

  gives-global : (g : ℕ) (d : GlobalDef) → slice_get lists.globals g ≡ Some d → GivesGlobal lists (all_globals lists imported) g d
  gives-global g d at = grind (arith, set)

  table-value : (t : TableDef) → HasTypedInitialiser lists t → IfSome t.init (λ e. HasValue lists (all_globals lists imported) e class.Ref)
  table-value t h = grind (arith, value-over)

  -- an entry that exists has what each has
  standing : {X : Type 0} (xs : List X) (i : ℕ) (P Q : X → Type 0) → i < length xs → ((x : X) → P x → Q x) → IfSome (slice_get xs i) P → IsSomeAnd (slice_get xs i) Q
  standing [] i P Q l each h = absurd (omega arith)
  standing (x ∷ xs) zero P Q l each h = each x h
  standing (x ∷ xs) (suc i) P Q l each h = standing xs i P Q (omega arith) each h

  table-place : (kind : ElementKind) → HasTableOffset lists kind → NamesTable lists kind → HasTablePlace lists (all_globals lists imported) kind
  table-place kind h1 h2 = grind (arith, standing, value-of-class, globals-of-class)

  references : (items : ElementItems) → HasTypedItems lists items → HaveReferences lists (all_globals lists imported) items
  references items h1 = grind (arith, All-weaker, value-of-class, globals-of-class)

  memory-place : (kind : DataKind) → HasMemoryOffset lists kind → NamesMemory lists kind → HasMemoryPlace lists (all_globals lists imported) kind
  memory-place kind h1 h2 = grind (arith, standing, value-of-class, globals-of-class)

  pub have-values : HaveValues lists (all_globals lists imported)
  have-values = record {
    initialisers = gives-global;
    tables = All-weaker (HasTypedInitialiser lists) (λ (t : TableDef). IfSome t.init (λ e. HasValue lists (all_globals lists imported) e class.Ref)) table-value lists.tables typed.tables;
    offsets = λ i d l. table-place _ (typed.elements i d l).offset (in_range.elements i d l).table;
    items = λ i d l. references _ (typed.elements i d l).items;
    segments = λ i d l. memory-place _ (typed.segments i d l) (in_range.segments i d l);
  }
