-- Whether a rule holds is known.
use Rattle.std.proofs.Common.{◌≡◌, ◌≢◌, ℕ, zero, suc, ◌+◌, ◌-◌, ◌^◌, ◌<◌, ◌≤◌, Bool, true, List, [], ◌∷◌, length, All, Option, None, Some, ◌⊎◌, inl, inr, refl, sym, ◌∙◌, ap, subst, arith}
use Rattle.std.specs.Prelude.{slice_get, is_some, IsSome, IsTrue}
use Rattle.std.proofs.Math.Logic.{⊎_elim}
use Rattle.std.proofs.lemmas.Bool.{cases_lt, false≢true}
use Rattle.std.proofs.lemmas.List.Elements.{All-nil, All-cons, All-head, All-tail}
use Rattle.std.proofs.lemmas.Option.{none-some, same_Some}
use Rattle.wasm_spec.specs.Module.{Expression}
use Rattle.replay_spec.specs.Values.{const_value}
use Rattle.replay_spec.specs.Data.{ActiveSegment}
use Rattle.replay_spec.specs.Images.{ImageOptions, ImageMemory, size_of, index_of_constant, IsPlaced, bytes_on, MayBeImage, IsStatic}
use Rattle.replay_spec.specs.Elements.{Items, Functions, Expressions, ActiveElements, DefinedTable}
use Rattle.replay_spec.specs.Tables.{expression_cell, AreCells, image_cells, constant_place, most_cells, kept_initial, MayBeTaken}

abbrev pub Decided : Type 0 → Type 0
Decided P = P ⊎ (P → ⊥)

-- a statement does not hold where one of its parts does not
part : {P Q : Type 0} → (Q → P) → Decided P → (P → Decided Q) → Decided Q
part needs (inl p) more = more p
part needs (inr none) more = inr (λ q. none (needs q))

decided-le : (a b : ℕ) → Decided (a ≤ b)
decided-le a b = ⊎_elim (λ (l : b < a). inr (λ (le : a ≤ b). absurd (omega arith))) (λ (le : a ≤ b). inl le) (cases_lt b a)

decided-true : (b : Bool) → Decided (b ≡ true)
decided-true b = grind (arith, false≢true)

decided-none : {X : Type 0} (o : Option X) → Decided (o ≡ None)
decided-none o = grind (arith, none-some)

decided-all : {X : Type 0} (P : X → Type 0) → ((x : X) → Decided (P x)) → (xs : List X) → Decided (All P xs)
decided-all P each [] = inl (All-nil P)
decided-all P each (x ∷ xs) =
    part (All-head P x xs) (each x) (λ here. part (All-tail P x xs) (decided-all P each xs) (λ rest. inl (All-cons P x xs here rest)))

decided-each : {X : Type 0} (P : ℕ → X → Type 0) → ((m : ℕ) (x : X) → Decided (P m x)) → (xs : List X)
    → Decided ((m : ℕ) (x : X) → slice_get xs m ≡ Some x → P m x)
decided-each P each [] = inl (λ m x at. absurd (none-some x at))
decided-each P each (y ∷ ys) =
    part (λ all. all 0 y refl) (each 0 y)
    (λ here. part (λ all m x at. all (suc m) x at) (decided-each (λ m x. P (suc m) x) (λ m x. each (suc m) x) ys) (λ rest. inl (both here rest))) where
      both : P 0 y → ((m : ℕ) (x : _) → slice_get ys m ≡ Some x → P (suc m) x) → (m : ℕ) (x : _) → slice_get (y ∷ ys) m ≡ Some x → P m x
      both here rest zero x at = subst (P 0) (same_Some y x at) here
      both here rest (suc m) x at = rest m x at

-- ---- images of memories

decided-placed : (imports : ℕ) (memories : List ImageMemory) (s : ActiveSegment) → Decided (IsPlaced imports memories s)
decided-placed imports memories s = part (λ (p : IsPlaced imports memories s). p.defined) (decided-le imports s.memory) (λ low. at low (slice_get memories (s.memory - imports)) refl) where
  over : imports ≤ s.memory → (memory : ImageMemory) → slice_get memories (s.memory - imports) ≡ Some memory → (o : Option ℕ)
      → index_of_constant memory.wide (const_value s.offset) ≡ o → Decided (IsPlaced imports memories s)
  over low memory is None none = inr (λ p.
      let same : p.memory ≡ memory = same_Some p.memory memory (sym p.is_memory ∙ is) in
      none-some p.place (sym none ∙ ap (λ (m : ImageMemory). index_of_constant m.wide (const_value s.offset)) (sym same) ∙ p.constant))
  over low memory is (Some place) constant =
      part
      (λ (p : IsPlaced imports memories s).
      let same : p.memory ≡ memory = same_Some p.memory memory (sym p.is_memory ∙ is) in
      let size = ap size_of same in
      let here : p.place ≡ place = same_Some p.place place (sym p.constant ∙ ap (λ (m : ImageMemory). index_of_constant m.wide (const_value s.offset)) same ∙ constant) in
      let within = p.within in
      let fits : place + length s.bytes ≤ size_of memory = omega (arith, size, here, within) in fits)
      (decided-le (place + length s.bytes) (size_of memory))
      (λ within. part
      (λ (p : IsPlaced imports memories s).
      let same : p.memory ≡ memory = same_Some p.memory memory (sym p.is_memory ∙ is) in
      let known : size_of memory ≤ 2 ^ 64 - 1 = subst (λ (m : ImageMemory). size_of m ≤ 2 ^ 64 - 1) same p.known in known)
      (decided-le (size_of memory) (2 ^ 64 - 1))
      (λ known. inl (record { memory = memory; place = place; defined = low; is_memory = is; constant = constant; within = within; known = known })))

  at : imports ≤ s.memory → (o : Option ImageMemory) → slice_get memories (s.memory - imports) ≡ o → Decided (IsPlaced imports memories s)
  at low None none = inr (λ p. none-some p.memory (sym none ∙ p.is_memory))
  at low (Some memory) is = over low memory is (index_of_constant memory.wide (const_value s.offset)) refl

decided-image : (options : ImageOptions) (memory : ImageMemory) (ss : List ActiveSegment) → Decided (ss ≢ [] → MayBeImage options memory ss)
decided-image options memory [] = inl (λ some. absurd (some refl))
decided-image options memory (s ∷ ss) = grind (arith, part, decided-le, cases_lt)

pub decided-static : (options : ImageOptions) (imports : ℕ) (memories : List ImageMemory) (active : List ActiveSegment) → Decided (IsStatic options imports memories active)
decided-static options imports memories active =
    part (λ (h : IsStatic options imports memories active). h.enabled) (decided-true options.enabled)
    (λ enabled. part (λ (h : IsStatic options imports memories active). h.placed) (decided-all (IsPlaced imports memories) (decided-placed imports memories) active)
    (λ placed. part (λ (h : IsStatic options imports memories active). h.images)
    (decided-each (λ m memory. bytes_on (imports + m) active ≢ [] → MayBeImage options memory (bytes_on (imports + m) active))
    (λ m memory. decided-image options memory (bytes_on (imports + m) active)) memories)
    (λ images. inl (record { enabled = enabled; placed = placed; images = images }))))

-- ---- images of tables

decided-cells : (items : Items (Unit {0}) Expression) → Decided (AreCells items)
decided-cells (Functions indices) = inl tt
decided-cells (Expressions type items) = decided-all (λ e. IsSome (expression_cell e)) (λ e. decided-true (is_some (expression_cell e))) items

pub decided-taken : (lazy : Bool) (imports : ℕ) (tables : List DefinedTable) (s : ActiveElements) → Decided (MayBeTaken lazy imports tables s)
decided-taken lazy imports tables s =
    part (λ (p : MayBeTaken lazy imports tables s). p.lazy_tables) (decided-true lazy)
    (λ lazy_tables. part (λ (p : MayBeTaken lazy imports tables s). p.defined) (decided-le imports s.table)
    (λ low. part (λ (p : MayBeTaken lazy imports tables s). p.items) (decided-cells s.items)
    (λ cells. at lazy_tables low cells (slice_get tables (s.table - imports)) refl))) where
      over : IsTrue lazy → imports ≤ s.table → AreCells s.items → (table : DefinedTable) → slice_get tables (s.table - imports) ≡ Some table
          → IsTrue table.functions → kept_initial lazy table ≡ None → (o : Option ℕ) → constant_place s.offset ≡ o → Decided (MayBeTaken lazy imports tables s)
      over lazy_tables low cells table is functions keeps None none = inr (λ p. none-some p.place (sym none ∙ p.constant))
      over lazy_tables low cells table is functions keeps (Some place) constant =
          part
          (λ (p : MayBeTaken lazy imports tables s).
          let same : p.table ≡ table = same_Some p.table table (sym p.is_table ∙ is) in
          let size = ap (λ (t : DefinedTable). t.minimum) same in
          let here : p.place ≡ place = same_Some p.place place (sym p.constant ∙ constant) in
          let within = p.within in
          let fits : place + length (image_cells s.items) ≤ table.minimum = omega (arith, size, here, within) in fits)
          (decided-le (place + length (image_cells s.items)) table.minimum)
          (λ within. part
          (λ (p : MayBeTaken lazy imports tables s).
          let here : p.place ≡ place = same_Some p.place place (sym p.constant ∙ constant) in
          let fits : place + length (image_cells s.items) ≤ most_cells = subst (λ (n : ℕ). n + length (image_cells s.items) ≤ most_cells) here p.small in fits)
          (decided-le (place + length (image_cells s.items)) most_cells)
          (λ small. inl (record {
            lazy_tables = lazy_tables;
            table = table;
            defined = low;
            is_table = is;
            functions = functions;
            keeps_none = keeps;
            place = place;
            constant = constant;
            items = cells;
            within = within;
            small = small;
          })))

      at : IsTrue lazy → imports ≤ s.table → AreCells s.items → (o : Option DefinedTable) → slice_get tables (s.table - imports) ≡ o → Decided (MayBeTaken lazy imports tables s)
      at lazy_tables low cells None none = inr (λ p. none-some p.table (sym none ∙ p.is_table))
      at lazy_tables low cells (Some table) is =
          part
          (λ (p : MayBeTaken lazy imports tables s). subst (λ (t : DefinedTable). IsTrue t.functions) (same_Some p.table table (sym p.is_table ∙ is)) p.functions)
          (decided-true table.functions)
          (λ functions. part
          (λ (p : MayBeTaken lazy imports tables s). subst (λ (t : DefinedTable). kept_initial lazy t ≡ None) (same_Some p.table table (sym p.is_table ∙ is)) p.keeps_none)
          (decided-none (kept_initial lazy table))
          (λ keeps. over lazy_tables low cells table is functions keeps (constant_place s.offset) refl))
