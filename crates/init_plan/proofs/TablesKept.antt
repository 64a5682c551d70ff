-- The segments and initialisers of tables that are kept, and the startup that they require.
use Rattle.std.proofs.Common.{◌≡◌, ℕ, Bool, true, false, List, [], ◌∷◌, length, map, All, Option, None, refl, sym, ◌∙◌, ap, arith}
use Rattle.std.specs.Prelude.{◌&&◌, ◌==◌, IsTrue, if◌then◌else◌}
use Rattle.std.specs.List.{filter_map}
use Rattle.std.proofs.lemmas.Bool.{false≢true, eq-eqb, ne_eqb}
use Rattle.std.proofs.lemmas.List.Elements.{All-nil, All-cons, All-head, All-tail}
use Rattle.wasm_types.specs.declared.table.Table.{Table}
use Rattle.wasm_convert.specs.Constants.{expression_of}
use Rattle.wasm_module.specs.declared.startup.ModuleStartup.{ModuleStartup}
use Rattle.wasm_module.specs.declared.startup.ModuleStartup.TheVariants as startup
use Rattle.wasm_module.specs.declared.table_initialization.TableInitialValue.{TableInitialValue}
use Rattle.wasm_module.specs.declared.table_initialization.TableInitialValue.TheVariants as initial
use Rattle.wasm_module.specs.declared.table_initialization.TableSegment.{TableSegment}
use Rattle.module_types.specs.Builder.{Builder}
use Rattle.replay_spec.specs.Startup.{Startup, Always, is_empty, keeps_no_table, raised_by_tables}
use Rattle.replay_spec.specs.Tables.{PlannedTable, TablePlan}
use Rattle.table_images.specs.Views.{active_elements_of, initial_of, planned_tables_of, table_plan_of}
use Rattle.init_plan.specs.declared.translation.ModuleTranslation.{ModuleTranslation}
use Rattle.init_plan.specs.Startup.{startup_kind, raised, types_after, with_startup}

-- ---- the segments and initialisers that are kept

kept-values : (ts : List Table) (vs : List TableInitialValue) (images : List (List (Option ℕ))) → length ts ≡ length vs → length images ≡ length vs
    → filter_map (λ (t : PlannedTable). t.initial) (planned_tables_of ts vs images) ≡ filter_map initial_of vs
kept-values [] [] images a b = refl
kept-values [] (v ∷ vs) images a b = absurd (omega arith)
kept-values (t ∷ ts) [] images a b = absurd (omega arith)
kept-values (t ∷ ts) (v ∷ vs) [] a b = absurd (omega arith)
kept-values (t ∷ ts) (initial.Null ∷ vs) (x ∷ xs) a b = kept-values ts vs xs (omega arith) (omega arith)
kept-values (t ∷ ts) (initial.Expr e ∷ vs) (x ∷ xs) a b = ap (λ es. expression_of e ∷ es) (kept-values ts vs xs (omega arith) (omega arith))

empty-segments : (segments : List TableSegment) → is_empty (map active_elements_of segments) ≡ is_empty segments
empty-segments [] = refl
empty-segments (s ∷ ss) = refl

pub keeps : (ts : List Table) (vs : List TableInitialValue) (segments : List TableSegment) (images : List (List (Option ℕ))) → length ts ≡ length vs → length images ≡ length vs
    → keeps_no_table (table_plan_of ts vs segments images) ≡ (is_empty (filter_map initial_of vs) && is_empty segments)
keeps ts vs segments images a b = ap (λ es. is_empty es && is_empty (map active_elements_of segments)) (kept-values ts vs images a b)
    ∙ ap (λ x. is_empty (filter_map initial_of vs) && x) (empty-segments segments)

all-null : (vs : List TableInitialValue) → All (λ v. v ≡ initial.Null) vs → is_empty (filter_map initial_of vs) ≡ true
all-null [] h = refl
all-null (initial.Null ∷ vs) h = all-null vs (All-tail (λ v. v ≡ initial.Null) initial.Null vs h)
all-null (initial.Expr e ∷ vs) h = let bad = All-head (λ v. v ≡ initial.Null) (initial.Expr e) vs h in cc

null-all : (vs : List TableInitialValue) → is_empty (filter_map initial_of vs) ≡ true → All (λ v. v ≡ initial.Null) vs
null-all [] h = All-nil (λ v. v ≡ initial.Null)
null-all (initial.Null ∷ vs) h = All-cons (λ v. v ≡ initial.Null) initial.Null vs refl (null-all vs h)
null-all (initial.Expr e ∷ vs) h = cc

pub nulls : (vs : List TableInitialValue) (b : Bool) → (IsTrue b → All (λ v. v ≡ initial.Null) vs) × (All (λ v. v ≡ initial.Null) vs → IsTrue b)
    → b ≡ is_empty (filter_map initial_of vs)
nulls vs true h = sym (all-null vs (h.0 refl))
nulls vs false h = over (is_empty (filter_map initial_of vs)) refl where
  over : (x : Bool) → is_empty (filter_map initial_of vs) ≡ x → false ≡ is_empty (filter_map initial_of vs)
  over false e = sym e
  over true e = absurd (false≢true (h.1 (null-all vs e)))

-- ---- startup

raised-same : (s : ModuleStartup) (b : Builder) → raised (startup_kind s) s b ≡ s
raised-same startup.None b = refl
raised-same (startup.Always ty) b = refl
raised-same (startup.IfMemoriesNeedInit ty) b = refl

types-same : (s : ModuleStartup) (b : Builder) → types_after (startup_kind s) s b ≡ b
types-same startup.None b = refl
types-same (startup.Always ty) b = refl
types-same (startup.IfMemoriesNeedInit ty) b = refl

kind-kept : (plan : TablePlan) (kind : Startup) → keeps_no_table plan ≡ true → raised_by_tables plan kind ≡ kind
kind-kept plan kind e = ap (λ b. if b then kind else Always) e

pub kind-raised : (plan : TablePlan) (kind : Startup) → keeps_no_table plan ≡ false → raised_by_tables plan kind ≡ Always
kind-raised plan kind e = ap (λ b. if b then kind else Always) e

pub startup-stays : (t : ModuleTranslation) (plan : TablePlan) (b : Builder) → keeps_no_table plan ≡ true
    → t ≡ with_startup t (raised (raised_by_tables plan (startup_kind t.module.startup)) t.module.startup b)
startup-stays t plan b e = sym (ap (λ k. with_startup t (raised k t.module.startup b)) (kind-kept plan (startup_kind t.module.startup) e) ∙ ap (with_startup t) (raised-same t.module.startup b))

pub types-stay : (s : ModuleStartup) (plan : TablePlan) (b : Builder) → keeps_no_table plan ≡ true → b ≡ types_after (raised_by_tables plan (startup_kind s)) s b
types-stay s plan b e = sym (ap (λ k. types_after k s b) (kind-kept plan (startup_kind s) e) ∙ types-same s b)

-- ---- functions

pub empty-by_length : (xs : List TableSegment) (n : ℕ) (b : Bool) → n ≡ length xs → b ≡ (n == 0) → b ≡ is_empty xs
empty-by_length [] n b e h = h ∙ eq-eqb n 0 e
empty-by_length (x ∷ xs) n b e h = h ∙ ne_eqb n 0 (λ none. absurd (omega (arith, none, e)))
