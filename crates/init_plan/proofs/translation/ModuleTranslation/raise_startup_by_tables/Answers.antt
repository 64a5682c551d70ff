use Rattle.std.proofs.Common.{◌≡◌, ◌∙◌, sym, subst}
use Rattle.std.specs.Prelude.{OnOk}
use Rattle.std.specs.Global.{Vec}
use Rattle.std.proofs.lemmas.List.{length-map}
use Rattle.wasm_index.specs.declared.index.Index.{Index}
use Rattle.wasm_index.specs.declared.spaces.FuncSpace.{FuncSpace}
use Rattle.module_types.specs.Builder.{builder_view}
use Rattle.table_images.specs.Steps.{images_of}
use Rattle.table_images.specs.Views.{image_of}
use Rattle.init_plan.specs.Startup.{raised, startup_kind, types_after, with_startup}
use Rattle.init_plan.specs.Tables.{own_tables, plan_of_tables}
use Rattle.init_plan.proofs.TablesKept.{keeps, startup-stays, types-stay, kind-raised}
use Rattle.init_plan.proofs.translation.ModuleTranslation.raise_startup_by_tables.Goals as goal

pub returns-then-keeps_none-clause-ok : goal.returns-then-keeps_none-clause-ok
returns-then-keeps_none-clause-ok c =
    let t = c.args.self.now in
    let count = length-map t.module.table_initialization (λ (x : Vec (Index FuncSpace)). image_of x.items) ∙ c.requires.counts.images in
    let none = keeps (own_tables t) t.table_initialization.initial_values t.table_initialization.segments.items (images_of t.module.table_initialization) c.requires.counts.values count
    ∙ sym c.keeps_none.ensures ∙ c.if-keeps_none.true in
    startup-stays t (plan_of_tables t) (builder_view c.args.types.now) none

pub returns-then-keeps_none-clause-types : goal.returns-then-keeps_none-clause-types
returns-then-keeps_none-clause-types c =
    let t = c.args.self.now in
    let count = length-map t.module.table_initialization (λ (x : Vec (Index FuncSpace)). image_of x.items) ∙ c.requires.counts.images in
    let none = keeps (own_tables t) t.table_initialization.initial_values t.table_initialization.segments.items (images_of t.module.table_initialization) c.requires.counts.values count
    ∙ sym c.keeps_none.ensures ∙ c.if-keeps_none.true in
    types-stay t.module.startup (plan_of_tables t) (builder_view c.args.types.now) none

pub returns-clause-ok : goal.returns-clause-ok
returns-clause-ok c =
    let t = c.args.self.now in
    let count = length-map t.module.table_initialization (λ (x : Vec (Index FuncSpace)). image_of x.items) ∙ c.requires.counts.images in
    let some = keeps (own_tables t) t.table_initialization.initial_values t.table_initialization.segments.items (images_of t.module.table_initialization) c.requires.counts.values count
    ∙ sym c.keeps_none.ensures ∙ c.if-keeps_none.false in
    subst (λ kind. OnOk c.require_startup_func.result (c.require_startup_func.new.self ≡ with_startup t (raised kind t.module.startup (builder_view c.args.types.now))))
    (sym (kind-raised (plan_of_tables t) (startup_kind t.module.startup) some)) c.require_startup_func.ensures.ok

pub returns-clause-types : goal.returns-clause-types
returns-clause-types c =
    let t = c.args.self.now in
    let count = length-map t.module.table_initialization (λ (x : Vec (Index FuncSpace)). image_of x.items) ∙ c.requires.counts.images in
    let some = keeps (own_tables t) t.table_initialization.initial_values t.table_initialization.segments.items (images_of t.module.table_initialization) c.requires.counts.values count
    ∙ sym c.keeps_none.ensures ∙ c.if-keeps_none.false in
    subst (λ kind. OnOk c.require_startup_func.result (builder_view c.require_startup_func.new.types ≡ types_after kind t.module.startup (builder_view c.args.types.now)))
    (sym (kind-raised (plan_of_tables t) (startup_kind t.module.startup) some)) c.require_startup_func.ensures.types
