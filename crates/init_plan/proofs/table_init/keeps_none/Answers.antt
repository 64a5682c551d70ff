use Rattle.std.proofs.Common.{◌∙◌, sym, ap}
use Rattle.std.specs.Prelude.{◌&&◌}
use Rattle.replay_spec.specs.Startup.{is_empty}
use Rattle.init_plan.proofs.TablesKept.{nulls, empty-by_length}
use Rattle.init_plan.proofs.table_init.keeps_none.Goals as goal

pub returns-then-are_null : goal.returns-then-are_null
returns-then-are_null c =
    let null = nulls c.args.initialization.now.initial_values c.are_null.result (rw c.as_slice.ensures at c.are_null.ensures) in
    let empty = empty-by_length c.args.initialization.now.segments.items _ c.is_empty.result c.args.initialization.now.segments.ok.0 c.is_empty.ensures in
    empty ∙ ap (λ b. b && is_empty c.args.initialization.now.segments.items) (sym c.if-are_null.true ∙ null)

pub returns-else-are_null : goal.returns-else-are_null
returns-else-are_null c =
    let null = nulls c.args.initialization.now.initial_values c.are_null.result (rw c.as_slice.ensures at c.are_null.ensures) in
    c.if-are_null.false ∙ ap (λ b. b && is_empty c.args.initialization.now.segments.items) (sym c.if-are_null.false ∙ null)
