-- What a plan can cost, by the bytes of the module and what it is planned with alone.
use Rattle.std.specs.Prelude.{ℕ, ◌+◌, ◌*◌, ◌≤◌, List, length, sum_by, All}
use Rattle.replay_spec.specs.Tables.{most_cells}
use Rattle.init_plan.specs.declared.translation.ModuleTranslation.{ModuleTranslation}
use Rattle.init_plan.specs.Views.{memory_plan_of}
use Rattle.init_plan.specs.Tables.{plan_of_tables}
use Rattle.plan_text.specs.declared.plan.Plan.{Plan}
use Rattle.translate.specs.Options.{InitOptions}

-- how many entries these lists of a translation have in sum: the index spaces, exports, element
-- segments that are kept or passive, and bodies
abbrev pub entries_of : ModuleTranslation → ℕ
entries_of t =
    length t.module.types + length t.module.functions + length t.module.tables + length t.module.memories + length t.module.globals + length t.module.tags
    + length t.module.exports.entries + length t.table_initialization.segments.items + length t.passive_elements + length t.function_body_inputs

-- the most bytes that images, kept segments and passive segments have together: twice the module's,
-- and for each defined memory the extent that is always made and two pages
abbrev pub most_data : InitOptions → ℕ → ℕ → ℕ
most_data i bytes memories = 2 * bytes + memories * (i.max_image + 2 * i.page_size)

pub record CostsAtMost (i : InitOptions) (bytes : List ℕ) (plan : Plan) : Type 0 where
  -- each entry has a byte of the module to itself
  pub entries : entries_of plan.translation ≤ length bytes
  -- a declared type may have a trampoline's type with it
  pub types : length plan.types.types ≤ 2 * length bytes
  -- each of the runtime data has a byte of the module to itself
  pub data_count : length (memory_plan_of plan.translation).runtime ≤ length bytes
  pub data_bytes : sum_by length (memory_plan_of plan.translation).runtime
      ≤ most_data i (length bytes) (length (memory_plan_of plan.translation).sizes)
  -- no image of a table has more cells than the largest
  pub cells : All (λ table. length table.image ≤ most_cells) (plan_of_tables plan.translation).tables
