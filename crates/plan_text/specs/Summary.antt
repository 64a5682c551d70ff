-- The summary of a module that was made.
use Rattle.std.specs.Prelude.{ℕ, ◌-◌, List, [], ◌∷◌, ◌++◌, length, sum_by, codes}
use Rattle.vm_offsets.specs.Layouts.{size_of_context}
use Rattle.plan_text.specs.declared.plan.Plan.{Plan}
use Rattle.plan_lines.specs.ModuleLines.{startup_line}
use Rattle.plan_lines.specs.Numbers.{numbers_line}

-- the bytes of the runtime data in sum
abbrev pub runtime_total : Plan → ℕ
runtime_total plan = sum_by (λ range. range.end - range.start) plan.translation.module.runtime_data

-- its number, its bytes, its types, the bytes of its runtime data, and the lines of startup and of
-- the context
unfoldable pub summary_of : ℕ → ℕ → Plan → List ℕ
summary_of number bytes plan =
    numbers_line (codes "generated") (number ∷ [])
    ++ numbers_line (codes "bytes") (bytes ∷ [])
    ++ numbers_line (codes "types") (length plan.types.types ∷ [])
    ++ numbers_line (codes "runtime") (runtime_total plan ∷ [])
    ++ startup_line plan.translation.module.startup
    ++ numbers_line (codes "context") (size_of_context plan.offsets ∷ [])
