-- The lines of branch hints.
use Rattle.std.specs.Prelude.{ℕ, List, [], ◌∷◌, length, Option, Some, None, codes}
use Rattle.wasm_index.specs.declared.index.Index.{Index}
use Rattle.wasm_index.specs.declared.spaces.FuncSpace.{FuncSpace}
use Rattle.wasm_index.specs.Index.{number_of}
use Rattle.wasm_module.specs.declared.function.FunctionType.{FunctionType}
use Rattle.init_plan.specs.declared.debug_info.BranchHint.{BranchHint}
use Rattle.init_plan.specs.declared.translation.ModuleTranslation.{ModuleTranslation}
use Rattle.init_plan.specs.Views.{hints_of}
use Rattle.plan_lines.specs.Numbers.{numbers_line}

-- a function that has an entry, and the number of its hints; other functions have no line
abbrev pub hint_lines : Index FuncSpace → Option (List BranchHint) → List ℕ
hint_lines function None = []
hint_lines function (Some hints) = numbers_line (codes "hints") (number_of function ∷ length hints ∷ [])

-- those of a function of a translation
abbrev pub function_hints : ModuleTranslation → Index FuncSpace → FunctionType → List ℕ
function_hints t function type = hint_lines function (hints_of t (number_of function))
