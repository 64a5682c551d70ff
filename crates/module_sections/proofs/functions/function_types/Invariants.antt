use Rattle.std.proofs.Common.{◌≡◌, length, map, take}
use Rattle.std.specs.List.{enumerate_from}
use Rattle.module_sections.proofs.Typed.{typed}
use Rattle.module_sections.proofs.functions.function_types.Given as goal

-- the functions so far have their types
abbrev pub invariant-loop-ty : goal.invariant-loop-ty
invariant-loop-ty l =
    (length l.types ≡ l.ty-index) × (l.types ≡ map (typed l.declared l.escaping.order) (enumerate_from 0 (take l.ty-index l.functions)))
