use Rattle.std.proofs.Common.{◌≡◌, ◌++◌, ◌∷◌, []}
use Rattle.std.specs.List.{flat_map, range_with_len}
use Rattle.module_generator.proofs.sections.element_section.Given as goal

-- the elements so far are written
abbrev pub invariant-loop : goal.invariant-loop
invariant-loop l = l.contents.items ≡ l.initial.contents.items ++ flat_map (λ k. 0 ∷ []) (range_with_len 0 l.counter)
