-- How often modules have kept groups, in sum.
use Rattle.std.specs.Prelude.{ℕ, ◌+◌, [], ◌∷◌}
use Rattle.type_registry.specs.Registry.{Groups}

abbrev pub counted : Groups → ℕ
counted [] = 0
counted (e ∷ es) = e.1.count + counted es
