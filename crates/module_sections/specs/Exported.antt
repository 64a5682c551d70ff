-- What exports become, one after another.
use Rattle.std.specs.Prelude.{◌<◌, ℕ, ◌+◌, List, [], ◌∷◌, IfSome}
use Rattle.std.specs.List.{filter_map}
use Rattle.entity_map.specs.Entity.{reserved_number}
use Rattle.entity_map.specs.declared.pool.Atom.{Atom}
use Rattle.wasm_spec.specs.Module.{Export}
use Rattle.wasm_types.specs.declared.entity.EntityIndex.{EntityIndex}
use Rattle.module_sections.specs.Entities.{entity_at}
use Rattle.module_sections.specs.Escapes.{exported_function}

-- the functions among what is exported
abbrev pub exported_functions : List Export → List ℕ
exported_functions exports = filter_map (λ (e : Export). exported_function e.kind e.index) exports

-- its index is not the reserved one, and that of a function is below the number of functions
pub record HasExportableIndex (functions : ℕ) (e : Export) : Type 0 where
  pub index : e.index < reserved_number
  pub function : IfSome (exported_function e.kind e.index) (λ f. f < functions)

-- what exports become, of which the first has this position: their names are the first texts of the
-- pool, in order, so the atom of each is its position
abbrev pub entered_from : ℕ → List Export → List (Atom × EntityIndex)
entered_from place [] = []
entered_from place (e ∷ es) = (record { 0 = place }, entity_at e.kind e.index) ∷ entered_from (place + 1) es

abbrev pub entered : List Export → List (Atom × EntityIndex)
entered exports = entered_from 0 exports
