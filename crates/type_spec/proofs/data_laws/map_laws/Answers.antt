use Rattle.type_spec.specs.TypeShapes.{group_shape}
use Rattle.type_spec.proofs.data_laws.map_laws.Goals as goal

pub returns : goal.returns
returns g c = record { same = group_shape.map_same; twice = group_shape.map_twice }
