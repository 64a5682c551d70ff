use Rattle.type_spec.specs.TypeShapes.{group_shape}
use Rattle.type_spec.proofs.data_laws.determined_law.Goals as goal

pub returns : goal.returns
returns g c = group_shape.determined
