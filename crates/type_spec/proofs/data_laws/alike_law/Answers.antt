use Rattle.type_spec.specs.TypeShapes.{group_shape}
use Rattle.type_spec.specs.Names.{by_name, alike-mapped, mapped-alike}
use Rattle.type_spec.proofs.data_laws.alike_law.Goals as goal

pub returns : goal.returns
returns g c = λ f h x y. (mapped-alike (by_name group_shape) f h x y, alike-mapped (by_name group_shape) f h x y)
