use Rattle.std.proofs.Common.{◌∙◌, nat_eq, ap, subst}
use Rattle.std.specs.Map.{lookup}
use Rattle.wasm_index.specs.Index.{number_of}
use Rattle.type_registry.specs.Registry.{RegistryState, registry_of, used_types}
use Rattle.type_registry.specs.Balanced.{IsBalanced}
use Rattle.type_registry.proofs.LiveTypes.{got-live}
use Rattle.type_registry.proofs.registry.TypeRegistry.get.Goals as goal

pub returns-clause-live : goal.returns-clause-live
returns-clause-live c =
    let n = number_of c.args.index in
    let balanced : IsBalanced (registry_of c.args.self.now) = subst (λ (r : RegistryState). IsBalanced (registry_of r)) c.self.view_is c.self.invariant.2 in
    let found = c.get.ensures.found ∙ ap (λ (r : RegistryState). lookup (nat_eq n) (used_types r.groups)) c.self.view_is in
    got-live (registry_of c.args.self.now) balanced n c.get.result found
