use Rattle.std.proofs.Common.{◌∙◌, sym, ap}
use Rattle.wasm_types.specs.EntityViews.{entity_back}
use Rattle.type_registry.specs.Keys.{key_number}
use Rattle.type_registry.specs.Registry.{registry_of}
use Rattle.import_match.specs.Linking.{engine_index}
use Rattle.import_match.proofs.engine_types.with_engine_types.Goals as goal

pub returns-clause-value : goal.returns-clause-value
returns-clause-value c =
    sym (entity_back.is c.canonicalize_for_runtime_usage.new.self)
    ∙ ap entity_back.back
    (c.canonicalize_for_runtime_usage.ensures.mapped (engine_index (registry_of c.args.registry.now) (key_number c.args.key)) (λ i e post. post.1))
