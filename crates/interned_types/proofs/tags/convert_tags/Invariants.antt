use Rattle.wasm_spec.specs.Module.{Module}
use Rattle.module_types.specs.Builder.{builder_view}
use Rattle.interned_types.specs.Tagged.{CanTag}
use Rattle.interned_types.proofs.Tagging.{IsTagging}
use Rattle.interned_types.proofs.tags.convert_tags.Given as goal

-- the tags so far have their exception types
abbrev pub invariant-loop-index : goal.invariant-loop-index
invariant-loop-index l = (m : Module) → CanTag m l.tags l.declared (builder_view l.initial.types)
    → IsTagging m l.tags (builder_view l.initial.types) (builder_view l.types) l.index-index l.converted
