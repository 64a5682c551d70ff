use Rattle.std.proofs.Common.{◌≡◌, map, take}
use Rattle.wasm_types.specs.Memories.{memory_of}
use Rattle.module_sections.proofs.spaces.convert_memories.Given as goal

abbrev pub invariant-loop-ty : goal.invariant-loop-ty
invariant-loop-ty l = l.memories ≡ map memory_of (take l.ty-index l.types)
