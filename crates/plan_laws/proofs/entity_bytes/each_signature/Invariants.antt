use Rattle.std.proofs.Common.{ℕ, ◌<◌, ◌^◌, get_or}
use Rattle.wasm_index.specs.declared.index.Index.{Index}
use Rattle.wasm_index.specs.declared.spaces.ModuleInternedTypeSpace.{ModuleInternedTypeSpace}
use Rattle.wasm_index.specs.Index.{number_of}
use Rattle.plan_laws.proofs.entity_bytes.each_signature.Given as goal

abbrev pub invariant-loop-signature : goal.invariant-loop-signature
invariant-loop-signature l = (k : ℕ) (d : Index ModuleInternedTypeSpace) → k < l.signature-index → number_of (get_or l.signatures k d) < 2 ^ 32
