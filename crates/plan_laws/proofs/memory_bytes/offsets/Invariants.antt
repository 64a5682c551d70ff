use Rattle.std.proofs.Common.{ℕ, ◌<◌, ◌^◌, get_or}
use Rattle.gc_layout.specs.declared.fields.GcStructLayoutField.{GcStructLayoutField}
use Rattle.plan_laws.proofs.memory_bytes.offsets.Given as goal

abbrev pub invariant-loop-field : goal.invariant-loop-field
invariant-loop-field l = (k : ℕ) (d : GcStructLayoutField) → k < l.field-index → (get_or l.fields k d).offset < 2 ^ 32
