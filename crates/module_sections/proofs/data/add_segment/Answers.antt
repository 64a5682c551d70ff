use Rattle.std.proofs.Common.{ap, refl}
use Rattle.wasm_index.specs.declared.index.Index.{Index}
use Rattle.wasm_index.specs.declared.spaces.MemorySpace.{MemorySpace}
use Rattle.wasm_index.specs.Index.{number_of}
use Rattle.module_sections.proofs.DataSteps.{active-added}
use Rattle.module_sections.proofs.data.add_segment.Goals as goal

pub returns-in_ok-push-in-Active-clause-active : goal.returns-in_ok-push-in-Active-clause-active
returns-in_ok-push-in-Active-clause-active g c =
    let look = (goal.TypeConvert-dyn g c.args.env.now).look_up c.args.env.now.1 in
    active-added look c.args.active.now.items c.push.new.self.items
    (record { memory_index = c.from_u32.result; offset = c.in_ok-convert_offset-in-Active.field-0; bytes = c.args.segment.now.bytes })
    c.args.segment.now.kind c.in-Active.memory_index c.in-Active.offset c.args.segment.now.bytes.now
    c.in-Active.is c.in_ok-push-in-Active.ensures.items (ap (λ (x : Index MemorySpace). number_of x) c.from_u32.ensures) c.in_ok-convert_offset-in-Active.ensures
    refl
