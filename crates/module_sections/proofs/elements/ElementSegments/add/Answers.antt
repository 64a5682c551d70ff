use Rattle.std.proofs.Common.{◌∙◌, ◌+◌, ap, refl}
use Rattle.std.proofs.lemmas.Result.{on_ok_weaker}
use Rattle.form_reader.specs.Views.{element_of, element_kind_of}
use Rattle.wasm_index.specs.declared.index.Index.{Index}
use Rattle.wasm_index.specs.declared.spaces.ElemSpace.{ElemSpace}
use Rattle.wasm_index.specs.declared.spaces.TableSpace.{TableSpace}
use Rattle.wasm_index.specs.Index.{number_of}
use Rattle.module_sections.specs.declared.elements.ElementSegments.{ElementSegments}
use Rattle.module_sections.proofs.HeldElements.{room-counts, holds-active, holds-declared, holds-passive}
use Rattle.module_sections.proofs.elements.ElementSegments.add.Goals as goal

pub add_passive-requires-clause-kinds : goal.add_passive-requires-clause-kinds
add_passive-requires-clause-kinds g c = (room-counts _ c.args.self.now c.requires.room).1

pub add_passive-requires-clause-passive : goal.add_passive-requires-clause-passive
add_passive-requires-clause-passive g c = (room-counts _ c.args.self.now c.requires.room).2

pub returns-in-Passive-clause-added : goal.returns-in-Passive-clause-added
returns-in-Passive-clause-added g c =
    let look = (goal.TypeConvert-dyn g c.args.env.now).look_up c.args.env.now.1 in
    on_ok_weaker c.add_passive.result
    (λ same. λ before holds.
    holds-passive look before (element_of c.args.element.now) c.args.self.now holds c.in_ok-items.items (number_of c.from_u32-index.result)
    c.add_passive.new.self (ap element_kind_of c.in-Passive.is) c.in_ok-items.ensures.converted
    (ap (λ (x : Index ElemSpace). number_of x) c.from_u32-index.ensures)
    (ap (λ (s : ElementSegments). s.active.items) same) (ap (λ (s : ElementSegments). s.passive) same) (ap (λ (s : ElementSegments). s.kinds) same)
    (ap (λ (s : ElementSegments). s.numbers) same) (ap (λ (s : ElementSegments). s.count) same))
    c.add_passive.ensures

pub returns-in-Declared-clause-added : goal.returns-in-Declared-clause-added
returns-in-Declared-clause-added g c before holds =
    let old = c.args.self.now in
    let new : ElementSegments = record old { count = old.count + 1 } in
    holds-declared _ before (element_of c.args.element.now) old holds new (ap element_kind_of c.in-Declared.is) refl refl refl refl refl

pub returns-in_ok-push-in-Active-clause-added : goal.returns-in_ok-push-in-Active-clause-added
returns-in_ok-push-in-Active-clause-added g c before holds =
    let look = (goal.TypeConvert-dyn g c.args.env.now).look_up c.args.env.now.1 in
    let old = c.args.self.now in
    let new : ElementSegments = record old { active = c.push.new.self; count = old.count + 1 } in
    holds-active look before (element_of c.args.element.now) old holds c.in-Active.table_index c.in-Active.offset.ops.items
    (record { table_index = c.from_u32.result; offset = c.in_ok-convert_offset-in-Active.field-0; elements = c.in_ok-items.items }) new
    (ap element_kind_of c.in-Active.is) (ap (λ (x : Index TableSpace). number_of x) c.from_u32.ensures ∙ c.unwrap_or.ensures)
    c.in_ok-convert_offset-in-Active.ensures c.in_ok-items.ensures.converted c.in_ok-push-in-Active.ensures.items refl refl refl refl
