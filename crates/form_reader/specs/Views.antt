-- What was read, as the plain values of the definitions.
use Rattle.std.specs.Prelude.{map}
use Rattle.std.specs.Option.{option_map}
use Rattle.wasm_spec.specs.declared.types.UnpackedIndex.{UnpackedIndex}
use Rattle.wasm_spec.specs.TypeData as data_of
use Rattle.wasm_spec.specs.Module as plain
use Rattle.form_reader.specs.declared.types.FuncType.{FuncType}
use Rattle.form_reader.specs.declared.types.CompositeInnerType.{CompositeInnerType}
use Rattle.form_reader.specs.declared.types.CompositeInnerType.TheVariants as composites
use Rattle.form_reader.specs.declared.types.SubType.{SubType}
use Rattle.form_reader.specs.declared.types.RecGroup.{RecGroup}
use Rattle.form_reader.specs.declared.form.ConstExpr.{ConstExpr}
use Rattle.form_reader.specs.declared.form.Import.{Import}
use Rattle.form_reader.specs.declared.form.TableDef.{TableDef}
use Rattle.form_reader.specs.declared.form.GlobalDef.{GlobalDef}
use Rattle.form_reader.specs.declared.form.Export.{Export}
use Rattle.form_reader.specs.declared.form.ElementKind.{ElementKind}
use Rattle.form_reader.specs.declared.form.ElementKind.TheVariants as element_kinds
use Rattle.form_reader.specs.declared.form.ElementItems.{ElementItems}
use Rattle.form_reader.specs.declared.form.ElementItems.TheVariants as items
use Rattle.form_reader.specs.declared.form.Element.{Element}
use Rattle.form_reader.specs.declared.form.FunctionBody.{FunctionBody}
use Rattle.form_reader.specs.declared.form.DataKind.{DataKind}
use Rattle.form_reader.specs.declared.form.DataKind.TheVariants as kinds
use Rattle.form_reader.specs.declared.form.DataSegment.{DataSegment}
use Rattle.form_reader.specs.declared.form.Payload.{Payload}
use Rattle.form_reader.specs.declared.form.Payload.TheVariants as payloads
use Rattle.form_reader.specs.declared.form.Form.{Form}

-- ---- types

abbrev pub function_of : FuncType → data_of.Function UnpackedIndex
function_of f = record { params = map data_of.value_of f.params.items; results = map data_of.value_of f.results.items }

abbrev pub composite_of : CompositeInnerType → data_of.Composite UnpackedIndex UnpackedIndex
composite_of (composites.Func f) = data_of.Func (function_of f)
composite_of (composites.Array field) = data_of.Array (data_of.field_of field)
composite_of (composites.Struct fields) = data_of.Struct (map data_of.field_of fields.items)
composite_of (composites.Cont function) = data_of.Cont function

-- no type that is read is shared
abbrev pub sub_type_of : SubType → data_of.SubType UnpackedIndex UnpackedIndex
sub_type_of t = record { is_final = t.is_final; supertype = t.supertype; composite = data_of.unshared (composite_of t.composite) }

abbrev pub group_of : RecGroup → data_of.Group UnpackedIndex UnpackedIndex
group_of g = map sub_type_of g.types.items

-- ---- entries

abbrev pub expression_of : ConstExpr → plain.Expression
expression_of e = e.ops.items

abbrev pub import_of : Import → plain.Import
import_of i = record { space = i.«module».now; name = i.name.now; type = i.ty }

abbrev pub table_of : TableDef → plain.TableDef
table_of t = record { type = t.ty; init = option_map expression_of t.init }

abbrev pub global_of : GlobalDef → plain.GlobalDef
global_of g = record { type = g.ty; init = expression_of g.init }

abbrev pub export_of : Export → plain.Export
export_of e = record { name = e.name.now; kind = e.kind; index = e.index }

abbrev pub element_kind_of : ElementKind → plain.ElementKind
element_kind_of element_kinds.Passive = plain.PassiveElement
element_kind_of element_kinds.Declared = plain.DeclaredElement
element_kind_of (element_kinds.Active table offset) = plain.ActiveElement table (expression_of offset)

abbrev pub items_of : ElementItems → plain.ElementItems
items_of (items.Functions indices) = plain.Functions indices.items
items_of (items.Expressions type list) = plain.Expressions type (map expression_of list.items)

abbrev pub element_of : Element → plain.Element
element_of e = record { kind = element_kind_of e.kind; items = items_of e.items }

abbrev pub body_of : FunctionBody → plain.Body
body_of b = record { locals = b.locals.items; rest = b.rest.now }

abbrev pub data_kind_of : DataKind → plain.DataKind
data_kind_of kinds.Passive = plain.Passive
data_kind_of (kinds.Active memory offset) = plain.Active memory (expression_of offset)

abbrev pub segment_of : DataSegment → plain.Segment
segment_of s = record { kind = data_kind_of s.kind; bytes = s.bytes.now }

-- ---- sections

abbrev pub payload_of : Payload → plain.Payload
payload_of (payloads.Types groups) = plain.Types (map group_of groups.items)
payload_of (payloads.Imports imports) = plain.Imports (map import_of imports.items)
payload_of (payloads.Functions types) = plain.FunctionTypes types.items
payload_of (payloads.Tables tables) = plain.Tables (map table_of tables.items)
payload_of (payloads.Memories types) = plain.Memories types.items
payload_of (payloads.Tags types) = plain.Tags types.items
payload_of (payloads.Globals globals) = plain.Globals (map global_of globals.items)
payload_of (payloads.Exports exports) = plain.Exports (map export_of exports.items)
payload_of (payloads.Start function) = plain.Start function
payload_of (payloads.Elements elements) = plain.Elements (map element_of elements.items)
payload_of (payloads.DataCount count) = plain.DataCount count
payload_of (payloads.Code place bodies) = plain.Code place (map body_of bodies.items)
payload_of (payloads.Segments segments) = plain.Segments (map segment_of segments.items)
payload_of (payloads.Custom custom) = plain.Custom custom.name.now custom.bytes.now

-- the module that a form holds
abbrev pub module_of : Form → plain.Module
module_of form = map payload_of form.payloads.items
