-- Numbers that have the widths of their types. In a plan that is only lent they have them, once
-- code has read them.
use Rattle.std.specs.Prelude.{ℕ, ◌*◌, ◌<◌, ◌≤◌, ◌^◌, List, length, All, Option, Some, None}
use Rattle.std.specs.Global.{Vec}
use Rattle.std.specs.Int.{w32, w64}
use Rattle.std.specs.Int.RustNames.{FitsSigned}
use Rattle.std.specs.declared.ops.Range.{Range}
use Rattle.wasm_index.specs.declared.index.Index.{Index}
use Rattle.wasm_index.specs.declared.spaces.DefinedGlobalSpace.{DefinedGlobalSpace}
use Rattle.wasm_index.specs.declared.spaces.FuncSpace.{FuncSpace}
use Rattle.wasm_index.specs.declared.spaces.MemorySpace.{MemorySpace}
use Rattle.wasm_index.specs.declared.spaces.RuntimeDataSpace.{RuntimeDataSpace}
use Rattle.wasm_index.specs.Index.{number_of}
use Rattle.wasm_types.specs.declared.value.WasmRefType.{WasmRefType}
use Rattle.wasm_types.specs.Texts.{heap_text, ref_text}
use Rattle.wasm_convert.specs.declared.operands.Operands.{Operands}
use Rattle.wasm_convert.specs.declared.operands.Operands.TheVariants as operand
use Rattle.wasm_convert.specs.declared.operators.ConstOp.{ConstOp}
use Rattle.wasm_convert.specs.declared.values.GlobalConstValue.{GlobalConstValue}
use Rattle.wasm_convert.specs.declared.values.GlobalConstValue.TheVariants as value
use Rattle.wasm_module.specs.declared.initializer.Initializer.{Initializer}
use Rattle.wasm_module.specs.declared.initializer.Initializer.TheVariants.{Import}
use Rattle.wasm_module.specs.declared.startup.ModuleStartup.{ModuleStartup}
use Rattle.wasm_module.specs.declared.startup.ModuleStartup.TheVariants as startup
use Rattle.wasm_module.specs.declared.table_initialization.TableInitialValue.{TableInitialValue}
use Rattle.wasm_module.specs.declared.table_initialization.TableInitialValue.TheVariants as initial
use Rattle.wasm_module.specs.declared.table_initialization.TableSegment.{TableSegment}
use Rattle.wasm_module.specs.Elements.{element_count}
use Rattle.gc_layout.specs.declared.array.GcArrayLayout.{GcArrayLayout}
use Rattle.gc_layout.specs.declared.object.GcLayout.{GcLayout}
use Rattle.gc_layout.specs.declared.object.GcLayout.TheVariants as layout
use Rattle.gc_layout.specs.Fields.{FieldsLayout}
use Rattle.init_plan.specs.declared.translation.MemorySegmentOffset.{MemorySegmentOffset}
use Rattle.init_plan.specs.declared.translation.MemorySegmentOffset.TheVariants as offset
use Rattle.plan_lines.specs.Expressions.{expression_text}
use Rattle.plan_lines.specs.NameLines.{kind_number}
use Rattle.plan_lines.specs.TypeLines.{listed_number}

-- what follows the name of an operator; the bits of floats and vectors have as many digits always
abbrev pub HasWidth : Operands → Type 0
HasWidth (operand.I32 value) = FitsSigned w32 value
HasWidth (operand.I64 value) = FitsSigned w64 value
HasWidth (operand.Index index) = index < 2 ^ 32
HasWidth (operand.Heap heap) = length (heap_text heap) ≤ 28
HasWidth (operand.IndexAndSize index size) = (index < 2 ^ 32) × (size < 2 ^ 32)
HasWidth o = Unit {0}

-- the text of an expression is as long as its operators allow
pub record IsShortExpression (e : List ConstOp) : Type 0 where
  pub short : length (expression_text e) ≤ 47 * length e

abbrev pub ImportFits : Initializer → Type 0
ImportFits (Import name field e) = kind_number e < 2 ^ 32

-- the type of a startup function
abbrev pub StartupFits : ModuleStartup → Type 0
StartupFits startup.None = Unit {0}
StartupFits (startup.Always ty) = listed_number ty < 2 ^ 32
StartupFits (startup.IfMemoriesNeedInit ty) = listed_number ty < 2 ^ 32

-- the known value of a global
abbrev pub ValueFits : GlobalConstValue → Type 0
ValueFits (value.I32 n) = FitsSigned w32 n
ValueFits (value.I64 n) = FitsSigned w64 n
ValueFits value = Unit {0}

pub record GlobalFits (g : Index DefinedGlobalSpace × GlobalConstValue) : Type 0 where
  pub index : number_of g.0 < 2 ^ 32
  pub value : ValueFits g.1

pub record FirstFits (g : Index DefinedGlobalSpace × List ConstOp) : Type 0 where
  pub index : number_of g.0 < 2 ^ 32
  pub value : IsShortExpression g.1

-- the first value of a table
abbrev pub InitialFits : TableInitialValue → Type 0
InitialFits initial.Null = Unit {0}
InitialFits (initial.Expr e) = IsShortExpression e

-- the image of a table
pub record TableImageFits (image : Vec (Index FuncSpace)) : Type 0 where
  pub count : length image.items < 2 ^ 64
  pub cells : All (λ f. number_of f < 2 ^ 32) image.items

pub record ElementsFit (s : TableSegment) : Type 0 where
  pub table : number_of s.table_index < 2 ^ 32
  pub count : element_count s.elements < 2 ^ 64
  pub place : IsShortExpression s.offset

pub record PassiveFits (e : WasmRefType × ℕ) : Type 0 where
  pub type : length (ref_text e.0) ≤ 39
  pub count : e.1 < 2 ^ 64

-- the image of a memory
abbrev pub MemoryFits : Option (ℕ × Index RuntimeDataSpace) → Type 0
MemoryFits None = Unit {0}
MemoryFits (Some image) = (image.0 < 2 ^ 64) × (number_of image.1 < 2 ^ 32)

-- the place of a data segment
abbrev pub PlaceFits : MemorySegmentOffset → Type 0
PlaceFits (offset.Expr e) = IsShortExpression e
PlaceFits (offset.Static place) = place < 2 ^ 64

pub record SegmentFits (s : Index MemorySpace × MemorySegmentOffset × Index RuntimeDataSpace) : Type 0 where
  pub memory : number_of s.0 < 2 ^ 32
  pub index : number_of s.2 < 2 ^ 32
  pub place : PlaceFits s.1

pub record RangeFits (range : Range ℕ) : Type 0 where
  pub start : range.start < 2 ^ 32
  pub end : range.end < 2 ^ 32

pub record ArrayFits (a : GcArrayLayout) : Type 0 where
  pub base : a.base_size < 2 ^ 32
  pub align : a.align < 2 ^ 32
  pub element : a.elem_size < 2 ^ 32

pub record FieldsFit (s : FieldsLayout) : Type 0 where
  pub size : s.size < 2 ^ 32
  pub align : s.align < 2 ^ 32
  pub fields : All (λ f. f.offset < 2 ^ 32) s.fields

abbrev pub LayoutFits : Option GcLayout → Type 0
LayoutFits None = Unit {0}
LayoutFits (Some (layout.Array a)) = ArrayFits a
LayoutFits (Some (layout.Struct s)) = FieldsFit s.value
