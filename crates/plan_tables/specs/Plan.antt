-- What a record says of a plan.
use Rattle.std.specs.Prelude.{◌≡◌, [], map}
use Rattle.vm_offsets.specs.Layouts.{fields_of, pointer_of, size_of_context}
use Rattle.vm_offsets.specs.Regions.{context_regions}
use Rattle.plan_text.specs.declared.plan.Plan.{Plan}
use Rattle.plan_tables.specs.declared.record.PlanRecord.{PlanRecord}
use Rattle.plan_tables.specs.Bodies.{TellsBodies}
use Rattle.plan_tables.specs.Context.{TellsContext, region_told, placed_back}
use Rattle.plan_tables.specs.Debug.{TellsDebug}
use Rattle.plan_tables.specs.Expressions.{TellsPlaces}
use Rattle.plan_tables.specs.Facts.{entities_row, facts_row}
use Rattle.plan_tables.specs.Functions.{TellsFunctions}
use Rattle.plan_tables.specs.Globals.{TellsGlobals}
use Rattle.plan_tables.specs.Interned.{TellsInterned}
use Rattle.plan_tables.specs.Items.{TellsItems}
use Rattle.plan_tables.specs.Kinds.{TellsKinds}
use Rattle.plan_tables.specs.Layouts.{TellsLayouts}
use Rattle.plan_tables.specs.Memories.{TellsMemories}
use Rattle.plan_tables.specs.Names.{TellsModuleNames, own_name}
use Rattle.plan_tables.specs.Structs.{TellsStructs}
use Rattle.plan_tables.specs.Tables.{TellsTables}
use Rattle.plan_tables.specs.Types.{TellsTypes}

-- the record represents the plan
pub record Tells (plan : Plan) (r : PlanRecord) : Type 0 where
  pub planned : (r.refusal ≡ 0) × (r.refusal_detail ≡ 0) × (r.refusal_line.now ≡ [])
  pub entities : r.entities ≡ entities_row plan.translation.module
  pub facts : r.facts ≡ facts_row plan.translation plan.types (pointer_of plan.offsets)
  pub context : TellsContext plan.offsets r.context
  pub types : TellsTypes plan.translation plan.types r.types
  pub kinds : TellsKinds plan.translation.module r.kinds
  pub memories : TellsMemories plan.translation r.memories
  pub tables : TellsTables plan.translation r.tables
  -- the regions of the context, the last one first
  pub regions : map region_told r.regions.now ≡ placed_back (size_of_context plan.offsets) (context_regions (pointer_of plan.offsets) (fields_of plan.offsets))
  pub functions : TellsFunctions plan.translation r.functions
  pub globals : TellsGlobals plan.translation r.globals
  -- the operators of each constant expression
  pub places : TellsPlaces plan.translation r.places
  pub names : TellsModuleNames plan.translation.module r.names
  pub module_text : r.module_text.now ≡ own_name plan.translation.module.strings plan.translation.module.name
  pub layouts : TellsLayouts plan.layouts r.layouts
  pub interned : TellsInterned plan.types r.interned
  -- the sizes and the fields of the structs that compiled code reads
  pub structs : TellsStructs (pointer_of plan.offsets) r.structs
  -- the items of the element segments that remain to be written, and of the passive ones
  pub items : TellsItems plan.translation r.items
  pub bodies : TellsBodies plan.translation r.bodies
  -- names of locals, and the locals of functions
  pub debug : TellsDebug plan.translation.debuginfo r.debug
