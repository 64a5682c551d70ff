-- What each import of a planned module is given by the exports of another.
use Rattle.std.specs.Prelude.{◌≡◌, ℕ, List}
use Rattle.plan_text.specs.declared.plan.Plan.{Plan}
use Rattle.translate.specs.Options.{Options}
use Rattle.translate.specs.Planned.{IsPlanned}
use Rattle.type_registry.specs.declared.key.ModuleKey.{ModuleKey}
use Rattle.type_registry.specs.Keys.{key_number}
use Rattle.type_registry.specs.Registry.{RegistryState, registry_of}
use Rattle.type_registry.specs.Standing.{Stands, TellsTypes}
use Rattle.import_match.specs.Linking.{exported, wanted}
use Rattle.plan_link.specs.declared.answer.ImportAnswer.{ImportAnswer}
use Rattle.plan_link.specs.Answers.{import_answers}

-- some bytes have this plan, with some options
pub record IsSomePlan (plan : Plan) : Type 0 where
  pub options : Options
  pub bytes : List ℕ
  pub planned : IsPlanned options bytes plan

-- what each import of a plan is given by the exports of another, which are defined under a name
pub record IsLinked (exporter : Plan) (as_module : List ℕ) (importer : Plan) (answers : List ImportAnswer) : Type 0 where
  -- one registry holds the types of both
  pub registry : RegistryState
  pub first : ModuleKey
  pub second : ModuleKey
  pub exporter_types : Stands (registry_of registry) (key_number first) exporter.types
  pub importer_types : Stands (registry_of registry) (key_number second) importer.types
  -- so two types have one index exactly where they are equal by group and position
  pub tells : TellsTypes (registry_of registry) (key_number first) exporter.types (key_number second) importer.types
  -- with these indices each import is answered by the exports alone
  pub answered : answers
      ≡ import_answers (exported registry first exporter.translation.module as_module) (wanted registry second importer.translation.module)
