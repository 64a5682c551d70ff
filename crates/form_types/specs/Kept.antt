-- What a list of types keeps.
use Rattle.std.specs.Prelude.{◌^◌, ◌<◌, List, length, map}
use Rattle.wasm_spec.specs.declared.types.CoreTypeId.{CoreTypeId}
use Rattle.form_reader.specs.Views.{group_of}
use Rattle.form_types.specs.declared.validator.ValidatorId.{ValidatorId}
use Rattle.form_types.specs.declared.distinct.Distinct.{Distinct}
use Rattle.form_types.specs.Distinct.{KeepsGroups}
use Rattle.form_types.specs.Types.{TypesData, TypesAreSound}

-- what is kept, as the plain list
abbrev pub data_of : ValidatorId → Distinct → List CoreTypeId → TypesData
data_of validator distinct declared = record {
  validator = validator.0;
  groups = map group_of distinct.groups.items;
  declared = map (λ (id : CoreTypeId). id.0) declared;
}

pub record TypesAreKept (t : TypesData) (distinct : Distinct) : Type 0 where
  pub listed : KeepsGroups distinct t.groups
  pub few : length t.declared < 2 ^ 30
  pub sound : TypesAreSound t
