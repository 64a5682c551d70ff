-- What the steps of linking a program leave.
use Rattle.std.specs.Prelude.{◌≡◌, ⊤, ℕ, List, Any}
use Rattle.std.specs.List.{AllZip}
use Rattle.type_registry.specs.declared.key.ModuleKey.{ModuleKey}
use Rattle.type_registry.specs.Registry.{RegistryState}
use Rattle.import_match.specs.Definitions.{Definition, IsDefined}
use Rattle.import_match.specs.Linking.{exported}
use Rattle.plan_link.specs.declared.program.ProgramModule.{ProgramModule}
use Rattle.plan_link.specs.declared.program_error.ProgramError.{ProgramError}
use Rattle.plan_link.specs.declared.program_error.ProgramError.TheVariants as refused
use Rattle.plan_link.specs.Linkable.{IsLinkable}
use Rattle.plan_link.specs.Program.{IsHeldIn, IsDuplicate}

-- its types may be registered, its exports defined and its imports resolved
abbrev pub IsLinkableModule : ProgramModule → Type 0
IsLinkableModule m = IsLinkable m.plan.now.translation.module m.plan.now.types

-- each module is held under its key
abbrev pub AreHeld : RegistryState → List ProgramModule → List ModuleKey → Type 0
AreHeld registry modules keys = AllZip (λ (m : ProgramModule) (key : ModuleKey). IsHeldIn registry (m, key)) modules keys

-- what a module exports is defined already, in part
abbrev pub IsTaken : RegistryState → List Definition → ProgramModule → ModuleKey → Type 0
IsTaken registry ds m key =
    Any (λ (d : Definition). IsDefined ds d.0) (exported registry key m.plan.now.translation.module m.name.now)

-- why the exports of the module at a position are not defined: some are defined already, or there
-- is no memory
abbrev pub IsRefusedAt : ℕ → Type 0 → ProgramError → Type 0
IsRefusedAt place Taken (refused.Duplicate k) = (k ≡ place) × Taken
IsRefusedAt place Taken (refused.TooManyTypes k) = ⊥
IsRefusedAt place Taken refused.OutOfMemory = ⊤

-- why held modules are not linked: two have an export of the same names, or there is no memory
abbrev pub IsUnlinked : List ProgramModule → ProgramError → Type 0
IsUnlinked modules (refused.Duplicate k) = IsDuplicate modules k
IsUnlinked modules (refused.TooManyTypes k) = ⊥
IsUnlinked modules refused.OutOfMemory = ⊤
