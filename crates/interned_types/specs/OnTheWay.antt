-- The state of a builder while it processes the types of a module, which stops early where memory
-- runs out.
use Rattle.std.specs.Prelude.{◌≡◌, ◌⊎◌, ℕ, List, length, map, take}
use Rattle.std.specs.List.{fold}
use Rattle.wasm_spec.specs.Module as plain
use Rattle.form_types.specs.Types.{TypesData}
use Rattle.form_types.specs.Numbered.{AreNumbered}
use Rattle.module_types.specs.Builder.{Builder, new_builder, excepts, starts}
use Rattle.module_types.specs.InTurn.{interns_type}
use Rattle.interned_types.specs.Types.{interned_at}

-- a new builder that has interned the first so many declared types, by their ids
abbrev pub after_types : TypesData → ℕ → Builder
after_types t count = fold (interns_type t) (new_builder t.validator) (take count t.declared)

-- a builder that has made the exception types of the first so many tags
abbrev pub after_tags : plain.Module → List ℕ → Builder → ℕ → Builder
after_tags m tags b count = fold excepts b (map (interned_at m) (take count tags))

-- the module's declared types by ids: some of them were interned, or all, and then exception types
-- were made, and then the startup type
pub record IsOnTheWay (m : plain.Module) (validator : ℕ) (b : Builder) : Type 0 where
  pub types : TypesData
  pub numbered : AreNumbered m types
  pub made : types.validator ≡ validator
  pub place :
      let groups = after_types types (length types.declared) in
      ((count : ℕ) × (b ≡ after_types types count))
      ⊎ ((count : ℕ) × (b ≡ after_tags m (plain.tags m) groups count))
      ⊎ (b ≡ starts (after_tags m (plain.tags m) groups (length (plain.tags m))))
