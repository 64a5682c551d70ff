-- Interned indices tell declared types apart.
use Rattle.std.proofs.Common.{◌≡◌, ◌<◌, ℕ, length, arith}
use Rattle.std.specs.Prelude.{◌↔◌}
use Rattle.wasm_spec.specs.Module.{Module, types}
use Rattle.type_spec.specs.Equality.{SameType}
use Rattle.type_spec.specs.Taken.{NameEarlier}
use Rattle.rule_spec.specs.Rules.{Keeps}
use Rattle.form_types.specs.Placed.{placed_groups}
use Rattle.module_types.proofs.EqualLists.{declared}
use Rattle.module_types.proofs.NamingEarlier.{keeps-earlier}
use Rattle.interned_types.specs.Types.{interned_at}
use Rattle.interned_types.proofs.DeclaredLooks.{declared-long}

-- two declared types have one index exactly where they are equal
pub told-apart : (m : Module) → Keeps m → (i j : ℕ) → i < length (types m) → j < length (types m)
    → (interned_at m i ≡ interned_at m j) ↔ SameType (placed_groups m) (placed_groups m) i j
told-apart m keeps i j below_i below_j =
    let near : NameEarlier 0 (placed_groups m) = keeps-earlier m keeps in
    let long = declared-long m near in
    declared (placed_groups m) near i j (omega (arith, long, below_i)) (omega (arith, long, below_j))
