-- In a module that keeps the rules each reference names a type of its own group or of an earlier
-- one.
use Rattle.std.proofs.Common.{ℕ, ◌+◌, List, [], ◌∷◌, length, map, sym, subst}
use Rattle.std.specs.List.{All}
use Rattle.std.proofs.lemmas.List.{length-map}
use Rattle.std.proofs.lemmas.List.Elements.{All-weaker}
use Rattle.wasm_spec.specs.TypeData.{map_sub_type}
use Rattle.wasm_spec.specs.Module as plain
use Rattle.type_spec.specs.Taken.{NameEarlier}
use Rattle.rule_spec.specs.Lists.{declared_from, declared_groups, lists_of_module}
use Rattle.rule_spec.specs.TypeRules.{IsDeclaredWell}
use Rattle.rule_spec.specs.declared.rules.Rule.TheVariants.{L1}
use Rattle.rule_spec.specs.Rules.{Keeps}
use Rattle.form_types.specs.Below.{NamesBelow}
use Rattle.form_types.specs.Placed.{place_of, placed, placed_groups}
use Rattle.form_types.specs.Types.{NamedGroup}
use Rattle.form_types.proofs.AllOf.{All-joined}
use Rattle.form_types.proofs.Ruled.{placed-near}

named-earlier : (start : ℕ) (gs : List NamedGroup) → All NamesBelow (declared_groups start gs) → NameEarlier start (map placed gs)
named-earlier start [] all = tt
named-earlier start (g ∷ gs) all =
    let both = (All-joined NamesBelow (declared_from (start + length g) start g) (declared_groups (start + length g) gs)).0 all in (
      placed-near start g both.0,
      subst (λ n. NameEarlier (start + n) (map placed gs)) (sym (length-map g (map_sub_type place_of place_of))) (named-earlier (start + length g) gs both.1),
    )

pub keeps-earlier : (m : plain.Module) → Keeps m → NameEarlier 0 (placed_groups m)
keeps-earlier m keeps =
    named-earlier 0 (plain.groups m) (All-weaker (IsDeclaredWell (lists_of_module m)) NamesBelow
    (λ d is. record { indices = is.indices; supertype = is.supertype }) (declared_groups 0 (plain.groups m)) (keeps L1))
