-- The names that the name sections of a module give have no more bytes than its custom sections.
use Rattle.std.proofs.Common.{◌≤◌, ◌+◌, ℕ, Bool, true, false, List, [], ◌∷◌, ◌++◌, length, Option, Some, None, sum_by, sym, subst, arith}
use Rattle.std.specs.Prelude.{codes, nat_lt, if◌then◌else◌}
use Rattle.std.specs.Str.{bytes_eq}
use Rattle.std.proofs.lemmas.List.Sums.{sum_by-cons}
use Rattle.wasm_spec.specs.Module as plain
use Rattle.wasm_spec.specs.Module.{Payload, Custom}
use Rattle.custom_sections.specs.NameLists.{NameLists}
use Rattle.module_customs.specs.Names.{contents_of, names_in, names_below, names_behind, names_after, module_names}
use Rattle.module_customs.proofs.AsTold.{names_as_told}
use Rattle.plan_laws.proofs.ModuleContents.{custom_bytes}
use Rattle.plan_laws.proofs.NameBytes.{entry_bytes, names_bytes, joined-few, section-few}
use Rattle.plan_laws.proofs.SumLaws.{if_any, sum-filtered}

contents-few : (title : List ℕ) (p : Payload) → if_any length (contents_of title p) ≤ custom_bytes p
contents-few title (Custom name bytes) = by (bytes_eq name title) where
  by : (same : Bool) → if_any length (if same then Some bytes else None) ≤ length name + length bytes
  by true = omega arith
  by false = omega arith
contents-few title p = omega arith

given-few : (locals : Bool) (contents : Option (List ℕ)) → names_bytes (names_in locals contents) ≤ if_any length contents
given-few locals None = omega arith
given-few locals (Some bytes) =
    subst (λ (names : NameLists). names_bytes names ≤ length bytes) (sym (names_as_told locals bytes)) (section-few locals bytes)

below-few : (bound : ℕ) (names : NameLists) → names_bytes (names_below bound names) ≤ names_bytes names
below-few bound names = omega (arith, sum-filtered entry_bytes (λ e. nat_lt e.0 bound) names.functions)

behind-few : (locals : Bool) (before : List Payload) (p : Payload) → names_bytes (names_behind locals before p) ≤ custom_bytes p
behind-few locals before p =
    let contents = contents_of (codes "name") p in
    omega (arith, contents-few (codes "name") p, given-few locals contents, below-few (length (plain.functions before)) (names_in locals contents))

after-few : (locals : Bool) (before ps : List Payload) → names_bytes (names_after locals before ps) ≤ sum_by custom_bytes ps
after-few locals before [] = omega arith
after-few locals before (p ∷ ps) = omega (
  arith,
  behind-few locals before p,
  after-few locals (before ++ p ∷ []) ps,
  joined-few (names_behind locals before p) (names_after locals (before ++ p ∷ []) ps),
  sum_by-cons custom_bytes p ps,
)

pub module-names-few : (locals : Bool) (m : plain.Module) → names_bytes (module_names locals m) ≤ sum_by custom_bytes m
module-names-few locals m = after-few locals [] m
