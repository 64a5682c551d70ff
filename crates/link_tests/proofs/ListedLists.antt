-- The lists may be registered.
use Rattle.std.proofs.Common.{◌≡◌, ◌<◌, ℕ, [], refl, sym, subst, arith}
use Rattle.std.specs.List.{All}
use Rattle.std.proofs.lemmas.List.Elements.{All-nil, All-cons}
use Rattle.module_types.specs.TypeList.{TypeList, no_types}
use Rattle.module_types.specs.Listed.{Listed}
use Rattle.module_types.proofs.ListedLists.{listed}
use Rattle.link_tests.specs.Lists.{startup, twice}

none-below : (n : ℕ) → All (λ r. r < n) []
none-below n = All-nil (λ r. r < n)

pub none-listed : Listed no_types
none-listed = listed no_types (record { orderly = refl; earlier = tt; kinds = refl }) (omega arith)

pub startup-listed : Listed startup
startup-listed = listed startup (record { orderly = (refl, omega arith, refl); earlier = (none-below 1, tt); kinds = refl }) (omega arith)

pub twice-listed : Listed twice
twice-listed =
    listed twice (record { orderly = (refl, omega arith, (refl, omega arith, refl)); earlier = (none-below 1, (none-below 2, tt)); kinds = refl })
    (omega arith)

pub may_startup : (l : TypeList) → l ≡ startup → Listed l
may_startup l is = subst Listed (sym is) startup-listed

pub may_twice : (l : TypeList) → l ≡ twice → Listed l
may_twice l is = subst Listed (sym is) twice-listed

pub may_none : (l : TypeList) → l ≡ no_types → Listed l
may_none l is = subst Listed (sym is) none-listed
