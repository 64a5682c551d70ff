use Rattle.std.proofs.Common.{◌≡◌, ◌∷◌, ℕ, List, refl, sym, subst}
use Rattle.std.proofs.lemmas.List.Elements.{All-cons}
use Rattle.std.specs.List.{All}
use Rattle.wasm_index.specs.declared.index.Index.{Index}
use Rattle.wasm_index.specs.declared.spaces.FuncSpace.{FuncSpace}
use Rattle.wasm_index.specs.Index.{number_of}
use Rattle.std.specs.BTreeMap.{BTreeMap}
use Rattle.module_customs.specs.Names.{Text}
use Rattle.plan_laws.specs.Kept.{Rises}
use Rattle.plan_laws.specs.Same.{local_names}
use Rattle.plan_laws.proofs.Rising.{rises}
use Rattle.plan_laws.proofs.kept.keep_locals.Goals as goal

abbrev Locals : Type 0
Locals = Index FuncSpace × BTreeMap ℕ Text

abbrev RisesAt : Locals → Type 0
RisesAt entry = Rises (local_names entry.1)

-- one more and those that remain
all_left : (left rest : List Locals) (x : Locals) → left ≡ x ∷ rest → RisesAt x → All RisesAt rest → All RisesAt left
all_left left rest x is here all = subst (All RisesAt) (sym is) (All-cons RisesAt x rest here all)

pub loop-locals-preserved : goal.loop-locals-preserved
loop-locals-preserved c = λ rest. c.loop-locals.invariant (all_left _ _ _ c.in-Some.ensures.steps c.keep_names.ensures rest)

pub returns-clause-functions : goal.returns-clause-functions
returns-clause-functions c = rises _ number_of local_names (λ a b. refl) c.args.names.now.entries c.len-count.ensures.ordered
