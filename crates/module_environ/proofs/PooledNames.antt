-- The pool of a whole translation: the name of the module is its last text.
use Rattle.std.proofs.Common.{◌≡◌, ◌≤◌, ℕ, Bool, List, ◌++◌, length, refl, arith}
use Rattle.wasm_spec.specs.Module as plain
use Rattle.rule_spec.specs.Lists.{lists_of_module}
use Rattle.form_rules.specs.Names.{imported_names, exported_names}
use Rattle.module_environ.specs.Pooled.{own_name, pool_of}
use Rattle.module_sections.specs.Pooled.{with_texts}
use Rattle.module_sections.proofs.GrownPool.{texts-then}

pub length-own : (native : Bool) (m : plain.Module) → length (own_name native m) ≤ 1
length-own native m = grind arith

-- all names, the module's own last
pub pooled-all : (native : Bool) (m : plain.Module) (old new : List (List ℕ))
    → old ≡ with_texts (exported_names (lists_of_module m).exports) (imported_names m) → new ≡ with_texts old (own_name native m) → new ≡ pool_of native m
pooled-all native m old new first second =
    texts-then (exported_names (lists_of_module m).exports) old new (imported_names m) (own_name native m) (imported_names m ++ own_name native m)
    refl first second
