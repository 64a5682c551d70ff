-- Branch hints, read where the caller requires them.
use Rattle.std.proofs.Common.{◌≡◌, ◌∙◌, ℕ, Bool, true, false, List, [], ◌∷◌, map, None, refl, sym, ap, arith}
use Rattle.std.specs.Prelude.{nat_eq}
use Rattle.std.specs.Global.{Vec}
use Rattle.std.specs.BTreeMap.{BTreeMap}
use Rattle.std.specs.Map.{lookup}
use Rattle.std.specs.Option.{option_map}
use Rattle.wasm_spec.specs.Module as plain
use Rattle.wasm_index.specs.declared.index.Index.{Index}
use Rattle.wasm_index.specs.declared.spaces.FuncSpace.{FuncSpace}
use Rattle.wasm_index.specs.Index.{number_of}
use Rattle.module_customs.specs.Kept.{kept_hint}
use Rattle.custom_sections.specs.declared.hints.Hint.{Hint}
use Rattle.module_customs.specs.Hints.{HasFirst, branch_hint_of}
use Rattle.module_customs.specs.Names.{at_number}
use Rattle.init_plan.specs.declared.debug_info.BranchHint.{BranchHint}
use Rattle.init_plan.specs.declared.translation.ModuleTranslation.{ModuleTranslation}
use Rattle.init_plan.specs.Views.{hint_entries_of}
use Rattle.module_environ.specs.Customs.{hints_asked, HasHints}

abbrev pub Entries : Type 0
Entries = List (Index FuncSpace × Vec BranchHint)

abbrev pub seen : Index FuncSpace × Vec BranchHint → ℕ × List BranchHint
seen e = (number_of e.0, e.1.items)

-- a function has the hints of the entry that its number has
seen-at : (f : ℕ) (es : Entries) → option_map (λ (hints : Vec BranchHint). hints.items) (lookup (λ index. nat_eq f (number_of index)) es)
    ≡ lookup (nat_eq f) (map seen es)
seen-at f [] = refl
seen-at f (e ∷ es) = grind (arith, seen-at f es)

pub hints-set : (asked : Bool) (m : plain.Module) (t : ModuleTranslation) (kept : BTreeMap (Index FuncSpace) (Vec BranchHint))
    → hint_entries_of t ≡ map seen kept.entries → HasFirst (hints_asked asked m) (at_number number_of kept) → HasHints asked m t
hints-set asked m t kept same first f =
    seen-at f t.private_parts.branch_hints.entries ∙ ap (lookup (nat_eq f)) same ∙ sym (seen-at f kept.entries) ∙ first f

-- no hints of any function
none-kept : (f : ℕ) → kept_hint {H = List Hint} [] f ≡ None
unfolding kept_hint
none-kept f = grind arith

pub no-hints : (asked : Bool) → asked ≡ false → (m : plain.Module) (kept : BTreeMap (Index FuncSpace) (Vec BranchHint)) → kept.entries ≡ []
    → HasFirst (hints_asked asked m) (at_number number_of kept)
no-hints false is m kept empty f =
    ap (λ (es : Entries). option_map (λ (hints : Vec BranchHint). hints.items) (lookup (λ index. nat_eq f (number_of index)) es)) empty
    ∙ sym (ap (option_map (map branch_hint_of)) (none-kept f))
no-hints true is m kept empty f = absurd (cc)
