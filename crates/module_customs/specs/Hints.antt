-- The branch hints that the sections of hints of a module give (branch hinting, binary format).
use Rattle.std.specs.Prelude.{◌≡◌, ℕ, List, [], ◌∷◌, map, codes, Option}
use Rattle.std.specs.Global.{Vec}
use Rattle.std.specs.List.{filter_map}
use Rattle.std.specs.Option.{option_map, option_and_then}
use Rattle.wasm_spec.specs.Module as plain
use Rattle.custom_sections.specs.declared.hints.Hint.{Hint}
use Rattle.module_customs.specs.Told.{hints_told}
use Rattle.module_customs.specs.Kept.{kept_hint}
use Rattle.init_plan.specs.declared.debug_info.BranchHint.{BranchHint}
use Rattle.module_customs.specs.Names.{contents_of}

-- functions with their hints, in the order of the section
abbrev pub HintLists : Type 0
HintLists = List (ℕ × List Hint)

-- what the contents of a section of hints give: all, or with a fault anywhere nothing
abbrev pub hints_in : Option (List ℕ) → Option HintLists
hints_in contents = option_and_then hints_told contents

abbrev pub hint_lists : plain.Payload → Option HintLists
hint_lists p = hints_in (contents_of (codes "metadata.code.branch_hint") p)

-- the last of some, and the default where there is none
abbrev pub last_or : {X : Type 0} → X → List X → X
last_or x [] = x
last_or x (y ∷ ys) = last_or y ys

-- the hints of the last section without a fault
abbrev pub module_hints : plain.Module → HintLists
module_hints m = last_or [] (filter_map hint_lists m)

abbrev pub branch_hint_of : Hint → BranchHint
branch_hint_of h = record { func_offset = h.func_offset; taken = h.taken }

-- each function has the hints of its first entry
abbrev pub HasFirst : HintLists → (ℕ → Option (Vec BranchHint)) → Type 0
HasFirst entries kept = (f : ℕ) → option_map (λ hints. hints.items) (kept f) ≡ option_map (map branch_hint_of) (kept_hint entries f)
