-- Several groups in turn.
use Rattle.std.specs.Prelude.{ℕ, Bool, true, false, nat_eq, ◌<◌, List, [], ◌∷◌, length, All, if◌then◌else◌}
use Rattle.type_spec.specs.Interned.{Interned, Built, with_group}
use Rattle.module_types.specs.Builder.{Builder, interns}

-- new groups in turn
abbrev pub with_groups : Built → List (List Interned) → Built
with_groups b [] = b
with_groups b (ts ∷ tss) = with_groups (with_group b ts) tss

-- calls in turn: an id, and the group that it names
abbrev pub runs : Builder → List (ℕ × List Interned) → Builder
runs b [] = b
runs b (c ∷ cs) = runs (interns b c.0 c.1) cs

abbrev pub seen_in : ℕ → List ℕ → Bool
seen_in n [] = false
seen_in n (m ∷ ms) = if nat_eq m n then true else seen_in n ms

-- the groups whose ids come for the first time, in order
abbrev pub firsts : List ℕ → List (ℕ × List Interned) → List (List Interned)
firsts seen [] = []
firsts seen (c ∷ cs) = if seen_in c.0 seen then firsts seen cs else c.1 ∷ firsts (c.0 ∷ seen) cs

-- no group is empty
abbrev pub AllFilled : List (List Interned) → Type 0
AllFilled tss = All (λ ts. 0 < length ts) tss
