-- What holds of each entry, where the entries are in sections.
use Rattle.std.proofs.Common.{◌≡◌, ◌↔◌, ℕ, Bool, true, false, List, [], ◌++◌, All, IsTrue, refl, sym, ap, subst, ◌∙◌}
use Rattle.std.proofs.lemmas.List.Concat.{flat_map-append}
use Rattle.std.specs.List.{flat_map}
use Rattle.std.proofs.lemmas.List.Elements.{All-nil, All-same}
use Rattle.wasm_spec.specs.Module as plain
use Rattle.form_reader.specs.declared.customs.InputCustoms.{InputCustoms}
use Rattle.form_reader.specs.Input.{customs_in}
use Rattle.form_reader.proofs.CustomRuns.{none_listed}
use Rattle.form_types.proofs.AllOf.{All-joined}

-- ---- loops over the sections, and over the entries of all sections

-- at the beginning all sections remain
pub left_parts : {X : Type 0} (P : X → Type 0) (f : plain.Payload → List X) (left all : plain.Module) → left ≡ all
    → All P (flat_map f left) ↔ All P (flat_map f all)
left_parts P f left all at = subst (λ (ps : plain.Module). All P (flat_map f ps) ↔ All P (flat_map f all)) (sym at) (λ here. here, λ here. here)

-- W says that all entries hold. While those of each section have held so far, W holds exactly where
-- those of the remaining sections hold
module _ {X : Type 0} (P : X → Type 0) (f : plain.Payload → List X) (W : Type 0) (left ps rest : plain.Module) (at : left ≡ ps ++ rest)
    (tells : All P (flat_map f left) ↔ W) where
  split : All P (flat_map f left) ↔ (All P (flat_map f ps) × All P (flat_map f rest))
  split = subst (λ (xs : List X). All P xs ↔ (All P (flat_map f ps) × All P (flat_map f rest))) (sym (ap (flat_map f) at ∙ flat_map-append f ps rest))
      (All-joined P (flat_map f ps) (flat_map f rest))

  -- those of one step more hold
  pub sections_more : All P (flat_map f ps) → All P (flat_map f rest) ↔ W
  sections_more here = (λ others. tells.0 (split.1 (here, others)), λ all. (split.0 (tells.1 all)).1)

  -- they fail
  pub sections_fail : (b : Bool) → b ≡ false → IsTrue b ↔ All P (flat_map f ps) → IsTrue false ↔ W
  sections_fail b is these = (λ answered. absurd cc, λ all. absurd (fails (these.1 (split.0 (tells.1 all)).0))) where
    fails : IsTrue b → ⊥
    fails holds = absurd cc

-- a run of custom sections has no entries that are checked
pub customs_hold : {X : Type 0} (P : X → Type 0) (f : plain.Payload → List X) → ((name bytes : List ℕ) → f (plain.Custom name bytes) ≡ [])
    → (run : InputCustoms) → IsTrue true ↔ All P (flat_map f (customs_in run))
customs_hold P f none run = (λ t. All-same P (flat_map f (customs_in run)) [] (none_listed f none run) (All-nil P), λ all. refl)
