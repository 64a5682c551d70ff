-- Value types, the first few and the others.
use Rattle.std.proofs.Common.{◌≡◌, ℕ, List, ◌++◌, take, drop, ap, sym, ◌∙◌}
use Rattle.std.proofs.lemmas.Grind.{flat_map-append}
use Rattle.std.proofs.lemmas.List.{take-append-drop}
use Rattle.std.specs.Prelude.{codes}
use Rattle.wasm_types.specs.declared.value.WasmValType.{WasmValType}
use Rattle.wasm_types.specs.Texts.{spaced, val_text}

pub spaced_split : (n : ℕ) (types : List WasmValType)
    → spaced val_text (take n types) ++ spaced val_text (drop n types) ≡ spaced val_text types
spaced_split n types = sym (flat_map-append (λ ty. codes " " ++ val_text ty) (take n types) (drop n types)) ∙ ap (spaced val_text) (take-append-drop n types)
