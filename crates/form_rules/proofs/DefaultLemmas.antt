-- Which struct types have a default for each field.
use Rattle.std.proofs.Common.{◌≡◌, ◌↔◌, ◌∙◌, ℕ, zero, suc, ◌<◌, ◌&&◌, Bool, true, false, IsTrue, List, [], ◌∷◌, length, get_or, map, All, refl, sym, ap, arith}
use Rattle.std.specs.Prelude.{slice_get}
use Rattle.std.specs.Option.{option_map, unwrap_or}
use Rattle.std.specs.List.{list_all}
use Rattle.std.proofs.lemmas.List.Elements.{All-nil, All-cons, All-head, All-tail}
use Rattle.wasm_spec.specs.declared.types.FieldType.{FieldType}
use Rattle.wasm_spec.specs.TypeData.{field_of}
use Rattle.rule_spec.specs.Lists.{Declared}
use Rattle.rule_spec.specs.Typing.{has_default}
use Rattle.form_rules.specs.Defaults.{defaults_of}

all_true : (fs : List FieldType) → All (λ f. IsTrue (has_default (field_of f))) fs → list_all has_default (map field_of fs) ≡ true
all_true [] all = refl
all_true (f ∷ fs) all =
    let P : FieldType → Type 0 = λ g. IsTrue (has_default (field_of g)) in
    let first : has_default (field_of f) ≡ true = All-head P f fs all in
    let rest = all_true fs (All-tail P f fs all) in
    ap (λ b. b && list_all has_default (map field_of fs)) first ∙ rest

from_all : (fs : List FieldType) → list_all has_default (map field_of fs) ≡ true → All (λ f. IsTrue (has_default (field_of f))) fs
from_all [] is = All-nil (λ f. IsTrue (has_default (field_of f)))
from_all (f ∷ fs) is =
    let P : FieldType → Type 0 = λ g. IsTrue (has_default (field_of g)) in
    All-cons P f fs (left (has_default (field_of f)) (list_all has_default (map field_of fs)) is)
    (from_all fs (right (has_default (field_of f)) (list_all has_default (map field_of fs)) is)) where
      left : (a b : Bool) → a && b ≡ true → a ≡ true
      left true b is = refl
      left false b is = is

      right : (a b : Bool) → a && b ≡ true → b ≡ true
      right true b is = is
      right false b is = absurd (cc)

-- a test of each field
pub tells_defaults : (b : Bool) (fs : List FieldType) → IsTrue b ↔ All (λ f. IsTrue (has_default (field_of f))) fs → b ≡ list_all has_default (map field_of fs)
tells_defaults true fs tells = sym (all_true fs (tells.0 refl))
tells_defaults false fs tells = by_cases (list_all has_default (map field_of fs)) refl where
  by_cases : (a : Bool) → list_all has_default (map field_of fs) ≡ a → false ≡ list_all has_default (map field_of fs)
  by_cases true is = tells.1 (from_all fs is) ∙ sym is
  by_cases false is = sym is

-- ---- one type after another

-- the next type is recorded
pub noted_next : (ds : List Declared) (i : ℕ) → i < length ds
    → get_or (map (λ (d : Declared). defaults_of d.type.composite.inner) ds) i false
    ≡ unwrap_or (option_map defaults_of (option_map (λ (d : Declared). d.type.composite.inner) (slice_get ds i))) false
noted_next [] i lt = absurd (omega arith)
noted_next (d ∷ ds) zero lt = refl
noted_next (d ∷ ds) (suc i) lt = noted_next ds i (omega arith)
