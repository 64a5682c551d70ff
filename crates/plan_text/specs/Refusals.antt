-- The line of each refusal.
use Rattle.std.specs.Prelude.{ℕ, List, [], ◌++◌, codes, decimal}
use Rattle.rule_spec.specs.Rules.{number_of}
use Rattle.wasm_spec.specs.declared.operators.What.{What}
use Rattle.wasm_spec.specs.declared.operators.What.TheVariants as what
use Rattle.plan_text.specs.declared.error.TranslateError.{TranslateError}
use Rattle.plan_text.specs.declared.error.TranslateError.TheVariants as refusal

abbrev pub name_of_spelling : What → List ℕ
name_of_spelling what.Component = codes "component"
name_of_spelling what.Shared = codes "shared"
name_of_spelling what.Supertypes = codes "supertypes"
name_of_spelling what.Operator = codes "operator"
name_of_spelling what.ExactImport = codes "exact import"
name_of_spelling what.InterfaceTypes = codes "interface types"

-- out of memory has no line
abbrev pub text_of_refusal : TranslateError → List ℕ
text_of_refusal refusal.Malformed = codes "refused malformed\n"
text_of_refusal (refusal.Invalid rule) = codes "refused invalid L" ++ decimal (number_of rule) ++ codes "\n"
text_of_refusal (refusal.Unsupported w) = codes "refused unsupported " ++ name_of_spelling w ++ codes "\n"
text_of_refusal refusal.TooLarge = codes "refused too large\n"
text_of_refusal refusal.OffsetOverflow = codes "refused offset overflow\n"
text_of_refusal refusal.OutOfMemory = []
