-- What a translation holds after its initialisers, exports and segments are filled in.
use Rattle.std.proofs.Common.{◌≡◌, ℕ, List, [], ◌++◌, length, map, Result, Ok, Err, replicate, ap, ◌∙◌, arith}
use Rattle.std.specs.Prelude.{OnOk}
use Rattle.std.specs.Option.{option_map}
use Rattle.std.proofs.lemmas.List.{length-map}
use Rattle.std.proofs.lemmas.Simd.{splat_is_map}
use Rattle.wasm_spec.specs.Module.{TableDef}
use Rattle.wasm_convert.specs.Conversion.{LookUp}
use Rattle.wasm_convert.specs.Constants.{const_ops_of}
use Rattle.wasm_index.specs.declared.index.Index.{Index}
use Rattle.wasm_index.specs.declared.spaces.FuncSpace.{FuncSpace}
use Rattle.wasm_module.specs.declared.table_initialization.TableInitialValue.{TableInitialValue}
use Rattle.module_sections.specs.EscapeLog.{EscapeLog, after_escapes}
use Rattle.module_sections.specs.Initialisers.{first_values, view_first_value}
use Rattle.module_sections.proofs.NotingEscapes.{firsts-append}

-- what follows from four facts of a value
pub on_ok : {T E A B C D P : Type 0} → (r : Result T E) → OnOk r A → OnOk r B → OnOk r C → OnOk r D → (A → B → C → D → P) → OnOk r P
on_ok (Ok x) a b c d f = f a b c d
on_ok (Err e) a b c d f = tt

-- the references of each part, recorded one after another
pub noted_all : (s a b d e : EscapeLog) (tables globals exports elements : List ℕ) → a ≡ after_escapes s tables → b ≡ after_escapes a globals
    → d ≡ after_escapes b exports → e ≡ after_escapes d elements → e ≡ after_escapes s (tables ++ globals ++ exports ++ elements)
noted_all s a b d e tables globals exports elements at bt dt et = rw (et, dt, bt, at) (simp firsts-append)

-- as many tables as values have no image
pub no_images_of : (look : LookUp) (tables : List TableDef) (values : List TableInitialValue) (images : List (List (Index FuncSpace)))
    → map view_first_value values ≡ first_values look tables → (n : ℕ) → n ≡ length values → images ≡ replicate n []
    → images ≡ map (λ table. []) tables
no_images_of look tables values images first n is none =
    let long = length-map tables (λ (t : TableDef). option_map (const_ops_of look) t.init) in
    none ∙ splat_is_map tables n [] (omega (arith, is, ap length first, long, length-map values view_first_value))
