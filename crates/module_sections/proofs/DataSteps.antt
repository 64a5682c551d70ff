-- Data segments, added one after another.
use Rattle.std.proofs.Common.{◌≡◌, ◌∙◌, ℕ, ◌+◌, List, [], ◌∷◌, ◌++◌, map, ap}
use Rattle.std.specs.List.{cons_option}
use Rattle.std.proofs.lemmas.List.{append-nil, map_push}
use Rattle.wasm_spec.specs.Module.{Segment}
use Rattle.form_reader.specs.declared.form.ConstExpr.{ConstExpr}
use Rattle.form_reader.specs.declared.form.DataKind.{DataKind}
use Rattle.form_reader.specs.declared.form.DataKind.TheVariants as kinds
use Rattle.form_reader.specs.Views.{data_kind_of}
use Rattle.wasm_index.specs.Index.{number_of}
use Rattle.wasm_convert.specs.Conversion.{LookUp}
use Rattle.wasm_convert.specs.Constants.{const_ops_of, expression_of}
use Rattle.wasm_module.specs.declared.memory_initialization.MemoryInitializer.{MemoryInitializer}
use Rattle.replay_spec.specs.Data.{active_of_kind}
use Rattle.replay_spec.specs.Held.{any_nulls, held_segment}
use Rattle.init_plan.specs.declared.translation.ModuleTranslation.{ModuleTranslation}
use Rattle.memory_images.specs.Views.{active_segment_of}
use Rattle.init_plan.specs.Views.{SameButPassive}
use Rattle.module_sections.specs.Initialisers.{passive_data_from}
use Rattle.module_sections.proofs.HeldExpressions.{seen-is}

-- an active segment more
pub active-added : (look : LookUp) (old new : List MemoryInitializer) (x : MemoryInitializer) (kind : DataKind) (memory : ℕ) (offset : ConstExpr)
    (bytes : List ℕ) → kind ≡ kinds.Active memory offset → new ≡ old ++ x ∷ [] → number_of x.memory_index ≡ memory
    → x.offset ≡ const_ops_of look offset.ops.items → x.bytes.now ≡ bytes
    → map active_segment_of new ≡ map active_segment_of old ++ map held_segment (cons_option (active_of_kind (data_kind_of kind) bytes) [])
active-added look old new x kind memory offset bytes is grows at place these =
    let seen : active_segment_of x ≡ record { memory = memory; offset = any_nulls offset.ops.items; bytes = bytes } =
    λ i. record { memory = at i; offset = (ap expression_of place ∙ seen-is look offset.ops.items) i; bytes = these i } in
    rw (grows, is) (cc (map_push active_segment_of old x, seen))

-- the passive data of one segment, and of those after it
pub passive_data-cons : (n : ℕ) (x : Segment) (xs : List Segment)
    → passive_data_from n (x ∷ xs) ≡ passive_data_from n (x ∷ []) ++ passive_data_from (n + 1) xs
passive_data-cons n x xs = simp append-nil

pub same-both : (a b c : ModuleTranslation) → SameButPassive a b → SameButPassive b c → SameButPassive a c
same-both a b c ab bc =
    let passed : ModuleTranslation → ModuleTranslation = λ t. record t { private_parts = record t.private_parts { passive_data = c.private_parts.passive_data } } in
    bc ∙ ap passed ab
