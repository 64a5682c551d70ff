-- What a translation holds before it is planned.
use Rattle.std.proofs.Common.{◌≡◌, [], refl, sym, ap, subst}
use Rattle.wasm_index.specs.declared.index.Index.{Index}
use Rattle.wasm_index.specs.declared.spaces.StaticModuleSpace.{StaticModuleSpace}
use Rattle.wasm_module.specs.declared.memory_initialization.MemoryInitialization.{MemoryInitialization}
use Rattle.wasm_module.specs.declared.memory_initialization.MemoryInitialization.TheVariants.{Segmented, Static}
use Rattle.init_plan.specs.declared.translation.ModuleTranslation.{ModuleTranslation}
use Rattle.wasm_module.specs.Record.{ModuleRecord}
use Rattle.init_plan.specs.Views.{images_of, ranges_of, IsSegmented, IsNewTranslation}

pub images_of-segmented : (m : MemoryInitialization) → IsSegmented m → images_of m ≡ []
images_of-segmented Segmented h = refl
images_of-segmented (Static images) h = absurd h

module _ (i : Index StaticModuleSpace) (t : ModuleTranslation) (h : IsNewTranslation i t) where
  pub new-ranges : ranges_of t.module ≡ []
  new-ranges = ap (λ (m : ModuleRecord). m.runtime_data) h.record_of_module

  pub new-segmented : IsSegmented t.module.memory_initialization
  new-segmented = subst (λ (m : ModuleRecord). IsSegmented m.memory_initialization) (sym h.record_of_module) tt
