-- The laws of functions, startups and modules as data: each has a shape, and its view an inverse.
use Rattle.std.specs.Prelude.{List, [], ◌∷◌, ◌++◌, map}
use Rattle.std.proofs.Common.{◌≡◌, refl, ap}
use Rattle.type_spec.specs.Names.{alone-determined}
use Rattle.type_spec.specs.Shapes.{Shape, listed, erased}
use Rattle.type_spec.specs.TypeShapes.{both-edges, first-determined, second-determined}
use Rattle.wasm_types.specs.declared.index.EngineOrModuleTypeIndex.{EngineOrModuleTypeIndex}
use Rattle.wasm_types.specs.EntityShapes.{table_shape, global_shape, tag_shape}
use Rattle.wasm_types.specs.EntityViews.{table_back, global_back, tag_back}
use Rattle.wasm_types.specs.ViewsTell.{Back, all_back}
use Rattle.wasm_module.specs.declared.startup.ModuleStartup.{ModuleStartup}
use Rattle.wasm_module.specs.declared.startup.ModuleStartup.TheVariants as startup
use Rattle.wasm_module.specs.declared.module.Module.{Module}
use Rattle.wasm_module.specs.ModuleData.{FunctionData, StartupData, NoStartup, AlwaysStarts, StartsForMemories, ModuleData, type_of_space, function_of, startup_of, module_data_of}

-- ---- shapes

abbrev pub alone_shape : Shape (λ H R. R)
alone_shape = record {
  map = λ h f x. f x;
  edges = λ index x. x ∷ [];
  map_same = λ x. refl;
  map_twice = λ h h' f f' x. refl;
  edges_map = λ index index' h f each x. refl;
  determined = λ kind index tells x y frames all. alone-determined x y all;
}

pub function-determined : {R : Type 0} (x y : FunctionData R) → x.func_ref ≡ y.func_ref → x.signature ∷ [] ≡ y.signature ∷ [] → x ≡ y
function-determined x y func_ref all =
    let signature = alone-determined x.signature y.signature all in
    λ i. record { signature = signature i; func_ref = func_ref i }

abbrev pub function_shape : Shape (λ H R. FunctionData R)
function_shape = record {
  map = λ h f x. record { signature = f x.signature; func_ref = x.func_ref };
  edges = λ index x. x.signature ∷ [];
  map_same = λ x. refl;
  map_twice = λ h h' f f' x. refl;
  edges_map = λ index index' h f each x. refl;
  determined = λ kind index tells x y frames all. function-determined x y (ap (λ t. t.func_ref) frames) all;
}

abbrev pub map_startup : {R R' : Type 0} → (R → R') → StartupData R → StartupData R'
map_startup f NoStartup = NoStartup
map_startup f (AlwaysStarts x) = AlwaysStarts (f x)
map_startup f (StartsForMemories x) = StartsForMemories (f x)

abbrev pub startup_edges : {R : Type 0} → StartupData R → List R
startup_edges NoStartup = []
startup_edges (AlwaysStarts x) = x ∷ []
startup_edges (StartsForMemories x) = x ∷ []

pub startup-same : {R : Type 0} (x : StartupData R) → map_startup (λ (r : R). r) x ≡ x
startup-same NoStartup = refl
startup-same (AlwaysStarts x) = refl
startup-same (StartsForMemories x) = refl

pub startup-twice : {Q R S : Type 0} (f : Q → R) (g : R → S) (x : StartupData Q) → map_startup g (map_startup f x) ≡ map_startup (λ r. g (f r)) x
startup-twice f g NoStartup = refl
startup-twice f g (AlwaysStarts x) = refl
startup-twice f g (StartsForMemories x) = refl

pub startup-edges : {R S : Type 0} (f : R → S) (x : StartupData R) → startup_edges (map_startup f x) ≡ map f (startup_edges x)
startup-edges f NoStartup = refl
startup-edges f (AlwaysStarts x) = refl
startup-edges f (StartsForMemories x) = refl

pub startup-determined : {R : Type 0} (x y : StartupData R) → map_startup (erased {R = R}) x ≡ map_startup (erased {R = R}) y
    → startup_edges x ≡ startup_edges y → x ≡ y
startup-determined NoStartup NoStartup frames all = refl
startup-determined (AlwaysStarts x) (AlwaysStarts y) frames all = ap AlwaysStarts (alone-determined x y all)
startup-determined (StartsForMemories x) (StartsForMemories y) frames all = ap StartsForMemories (alone-determined x y all)
startup-determined x y frames all = cc

abbrev pub startup_shape : Shape (λ H R. StartupData R)
startup_shape = record {
  map = λ h f x. map_startup f x;
  edges = λ index x. startup_edges x;
  map_same = λ x. startup-same x;
  map_twice = λ h h' f f' x. startup-twice f f' x;
  edges_map = λ index index' h f each x. startup-edges f x;
  determined = λ kind index tells x y frames all. startup-determined x y frames all;
}

-- two parts, the edges of one before the edges of the other
abbrev pub both_shape : {T U : Type 0 → Type 0 → Type 0} → Shape T → Shape U → Shape (λ H R. T H R × U H R)
both_shape s u = record {
  map = λ h f x. (s.map h f x.0, u.map h f x.1);
  edges = λ index x. s.edges index x.0 ++ u.edges index x.1;
  map_same = λ {H} {R} x. λ i. (s.map_same {H = H} {R = R} x.0 i, u.map_same {H = H} {R = R} x.1 i);
  map_twice = λ h h' f f' x. λ i. (s.map_twice h h' f f' x.0 i, u.map_twice h h' f f' x.1 i);
  edges_map = λ index index' h f each x. both-edges s u index index' h f each x.0 x.1;
  determined = λ kind index tells x y frames all.
      let in_first = ap (λ t. t.0) frames in
      let in_second = ap (λ t. t.1) frames in
      let first = first-determined s u kind index tells x.0 y.0 x.1 y.1 in_first all in
      let second = second-determined s u kind index tells x.0 y.0 x.1 y.1 in_first all in_second in
      λ i. (first i, second i);
}

-- a part with another that has no references
abbrev pub beside_shape : {T : Type 0 → Type 0 → Type 0} (A : Type 0) → Shape T → Shape (λ H R. T H R × A)
beside_shape A s = record {
  map = λ h f x. (s.map h f x.0, x.1);
  edges = λ index x. s.edges index x.0;
  map_same = λ {H} {R} x. λ i. (s.map_same {H = H} {R = R} x.0 i, x.1);
  map_twice = λ h h' f f' x. λ i. (s.map_twice h h' f f' x.0 i, x.1);
  edges_map = λ index index' h f each x. s.edges_map index index' h f each x.0;
  determined = λ kind index tells x y frames all.
      let first = s.determined kind index tells x.0 y.0 (ap (λ t. t.0) frames) all in
      let second = ap (λ t. t.1) frames in
      λ i. (first i, second i);
}

-- types, functions, tables, globals, tags and startup, in this order
abbrev pub module_shape : Shape ModuleData
module_shape =
    both_shape (listed alone_shape) (both_shape (listed function_shape) (both_shape (listed table_shape)
    (both_shape (listed global_shape) (both_shape (listed tag_shape) (beside_shape Module startup_shape)))))

-- ---- inverses

pub function_back : Back function_of
function_back = record { back = λ x. record { signature = x.signature; func_ref = x.func_ref }; is = λ x. refl }

startup_from : StartupData EngineOrModuleTypeIndex → ModuleStartup
startup_from NoStartup = startup.None
startup_from (AlwaysStarts x) = startup.Always x
startup_from (StartsForMemories x) = startup.IfMemoriesNeedInit x

startup_from-is : (x : ModuleStartup) → startup_from (startup_of x) ≡ x
unfolding startup_from
startup_from-is startup.None = refl
startup_from-is (startup.Always x) = refl
startup_from-is (startup.IfMemoriesNeedInit x) = refl

pub startup_back : Back startup_of
startup_back = record { back = startup_from; is = startup_from-is }

pub type_back : Back type_of_space
type_back = record { back = λ x. x; is = λ x. refl }

pub module_back : Back module_data_of
module_back = record {
  back = λ x. record x.1.1.1.1.1.1 {
    types = (all_back type_back).back x.0;
    functions = (all_back function_back).back x.1.0;
    tables = (all_back table_back).back x.1.1.0;
    globals = (all_back global_back).back x.1.1.1.0;
    tags = (all_back tag_back).back x.1.1.1.1.0;
    startup = startup_from x.1.1.1.1.1.0;
  };
  is = λ m. λ i. record m {
    types = (all_back type_back).is m.types i;
    functions = (all_back function_back).is m.functions i;
    tables = (all_back table_back).is m.tables i;
    globals = (all_back global_back).is m.globals i;
    tags = (all_back tag_back).is m.tags i;
    startup = startup_from-is m.startup i;
  };
}
