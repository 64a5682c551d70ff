-- The types that the record of a translated module names are among its interned types.
use Rattle.std.proofs.Common.{◌≡◌, ◌<◌, ◌≤◌, ℕ, ◌+◌, Bool, true, false, List, [], ◌∷◌, length, get_or, map, All, refl, ap, arith, length-append}
use Rattle.std.specs.List.{flat_map, enumerate_from}
use Rattle.std.proofs.lemmas.List.{length-map}
use Rattle.std.proofs.lemmas.List.Elements.{All-nil, All-cons, All-head, All-tail, All-map, All-same, All-weaker, All-append, All-from_get_or}
use Rattle.wasm_spec.specs.declared.types.UnpackedIndex.{UnpackedIndex}
use Rattle.wasm_spec.specs.declared.types.UnpackedIndex.TheVariants as unpacked
use Rattle.wasm_spec.specs.declared.entities.TableType.{TableType}
use Rattle.wasm_spec.specs.declared.entities.GlobalType.{GlobalType}
use Rattle.wasm_spec.specs.Module as plain
use Rattle.type_spec.specs.Names.{index_of as index_in}
use Rattle.type_spec.specs.Interned.{startup_type, taken}
use Rattle.type_spec.specs.Taken.{NameEarlier}
use Rattle.rule_spec.specs.declared.rules.Rule.TheVariants.{L2, L10}
use Rattle.rule_spec.specs.Lists.{Declared, declared_groups, lists_of_module}
use Rattle.rule_spec.specs.References.{RefersIn, ValueRefersIn}
use Rattle.rule_spec.specs.Rules.{Keeps}
use Rattle.rule_spec.specs.TypeRules.{NamesFunctionType}
use Rattle.form_types.specs.Placed.{placed_groups}
use Rattle.form_types.proofs.Ruled.{declared-types}
use Rattle.form_types.proofs.AllOf.{All-parts}
use Rattle.wasm_index.specs.Index.{index_of}
use Rattle.wasm_types.specs.declared.index.EngineOrModuleTypeIndex.{EngineOrModuleTypeIndex}
use Rattle.wasm_types.specs.declared.table.Table.{Table}
use Rattle.wasm_types.specs.declared.global.Global.{Global}
use Rattle.wasm_types.specs.declared.tag.Tag.{Tag}
use Rattle.wasm_types.specs.EntityData.{table_edges, global_edges, tag_edges, map_table, map_global}
use Rattle.wasm_types.specs.EntityShapes.{table_shape, global_shape}
use Rattle.wasm_types.specs.EntityViews.{table_of, global_of, tag_of}
use Rattle.wasm_convert.specs.Conversion.{table_type_of, global_type_of}
use Rattle.wasm_convert.specs.Known.{CanLookUp, Known}
use Rattle.wasm_module.specs.declared.function.FunctionType.{FunctionType}
use Rattle.wasm_module.specs.declared.startup.ModuleStartup.{ModuleStartup}
use Rattle.wasm_module.specs.declared.module.Module.{Module}
use Rattle.wasm_module.specs.ModuleData.{FunctionData, type_of_space, function_of, startup_of}
use Rattle.wasm_module.specs.ModuleShapes.{startup_edges}
use Rattle.module_types.proofs.NamingEarlier.{keeps-earlier}
use Rattle.interned_types.specs.Types.{declared, declared_type, type_index, interned_list, look_up_in, exception_at}
use Rattle.interned_types.specs.Tagged.{tags_of}
use Rattle.module_sections.specs.Entities.{function_types, tables_data, globals_data}
use Rattle.module_sections.specs.Escapes.{number_among}
use Rattle.module_environ.specs.Translation.{startup_when}
use Rattle.module_sections.proofs.Agreeing.{known-table, known-global, all-tables, all-globals}
use Rattle.interned_types.proofs.DeclaredKinds.{function-below}
use Rattle.interned_types.proofs.DeclaredLooks.{declared-long, declared-held}
use Rattle.replay_spec.specs.Startup.{Startup, Never}
use Rattle.init_plan.specs.Startup.{startup_with}
use Rattle.translate.specs.Options.{runs}
use Rattle.import_match.specs.Linking.{IsTypeBelow}
use Rattle.import_match.specs.ModuleTypes.{types_of}
use Rattle.plan_link.proofs.Excepted.{exception-below, taken-within}

-- what holds of each second part holds in a numbered list
all-numbered : (P : ℕ → Type 0) (n : ℕ) (xs : List ℕ) → All P xs → All (λ (f : ℕ × ℕ). P f.1) (enumerate_from n xs)
all-numbered P n [] all = All-nil (λ (f : ℕ × ℕ). P f.1)
all-numbered P n (x ∷ xs) all =
    All-cons (λ (f : ℕ × ℕ). P f.1) (n, x) (enumerate_from (n + 1) xs) (All-head P x xs all) (all-numbered P (n + 1) xs (All-tail P x xs all))

-- the type section, functions, tables, globals and tags of a record are those of a module
abbrev pub HasTypesOf : plain.Module → Module → Type 0
HasTypesOf m r = record {
  types : r.types ≡ map type_index (declared m);
  order : List ℕ;
  functions : r.functions ≡ function_types m order;
  tables : map table_of r.tables ≡ tables_data m;
  globals : map global_of r.globals ≡ globals_data m;
  tags : r.tags ≡ tags_of m;
}

module _ (m : plain.Module) (keeps : Keeps m) (startup : Bool) (count : ℕ) (counted : length (interned_list m startup).types ≡ count) where
  abbrev P : EngineOrModuleTypeIndex → Type 0
  P e = IsTypeBelow count e

  abbrev known_types : ℕ
  known_types = length (lists_of_module m).types

  near : NameEarlier 0 (placed_groups m)
  near = keeps-earlier m keeps

  -- without the startup type there are as many types, or one less
  least : length (interned_list m false).types ≤ count
  least = by startup counted where
    by : (s : Bool) → length (interned_list m s).types ≡ count → length (interned_list m false).types ≤ count
    by false is = omega (arith, is)
    by true is = omega (arith, is, length-append (interned_list m false).types (startup_type ∷ []))

  taken-below : length (taken (placed_groups m)).built.types ≤ count
  taken-below = omega (arith, least, taken-within m)

  declared-below : (i : ℕ) → i < length (plain.types m) → P (declared_type m i)
  declared-below i lt = omega (arith, declared-held m near i lt, taken-below)

  function-type-below : (i : ℕ) → NamesFunctionType (lists_of_module m) i → P (declared_type m i)
  function-type-below i named = declared-below i (function-below m i named)

  -- ---- the type section

  listed : All P (map type_index (declared m))
  listed =
      All-map P type_index (declared m)
      (All-from_get_or (λ k. P (type_index k)) (declared m) 0
      (λ i lt. declared-below i (omega (arith, lt, declared-long m near))))

  alone : (e : EngineOrModuleTypeIndex) → P e → All P (e ∷ [])
  alone e below = All-cons P e [] below (All-nil P)

  -- entities that are made of the module's name what each of these names
  made-below : {D T : Type 0} (edges : D → List EngineOrModuleTypeIndex) (make : T → D) (ds : List D) (ts : List T) → ds ≡ map make ts
      → All (λ t. All P (edges (make t))) ts → All P (flat_map edges ds)
  made-below edges make ds ts is all =
      (All-parts P edges ds).1 (All-same (λ d. All P (edges d)) ds (map make ts) is (All-map (λ d. All P (edges d)) make ts all))

  spaces-below : (es : List EngineOrModuleTypeIndex) → es ≡ map type_index (declared m)
      → All P (flat_map (λ (x : EngineOrModuleTypeIndex). x ∷ []) (map type_of_space es))
  spaces-below es is =
      made-below (λ (x : EngineOrModuleTypeIndex). x ∷ []) type_of_space (map type_of_space es) es refl
      (All-weaker P (λ x. All P (x ∷ [])) alone es (All-same P es (map type_index (declared m)) is listed))

  -- ---- functions

  abbrev function_in : List ℕ → ℕ × ℕ → FunctionType
  function_in order f = record { signature = declared_type m f.1; func_ref = index_of (number_among order f.0) }

  functions-below : (order : List ℕ) (fs : List FunctionType) → fs ≡ function_types m order
      → All P (flat_map (λ (f : FunctionData EngineOrModuleTypeIndex). f.signature ∷ []) (map function_of fs))
  functions-below order fs is =
      let Q : FunctionType → Type 0 = λ f. All P (f.signature ∷ []) in
      made-below (λ (f : FunctionData EngineOrModuleTypeIndex). f.signature ∷ []) function_of (map function_of fs) fs refl
      (All-same Q fs (function_types m order) is (All-map Q (function_in order) (enumerate_from 0 (plain.functions m))
      (all-numbered (λ i. All P (declared_type m i ∷ [])) 0 (plain.functions m)
      (All-weaker (NamesFunctionType (lists_of_module m)) (λ i. All P (declared_type m i ∷ []))
      (λ i named. alone (declared_type m i) (function-type-below i named)) (plain.functions m) (keeps L2).functions))))

  -- ---- tables and globals

  abbrev known : UnpackedIndex → Type 0
  known i = P (look_up_in m i).index

  knows : (i : ℕ) → i < known_types → known (unpacked.Module i)
  knows i lt =
      let long = length-map (declared_groups 0 (plain.groups m)) (λ (d : Declared). d.type) in
      declared-below i (omega (arith, lt, long, ap length (declared-types 0 (plain.groups m))))

  looked : (i : UnpackedIndex) → CanLookUp known i → known i
  looked (unpacked.RecGroup i) can = absurd can
  looked i can = can

  edges-below : (es : List UnpackedIndex) → Known known es → All P (map (λ i. (look_up_in m i).index) es)
  edges-below es all = All-map P (λ i. (look_up_in m i).index) es (All-weaker (CanLookUp known) known looked es all)

  table-below : (t : TableType) → RefersIn known_types t.element_type → All P (table_edges index_in (map_table (look_up_in m) (table_type_of t)))
  table-below t refers =
      All-same P _ _
      (table_shape.edges_map (λ (i : UnpackedIndex). i) (index_in {R = EngineOrModuleTypeIndex}) (look_up_in m) (λ i. (look_up_in m i).index) (λ a. refl) (table_type_of t))
      (edges-below (table_edges (λ i. i) (table_type_of t)) (known-table known known_types knows t refers))

  tables-below : (ts : List Table) → map table_of ts ≡ tables_data m → All P (flat_map (table_edges index_in) (map table_of ts))
  tables-below ts is =
      made-below (table_edges index_in) (λ (t : TableType). map_table (look_up_in m) (table_type_of t)) (map table_of ts) (plain.tables m) is
      (All-weaker (λ (t : TableType). RefersIn known_types t.element_type) _ table-below (plain.tables m) (all-tables known_types m (keeps L10)))

  global-below : (t : GlobalType) → ValueRefersIn known_types t.content_type → All P (global_edges index_in (map_global (look_up_in m) (global_type_of t)))
  global-below t refers =
      All-same P _ _
      (global_shape.edges_map (λ (i : UnpackedIndex). i) (index_in {R = EngineOrModuleTypeIndex}) (look_up_in m) (λ i. (look_up_in m i).index) (λ a. refl) (global_type_of t))
      (edges-below (global_edges (λ i. i) (global_type_of t)) (known-global known known_types knows t refers))

  globals-below : (ts : List Global) → map global_of ts ≡ globals_data m → All P (flat_map (global_edges index_in) (map global_of ts))
  globals-below ts is =
      made-below (global_edges index_in) (λ (t : GlobalType). map_global (look_up_in m) (global_type_of t)) (map global_of ts) (plain.globals m) is
      (All-weaker (λ (t : GlobalType). ValueRefersIn known_types t.content_type) _ global-below (plain.globals m) (all-globals known_types m (keeps L10)))

  -- ---- tags, each with the type of the objects that carry its exceptions

  abbrev tag_in : ℕ → Tag
  tag_in i = record { signature = declared_type m i; exception = type_index (exception_at m i) }

  tags-of-module : All (λ i. All P (tag_edges (tag_of (tag_in i)))) (plain.tags m)
  tags-of-module k d lt =
      let i = get_or (plain.tags m) k d in
      let carried : P (type_index (exception_at m i)) = omega (arith, exception-below m i (omega (arith, lt)), least) in
      All-cons P (declared_type m i) (type_index (exception_at m i) ∷ []) (function-type-below i ((keeps L2).tags k d lt))
      (alone (type_index (exception_at m i)) carried)

  tags-below : (ts : List Tag) → ts ≡ tags_of m → All P (flat_map tag_edges (map tag_of ts))
  tags-below ts is =
      let Q : Tag → Type 0 = λ t. All P (tag_edges (tag_of t)) in
      made-below tag_edges tag_of (map tag_of ts) ts refl (All-same Q ts (tags_of m) is (All-map Q tag_in (plain.tags m) tags-of-module))

  -- ---- startup

  last-below : length (interned_list m true).types ≡ count → All P (type_index (length (interned_list m false).types) ∷ [])
  last-below long = alone _ (omega (arith, long, length-append (interned_list m false).types (startup_type ∷ [])))

  pub startup-below : (s : ModuleStartup) → s ≡ startup_when m startup → All P (startup_edges (startup_of s))
  startup-below s is = rw is (by startup counted) where
    by : (b : Bool) → length (interned_list m b).types ≡ count → All P (startup_edges (startup_of (startup_when m b)))
    by false long = All-nil P
    by true long = last-below long

  -- the same of a startup that planning raised, with the last type
  pub raised-below : (k : Startup) → length (interned_list m (runs k)).types ≡ count
      → All P (startup_edges (startup_of (startup_with k (type_index (length (interned_list m false).types)))))
  raised-below Never long = All-nil P
  raised-below _ long = last-below long

  -- ---- all together

  pub all-below : (r : Module) → HasTypesOf m r → All P (startup_edges (startup_of r.startup)) → All (IsTypeBelow count) (types_of r)
  all-below r has started =
      All-append P _ _ (spaces-below r.types has.types) (All-append P _ _ (functions-below has.order r.functions has.functions)
      (All-append P _ _ (tables-below r.tables has.tables) (All-append P _ _ (globals-below r.globals has.globals)
      (All-append P _ _ (tags-below r.tags has.tags) started))))
