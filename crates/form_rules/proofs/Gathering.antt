-- Index spaces, gathered one import and one section at a time.
use Rattle.std.proofs.Common.{◌≡◌, ℕ, List, [], ◌∷◌, ◌++◌, map, refl, sym, ap, subst, ◌∙◌, append_assoc}
use Rattle.std.specs.List.{flat_map}
use Rattle.std.proofs.lemmas.List.{append-nil, map-append}
use Rattle.std.proofs.lemmas.List.Concat.{flat_map-append}
use Rattle.std.proofs.lemmas.List.Elements.{filter_map-append}
use Rattle.wasm_spec.specs.Module as plain
use Rattle.wasm_spec.specs.Module.{function_import, table_import, memory_import, global_import, tag_import, function_types_of_section, tables_of_section, memories_of_section, globals_of_section, tags_of_section}
use Rattle.wasm_spec.specs.declared.entities.TableType.{TableType}
use Rattle.wasm_spec.specs.declared.entities.GlobalType.{GlobalType}
use Rattle.form_reader.specs.declared.form.TableDef.{TableDef}
use Rattle.form_reader.specs.declared.form.GlobalDef.{GlobalDef}
use Rattle.form_reader.specs.Views.{table_of, global_of}
use Rattle.form_reader.specs.declared.customs.InputCustoms.{InputCustoms}
use Rattle.form_reader.specs.Input.{customs_in}
use Rattle.form_reader.proofs.CustomRuns.{none_listed}
use Rattle.form_rules.specs.declared.lists.Spaces.{Spaces}
use Rattle.form_rules.specs.Gathered.{AddsImports, AddsDefined}

-- ---- lists

-- a list that grew twice
pub grown : {A : Type 0} (a b c xs ys zs : List A) → b ≡ a ++ xs → c ≡ b ++ ys → zs ≡ xs ++ ys → c ≡ a ++ zs
grown {A = A} a b c xs ys zs first second both =
    second ∙ ap (λ (l : List A). l ++ ys) first ∙ append_assoc a xs ys ∙ ap (λ (l : List A). a ++ l) (sym both)

-- ---- imports

pub AddsImports-none : (s : Spaces) → AddsImports s s []
AddsImports-none s = record {
  functions = sym (append-nil s.functions.items);
  table_types = sym (append-nil s.table_types.items);
  memories = sym (append-nil s.memories.items);
  global_types = sym (append-nil s.global_types.items);
  tags = sym (append-nil s.tags.items);
}

pub AddsImports-then : (a b c : Spaces) (is js : List plain.Import) → AddsImports a b is → AddsImports b c js → AddsImports a c (is ++ js)
AddsImports-then a b c is js first second = record {
  functions = grown _ _ _ _ _ _ first.functions second.functions (filter_map-append (λ (i : plain.Import). function_import i.type) is js);
  table_types = grown _ _ _ _ _ _ first.table_types second.table_types (filter_map-append (λ (i : plain.Import). table_import i.type) is js);
  memories = grown _ _ _ _ _ _ first.memories second.memories (filter_map-append (λ (i : plain.Import). memory_import i.type) is js);
  global_types = grown _ _ _ _ _ _ first.global_types second.global_types (filter_map-append (λ (i : plain.Import). global_import i.type) is js);
  tags = grown _ _ _ _ _ _ first.tags second.tags (filter_map-append (λ (i : plain.Import). tag_import i.type) is js);
}

-- one import more of the remaining ones
pub AddsImports-more : (a b c : Spaces) (i : plain.Import) (left rest all : List plain.Import) → left ≡ i ∷ rest → AddsImports b c (i ∷ [])
    → ((d : Spaces) → AddsImports b d left → AddsImports a d all) → (d : Spaces) → AddsImports c d rest → AddsImports a d all
AddsImports-more a b c i left rest all at added before d others =
    before d (subst (AddsImports b d) (sym at) (AddsImports-then b c d (i ∷ []) rest added others))

-- ---- what is defined

pub AddsDefined-none : (s : Spaces) → AddsDefined s s []
AddsDefined-none s = record {
  functions = sym (append-nil s.functions.items);
  table_types = sym (append-nil s.table_types.items);
  memories = sym (append-nil s.memories.items);
  global_types = sym (append-nil s.global_types.items);
  tags = sym (append-nil s.tags.items);
}

-- a section without entries of these kinds
pub AddsDefined-then : (a b c : Spaces) (m n : plain.Module) → AddsDefined a b m → AddsDefined b c n → AddsDefined a c (m ++ n)
AddsDefined-then a b c m n first second = record {
  functions = grown _ _ _ _ _ _ first.functions second.functions (flat_map-append function_types_of_section m n);
  table_types = grown _ _ _ _ _ _ first.table_types second.table_types
      (ap (map (λ (t : plain.TableDef). t.type)) (flat_map-append tables_of_section m n) ∙ map-append (λ (t : plain.TableDef). t.type) (flat_map tables_of_section m) (flat_map tables_of_section n));
  memories = grown _ _ _ _ _ _ first.memories second.memories (flat_map-append memories_of_section m n);
  global_types = grown _ _ _ _ _ _ first.global_types second.global_types
      (ap (map (λ (g : plain.GlobalDef). g.type)) (flat_map-append globals_of_section m n) ∙ map-append (λ (g : plain.GlobalDef). g.type) (flat_map globals_of_section m) (flat_map globals_of_section n));
  tags = grown _ _ _ _ _ _ first.tags second.tags (flat_map-append tags_of_section m n);
}

pub types_of_tables : (ts : List TableDef) → map (λ (t : plain.TableDef). t.type) (map table_of ts) ≡ map (λ (t : TableDef). t.ty) ts
types_of_tables [] = refl
types_of_tables (t ∷ ts) = ap (λ (us : List TableType). t.ty ∷ us) (types_of_tables ts)

pub types_of_globals : (gs : List GlobalDef) → map (λ (g : plain.GlobalDef). g.type) (map global_of gs) ≡ map (λ (g : GlobalDef). g.ty) gs
types_of_globals [] = refl
types_of_globals (g ∷ gs) = ap (λ (us : List GlobalType). g.ty ∷ us) (types_of_globals gs)

-- some sections more of the remaining ones
pub AddsDefined-more : (a b c : Spaces) (ps left rest all : plain.Module) → left ≡ ps ++ rest → AddsDefined b c ps
    → ((d : Spaces) → AddsDefined b d left → AddsDefined a d all) → (d : Spaces) → AddsDefined c d rest → AddsDefined a d all
AddsDefined-more a b c ps left rest all at added before d others =
    before d (subst (AddsDefined b d) (sym at) (AddsDefined-then b c d ps rest added others))

nothing_added : {X Y : Type 0} (view : List X → List Y) (f : plain.Payload → List X) → ((name bytes : List ℕ) → f (plain.Custom name bytes) ≡ [])
    → view [] ≡ [] → (run : InputCustoms) (ys : List Y) → ys ≡ ys ++ view (flat_map f (customs_in run))
nothing_added {Y = Y} view f none nil run ys =
    sym (ap (λ xs. ys ++ view xs) (none_listed f none run) ∙ ap (λ (zs : List Y). ys ++ zs) nil ∙ append-nil ys)

-- custom sections define nothing
pub AddsDefined-customs : (s : Spaces) (run : InputCustoms) → AddsDefined s s (customs_in run)
AddsDefined-customs s run = record {
  functions = nothing_added (λ l. l) function_types_of_section (λ name bytes. refl) refl run s.functions.items;
  table_types = nothing_added (map (λ (t : plain.TableDef). t.type)) tables_of_section (λ name bytes. refl) refl run s.table_types.items;
  memories = nothing_added (λ l. l) memories_of_section (λ name bytes. refl) refl run s.memories.items;
  global_types = nothing_added (map (λ (g : plain.GlobalDef). g.type)) globals_of_section (λ name bytes. refl) refl run s.global_types.items;
  tags = nothing_added (λ l. l) tags_of_section (λ name bytes. refl) refl run s.tags.items;
}
