use Rattle.std.proofs.Common.{◌∙◌, sym, ap, subst, ◌≡◌, Bool, List, get_or}
use Rattle.std.specs.Prelude.{IfSome, ℕ}
use Rattle.wasm_spec.specs.Module as plain
use Rattle.init_plan.specs.declared.translation.ModuleTranslation.{ModuleTranslation}
use Rattle.module_environ.specs.Customs.{OnlyCustomsChange}
use Rattle.module_sections.specs.Filling.{module_in, LeavesRest}
use Rattle.module_environ.specs.Pooled.{own_name}
use Rattle.module_sections.specs.Pooled.{with_texts, HasText}
use Rattle.module_sections.specs.Sections.{HasEntities, HasSections}
use Rattle.interned_types.proofs.DeclaredLooks.{looks-declared}
use Rattle.module_sections.proofs.FilledSections.{carried-looks}
use Rattle.module_environ.proofs.PooledNames.{pooled-all, length-own}
use Rattle.module_sections.proofs.GrownPool.{names-pooled, GrowsBy, grows-within, imports-grown, exports-grown, names-grown, pooled-grown}
use Rattle.module_environ.proofs.translating.fill_lists.OwnLists.{same-1-1}
use Rattle.module_environ.proofs.translating.fill_lists.Goals as goal

sections-named : (t u : ModuleTranslation) → OnlyCustomsChange t u → (debugged native : Bool) (m : plain.Module)
    → u.module.strings ≡ with_texts t.module.strings (own_name native m)
    → IfSome u.module.name (HasText u.module.strings) → HasSections debugged m t → HasSections debugged m u
sections-named t u same debugged native m put pooled s =
    let e : HasEntities m t = s.entities in
    let old : List (List ℕ) = t.module.strings in
    let new : List (List ℕ) = u.module.strings in
    let grows : GrowsBy 1 old new = grows-within 1 (own_name native m) old new put (length-own native m) in
    let initializers = t.module.initializers.items in
    let exports = t.module.exports.entries in
    subst (HasSections debugged m) (sym same) (record {
      entities = record {
        imports = imports-grown 1 old new grows initializers e.pooled.imports ∙ e.imports;
        exports = exports-grown 1 old new grows exports e.pooled.exports ∙ e.exports;
        tables = e.tables;
        memories = e.memories;
        globals = e.globals;
        start = e.start;
        pooled = record {
          imports = λ k d lt. names-grown 1 old new grows (get_or initializers k d) (e.pooled.imports k d lt);
          exports = λ k d lt. pooled-grown 1 old new grows (get_or exports k d).0 (e.pooled.exports k d lt);
          name = pooled;
        };
      };
      counts = s.counts;
      escapes = s.escapes;
      heap = s.heap;
      globals = s.globals;
      elements = s.elements;
      data_segments = s.data_segments;
    })

pub fill_sections-requires-clause-held : goal.fill_sections-requires-clause-held
fill_sections-requires-clause-held c = (_, c.requires.held)

pub fill_sections-requires-clause-looks : goal.fill_sections-requires-clause-looks
fill_sections-requires-clause-looks c =
    carried-looks _ _ _ same-1-1 (record { ref_ptr = _; now = c.in_ok-env.env })
    (looks-declared (module_in c.args.lists.now) c.requires.of_module.1.earlier _ c.requires.listed _ c.requires.built _ c.in_ok-env.ensures)

pub fill_customs-requires-clause-looks : goal.fill_customs-requires-clause-looks
fill_customs-requires-clause-looks c =
    carried-looks _ _ _ same-1-1 (record { ref_ptr = _; now = c.in_ok-env.env })
    (looks-declared (module_in c.args.lists.now) c.requires.of_module.1.earlier _ c.requires.listed _ c.requires.built _ c.in_ok-env.ensures)

pub fill_customs-requires-clause-few_texts : goal.fill_customs-requires-clause-few_texts
fill_customs-requires-clause-few_texts c =
    names-pooled (module_in c.args.lists.now) c.requires.gathered.few c.fill_sections.new.translation.module.strings c.in_ok-fill_sections.ensures.texts

pub returns-clause-sections : goal.returns-clause-sections
returns-clause-sections c =
    let tunables = c.args.tunables.now in
    let customs = c.in_ok-fill_customs.ensures in
    sections-named c.fill_sections.new.translation c.fill_customs.new.translation customs.same tunables.debug_guest tunables.debug_native
    (module_in c.args.lists.now) customs.texts customs.pooled c.in_ok-fill_sections.ensures.sections

pub returns-clause-strings : goal.returns-clause-strings
returns-clause-strings c =
    pooled-all c.args.tunables.now.debug_native (module_in c.args.lists.now) c.fill_sections.new.translation.module.strings
    c.fill_customs.new.translation.module.strings c.in_ok-fill_sections.ensures.texts c.in_ok-fill_customs.ensures.texts

pub returns-clause-imports : goal.returns-clause-imports
returns-clause-imports c =
    ap (λ (t : ModuleTranslation). t.debuginfo.wasm_file.imported_func_count) c.in_ok-fill_customs.ensures.same ∙ c.in_ok-fill_sections.ensures.imports

pub returns-clause-rest : goal.returns-clause-rest
returns-clause-rest c = subst (LeavesRest c.args.translation.now) (sym c.in_ok-fill_customs.ensures.same) c.in_ok-fill_sections.ensures.rest
