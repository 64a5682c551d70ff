use Rattle.std.proofs.Common.{◌≡◌, ◌∙◌, ℕ, List, [], Option, map, sym, ap, subst}
use Rattle.std.specs.List.{cons_option}
use Rattle.std.specs.Global.{Vec}
use Rattle.module_customs.specs.Names.{KeepsNames}
use Rattle.init_plan.specs.declared.debug_info.FunctionMetadata.{FunctionMetadata}
use Rattle.init_plan.specs.declared.translation.ModuleTranslation.{ModuleTranslation}
use Rattle.module_environ.specs.Customs.{HasCustoms, names_asked}
use Rattle.module_sections.specs.Filling.{module_in}
use Rattle.module_environ.specs.Metadata.{view_function}
use Rattle.module_environ.specs.Pooled.{own_name}
use Rattle.module_sections.specs.Pooled.{with_texts}
use Rattle.module_environ.proofs.AskedHints.{hints-set}
use Rattle.module_environ.proofs.customs.fill_customs.Goals as goal

pub returns-clause-texts : goal.returns-clause-texts
returns-clause-texts g c =
    let old = c.args.translation.now.module.strings in
    subst (λ (x : ModuleTranslation). x.module.strings ≡ with_texts old (own_name c.args.tunables.now.debug_native (module_in c.args.lists.now)))
    (sym c.set_branch_hints.ensures.same)
    (c.in_ok-translation.ensures.pool ∙ ap (λ (o : Option (List ℕ)). with_texts old (cons_option o [])) c.in_ok-names.ensures.module_name)

pub returns-clause-customs : goal.returns-clause-customs
returns-clause-customs g c =
    let m = module_in c.args.lists.now in
    let tunables = c.args.tunables.now in
    let names = c.asked_names.ensures m c.in_ok-names.ensures in
    subst (λ (x : ModuleTranslation). HasCustoms tunables m (record x { has_unparsed_debuginfo = c.has_debug_section-translation.result }))
    (sym c.set_branch_hints.ensures.same)
    (record {
      names = record {
        of_module = c.in_ok-translation.ensures.text ∙ c.in_ok-names.ensures.module_name;
        section = subst (KeepsNames (names_asked tunables.debug_native m)) (sym c.replace-no_names.ensures.after) names;
      };
      hints = hints-set tunables.branch_hinting m c.set_branch_hints.new.self c.in_ok-asked_hints.field-0 c.set_branch_hints.ensures.set
          c.in_ok-asked_hints.ensures;
      functions = ap (λ (fs : Vec FunctionMetadata). map view_function fs.items) c.replace-no_functions.ensures.after ∙ c.in_ok-functions.ensures;
      debug = c.has_debug_section-translation.ensures;
    })
