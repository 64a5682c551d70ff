use Rattle.std.proofs.Common.{◌∙◌, length, refl, sym, ap, subst}
use Rattle.rule_spec.specs.Lists as rule
use Rattle.rule_spec.specs.Lists.{lists_of_module}
use Rattle.module_sections.specs.Filling.{module_in, FillsInitialisers}
use Rattle.std.specs.List.{flat_map}
use Rattle.module_sections.specs.EscapeLog.{EscapeLog}
use Rattle.module_sections.specs.Escapes.{referred, referred_if_any, item_functions}
use Rattle.module_sections.specs.Exported.{exported_functions}
use Rattle.module_sections.specs.Initialisers.{first_values, left_initialisers, active_items, passive_items}
use Rattle.module_sections.proofs.FilledInitialisers.{on_ok, noted_all, no_images_of}
use Rattle.module_sections.proofs.RuledSections.{table-initialisers, global-initialisers, elements-convert, segments-convert, exports-in-range}
use Rattle.module_sections.proofs.sections.fill_initialisers.Goals as goal

-- recording references does not change the number of functions

pub first_values-requires-clause-convertible : goal.first_values-requires-clause-convertible
first_values-requires-clause-convertible g c =
    let r = c.requires.gathered in
    table-initialisers (module_in c.args.lists.now) r.keeps r.few _ c.requires.looks.knows c.args.escaping.now.count
    (c.requires.functions ∙ ap (λ (l : rule.Lists). length l.functions) r.lists)

pub first_globals-requires-clause-convertible : goal.first_globals-requires-clause-convertible
first_globals-requires-clause-convertible g c =
    let r = c.requires.gathered in
    global-initialisers (module_in c.args.lists.now) r.keeps r.few _ c.requires.looks.knows c.first_values.new.escaping.count
    (ap (λ (f : EscapeLog). f.count) c.in_ok-values.ensures.noted ∙ c.requires.functions ∙ ap (λ (l : rule.Lists). length l.functions) r.lists)

pub convert_exports-requires-clause-in_range : goal.convert_exports-requires-clause-in_range
convert_exports-requires-clause-in_range g c =
    let r = c.requires.gathered in
    let known = (goal.TypeConvert-dyn g c.args.env.now).knows c.args.env.now.1 in
    exports-in-range (module_in c.args.lists.now) r.keeps r.few known c.requires.looks.knows c.first_globals.new.escaping.count
    (ap (λ (f : EscapeLog). f.count) c.in_ok-known.ensures.noted ∙ ap (λ (f : EscapeLog). f.count) c.in_ok-values.ensures.noted
    ∙ c.requires.functions ∙ ap (λ (l : rule.Lists). length l.functions) r.lists)

pub convert_elements-requires-clause-convertible : goal.convert_elements-requires-clause-convertible
convert_elements-requires-clause-convertible g c =
    let r = c.requires.gathered in
    elements-convert (module_in c.args.lists.now) r.keeps r.few _ c.requires.looks.knows c.convert_exports.new.escaping.count
    (ap (λ (f : EscapeLog). f.count) c.in_ok-translation-2.ensures.noted ∙ ap (λ (f : EscapeLog). f.count) c.in_ok-known.ensures.noted
    ∙ ap (λ (f : EscapeLog). f.count) c.in_ok-values.ensures.noted ∙ c.requires.functions ∙ ap (λ (l : rule.Lists). length l.functions) r.lists)

pub add_segments-requires-clause-convertible : goal.add_segments-requires-clause-convertible
add_segments-requires-clause-convertible g c =
    let r = c.requires.gathered in
    segments-convert (module_in c.args.lists.now) r.keeps r.few _ c.requires.looks.knows _ refl

pub returns : goal.returns
returns g c =
    let m = module_in c.args.lists.now in
    let l = lists_of_module m in
    let same = c.requires.looks.same in
    let h = c.in_ok-active.ensures.holds in
    let exports = c.in_ok-translation-2.ensures in
    on_ok c.add_segments.result c.add_segments.ensures.active c.add_segments.ensures.passive c.add_segments.ensures.unprocessed
    c.add_segments.ensures.same
    (λ active passive unprocessed last. subst (FillsInitialisers m c.args.escaping.now c.convert_elements.new.escaping c.args.translation.now) (sym last) (record {
      exports = exports.exports;
      pooled = exports.pooled;
      globals = record {
        known = c.in_ok-known.ensures.known;
        left = c.in_ok-known.ensures.left ∙ ap (λ look. left_initialisers look l.globals) same;
      };
      elements = record {
        first = c.in_ok-values.ensures.values ∙ ap (λ look. first_values look l.tables) same;
        active = h.active ∙ ap (λ look. active_items look l.elements) same;
        no_images = no_images_of _ l.tables c.in_ok-values.values _ c.in_ok-values.ensures.values _ c.len.ensures.length
            c.in_ok-translation.ensures;
        passive = h.passive ∙ ap (λ look. passive_items look l.elements) same;
        kinds = h.kinds;
        numbers = h.numbers;
      };
      unprocessed = unprocessed;
      active = active;
      passive = passive;
      noted = noted_all c.args.escaping.now c.first_values.new.escaping c.first_globals.new.escaping c.convert_exports.new.escaping
          c.convert_elements.new.escaping (flat_map (λ t. referred_if_any t.init) l.tables) (flat_map (λ g. referred g.init) l.globals)
          (exported_functions l.exports) (flat_map (λ e. item_functions e.items) l.elements) c.in_ok-values.ensures.noted c.in_ok-known.ensures.noted exports.noted
          c.in_ok-active.ensures.noted;
      same = refl;
    }))
