use Rattle.std.proofs.Common.{◌≡◌, ◌+◌, ◌<◌, ◌++◌, length, map, All}
use Rattle.std.specs.List.{flat_map, filter_map}
use Rattle.wasm_spec.specs.Module.{globals_of_section}
use Rattle.form_reader.specs.Views.{global_of}
use Rattle.form_reader.specs.SectionRows.{global_entry}
use Rattle.form_rules.specs.Source.{source_module}
use Rattle.form_rules.specs.Walk.{walk_left}
use Rattle.replay_spec.specs.Globals.{simple_of, kept_of}
use Rattle.module_sections.specs.Convertible.{IsConvertible}
use Rattle.module_sections.specs.Escapes.{referred}
use Rattle.module_sections.specs.EscapeLog.{after_escapes}
use Rattle.module_sections.specs.FirstGlobals.{seen_globals, view_known, view_left}
use Rattle.module_sections.specs.Initialisers.{known_values, left_initialisers}
use Rattle.module_sections.proofs.GatheredGlobals.{converted, next_initialisers}
use Rattle.module_sections.proofs.globals.first_globals.Given as goal

-- with what the remaining globals give, all are gathered
abbrev pub invariant-loop-globals : goal.invariant-loop-globals
invariant-loop-globals g l =
    let env = goal.TypeConvert-dyn g l.env.now in
    let look = env.look_up l.env.now.1 in
    let all = flat_map globals_of_section (source_module l.source) in
    let globals = walk_left global_entry.read global_of globals_of_section l.globals in
    record {
      convertible : All (λ g. IsConvertible (env.knows l.env.now.1) l.initial.escaping.count g.init) globals;
      few : seen_globals l.first + length globals < 4294967295;
      known : view_known l.first ++ filter_map simple_of (next_initialisers l.first globals) ≡ known_values all;
      left : view_left l.first ++ map (converted look) (filter_map kept_of (next_initialisers l.first globals)) ≡ left_initialisers look all;
      noted : after_escapes l.escaping (flat_map (λ g. referred g.init) globals)
          ≡ after_escapes l.initial.escaping (flat_map (λ g. referred g.init) all);
    }

-- the remaining globals
abbrev pub decreases-loop-globals : goal.decreases-loop-globals
decreases-loop-globals g l = length (walk_left global_entry.read global_of globals_of_section l.globals)
