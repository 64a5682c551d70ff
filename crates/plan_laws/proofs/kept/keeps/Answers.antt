use Rattle.std.proofs.Common.{List, refl, subst}
use Rattle.std.specs.List.{All}
use Rattle.wasm_index.specs.declared.index.Index.{Index}
use Rattle.wasm_index.specs.declared.spaces.DefinedGlobalSpace.{DefinedGlobalSpace}
use Rattle.wasm_index.specs.Index.{number_of}
use Rattle.wasm_convert.specs.declared.values.GlobalConstValue.{GlobalConstValue}
use Rattle.plan_laws.specs.Kept.{IsSized}
use Rattle.plan_laws.proofs.Rising.{rises}
use Rattle.plan_laws.proofs.kept.keeps.Goals as goal

pub returns : goal.returns
returns c = record {
  names = rises _ number_of (λ text. text.now) (λ a b. refl) c.args.plan.now.translation.debuginfo.name_section.func_names.entries c.len-count.ensures.ordered;
  functions = c.keep_locals.ensures.functions;
  locals = c.keep_locals.ensures.locals;
  values = subst (λ (gs : List (Index DefinedGlobalSpace × GlobalConstValue)). All (λ g. IsSized g.1) gs) c.as_slice.ensures.value c.keep_sizes.ensures;
}
