use Rattle.std.proofs.Common.{sym, subst}
use Rattle.type_spec.specs.Interned.{Built}
use Rattle.module_types.specs.ListGroups.{IsWellNamed}
use Rattle.module_types.proofs.ListedLists.{listed}
use Rattle.type_registry.proofs.laws.listed_law.Goals as goal

pub returns : goal.returns
returns c = record {
  listed = listed;
  built = λ s ms tags startup earlier is few.
      let w = subst (λ (b : Built). IsWellNamed b) (sym is) (c.well_named_law.ensures ms earlier tags startup) in
      listed s.list (record { orderly = w.orderly; earlier = w.earlier; kinds = w.kinds }) few;
}
