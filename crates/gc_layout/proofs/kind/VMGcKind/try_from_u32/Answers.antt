use Rattle.std.proofs.Common.{rules, tests}
use Rattle.std.proofs.lemmas.Iterator.{YieldsList-from_slice}
use Rattle.std.proofs.lemmas.Iterator.Consumers.{YieldsList-from_copied}
use Rattle.std.proofs.lemmas.Iterator.Search.{find_from_yields_List}
use Rattle.gc_layout.proofs.Found.{all_kinds, has_number, kind_found}
use Rattle.gc_layout.proofs.kind.VMGcKind.try_from_u32.Goals as goal

pub returns : goal.returns
returns c =
    kind_found c.args.x c.find.result
    (find_from_yields_List (has_number c.args.x) _ _ c.find.result c.find.ensures.ran (YieldsList-from_copied (YieldsList-from_slice all_kinds cc))
    (λ kind b q k. search (rules, tests)))
