-- The hints of sections, one after another.
use Rattle.std.proofs.Common.{◌≡◌, List, Option, Some, None, refl}
use Rattle.std.specs.Prelude.{unwrap_or}
use Rattle.std.specs.Option.{option_map}
use Rattle.std.specs.List.{cons_option}
use Rattle.module_customs.specs.Hints.{HintLists, last_or}

-- the entries that count before some sections, once those of one more are read
pub hints-after : {A : Type 0} (view : A → HintLists) (before : A) (o : Option A) (rest : List HintLists)
    → last_or (view before) (cons_option (option_map view o) rest) ≡ last_or (view (unwrap_or o before)) rest
hints-after view before None rest = refl
hints-after view before (Some x) rest = refl
