use Rattle.import_match.proofs.Engine.{same-indices}
use Rattle.import_match.proofs.laws.function_law.Goals as goal

pub returns : goal.returns
returns c = λ r a b l k listed listed' st st' i j less less'.
    let told = c.same_law.ensures r a b l k listed listed' st st' i j less less' in
    let same = same-indices r a b l k st st' i j less less' in
    (λ none. told.0 (same.0 none), λ equal. same.1 (told.1 equal))
