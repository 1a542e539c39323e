use Rattle.formula_resolving.proofs.Texts.{whole_numbered, ok_map}
use Rattle.formula_resolving.proofs.text.number_text.Goals as goal

pub returns-clause-numbered : goal.returns-clause-numbered
returns-clause-numbered g c = ok_map c.number_whole.result (λ n. whole_numbered _ _ _ n) c.number_whole.ensures.numbered
