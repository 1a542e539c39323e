use Rattle.std.proofs.Common.{subst, sym, Bool}
use Rattle.std.specs.Bool.{MatchBool}
use Rattle.formula_resolving.specs.MetCauses.{IsRefused}
use Rattle.formula_resolving.proofs.FirstCause.{first_refuses}
use Rattle.formula_resolving.proofs.causes.Causes.refuse.Goals as goal

pub returns : goal.returns
returns c =
    subst (λ (b : Bool). MatchBool b (IsRefused c.args.self c.args.height) (¬ (IsRefused c.args.self c.args.height))) (sym c.is_some.ensures)
    (first_refuses c.args.self c.args.height c.first.result c.first.ensures)
