use Rattle.std.proofs.Common.{◌≡◌, sym, ap, ◌∙◌, subst}
use Rattle.std.specs.Prelude.{IfOk, MatchOption}
use Rattle.logic_meaning.specs.Formula.{none, also}
use Rattle.logic_meaning.specs.Tree.{Trees}
use Rattle.formula_store.specs.Nodes.{tree}
use Rattle.branch_points.specs.Chosen.{conjuncts, HasNoEquation, IsRootAmong}
use Rattle.branch_points.proofs.FirstEquations.{alone_in}
use Rattle.branch_points.proofs.equations.conjoined_root.Goals as goal

pub returns-in_default : goal.returns-in_default
returns-in_default c =
    let t = tree c.args.store.now in
    let e : conjuncts (t c.args.id) ≡ also (t c.args.id) none = ap conjuncts c.shape.ensures.tree ∙ alone_in t c.shape.result.now c.in_default.not-And ∙ ap (λ f. also f none) (sym c.shape.ensures.tree) in
    subst (λ (fs : Trees). IfOk c.member_root.result (λ o. MatchOption o (HasNoEquation fs c.args.left.now) (IsRootAmong c.args.context fs c.args.left.now))) (sym e) c.member_root.ensures
