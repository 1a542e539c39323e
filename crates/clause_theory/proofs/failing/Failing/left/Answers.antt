use Rattle.std.proofs.Common.{false, ◌∷◌, [], ◌++◌, take, get_or, sym, subst}
use Rattle.std.proofs.lemmas.List.{take_more}
use Rattle.clause_theory.specs.declared.clause.Literal.{Literal}
use Rattle.clause_theory.specs.declared.failing.Left.{Left}
use Rattle.clause_theory.specs.Marks.{Leaves}
use Rattle.clause_theory.proofs.Marked.{marked_more}
use Rattle.clause_theory.proofs.failing.Failing.left.Goals as goal
use Rattle.clause_theory.proofs.failing.Failing.left.Goals.{then-not-has, else-not-has}

pub loop-literal-preserved : goal.loop-literal-preserved
loop-literal-preserved c =
    let signs = c.args.self.now.signs.items in
    let ls = c.args.literals.now in
    let i = c.loop-literal.literal-index in
    let d : Literal = record { variable = 0; holds = false } in
    let l : Literal = get_or ls i d in
    let before = c.loop-literal.invariant in
    let more : Leaves signs c.if-not-has.left (take i ls ++ l ∷ []) =
    elim c.if-not-has.branch [
      | then-not-has w ↦ subst (λ (left : Left). Leaves signs left (take i ls ++ l ∷ [])) (sym w.left-is) (w.with-left.ensures signs (take i ls) before)
      | else-not-has w ↦ subst (λ (left : Left). Leaves signs left (take i ls ++ l ∷ [])) (sym w.left-is) (marked_more signs c.loop-literal.left (take i ls) l (c.has.ensures w.if-not-has.false) before)
    ] in
    subst (Leaves signs c.if-not-has.left) (sym (take_more ls i d c.loop-literal-test.true)) more
