use Rattle.std.proofs.Common.{◌≡◌, List, Some, sym, subst, slice_get, refl, get_or}
use Rattle.std.proofs.lemmas.Option.{slice_get_read}
use Rattle.clause_theory.specs.declared.clause.Literal.{Literal}
use Rattle.clause_theory.specs.declared.failing.Left.TheVariants.{Nothing, One}
use Rattle.clause_theory.specs.Clauses.{FailsWith}
use Rattle.clause_theory.specs.Marks.{AreSound, Leaves}
use Rattle.clause_theory.proofs.UnitSteps.{mark_more, one_left, nothing_left}
use Rattle.clause_theory.proofs.following.has_conflict.Goals as goal

pub loop-hint-preserved : goal.loop-hint-preserved
loop-hint-preserved c = λ ls before.
    let clauses = c.args.clauses.now in
    let signs = c.loop-hint.failing.signs.items in
    let k = c.in-Some.clause.now in
    let m = c.in-One.literal in
    let found = c.in-Some.ensures.lookup in
    let there : slice_get clauses (get_or c.args.hints.now c.loop-hint.hint-index 0) ≡ Some k = slice_get_read clauses _ _ k refl found.3.0 (found.3.1 k) in
    let left : Leaves signs (One m) k.literals.items = subst (λ (xs : List Literal). Leaves signs (One m) xs) c.deref.ensures.value c.in-One.ensures in
    let sound = c.loop-hint.invariant ls before in
    let fails : FailsWith clauses ls c.turned.result = subst (FailsWith clauses ls) (sym c.turned.ensures) (one_left clauses ls signs sound _ k there m left) in
    subst (AreSound clauses ls) (sym c.mark.ensures) (mark_more clauses ls signs c.turned.result sound fails)

pub returns-in-Nothing : goal.returns-in-Nothing
returns-in-Nothing c = λ _ ls before.
    let clauses = c.args.clauses.now in
    let signs = c.loop-hint.failing.signs.items in
    let k = c.in-Some.clause.now in
    let found = c.in-Some.ensures.lookup in
    let there : slice_get clauses (get_or c.args.hints.now c.loop-hint.hint-index 0) ≡ Some k = slice_get_read clauses _ _ k refl found.3.0 (found.3.1 k) in
    let left : Leaves signs Nothing k.literals.items = subst (λ (xs : List Literal). Leaves signs Nothing xs) c.deref.ensures.value c.in-Nothing.ensures in
    nothing_left clauses ls signs (c.loop-hint.invariant ls before) _ k there left
