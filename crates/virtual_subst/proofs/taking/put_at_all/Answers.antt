use Rattle.std.proofs.Common.{◌≡◌, false, subst}
use Rattle.std.specs.Prelude.{IfErr}
use Rattle.logic_meaning.specs.Some.{SomeOf}
use Rattle.logic_meaning.specs.Tree.{Tree}
use Rattle.normal_atoms.specs.Atoms.{context_of}
use Rattle.formula_store.proofs.Makes.{keeps_then}
use Rattle.nnf_trees.specs.Placed.{all_within}
use Rattle.test_points.specs.declared.points.TestPoint.{TestPoint}
use Rattle.test_points.specs.Points.{place_of}
use Rattle.virtual_subst.specs.declared.error.SubstError.TheVariants.{Overflow}
use Rattle.virtual_subst.proofs.taking.put_at_all.Goals as goal

pub put_each-requires-clause-id : goal.put_each-requires-clause-id
put_each-requires-clause-id g c = c.in_ok-truths.ensures.kept.is c.args.branch c.requires.id

pub returns-then-workers-eq1-clause-overflow : goal.returns-then-workers-eq1-clause-overflow
returns-then-workers-eq1-clause-overflow g c =
    subst (λ (f : Tree). IfErr c.put_each.result (λ e. e ≡ Overflow → SomeOf (λ (t : TestPoint). all_within (context_of c.args.context) t.name.number (place_of t) f ≡ false) c.args.points.now)) (c.in_ok-truths.ensures.kept.same c.args.branch c.requires.id)
    c.put_each.ensures.overflow

pub returns-then-workers-eq1-clause-kept : goal.returns-then-workers-eq1-clause-kept
returns-then-workers-eq1-clause-kept g c = keeps_then c.args.store.now c.of.new.formulas c.put_each.new.store c.in_ok-truths.ensures.kept c.put_each.ensures.kept

pub put_beside-requires-clause-id : goal.put_beside-requires-clause-id
put_beside-requires-clause-id g c lifetimes lives = c.in_ok-truths.ensures.kept.is c.args.branch c.requires.id

pub returns-else-workers-eq1-clause-overflow : goal.returns-else-workers-eq1-clause-overflow
returns-else-workers-eq1-clause-overflow g c =
    subst (λ (f : Tree). IfErr c.put_beside.result (λ e. e ≡ Overflow → SomeOf (λ (t : TestPoint). all_within (context_of c.args.context) t.name.number (place_of t) f ≡ false) c.args.points.now)) (c.in_ok-truths.ensures.kept.same c.args.branch c.requires.id)
    c.put_beside.ensures.overflow

pub returns-else-workers-eq1-clause-kept : goal.returns-else-workers-eq1-clause-kept
returns-else-workers-eq1-clause-kept g c = keeps_then c.args.store.now c.of.new.formulas c.put_beside.new.store c.in_ok-truths.ensures.kept c.put_beside.ensures.kept
