use Rattle.std.proofs.Common.{◌≡◌}
use Rattle.logic_meaning.specs.Every.{EveryOf}
use Rattle.formula_laws.specs.TheoryAtoms.{AtomIn}
use Rattle.normal_atoms.specs.Atoms.{context_of}
use Rattle.logic_meaning.specs.Reference.{steps}
use Rattle.nnf_trees.specs.Nnfs.{AreProper}
use Rattle.reference_engine.specs.Told.{seen, all_bare, formulas_of, prefixed}
use Rattle.reference_engine.proofs.steps.steps.Given as goal

-- what is left and the steps of the branches left are those of all
abbrev pub invariant-loop-branch : goal.invariant-loop-branch
invariant-loop-branch l = record {
  can : (goal.iterator-loop-branch).can_next l.branch-iterator;
  finite : (goal.iterator-loop-branch).is_finite l.branch-iterator;
  told : prefixed (formulas_of l.left.items) (seen (steps (context_of l.setting.context) l.setting.limit l.x.number (all_bare (formulas_of l.branch-iterator.rest.items)) l.cost))
      ≡ seen (steps (context_of l.setting.context) l.setting.limit l.x.number (all_bare (formulas_of l.fn.branches.items)) l.fn.cost);
  left : AreProper l.left.items;
  rest : AreProper l.branch-iterator.rest.items;
  inside : EveryOf (AtomIn (context_of l.setting.context)) (formulas_of l.branch-iterator.rest.items);
}
