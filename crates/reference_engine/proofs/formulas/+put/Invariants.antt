use Rattle.std.proofs.Common.{◌≡◌, ◌≤◌, ◌+◌, ◌*◌, drop}
use Rattle.formula_laws.specs.TheoryAtoms.{AtomIn}
use Rattle.logic_meaning.specs.Every.{EveryOf}
use Rattle.logic_meaning.specs.Fold.{append}
use Rattle.logic_meaning.specs.Sizes.{nodes, all_nodes}
use Rattle.logic_meaning.specs.PutIn.{trees_put, trees_put_within}
use Rattle.normal_atoms.specs.Atoms.{context_of}
use Rattle.linear_forms.specs.Values.{point_of}
use Rattle.nnf_trees.specs.Nnfs.{nnf_of, nnfs_of, AreProper, HasModulus}
use Rattle.nnf_trees.proofs.Pieces.{Formulas_of}
use Rattle.reference_engine.specs.Put.{around}
use Rattle.reference_engine.proofs.formulas.+put.Given as goal

abbrev pub decreases-formula_put : goal.decreases-formula_put
decreases-formula_put l = 2 * nodes (nnf_of l.f.now)

abbrev pub decreases-members_put : goal.decreases-members_put
decreases-members_put l = 2 * all_nodes (nnfs_of l.fs.now) + 1

-- what is made and what the members left become are what all become, and within the limit are all where those left are
abbrev pub invariant-members_put-loop-f : goal.invariant-members_put-loop-f
invariant-members_put-loop-f l = record {
  left : append (Formulas_of l.made.items) (trees_put (context_of l.context) (point_of l.at) (around l.initial.names.items) (Formulas_of (drop l.f-index l.f-items)))
      ≡ trees_put (context_of l.context) (point_of l.at) (around l.initial.names.items) (nnfs_of l.fs);
  within : trees_put_within (context_of l.context) (point_of l.at) (around l.initial.names.items) (Formulas_of (drop l.f-index l.f-items))
      ≡ trees_put_within (context_of l.context) (point_of l.at) (around l.initial.names.items) (nnfs_of l.fs);
  moduli : EveryOf HasModulus (Formulas_of l.made.items);
  small : all_nodes (Formulas_of (drop l.f-index l.f-items)) ≤ all_nodes (nnfs_of l.fs);
  rest : AreProper (drop l.f-index l.f-items);
  in_context : EveryOf (AtomIn (context_of l.context)) (Formulas_of (drop l.f-index l.f-items));
  names : l.names.items ≡ l.initial.names.items;
}
