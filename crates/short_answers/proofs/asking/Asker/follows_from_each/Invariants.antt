use Rattle.std.proofs.Common.{◌≡◌, ◌≤◌, map, take, vec_len}
use Rattle.logic_meaning.specs.Some.{EachOf}
use Rattle.logic_meaning.specs.NegationNormal.{normal_form_of_not}
use Rattle.logic_meaning.specs.NormalForm.{negated_normal}
use Rattle.normal_atoms.specs.Atoms.{context_of, atom_of}
use Rattle.formula_tree.specs.Makers.{IsMade, Keeps}
use Rattle.formula_store.specs.declared.id.FormulaId.{FormulaId}
use Rattle.formula_store.specs.Nodes.{tree, IsId}
use Rattle.short_answers.specs.Asking.{FollowsUnder}
use Rattle.short_answers.specs.Candidates.{AreCandidates}
use Rattle.short_answers.proofs.asking.Asker.follows_from_each.Given as goal

abbrev pub invariant-loop-case : goal.invariant-loop-case
invariant-loop-case g l = record {
  kept : Keeps (IsId l.fn.store) (tree l.fn.store) (IsId l.store) (tree l.store);
  opposite : IsMade (IsId l.store) (tree l.store) l.not (normal_form_of_not negated_normal (tree l.fn.store l.formula));
  context : l.candidates.context ≡ l.fn.candidates.context;
  candidates : AreCandidates l.candidates.context l.candidates.atoms.items;
  few : vec_len l.candidates.atoms ≤ vec_len l.fn.candidates.atoms;
  follows : EachOf (λ (id : FormulaId). FollowsUnder (context_of l.self.work.now.context) (map atom_of l.self.work.now.assumed.now) (tree l.fn.store id) (tree l.fn.store l.formula)) (take l.case-index l.cases);
}
