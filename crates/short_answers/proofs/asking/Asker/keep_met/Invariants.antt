use Rattle.std.proofs.Common.{◌≡◌, ◌≤◌, ◌∷◌, [], map, take, true, vec_len}
use Rattle.logic_meaning.specs.Some.{EachOf}
use Rattle.normal_atoms.specs.Atoms.{context_of, atom_of}
use Rattle.formula_tree.specs.Makers.{Keeps}
use Rattle.formula_store.specs.declared.id.FormulaId.{FormulaId}
use Rattle.formula_store.specs.Nodes.{tree, IsId}
use Rattle.short_answers.specs.Asking.{NeverTogether}
use Rattle.short_answers.specs.Candidates.{AreCandidates}
use Rattle.short_answers.proofs.asking.Asker.keep_met.Given as goal

abbrev pub invariant-loop-case : goal.invariant-loop-case
invariant-loop-case g l = record {
  kept : Keeps (IsId l.fn.store) (tree l.fn.store) (IsId l.store) (tree l.store);
  context : l.candidates.context ≡ l.fn.candidates.context;
  candidates : AreCandidates l.candidates.context l.candidates.atoms.items;
  few : vec_len l.candidates.atoms ≤ vec_len l.fn.candidates.atoms;
  nowhere : l.nowhere ≡ true → EachOf (λ (id : FormulaId). NeverTogether (context_of l.self.work.now.context) (map atom_of l.self.work.now.assumed.now) (tree l.fn.store id ∷ [])) (take l.case-index l.cases);
}
