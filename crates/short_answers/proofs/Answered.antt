-- What the branches of a question say of its formulas.
use Rattle.std.proofs.Common.{◌≡◌, ℕ, List, [], ◌∷◌, ◌++◌, map, sym, subst}
use Rattle.logic_meaning.specs.Atom.{Atom}
use Rattle.logic_meaning.specs.Fold.{fold_list}
use Rattle.logic_meaning.specs.declared.junction.Junction.TheVariants.{Conjunction}
use Rattle.logic_meaning.specs.Some.{EachOf}
use Rattle.logic_meaning.specs.Tree.{Tree}
use Rattle.normal_atoms.specs.declared.atoms.Context as code
use Rattle.normal_atoms.specs.Atoms.{context_of, atom_of}
use Rattle.formula_tree.specs.declared.shape.Shape.{Shape}
use Rattle.formula_tree.specs.Trees.{members}
use Rattle.formula_store.specs.declared.id.FormulaId.{FormulaId}
use Rattle.virtual_subst.specs.Shared.{IsAtPlace}
use Rattle.shape_theory.specs.Simplifiable.{EquivalentUnder}
use Rattle.case_theory.specs.Under.{Lack}
use Rattle.case_theory.specs.PutThrough.{AreTrue}
use Rattle.branch_rounds.specs.declared.work.Work.{Work}
use Rattle.branch_rounds.specs.Branches.{Seen, AreBranchesOf}
use Rattle.short_answers.specs.declared.answer.Answer.{Answer}
use Rattle.short_answers.specs.declared.answer.Answer.TheVariants.{Nowhere, At, Unknown}
use Rattle.short_answers.specs.Asking.{IsAnswerTo, assumptions}
use Rattle.short_answers.specs.Branches.{IsToldBy}
use Rattle.short_answers.proofs.Nowhere.{matrix_never, never_together}
use Rattle.short_answers.proofs.Points.{branch_points_are}

-- no name is one of no atoms
pub all_lack : (ks : List Atom) (names : List ℕ) → ks ≡ [] → EachOf (Lack ks) names
all_lack ks [] e = tt
all_lack ks (x ∷ names) e = (subst (λ (ls : List Atom). Lack ls x) (sym e) tt, all_lack ks names e)

module _ (w u : Work) (same : u.context ≡ w.context) (none : map atom_of u.assumed.now ≡ []) (fs all : List Tree) (whole matrix : Tree) (listed : all ≡ assumptions w ++ fs) (folded : whole ≡ fold_list Conjunction (members all)) (pruned : EquivalentUnder (context_of u.context) [] whole matrix)
    (names : List ℕ) (nodes : List (Shape FormulaId)) (bs : List Seen) (are : AreBranchesOf u matrix names nodes bs) where
  pub answered : (a : Answer) → IsToldBy nodes bs a → IsAnswerTo w fs a
  answered Nowhere h =
      subst (λ (d : code.Context). IsAnswerTo (record w { context = d }) fs Nowhere) same
      (never_together w (context_of u.context) fs all whole listed folded (λ p o t. matrix_never u matrix names nodes bs are h p o (subst (λ (ks : List Atom). AreTrue ks p) (sym none) tt) ((pruned p o tt).0 t)))
  answered (At points) h = subst (λ (d : code.Context). EachOf (IsAtPlace d) points.items) same (branch_points_are u nodes matrix names bs points.items are h)
  answered Unknown h = tt
