-- Questions to the elimination, and what their answers say.
use Rattle.std.specs.Prelude.{◌≡◌, ℕ, List, map}
use Rattle.logic_meaning.specs.Context.{Context}
use Rattle.logic_meaning.specs.Formula.{One}
use Rattle.logic_meaning.specs.Point.{Point, Of}
use Rattle.logic_meaning.specs.Some.{EachOf}
use Rattle.logic_meaning.specs.Atom.{Atom}
use Rattle.logic_meaning.specs.Tree.{Tree, TrueAt}
use Rattle.formula_laws.specs.StandsOnce.{StandsOnce}
use Rattle.elimination_theory.specs.Theorems.{IsTidy}
use Rattle.normal_atoms.specs.Atoms.{context_of, atom_of}
use Rattle.formula_tree.specs.declared.shape.Shape.{Shape}
use Rattle.formula_store.specs.declared.id.FormulaId.{FormulaId}
use Rattle.formula_store.specs.Nodes.{tree, IsId}
use Rattle.logic_meaning.specs.declared.form.VarId.{VarId}
use Rattle.virtual_subst.specs.Shared.{IsAtPlace}
use Rattle.case_theory.specs.PutThrough.{AreTrue}
use Rattle.branch_rounds.specs.declared.work.Work.{Work}
use Rattle.branch_rounds.specs.Branches.{numbers}
use Rattle.branch_rounds.specs.Worked.{IsWork}
use Rattle.short_answers.specs.declared.answer.Answer.{Answer}
use Rattle.short_answers.specs.declared.answer.Answer.TheVariants.{Nowhere, At, Unknown}

-- the id is one of the nodes, and stands for a tidy formula
pub record IsTidyId (c : Context) (nodes : List (Shape FormulaId)) (id : FormulaId) : Type 0 where
  pub is : IsId nodes id
  pub tidy : IsTidy c (tree nodes id)

abbrev pub AreTidyIds : Context → List (Shape FormulaId) → List FormulaId → Type 0
AreTidyIds c nodes ids = EachOf (IsTidyId c nodes) ids

-- the assumptions, as formulas
abbrev pub assumptions : Work → List Tree
assumptions w = map (λ (a : Atom). One a) (map atom_of w.assumed.now)

-- the ids stand for the assumptions, and no name of the list stands twice
pub record IsAsking (w : Work) (assumed : List FormulaId) (names : List VarId) (nodes : List (Shape FormulaId)) : Type 0 where
  pub work : IsWork w
  pub are : AreTidyIds (context_of w.context) nodes assumed
  pub says : map (tree nodes) assumed ≡ assumptions w
  pub once : StandsOnce (numbers names)

-- no point of the theory at which the atoms are true makes all of the formulas true
abbrev pub NeverTogether : Context → List Atom → List Tree → Type 0
NeverTogether c ks fs = (p : Point ℕ) → Of c p → AreTrue ks p → ¬ (EachOf (λ f. TrueAt c f p) fs)

-- g is true where f and the atoms are
abbrev pub FollowsUnder : Context → List Atom → Tree → Tree → Type 0
FollowsUnder c ks f g = (p : Point ℕ) → Of c p → AreTrue ks p → TrueAt c f p → TrueAt c g p

-- a tidy formula that follows from f under the assumptions
pub record IsFollowing (w : Work) (f : Tree) (nodes : List (Shape FormulaId)) (id : FormulaId) : Type 0 where
  pub tidy : IsTidyId (context_of w.context) nodes id
  pub follows : FollowsUnder (context_of w.context) (map atom_of w.assumed.now) f (tree nodes id)

abbrev pub AreFollowing : Work → Tree → List (Shape FormulaId) → List FormulaId → Type 0
AreFollowing w f nodes ids = EachOf (IsFollowing w f nodes) ids

-- what the answer says of the formulas under the assumptions
abbrev pub IsAnswerTo : Work → List Tree → Answer → Type 0
IsAnswerTo w fs Nowhere = NeverTogether (context_of w.context) (map atom_of w.assumed.now) fs
IsAnswerTo w fs (At points) = EachOf (IsAtPlace w.context) points.items
IsAnswerTo w fs Unknown = Unit {0}
