-- The values of a case in the order of the block: a sample of the formula.
use Rattle.std.specs.Prelude.{◌≡◌, ℕ, ◌↔◌, List, ◌++◌, Some}
use Rattle.logic_meaning.specs.Context.{Context}
use Rattle.logic_meaning.specs.Point.{Point, Of}
use Rattle.formula_laws.specs.StandsOnce.{StandsOnce}
use Rattle.logic_meaning.specs.Some.{Among}
use Rattle.logic_meaning.specs.Atom.{Atom}
use Rattle.logic_meaning.specs.Answer.{Answer}
use Rattle.logic_meaning.specs.Tree.{Tree, TrueAt}
use Rattle.shape_theory.specs.Simplifiable.{EquivalentUnder}
use Rattle.logic_meaning.specs.Cases.{Case, case_matrix, case_names}
use Rattle.case_theory.specs.PutThrough.{AreTrue}
use Rattle.case_theory.specs.CaseTree.{without_all, IsCaseTree}
use Rattle.logic_meaning.specs.Values.{Value, value_names}
use Rattle.logic_meaning.specs.Calculated.{values_from}
use Rattle.sample_reference.specs.TrueSample.{IsTrueSample}
use Rattle.case_theory.specs.Samples.{answer_steps, IsSampleable, AreKnown, AreTrueAnswers}

-- the same values in another order, of one name each
pub record AreReordered (values ordered : List Value) : Type 0 where
  pub once : StandsOnce (value_names values)
  pub same : (v : Value) → Among values v ↔ Among ordered v

-- Values that make the matrix true are a sample of the formula, in the order of its block. The matrix is equivalent to the case
-- matrix where the atoms of the theory without a name of the block are true.
abbrev pub CaseGivesSample : Context → Type 0
CaseGivesSample c = (theory : List Atom) (f matrix : Tree) (answers : List Answer) (p : Point ℕ) (values ordered : List Value) → Of c p → AreTrue theory p →
    EquivalentUnder c (without_all (case_names f) theory) (case_matrix f) matrix → AreTrueAnswers c answers matrix p values →
    AreReordered values ordered → value_names ordered ≡ case_names f → IsTrueSample c f p (Some ordered)

-- a case of a case tree, and a point at which the theory and the guard of the case are true
pub record IsTrueCase (c : Context) (theory : List Atom) (f matrix : Tree) (cases : List Case) (k : Case) (p : Point ℕ) : Type 0 where
  pub tree : IsCaseTree c theory f matrix cases
  pub among : Among cases k
  pub of_theory : Of c p
  pub theory_true : AreTrue theory p
  pub guard_true : TrueAt c k.guard p

-- Such a case can be sampled at the point,
abbrev pub CaseIsSampleable : Context → Type 0
CaseIsSampleable c = (theory : List Atom) (f matrix : Tree) (cases : List Case) (k : Case) (p : Point ℕ) → IsTrueCase c theory f matrix cases k p →
    IsSampleable c k.answers matrix p

-- the values are all those behind the known ones, and the ordered values are these in the order of the block
pub record IsOrderOf (f : Tree) (known all ordered : List Value) : Type 0 where
  pub values : List Value
  pub behind : all ≡ known ++ values
  pub same : (v : Value) → Among values v ↔ Among ordered v
  pub in_order : value_names ordered ≡ case_names f

-- and its calculated values, in the order of the block, are a sample of the formula.
abbrev pub CaseTreeGivesSample : Context → Type 0
CaseTreeGivesSample c = (theory : List Atom) (f matrix : Tree) (cases : List Case) (k : Case) (p : Point ℕ) (known all ordered : List Value) →
    IsTrueCase c theory f matrix cases k p → AreKnown c known p → values_from c (answer_steps c k.answers matrix) known ≡ Some all →
    IsOrderOf f known all ordered → IsTrueSample c f p (Some ordered)
