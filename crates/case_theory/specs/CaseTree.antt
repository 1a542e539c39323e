-- What elimination promises: cases of the leading block of a formula, under assumptions.
use Rattle.std.specs.Prelude.{ℕ, Bool, true, false, ◌↔◌, List, [], ◌∷◌}
use Rattle.logic_meaning.specs.Context.{Context}
use Rattle.logic_meaning.specs.Point.{Point, Of}
use Rattle.logic_meaning.specs.Formula.{Not, Or}
use Rattle.logic_meaning.specs.Some.{Among, EachOf}
use Rattle.formula_laws.specs.StandsOnce.{StandsOnce}
use Rattle.logic_meaning.specs.Atom.{Atom}
use Rattle.logic_meaning.specs.Answer.{Answer, Holds}
use Rattle.logic_meaning.specs.Tree.{Tree, TrueAt, IsFree}
use Rattle.logic_meaning.specs.BothTheories.{IsPlaceIn}
use Rattle.logic_meaning.specs.AtomKit.{without}
use Rattle.logic_meaning.specs.Contained.{contains}
use Rattle.shape_theory.specs.Simplifiable.{EquivalentUnder}
use Rattle.logic_meaning.specs.Reference.{normal_tree}
use Rattle.logic_meaning.specs.Cases.{Case, case_sign, case_matrix, case_names}
use Rattle.elimination_theory.specs.CasesOver.{AreOver}
use Rattle.elimination_theory.specs.Theorems.{IsTidy}
use Rattle.logic_meaning.specs.AnswerParts.{guards_of, answer_names}
use Rattle.case_theory.specs.PutThrough.{AreTrue, Fit, FitAt}

-- the atoms that have no name of the block
abbrev pub without_all : List ℕ → List Atom → List Atom
without_all [] ks = ks
without_all (x ∷ xs) ks = without contains x (without_all xs ks)

-- the names are those of the block, each once, in any order
pub record NameBlock (block names : List ℕ) : Type 0 where
  pub once : StandsOnce names
  pub same : (y : ℕ) → Among names y ↔ Among block y

-- Where the atoms ks are true: the guard is true exactly where the answers make the matrix true; they answer each name of the
-- block once, at places of the theory, over free names of f and names that are answered before them; their periods fit the
-- matrix. The guard is tidy and has free names of f alone.
pub record IsCaseUnder (c : Context) (ks : List Atom) (f matrix : Tree) (block : List ℕ) (k : Case) : Type 0 where
  pub exact : (p : Point ℕ) → Of c p → AreTrue ks p → Holds c k.answers matrix p ↔ TrueAt c k.guard p
  pub answered : NameBlock block (answer_names k.answers)
  pub places : EachOf (λ (a : Answer). IsPlaceIn c a.place) k.answers
  pub over : AreOver (IsFree f) k.answers
  pub fit : Fit c ks k.answers matrix
  pub tidy : IsTidy c k.guard
  pub names : (y : ℕ) → IsFree k.guard y → IsFree f y

-- where the atoms are true: for true g is equivalent to f, for false to its negation
abbrev pub SaysUnder : Context → List Atom → Bool → Tree → Tree → Type 0
SaysUnder c ks true f g = EquivalentUnder c ks f g
SaysUnder c ks false f g = EquivalentUnder c ks (Not f) g

-- Cases of f under a theory, of which only the members without a name of the block are used: the matrix is equivalent to what
-- stands behind the leading block of f, or of its negation where f begins with all; each case is exact for it; and together the
-- guards say f, or its negation.
pub record IsCaseTree (c : Context) (theory : List Atom) (f matrix : Tree) (cases : List Case) : Type 0 where
  pub means : EquivalentUnder c (without_all (case_names f) theory) (case_matrix f) matrix
  pub tidy : IsTidy c matrix
  pub each : EachOf (IsCaseUnder c (without_all (case_names f) theory) f matrix (case_names f)) cases
  pub together : SaysUnder c (without_all (case_names f) theory) (case_sign (normal_tree f)) f (Or (guards_of cases))

-- Where the whole theory is true at a point, the periods of each case fit the matrix there.
abbrev pub CasesFitAt : Context → Type 0
CasesFitAt c = (theory : List Atom) (f matrix : Tree) (cases : List Case) (k : Case) (p : Point ℕ) → IsCaseTree c theory f matrix cases → Among cases k → Of c p → AreTrue theory p →
    FitAt c k.answers matrix p
