-- The cases of the leading block: formulas without its quantifiers, each with places for its names.
use Rattle.std.specs.Prelude.{ℕ, Bool, true, false, List, [], ◌∷◌, nat_eq}
use Rattle.logic_meaning.specs.Context.{Context}
use Rattle.logic_meaning.specs.Formula.{All}
use Rattle.logic_meaning.specs.Shape.{block_of, matrix_of}
use Rattle.logic_meaning.specs.declared.quantifier.Quantifier.TheVariants.{Exists}
use Rattle.logic_meaning.specs.Answer.{Answer}
use Rattle.logic_meaning.specs.Tree.{Tree}
use Rattle.logic_meaning.specs.Answers.{answers_of}
use Rattle.logic_meaning.specs.Measured.{Outcome, then_of, done}
use Rattle.logic_meaning.specs.Reference.{Branch, normal_tree, turned, leading_branches}

-- where the guard is true, the answers make the matrix true
pub record Case : Type 0 where
  pub guard : Tree
  pub answers : List Answer

-- the case of a branch: the formula that is left guards the answers of the steps
abbrev pub case_of : Branch → Case
case_of b = record { guard = b.tree; answers = answers_of b.steps }

-- the same of each branch, in order
abbrev pub cases_of : List Branch → List Case
cases_of [] = []
cases_of (b ∷ bs) = case_of b ∷ cases_of bs

-- a formula that begins with all has the cases of its negation
abbrev pub case_sign : Tree → Bool
case_sign (All x f) = false
case_sign _ = true

-- the formula whose cases are asked: f itself, or its negation, in negation normal form
abbrev pub case_formula : Tree → Tree
case_formula f = turned (case_sign (normal_tree f)) (normal_tree f)

-- what stands in it behind the leading block, and the names of the block
abbrev pub case_matrix : Tree → Tree
case_matrix f = matrix_of nat_eq (case_formula f) Exists []

-- the names of the leading block, from the outside in
abbrev pub case_names : Tree → List ℕ
case_names f = block_of nat_eq (case_formula f) Exists []

-- the case list and its cost
abbrev pub reference_cases : Context → ℕ → Tree → Outcome (List Case × ℕ)
reference_cases c limit f = then_of (leading_branches c limit (case_sign (normal_tree f)) f 0) (λ r. done (cases_of r.0, r.1))
