-- The leading block of a formula, split from its matrix.
use Rattle.std.specs.Prelude.{◌≡◌, ℕ, [], nat_eq}
use Rattle.logic_meaning.specs.Some.{Among}
use Rattle.formula_laws.specs.StandsOnce.{StandsOnce}
use Rattle.logic_meaning.specs.Shape.{block_of, matrix_of}
use Rattle.logic_meaning.specs.Plain.{leading}
use Rattle.logic_meaning.specs.Tree.{Tree, IsFree}
use Rattle.logic_meaning.specs.Reference.{normal_tree, turned}
use Rattle.logic_meaning.specs.Cases.{case_sign, case_formula, case_matrix, case_names}
use Rattle.case_theory.specs.Block.{ex_all}

-- The names are those of the leading block of the negation normal form, each once, and the matrix is what stands behind it, or its
-- negation where the block is one of all. The block over the matrix is the formula whose cases are asked, and a free name of the
-- matrix is one of the block or of the formula.
pub record LeadingBlockIsSplit (f : Tree) : Type 0 where
  pub names : case_names f ≡ block_of nat_eq (normal_tree f) (leading (normal_tree f)) []
  pub matrix : case_matrix f ≡ turned (case_sign (normal_tree f)) (matrix_of nat_eq (normal_tree f) (leading (normal_tree f)) [])
  pub once : StandsOnce (case_names f)
  pub whole : ex_all (case_names f) (case_matrix f) ≡ case_formula f
  pub free : (y : ℕ) → IsFree (case_matrix f) y → ¬ (Among (case_names f) y) → IsFree f y
