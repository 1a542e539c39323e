-- What is done with what a command gives, and which answers are never refused for their size.
use Rattle.std.specs.Prelude.{◌≡◌, ◌≤◌, ◌<◌, ℕ, List, ◌++◌, Bool, Option, Some, None, length, codes}
use Rattle.logic_meaning.specs.Answer.{Place}
use Rattle.logic_meaning.specs.Context.{Fields}
use Rattle.logic_meaning.specs.Sizes.{nodes}
use Rattle.logic_meaning.specs.Tree.{Tree, Trees}
use Rattle.logic_meaning.specs.Direct.{IsDirect, direct_answer}
use Rattle.language_meaning.specs.Trees.{FormulaTree}
use Rattle.logic_meaning.specs.Text.{tree_text}
use Rattle.logic_meaning.specs.Writing.{text_limit}
use Rattle.program_meaning.specs.declared.limit.TheConstants.{MOST_SUBFORMULAS}
use Rattle.program_meaning.specs.State.{State}
use Rattle.program_meaning.specs.FormulaAnswers.{negation_normal_of}

-- what is done with what a command gives: a name that it is bound to, and whether its line is printed
pub record Use : Type 0 where
  pub target : Option (List ℕ)
  pub printed : Bool

-- the formula is bound, and has more nodes than a bound formula may have distinct subformulas
abbrev pub HasManyNodes : Option (List ℕ) → Tree → Type 0
HasManyNodes None t = ⊥
HasManyNodes (Some x) t = MOST_SUBFORMULAS < nodes t

-- the line of a formula: its text, after the name that it is bound to
abbrev pub formula_line : Option (List ℕ) → List (List ℕ) → Tree → List ℕ
formula_line None names t = tree_text names t
formula_line (Some x) names t = x ++ codes " := " ++ tree_text names t

-- ---- direct formulas

-- Over the fields the negation normal form of the resolved formula is direct under the limit of nodes. The direct answer has a line within the limit of texts, after the name
-- that it is bound to, and where it is bound no more nodes than a bound formula may have distinct subformulas.
pub record IsDirectUse (f : FormulaTree) (s : State) (limit : ℕ) (u : Use) : Type 0 where
  pub name : ℕ
  pub members : Trees
  pub root : Place
  pub fields : s.context ≡ Fields
  pub direct : IsDirect limit (negation_normal_of s f) name members root
  pub short : length (formula_line u.target s.names (direct_answer name members root)) ≤ text_limit
  pub small : ¬ (HasManyNodes u.target (direct_answer name members root))
