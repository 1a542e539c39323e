-- The formulas that commands may give.
use Rattle.std.specs.Prelude.{◌≡◌, ◌↔◌, ◌≤◌, ℕ, List, length}
use Rattle.std.specs.List.{AllByRecursion}
use Rattle.logic_meaning.specs.declared.junction.Junction.{Junction}
use Rattle.logic_meaning.specs.NegationNormal.{normal_form}
use Rattle.logic_meaning.specs.Point.{Of}
use Rattle.logic_meaning.specs.Every.{Every, EveryBound}
use Rattle.logic_meaning.specs.Shape.{IsQuantifierFree, IsPrenex, fewest_blocks}
use Rattle.logic_meaning.specs.Sizes.{nodes}
use Rattle.logic_meaning.specs.Tree.{Tree, IsFree, TrueAt}
use Rattle.logic_meaning.specs.NormalForm.{negated_normal, IsNormal}
use Rattle.logic_meaning.specs.Blocks.{block_count}
use Rattle.logic_meaning.specs.NewNames.{AddsNewNames}
use Rattle.logic_meaning.specs.Prenex.{prenex_of}
use Rattle.logic_meaning.specs.Renaming.{new_count}
use Rattle.language_meaning.specs.Forms.{OverflowsInRenaming}
use Rattle.language_meaning.specs.Names.{IsVariable}
use Rattle.language_meaning.specs.Trees.{FormulaTree, FormulaTrees}
use Rattle.language_meaning.specs.Value as written
use Rattle.language_meaning.specs.Resolving.{resolve, at_names, bound_truth}
use Rattle.logic_meaning.specs.Members.{HasTwoMembers}
use Rattle.logic_meaning.specs.Text.{tree_text}
use Rattle.logic_meaning.specs.Clean.{IsCleanForm}
use Rattle.logic_meaning.specs.PlainForms.{plain_form}
use Rattle.logic_meaning.specs.Measure.{size, atom_measure}
use Rattle.logic_meaning.specs.Trees.{IsReduced}
use Rattle.program_meaning.specs.State.{State, known}
use Rattle.program_meaning.specs.Assumptions.{Hold, assumed}

-- What follows is said of a state in which the variables of the command have their numbers.

-- the negation normal form of a resolved formula
abbrev pub negation_normal_of : State → FormulaTree → Tree
negation_normal_of s f = normal_form negated_normal (resolve s.context (known s) s.names f)

-- ---- prenex forms

-- The formula is the prenex form of the negation normal form. So it is prenex, with the fewest blocks that the nesting of the quantifiers allows, and true exactly
-- where the command's formula is, as it is written, at every point of the theory. Its free names are those of the resolved formula, its atoms are normal, and its lists
-- have two members at least. The negation normal form has no more nodes than the limit, and no number of a renamed atom passes the limit of numbers.
pub record IsPrenexAnswer (s : State) (limit : ℕ) (f : FormulaTree) (t : Tree) : Type 0 where
  pub form : t ≡ prenex_of s.context (length s.names) (negation_normal_of s f)
  pub prenex : IsPrenex t
  pub fewest : block_count t ≡ fewest_blocks (negation_normal_of s f)
  pub truth : (p : written.NamedPoint) → Of s.context p → written.TrueAt (bound_truth s.context (known s) s.names) s.context f p ↔ TrueAt s.context t (at_names s.names p)
  pub names : (n : ℕ) → IsFree t n ↔ IsFree (resolve s.context (known s) s.names f) n
  pub normal : Every (IsNormal s.context) t
  pub members : HasTwoMembers t
  pub small : nodes (negation_normal_of s f) ≤ limit
  pub fits : ¬ (OverflowsInRenaming s.context (length s.names) (negation_normal_of s f))

-- The names with the new ones of the prenex form of a resolved formula behind them. They are ones that a script can write, where the others are.
pub record HasNewNames (names : List (List ℕ)) (f : Tree) (after : List (List ℕ)) : Type 0 where
  pub added : AddsNewNames names (new_count (length names) (normal_form negated_normal f)) after
  pub variables : AllByRecursion IsVariable names → AllByRecursion IsVariable after

-- ---- simplification, clean forms and elimination

-- The formula is simplified under the assumptions: it is Reduced under them, and true exactly where the command's formula is, as it is written, at every
-- point of the theory where the assumptions are true. It is no larger than the negation normal form: it has no more nodes, no more places of atoms, no
-- longer text, and no other names, free or quantified. Its atoms are normal, and its lists have two members at least.
pub record IsSimplification (s : State) (f : FormulaTree) (given : FormulaTrees) (t : Tree) : Type 0 where
  pub reduced : IsReduced s.context t (assumed s given)
  pub truth : (p : written.NamedPoint) → Of s.context p → Hold s given p → written.TrueAt (bound_truth s.context (known s) s.names) s.context f p ↔ TrueAt s.context t (at_names s.names p)
  pub names : (n : ℕ) → IsFree t n → IsFree (negation_normal_of s f) n
  pub quantified : (n : ℕ) → EveryBound (λ x. ¬ (x ≡ n)) (negation_normal_of s f) → EveryBound (λ x. ¬ (x ≡ n)) t
  pub nodes : nodes t ≤ nodes (negation_normal_of s f)
  pub atoms : size atom_measure t ≤ size atom_measure (negation_normal_of s f)
  pub text : length (tree_text s.names t) ≤ length (tree_text s.names (negation_normal_of s f))
  pub normal : Every (IsNormal s.context) t
  pub members : HasTwoMembers t

-- The formula is a clean disjunctive form, where j is and, or a clean conjunctive form, and true exactly where the command's formula is, as it is written, at
-- every point of the theory. It has no other free names than the negation normal form, and no more nodes and no longer text than the plain form. Its atoms are
-- normal, and its lists have two members at least.
pub record IsCleanAnswer (s : State) (j : Junction) (f : FormulaTree) (t : Tree) : Type 0 where
  pub clean : IsCleanForm s.context j t
  pub truth : (p : written.NamedPoint) → Of s.context p → written.TrueAt (bound_truth s.context (known s) s.names) s.context f p ↔ TrueAt s.context t (at_names s.names p)
  pub names : (n : ℕ) → IsFree t n → IsFree (negation_normal_of s f) n
  pub nodes : nodes t ≤ nodes (plain_form j (negation_normal_of s f))
  pub text : length (tree_text s.names t) ≤ length (tree_text s.names (plain_form j (negation_normal_of s f)))
  pub normal : Every (IsNormal s.context) t
  pub members : HasTwoMembers t

-- The formula has no quantifier and no free name but those of the resolved formula. It is Reduced under the assumptions, and true exactly where the command's
-- formula is, as it is written, at every point of the theory where the assumptions are true. It has at most so many nodes, normal atoms, and lists of two members
-- at least.
pub record IsCondition (s : State) (limit : ℕ) (f : FormulaTree) (given : FormulaTrees) (t : Tree) : Type 0 where
  pub free : IsQuantifierFree t
  pub names : (n : ℕ) → IsFree t n → IsFree (resolve s.context (known s) s.names f) n
  pub reduced : IsReduced s.context t (assumed s given)
  pub truth : (p : written.NamedPoint) → Of s.context p → Hold s given p → written.TrueAt (bound_truth s.context (known s) s.names) s.context f p ↔ TrueAt s.context t (at_names s.names p)
  pub small : nodes t ≤ limit
  pub normal : Every (IsNormal s.context) t
  pub members : HasTwoMembers t
