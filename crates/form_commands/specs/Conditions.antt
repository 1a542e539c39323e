-- Conditions: formulas without quantifiers that say what a formula says where some atoms are true.
use Rattle.std.specs.Prelude.{◌≡◌, ◌⊎◌, ◌≤◌, ◌<◌, ℕ, Bool, true, false, List, length}
use Rattle.logic_meaning.specs.Context.{Context, Fields}
use Rattle.logic_meaning.specs.Answer.{Place}
use Rattle.logic_meaning.specs.Atom.{Atom}
use Rattle.logic_meaning.specs.Every.{Every}
use Rattle.logic_meaning.specs.Formula.{No}
use Rattle.logic_meaning.specs.NegationNormal.{normal_form_of_not}
use Rattle.logic_meaning.specs.Shape.{IsQuantifierFree}
use Rattle.logic_meaning.specs.Sizes.{nodes}
use Rattle.logic_meaning.specs.Some.{EachOf}
use Rattle.logic_meaning.specs.Tree.{Tree, Trees, IsFree}
use Rattle.formula_laws.specs.Within.{IsAtomWithin}
use Rattle.logic_meaning.specs.NormalForm.{IsNormal, negated_normal}
use Rattle.shape_theory.specs.Orderly.{IsOrderly}
use Rattle.logic_meaning.specs.Trees.{IsReduced}
use Rattle.shape_theory.specs.Simplifiable.{EquivalentUnder}
use Rattle.logic_meaning.specs.Reference.{normal_tree}
use Rattle.logic_meaning.specs.Text.{tree_text}
use Rattle.logic_meaning.specs.Direct.{IsDirect, direct_answer}
use Rattle.normal_atoms.specs.declared.atoms.Context as code
use Rattle.normal_atoms.specs.declared.atoms.Context.TheVariants as theory
use Rattle.normal_atoms.specs.Atoms.{context_of}
use Rattle.formula_tree.specs.declared.shape.Shape.{Shape}
use Rattle.formula_store.specs.declared.id.FormulaId.{FormulaId}
use Rattle.engine_answers.specs.declared.answer.Answer.{Answer}
use Rattle.engine_answers.specs.Found.{IsFound, IsFoundDirect}

-- t is a condition for f under the atoms ks: it has no quantifier and no other free names, is Reduced under ks, and has the truth of
-- f where all of ks are true; it has at most so many nodes, normal atoms, and lists of two members at least
pub record IsConditionFor (c : Context) (ks : List Atom) (limit : ℕ) (f t : Tree) : Type 0 where
  pub free : IsQuantifierFree t
  pub names : (x : ℕ) → IsFree t x → IsFree f x
  pub reduced : IsReduced c t ks
  pub truth : EquivalentUnder c ks t f
  pub small : nodes t ≤ limit
  pub orderly : IsOrderly (IsNormal c) t
  pub normal : Every (IsNormal c) t

-- t has no more nodes than g and, where names that are not empty name each variable of f, no longer text
pub record IsNoLargerIn (f g t : Tree) : Type 0 where
  pub nodes : nodes t ≤ nodes g
  pub text : (names : List (List ℕ)) → EachOf (λ name. 0 < length name) names → Every (IsAtomWithin (length names)) f → length (tree_text names t) ≤ length (tree_text names g)

-- or is false
abbrev pub IsNoLargerOrFalse : Tree → Tree → Tree → Type 0
IsNoLargerOrFalse f g t = IsNoLargerIn f g t ⊎ (t ≡ No)

-- the condition is found by cases: where the negation normal form of f is direct over the fields, it is no larger than the direct
-- answer, or false
pub record IsConditionByCases (c : Context) (ks : List Atom) (limit : ℕ) (f t : Tree) : Type 0 where
  pub condition : IsConditionFor c ks limit f t
  pub direct : (x : ℕ) (fs : Trees) (s : Place) → c ≡ Fields → IsDirect limit (normal_tree f) x fs s → IsNoLargerOrFalse f (direct_answer x fs s) t

-- what g says of a formula that it stands for or, for true, whose negation it stands for
abbrev pub said_of : Bool → Tree → Tree
said_of false g = g
said_of true g = normal_form_of_not negated_normal g

-- the negation normal form of f is not direct over the fields
abbrev pub IsNotDirect : Context → ℕ → Tree → Type 0
IsNotDirect c limit f = (x : ℕ) (fs : Trees) (s : Place) → c ≡ Fields → ¬ (IsDirect limit (normal_tree f) x fs s)

-- an answer for f under the atoms ks: a condition for it or its cases, and of a direct formula its few cases
pub record IsAnswerFor (k : code.Context) (ks : List Atom) (limit : ℕ) (f : Tree) (store : List (Shape FormulaId)) (a : Answer) : Type 0 where
  pub normal : Every (IsNormal (context_of k)) f
  pub found : IsFound (context_of k) ks f store a
  pub direct : (x : ℕ) (fs : Trees) (s : Place) → k ≡ theory.Fields → IsDirect limit (normal_tree f) x fs s → IsFoundDirect x fs s store a
