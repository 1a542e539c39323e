-- The forms of a formula of a store: what is read, and what each form is.
use Rattle.std.specs.Prelude.{◌≡◌, ◌≤◌, ◌<◌, ℕ, List, length, map}
use Rattle.std.specs.List.{AllByRecursion}
use Rattle.logic_meaning.specs.Context.{Context}
use Rattle.logic_meaning.specs.Sizes.{nodes}
use Rattle.logic_meaning.specs.Every.{Every, EveryBound}
use Rattle.logic_meaning.specs.Shape.{IsQuantifierFree}
use Rattle.logic_meaning.specs.Some.{EachOf}
use Rattle.logic_meaning.specs.Atom.{Atom}
use Rattle.logic_meaning.specs.declared.junction.Junction.{Junction}
use Rattle.logic_meaning.specs.declared.junction.Junction.TheVariants.{Conjunction, Disjunction}
use Rattle.logic_meaning.specs.Tree.{Tree, IsFree}
use Rattle.formula_laws.specs.Equivalence.{Equivalent}
use Rattle.logic_meaning.specs.Measured.{done}
use Rattle.logic_meaning.specs.NegationNormal.{normal_form}
use Rattle.logic_meaning.specs.Members.{HasTwoMembers}
use Rattle.formula_laws.specs.Within.{IsAtomWithin, IsTreeWithin}
use Rattle.normal_atoms.specs.Atoms.{atom_of, IsWellFormed}
use Rattle.logic_meaning.specs.NormalForm.{negated_normal, IsNormal}
use Rattle.logic_meaning.specs.Measure.{size, atom_measure}
use Rattle.shape_theory.specs.Orderly.{IsOrderly}
use Rattle.logic_meaning.specs.Trees.{IsReduced}
use Rattle.shape_theory.specs.Simplifiable.{EquivalentUnder, simplified_under}
use Rattle.logic_meaning.specs.Reference.{reference}
use Rattle.elimination_theory.specs.Theorems.{IsAnswerTo}
use Rattle.logic_meaning.specs.Prenex.{prenex_of}
use Rattle.language_meaning.specs.Forms.{OverflowsInRenaming}
use Rattle.shape_theory.specs.CleanFormsLaws.{IsNoLonger}
use Rattle.logic_meaning.specs.Clean.{IsCleanForm}
use Rattle.logic_meaning.specs.PlainForms.{plain_form}
use Rattle.formula_tree.specs.declared.shape.Shape.{Shape}
use Rattle.formula_store.specs.declared.id.FormulaId.{FormulaId}
use Rattle.formula_store.specs.Nodes.{tree, IsId}
use Rattle.logic_meaning.specs.Text.{tree_text}
use Rattle.program_meaning.specs.FormulaAnswers.{HasNewNames}
use Rattle.form_commands.specs.declared.forms.Premised.{Premised}
use Rattle.form_commands.specs.declared.forms.Form.{Form}
use Rattle.form_commands.specs.declared.forms.Form.TheVariants as form
use Rattle.form_commands.specs.declared.forms.ClauseForm.{ClauseForm}
use Rattle.form_commands.specs.declared.forms.ClauseForm.TheVariants as clause_form
use Rattle.form_commands.specs.declared.way.Way.TheVariants as way
use Rattle.form_commands.specs.Conditions.{IsConditionByCases}

-- ---- what is read

-- The formula is one of the store, with normal atoms, names below n, and lists of two members at least. The atoms under which it is looked at are normal and well formed.
pub record IsPremised (c : Context) (n : ℕ) (store : List (Shape FormulaId)) (read : Premised) : Type 0 where
  pub id : IsId store read.formula
  pub normal : Every (IsNormal c) (tree store read.formula)
  pub members : HasTwoMembers (tree store read.formula)
  pub within : IsTreeWithin n (tree store read.formula)
  pub atoms : EachOf (IsNormal c) (map atom_of read.atoms.items)
  pub well_formed : AllByRecursion IsWellFormed read.atoms.items

-- a clean form is asked for
abbrev pub IsDistributed : Form → Type 0
IsDistributed form.AsRead = ⊥
IsDistributed form.NegationNormal = ⊥
IsDistributed form.Prenex = ⊥
IsDistributed (form.Distributed clauses) = Unit {0}
IsDistributed form.Simplified = ⊥
IsDistributed (form.Eliminated way) = ⊥

-- what the lists of a clean form are joined by
abbrev pub junction_of : ClauseForm → Junction
junction_of clause_form.Disjunctive = Conjunction
junction_of clause_form.Conjunctive = Disjunction

-- ---- forms

-- the reference elimination gives t of f, and it is an answer to f
pub record IsEliminatedAs (c : Context) (limit : ℕ) (f t : Tree) : Type 0 where
  pub cost : ℕ
  pub same : reference c limit f ≡ done (t, cost)
  pub exact : IsAnswerTo c f t
  pub small : nodes t ≤ limit

-- t is f simplified under the atoms ks
pub record IsSimplifiedAs (c : Context) (ks : List Atom) (f t : Tree) : Type 0 where
  pub form : t ≡ simplified_under c ks f
  pub truth : EquivalentUnder c ks t f
  pub reduced : IsReduced c t ks
  pub orderly : IsOrderly (IsNormal c) t
  pub normal : Every (IsNormal c) t
  pub free : IsQuantifierFree f → IsQuantifierFree t
  pub bound : (n : ℕ) → EveryBound (λ x. x < n) f → EveryBound (λ x. x < n) t
  pub quantified : (n : ℕ) → EveryBound (λ x. ¬ (x ≡ n)) f → EveryBound (λ x. ¬ (x ≡ n)) t
  pub names : (x : ℕ) → IsFree t x → IsFree f x
  pub nodes : nodes t ≤ nodes f
  pub atoms : size atom_measure t ≤ size atom_measure f
  pub text : (names : List (List ℕ)) → EachOf (λ name. 0 < length name) names → Every (IsAtomWithin (length names)) f → length (tree_text names t) ≤ length (tree_text names f)

-- t is a clean form of f
pub record IsCleanedAs (c : Context) (j : Junction) (f t : Tree) : Type 0 where
  pub clean : IsCleanForm c j t
  pub truth : Equivalent c t f
  pub orderly : IsOrderly (IsNormal c) t
  pub free : IsQuantifierFree t
  pub names : (x : ℕ) → IsFree t x → IsFree f x
  pub nodes : nodes t ≤ nodes (plain_form j f)
  pub text : IsNoLonger t (plain_form j f) f

-- t is what the reference elimination gives of f, simplified under the atoms ks
pub record IsSimplifiedAnswer (c : Context) (ks : List Atom) (limit : ℕ) (f t : Tree) : Type 0 where
  pub answer : Tree
  pub eliminated : IsEliminatedAs c limit f answer
  pub simplified : IsSimplifiedAs c ks answer t

-- t is the prenex form of f, where count names are known: few nodes are counted, and no number of a renamed atom passes the limit
pub record IsPrenexAs (c : Context) (count limit : ℕ) (f t : Tree) : Type 0 where
  pub form : t ≡ prenex_of c count (normal_form negated_normal f)
  pub small : nodes (normal_form negated_normal f) ≤ limit
  pub fits : ¬ (OverflowsInRenaming c count (normal_form negated_normal f))

-- t is the form of f under the atoms ks, where count names are known
abbrev pub IsFormOf : Context → ℕ → List Atom → ℕ → Form → Tree → Tree → Type 0
IsFormOf c count ks limit form.AsRead f t = t ≡ f
IsFormOf c count ks limit form.NegationNormal f t = t ≡ normal_form negated_normal f
IsFormOf c count ks limit form.Prenex f t = IsPrenexAs c count limit f t
IsFormOf c count ks limit (form.Distributed clauses) f t = IsCleanedAs c (junction_of clauses) (normal_form negated_normal f) t
IsFormOf c count ks limit form.Simplified f t = IsSimplifiedAs c ks (normal_form negated_normal f) t
IsFormOf c count ks limit (form.Eliminated way.ByCases) f t = IsConditionByCases c ks limit f t
IsFormOf c count ks limit (form.Eliminated way.ByReference) f t = IsSimplifiedAnswer c ks limit f t

-- the names after the form of f was made
abbrev pub HasFormNames : Form → List (List ℕ) → Tree → List (List ℕ) → Type 0
HasFormNames form.AsRead names f after = after ≡ names
HasFormNames form.NegationNormal names f after = after ≡ names
HasFormNames form.Prenex names f after = HasNewNames names f after
HasFormNames (form.Distributed clauses) names f after = after ≡ names
HasFormNames form.Simplified names f after = after ≡ names
HasFormNames (form.Eliminated way) names f after = after ≡ names

-- the form of f under the atoms ks is the formula with this id of the store, and these are the names after it was made
pub record IsFormed (c : Context) (ks : List Atom) (limit : ℕ) (form : Form) (names : List (List ℕ)) (f : Tree) (after : List (List ℕ)) (store : List (Shape FormulaId)) (id : FormulaId) : Type 0 where
  pub made : IsId store id
  pub is : IsFormOf c (length names) ks limit form f (tree store id)
  pub names_after : HasFormNames form names f after
