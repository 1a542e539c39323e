-- Why a form is not made.
use Rattle.std.specs.Prelude.{◌≡◌, ◌*◌, ◌<◌, ◌≤◌, ℕ, Option, Some}
use Rattle.logic_meaning.specs.Answer.{Place}
use Rattle.logic_meaning.specs.Context.{Context, Fields}
use Rattle.logic_meaning.specs.Sizes.{nodes}
use Rattle.logic_meaning.specs.Tree.{Tree, Trees, tree_distinct}
use Rattle.logic_meaning.specs.Measured.{Overflow, Nodes, stopped}
use Rattle.logic_meaning.specs.NegationNormal.{normal_form}
use Rattle.logic_meaning.specs.NormalForm.{negated_normal}
use Rattle.logic_meaning.specs.Reference.{normal_tree, reference}
use Rattle.logic_meaning.specs.Cases.{reference_cases}
use Rattle.logic_meaning.specs.Direct.{IsDirect}
use Rattle.language_meaning.specs.Forms.{OverflowsInRenaming}
use Rattle.logic_meaning.specs.PlainForms.{literals}
use Rattle.reference_engine.specs.declared.measured.Measured.{Measured}
use Rattle.reference_engine.specs.declared.measured.Measured.TheVariants as measured
use Rattle.form_commands.specs.declared.error.FormsError.{FormsError}
use Rattle.form_commands.specs.declared.error.FormsError.TheVariants as error
use Rattle.form_commands.specs.declared.forms.Form.{Form}
use Rattle.form_commands.specs.declared.forms.Form.TheVariants as form
use Rattle.form_commands.specs.declared.forms.ClauseForm.{ClauseForm}
use Rattle.form_commands.specs.declared.way.Way.TheVariants as way
use Rattle.form_commands.specs.Forms.{junction_of}

-- what stops an elimination
abbrev pub measured_error : Measured → FormsError
measured_error measured.Overflow = error.Overflow
measured_error measured.Nodes = error.Nodes
measured_error measured.Memory = error.Memory

-- why a formula stays as it is read
abbrev pub NoFault : FormsError → Type 0
NoFault error.Overflow = ⊥
NoFault error.Nodes = ⊥
NoFault error.Memory = Unit {0}

-- why a negation normal form is not made
abbrev pub NegationFault : Option ℕ → Tree → FormsError → Type 0
NegationFault limit f error.Overflow = ⊥
NegationFault limit f error.Nodes = (n : ℕ) × (limit ≡ Some n) × (n < 6 * tree_distinct f)
NegationFault limit f error.Memory = Unit {0}

-- why a prenex form is not made, where count names are known
abbrev pub PrenexFault : Context → ℕ → ℕ → Tree → FormsError → Type 0
PrenexFault c count limit f error.Overflow = (nodes (normal_form negated_normal f) ≤ limit) × OverflowsInRenaming c count (normal_form negated_normal f)
PrenexFault c count limit f error.Nodes = limit < nodes (normal_form negated_normal f)
PrenexFault c count limit f error.Memory = Unit {0}

-- why a negation normal form has no clean form
abbrev pub ClauseFault : ℕ → ClauseForm → Tree → FormsError → Type 0
ClauseFault limit clauses f error.Overflow = ⊥
ClauseFault limit clauses f error.Nodes = limit < literals (junction_of clauses) f
ClauseFault limit clauses f error.Memory = Unit {0}

-- why a negation normal form is not simplified
abbrev pub SimplificationFault : ℕ → Tree → FormsError → Type 0
SimplificationFault limit f error.Overflow = ⊥
SimplificationFault limit f error.Nodes = limit < nodes f
SimplificationFault limit f error.Memory = Unit {0}

-- why quantifiers are not eliminated
abbrev pub EliminationFault : Context → ℕ → Tree → FormsError → Type 0
EliminationFault c limit f error.Overflow = reference c limit f ≡ stopped Overflow
EliminationFault c limit f error.Nodes = reference c limit f ≡ stopped Nodes
EliminationFault c limit f error.Memory = Unit {0}

-- why there is no condition by cases: the reference elimination stops so, and for a direct formula there is no reason but want of
-- memory
pub record ConditionFault (c : Context) (limit : ℕ) (f : Tree) (e : FormsError) : Type 0 where
  pub stops : EliminationFault c limit f e
  pub direct : (x : ℕ) (fs : Trees) (s : Place) → c ≡ Fields → IsDirect limit (normal_tree f) x fs s → e ≡ error.Memory

-- why the form of f is not made, where count names are known
abbrev pub FormFault : Context → ℕ → ℕ → Form → Tree → FormsError → Type 0
FormFault c count limit form.AsRead f e = NoFault e
FormFault c count limit form.NegationNormal f e = NegationFault (Some limit) f e
FormFault c count limit form.Prenex f e = PrenexFault c count limit f e
FormFault c count limit (form.Distributed clauses) f e = ClauseFault limit clauses (normal_form negated_normal f) e
FormFault c count limit form.Simplified f e = SimplificationFault limit (normal_form negated_normal f) e
FormFault c count limit (form.Eliminated way.ByCases) f e = ConditionFault c limit f e
FormFault c count limit (form.Eliminated way.ByReference) f e = EliminationFault c limit f e

-- why there are no cases
abbrev pub CasesFault : Context → ℕ → Tree → FormsError → Type 0
CasesFault c limit f error.Overflow = reference_cases c limit f ≡ stopped Overflow
CasesFault c limit f error.Nodes = reference_cases c limit f ≡ stopped Nodes
CasesFault c limit f error.Memory = Unit {0}
