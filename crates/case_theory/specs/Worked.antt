-- Formulas worked on under assumptions, from the inside out.
use Rattle.std.specs.Prelude.{ℕ, List}
use Rattle.logic_meaning.specs.Context.{Context}
use Rattle.logic_meaning.specs.Point.{Point, Of}
use Rattle.logic_meaning.specs.Formula.{none, also}
use Rattle.logic_meaning.specs.Every.{Every}
use Rattle.logic_meaning.specs.Fold.{joined, fold_list}
use Rattle.logic_meaning.specs.declared.junction.Junction.{Junction}
use Rattle.logic_meaning.specs.NegationNormal.{normal_form_of_not}
use Rattle.logic_meaning.specs.Atom.{Atom}
use Rattle.logic_meaning.specs.Tree.{Tree, Trees, TrueAt, IsFree}
use Rattle.logic_meaning.specs.NormalForm.{IsNormal, negated_normal}
use Rattle.shape_theory.specs.Simplifiable.{EquivalentUnder}
use Rattle.elimination_theory.specs.Theorems.{IsTidy}
use Rattle.case_theory.specs.PutThrough.{AreTrue}
use Rattle.case_theory.specs.CaseTree.{without_all}

-- the formula is true at no point where the atoms are
abbrev pub IsNeverUnder : Context → List Atom → Tree → Type 0
IsNeverUnder c ks f = (p : Point ℕ) → Of c p → AreTrue ks p → ¬ (TrueAt c f p)

-- g is equivalent to f where the atoms are true, is tidy and has no other free names
pub record IsWorked (c : Context) (ks : List Atom) (f g : Tree) : Type 0 where
  pub equivalent : EquivalentUnder c ks f g
  pub tidy : IsTidy c g
  pub names : (y : ℕ) → IsFree g y → IsFree f y

-- member by member
abbrev pub AreWorked : Context → List Atom → Trees → Trees → Type 0
AreWorked c ks none none = Unit {0}
AreWorked c ks (also f fs) (also g gs) = IsWorked c ks f g × AreWorked c ks fs gs
AreWorked c ks none (also g gs) = ⊥
AreWorked c ks (also f fs) none = ⊥

-- What is worked on under fewer atoms is worked on under all. A list is worked on member by member and folded; and where a formula over normal atoms is worked on, so is its negation, in
-- negation normal form, and back.
pub record WorkingGoesOn (c : Context) (ks : List Atom) : Type 0 where
  pub itself : (f : Tree) → IsTidy c f → IsWorked c ks f f
  pub further : (f g h : Tree) → IsWorked c ks f g → IsWorked c ks g h → IsWorked c ks f h
  pub more_atoms : (block : List ℕ) (f g : Tree) → IsWorked c (without_all block ks) f g → IsWorked c ks f g
  pub of_list : (j : Junction) (fs gs : Trees) → AreWorked c ks fs gs → IsWorked c ks (joined j fs) (fold_list j gs)
  pub forth : (f g : Tree) → Every (IsNormal c) f → IsWorked c ks f g → IsWorked c ks (normal_form_of_not negated_normal f) (normal_form_of_not negated_normal g)
  pub back : (f g : Tree) → Every (IsNormal c) f → IsWorked c ks (normal_form_of_not negated_normal f) g → IsWorked c ks f (normal_form_of_not negated_normal g)
