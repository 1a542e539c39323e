-- A formula in negation normal form is its own negation normal form, whatever is taken as the opposite of an atom.
use Rattle.std.proofs.Common.{◌≡◌, refl, ap, ap₂}
use Rattle.logic_meaning.specs.Formula.{Formula, Formulas, Yes, No, One, Not, And, Or, Impl, Repl, Equiv, Ex, All, none, also}
use Rattle.logic_meaning.specs.NegationNormal.{normal_form, normal_forms}
use Rattle.logic_meaning.specs.Plain.{IsNegationNormal, AreNegationNormal}
use Rattle.formula_laws.proofs.NormalShape.{normal_form_shape}

module _ {A N : Type 0} (opposite : A → A) where
  mutual
    pub normal_form_itself : (f : Formula A N) → IsNegationNormal f → normal_form opposite f ≡ f
    normal_form_itself Yes h = refl
    normal_form_itself No h = refl
    normal_form_itself (One a) h = refl
    normal_form_itself (Not f) h = absurd h
    normal_form_itself (And fs) h = ap And (normal_forms_itself fs h)
    normal_form_itself (Or fs) h = ap Or (normal_forms_itself fs h)
    normal_form_itself (Impl f g) h = absurd h
    normal_form_itself (Repl f g) h = absurd h
    normal_form_itself (Equiv f g) h = absurd h
    normal_form_itself (Ex x f) h = ap (Ex x) (normal_form_itself f h)
    normal_form_itself (All x f) h = ap (All x) (normal_form_itself f h)

    pub normal_forms_itself : (fs : Formulas A N) → AreNegationNormal fs → normal_forms opposite fs ≡ fs
    normal_forms_itself none h = refl
    normal_forms_itself (also f fs) h = ap₂ also (normal_form_itself f h.0) (normal_forms_itself fs h.1)

  -- the negation normal form of a negation normal form
  pub normal_form_again : (f : Formula A N) → normal_form opposite (normal_form opposite f) ≡ normal_form opposite f
  normal_form_again f = normal_form_itself (normal_form opposite f) (normal_form_shape opposite f).0
