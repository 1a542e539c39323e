-- Negation normal form: negations are pushed to the atoms, and implications and equivalences become and and or.
use Rattle.logic_meaning.specs.Formula.{Formula, Formulas, Yes, No, One, Not, And, Or, Impl, Repl, Equiv, Ex, All, none, also}

-- the list of two members
abbrev pub both : {A N : Type 0} → Formula A N → Formula A N → Formulas A N
both f g = also f (also g none)

-- opposite: the atom of the opposite truth
module _ {A N : Type 0} (opposite : A → A) where
  abbrev mutual
    -- the negation normal form of f
    pub normal_form : Formula A N → Formula A N
    normal_form Yes = Yes
    normal_form No = No
    normal_form (One a) = One a
    normal_form (Not f) = normal_form_of_not f
    normal_form (And fs) = And (normal_forms fs)
    normal_form (Or fs) = Or (normal_forms fs)
    normal_form (Impl f g) = Or (both (normal_form_of_not f) (normal_form g))
    normal_form (Repl f g) = Or (both (normal_form f) (normal_form_of_not g))
    normal_form (Equiv f g) = Or (both (And (both (normal_form f) (normal_form g))) (And (both (normal_form_of_not f) (normal_form_of_not g))))
    normal_form (Ex x f) = Ex x (normal_form f)
    normal_form (All x f) = All x (normal_form f)

    -- the negation normal form of not f
    pub normal_form_of_not : Formula A N → Formula A N
    normal_form_of_not Yes = No
    normal_form_of_not No = Yes
    normal_form_of_not (One a) = One (opposite a)
    normal_form_of_not (Not f) = normal_form f
    normal_form_of_not (And fs) = Or (normal_forms_of_not fs)
    normal_form_of_not (Or fs) = And (normal_forms_of_not fs)
    normal_form_of_not (Impl f g) = And (both (normal_form f) (normal_form_of_not g))
    normal_form_of_not (Repl f g) = And (both (normal_form_of_not f) (normal_form g))
    normal_form_of_not (Equiv f g) = Or (both (And (both (normal_form f) (normal_form_of_not g))) (And (both (normal_form_of_not f) (normal_form g))))
    normal_form_of_not (Ex x f) = All x (normal_form_of_not f)
    normal_form_of_not (All x f) = Ex x (normal_form_of_not f)

    -- the negation normal form of each member
    pub normal_forms : Formulas A N → Formulas A N
    normal_forms none = none
    normal_forms (also f fs) = also (normal_form f) (normal_forms fs)

    -- the negation normal form of the negation of each member
    pub normal_forms_of_not : Formulas A N → Formulas A N
    normal_forms_of_not none = none
    normal_forms_of_not (also f fs) = also (normal_form_of_not f) (normal_forms_of_not fs)
