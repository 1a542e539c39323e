-- The two normal forms. A list of lists of atoms stands for a formula: the atoms of an inner list are joined by one junction,
-- the inner lists by its dual. With inner lists that are conjunctions it is a disjunctive form, else a conjunctive form.
use Rattle.std.specs.Prelude.{ℕ, Bool, true, false, List, [], ◌∷◌, Some}
use Rattle.logic_meaning.specs.Formula.{Formula, Formulas, none, also}
use Rattle.logic_meaning.specs.Fold.{from_pieces}
use Rattle.logic_meaning.specs.declared.junction.Junction.{Junction}
use Rattle.logic_meaning.specs.declared.junction.Junction.TheVariants.{Conjunction, Disjunction}
use Rattle.logic_meaning.specs.AtomsFirst.{ones}

-- the other junction
abbrev pub dual : Junction → Junction
dual Conjunction = Disjunction
dual Disjunction = Conjunction

-- the two are one
abbrev pub is_same : Junction → Junction → Bool
is_same Conjunction Conjunction = true
is_same Conjunction Disjunction = false
is_same Disjunction Conjunction = false
is_same Disjunction Disjunction = true

module _ {A : Type 0} where
  -- the atoms joined; one stands for the list, and an empty list for the constant that says nothing in it
  abbrev pub line_form : Junction → List A → Formula A ℕ
  line_form j us = from_pieces j (Some (ones us none))

  -- the inner lists as formulas
  abbrev pub line_forms : Junction → List (List A) → Formulas A ℕ
  line_forms j [] = none
  line_forms j (us ∷ ls) = also (line_form j us) (line_forms j ls)

  -- the formula of the lists, whose inner lists are joined by j
  abbrev pub form_of_lines : Junction → List (List A) → Formula A ℕ
  form_of_lines j ls = from_pieces (dual j) (Some (line_forms j ls))
