-- Resolved formulas: the names of variables are numbered, bound names have their trees, and each comparison or congruence
-- is the normal atom of its form.
use Rattle.std.specs.Prelude.{◌≡◌, ℕ, pos, List, [], ◌∷◌, ◌++◌, Bool, true, false, unsigned_abs, Option, Some, None, unwrap_or, option_map, slice_get, Result, Ok, Err}
use Rattle.logic_meaning.specs.Context.{Context}
use Rattle.logic_meaning.specs.Point.{Point}
use Rattle.logic_meaning.specs.Formula.{Yes, No, One, Not, And, Or, Impl, Repl, Equiv, Ex, All}
use Rattle.logic_meaning.specs.Every.{Free}
use Rattle.logic_meaning.specs.Replaced.{replaced}
use Rattle.logic_meaning.specs.Formula as plain
use Rattle.logic_meaning.specs.Atom as meaning
use Rattle.logic_meaning.specs.Tree as meant
use Rattle.logic_meaning.specs.NormalForm.{normal_atom}
use Rattle.language_meaning.specs.declared.tree.Relation.{Relation}
use Rattle.language_meaning.specs.Trees.{TermTree, TermTrees, Number, Named, Sum, Product, Quotient, Power, Negative, none, also, WrittenAtom, Compare, Cong, Ncong, Bound, FormulaTree, FormulaTrees}
use Rattle.language_meaning.specs.Value.{NamedPoint, relation_of, Mentions}
use Rattle.logic_meaning.specs.Bindings.{bound_to}
use Rattle.logic_meaning.specs.Names.{place}
use Rattle.language_meaning.specs.RationalForms.{RationalForm, Missing, formed, formed_difference}

-- names of formulas with their trees
abbrev pub BoundTrees : Type 0
BoundTrees = List (List ℕ × meant.Tree)

-- ---- names

abbrev mutual
  -- the variables of a term, in the order of the text
  pub variables_of : TermTree → List (List ℕ)
  variables_of (Number n) = []
  variables_of (Named x) = x ∷ []
  variables_of (Sum ts) = variables_in ts
  variables_of (Product ts) = variables_in ts
  variables_of (Quotient s t) = variables_of s ++ variables_of t
  variables_of (Power t n) = variables_of t
  variables_of (Negative t) = variables_of t

  -- the variables of the members of a sum or a product, one after the other
  pub variables_in : TermTrees → List (List ℕ)
  variables_in none = []
  variables_in (also t ts) = variables_of t ++ variables_in ts

-- those of an atom; the name of a formula is none
abbrev pub atom_variables : WrittenAtom → List (List ℕ)
atom_variables (Compare rel s t) = variables_of s ++ variables_of t
atom_variables (Cong s t m) = variables_of s ++ (variables_of t ++ variables_of m)
atom_variables (Ncong s t m) = variables_of s ++ (variables_of t ++ variables_of m)
atom_variables (Bound x) = []

abbrev mutual
  -- the variables of a formula, in the order of the text: names in terms and after quantifiers
  pub formula_variables : FormulaTree → List (List ℕ)
  formula_variables Yes = []
  formula_variables No = []
  formula_variables (One a) = atom_variables a
  formula_variables (Not f) = formula_variables f
  formula_variables (And fs) = all_variables fs
  formula_variables (Or fs) = all_variables fs
  formula_variables (Impl f g) = formula_variables f ++ formula_variables g
  formula_variables (Repl f g) = formula_variables f ++ formula_variables g
  formula_variables (Equiv f g) = formula_variables f ++ formula_variables g
  formula_variables (Ex x f) = x ∷ formula_variables f
  formula_variables (All x f) = x ∷ formula_variables f

  -- the variables of the members of a list, one after the other
  pub all_variables : FormulaTrees → List (List ℕ)
  all_variables plain.none = []
  all_variables (plain.also f fs) = formula_variables f ++ all_variables fs

-- the written point as a point of numbered names; a number without a name has 0
abbrev pub at_names : List (List ℕ) → NamedPoint → Point ℕ
at_names names p = record { at = λ n. unwrap_or (option_map p.at (slice_get names n)) (pos 0); below = p.below }

-- ---- atoms

-- A comparison as the normal atom of the form of the difference. Where that is not there, any tree will do.
abbrev pub compared : Context → Relation → Result RationalForm Missing → meant.Tree
compared c rel (Ok d) = normal_atom c (meaning.Compare (relation_of rel) d.form)
compared c rel (Err e) = No

-- a congruence as the normal atom of the form of the difference and the absolute value of the modulus
abbrev pub congruent : Context → Bool → Result RationalForm Missing → Result RationalForm Missing → meant.Tree
congruent c b (Ok d) (Ok m) = normal_atom c (meaning.Congruent b (unsigned_abs m.form.constant) d.form)
congruent c b (Ok d) (Err e) = No
congruent c b (Err e) m = No

-- the tree of an atom; a name without a tree has no truth
abbrev pub resolved_atom : Context → BoundTrees → (List ℕ → ℕ) → WrittenAtom → meant.Tree
resolved_atom c bound number (Compare rel s t) = compared c rel (formed_difference c number s t)
resolved_atom c bound number (Cong s t m) = congruent c true (formed_difference c number s t) (formed c number m)
resolved_atom c bound number (Ncong s t m) = congruent c false (formed_difference c number s t) (formed c number m)
resolved_atom c bound number (Bound x) = unwrap_or (bound_to bound x) No

-- the resolved formula, where the names of the list are numbered
abbrev pub resolve : Context → BoundTrees → List (List ℕ) → FormulaTree → meant.Tree
resolve c bound names f = replaced (resolved_atom c bound (place names)) (place names) f

-- ---- truth as written

-- the tree, if there is one, is true at the point
abbrev pub IsTreeTrue : Context → Option meant.Tree → Point ℕ → Type 0
IsTreeTrue c None p = ⊥
IsTreeTrue c (Some f) p = meant.TrueAt c f p

-- a name that stands as a formula has the truth of its tree
abbrev pub bound_truth : Context → BoundTrees → List (List ℕ) → List ℕ → NamedPoint → Type 0
bound_truth c bound names x p = IsTreeTrue c (bound_to bound x) (at_names names p)

-- ---- free names

-- the number is that of a name of the atom, or is free in its tree
abbrev pub MentionsNumber : BoundTrees → (List ℕ → ℕ) → WrittenAtom → ℕ → Type 0
MentionsNumber bound number (Bound x) n = meant.IsFree (unwrap_or (bound_to bound x) No) n
MentionsNumber bound number (Compare rel s t) n = (x : List ℕ) × Mentions (Compare rel s t) x × (number x ≡ n)
MentionsNumber bound number (Cong s t m) n = (x : List ℕ) × Mentions (Cong s t m) x × (number x ≡ n)
MentionsNumber bound number (Ncong s t m) n = (x : List ℕ) × Mentions (Ncong s t m) x × (number x ≡ n)

-- the number is free in the formula as it is written, with its names numbered and the bound trees in their places
abbrev pub IsFreeInPlace : BoundTrees → (List ℕ → ℕ) → FormulaTree → ℕ → Type 0
IsFreeInPlace bound number f n = Free (MentionsNumber bound number) (replaced One number f) n
