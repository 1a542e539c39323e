-- A point put into a formula: free names become numbers, and each atom is brought to normal form.
use Rattle.std.specs.Prelude.{ℕ, ℤ, pos, ◌+ℤ◌, ◌*ℤ◌, Bool, true, ◌&&◌, List, [], ◌∷◌, is_some, nat_eq, if◌then◌else◌}
use Rattle.logic_meaning.specs.Context.{Context}
use Rattle.logic_meaning.specs.Point.{Point}
use Rattle.logic_meaning.specs.Formula.{Yes, No, One, Not, And, Or, Impl, Repl, Equiv, Ex, All, none, also}
use Rattle.logic_meaning.specs.Form.{Form, Term}
use Rattle.logic_meaning.specs.Atom.{Atom, Compare, Congruent, form_of}
use Rattle.logic_meaning.specs.Shape.{is_in}
use Rattle.logic_meaning.specs.Tree.{Tree, Trees}
use Rattle.logic_meaning.specs.Terms.{value_steps}
use Rattle.logic_meaning.specs.NormalForm.{normal_atom}
use Rattle.logic_meaning.specs.Limits.{each, is_within}
use Rattle.logic_meaning.specs.StopLimits.{normal_within}
use Rattle.logic_meaning.specs.Reference.{normal_tree}

-- names: those that stay, because a quantifier stands around
module _ (p : Point ℕ) (names : List ℕ) where
  -- the terms of these names, times the denominator of the point
  abbrev pub terms_kept : List Term → List Term
  terms_kept [] = []
  terms_kept (t ∷ ts) = if is_in nat_eq t.name names then record { times = pos p.below *ℤ t.times; name = t.name } ∷ terms_kept ts else terms_kept ts

  -- the sum of the other terms at the point, times its denominator
  abbrev pub terms_put : List Term → ℤ
  terms_put [] = pos 0
  terms_put (t ∷ ts) = if is_in nat_eq t.name names then terms_put ts else t.times *ℤ p.at t.name +ℤ terms_put ts

  -- the form with the numbers of the point, times its denominator
  abbrev pub form_put : Form → Form
  form_put f = record { terms = terms_kept f.terms; constant = terms_put f.terms +ℤ f.constant *ℤ pos p.below }

  -- over the integers the denominator is 1, so that the modulus stays
  abbrev pub atom_put : Atom → Atom
  atom_put (Compare r f) = Compare r (form_put f)
  atom_put (Congruent holds n f) = Congruent holds n (form_put f)

-- ---- whether the numbers that are formed are within the limit of exact_numbers

module _ (p : Point ℕ) (names : List ℕ) where
  -- the terms that become numbers
  abbrev pub terms_out : List Term → List Term
  terms_out [] = []
  terms_out (t ∷ ts) = if is_in nat_eq t.name names then terms_out ts else t ∷ terms_out ts

  -- the products and partial sums of these terms at the point, and the multiples of the others
  abbrev pub form_put_within : Form → Bool
  form_put_within f =
      is_some (value_steps (record { terms = terms_out f.terms; constant = f.constant }) p.at (pos p.below)) && each (λ (t : Term). is_within t.times) (terms_kept p names f.terms)

module _ (c : Context) (p : Point ℕ) where
  abbrev mutual
    -- the numbers of each atom, and of its normal form
    pub tree_put_within : List ℕ → Tree → Bool
    tree_put_within names Yes = true
    tree_put_within names No = true
    tree_put_within names (One a) = form_put_within p names (form_of a) && normal_within (normal_atom c (atom_put p names a))
    tree_put_within names (Not f) = tree_put_within names f
    tree_put_within names (And fs) = trees_put_within names fs
    tree_put_within names (Or fs) = trees_put_within names fs
    tree_put_within names (Impl f g) = tree_put_within names f && tree_put_within names g
    tree_put_within names (Repl f g) = tree_put_within names f && tree_put_within names g
    tree_put_within names (Equiv f g) = tree_put_within names f && tree_put_within names g
    tree_put_within names (Ex x f) = tree_put_within (x ∷ names) f
    tree_put_within names (All x f) = tree_put_within (x ∷ names) f

    -- the same of each member
    pub trees_put_within : List ℕ → Trees → Bool
    trees_put_within names none = true
    trees_put_within names (also f fs) = tree_put_within names f && trees_put_within names fs

-- ---- formulas

module _ (c : Context) (p : Point ℕ) where
  abbrev mutual
    -- the point put into each atom, in normal form; names: those of the quantifiers around, which stay
    pub tree_put : List ℕ → Tree → Tree
    tree_put names Yes = Yes
    tree_put names No = No
    tree_put names (One a) = normal_atom c (atom_put p names a)
    tree_put names (Not f) = Not (tree_put names f)
    tree_put names (And fs) = And (trees_put names fs)
    tree_put names (Or fs) = Or (trees_put names fs)
    tree_put names (Impl f g) = Impl (tree_put names f) (tree_put names g)
    tree_put names (Repl f g) = Repl (tree_put names f) (tree_put names g)
    tree_put names (Equiv f g) = Equiv (tree_put names f) (tree_put names g)
    tree_put names (Ex x f) = Ex x (tree_put (x ∷ names) f)
    tree_put names (All x f) = All x (tree_put (x ∷ names) f)

    -- the same of each member
    pub trees_put : List ℕ → Trees → Trees
    trees_put names none = none
    trees_put names (also f fs) = also (tree_put names f) (trees_put names fs)

  -- the negation normal form with the numbers of the point
  abbrev pub put_in : Tree → Tree
  put_in f = tree_put [] (normal_tree f)
