-- Quantified names that clash get new ones.
use Rattle.std.specs.Prelude.{ℕ, suc, ◌+◌, Bool, true, List, [], ◌∷◌, nat_eq, if◌then◌else◌}
use Rattle.logic_meaning.specs.Formula.{One, And, Or, Ex, All, none, also}
use Rattle.logic_meaning.specs.Form.{Form, Term}
use Rattle.logic_meaning.specs.Atom.{Atom, Compare, Congruent}
use Rattle.logic_meaning.specs.Shape.{is_in}
use Rattle.logic_meaning.specs.Tree.{Tree, Trees, tree_names}

-- ---- atoms with other names

-- the terms with each name as now says, and the coefficients that they had
abbrev pub terms_named : (ℕ → ℕ) → List Term → List Term
terms_named now [] = []
terms_named now (t ∷ ts) = record { times = t.times; name = now t.name } ∷ terms_named now ts

-- the linear form with each name as now says
abbrev pub form_named : (ℕ → ℕ) → Form → Form
form_named now f = record { terms = terms_named now f.terms; constant = f.constant }

-- the atom with each name as now says
abbrev pub atom_named : (ℕ → ℕ) → Atom → Atom
atom_named now (Compare r f) = Compare r (form_named now f)
atom_named now (Congruent holds n f) = Congruent holds n (form_named now f)

-- the name x is now y
abbrev pub with_now : (ℕ → ℕ) → ℕ → ℕ → ℕ → ℕ
with_now now x y = λ z. if nat_eq x z then y else now z

-- ---- choosing names, in the order of the text

-- what was chosen before a place of the text: which names are taken there, and how many new names were made
pub record Chosen : Type 0 where
  pub taken : ℕ → Bool
  pub made : ℕ

-- the names that are free in the whole are taken from the beginning
abbrev pub nothing_chosen : List ℕ → Chosen
nothing_chosen free = record { taken = λ x. is_in nat_eq x free; made = 0 }

-- count: how many names there are; the new names have the numbers from there on
module _ (count : ℕ) where
  -- the name itself, or the next new one where it is taken
  abbrev pub chosen_name : ℕ → Chosen → ℕ
  chosen_name x s = if s.taken x then count + s.made else x

  -- what is chosen after the quantifier of a name, which is taken from then on
  abbrev pub chosen : ℕ → Chosen → Chosen
  chosen x s = record { taken = λ z. if nat_eq x z then true else s.taken z; made = if s.taken x then suc s.made else s.made }

  abbrev mutual
    -- what is chosen after a formula in negation normal form
    pub after : Tree → Chosen → Chosen
    after (And fs) s = after_all fs s
    after (Or fs) s = after_all fs s
    after (Ex x f) s = after f (chosen x s)
    after (All x f) s = after f (chosen x s)
    after f s = s

    -- what is chosen after the members of a list, one after the other
    pub after_all : Trees → Chosen → Chosen
    after_all none s = s
    after_all (also f fs) s = after_all fs (after f s)

  abbrev mutual
    -- a formula in negation normal form with the chosen names, where now says those of the quantifiers around it
    pub renamed : (ℕ → ℕ) → Tree → Chosen → Tree
    renamed now (One a) s = One (atom_named now a)
    renamed now (And fs) s = And (all_renamed now fs s)
    renamed now (Or fs) s = Or (all_renamed now fs s)
    renamed now (Ex x f) s = Ex (chosen_name x s) (renamed (with_now now x (chosen_name x s)) f (chosen x s))
    renamed now (All x f) s = All (chosen_name x s) (renamed (with_now now x (chosen_name x s)) f (chosen x s))
    renamed now f s = f

    -- the same of a list, each member from what is chosen after those before it
    pub all_renamed : (ℕ → ℕ) → Trees → Chosen → Trees
    all_renamed now none s = none
    all_renamed now (also f fs) s = also (renamed now f s) (all_renamed now fs (after f s))

-- the formula with its quantified names chosen, where count names are known
abbrev pub with_chosen_names : ℕ → Tree → Tree
with_chosen_names count f = renamed count (λ x. x) f (nothing_chosen (tree_names f))

-- how many new names it has
abbrev pub new_count : ℕ → Tree → ℕ
new_count count f = (after count f (nothing_chosen (tree_names f))).made
