-- Sizes and free names of formulas, as functions that compute.
use Rattle.std.specs.Prelude.{ℕ, suc, ◌+◌, max, Bool, true, false, ◌&&◌, List, [], ◌∷◌, ◌++◌, length}
use Rattle.logic_meaning.specs.Formula.{Formula, Formulas, Yes, No, One, Not, And, Or, Impl, Repl, Equiv, Ex, All, none, also}
use Rattle.logic_meaning.specs.Distinct.{without_same, distinct}

module _ {A N : Type 0} where
  abbrev mutual
    -- the nodes of the tree: 1 for a constant or an atom, else 1 more than those of the members together
    pub nodes : Formula A N → ℕ
    nodes Yes = 1
    nodes No = 1
    nodes (One a) = 1
    nodes (Not f) = suc (nodes f)
    nodes (And fs) = suc (all_nodes fs)
    nodes (Or fs) = suc (all_nodes fs)
    nodes (Impl f g) = suc (nodes f + nodes g)
    nodes (Repl f g) = suc (nodes f + nodes g)
    nodes (Equiv f g) = suc (nodes f + nodes g)
    nodes (Ex x f) = suc (nodes f)
    nodes (All x f) = suc (nodes f)

    -- the nodes of the members together
    pub all_nodes : Formulas A N → ℕ
    all_nodes none = 0
    all_nodes (also f fs) = nodes f + all_nodes fs

  abbrev mutual
    -- the height: 1 for a constant or an atom, else 1 more than the greatest of the members
    pub height : Formula A N → ℕ
    height Yes = 1
    height No = 1
    height (One a) = 1
    height (Not f) = suc (height f)
    height (And fs) = suc (greatest_height fs)
    height (Or fs) = suc (greatest_height fs)
    height (Impl f g) = suc (max (height f) (height g))
    height (Repl f g) = suc (max (height f) (height g))
    height (Equiv f g) = suc (max (height f) (height g))
    height (Ex x f) = suc (height f)
    height (All x f) = suc (height f)

    -- 0 where there is no member
    pub greatest_height : Formulas A N → ℕ
    greatest_height none = 0
    greatest_height (also f fs) = max (height f) (greatest_height fs)

  abbrev mutual
    -- the formula, and the subtrees of its members in the order of the text
    pub subtrees : Formula A N → List (Formula A N)
    subtrees Yes = Yes ∷ []
    subtrees No = No ∷ []
    subtrees (One a) = One a ∷ []
    subtrees (Not f) = Not f ∷ subtrees f
    subtrees (And fs) = And fs ∷ all_subtrees fs
    subtrees (Or fs) = Or fs ∷ all_subtrees fs
    subtrees (Impl f g) = Impl f g ∷ (subtrees f ++ subtrees g)
    subtrees (Repl f g) = Repl f g ∷ (subtrees f ++ subtrees g)
    subtrees (Equiv f g) = Equiv f g ∷ (subtrees f ++ subtrees g)
    subtrees (Ex x f) = Ex x f ∷ subtrees f
    subtrees (All x f) = All x f ∷ subtrees f

    -- the subtrees of the members, one member after the other
    pub all_subtrees : Formulas A N → List (Formula A N)
    all_subtrees none = []
    all_subtrees (also f fs) = subtrees f ++ all_subtrees fs

-- equality tests of atoms and of names give one of formulas
module _ {A N : Type 0} (alike : A → A → Bool) (same : N → N → Bool) where
  abbrev mutual
    pub same_formula : Formula A N → Formula A N → Bool
    same_formula Yes Yes = true
    same_formula No No = true
    same_formula (One a) (One b) = alike a b
    same_formula (Not f) (Not g) = same_formula f g
    same_formula (And fs) (And gs) = same_formulas fs gs
    same_formula (Or fs) (Or gs) = same_formulas fs gs
    same_formula (Impl f g) (Impl h i) = same_formula f h && same_formula g i
    same_formula (Repl f g) (Repl h i) = same_formula f h && same_formula g i
    same_formula (Equiv f g) (Equiv h i) = same_formula f h && same_formula g i
    same_formula (Ex x f) (Ex y g) = same x y && same_formula f g
    same_formula (All x f) (All y g) = same x y && same_formula f g
    same_formula _ _ = false

    -- the same formulas in the same order
    pub same_formulas : Formulas A N → Formulas A N → Bool
    same_formulas none none = true
    same_formulas (also f fs) (also g gs) = same_formula f g && same_formulas fs gs
    same_formulas _ _ = false

  -- the subformulas, each once
  abbrev pub distinct_subtrees : Formula A N → List (Formula A N)
  distinct_subtrees f = distinct same_formula (subtrees f)

  -- how many different subformulas there are
  abbrev pub distinct_count : Formula A N → ℕ
  distinct_count f = length (distinct_subtrees f)

-- names_of: the names that stand in an atom
module _ {A N : Type 0} (names_of : A → List N) (same : N → N → Bool) where
  abbrev mutual
    -- the names of the atoms, outside the quantifiers of these names, in the order of the text
    pub free_places : Formula A N → List N
    free_places Yes = []
    free_places No = []
    free_places (One a) = names_of a
    free_places (Not f) = free_places f
    free_places (And fs) = all_free_places fs
    free_places (Or fs) = all_free_places fs
    free_places (Impl f g) = free_places f ++ free_places g
    free_places (Repl f g) = free_places f ++ free_places g
    free_places (Equiv f g) = free_places f ++ free_places g
    free_places (Ex x f) = without_same same x (free_places f)
    free_places (All x f) = without_same same x (free_places f)

    -- the same of the members, one after the other
    pub all_free_places : Formulas A N → List N
    all_free_places none = []
    all_free_places (also f fs) = free_places f ++ all_free_places fs

  -- the free names, each once, in the order of the first place
  abbrev pub free_names : Formula A N → List N
  free_names f = distinct same (free_places f)
