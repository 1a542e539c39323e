-- The reference elimination: quantifiers are eliminated from the inside, branch by branch, with test points of the lower side.
-- It counts nodes, and stops with `Nodes` where their number would pass a limit, or with `Overflow` where a number passes that
-- of exact_numbers, whichever comes first.
use Rattle.std.specs.Prelude.{ℕ, ◌+◌, ◌*◌, pos, Bool, true, false, List, [], ◌∷◌, ◌++◌, map, length, nat_eq, if◌then◌else◌}
use Rattle.std.specs.Ordering.{int_eq}
use Rattle.logic_meaning.specs.Context.{Context, Fields, Integers}
use Rattle.logic_meaning.specs.Formula.{Yes, No, One, And, Or, Ex, All, none, also}
use Rattle.logic_meaning.specs.Form.{coefficient}
use Rattle.logic_meaning.specs.Atom.{Atom, form_of}
use Rattle.logic_meaning.specs.Sizes.{nodes}
use Rattle.logic_meaning.specs.Shape.{is_in}
use Rattle.logic_meaning.specs.Fold.{fold_list}
use Rattle.logic_meaning.specs.declared.junction.Junction.{Junction}
use Rattle.logic_meaning.specs.declared.junction.Junction.TheVariants.{Conjunction, Disjunction}
use Rattle.logic_meaning.specs.NegationNormal.{normal_form, normal_form_of_not}
use Rattle.logic_meaning.specs.Tree.{Tree, Trees}
use Rattle.logic_meaning.specs.declared.side.Side.TheVariants.{Lower}
use Rattle.logic_meaning.specs.Atoms.{atoms_in}
use Rattle.logic_meaning.specs.IntegersPoints.{integer_count}
use Rattle.logic_meaning.specs.FieldsPoints.{field_points}
use Rattle.logic_meaning.specs.Steps.{Result, step}
use Rattle.logic_meaning.specs.Answers.{Step, zero_place}
use Rattle.logic_meaning.specs.NormalForm.{normal_atom, negated_normal}
use Rattle.logic_meaning.specs.Measured.{Outcome, Counted, ◌>>=◌, give, pay, within, then_of, done}
use Rattle.logic_meaning.specs.StopLimits.{span_within, step_within}

-- a formula that is left, and the steps that led to it, the last one first
pub record Branch : Type 0 where
  pub tree : Tree
  pub steps : List Step

-- ---- one step for x

-- x stands in some atom
abbrev pub stands_among : ℕ → List Atom → Bool
stands_among x [] = false
stands_among x (a ∷ atoms) = if int_eq (coefficient x (form_of a)) (pos 0) then stands_among x atoms else true

-- how many test points the step has: over the integers equal ones count as often as they are formed
abbrev pub point_count : Context → ℕ → Tree → ℕ
point_count Fields x f = length (field_points Lower x f)
point_count Integers x f = integer_count Lower x f

-- the branch is left as it is, with x at 0
abbrev pub kept_at_zero : ℕ → Branch → Branch
kept_at_zero x b = record { tree = b.tree; steps = record { name = x; place = zero_place; branch = b.tree } ∷ b.steps }

-- the branch becomes the result of a step
abbrev pub next_branch : ℕ → Branch → Result → Branch
next_branch x b r = record { tree = r.tree; steps = record { name = x; place = r.place; branch = b.tree } ∷ b.steps }

-- ---- formulas

-- the formula as one branch
abbrev pub alone : Tree → List Branch
alone f = record { tree = f; steps = [] } ∷ []

-- the formulas that are left in the branches, in order
abbrev pub branch_trees : List Branch → Trees
branch_trees [] = none
branch_trees (b ∷ bs) = also b.tree (branch_trees bs)

-- the branches joined by or
abbrev pub together : List Branch → Tree
together bs = fold_list Disjunction (branch_trees bs)

-- the negation normal form of the formula
abbrev pub normal_tree : Tree → Tree
normal_tree f = normal_form negated_normal f

-- for true the formula, for false the negation normal form of its negation
abbrev pub turned : Bool → Tree → Tree
turned true f = f
turned false f = normal_form_of_not negated_normal f

-- what a list is joined by in the formula, or in its negation
abbrev pub signed_junction : Bool → Junction → Junction
signed_junction true j = j
signed_junction false Conjunction = Disjunction
signed_junction false Disjunction = Conjunction

module _ (c : Context) (limit : ℕ) where
  -- one step for x, for a branch in which it stands
  abbrev pub full_step : ℕ → Branch → Counted (List Branch)
  full_step x b = do
    _ ← within (span_within c x b.tree)
    _ ← pay limit (point_count c x b.tree * (nodes b.tree + 2))
    _ ← within (step_within c x b.tree)
    give (map (next_branch x b) (step c (normal_atom c) Lower x b.tree))

  -- one step for x, for any branch: where x does not stand in it, the branch is kept with x at 0
  abbrev pub one_step : ℕ → Branch → Counted (List Branch)
  one_step x b = if stands_among x (atoms_in b.tree) then full_step x b else give (kept_at_zero x b ∷ [])

  -- the same of each branch, in order
  abbrev pub steps : ℕ → List Branch → Counted (List Branch)
  steps x [] = give []
  steps x (b ∷ bs) = do
    first ← one_step x b
    rest ← steps x bs
    give (first ++ rest)

  -- ex(x, f) from the branches of f, as one formula; for false its negation
  abbrev pub closed : Bool → ℕ → Counted (List Branch) → Counted (List Branch)
  closed sign x inner = do
    bs ← inner
    left ← steps x bs
    give (alone (turned sign (together left)))

  abbrev mutual
    -- The branches of a formula in negation normal form, or for false those of its negation. A chain is a run of ex from the
    -- outside in: names are those of the chain in which the formula stands. A name that stands there already ends it.
    pub branches : List ℕ → Bool → Tree → Counted (List Branch)
    branches names true Yes = give (alone Yes)
    branches names false Yes = give (alone No)
    branches names true No = give (alone No)
    branches names false No = give (alone Yes)
    branches names true (One a) = give (alone (One a))
    branches names false (One a) = give (alone (One (negated_normal a)))
    branches names sign (And fs) = do
      gs ← members sign fs
      give (alone (fold_list (signed_junction sign Conjunction) gs))
    branches names sign (Or fs) = do
      gs ← members sign fs
      give (alone (fold_list (signed_junction sign Disjunction) gs))
    branches names true (Ex x f) =
        if is_in nat_eq x names then closed true x (branches (x ∷ []) true f) else (branches (x ∷ names) true f >>= steps x)
    branches names false (Ex x f) = closed false x (branches (x ∷ []) true f)
    branches names true (All x f) = closed false x (branches (x ∷ []) false f)
    branches names false (All x f) =
        if is_in nat_eq x names then closed true x (branches (x ∷ []) false f) else (branches (x ∷ names) false f >>= steps x)
    branches names sign f = give []

    -- each member without quantifiers, in order
    pub members : Bool → Trees → Counted Trees
    members sign none = give none
    members sign (also f fs) = do
      bs ← branches [] sign f
      gs ← members sign fs
      give (also (together bs) gs)

  -- the branches of the formula, or for false of its negation; the cost begins as the nodes of its negation normal form
  abbrev pub leading_branches : Bool → Tree → Counted (List Branch)
  leading_branches sign f = do
    _ ← pay limit (nodes (normal_tree f))
    branches [] sign (normal_tree f)

  -- a formula without quantifiers that is equivalent to f, and its cost
  abbrev pub reference : Tree → Outcome (Tree × ℕ)
  reference f = then_of (leading_branches true f 0) (λ r. done (together r.0, r.1))
