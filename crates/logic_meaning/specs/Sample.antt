-- The reference elimination at a point: the truth there, and the sample. The point is put in; the sample gives values to the names
-- of the first case whose guard is true, one after the other.
use Rattle.std.specs.Prelude.{ℕ, Bool, true, List, [], ◌∷◌, Option, Some, None}
use Rattle.logic_meaning.specs.Context.{Context}
use Rattle.logic_meaning.specs.Point.{Point}
use Rattle.logic_meaning.specs.Formula.{Yes}
use Rattle.logic_meaning.specs.Sizes.{nodes}
use Rattle.logic_meaning.specs.Tree.{Tree}
use Rattle.logic_meaning.specs.Answers.{Step}
use Rattle.logic_meaning.specs.Measured.{Outcome, Counted, ◌>>=◌, pay, within, then_of, done}
use Rattle.logic_meaning.specs.Reference.{Branch, normal_tree, together, branches}
use Rattle.logic_meaning.specs.Cases.{case_sign}
use Rattle.logic_meaning.specs.PutIn.{tree_put_within, put_in}

-- the first where the tree is true
abbrev pub if_true : Tree → List Step → Option (List Step) → Option (List Step)
if_true Yes steps rest = Some steps
if_true f steps rest = rest

-- the steps of the first branch that is true
abbrev pub first_true : List Branch → Option (List Step)
first_true [] = None
first_true (b ∷ bs) = if_true b.tree b.steps (first_true bs)

module _ (c : Context) (limit : ℕ) (p : Point ℕ) where
  -- the branches of the formula at the point, or for false of its negation: nodes are counted before the point is put in
  abbrev pub branches_at : Bool → Tree → Counted (List Branch)
  branches_at sign f = do
    _ ← pay limit (nodes (normal_tree f))
    _ ← within (tree_put_within c p [] (normal_tree f))
    branches c limit [] sign (put_in c p f)

  -- true or false, as the formula is at the point, and the cost
  abbrev pub reference_at : Tree → Outcome (Tree × ℕ)
  reference_at f = then_of (branches_at true f 0) (λ r. done (together r.0, r.1))

  -- the steps of the first case whose guard is true at the point, and the cost
  abbrev pub chosen_steps : Tree → Outcome (Option (List Step) × ℕ)
  chosen_steps f = then_of (branches_at (case_sign (normal_tree f)) f 0) (λ r. done (first_true r.0, r.1))
