-- The problem of a target: names to be eliminated, weak constraints on them, and the name whose value is to be least.
use Rattle.std.specs.Prelude.{◌≡◌, ◌↔◌, ℕ, ℤ, pos, ◌<ℤ◌, ◌≤ℤ◌, Bool, List, map}
use Rattle.logic_meaning.specs.Context.{Fields}
use Rattle.logic_meaning.specs.Every.{Every}
use Rattle.logic_meaning.specs.Form.{Form, value}
use Rattle.logic_meaning.specs.Formula.{Yes, No, One, Not, And, Or, Impl, Repl, Equiv, Ex, All}
use Rattle.logic_meaning.specs.Atom.{Compare, Congruent}
use Rattle.logic_meaning.specs.Plain.{IsPlain}
use Rattle.logic_meaning.specs.Point.{Point, Of}
use Rattle.logic_meaning.specs.Shape.{IsQuantifierFree}
use Rattle.logic_meaning.specs.Sizes.{subtrees}
use Rattle.logic_meaning.specs.Some.{Among, EachOf}
use Rattle.logic_meaning.specs.Tree.{Tree, TrueAt}
use Rattle.formula_laws.specs.StandsOnce.{StandsOnce}
use Rattle.logic_meaning.specs.Constraints.{Bound, Equal, AtMost, Below, Constraint}
use Rattle.linear_theory.specs.Meeting.{MeetsAll}
use Rattle.linear_theory.specs.WeakTargets.{IsWeak, IsWeakRelation, exs}
use Rattle.linear_forms.specs.Values.{number_of}
use Rattle.certificates.specs.Constraints.{constraint_of}
use Rattle.formula_store.specs.Nodes.{tree, IsId}
use Rattle.least_search.specs.declared.problem.Problem.{Problem}

-- a constant, or a comparison by =, <= or >=
abbrev pub IsWeakMember : Tree → Type 0
IsWeakMember Yes = Unit {0}
IsWeakMember No = Unit {0}
IsWeakMember (One (Compare r f)) = IsWeakRelation r
IsWeakMember (One (Congruent holds n f)) = ⊥
IsWeakMember (Not f) = ⊥
IsWeakMember (And fs) = ⊥
IsWeakMember (Or fs) = ⊥
IsWeakMember (Impl f g) = ⊥
IsWeakMember (Repl f g) = ⊥
IsWeakMember (Equiv f g) = ⊥
IsWeakMember (Ex x f) = ⊥
IsWeakMember (All x f) = ⊥

-- the formula is built by and and or from weak constraints, has no quantifier and no congruence, and is true at the points that meet the
-- constraints
pub record AreRowsOf (f : Tree) (cs : List Constraint) : Type 0 where
  pub is_plain : IsPlain f
  pub weak : Every IsWeak f
  pub free : IsQuantifierFree f
  pub whole : (holds : Bool) (n : ℕ) (e : Form) → ¬ (Among (subtrees f) (One (Congruent holds n e)))
  pub says : (p : Point ℕ) → Of Fields p → TrueAt Fields f p ↔ MeetsAll p cs

-- what the problem was read from
abbrev pub formula_of : Problem → Tree
formula_of p = exs (map number_of p.names.items) (tree p.store.now p.matrix)

-- the names differ from each other and from the target, and the rows are those of what stands behind the names
pub record IsProblem (p : Problem) : Type 0 where
  pub id : IsId p.store.now p.matrix
  pub once : StandsOnce (map number_of p.names.items)
  pub apart : ¬ (Among (map number_of p.names.items) p.target.number)
  pub rows : AreRowsOf (tree p.store.now p.matrix) (map constraint_of p.rows.items)

-- the problem is the formula's, with the name as its target
pub record IsProblemOf (z : ℕ) (f : Tree) (p : Problem) : Type 0 where
  pub is : IsProblem p
  pub same : f ≡ formula_of p
  pub target : p.target.number ≡ z

-- ---- directions

-- a value that is as it is to be stays so where it changes like this
abbrev pub IsKeptBy : Bound → ℤ → Type 0
IsKeptBy Equal v = v ≡ pos 0
IsKeptBy AtMost v = v ≤ℤ pos 0
IsKeptBy Below v = v ≤ℤ pos 0

-- what the names add to the value of the form
abbrev pub named_part : Form → Form
named_part f = record { terms = f.terms; constant = pos 0 }

-- a point that meets the constraint meets it when it goes on by the steps
abbrev pub IsKeptAlong : Point ℕ → Constraint → Type 0
IsKeptAlong steps c = IsKeptBy c.bound (value (named_part c.form) steps)

-- so it is of each constraint, the target falls, and other names stay
pub record LeadsDown (z : ℕ) (names : List ℕ) (cs : List Constraint) (steps : Point ℕ) : Type 0 where
  pub positive : Of Fields steps
  pub falls : steps.at z <ℤ pos 0
  pub kept : EachOf (IsKeptAlong steps) cs
  pub stays : (x : ℕ) → ¬ (z ≡ x) → ¬ (Among names x) → steps.at x ≡ pos 0
