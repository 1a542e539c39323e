-- When a clause holds, and when it follows from others. A variable stands for a formula, so a clause is meant at a point.
use Rattle.std.specs.Prelude.{◌≡◌, ℕ, Bool, true, false, List, Some, slice_get}
use Rattle.logic_meaning.specs.Context.{Context}
use Rattle.logic_meaning.specs.Point.{Point}
use Rattle.logic_meaning.specs.Some.{EachOf}
use Rattle.logic_meaning.specs.Tree.{Tree, TrueAt}
use Rattle.clause_theory.specs.declared.clause.Literal.{Literal}
use Rattle.clause_theory.specs.declared.clause.Clause.{Clause}

-- the fact is not (true), or the fact that it is not is not (false)
abbrev pub IsNot : Bool → Type 0 → Type 0
IsNot true P = ¬ P
IsNot false P = ¬ ¬ P

-- the literal fails at the point, where each variable stands for a formula
abbrev pub Fails : (ℕ → Tree) → Context → Point ℕ → Literal → Type 0
Fails f c p l = IsNot l.holds (TrueAt c (f l.variable) p)

-- not all literals fail
abbrev pub Holds : (ℕ → Tree) → Context → Point ℕ → List Literal → Type 0
Holds f c p ls = ¬ (EachOf (Fails f c p) ls)

-- each clause holds
abbrev pub AllHold : (ℕ → Tree) → Context → Point ℕ → List Clause → Type 0
AllHold f c p clauses = (i : ℕ) (k : Clause) → slice_get clauses i ≡ Some k → Holds f c p k.literals.items

-- whatever the variables stand for, the literals hold as a clause wherever the clauses do
abbrev pub Implies : List Clause → List Literal → Type 0
Implies clauses ls = (f : ℕ → Tree) (c : Context) (p : Point ℕ) → AllHold f c p clauses → Holds f c p ls

-- wherever the clauses hold and the literals all fail, the literal fails
abbrev pub FailsWith : List Clause → List Literal → Literal → Type 0
FailsWith clauses ls l = (f : ℕ → Tree) (c : Context) (p : Point ℕ) → AllHold f c p clauses → EachOf (Fails f c p) ls → Fails f c p l
