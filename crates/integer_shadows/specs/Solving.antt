-- Atoms with a name, where an equation has the name.
use Rattle.std.specs.Prelude.{◌≡◌, ◌↔◌, ℕ, suc, ℤ, pos, negsuc, neg_ℤ, nat_eq, List}
use Rattle.logic_meaning.specs.Context.{Integers}
use Rattle.logic_meaning.specs.Point.{Point, Of, move}
use Rattle.logic_meaning.specs.Form.{Form, value, coefficient}
use Rattle.logic_meaning.specs.Some.{Among, EachOf}
use Rattle.logic_meaning.specs.Atom.{Atom, Equals, Compare, Says, Mentions, form_of}
use Rattle.shadow_theory.specs.declared.shadow.Shadow.{Shadow}
use Rattle.integer_shadows.specs.Told.{IsTold, IsTrueIn, HasNames, IsWellMade}
use Rattle.integer_shadows.specs.Forms.{IsOver}

-- the absolute value
abbrev pub magnitude : ℤ → ℤ
magnitude (pos n) = pos n
magnitude (negsuc n) = pos (suc n)

-- the second number, with its sign changed unless the first is negative
abbrev pub turned_by : ℤ → ℤ → ℤ
turned_by (pos n) b = neg_ℤ b
turned_by (negsuc n) b = b

-- with some value of x the form is 0
abbrev pub IsZeroWithValue : ℕ → Form → Point ℕ → Type 0
IsZeroWithValue x e p = (k : ℤ) × (value e (move nat_eq p x k 1) ≡ pos 0)

-- one of the atoms says that e is 0, and x stands in e
pub record IsEquation (x : ℕ) (us : List Atom) (e : Form) : Type 0 where
  pub among : Among us (Compare Equals e)
  pub stands : ¬ (coefficient x e ≡ pos 0)

-- where e is 0, the second atom, which lacks x, is true exactly where the first is
pub record IsAtomBy (x : ℕ) (e : Form) (a r : Atom) : Type 0 where
  pub truth : (p : Point ℕ) → Of Integers p → value e p ≡ pos 0 → Says r p ↔ Says a p
  pub gone : coefficient x (form_of r) ≡ pos 0
  pub others : (y : ℕ) → coefficient y e ≡ pos 0 → coefficient y (form_of a) ≡ pos 0 → coefficient y (form_of r) ≡ pos 0

-- the second shadow tells of the first one, and where e is 0, of those of the atoms that have x
pub record IsMoreBy (x : ℕ) (e : Form) (us : List Atom) (old new : Shadow) : Type 0 where
  pub told : IsTold new → IsTold old
  pub keeps : IsTold new → (p : Point ℕ) → Of Integers p → IsTrueIn new p → IsTrueIn old p
  pub truth : IsTold new → (p : Point ℕ) → Of Integers p → value e p ≡ pos 0 → IsTrueIn new p ↔ (IsTrueIn old p × EachOf (λ (u : Atom). Mentions u x → Says u p) us)
  pub names : (ws : List Atom) → HasNames x ws old → IsOver ws e → EachOf (λ (u : Atom). IsOver ws (form_of u)) us → HasNames x ws new
  pub made : IsWellMade old → IsWellMade new

-- the second shadow tells the first one, and that some value of x makes e equal 0
pub record IsSolvable (x : ℕ) (e : Form) (old new : Shadow) : Type 0 where
  pub told : IsTold new → IsTold old
  pub truth : IsTold new → (p : Point ℕ) → Of Integers p → IsTrueIn new p ↔ (IsTrueIn old p × IsZeroWithValue x e p)
  pub names : (ws : List Atom) → HasNames x ws old → IsOver ws e → HasNames x ws new
  pub made : IsWellMade old → IsWellMade new

-- the second shadow tells of the first one and of the atoms that have x where e is 0, and that e may be 0
pub record IsSolved (x : ℕ) (e : Form) (us : List Atom) (old new : Shadow) : Type 0 where
  pub told : IsTold new → IsTold old
  pub solvable : IsTold new → (p : Point ℕ) → Of Integers p → IsTrueIn new p → IsZeroWithValue x e p
  pub truth : IsTold new → (p : Point ℕ) → Of Integers p → value e p ≡ pos 0 → IsTrueIn new p ↔ (IsTrueIn old p × EachOf (λ (u : Atom). Mentions u x → Says u p) us)
  pub names : (ws : List Atom) → HasNames x ws old → IsOver ws e → EachOf (λ (u : Atom). IsOver ws (form_of u)) us → HasNames x ws new
  pub made : IsWellMade old → IsWellMade new
