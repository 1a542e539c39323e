-- Atoms with one name, sorted into one congruence, bounds on each side of the name, and inequations.
use Rattle.std.specs.Prelude.{◌≡◌, ◌↔◌, ℕ, ℤ, pos, ◌≤ℤ◌, ◌<ℤ◌, unsigned_abs, nat_eq, ◌⊎◌, true, List, [], ◌∷◌, ◌++◌}
use Rattle.exact_numbers.specs.Limit.{InLimit}
use Rattle.exact_numbers.specs.Divides.{Divides}
use Rattle.logic_meaning.specs.Context.{Integers}
use Rattle.logic_meaning.specs.Point.{Point, Of, move}
use Rattle.logic_meaning.specs.Form.{Form, value, coefficient, without}
use Rattle.logic_meaning.specs.Some.{EachOf}
use Rattle.logic_meaning.specs.Atom.{Atom, Congruent, Relation, Relates, Says, form_of}
use Rattle.linear_forms.specs.Combinations.{IsLinear}
use Rattle.case_theory.specs.PutThrough.{AreTrue}
use Rattle.shadow_theory.specs.declared.shadow.Shadow.{Shadow}
use Rattle.integer_shadows.specs.declared.congruences.Split.{Split}
use Rattle.integer_shadows.specs.declared.sides.Bounds.{Bounds}
use Rattle.integer_shadows.specs.declared.sides.Sides.{Sides}
use Rattle.integer_shadows.specs.Told.{IsTold, IsTrueIn, HasNames, IsWellMade, IsWith}
use Rattle.integer_shadows.specs.Forms.{IsOver}

-- ---- congruences

-- a positive number within the limit
abbrev pub IsModulus : ℤ → Type 0
IsModulus m = (pos 0 <ℤ m) × InLimit m

-- m divides the value of f at the point, and the value of g
abbrev pub DividesBoth : ℤ → Form → ℤ → Form → Point ℕ → Type 0
DividesBoth m f n g p = Divides m (value f p) × Divides n (value g p)

-- two congruences of one modulus that say what the two first ones do at the points of the integers; the second lacks x
pub record AreMerged (x : ℕ) (m : ℤ) (f : Form) (n : ℤ) (g : Form) (r : Split) : Type 0 where
  pub modulus : IsModulus r.modulus
  pub condition : IsLinear r.condition
  pub gone : coefficient x r.condition ≡ pos 0
  pub others_in_class : (y : ℕ) → coefficient y f ≡ pos 0 → coefficient y g ≡ pos 0 → coefficient y r.class ≡ pos 0
  pub others_in_condition : (y : ℕ) → coefficient y f ≡ pos 0 → coefficient y g ≡ pos 0 → coefficient y r.condition ≡ pos 0
  pub truth : (p : Point ℕ) → DividesBoth m f n g p ↔ DividesBoth r.modulus r.class r.modulus r.condition p

-- ---- bounds

-- at each point of the integers b is at least 0 exactly where f has the relation to 0, and it has the names of f
pub record IsBound (r : Relation) (f b : Form) : Type 0 where
  pub truth : (p : Point ℕ) → Of Integers p → pos 0 ≤ℤ value b p ↔ Relates r (value f p) (pos 0)
  pub names : (y : ℕ) → coefficient y f ≡ pos 0 ↔ coefficient y b ≡ pos 0

-- ---- both

-- each form is at least 0 at the point
abbrev pub AreAtLeast : List Form → Point ℕ → Type 0
AreAtLeast fs p = EachOf (λ (f : Form). pos 0 ≤ℤ value f p) fs

-- no form is 0 at the point
abbrev pub AreNonzero : List Form → Point ℕ → Type 0
AreNonzero fs p = EachOf (λ (f : Form). ¬ (value f p ≡ pos 0)) fs

-- what the sides say is true at the point
pub record IsMet (s : Sides) (p : Point ℕ) : Type 0 where
  pub shadow : IsTrueIn s.shadow p
  pub class : Divides s.bounds.modulus (value s.bounds.class p)
  pub lower : AreAtLeast s.bounds.lower.items p
  pub upper : AreAtLeast s.bounds.upper.items p
  pub differing : AreNonzero s.bounds.differing.items p

-- with some value of the name they are met
abbrev pub AreMetWithValue : ℕ → Sides → Point ℕ → Type 0
AreMetWithValue x s p = (k : ℤ) × IsMet s (move nat_eq p x k 1)

-- no form is bound, and all numbers are in the class
pub record HasNoBound (b : Bounds) : Type 0 where
  pub modulus : b.modulus ≡ pos 1
  pub class : b.class ≡ record { terms = []; constant = pos 0 }
  pub lower : b.lower.items ≡ []
  pub upper : b.upper.items ≡ []
  pub differing : b.differing.items ≡ []

-- the second has these forms, and the congruence of the first
pub record SameBounds (ls us ds : List Form) (old new : Bounds) : Type 0 where
  pub modulus : new.modulus ≡ old.modulus
  pub class : new.class ≡ old.class
  pub lower : new.lower.items ≡ ls
  pub upper : new.upper.items ≡ us
  pub differing : new.differing.items ≡ ds

-- the bounds stand on their side of x, x stands in the inequations, and all names are those of the atoms
pub record AreSides (x : ℕ) (us : List Atom) (s : Sides) : Type 0 where
  pub modulus : IsModulus s.bounds.modulus
  pub names : HasNames x us s.shadow
  pub made : IsWellMade s.shadow
  pub class : IsOver us s.bounds.class
  pub lower : EachOf (λ (f : Form). (pos 0 <ℤ coefficient x f) × IsOver us f) s.bounds.lower.items
  pub upper : EachOf (λ (f : Form). (coefficient x f <ℤ pos 0) × IsOver us f) s.bounds.upper.items
  pub differing : EachOf (λ (f : Form). ¬ (coefficient x f ≡ pos 0)) s.bounds.differing.items

-- the second has the form among its lower or its upper bounds, by the sign of x, and is else the first
abbrev pub IsBoundMore : ℕ → Form → Bounds → Bounds → Type 0
IsBoundMore x f old new =
    ((pos 0 <ℤ coefficient x f) × SameBounds (old.lower.items ++ f ∷ []) old.upper.items old.differing.items old new)
    ⊎ ((coefficient x f <ℤ pos 0) × SameBounds old.lower.items (old.upper.items ++ f ∷ []) old.differing.items old new)

-- the second has the form among those that are not 0, and is else the first
abbrev pub IsDifferingMore : Form → Bounds → Bounds → Type 0
IsDifferingMore f old new = SameBounds old.lower.items old.upper.items (old.differing.items ++ f ∷ []) old new

-- the second has the first of the two congruences, and the shadow the second one
pub record IsSplitOff (r : Split) (told : Shadow) (old : Bounds) (new : Sides) : Type 0 where
  pub shadow : IsWith told new.shadow (Congruent true (unsigned_abs r.modulus) r.condition)
  pub modulus : new.bounds.modulus ≡ r.modulus
  pub class : new.bounds.class ≡ r.class
  pub lower : new.bounds.lower.items ≡ old.lower.items
  pub upper : new.bounds.upper.items ≡ old.upper.items
  pub differing : new.bounds.differing.items ≡ old.differing.items

-- the second sides say what the first ones and the atom do
pub record AreSidesWith (x : ℕ) (old new : Sides) (a : Atom) : Type 0 where
  pub told : IsTold new.shadow → IsTold old.shadow
  pub truth : IsTold new.shadow → (p : Point ℕ) → Of Integers p → IsMet new p ↔ (IsMet old p × Says a p)
  pub sides : (us : List Atom) → AreSides x us old → IsOver us (form_of a) → AreSides x us new
  pub modulus : IsModulus old.bounds.modulus → IsModulus new.bounds.modulus

-- the sides say what the atoms do
pub record AreSidesOf (x : ℕ) (us : List Atom) (s : Sides) : Type 0 where
  pub truth : IsTold s.shadow → (p : Point ℕ) → Of Integers p → IsMet s p ↔ AreTrue us p
  pub sides : AreSides x us s

-- where the given atoms are true, the shadow is exactly where the sides are met with some value of the name
pub record IsShadowOfSides (x : ℕ) (given : List Atom) (s : Sides) (shadow : Shadow) : Type 0 where
  pub told : IsTold shadow → IsTold s.shadow
  pub truth : IsTold shadow → (us : List Atom) → AreSides x us s → (p : Point ℕ) → Of Integers p → AreTrue given p → IsTrueIn shadow p ↔ AreMetWithValue x s p
  pub names : (us : List Atom) → AreSides x us s → HasNames x us shadow
  pub made : IsWellMade s.shadow → IsWellMade shadow

-- the second shadow tells the first one, and that d divides f without the multiple of x
pub record IsConditioned (x : ℕ) (d : ℤ) (f : Form) (old new : Shadow) : Type 0 where
  pub told : IsTold new → IsTold old
  pub truth : IsTold new → (p : Point ℕ) → Of Integers p → IsTrueIn new p ↔ (IsTrueIn old p × Divides d (value (without x f) p))
  pub names : (us : List Atom) → HasNames x us old → IsOver us f → HasNames x us new
  pub made : IsWellMade old → IsWellMade new
