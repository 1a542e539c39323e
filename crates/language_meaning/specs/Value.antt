-- What terms and formulas mean as they are written, over unlimited numbers. Truth is a fact and not a test.
use Rattle.std.specs.Ordering.{int_eq}
use Rattle.std.specs.Prelude.{◌≡◌, ℕ, ◌⊎◌, ℤ, pos, ◌*ℤ◌, unsigned_abs, List, if◌then◌else◌}
pub use Rattle.logic_meaning.specs.SameName.{same_name}
use Rattle.exact_numbers.specs.Frac.{Frac, SameValue, whole_frac, true_sum, true_product, true_power, negated, inverted}
use Rattle.logic_meaning.specs.Context.{Context}
use Rattle.logic_meaning.specs.Point.{Point, move}
use Rattle.logic_meaning.specs.Truth.{True}
use Rattle.logic_meaning.specs.Atom as meaning
use Rattle.language_meaning.specs.declared.tree.Literal.{Literal}
use Rattle.language_meaning.specs.declared.tree.Literal.TheVariants.{Fits, Past}
use Rattle.language_meaning.specs.declared.tree.Relation.{Relation}
use Rattle.language_meaning.specs.declared.tree.Relation.TheVariants.{Equal, Differs, Less, AtMost, Greater, AtLeast}
use Rattle.language_meaning.specs.Trees.{TermTree, TermTrees, Number, Named, Sum, Product, Quotient, Power, Negative, none, also, WrittenAtom, Compare, Cong, Ncong, Bound, FormulaTree}

-- the points of written formulas: a value for each name
abbrev pub NamedPoint : Type 0
NamedPoint = Point (List ℕ)

-- The number that a literal stands for. One above the limit keeps no number; no accepted statement has one.
abbrev pub literal_number : Literal → ℤ
literal_number (Fits n) = n
literal_number Past = pos 0

-- a quotient; by 0 it is 0, and no accepted statement has one
abbrev pub true_quotient : Frac → Frac → Frac
true_quotient v w = if int_eq w.numerator (pos 0) then whole_frac (pos 0) else true_product v (inverted w)

abbrev mutual
  -- the value of a term at a point, as a fraction
  pub value : TermTree → NamedPoint → Frac
  value (Number n) p = whole_frac (literal_number n)
  value (Named x) p = record { numerator = p.at x; denominator = pos p.below }
  value (Sum ts) p = value_of_sum ts p
  value (Product ts) p = value_of_product ts p
  value (Quotient s t) p = true_quotient (value s p) (value t p)
  value (Power t n) p = true_power (value t p) (unsigned_abs (literal_number n))
  value (Negative t) p = negated (value t p)

  -- the sum of the values, 0 for none
  pub value_of_sum : TermTrees → NamedPoint → Frac
  value_of_sum none p = whole_frac (pos 0)
  value_of_sum (also t ts) p = true_sum (value t p) (value_of_sum ts p)

  -- the product of the values, 1 for none
  pub value_of_product : TermTrees → NamedPoint → Frac
  value_of_product none p = whole_frac (pos 1)
  value_of_product (also t ts) p = true_product (value t p) (value_of_product ts p)

-- the relation that a comparison stands for
abbrev pub relation_of : Relation → meaning.Relation
relation_of Equal = meaning.Equals
relation_of Differs = meaning.Differs
relation_of Less = meaning.Below
relation_of AtMost = meaning.AtMost
relation_of Greater = meaning.Above
relation_of AtLeast = meaning.AtLeast

-- the first fraction has the relation to the second, by cross multiplication
abbrev pub RelatesFractions : Relation → Frac → Frac → Type 0
RelatesFractions rel v w = meaning.Relates (relation_of rel) (v.numerator *ℤ w.denominator) (w.numerator *ℤ v.denominator)

-- some whole number times the modulus is the difference
abbrev pub IsCongruent : Frac → Frac → Frac → Type 0
IsCongruent v w modulus = (q : ℤ) × SameValue (true_sum v (negated w)) (true_product (whole_frac q) modulus)

-- The atom is true at the point. named x p says what a name that stands as a formula means there.
abbrev pub Says : (List ℕ → NamedPoint → Type 0) → WrittenAtom → NamedPoint → Type 0
Says named (Compare rel s t) p = RelatesFractions rel (value s p) (value t p)
Says named (Cong s t m) p = IsCongruent (value s p) (value t p) (value m p)
Says named (Ncong s t m) p = ¬ (IsCongruent (value s p) (value t p) (value m p))
Says named (Bound x) p = named x p

-- the formula is true at the point
abbrev pub TrueAt : (List ℕ → NamedPoint → Type 0) → Context → FormulaTree → NamedPoint → Type 0
TrueAt named c f p = True (Says named) (move same_name) c f p

-- the name stands in the term
abbrev mutual
  pub HasName : TermTree → List ℕ → Type 0
  HasName (Number n) x = ⊥
  HasName (Named y) x = y ≡ x
  HasName (Sum ts) x = HaveName ts x
  HasName (Product ts) x = HaveName ts x
  HasName (Quotient s t) x = HasName s x ⊎ HasName t x
  HasName (Power t n) x = HasName t x
  HasName (Negative t) x = HasName t x

  -- the name stands in some of the terms
  pub HaveName : TermTrees → List ℕ → Type 0
  HaveName none x = ⊥
  HaveName (also t ts) x = HasName t x ⊎ HaveName ts x

-- the name stands in a term of the atom
abbrev pub Mentions : WrittenAtom → List ℕ → Type 0
Mentions (Compare rel s t) x = HasName s x ⊎ HasName t x
Mentions (Cong s t m) x = HasName s x ⊎ (HasName t x ⊎ HasName m x)
Mentions (Ncong s t m) x = HasName s x ⊎ (HasName t x ⊎ HasName m x)
Mentions (Bound y) x = ⊥
