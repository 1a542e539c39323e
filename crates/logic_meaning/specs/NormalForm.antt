-- The normal form of an atom in each theory, and which atoms are in normal form. All numbers are unlimited.
use Rattle.std.specs.Prelude.{◌≡◌, ℕ, ◌<◌, ℤ, pos, negsuc, neg_ℤ, ◌-ℤ◌, ◌<ℤ◌, ◌≤ℤ◌, Bool, true, false, not, List, [], ◌∷◌, unsigned_abs, int_div, nat_eq, if◌then◌else◌}
use Rattle.std.specs.declared.cmp.Ordering.{Ordering}
use Rattle.std.specs.declared.cmp.Ordering.TheVariants.{Less, Equal, Greater}
use Rattle.std.specs.Ordering.{int_cmp, int_eq, is_gt}
use Rattle.exact_numbers.specs.Limit.{PastLimit}
use Rattle.exact_numbers.specs.Divides.{content_of, floor_of, residue_of}
use Rattle.logic_meaning.specs.Context.{Context, Fields, Integers}
use Rattle.logic_meaning.specs.Formula.{Yes, No, One}
use Rattle.logic_meaning.specs.Form.{Form, Term, scale}
use Rattle.logic_meaning.specs.Sorted.{IsSorted, gathered}
use Rattle.logic_meaning.specs.Atom.{Relation, Equals, Differs, Below, AtMost, Above, AtLeast, Atom, Compare, Congruent, mirrored, opposite_relation, form_of}
use Rattle.logic_meaning.specs.Tree.{Tree}
use Rattle.logic_meaning.specs.Terms.{coefficients}
use Rattle.logic_meaning.specs.Reduction.{quotients, quotient, residue_form, AllReduced}

-- ---- parts

-- always true, or always false
abbrev pub constant_tree : Bool → Tree
constant_tree true = Yes
constant_tree false = No

-- whether a number has the relation to another, by the order of the two
abbrev pub holds : Relation → Ordering → Bool
holds Equals Equal = true
holds Equals o = false
holds Differs Equal = false
holds Differs o = true
holds Below Less = true
holds Below o = false
holds AtMost Greater = false
holds AtMost o = true
holds Above Greater = true
holds Above o = false
holds AtLeast Less = false
holds AtLeast o = true

-- the first coefficient, 0 where there is none
abbrev pub first : List Term → ℤ
first [] = pos 0
first (t ∷ ts) = t.times

-- the number, with the sign changed where the first coefficient is negative
abbrev pub turned : ℤ → ℤ → ℤ
turned (pos n) k = k
turned (negsuc n) k = neg_ℤ k

-- the relation, mirrored where the first coefficient is negative
abbrev pub facing : ℤ → Relation → Relation
facing (pos n) r = r
facing (negsuc n) r = mirrored r

-- ---- comparisons

-- over the fields all numbers are divided by their greatest common divisor, and the first coefficient becomes positive
abbrev pub compared_in_fields : Relation → List Term → ℤ → Tree
compared_in_fields r [] c = constant_tree (holds r (int_cmp c (pos 0)))
compared_in_fields r (t ∷ ts) c =
    One (Compare (facing t.times r) (quotient (record { terms = t ∷ ts; constant = c }) (turned t.times (content_of (c ∷ coefficients (t ∷ ts))))))

-- the atom v + k relation 0
abbrev pub bound : Relation → List Term → ℤ → Tree
bound r v k = One (Compare r (record { terms = v; constant = k }))

-- over the integers, g * v + c relation 0 for a positive g: a bound is rounded to a multiple of g, and an equation
-- has no solution where g does not divide c
abbrev pub rounded : Relation → ℤ → List Term → ℤ → Tree
rounded Equals g v c = if int_eq (residue_of c g) (pos 0) then bound Equals v (floor_of c g) else No
rounded Differs g v c = if int_eq (residue_of c g) (pos 0) then bound Differs v (floor_of c g) else Yes
rounded AtMost g v c = bound AtMost v (neg_ℤ (floor_of (neg_ℤ c) g))
rounded Above g v c = bound Above v (neg_ℤ (floor_of (neg_ℤ c) g))
rounded Below g v c = bound AtMost v (neg_ℤ (floor_of (neg_ℤ c -ℤ pos 1) g))
rounded AtLeast g v c = bound Above v (neg_ℤ (floor_of (neg_ℤ c -ℤ pos 1) g))

-- over the integers the coefficients are divided by their greatest common divisor, and the first becomes positive
abbrev pub compared_over_integers : Relation → List Term → ℤ → Tree
compared_over_integers r [] c = constant_tree (holds r (int_cmp c (pos 0)))
compared_over_integers r (t ∷ ts) c =
    let g = content_of (coefficients (t ∷ ts)) in
    rounded (facing t.times r) g (quotients (turned t.times g) (t ∷ ts)) (turned t.times c)

-- ---- congruences

-- of a form and its negative modulo m, the one whose first coefficient is the smaller
abbrev pub smaller : ℤ → Form → Form
smaller m f = if is_gt (int_cmp (first f.terms) (m -ℤ first f.terms)) then residue_form (scale (negsuc 0) f) m else f

-- modulo 2 a form is not congruent to 0 where the form with the other constant is
abbrev pub congruence : Bool → ℕ → Form → Atom
congruence true m f = Congruent true m f
congruence false m f =
    if nat_eq m 2 then Congruent true 2 (record { terms = f.terms; constant = pos 1 -ℤ residue_of f.constant (pos 2) }) else Congruent false m f

-- a congruence whose coefficients have no common divisor with the modulus m
abbrev pub coprime_congruence : Bool → ℤ → Form → Tree
coprime_congruence b m f = if int_eq m (pos 1) then constant_tree b else One (congruence b (unsigned_abs m) (smaller m f))

-- a congruence whose numbers are from 0 up to m - 1: all are divided by the greatest common divisor g of the modulus
-- and the coefficients, and where g does not divide the constant the form is never congruent to 0
abbrev pub reduced_congruence : Bool → ℤ → ℤ → Form → Tree
reduced_congruence b m g f = if int_eq (residue_of f.constant g) (pos 0) then coprime_congruence b (int_div m g) (quotient f g) else constant_tree (not b)

-- the numbers are reduced modulo m first
abbrev pub congruent : Bool → ℤ → Form → Tree
congruent b m f = let r = residue_form f m in reduced_congruence b m (content_of (m ∷ coefficients r.terms)) r

-- ---- atoms

-- the normal form of an atom of the theory: always true, always false, or one atom
unfoldable pub normal_atom : Context → Atom → Tree
normal_atom Fields (Compare r f) = let s = gathered f in compared_in_fields r s.terms s.constant
normal_atom Integers (Compare r f) = let s = gathered f in compared_over_integers r s.terms s.constant
normal_atom c (Congruent b m f) = congruent b (pos m) (gathered f)

-- the atom of the opposite truth; it is normal where the atom is
abbrev pub negated_normal : Atom → Atom
negated_normal (Compare r f) = Compare (opposite_relation r) f
negated_normal (Congruent b m f) = congruence (not b) m f

-- the constant of the normal form passes the limit
abbrev pub ConstantPasses : Tree → Type 0
ConstantPasses (One a) = PastLimit (form_of a).constant
ConstantPasses f = ⊥

-- ---- normal atoms

-- the terms are sorted, and the first coefficient is positive; so there is one
pub record IsOriented (f : Form) : Type 0 where
  pub sorted : IsSorted f
  pub positive : pos 0 <ℤ first f.terms

-- the relations of normal atoms over the integers
abbrev pub IsIntegerRelation : Relation → Type 0
IsIntegerRelation Equals = Unit {0}
IsIntegerRelation Differs = Unit {0}
IsIntegerRelation Below = ⊥
IsIntegerRelation AtMost = Unit {0}
IsIntegerRelation Above = Unit {0}
IsIntegerRelation AtLeast = ⊥

-- over the fields: no number above 1 divides all numbers of the form
pub record IsFieldComparison (f : Form) : Type 0 where
  pub oriented : IsOriented f
  pub coprime : content_of (f.constant ∷ coefficients f.terms) ≡ pos 1

-- over the integers: no number above 1 divides all coefficients
pub record IsIntegerComparison (r : Relation) (f : Form) : Type 0 where
  pub relation : IsIntegerRelation r
  pub oriented : IsOriented f
  pub coprime : content_of (coefficients f.terms) ≡ pos 1

-- over the integers: the numbers are residues, no number above 1 divides the modulus and all coefficients, the first
-- coefficient is at most that of the negative, and modulo 2 the form is congruent to 0
pub record IsNormalCongruence (b : Bool) (m : ℕ) (f : Form) : Type 0 where
  pub above_one : 1 < m
  pub sorted : IsSorted f
  pub reduced : AllReduced (pos m) (f.constant ∷ coefficients f.terms)
  pub coprime : content_of (pos m ∷ coefficients f.terms) ≡ pos 1
  pub small : first f.terms ≤ℤ (pos m -ℤ first f.terms)
  pub told : m ≡ 2 → b ≡ true

-- the atom is in normal form
abbrev pub IsNormal : Context → Atom → Type 0
IsNormal Fields (Compare r f) = IsFieldComparison f
IsNormal Integers (Compare r f) = IsIntegerComparison r f
IsNormal Fields (Congruent b m f) = ⊥
IsNormal Integers (Congruent b m f) = IsNormalCongruence b m f
