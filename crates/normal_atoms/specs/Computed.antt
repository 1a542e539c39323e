-- Merging and deciding of normal atoms as functions that compute, and what makes their answers right.
use Rattle.std.specs.Prelude.{ℕ, ◌^◌, nat_eq, nat_lt, ℤ, pos, unsigned_abs, ◌+ℤ◌, ◌-ℤ◌, ◌*ℤ◌, Bool, true, false, not, ◌&&◌, Option, Some, None, if◌then◌else◌}
use Rattle.std.specs.declared.cmp.Ordering.{Ordering}
use Rattle.std.specs.declared.cmp.Ordering.TheVariants.{Less, Equal, Greater}
use Rattle.std.specs.Ordering.{int_cmp, int_eq}
use Rattle.exact_numbers.specs.Limit.{InLimit}
use Rattle.exact_numbers.specs.Divides.{content_of}
use Rattle.logic_meaning.specs.Context.{Context, Fields, Integers}
use Rattle.logic_meaning.specs.Form.{Form}
use Rattle.logic_meaning.specs.Atom.{Atom, Compare, Congruent, opposite_relation, form_of}
use Rattle.logic_meaning.specs.Same.{same_terms}
use Rattle.logic_meaning.specs.declared.junction.Junction.{Junction}
use Rattle.logic_meaning.specs.declared.junction.Junction.TheVariants.{Conjunction, Disjunction}
use Rattle.logic_meaning.specs.Terms.{coefficients}
use Rattle.logic_meaning.specs.NormalForm.{IsNormal}
use Rattle.normal_atoms.specs.declared.atom_merging_comparison.Position.{Position}
use Rattle.normal_atoms.specs.declared.atom_merging_comparison.Position.TheVariants as lies
use Rattle.normal_atoms.specs.declared.atom_merging_congruence.Class.{Class}
use Rattle.normal_atoms.specs.declared.atom_merging_congruence.Class.TheVariants as class_is
use Rattle.normal_atoms.specs.Atoms.{atom_of}
use Rattle.normal_atoms.specs.declared.answers.Merged as answers
use Rattle.normal_atoms.specs.declared.answers.Merged.TheVariants as answer_is
use Rattle.logic_meaning.specs.Merging.{variable_part, Settles, MergesInto, IsKept}
use Rattle.normal_atoms.specs.Verdicts as verdicts
use Rattle.normal_atoms.specs.Verdicts.{Verdict, verdict, both, normal_comparison}
use Rattle.normal_atoms.specs.Classes.{class, both_classes}

-- what two atoms become in a list
pub data Merging (A : Type 0) : Type 0 where
  -- the list is false for and, true for or
  Settled : Merging A
  -- one atom stands for both
  Into : A → Merging A
  -- both stay
  Kept : Merging A

-- ---- comparisons

-- over the integers, the threshold of v + b is the number after that of v + a
abbrev pub is_next : Context → ℤ → ℤ → Bool
is_next Fields a b = false
is_next Integers a b = int_eq a (b +ℤ pos 1)

-- how two thresholds lie, by their order
abbrev pub placed : Context → ℤ → ℤ → Ordering → Position
placed c a b Less = if is_next c a b then lies.NextBelow else lies.Below
placed c a b Equal = lies.Same
placed c a b Greater = if is_next c b a then lies.NextAbove else lies.Above

-- the position of f's threshold seen from that of g
abbrev pub position : Context → Form → Form → Position
position c f g = placed c f.constant g.constant (int_cmp (g.constant *ℤ content_of (coefficients f.terms)) (f.constant *ℤ content_of (coefficients g.terms)))

-- the atom, where its constant is within the limit
abbrev pub into_within : Atom → Merging Atom
into_within a = if nat_lt (unsigned_abs (form_of a).constant) (2 ^ 127) then Into a else Kept

abbrev pub of_verdict : Context → Form → Form → Verdict → Merging Atom
of_verdict c f g verdicts.Settled = Settled
of_verdict c f g (verdicts.First q) = into_within (normal_comparison c q f)
of_verdict c f g (verdicts.Second q) = into_within (normal_comparison c q g)
of_verdict c f g verdicts.Kept = Kept

abbrev pub is_settled : Verdict → Bool
is_settled verdicts.Settled = true
is_settled v = false

-- ---- congruences

-- a third class is told by a congruence in an and, and by its negation in an or
abbrev pub is_told : Junction → Bool
is_told Conjunction = true
is_told Disjunction = false

abbrev pub of_class : Junction → ℕ → Bool → Form → Bool → Form → Class → Merging Atom
of_class j m b f d g class_is.Settled = Settled
of_class j m b f d g class_is.First = Into (Congruent b m f)
of_class j m b f d g class_is.Second = Into (Congruent d m g)
of_class j m b f d g class_is.Third = Into (Congruent (is_told j) m (record { terms = f.terms; constant = (pos 3 -ℤ f.constant) -ℤ g.constant }))
of_class j m b f d g class_is.Kept = Kept

abbrev pub is_settled_class : Class → Bool
is_settled_class class_is.Settled = true
is_settled_class v = false

-- ---- both

-- true where the negation is excluded, false where the atom is
abbrev pub answer : Bool → Bool → Option Bool
answer true b = Some true
answer false true = Some false
answer false false = None

-- one variable part, or one modulus and the same terms
abbrev pub is_same_part : Atom → Atom → Bool
is_same_part (Compare r f) (Compare s g) = same_terms (variable_part f.terms) (variable_part g.terms)
is_same_part (Congruent b m f) (Congruent d n g) = nat_eq m n && same_terms f.terms g.terms
is_same_part a b = false

-- atoms of one variable part
abbrev pub merged_part : Context → Junction → Atom → Atom → Merging Atom
merged_part c j (Compare r f) (Compare s g) = of_verdict c f g (verdict j (position c f g) r s)
merged_part c j (Congruent b m f) (Congruent d n g) = of_class j m b f d g (class j (pos m) b f.constant d g.constant)
merged_part c j a b = Kept

abbrev pub merged : Context → Junction → Atom → Atom → Merging Atom
merged c j a b = if is_same_part a b then merged_part c j a b else Kept

abbrev pub decided_part : Context → Atom → Atom → Option Bool
decided_part c (Compare r f) (Compare s g) = let p = position c f g in answer (is_settled (both p r (opposite_relation s))) (is_settled (both p r s))
decided_part c (Congruent b m f) (Congruent d n g) = answer (is_settled_class (both_classes (pos m) b f.constant (not d) g.constant)) (is_settled_class (both_classes (pos m) b f.constant d g.constant))
decided_part c a b = None

-- whether the first decides the second
abbrev pub decided_by : Context → Atom → Atom → Option Bool
decided_by c a b = if is_same_part a b then decided_part c a b else None

-- ---- what is owed

-- the answer is right: what the two atoms become stands for the intersection or the union of their sets
abbrev pub IsRight : Context → Junction → Atom → Atom → Merging Atom → Type 0
IsRight c j a b Settled = Settles c j a b
IsRight c j a b (Into e) = MergesInto c j a b e × InLimit (form_of e).constant
IsRight c j a b Kept = IsKept c j a b

-- a normal atom whose constant is within the limit
pub record IsNormalWithin (c : Context) (a : Atom) : Type 0 where
  pub normal : IsNormal c a
  pub within : InLimit (form_of a).constant

-- the program's answer
abbrev pub merging_of : answers.Merged → Merging Atom
merging_of answer_is.True = Settled
merging_of answer_is.False = Settled
merging_of (answer_is.One a) = Into (atom_of a)
merging_of answer_is.Keep = Kept
