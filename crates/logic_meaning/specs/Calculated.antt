-- The value of a name at its place, calculated from the branch into which the place was substituted and from the values found
-- before. A fraction is formed by the fraction rule, and None says that a number passes the limit of exact_numbers. These are the
-- numbers that are formed:
--   the least common denominator of the values found before, and their numerators over it;
--   the products and partial sums of the place's form with these numbers, and the product of the two denominators;
--   where critical values are asked, those of the branch with these numbers, and its atoms in normal form;
--   the numbers of the sum and of the product that give the value, and over the integers the value itself.
-- Critical values are asked where the place is not exact. They are numbers of an atom divided, and so within the limit.
-- Places of the upper side are those of the lower side among the negatives.
use Rattle.std.specs.Prelude.{ℕ, zero, suc, ℤ, pos, negsuc, neg_ℤ, ◌-ℤ◌, ◌*ℤ◌, int_lt, Bool, List, [], ◌∷◌, ◌++◌, map, Option, Some, None, option_map, if◌then◌else◌}
use Rattle.exact_numbers.specs.Limit.{checked}
use Rattle.exact_numbers.specs.Divides.{floor_of, residue_of}
use Rattle.exact_numbers.specs.Frac.{Frac, whole_frac, lowest, sum_step, product_step, ◌>>=◌}
use Rattle.logic_meaning.specs.Context.{Context}
use Rattle.logic_meaning.specs.Point.{Point}
use Rattle.logic_meaning.specs.Form.{Form, coefficient}
use Rattle.logic_meaning.specs.Atom.{Atom, Compare, Congruent}
use Rattle.logic_meaning.specs.Answer.{Place, Exact, AboveBy, BelowBy, PlusInfinity, MinusInfinity, Periodic}
use Rattle.logic_meaning.specs.Tree.{Tree}
use Rattle.logic_meaning.specs.Terms.{value_steps}
use Rattle.logic_meaning.specs.Atoms.{atoms_of}
use Rattle.logic_meaning.specs.declared.side.Side.{Side}
use Rattle.logic_meaning.specs.declared.side.Side.TheVariants.{Lower, Upper}
use Rattle.logic_meaning.specs.Answers.{Step}
use Rattle.logic_meaning.specs.IntegersPoints.{signed}
use Rattle.logic_meaning.specs.PutIn.{tree_put, tree_put_within}
use Rattle.logic_meaning.specs.Values.{Value, common_denominator, point_over}

-- ---- critical values

-- -t/a, where a * x + t has x
abbrev pub root_of : ℤ → ℤ → Option Frac
root_of (pos zero) t = None
root_of (pos (suc a)) t = Some (lowest (neg_ℤ t) (pos (suc a)))
root_of (negsuc a) t = Some (lowest t (pos (suc a)))

-- of a comparison in x alone
abbrev pub atom_root : ℕ → Atom → Option Frac
atom_root x (Compare r f) = root_of (coefficient x f) f.constant
atom_root x (Congruent holds n f) = None

-- the number, if there is one, before others
abbrev pub with_root : Option Frac → List Frac → List Frac
with_root (Some a) rest = a ∷ rest
with_root None rest = rest

-- the roots of those atoms that have one, in the order of the atoms
abbrev pub critical_values : ℕ → List Atom → List Frac
critical_values x [] = []
critical_values x (a ∷ atoms) = with_root (atom_root x a) (critical_values x atoms)

-- those of the branch with the numbers of the point, where these are within the limit
abbrev pub criticals : Context → ℕ → Tree → Point ℕ → Option (List Frac)
criticals c x f p = if tree_put_within c p (x ∷ []) f then Some (critical_values x (atoms_of (tree_put c p (x ∷ []) f))) else None

-- ---- the least

-- the first fraction is below the second, where both denominators are positive
abbrev pub is_less : Frac → Frac → Bool
is_less a b = int_lt (a.numerator *ℤ b.denominator) (b.numerator *ℤ a.denominator)

-- the lesser of a number and of one that may be there
abbrev pub lesser : Frac → Option Frac → Frac
lesser a None = a
lesser a (Some b) = if is_less a b then a else b

-- the least of these numbers, and of one that may be there before them
abbrev pub least_with : Option Frac → List Frac → Option Frac
least_with o [] = o
least_with o (a ∷ rest) = least_with (Some (lesser a o)) rest

-- those that are above a bound, if there is one
abbrev pub past : Option Frac → List Frac → List Frac
past None values = values
past (Some e) [] = []
past (Some e) (a ∷ rest) = if is_less e a then a ∷ past (Some e) rest else past (Some e) rest

-- the least number above the bound, or of all where there is no bound; None where there is none
abbrev pub least_past : Option Frac → List Frac → Option Frac
least_past bound values = least_with None (past bound values)

-- ---- the numbers of the lower side

-- the form's value at the point, over d
abbrev pub form_value : Form → ℕ → Point ℕ → Option Frac
form_value e d p = value_steps e p.at (pos p.below) >>= λ v. product_step (lowest v (pos p.below)) (record { numerator = pos 1; denominator = pos d })

-- the fraction 1/2, by which a sum of two is multiplied for the number half way
abbrev pub half : Frac
half = record { numerator = pos 1; denominator = pos 2 }

-- half the sum of a number and the next critical value, one more where there is none
abbrev pub just_past : Frac → Option Frac → Option Frac
just_past e (Some w) = sum_step e w >>= λ s. product_step s half
just_past e None = sum_step e (whole_frac (pos 1))

-- one less than the least critical value, 0 where there is none
abbrev pub below_all : Option Frac → Option Frac
below_all (Some w) = sum_step w (whole_frac (negsuc 0))
below_all None = Some (whole_frac (pos 0))

-- the greatest whole number below a number
abbrev pub whole_below : Frac → ℤ
whole_below w = floor_of (w.numerator -ℤ pos 1) w.denominator

-- the greatest number up to m that differs from j by a multiple of q
abbrev pub class_member : ℤ → ℤ → ℤ → ℤ
class_member j q m = m -ℤ residue_of (m -ℤ j) q

-- the greatest number of the residue class of j modulo q that is below the least critical value; j where there is none
abbrev pub class_below : ℤ → ℤ → Option Frac → Option Frac
class_below j q (Some w) = checked (class_member j q (whole_below w)) >>= λ k. Some (whole_frac k)
class_below j q None = Some (whole_frac j)

-- ---- the two sides

-- the number as the side sees it: itself, or on the upper side its negative
abbrev pub seen : Side → Frac → Frac
seen side a = record { numerator = signed side a.numerator; denominator = a.denominator }

-- what is found among the critical values as the side sees them, seen back
abbrev pub seen_from : Side → (List Frac → Option Frac) → List Frac → Option Frac
seen_from side find values = option_map (seen side) (find (map (seen side) values))

-- half way from v to the next critical value above it, one more where there is none; on the upper side half way to the next below
-- it, or one less
abbrev pub value_beside : Side → Frac → List Frac → Option Frac
value_beside side v values = seen_from side (λ seen_values. just_past (seen side v) (least_past (Some (seen side v)) seen_values)) values

-- one less than the least critical value, on the upper side one more than the greatest; 0 where there is none
abbrev pub value_beyond : Side → List Frac → Option Frac
value_beyond side values = seen_from side (λ seen_values. below_all (least_past None seen_values)) values

-- the greatest number of the class of j modulo q below all critical values, on the upper side the least above all; j where there is
-- none
abbrev pub value_in_class : Side → ℤ → ℤ → List Frac → Option Frac
value_in_class side j q values = seen_from side (λ seen_values. class_below (signed side j) q (least_past None seen_values)) values

-- ---- the value at a place

-- beside the form's value over d
abbrev pub beside_form : Context → Side → ℕ → Form → ℕ → Tree → Point ℕ → Option Frac
beside_form c side x e d f p = form_value e d p >>= λ v. criticals c x f p >>= λ values. value_beside side v values

-- beyond all critical values of the branch
abbrev pub beyond_criticals : Context → Side → ℕ → Tree → Point ℕ → Option Frac
beyond_criticals c side x f p = criticals c x f p >>= λ values. value_beyond side values

-- there in the class of j modulo q
abbrev pub class_beyond : Context → Side → ℕ → ℤ → ℤ → Tree → Point ℕ → Option Frac
class_beyond c side x j q f p = criticals c x f p >>= λ values. value_in_class side j q values

-- the value of x at its place
abbrev pub place_value : Context → ℕ → Place → Tree → Point ℕ → Option Frac
place_value c x (Exact e d) f p = form_value e d p
place_value c x (AboveBy e d) f p = beside_form c Lower x e d f p
place_value c x (BelowBy e d) f p = beside_form c Upper x e d f p
place_value c x MinusInfinity f p = beyond_criticals c Lower x f p
place_value c x PlusInfinity f p = beyond_criticals c Upper x f p
place_value c x (Periodic j (negsuc q)) f p = class_beyond c Lower x j (pos (suc q)) f p
place_value c x (Periodic j (pos q)) f p = class_beyond c Upper x j (pos q) f p

-- ---- one after the other

-- the value of a step, from those found before it
abbrev pub step_value : Context → Step → List Value → Option Frac
step_value c s found = common_denominator found >>= λ d. place_value c s.name s.place s.branch (point_over d found)

-- the values found before the steps, and those of the steps
abbrev pub values_from : Context → List Step → List Value → Option (List Value)
values_from c [] found = Some found
values_from c (s ∷ rest) found = step_value c s found >>= λ a. values_from c rest (found ++ (record { name = s.name; at = a } ∷ []))
