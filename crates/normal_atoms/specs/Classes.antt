-- The table for two congruences of one modulus and the same terms.
use Rattle.std.specs.Prelude.{ℤ, pos, Bool, true, false, not, if◌then◌else◌}
use Rattle.std.specs.Ordering.{int_eq}
use Rattle.logic_meaning.specs.declared.junction.Junction.{Junction}
use Rattle.logic_meaning.specs.declared.junction.Junction.TheVariants.{Conjunction, Disjunction}
use Rattle.normal_atoms.specs.declared.atom_merging_congruence.Class.{Class}
use Rattle.normal_atoms.specs.declared.atom_merging_congruence.Class.TheVariants.{Settled, First, Second, Third, Kept}

-- two incongruences of different classes: modulo 2 they leave none, modulo 3 the third class
abbrev pub left_by_two : ℤ → Class
left_by_two m = if int_eq m (pos 2) then Settled else if int_eq m (pos 3) then Third else Kept

-- congruences of different classes joined by and: each holds in its class, or for false in all others
abbrev pub different_classes : ℤ → Bool → Bool → Class
different_classes m true true = Settled
different_classes m true false = First
different_classes m false true = Second
different_classes m false false = left_by_two m

-- congruences of one class
abbrev pub same_class : Bool → Bool → Class
same_class true true = First
same_class false false = First
same_class true false = Settled
same_class false true = Settled

-- the congruences with these constants joined by and
abbrev pub both_classes : ℤ → Bool → ℤ → Bool → ℤ → Class
both_classes m b c d e = if int_eq c e then same_class b d else different_classes m b d

-- joined by or: the opposites joined by and, opposed
abbrev pub class : Junction → ℤ → Bool → ℤ → Bool → ℤ → Class
class Conjunction m b c d e = both_classes m b c d e
class Disjunction m b c d e = both_classes m (not b) c (not d) e
