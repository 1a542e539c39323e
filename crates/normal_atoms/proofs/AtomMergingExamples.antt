-- Variable parts and the tables, worked by hand.
use Rattle.std.proofs.Common.{◌≡◌, true, false, [], ◌∷◌, refl}
use Rattle.std.proofs.Math.IntN.{pos, negsuc}
use Rattle.exact_numbers.specs.Divides.{content_of, gcd_of, euclid}
use Rattle.logic_meaning.specs.Context.{Fields, Integers}
use Rattle.logic_meaning.specs.Atom.{Equals, Differs, Below, AtMost, Above, AtLeast, Compare}
use Rattle.logic_meaning.specs.declared.junction.Junction.TheVariants.{Conjunction, Disjunction}
use Rattle.normal_atoms.specs.declared.atom_merging_comparison.Position.TheVariants as lies
use Rattle.normal_atoms.specs.declared.atom_merging_congruence.Class.TheVariants as class_is
use Rattle.logic_meaning.specs.Merging.{variable_part}
use Rattle.normal_atoms.specs.Verdicts.{Settled, Kept, First, Second, verdict, normal_comparison}
use Rattle.normal_atoms.specs.Classes.{class}

-- the variable part of 4*x - 6*y is 2*x - 3*y
part_divided : variable_part (record { times = pos 4; name = 1 } ∷ record { times = negsuc 5; name = 2 } ∷ []) ≡ record { times = pos 2; name = 1 } ∷ record { times = negsuc 2; name = 2 } ∷ []
unfolding content_of gcd_of euclid
part_divided = refl

-- ---- at one threshold

-- x >= 0 and x <> 0 is x > 0
at_least_and_differs : verdict Conjunction lies.Same AtLeast Differs ≡ First Above
at_least_and_differs = refl

-- x < 0 or x > 0 is x <> 0
below_or_above : verdict Disjunction lies.Same Below Above ≡ First Differs
below_or_above = refl

-- x <= 0 and x >= 0 is x = 0
at_most_and_at_least : verdict Conjunction lies.Same AtMost AtLeast ≡ First Equals
at_most_and_at_least = refl

-- x = 0 and x <> 0 is false, joined by or true
equals_and_differs : verdict Conjunction lies.Same Equals Differs ≡ Settled
equals_and_differs = refl

equals_or_differs : verdict Disjunction lies.Same Equals Differs ≡ Settled
equals_or_differs = refl

-- ---- thresholds apart

-- x > 0 and x < 1 stay over the fields, joined by or they are true
above_and_below : verdict Conjunction lies.Below Above Below ≡ Kept
above_and_below = refl

above_or_below : verdict Disjunction lies.Below Above Below ≡ Settled
above_or_below = refl

-- x < 0 and x <= 1 is x < 0, joined by or x <= 1
below_and_at_most : verdict Conjunction lies.Below Below AtMost ≡ First Below
below_and_at_most = refl

below_or_at_most : verdict Disjunction lies.Below Below AtMost ≡ Second AtMost
below_or_at_most = refl

-- x <= 1 and x < 0 is x < 0
at_most_and_below : verdict Conjunction lies.Above AtMost Below ≡ Second Below
at_most_and_below = refl

-- ---- neighbours over the integers

-- x <= 0 or x > 1 is x <> 1
at_most_or_above : verdict Disjunction lies.NextBelow AtMost Above ≡ Second Differs
at_most_or_above = refl

-- x > 0 and x <> 1 is x > 1
above_and_differs : verdict Conjunction lies.NextBelow Above Differs ≡ Second Above
above_and_differs = refl

-- x > 0 and x <= 1 is x = 1
above_and_at_most : verdict Conjunction lies.NextBelow Above AtMost ≡ Second Equals
above_and_at_most = refl

-- x <= 0 or x = 1 is x <= 1, also the other way round
at_most_or_equals : verdict Disjunction lies.NextBelow AtMost Equals ≡ Second AtMost
at_most_or_equals = refl

equals_or_at_most : verdict Disjunction lies.NextAbove Equals AtMost ≡ First AtMost
equals_or_at_most = refl

-- x <> 0 and x <= 1 stay
differs_and_at_most : verdict Conjunction lies.NextBelow Differs AtMost ≡ Kept
differs_and_at_most = refl

-- ---- as normal atoms

-- over the integers x - 1 < 0 is x <= 0, over the fields it stays
below_moved : normal_comparison Integers Below (record { terms = record { times = pos 1; name = 1 } ∷ []; constant = negsuc 0 }) ≡ Compare AtMost (record { terms = record { times = pos 1; name = 1 } ∷ []; constant = pos 0 })
below_moved = refl

below_stays : normal_comparison Fields Below (record { terms = record { times = pos 1; name = 1 } ∷ []; constant = negsuc 0 }) ≡ Compare Below (record { terms = record { times = pos 1; name = 1 } ∷ []; constant = negsuc 0 })
below_stays = refl

-- ---- congruences

-- ncong(x,0,3) and ncong(x+1,0,3) is the third class
two_leave_the_third : class Conjunction (pos 3) false (pos 0) false (pos 1) ≡ class_is.Third
two_leave_the_third = refl

-- cong(x,0,3) or cong(x+1,0,3) is all but the third class
two_make_all_but_the_third : class Disjunction (pos 3) true (pos 0) true (pos 1) ≡ class_is.Third
two_make_all_but_the_third = refl

-- cong(x,0,2) or cong(x+1,0,2) is true
halves_make_all : class Disjunction (pos 2) true (pos 0) true (pos 1) ≡ class_is.Settled
halves_make_all = refl

-- ncong(x,0,4) and ncong(x+1,0,4) stay
two_of_four_stay : class Conjunction (pos 4) false (pos 0) false (pos 1) ≡ class_is.Kept
two_of_four_stay = refl

-- cong(x+1,0,6) and ncong(x+5,0,6) is cong(x+1,0,6)
one_of_six : class Conjunction (pos 6) true (pos 1) false (pos 5) ≡ class_is.First
one_of_six = refl
