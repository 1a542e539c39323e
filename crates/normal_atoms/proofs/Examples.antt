-- Normal forms and negations worked by hand.
use Rattle.std.proofs.Common.{◌≡◌, true, false, [], ◌∷◌, refl}
use Rattle.std.proofs.Math.IntN.{pos, negsuc}
use Rattle.exact_numbers.specs.Divides.{content_of, gcd_of, euclid}
use Rattle.logic_meaning.specs.Context.{Fields, Integers}
use Rattle.logic_meaning.specs.Formula.{Yes, No, One}
use Rattle.logic_meaning.specs.Form.{scale}
use Rattle.logic_meaning.specs.Sorted.{gathered}
use Rattle.logic_meaning.specs.Atom.{Compare, Congruent, Equals, Differs, Below, AtMost, Above, AtLeast}
use Rattle.logic_meaning.specs.Reduction.{quotient, residue_form}
use Rattle.logic_meaning.specs.NormalForm.{normal_atom, negated_normal}

-- 2*x + 4 < 0 is x + 2 < 0
fields_divided : normal_atom Fields (Compare Below (record { terms = record { times = pos 2; name = 1 } ∷ []; constant = pos 4 })) ≡ One (Compare Below (record { terms = record { times = pos 1; name = 1 } ∷ []; constant = pos 2 }))
unfolding normal_atom gathered quotient residue_form scale content_of gcd_of euclid
fields_divided = refl

-- 2*x + 3 <= 0 stays
fields_constant_divides_too : normal_atom Fields (Compare AtMost (record { terms = record { times = pos 2; name = 1 } ∷ []; constant = pos 3 })) ≡ One (Compare AtMost (record { terms = record { times = pos 2; name = 1 } ∷ []; constant = pos 3 }))
unfolding normal_atom gathered quotient residue_form scale content_of gcd_of euclid
fields_constant_divides_too = refl

-- -2*x + 4 < 0 is x - 2 > 0
fields_turned : normal_atom Fields (Compare Below (record { terms = record { times = negsuc 1; name = 1 } ∷ []; constant = pos 4 })) ≡ One (Compare Above (record { terms = record { times = pos 1; name = 1 } ∷ []; constant = negsuc 1 }))
unfolding normal_atom gathered quotient residue_form scale content_of gcd_of euclid
fields_turned = refl

-- -x + y >= 0 is x - y <= 0
fields_two_names : normal_atom Fields (Compare AtLeast (record { terms = record { times = negsuc 0; name = 1 } ∷ record { times = pos 1; name = 2 } ∷ []; constant = pos 0 })) ≡ One (Compare AtMost (record { terms = record { times = pos 1; name = 1 } ∷ record { times = negsuc 0; name = 2 } ∷ []; constant = pos 0 }))
unfolding normal_atom gathered quotient residue_form scale content_of gcd_of euclid
fields_two_names = refl

-- -6*x + 9*y + 3 = 0 is 2*x - 3*y - 1 = 0
fields_equation_turned : normal_atom Fields (Compare Equals (record { terms = record { times = negsuc 5; name = 1 } ∷ record { times = pos 9; name = 2 } ∷ []; constant = pos 3 })) ≡ One (Compare Equals (record { terms = record { times = pos 2; name = 1 } ∷ record { times = negsuc 2; name = 2 } ∷ []; constant = negsuc 0 }))
unfolding normal_atom gathered quotient residue_form scale content_of gcd_of euclid
fields_equation_turned = refl

-- y + 2*x + y <> 0 is x + y <> 0
fields_gathered : normal_atom Fields (Compare Differs (record { terms = record { times = pos 1; name = 2 } ∷ record { times = pos 2; name = 1 } ∷ record { times = pos 1; name = 2 } ∷ []; constant = pos 0 })) ≡ One (Compare Differs (record { terms = record { times = pos 1; name = 1 } ∷ record { times = pos 1; name = 2 } ∷ []; constant = pos 0 }))
unfolding normal_atom gathered quotient residue_form scale content_of gcd_of euclid
fields_gathered = refl

-- x - x + 1 > 0 is true
fields_cancelled : normal_atom Fields (Compare Above (record { terms = record { times = pos 1; name = 1 } ∷ record { times = negsuc 0; name = 1 } ∷ []; constant = pos 1 })) ≡ Yes
unfolding normal_atom gathered quotient residue_form scale content_of gcd_of euclid
fields_cancelled = refl

-- 3 = 0 is false
fields_ground : normal_atom Fields (Compare Equals (record { terms = []; constant = pos 3 })) ≡ No
unfolding normal_atom gathered quotient residue_form scale content_of gcd_of euclid
fields_ground = refl

-- 3*x + 4 >= 0 is x + 2 > 0: the floor of -5/3 is -2
integers_at_least : normal_atom Integers (Compare AtLeast (record { terms = record { times = pos 3; name = 1 } ∷ []; constant = pos 4 })) ≡ One (Compare Above (record { terms = record { times = pos 1; name = 1 } ∷ []; constant = pos 2 }))
unfolding normal_atom gathered quotient residue_form scale content_of gcd_of euclid
integers_at_least = refl

-- 2*x + 3 <= 0 is x + 2 <= 0: the floor of -3/2 is -2
integers_at_most : normal_atom Integers (Compare AtMost (record { terms = record { times = pos 2; name = 1 } ∷ []; constant = pos 3 })) ≡ One (Compare AtMost (record { terms = record { times = pos 1; name = 1 } ∷ []; constant = pos 2 }))
unfolding normal_atom gathered quotient residue_form scale content_of gcd_of euclid
integers_at_most = refl

-- 2*x - 4*y - 1 > 0 is x - 2*y > 0: the floor of 1/2 is 0
integers_above : normal_atom Integers (Compare Above (record { terms = record { times = pos 2; name = 1 } ∷ record { times = negsuc 3; name = 2 } ∷ []; constant = negsuc 0 })) ≡ One (Compare Above (record { terms = record { times = pos 1; name = 1 } ∷ record { times = negsuc 1; name = 2 } ∷ []; constant = pos 0 }))
unfolding normal_atom gathered quotient residue_form scale content_of gcd_of euclid
integers_above = refl

-- 2*x + 4*y < 0 is x + 2*y + 1 <= 0
integers_below : normal_atom Integers (Compare Below (record { terms = record { times = pos 2; name = 1 } ∷ record { times = pos 4; name = 2 } ∷ []; constant = pos 0 })) ≡ One (Compare AtMost (record { terms = record { times = pos 1; name = 1 } ∷ record { times = pos 2; name = 2 } ∷ []; constant = pos 1 }))
unfolding normal_atom gathered quotient residue_form scale content_of gcd_of euclid
integers_below = refl

-- -3*x + 4 > 0 is x - 1 <= 0
integers_turned : normal_atom Integers (Compare Above (record { terms = record { times = negsuc 2; name = 1 } ∷ []; constant = pos 4 })) ≡ One (Compare AtMost (record { terms = record { times = pos 1; name = 1 } ∷ []; constant = negsuc 0 }))
unfolding normal_atom gathered quotient residue_form scale content_of gcd_of euclid
integers_turned = refl

-- 2*x + 4 = 0 is x + 2 = 0
integers_equation : normal_atom Integers (Compare Equals (record { terms = record { times = pos 2; name = 1 } ∷ []; constant = pos 4 })) ≡ One (Compare Equals (record { terms = record { times = pos 1; name = 1 } ∷ []; constant = pos 2 }))
unfolding normal_atom gathered quotient residue_form scale content_of gcd_of euclid
integers_equation = refl

-- 2*x + 3 = 0 is false
integers_no_solution : normal_atom Integers (Compare Equals (record { terms = record { times = pos 2; name = 1 } ∷ []; constant = pos 3 })) ≡ No
unfolding normal_atom gathered quotient residue_form scale content_of gcd_of euclid
integers_no_solution = refl

-- -2*x + 3 <> 0 is true
integers_all_differ : normal_atom Integers (Compare Differs (record { terms = record { times = negsuc 1; name = 1 } ∷ []; constant = pos 3 })) ≡ Yes
unfolding normal_atom gathered quotient residue_form scale content_of gcd_of euclid
integers_all_differ = refl

-- -2*x + 6 <> 0 is x - 3 <> 0
integers_differ : normal_atom Integers (Compare Differs (record { terms = record { times = negsuc 1; name = 1 } ∷ []; constant = pos 6 })) ≡ One (Compare Differs (record { terms = record { times = pos 1; name = 1 } ∷ []; constant = negsuc 2 }))
unfolding normal_atom gathered quotient residue_form scale content_of gcd_of euclid
integers_differ = refl

-- x + M < 0 is x + (M + 1) <= 0, whose constant passes the limit
integers_past_the_limit : normal_atom Integers (Compare Below (record { terms = record { times = pos 1; name = 1 } ∷ []; constant = pos 170141183460469231731687303715884105727 })) ≡ One (Compare AtMost (record { terms = record { times = pos 1; name = 1 } ∷ []; constant = pos 170141183460469231731687303715884105728 }))
unfolding normal_atom gathered quotient residue_form scale content_of gcd_of euclid
integers_past_the_limit = refl

-- x - M < 0 is x - (M - 1) <= 0
integers_at_the_limit : normal_atom Integers (Compare Below (record { terms = record { times = pos 1; name = 1 } ∷ []; constant = negsuc 170141183460469231731687303715884105726 })) ≡ One (Compare AtMost (record { terms = record { times = pos 1; name = 1 } ∷ []; constant = negsuc 170141183460469231731687303715884105725 }))
unfolding normal_atom gathered quotient residue_form scale content_of gcd_of euclid
integers_at_the_limit = refl

-- cong(x - 1,0,3) is cong(x + 2,0,3)
cong_reduced : normal_atom Integers (Congruent true 3 (record { terms = record { times = pos 1; name = 1 } ∷ []; constant = negsuc 0 })) ≡ One (Congruent true 3 (record { terms = record { times = pos 1; name = 1 } ∷ []; constant = pos 2 }))
unfolding normal_atom gathered quotient residue_form scale content_of gcd_of euclid
cong_reduced = refl

-- cong(x + 5,0,1) is true
cong_modulus_one : normal_atom Integers (Congruent true 1 (record { terms = record { times = pos 1; name = 1 } ∷ []; constant = pos 5 })) ≡ Yes
unfolding normal_atom gathered quotient residue_form scale content_of gcd_of euclid
cong_modulus_one = refl

-- ncong(x + 5,0,1) is false
ncong_modulus_one : normal_atom Integers (Congruent false 1 (record { terms = record { times = pos 1; name = 1 } ∷ []; constant = pos 5 })) ≡ No
unfolding normal_atom gathered quotient residue_form scale content_of gcd_of euclid
ncong_modulus_one = refl

-- cong(2*x + 2,0,4) is cong(x + 1,0,2)
cong_divided : normal_atom Integers (Congruent true 4 (record { terms = record { times = pos 2; name = 1 } ∷ []; constant = pos 2 })) ≡ One (Congruent true 2 (record { terms = record { times = pos 1; name = 1 } ∷ []; constant = pos 1 }))
unfolding normal_atom gathered quotient residue_form scale content_of gcd_of euclid
cong_divided = refl

-- ncong(2*x + 2,0,4) is cong(x,0,2)
ncong_modulus_two : normal_atom Integers (Congruent false 4 (record { terms = record { times = pos 2; name = 1 } ∷ []; constant = pos 2 })) ≡ One (Congruent true 2 (record { terms = record { times = pos 1; name = 1 } ∷ []; constant = pos 0 }))
unfolding normal_atom gathered quotient residue_form scale content_of gcd_of euclid
ncong_modulus_two = refl

-- cong(2*x + 1,0,4) is false
cong_no_solution : normal_atom Integers (Congruent true 4 (record { terms = record { times = pos 2; name = 1 } ∷ []; constant = pos 1 })) ≡ No
unfolding normal_atom gathered quotient residue_form scale content_of gcd_of euclid
cong_no_solution = refl

-- ncong(2*x + 1,0,4) is true
ncong_always : normal_atom Integers (Congruent false 4 (record { terms = record { times = pos 2; name = 1 } ∷ []; constant = pos 1 })) ≡ Yes
unfolding normal_atom gathered quotient residue_form scale content_of gcd_of euclid
ncong_always = refl

-- cong(5*x + 1,0,6) is cong(x + 5,0,6)
cong_turned : normal_atom Integers (Congruent true 6 (record { terms = record { times = pos 5; name = 1 } ∷ []; constant = pos 1 })) ≡ One (Congruent true 6 (record { terms = record { times = pos 1; name = 1 } ∷ []; constant = pos 5 }))
unfolding normal_atom gathered quotient residue_form scale content_of gcd_of euclid
cong_turned = refl

-- ncong(2*x + y,0,4) stays
cong_half : normal_atom Integers (Congruent false 4 (record { terms = record { times = pos 2; name = 1 } ∷ record { times = pos 1; name = 2 } ∷ []; constant = pos 0 })) ≡ One (Congruent false 4 (record { terms = record { times = pos 2; name = 1 } ∷ record { times = pos 1; name = 2 } ∷ []; constant = pos 0 }))
unfolding normal_atom gathered quotient residue_form scale content_of gcd_of euclid
cong_half = refl

-- cong(3*x,0,3) is true
cong_name_gone : normal_atom Integers (Congruent true 3 (record { terms = record { times = pos 3; name = 1 } ∷ []; constant = pos 0 })) ≡ Yes
unfolding normal_atom gathered quotient residue_form scale content_of gcd_of euclid
cong_name_gone = refl

-- cong(4*x + 2*y + 4,0,6) is cong(x + 2*y + 1,0,3)
cong_two_names : normal_atom Integers (Congruent true 6 (record { terms = record { times = pos 4; name = 1 } ∷ record { times = pos 2; name = 2 } ∷ []; constant = pos 4 })) ≡ One (Congruent true 3 (record { terms = record { times = pos 1; name = 1 } ∷ record { times = pos 2; name = 2 } ∷ []; constant = pos 1 }))
unfolding normal_atom gathered quotient residue_form scale content_of gcd_of euclid
cong_two_names = refl

-- ncong(4*x + 2*y + 3,0,6) is true
ncong_two_names : normal_atom Integers (Congruent false 6 (record { terms = record { times = pos 4; name = 1 } ∷ record { times = pos 2; name = 2 } ∷ []; constant = pos 3 })) ≡ Yes
unfolding normal_atom gathered quotient residue_form scale content_of gcd_of euclid
ncong_two_names = refl

-- not x + 2 < 0 is x + 2 >= 0
not_below : negated_normal (Compare Below (record { terms = record { times = pos 1; name = 1 } ∷ []; constant = pos 2 })) ≡ Compare AtLeast (record { terms = record { times = pos 1; name = 1 } ∷ []; constant = pos 2 })
not_below = refl

-- not x + 2 <= 0 is x + 2 > 0
not_at_most : negated_normal (Compare AtMost (record { terms = record { times = pos 1; name = 1 } ∷ []; constant = pos 2 })) ≡ Compare Above (record { terms = record { times = pos 1; name = 1 } ∷ []; constant = pos 2 })
not_at_most = refl

-- not x = 0 is x <> 0
not_equals : negated_normal (Compare Equals (record { terms = record { times = pos 1; name = 1 } ∷ []; constant = pos 0 })) ≡ Compare Differs (record { terms = record { times = pos 1; name = 1 } ∷ []; constant = pos 0 })
not_equals = refl

-- not cong(x + 1,0,2) is cong(x,0,2)
not_cong_two : negated_normal (Congruent true 2 (record { terms = record { times = pos 1; name = 1 } ∷ []; constant = pos 1 })) ≡ Congruent true 2 (record { terms = record { times = pos 1; name = 1 } ∷ []; constant = pos 0 })
not_cong_two = refl

-- not cong(x + 1,0,3) is ncong(x + 1,0,3)
not_cong_three : negated_normal (Congruent true 3 (record { terms = record { times = pos 1; name = 1 } ∷ []; constant = pos 1 })) ≡ Congruent false 3 (record { terms = record { times = pos 1; name = 1 } ∷ []; constant = pos 1 })
not_cong_three = refl
