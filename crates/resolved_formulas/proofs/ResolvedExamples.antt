-- Forms, causes and resolved formulas worked by hand. Each side is computed.
use Rattle.std.proofs.Common.{◌≡◌, bytes_eq, if◌then◌else◌, inl, inr, ⊎_elim, zero, suc, sym, subst, arith, Some, None, List, [], ◌∷◌, codes, true, refl, ℕ, lit≤}
use Rattle.std.proofs.Math.IntN.{pos, negsuc}
use Rattle.std.specs.Prelude.{◌^◌, ◌-ℤ◌, Ok, Err}
use Rattle.exact_numbers.specs.Limit.{checked}
use Rattle.exact_numbers.specs.Divides.{gcd_of, lcm_of, euclid, content_of}
use Rattle.exact_numbers.specs.Frac.{inverted, power_steps, product_step}
use Rattle.logic_meaning.specs.Context.{Fields, Integers}
use Rattle.logic_meaning.specs.Formula.{Yes, One, Not, And, Or, Ex, also, none}
use Rattle.logic_meaning.specs.Form.{scale, combine}
use Rattle.logic_meaning.specs.Sorted.{gathered}
use Rattle.logic_meaning.specs.Tree.{Tree}
use Rattle.logic_meaning.specs.Atom as meaning
use Rattle.logic_meaning.specs.Reduction.{quotient, residue_form}
use Rattle.logic_meaning.specs.NormalForm.{normal_atom}
use Rattle.language_meaning.specs.declared.tree.Literal.TheVariants.{Fits, Past}
use Rattle.language_meaning.specs.declared.tree.Relation.TheVariants.{Equal, Less, Greater, AtLeast}
use Rattle.language_meaning.specs.Trees.{TermTree, Number, Named, Sum, Product, Quotient, Power, Negative, terms_of, Compare, Cong, Ncong, Bound, FormulaTree, formulas_of}
use Rattle.language_meaning.specs.RationalForms.{Overflow, Nonlinear, Division, formed_number, formed_form, lowest_form, sum_of_forms, multiple_of_form, product_of_forms, quotient_of_forms, power_of_form, formed, variable_form, constant_form}
use Rattle.logic_meaning.specs.Bindings.{bound_to}
use Rattle.language_meaning.specs.Value.{NamedPoint}
use Rattle.language_meaning.specs.Resolving.{BoundTrees, at_names, resolve}
use Rattle.logic_meaning.specs.Names.{place}
use Rattle.language_meaning.specs.NamesAfter.{names_after}
use Rattle.language_meaning.specs.Causes.{IsUnbound, NamesFormulaAsTerm, IsNonlinear, Divides, CongruenceInFields, IsBadModulus, IsTooDeep, OverflowsInReading, IsBound, height_in_place}
use Rattle.resolved_formulas.specs.Accepted.{IsAccepted}

abbrev x : TermTree
x = Named (codes "x")

abbrev y : TermTree
y = Named (codes "y")

abbrev number : ℕ → TermTree
number n = Number (Fits (pos n))

abbrev minus : TermTree → TermTree → TermTree
minus s t = Sum (terms_of (s ∷ Negative t ∷ []))

abbrev plus : TermTree → TermTree → TermTree
plus s t = Sum (terms_of (s ∷ t ∷ []))

abbrev times : TermTree → TermTree → TermTree
times s t = Product (terms_of (s ∷ t ∷ []))

-- the greatest number within the limit
abbrev most : TermTree
most = Number (Fits (pos (2 ^ 127) -ℤ pos 1))

-- x has the number 0, and y the number 1
abbrev names : List (List ℕ)
names = codes "x" ∷ codes "y" ∷ []

-- ---- forms

-- 2*x + 1/3 is (6*x + 1) / 3
sum_of_fractions : formed Fields (place names) (plus (times (number 2) x) (Quotient (number 1) (number 3)))
    ≡ Ok (record { form = record { terms = record { times = pos 6; name = 0 } ∷ []; constant = pos 1 }; denominator = pos 3 })
unfolding formed_number formed_form lowest_form sum_of_forms multiple_of_form product_of_forms quotient_of_forms gathered scale combine quotient inverted content_of gcd_of lcm_of euclid
sum_of_fractions = refl

-- x/2 + x/2 is x: the denominator goes
halves : formed Fields (place names) (plus (Quotient x (number 2)) (Quotient x (number 2))) ≡ Ok (variable_form 0)
unfolding formed_number formed_form lowest_form sum_of_forms multiple_of_form product_of_forms quotient_of_forms gathered scale combine quotient inverted content_of gcd_of lcm_of euclid
halves = refl

-- x / -2 is -x/2
negative_divisor : formed Fields (place names) (Quotient x (Negative (number 2)))
    ≡ Ok (record { form = record { terms = record { times = negsuc 0; name = 0 } ∷ []; constant = pos 0 }; denominator = pos 2 })
unfolding formed_number formed_form lowest_form multiple_of_form quotient_of_forms gathered scale quotient inverted content_of gcd_of euclid
negative_divisor = refl

-- 0*x*y is 0: what is before y is constant
zero_times : formed Fields (place names) (Product (terms_of (number 0 ∷ x ∷ y ∷ []))) ≡ Ok (constant_form (record { numerator = pos 0; denominator = pos 1 }))
unfolding formed_number formed_form lowest_form multiple_of_form product_of_forms gathered scale quotient content_of gcd_of euclid
zero_times = refl

-- x*y has no form, and 0*(x*y) has none
names_multiplied : formed Fields (place names) (times x y) ≡ Err Nonlinear
unfolding formed_number formed_form lowest_form multiple_of_form product_of_forms gathered scale quotient content_of gcd_of euclid
names_multiplied = refl

zero_after : formed Fields (place names) (times (number 0) (times x y)) ≡ Err Nonlinear
unfolding formed_number formed_form lowest_form multiple_of_form product_of_forms gathered scale quotient content_of gcd_of euclid
zero_after = refl

-- M*M*x*y passes the limit before a name is multiplied
past_before_names : formed Fields (place names) (Product (terms_of (most ∷ most ∷ x ∷ y ∷ []))) ≡ Err Overflow
unfolding formed_number formed_form lowest_form multiple_of_form product_of_forms gathered scale quotient content_of gcd_of euclid
past_before_names = refl

-- (M - 1)/2 * 2 is M - 1, as what is before 2 is divided first; (M - 1)*2 / 2 passes the limit
abbrev even : TermTree
even = Number (Fits (pos (2 ^ 127) -ℤ pos 2))

divided_first : formed Fields (place names) (times (Quotient even (number 2)) (number 2)) ≡ Ok (constant_form (record { numerator = pos (2 ^ 127) -ℤ pos 2; denominator = pos 1 }))
unfolding formed_number formed_form lowest_form multiple_of_form product_of_forms quotient_of_forms gathered scale quotient inverted content_of gcd_of euclid
divided_first = refl

divided_last : formed Fields (place names) (Quotient (times even (number 2)) (number 2)) ≡ Err Overflow
unfolding formed_number formed_form lowest_form multiple_of_form product_of_forms gathered scale quotient content_of gcd_of euclid
divided_last = refl

-- (x + M) - M is x, and x + M + 1 passes the limit
back_within : formed Fields (place names) (minus (plus x most) most) ≡ Ok (variable_form 0)
unfolding formed_number formed_form lowest_form sum_of_forms gathered scale combine quotient content_of gcd_of lcm_of euclid
back_within = refl

past_by_one : formed Fields (place names) (Sum (terms_of (x ∷ most ∷ number 1 ∷ []))) ≡ Err Overflow
unfolding formed_number formed_form lowest_form sum_of_forms gathered scale combine quotient content_of gcd_of lcm_of euclid
past_by_one = refl

-- y^0 and 0^0 are 1, y^1 is y, y^2 has no form, and 1^64 is 1
name_to_zero : formed Fields (place names) (Power y (Fits (pos 0))) ≡ Ok (constant_form (record { numerator = pos 1; denominator = pos 1 }))
unfolding power_of_form
name_to_zero = refl

zero_to_zero : formed Fields (place names) (Power (number 0) (Fits (pos 0))) ≡ Ok (constant_form (record { numerator = pos 1; denominator = pos 1 }))
unfolding power_of_form power_steps
zero_to_zero = refl

name_to_one : formed Fields (place names) (Power y (Fits (pos 1))) ≡ Ok (variable_form 1)
unfolding power_of_form
name_to_one = refl

name_squared : formed Fields (place names) (Power y (Fits (pos 2))) ≡ Err Nonlinear
unfolding power_of_form
name_squared = refl

large_power_of_one : formed Fields (place names) (Power (number 1) (Fits (pos 64))) ≡ Ok (constant_form (record { numerator = pos 1; denominator = pos 1 }))
unfolding power_of_form power_steps product_step checked gcd_of euclid
large_power_of_one = refl

-- a quotient by 0, by a name, and over the integers
over_zero : formed Fields (place names) (Quotient x (minus y y)) ≡ Err Division
unfolding formed_number formed_form lowest_form sum_of_forms quotient_of_forms gathered scale combine quotient content_of gcd_of lcm_of euclid
over_zero = refl

over_name : formed Fields (place names) (Quotient x y) ≡ Err Division
unfolding quotient_of_forms
over_name = refl

whole_quotient : formed Integers (place names) (Quotient (number 4) (number 2)) ≡ Err Division
unfolding quotient_of_forms
whole_quotient = refl

-- a literal past the limit keeps the form away, also times 0
past_times_zero : formed Fields (place names) (times (number 0) (Number Past)) ≡ Err Overflow
unfolding formed_number formed_form lowest_form multiple_of_form product_of_forms gathered scale quotient content_of gcd_of euclid
past_times_zero = refl

-- ---- resolved formulas

-- x + y < 2*x is x - y > 0
fields_turned : resolve Fields [] names (One (Compare Less (plus x y) (times (number 2) x)))
    ≡ One (meaning.Compare meaning.Above (record { terms = record { times = pos 1; name = 0 } ∷ record { times = negsuc 0; name = 1 } ∷ []; constant = pos 0 }))
unfolding formed_number formed_form lowest_form sum_of_forms multiple_of_form product_of_forms gathered scale combine quotient normal_atom content_of gcd_of lcm_of euclid
fields_turned = refl

-- x/2 >= 1/3 is 3*x - 2 >= 0
fields_fractions : resolve Fields [] names (One (Compare AtLeast (Quotient x (number 2)) (Quotient (number 1) (number 3))))
    ≡ One (meaning.Compare meaning.AtLeast (record { terms = record { times = pos 3; name = 0 } ∷ []; constant = negsuc 1 }))
unfolding formed_number formed_form lowest_form sum_of_forms multiple_of_form product_of_forms quotient_of_forms gathered scale combine quotient inverted normal_atom content_of gcd_of lcm_of euclid
fields_fractions = refl

-- (x - x)*y = 0 is true
fields_cancelled : resolve Fields [] names (One (Compare Equal (times (minus x x) y) (number 0))) ≡ Yes
unfolding formed_number formed_form lowest_form sum_of_forms multiple_of_form product_of_forms gathered scale combine quotient normal_atom content_of gcd_of lcm_of euclid
fields_cancelled = refl

-- over the integers cong(x,1,-3) is cong(x + 2,0,3), and 3*x >= -4 is x + 2 > 0
integers_congruence : resolve Integers [] names (One (Cong x (number 1) (Negative (number 3))))
    ≡ One (meaning.Congruent true 3 (record { terms = record { times = pos 1; name = 0 } ∷ []; constant = pos 2 }))
unfolding formed_number formed_form lowest_form sum_of_forms gathered scale combine quotient residue_form normal_atom content_of gcd_of lcm_of euclid
integers_congruence = refl

integers_rounded : resolve Integers [] names (One (Compare AtLeast (times (number 3) x) (Negative (number 4))))
    ≡ One (meaning.Compare meaning.Above (record { terms = record { times = pos 1; name = 0 } ∷ []; constant = pos 2 }))
unfolding formed_number formed_form lowest_form sum_of_forms multiple_of_form product_of_forms gathered scale combine quotient residue_form normal_atom content_of gcd_of lcm_of euclid
integers_rounded = refl

-- x > 0 stays, over the integers too; 0*x*y = 0 is true
integers_plain : resolve Integers [] names (One (Compare Greater x (number 0))) ≡ One (meaning.Compare meaning.Above (record { terms = record { times = pos 1; name = 0 } ∷ []; constant = pos 0 }))
unfolding formed_number formed_form lowest_form sum_of_forms gathered scale combine quotient normal_atom content_of gcd_of lcm_of euclid
integers_plain = refl

fields_constant : resolve Fields [] names (One (Compare Equal (Product (terms_of (number 0 ∷ x ∷ y ∷ []))) (number 0))) ≡ Yes
unfolding formed_number formed_form lowest_form sum_of_forms multiple_of_form product_of_forms gathered scale combine quotient normal_atom content_of gcd_of lcm_of euclid
fields_constant = refl

-- f is bound to x > 0; f or not f has its tree in both places
abbrev positive : Tree
positive = One (meaning.Compare meaning.Above (record { terms = record { times = pos 1; name = 0 } ∷ []; constant = pos 0 }))

-- and h to its negation
abbrev bound : BoundTrees
bound = (codes "f", positive) ∷ (codes "h", Not positive) ∷ []

abbrev f : FormulaTree
f = One (Bound (codes "f"))

trees_in_place : resolve Fields bound names (Or (formulas_of (f ∷ Not f ∷ []))) ≡ Or (also positive (also (Not positive) none))
trees_in_place = refl

-- ex(y,y < x and z = 0): the names are numbered in the order of the text, and y stands first
text_order : names_after [] (Ex (codes "y") (And (formulas_of (One (Compare Less y x) ∷ One (Compare Equal (Named (codes "z")) (number 0)) ∷ []))))
    ≡ codes "y" ∷ codes "x" ∷ codes "z" ∷ []
text_order = refl

-- names that have numbers keep them, and the name of a formula is no variable
old_first : names_after (codes "x" ∷ []) (And (formulas_of (f ∷ One (Compare Less y x) ∷ []))) ≡ names
old_first = refl

-- at x = 1/2 the number 0 has 1/2, and a number without a name has 0
abbrev half : NamedPoint
half = record { at = λ name. if bytes_eq name (codes "x") then pos 1 else pos 0; below = 2 }

x_at_half : (at_names names half).at 0 ≡ pos 1
x_at_half = refl

nothing_at_half : (at_names names half).at 7 ≡ pos 0
nothing_at_half = refl

-- ---- causes

-- g stands as a formula after a conjunct that has a tree
unbound : IsUnbound bound (And (formulas_of (f ∷ One (Bound (codes "g")) ∷ [])))
unbound = inr (inl refl)

-- f + 1 > 0, and ex(f,x > 0)
formula_in_term : NamesFormulaAsTerm bound (One (Compare Greater (plus (Named (codes "f")) (number 1)) (number 0)))
formula_in_term = (codes "f", inl (inl refl), (positive, refl))

formula_quantified : NamesFormulaAsTerm bound (Ex (codes "f") (One (Compare Greater x (number 0))))
formula_quantified = inl (positive, refl)

-- x*y > 1, and y^2 = 0 in the second conjunct
nonlinear : IsNonlinear Fields (place names) (One (Compare Greater (times x y) (number 1)))
unfolding formed_number formed_form lowest_form multiple_of_form product_of_forms gathered scale quotient content_of gcd_of euclid
nonlinear = inl (inl (inr (inl (record { form = variable_form 0; there = refl; varies = refl }, record { form = variable_form 1; there = refl; varies = refl }))))

nonlinear_power : IsNonlinear Fields (place names) (And (formulas_of (Yes ∷ One (Compare Equal (Power y (Fits (pos 2))) (number 0)) ∷ [])))
nonlinear_power = inr (inl (inl (inl (record { form = variable_form 1; there = refl; varies = refl }, lit≤ tt))))

-- 1/y = 1 over the fields, and 4/2 = 1 over the integers
divided : Divides Fields (place names) (One (Compare Equal (Quotient (number 1) y) (number 1)))
divided = inl (inl (record { form = variable_form 1; there = refl; fails = inl refl }))

divided_whole : Divides Integers (place names) (One (Compare Equal (Quotient (number 4) (number 2)) (number 1)))
divided_whole = inl (inl tt)

-- cong(x,0,2) over the fields; cong(x,0,y) and cong(x,0,0) over the integers
congruent_in_fields : CongruenceInFields Fields (Not (One (Cong x (number 0) (number 2))))
congruent_in_fields = tt

modulus_with_name : IsBadModulus Integers (place names) (One (Cong x (number 0) y))
modulus_with_name = record { form = variable_form 1; there = refl; fails = inl refl }

modulus_zero : IsBadModulus Integers (place names) (One (Ncong x (number 0) (number 0)))
modulus_zero = record { form = constant_form (record { numerator = pos 0; denominator = pos 1 }); there = refl; fails = inr refl }

-- not h has the height 3, as the tree of h has 2; an atom has 1
with_bound_tree : height_in_place bound (Not (One (Bound (codes "h")))) ≡ 3
with_bound_tree = refl

-- 512 times not before an atom are one too many
abbrev nots : ℕ → FormulaTree → FormulaTree
nots zero g = g
nots (suc n) g = Not (nots n g)

too_deep : IsTooDeep [] (nots 512 (One (Compare Greater x y)))
too_deep = lit≤ tt

deep_enough : ¬ (IsTooDeep [] (nots 511 (One (Compare Greater x y))))
deep_enough h = omega (arith, h)

-- a literal past the limit in the second conjunct
past_literal : OverflowsInReading Fields [] (place names) (And (formulas_of (Yes ∷ One (Compare Greater (Number Past) x) ∷ [])))
past_literal = inl (inr (inl (inl refl)))

-- over the integers x + M >= 0 is x + M + 1 > 0, whose constant passes the limit; over the fields it does not
past_when_rounded : OverflowsInReading Integers [] (place names) (One (Compare AtLeast (plus x most) (number 0)))
unfolding formed_number formed_form lowest_form sum_of_forms gathered scale combine quotient normal_atom content_of gcd_of lcm_of euclid
past_when_rounded = inr (inr (lit≤ tt))

-- ---- accepted formulas

-- x > 0 and f
abbrev plain : FormulaTree
plain = And (formulas_of (One (Compare Greater x (number 0)) ∷ f ∷ []))

none_bound : (z : List ℕ) → codes "x" ≡ z → ¬ (IsBound bound z)
none_bound z e h = let e2 : None ≡ Some h.0 = subst (λ w. bound_to bound w ≡ Some h.0) (sym e) h.1 in absurd (cc)

accepted : IsAccepted Fields bound [] plain
unfolding formed_number formed_form lowest_form sum_of_forms gathered scale combine quotient normal_atom content_of gcd_of lcm_of euclid
accepted = record {
  bound_names = ⊎_elim (λ h. h) (⊎_elim (λ h. absurd (cc)) (λ h. h));
  variables = ⊎_elim (λ h. ⊎_elim (λ e. none_bound h.0 e h.2) (λ e. e) h.1) (⊎_elim (λ h. h.1) (λ h. h));
  linear = ⊎_elim (⊎_elim (λ h. h) (λ h. h)) (⊎_elim (λ h. h) (λ h. h));
  undivided = ⊎_elim (⊎_elim (λ h. h) (λ h. h)) (⊎_elim (λ h. h) (λ h. h));
  congruences = ⊎_elim (λ h. h) (⊎_elim (λ h. h) (λ h. h));
  moduli = ⊎_elim (λ h. h) (⊎_elim (λ h. h) (λ h. h));
  flat = λ h. omega (arith, h);
  within = ⊎_elim
      (⊎_elim (⊎_elim (λ h. h) (λ h. absurd (cc))) (⊎_elim (λ h. h) (λ h. h)))
      (⊎_elim (⊎_elim (λ h. let e = h.1 in absurd (cc)) (λ h. omega (arith, h))) (⊎_elim (λ h. h) (λ h. h)));
}
