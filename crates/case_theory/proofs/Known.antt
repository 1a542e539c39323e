-- The numbers of a point are known values.
use Rattle.std.proofs.Common.{◌≡◌, ℕ, Bool, true, false, List, [], ◌∷◌, inl, inr, refl, sym, ap, ◌∙◌, subst, nat_eq}
use Rattle.std.proofs.Math.IntN.{ℤ, pos, ◌*ℤ◌}
use Rattle.std.specs.Prelude.{◌<ℤ◌}
use Rattle.exact_numbers.specs.Frac.{Frac, lowest}
use Rattle.exact_numbers.proofs.Ring.{mul_one, zero_mul}
use Rattle.exact_numbers.proofs.FractionRule.{lowest_proper, lowest_value, lowest_is}
use Rattle.logic_meaning.specs.Context.{Context, Fields, Integers}
use Rattle.logic_meaning.specs.Point.{Point, Of}
use Rattle.logic_meaning.specs.Shape.{is_in}
use Rattle.logic_meaning.specs.Some.{Among, EachOf}
use Rattle.logic_meaning.specs.Values.{Value, value_names, with_values, IsValue, IsWhole, origin}
use Rattle.sample_reference.proofs.Chain.{origin_of, others_stay}
use Rattle.sample_reference.proofs.IntegersValue.{divides_one}
use Rattle.case_theory.specs.Samples.{named_value}
use Rattle.case_theory.specs.Known.{known_at, KnownAreThePoint}
use Rattle.case_theory.proofs.Moving.{below_positive}
use Rattle.case_theory.proofs.Reordered.{not_both, among_listed, listed_among, cross_here, has_value}

known_names : (names : List ℕ) (p : Point ℕ) → value_names (known_at names p) ≡ names
known_names [] p = refl
known_names (y ∷ names) p = ap (λ ns. y ∷ ns) (known_names names p)

known_among : (names : List ℕ) (p : Point ℕ) (v : Value) → Among (known_at names p) v → named_value v.name (lowest (p.at v.name) (pos p.below)) ≡ v
known_among [] p v m = absurd m
known_among (y ∷ names) p v (inl e) = subst (λ (w : Value). named_value w.name (lowest (p.at w.name) (pos p.below)) ≡ w) e refl
known_among (y ∷ names) p v (inr m) = known_among names p v m

whole_number : (c : Context) (n : ℤ) (p : Point ℕ) → Of c p → IsWhole c (lowest n (pos p.below))
whole_number Fields n p o = tt
whole_number Integers n p o =
    let b = below_positive Integers p o in
    let one : pos p.below ≡ pos 1 = ap pos o in
    let e : (lowest n (pos p.below)).numerator *ℤ pos p.below ≡ n *ℤ (lowest n (pos p.below)).denominator = lowest_value n (pos p.below) b in
    divides_one (lowest n (pos p.below)).numerator (lowest n (pos p.below)).denominator n (lowest_proper n (pos p.below) b) (lowest_is n (pos p.below) b)
    (sym (ap (λ z. (lowest n (pos p.below)).numerator *ℤ z) one ∙ mul_one (lowest n (pos p.below)).numerator) ∙ e)

known_each : (c : Context) (names : List ℕ) (p : Point ℕ) → Of c p → EachOf (IsValue c) (known_at names p)
known_each c [] p o = tt
known_each c (y ∷ names) p o =
    let b = below_positive c p o in
    (record { proper = lowest_proper (p.at y) (pos p.below) b; lowest_terms = lowest_is (p.at y) (pos p.below) b; whole = whole_number c (p.at y) p o }, known_each c names p o)

pub known_point : (c : Context) → KnownAreThePoint c
known_point c names p o zero = record { each = known_each c names p o; same = record { same_value = λ y. go y (is_in nat_eq y names) refl } }
  where
    here : (y : ℕ) → Among names y → p.at y *ℤ pos (with_values origin (known_at names p)).below ≡ (with_values origin (known_at names p)).at y *ℤ pos p.below
    here y m =
        let h = has_value c (known_at names p) origin y (origin_of c) (known_each c names p o) (subst (λ ns. Among ns y) (sym (known_names names p)) m) in
        let b = below_positive c p o in
        let w = lowest (p.at y) (pos p.below) in
        let v : h.value.at ≡ w = ap (λ (u : Value). u.at) (sym (known_among names p h.value h.among)) ∙ ap (λ z. lowest (p.at z) (pos p.below)) h.named in
        let e = subst (λ (a : Frac). (with_values origin (known_at names p)).at y *ℤ a.denominator ≡ a.numerator *ℤ pos (with_values origin (known_at names p)).below) v h.here in
        let f = lowest_value (p.at y) (pos p.below) b in
        crossed (p.at y) (pos (with_values origin (known_at names p)).below) ((with_values origin (known_at names p)).at y) (pos p.below) w.numerator w.denominator (lowest_proper (p.at y) (pos p.below) b) e f
      where
        crossed : (a big s b n d : ℤ) → pos 0 <ℤ d → s *ℤ d ≡ n *ℤ big → n *ℤ b ≡ a *ℤ d → a *ℤ big ≡ s *ℤ b
        crossed a big s b n d h e f = cross_here c a s n d b big h (sym f) e

    go : (y : ℕ) (t : Bool) → is_in nat_eq y names ≡ t → p.at y *ℤ pos (with_values origin (known_at names p)).below ≡ (with_values origin (known_at names p)).at y *ℤ pos p.below
    go y true e = here y (listed_among y names e)
    go y false e =
        let s : (with_values origin (known_at names p)).at y ≡ pos 0 = sym (mul_one ((with_values origin (known_at names p)).at y)) ∙ others_stay c (known_at names p) origin (known_each c names p o) y (ap (is_in nat_eq y) (known_names names p) ∙ e)
        ∙ zero_mul (pos (with_values origin (known_at names p)).below) in
        ap (λ z. z *ℤ pos (with_values origin (known_at names p)).below) (zero y (λ m. not_both (is_in nat_eq y names) (among_listed y names m) e))
        ∙ zero_mul (pos (with_values origin (known_at names p)).below) ∙ sym (ap (λ z. z *ℤ pos p.below) s ∙ zero_mul (pos p.below))
