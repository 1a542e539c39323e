-- Critical values as a set: the next past a bound, and what is found from it, does not depend on their order, nor on how often each
-- stands in the list.
use Rattle.std.proofs.Common.{◌≡◌, ℕ, suc, zero, List, map, Option, Some, None, ◌↔◌, refl, sym, ap, ap₂, ◌∙◌, subst, arith}
use Rattle.std.proofs.Math.IntN.{ℤ, pos, negsuc, neg_ℤ, ◌+ℤ◌, ◌*ℤ◌}
use Rattle.std.specs.Prelude.{◌≤ℤ◌, option_map}
use Rattle.std.proofs.lemmas.Int.{ints}
use Rattle.exact_numbers.specs.Divides.{Divides}
use Rattle.exact_numbers.specs.Frac.{Frac, IsProper, IsLowest}
use Rattle.exact_numbers.proofs.Ring.{ring, mul_comm, mul_one}
use Rattle.exact_numbers.proofs.Order.{cancel_positive}
use Rattle.exact_numbers.proofs.Divisibility.{divides_both}
use Rattle.exact_numbers.proofs.FractionRule.{lowest_is}
use Rattle.exact_numbers.proofs.GreatestDivisor.{bezout}
use Rattle.logic_meaning.specs.Some.{Among, EachOf}
use Rattle.logic_meaning.specs.Same.{same_atom}
use Rattle.logic_meaning.specs.Form.{coefficient}
use Rattle.logic_meaning.specs.Atom.{Atom, Compare, Congruent}
use Rattle.logic_meaning.specs.Tree.{Tree}
use Rattle.formula_laws.proofs.Listed.{some_among, among_some}
use Rattle.formula_laws.proofs.Same.{atom_same}
use Rattle.logic_meaning.specs.declared.side.Side.{Side}
use Rattle.logic_meaning.specs.Atoms.{atoms_in, atoms_of}
use Rattle.elimination_theory.proofs.SomeListed.{some_distinct, some_of_distinct}
use Rattle.logic_meaning.specs.Values.{origin}
use Rattle.logic_meaning.specs.Calculated.{root_of, atom_root, critical_values, least_past, seen, seen_from}
use Rattle.sample_reference.proofs.Critical.{roots_proper, from_atom, to_atom}
use Rattle.sample_reference.proofs.Leasts.{Less, AtMost, next_above, none_above, first_of, none_at_all}
use Rattle.sample_reference.proofs.SamePoints.{some_same, none_some}
use Rattle.sample_reference.proofs.Sides.{seen_lowest, seen_seen, among_seen, seen_among, each_seen}

-- ---- fractions in lowest terms

-- a fraction in lowest terms divides another of its value
factor_of : (n d m e u v : ℤ) → n *ℤ e ≡ m *ℤ d → n *ℤ u +ℤ d *ℤ v ≡ pos 1 → e ≡ d *ℤ (m *ℤ u +ℤ e *ℤ v)
factor_of n d m e u v same one =
    let g = simp ring at (ap (λ z. u *ℤ z) same) in
    let k = simp ring at (sym (mul_one e) ∙ ap (λ z. e *ℤ z) (sym one)) in
    simp ring (omega (arith, ints, g, k))

divides_so : (a b : Frac) → IsLowest a → a.numerator *ℤ b.denominator ≡ b.numerator *ℤ a.denominator → Divides a.denominator b.denominator
divides_so a b low same =
    let k = bezout low in
    record { quotient = b.numerator *ℤ k.first +ℤ b.denominator *ℤ k.second; exact = factor_of a.numerator a.denominator b.numerator b.denominator k.first k.second same k.sum }

one_fraction : (a b : Frac) → IsProper a → IsProper b → IsLowest a → IsLowest b → a.numerator *ℤ b.denominator ≡ b.numerator *ℤ a.denominator → a ≡ b
one_fraction a b pa pb la lb same =
    let d : a.denominator ≡ b.denominator = divides_both (omega (arith, ints)) (omega (arith, ints)) (divides_so a b la same) (divides_so b a lb (sym same)) in
    let n : a.numerator ≡ b.numerator = cancel_positive b.denominator pb (mul_comm b.denominator a.numerator ∙ same ∙ ap (λ z. b.numerator *ℤ z) d ∙ mul_comm b.numerator b.denominator) in
    ap₂ (λ y z. let r : Frac = record { numerator = y; denominator = z } in r) n d

-- ---- the next past a bound

abbrev IsPastBound : Option Frac → Frac → Type 0
IsPastBound None v = Unit {0}
IsPastBound (Some e) v = Less e v

record IsNext (bound : Option Frac) (values : List Frac) (w : Frac) : Type 0 where
  among : Among values w
  proper : IsProper w
  past : IsPastBound bound w
  first : (v : Frac) → Among values v → IsPastBound bound v → AtMost w v

next_is : (bound : Option Frac) (values : List Frac) (w : Frac) → EachOf IsProper values → least_past bound values ≡ Some w → IsNext bound values w
next_is None values w h e = let n = first_of values w h e in record { among = n.among; proper = n.proper; past = tt; first = λ v m k. n.first v m }
next_is (Some b) values w h e = let n = next_above b values w h e in record { among = n.among; proper = n.proper; past = n.above; first = n.first }

none_past : (bound : Option Frac) (values : List Frac) (v : Frac) → least_past bound values ≡ None → Among values v → ¬ (IsPastBound bound v)
none_past None values v e m k = none_at_all values v e m
none_past (Some b) values v e m k = none_above b values v e m k

-- each is a fraction in lowest terms, and the two lists have the same
pub record AreOneSet (vs ws : List Frac) : Type 0 where
  pub first_proper : EachOf IsProper vs
  pub second_proper : EachOf IsProper ws
  pub lowest_terms : (w : Frac) → Among vs w → IsLowest w
  pub same : (w : Frac) → Among vs w ↔ Among ws w

between : (a b : ℤ) → a ≤ℤ b → b ≤ℤ a → a ≡ b
between a b h k = omega (arith, ints)

pub same_least : (bound : Option Frac) (vs ws : List Frac) → AreOneSet vs ws → least_past bound vs ≡ least_past bound ws
same_least bound vs ws s = go (least_past bound vs) (least_past bound ws) refl refl
  where
    go : (o u : Option Frac) → least_past bound vs ≡ o → least_past bound ws ≡ u → o ≡ u
    go None None e f = refl
    go (Some w) None e f = let n = next_is bound vs w s.first_proper e in absurd (none_past bound ws w f ((s.same w).0 n.among) n.past)
    go None (Some w) e f = let n = next_is bound ws w s.second_proper f in absurd (none_past bound vs w e ((s.same w).1 n.among) n.past)
    go (Some w) (Some v) e f =
        let n = next_is bound vs w s.first_proper e in
        let m = next_is bound ws v s.second_proper f in
        let back = (s.same v).1 m.among in
        ap Some (one_fraction w v n.proper m.proper (s.lowest_terms w n.among) (s.lowest_terms v back)
        (between (w.numerator *ℤ v.denominator) (v.numerator *ℤ w.denominator) (n.first v back m.past) (m.first w ((s.same w).0 n.among) n.past)))

-- ---- critical values

root_lowest : (a t : ℤ) (w : Frac) → root_of a t ≡ Some w → IsLowest w
root_lowest (pos zero) t w e = none_some w e
root_lowest (pos (suc n)) t w e = subst IsLowest (some_same _ w e) (lowest_is (neg_ℤ t) (pos (suc n)) (omega (arith, ints)))
root_lowest (negsuc n) t w e = subst IsLowest (some_same _ w e) (lowest_is t (pos (suc n)) (omega (arith, ints)))

atom_lowest : (x : ℕ) (a : Atom) (w : Frac) → atom_root x a ≡ Some w → IsLowest w
atom_lowest x (Compare r f) w e = root_lowest (coefficient x f) f.constant w e
atom_lowest x (Congruent holds n f) w e = none_some w e

module _ (x : ℕ) (atoms others : List Atom) (same : (a : Atom) → Among atoms a ↔ Among others a) where
  critical_lowest : (w : Frac) → Among (critical_values x atoms) w → IsLowest w
  critical_lowest w m = let r = some_among (λ a. atom_root x a ≡ Some w) atoms (from_atom x origin atoms w m) in atom_lowest x r.0 w r.2

  critical_same : (w : Frac) → Among (critical_values x atoms) w ↔ Among (critical_values x others) w
  critical_same w = (
    λ m. let r = some_among (λ a. atom_root x a ≡ Some w) atoms (from_atom x origin atoms w m) in to_atom x origin others w (among_some (λ a. atom_root x a ≡ Some w) others r.0 ((same r.0).0 r.1) r.2),
    λ m. let r = some_among (λ a. atom_root x a ≡ Some w) others (from_atom x origin others w m) in to_atom x origin atoms w (among_some (λ a. atom_root x a ≡ Some w) atoms r.0 ((same r.0).1 r.1) r.2),
  )

  -- as a side sees them
  pub seen_set : (side : Side) → AreOneSet (map (seen side) (critical_values x atoms)) (map (seen side) (critical_values x others))
  seen_set side = record {
    first_proper = each_seen side (critical_values x atoms) (roots_proper x origin atoms);
    second_proper = each_seen side (critical_values x others) (roots_proper x origin others);
    lowest_terms = λ w m. subst IsLowest (seen_seen side w) (seen_lowest side (seen side w) (critical_lowest (seen side w) (among_seen side (critical_values x atoms) w m)));
    same = λ w. (
      λ m. subst (Among (map (seen side) (critical_values x others))) (seen_seen side w) (seen_among side (critical_values x others) (seen side w) ((critical_same (seen side w)).0 (among_seen side (critical_values x atoms) w m))),
      λ m. subst (Among (map (seen side) (critical_values x atoms))) (seen_seen side w) (seen_among side (critical_values x atoms) (seen side w) ((critical_same (seen side w)).1 (among_seen side (critical_values x others) w m))),
    );
  }

  -- so what is found from the next of them is the same
  pub found_same : (side : Side) (bound : Option Frac) (find : Option Frac → Option Frac) →
      seen_from side (λ vs. find (least_past bound vs)) (critical_values x atoms) ≡ seen_from side (λ vs. find (least_past bound vs)) (critical_values x others)
  found_same side bound find = ap (λ o. option_map (seen side) (find o)) (same_least bound (map (seen side) (critical_values x atoms)) (map (seen side) (critical_values x others)) (seen_set side))

-- the atoms of a formula at each place, and each once
pub once_same : (f : Tree) (a : Atom) → Among (atoms_in f) a ↔ Among (atoms_of f) a
once_same f a = (some_distinct same_atom atom_same (λ b. b ≡ a) (atoms_in f), some_of_distinct same_atom (λ b. b ≡ a) (atoms_in f))
