-- Truth under `ex` of names.
use Rattle.std.proofs.Common.{◌≡◌, ℕ, zero, suc, List, [], ◌∷◌, length, inl, inr, unsigned_abs, nat_eq}
use Rattle.std.proofs.Math.IntN.{pos, ◌*ℤ◌}
use Rattle.exact_numbers.specs.Frac.{Frac}
use Rattle.logic_meaning.specs.Context.{Context}
use Rattle.logic_meaning.specs.Every.{Every}
use Rattle.logic_meaning.specs.NormalForm.{IsNormal}
use Rattle.logic_meaning.specs.Point.{Point, Of, move}
use Rattle.logic_meaning.specs.Reference.{normal_tree}
use Rattle.logic_meaning.specs.Some.{Among, EachOf}
use Rattle.logic_meaning.specs.Tree.{Tree, TrueAt, IsFree}
use Rattle.logic_meaning.specs.Values.{with_value, with_values, IsValue, origin}
use Rattle.formula_laws.proofs.TreeReplacing.{moved_of}
use Rattle.elimination_theory.proofs.Turning.{normal_inside, normal_truths}
use Rattle.sample_reference.specs.Leading.{under_names, named_from}
use Rattle.sample_reference.proofs.Chain.{origin_of}
use Rattle.sample_reference.proofs.SamePoints.{value_allowed}

-- so many names, numbered from n on
abbrev pub names_from : ℕ → ℕ → List ℕ
names_from n zero = []
names_from n (suc count) = n ∷ names_from (suc n) count

-- a point of the theory at which the formula is true
pub record HasPoint (c : Context) (f : Tree) : Type 0 where
  pub at : Point ℕ
  pub of_theory : Of c at
  pub true_there : TrueAt c f at

-- There is one, where the formula under the names is true.
pub point_under : (c : Context) (count n : ℕ) (f : Tree) (p : Point ℕ) → Of c p → TrueAt c (under_names n count f) p → HasPoint c f
point_under c zero n f p o t = record { at = p; of_theory = o; true_there = t }
point_under c (suc count) n f p o t = point_under c count (suc n) f (move nat_eq p n t.0 t.1) (moved_of c p n t.0 t.1 o t.2) t.3

-- Where the negation normal form is true at no point, the formula under the names is false.
pub false_under : (c : Context) (count : ℕ) (f : Tree) → Every (IsNormal c) f → ((p : Point ℕ) → Of c p → ¬ (TrueAt c (normal_tree f) p)) → ¬ (TrueAt c (under_names 0 count f) origin)
false_under c count f n none t =
    let h = point_under c count 0 f origin (origin_of c) t in
    none h.at h.of_theory ((normal_truths c f h.at (normal_inside c f n) h.of_theory).0.0 h.true_there)

-- Values with which the formula is true make it true under their names.
pub true_under : (c : Context) (vs : List Frac) (n : ℕ) (f : Tree) (p : Point ℕ) → EachOf (IsValue c) (named_from n vs) → TrueAt c f (with_values p (named_from n vs)) → TrueAt c (under_names n (length vs) f) p
true_under c [] n f p is t = t
true_under c (v ∷ vs) n f p is t =
    (v.numerator *ℤ pos p.below, unsigned_abs v.denominator, value_allowed c (record { name = n; at = v }) is.0, true_under c vs (suc n) f (with_value p (record { name = n; at = v })) is.1 t)

-- A name that is free in the formula, and none of these, is free under them.
pub free_under : (n count : ℕ) (f : Tree) (y : ℕ) → IsFree f y → ¬ (Among (names_from n count) y) → IsFree (under_names n count f) y
free_under n zero f y h out = h
free_under n (suc count) f y h out = (λ e. out (inl e), free_under (suc n) count f y h (λ m. out (inr m)))
