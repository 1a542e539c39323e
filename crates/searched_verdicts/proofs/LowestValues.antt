-- Values of the first names in lowest terms, as witnesses.
use Rattle.std.proofs.Common.{◌≡◌, ◌+◌, ℕ, zero, suc, Bool, true, false, List, [], ◌∷◌, ◌++◌, length, map, inl, inr, refl, sym, ap, ◌∙◌, subst, arith, nat_eq, if◌then◌else◌, unsigned_abs}
use Rattle.std.proofs.Math.IntN.{ℤ, pos}
use Rattle.std.specs.Prelude.{◌<ℤ◌}
use Rattle.std.proofs.lemmas.List.{map-append}
use Rattle.exact_numbers.specs.Frac.{Frac, lowest}
use Rattle.exact_numbers.specs.Fraction.{frac_of}
use Rattle.exact_numbers.specs.declared.fraction.Fraction.{Fraction}
use Rattle.logic_meaning.specs.Context.{Context}
use Rattle.logic_meaning.specs.Every.{Every}
use Rattle.logic_meaning.specs.NormalForm.{IsNormal}
use Rattle.logic_meaning.specs.Point.{Point, Of}
use Rattle.logic_meaning.specs.Reference.{normal_tree}
use Rattle.logic_meaning.specs.Shape.{is_in}
use Rattle.logic_meaning.specs.Some.{Among, EachOf}
use Rattle.logic_meaning.specs.Tree.{Tree, TrueAt, IsFree}
use Rattle.logic_meaning.specs.Values.{Value, with_values, IsValue, origin}
use Rattle.formula_laws.specs.Points.{AgreeOn}
use Rattle.formula_laws.proofs.FreeNames.{tree_agrees}
use Rattle.formula_laws.proofs.TreeFiner.{tree_same_point}
use Rattle.formula_tree.specs.FromLinearForms.{Numbers, number_at, point_of}
use Rattle.elimination_theory.proofs.Turning.{normal_inside, normal_truths}
use Rattle.sample_reference.specs.Leading.{under_names, named_from, AreWitnesses}
use Rattle.sample_reference.proofs.Chain.{origin_of}
use Rattle.sample_reference.proofs.SamePoints.{abs_positive, values_of_theory}
use Rattle.case_theory.specs.Known.{known_at}
use Rattle.case_theory.specs.Samples.{named_value, AreKnown}
use Rattle.case_theory.proofs.Known.{known_point}
use Rattle.case_theory.proofs.Reordered.{not_both, among_listed, listed_among}
use Rattle.searched_verdicts.specs.Witnesses.{lowest_from}
use Rattle.searched_verdicts.proofs.UnderNames.{names_from, true_under, free_under}

-- one value more
pub lowest_more : (at : Numbers) (n count : ℕ) → lowest_from at n (suc count) ≡ lowest_from at n count ++ lowest (number_at at (n + count)) at.denominator ∷ []
lowest_more at n zero = ap (λ k. lowest (number_at at k) at.denominator ∷ []) (omega arith)
lowest_more at n (suc count) =
    ap (λ vs. lowest (number_at at n) at.denominator ∷ vs) (lowest_more at (suc n) count
    ∙ ap (λ k. lowest_from at (suc n) count ++ lowest (number_at at k) at.denominator ∷ []) (omega arith))

pub values_more : (at : Numbers) (k : ℕ) (vs more : List Fraction) (v : Fraction) → map frac_of vs ≡ lowest_from at 0 k → frac_of v ≡ lowest (number_at at k) at.denominator → more ≡ vs ++ v ∷ [] → map frac_of more ≡ lowest_from at 0 (k + 1)
values_more at k vs more v h r e =
    ap (map frac_of) e ∙ map-append frac_of vs (v ∷ []) ∙ ap (λ (fs : List Frac). fs ++ frac_of v ∷ []) h ∙ ap (λ (f : Frac). lowest_from at 0 k ++ f ∷ []) (r ∙ ap (λ j. lowest (number_at at j) at.denominator) (here k)) ∙ sym (lowest_more at 0 k)
    ∙ ap (lowest_from at 0) (next k)
  where
    here : (k : ℕ) → k ≡ 0 + k
    here k = omega arith

    next : (k : ℕ) → suc k ≡ k + 1
    next k = omega arith

pub lowest_length : (at : Numbers) (n count : ℕ) → length (lowest_from at n count) ≡ count
lowest_length at n zero = refl
lowest_length at n (suc count) = ap suc (lowest_length at (suc n) count)

-- ---- the point without the values of other names

-- each other name at 0
abbrev cut : List ℕ → Point ℕ → Point ℕ
cut names p = record { at = λ y. if is_in nat_eq y names then p.at y else pos 0; below = p.below }

cut_here : (names : List ℕ) (p : Point ℕ) (y : ℕ) → Among names y → (cut names p).at y ≡ p.at y
cut_here names p y m = ap (λ (b : Bool). if b then p.at y else pos 0) (among_listed y names m)

cut_there : (names : List ℕ) (p : Point ℕ) (y : ℕ) → ¬ (Among names y) → (cut names p).at y ≡ pos 0
cut_there names p y out = go (is_in nat_eq y names) refl
  where
    go : (b : Bool) → is_in nat_eq y names ≡ b → (if b then p.at y else pos 0) ≡ pos 0
    go true e = absurd (out (listed_among y names e))
    go false e = refl

-- The values of names depend on their numbers alone.
known_same : (names : List ℕ) (p q : Point ℕ) → p.below ≡ q.below → ((y : ℕ) → Among names y → p.at y ≡ q.at y) → known_at names p ≡ known_at names q
known_same [] p q e h = refl
known_same (y ∷ names) p q e h =
    let first = h y (inl refl) in let rest = known_same names p q e (λ z m. h z (inr m)) in
    ap (λ k. named_value y (lowest k (pos p.below)) ∷ known_at names p) first ∙ ap (λ (b : ℕ). named_value y (lowest (q.at y) (pos b)) ∷ known_at names p) e ∙ ap (λ vs. named_value y (lowest (q.at y) (pos q.below)) ∷ vs) rest

-- The values in lowest terms are those of the point.
known_lowest : (at : Numbers) (n count : ℕ) → pos 0 <ℤ at.denominator → known_at (names_from n count) (point_of at) ≡ named_from n (lowest_from at n count)
known_lowest at n zero h = refl
known_lowest at n (suc count) h =
    ap (λ d. named_value n (lowest (number_at at n) d) ∷ known_at (names_from (suc n) count) (point_of at)) (abs_positive at.denominator h)
    ∙ ap (λ vs. named_value n (lowest (number_at at n) at.denominator) ∷ vs) (known_lowest at (suc n) count h)

-- ---- witnesses

module _ (c : Context) (count : ℕ) (f : Tree) (normal : Every (IsNormal c) f) (closed : (y : ℕ) → ¬ (IsFree (under_names 0 count f) y))
    (at : Numbers) (positive : pos 0 <ℤ at.denominator) (of : Of c (point_of at)) (holds : TrueAt c (normal_tree f) (point_of at)) where
  abbrev near : Point ℕ
  near = cut (names_from 0 count) (point_of at)

  -- a name that is free in the formula is one of these
  free_among : (y : ℕ) → IsFree f y → Among (names_from 0 count) y
  free_among y h = go (is_in nat_eq y (names_from 0 count)) refl
    where
      go : (b : Bool) → is_in nat_eq y (names_from 0 count) ≡ b → Among (names_from 0 count) y
      go true e = listed_among y (names_from 0 count) e
      go false e = absurd (closed y (free_under 0 count f y h (λ m. not_both (is_in nat_eq y (names_from 0 count)) (among_listed y (names_from 0 count) m) e)))

  agree : AgreeOn (IsFree f) (point_of at) near
  agree = record { same_below = refl; same_at = λ y h. sym (cut_here (names_from 0 count) (point_of at) y (free_among y h)) }

  true_near : TrueAt c f near
  true_near = (tree_agrees c f (point_of at) near agree).0 ((normal_truths c f (point_of at) (normal_inside c f normal) of).0.1 holds)

  values_are : known_at (names_from 0 count) near ≡ named_from 0 (lowest_from at 0 count)
  values_are = known_same (names_from 0 count) near (point_of at) refl (cut_here (names_from 0 count) (point_of at)) ∙ known_lowest at 0 count positive

  known : AreKnown c (named_from 0 (lowest_from at 0 count)) near
  known = subst (λ vs. AreKnown c vs near) values_are (known_point c (names_from 0 count) near of (cut_there (names_from 0 count) (point_of at)))

  -- The values in lowest terms are witnesses,
  pub lowest_witness : AreWitnesses c count f (lowest_from at 0 count)
  lowest_witness = record {
    one_each = lowest_length at 0 count;
    each = known.each;
    true_with = (tree_same_point c f near (with_values origin (named_from 0 (lowest_from at 0 count))) of (values_of_theory c (named_from 0 (lowest_from at 0 count)) origin known.each (origin_of c)) known.same).0 true_near;
  }

  -- and make the formula true under the names.
  pub lowest_true : TrueAt c (under_names 0 count f) origin
  lowest_true = subst (λ k. TrueAt c (under_names 0 k f) origin) lowest_witness.one_each (true_under c (lowest_from at 0 count) 0 f origin lowest_witness.each lowest_witness.true_with)
