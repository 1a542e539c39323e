-- Steps of the loops over the atoms, from the last on.
use Rattle.std.proofs.Common.{◌≡◌, ℕ, zero, suc, ◌<◌, List, [], ◌∷◌, ◌++◌, map, length, All, Result, Ok, Err, sym, ap, ◌∙◌, subst, arith, unsigned_abs}
use Rattle.std.proofs.Math.IntN.{ℤ, pos, negsuc}
use Rattle.std.specs.Prelude.{◌<ℤ◌}
use Rattle.std.proofs.lemmas.Int.{ints}
use Rattle.std.proofs.lemmas.List.{map-append}
use Rattle.exact_numbers.specs.Limit.{InLimit, PastLimit}
use Rattle.exact_numbers.proofs.Limits.{by_limit}
use Rattle.elimination_theory.proofs.Overflow.{span_limits}
use Rattle.logic_meaning.specs.Context.{Integers}
use Rattle.logic_meaning.specs.Form.{coefficient}
use Rattle.logic_meaning.specs.Some.{EachOf}
use Rattle.logic_meaning.specs.Atom as meant
use Rattle.formula_laws.specs.TheoryAtoms.{AtomIn}
use Rattle.logic_meaning.specs.IntegersPoints.{with_coefficient, scale_of, own_span}
use Rattle.elimination_theory.proofs.IntegerScale.{Reaches, scale_reaches, scale_positive, span_positive}
use Rattle.exact_numbers.proofs.Divisibility.{divides_same}
use Rattle.std.specs.List.{AllByRecursion}
use Rattle.std.specs.Result.{OnOk}
use Rattle.std.proofs.lemmas.List.Elements.{All-from_recursion, recursion_from_All}
use Rattle.elimination_theory.proofs.SomeListed.{each_left, each_right}
use Rattle.elimination_theory.proofs.LowestTerms.{natural}
use Rattle.normal_atoms.specs.declared.atoms.Atom.{Atom}
use Rattle.normal_atoms.specs.Atoms.{atom_of, IsWellFormed}
use Rattle.normal_atoms.specs.declared.atoms.Atom.TheVariants.{Compare, Congruent}
use Rattle.test_points.specs.Periods.{with_span, IsReached}
use Rattle.test_points.proofs.Multiples.{coefficient_grows, span_grows, scale_from, scale_push, scale_grows, span_from, span_push, span_from_scale, spans_grow, IsSpanned, past_grows}

pub positive_abs : (z : ℤ) → pos 0 <ℤ z → 0 < unsigned_abs z
positive_abs z h = let n = natural z (omega (arith, ints)) in omega (arith, ints)

-- the number so far, of which the total is left to come
pub record IsStep (P : ℕ → ℕ) (n : ℤ) (total : ℕ) : Type 0 where
  pub rest : P (unsigned_abs n) ≡ total
  pub positive : pos 0 <ℤ n

module _ (x : ℕ) (left before : List Atom) (a : Atom) (s c : ℤ) (total : ℕ) (split : left ≡ before ++ a ∷ []) (h : pos 0 <ℤ s)
    (e : c ≡ coefficient x (meant.form_of (atom_of a))) (rest : scale_from x (unsigned_abs s) (map atom_of left) ≡ total) where
  scale_next : scale_from x (with_coefficient c (unsigned_abs s)) (map atom_of before) ≡ total
  scale_next =
      ap (λ (z : ℤ). scale_from x (with_coefficient z (unsigned_abs s)) (map atom_of before)) e
      ∙ sym (scale_push x (unsigned_abs s) (map atom_of before) (atom_of a))
      ∙ ap (scale_from x (unsigned_abs s)) (sym (map-append atom_of before (a ∷ [])))
      ∙ ap (λ l. scale_from x (unsigned_abs s) (map atom_of l)) (sym split)
      ∙ rest

  pub scale_step : (t : ℤ) → t ≡ pos (with_coefficient c (unsigned_abs s)) → IsStep (λ n. scale_from x n (map atom_of before)) t total
  scale_step t f =
      let g = (coefficient_grows c (unsigned_abs s) (positive_abs s h)).positive in
      record { rest = ap (λ (z : ℤ). scale_from x (unsigned_abs z) (map atom_of before)) f ∙ scale_next; positive = subst (λ (z : ℤ). pos 0 <ℤ z) (sym f) (omega (arith, ints)) }

  pub scale_fails : PastLimit (pos (with_coefficient c (unsigned_abs s))) → PastLimit (pos total)
  scale_fails p =
      let g = coefficient_grows c (unsigned_abs s) (positive_abs s h) in
      past_grows (with_coefficient c (unsigned_abs s)) (scale_from x (with_coefficient c (unsigned_abs s)) (map atom_of before)) total (scale_grows x (with_coefficient c (unsigned_abs s)) (map atom_of before) g.positive) scale_next p

pub scale_ends : (x : ℕ) (left : List Atom) (s : ℤ) (total : ℕ) → length left ≡ 0 → pos 0 <ℤ s → scale_from x (unsigned_abs s) (map atom_of left) ≡ total → s ≡ pos total
scale_ends x [] s total e h r = natural s (omega (arith, ints)) ∙ ap pos r
scale_ends x (a ∷ left) s total e h r = absurd (omega arith)

module _ (l x : ℕ) (left before : List Atom) (a : Atom) (s : ℤ) (total : ℕ) (split : left ≡ before ++ a ∷ []) (hl : 0 < l) (h : pos 0 <ℤ s)
    (each : EachOf (IsSpanned l x) (map atom_of left)) (rest : span_from l x (unsigned_abs s) (map atom_of left) ≡ total) where
  each_split : EachOf (IsSpanned l x) (map atom_of before ++ atom_of a ∷ [])
  each_split = subst (EachOf (IsSpanned l x)) (map-append atom_of before (a ∷ [])) (subst (λ k. EachOf (IsSpanned l x) (map atom_of k)) split each)

  pub span_before : EachOf (IsSpanned l x) (map atom_of before)
  span_before = each_left (IsSpanned l x) (map atom_of before) (atom_of a ∷ []) each_split

  pub span_last : IsSpanned l x (atom_of a)
  span_last = (each_right (IsSpanned l x) (map atom_of before) (atom_of a ∷ []) each_split).0

  span_next : span_from l x (with_span l x (atom_of a) (unsigned_abs s)) (map atom_of before) ≡ total
  span_next =
      sym (span_push l x (unsigned_abs s) (map atom_of before) (atom_of a))
      ∙ ap (span_from l x (unsigned_abs s)) (sym (map-append atom_of before (a ∷ [])))
      ∙ ap (λ k. span_from l x (unsigned_abs s) (map atom_of k)) (sym split)
      ∙ rest

  pub span_step : (t : ℤ) → t ≡ pos (with_span l x (atom_of a) (unsigned_abs s)) → IsStep (λ n. span_from l x n (map atom_of before)) t total
  span_step t f =
      let g = (span_grows l x (atom_of a) (unsigned_abs s) hl span_last.0 span_last.1 (positive_abs s h)).positive in
      record { rest = ap (λ (z : ℤ). span_from l x (unsigned_abs z) (map atom_of before)) f ∙ span_next; positive = subst (λ (z : ℤ). pos 0 <ℤ z) (sym f) (omega (arith, ints)) }

  pub span_fails : PastLimit (pos (with_span l x (atom_of a) (unsigned_abs s))) → PastLimit (pos total)
  span_fails p =
      let n = with_span l x (atom_of a) (unsigned_abs s) in
      let g = span_grows l x (atom_of a) (unsigned_abs s) hl span_last.0 span_last.1 (positive_abs s h) in
      past_grows n (span_from l x n (map atom_of before)) total (spans_grow l x n (map atom_of before) hl span_before g.positive) span_next p

pub span_ends : (l x : ℕ) (left : List Atom) (s : ℤ) (total : ℕ) → length left ≡ 0 → pos 0 <ℤ s → span_from l x (unsigned_abs s) (map atom_of left) ≡ total → s ≡ pos total
span_ends l x [] s total e h r = natural s (omega (arith, ints)) ∙ ap pos r
span_ends l x (a ∷ left) s total e h r = absurd (omega arith)

-- ---- at the beginning

reach : (l : ℕ) (c : ℤ) → Reaches l c → IsReached l c
reach l (pos zero) r = r
reach l (pos (suc n)) r = r
reach l (negsuc n) r = r

pub in_integers : (a : Atom) → IsWellFormed a → AtomIn Integers (atom_of a)
in_integers (Compare r f) h = tt
in_integers (Congruent b m f) h = positive_abs m h.0

all_spanned : (l x : ℕ) (atoms : List Atom) → AllByRecursion IsWellFormed atoms → EachOf (λ a. Reaches l (coefficient x (meant.form_of a))) (map atom_of atoms) → EachOf (IsSpanned l x) (map atom_of atoms)
all_spanned l x [] w r = tt
all_spanned l x (a ∷ atoms) w r = ((in_integers a w.0, reach l (coefficient x (meant.form_of (atom_of a))) r.0), all_spanned l x atoms w.1 r.1)

pub begins_spanned : (x : ℕ) (atoms : List Atom) (s : ℤ) → All IsWellFormed atoms → s ≡ pos (scale_of x (map atom_of atoms)) → EachOf (IsSpanned (unsigned_abs s) x) (map atom_of atoms)
begins_spanned x atoms s w e =
    let l = scale_of x (map atom_of atoms) in
    subst (λ (z : ℤ). EachOf (IsSpanned (unsigned_abs z) x) (map atom_of atoms)) (sym e)
    (all_spanned l x atoms (recursion_from_All IsWellFormed atoms w) (scale_reaches x l (map atom_of atoms) (divides_same (pos l))))

pub scale_is_positive : (x : ℕ) (atoms : List Atom) (s : ℤ) → s ≡ pos (scale_of x (map atom_of atoms)) → pos 0 <ℤ s
scale_is_positive x atoms s e = let h = scale_positive x (map atom_of atoms) in subst (λ (z : ℤ). pos 0 <ℤ z) (sym e) (omega (arith, ints))

pub begins_span : (x : ℕ) (atoms : List Atom) (s : ℤ) → s ≡ pos (scale_of x (map atom_of atoms)) → span_from (unsigned_abs s) x (unsigned_abs s) (map atom_of atoms) ≡ own_span x (map atom_of atoms)
begins_span x atoms s e =
    let l = scale_of x (map atom_of atoms) in
    ap (λ (z : ℤ). span_from (unsigned_abs z) x (unsigned_abs z) (map atom_of atoms)) e ∙ span_from_scale l x (map atom_of atoms)

-- the atoms before the last, and the last
pub well_formed_split : (left before : List Atom) (a : Atom) → left ≡ before ++ a ∷ [] → All IsWellFormed left → AllByRecursion IsWellFormed (before ++ a ∷ [])
well_formed_split left before a e h = recursion_from_All IsWellFormed (before ++ a ∷ []) (subst (All IsWellFormed) e h)

parted : (before : List Atom) (a : Atom) → AllByRecursion IsWellFormed (before ++ a ∷ []) → AllByRecursion IsWellFormed before × IsWellFormed a
parted [] a h = (tt, h.0)
parted (b ∷ before) a h = let r = parted before a h.1 in ((h.0, r.0), r.1)

pub first_well_formed : (before : List Atom) (a : Atom) → AllByRecursion IsWellFormed (before ++ a ∷ []) → All IsWellFormed before × IsWellFormed a
first_well_formed before a h = let r = parted before a h in (All-from_recursion IsWellFormed before r.0, r.1)

each_in_integers : (atoms : List Atom) → AllByRecursion IsWellFormed atoms → EachOf (AtomIn Integers) (map atom_of atoms)
each_in_integers [] w = tt
each_in_integers (a ∷ atoms) w = (in_integers a w.0, each_in_integers atoms w.1)

pub all_in_integers : (atoms : List Atom) → All IsWellFormed atoms → EachOf (AtomIn Integers) (map atom_of atoms)
all_in_integers atoms w = each_in_integers atoms (recursion_from_All IsWellFormed atoms w)

-- where the scale passes the limit, so does the span
pub past_scale : (x : ℕ) (atoms : List Atom) → All IsWellFormed atoms → PastLimit (pos (scale_of x (map atom_of atoms))) → PastLimit (pos (own_span x (map atom_of atoms)))
past_scale x atoms w p =
    by_limit (pos (own_span x (map atom_of atoms)))
    (λ h _. let s = (span_limits x (map atom_of atoms) (all_in_integers atoms w) h).scale in absurd (omega arith))
    (λ h _. h)

pub span_is_positive : (x : ℕ) (atoms : List Atom) (s : ℤ) → All IsWellFormed atoms → s ≡ pos (own_span x (map atom_of atoms)) → pos 0 <ℤ s
span_is_positive x atoms s w e =
    let l = scale_of x (map atom_of atoms) in
    let h = span_positive l x (map atom_of atoms) (scale_positive x (map atom_of atoms)) (all_in_integers atoms w) (scale_reaches x l (map atom_of atoms) (divides_same (pos l))) in
    subst (λ (z : ℤ). pos 0 <ℤ z) (sym e) (omega (arith, ints))

pub on_map : {X E : Type 0} (r : Result X E) {P Q : Type 0} → (P → Q) → OnOk r P → OnOk r Q
on_map (Ok x) f p = f p
on_map (Err e) f p = tt

pub abs_within : (z : ℤ) → InLimit z → InLimit (pos (unsigned_abs z))
abs_within z h = h
