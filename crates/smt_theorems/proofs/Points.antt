-- Points at which the first names have given values, and formulas without free names, whose truth is that at the origin.
use Rattle.std.proofs.Common.{◌≡◌, ◌<◌, ◌*◌, ◌+◌, ◌↔◌, ℕ, zero, suc, unsigned_abs, Bool, true, false, List, [], ◌∷◌, length, Some, refl, ap, sym, ◌∙◌, arith, nat_eq, eqb-true, eq-eqb, if◌then◌else◌}
use Rattle.std.proofs.Math.IntN.{ℤ, pos, ◌*ℤ◌}
use Rattle.std.proofs.lemmas.Int.{ints}
use Rattle.std.specs.Prelude.{◌<ℤ◌, slice_get, option_map, unwrap_or}
use Rattle.exact_numbers.specs.Frac.{Frac}
use Rattle.exact_numbers.proofs.Ring.{ring}
use Rattle.logic_meaning.specs.Context.{Context, Fields, Integers, Allowed}
use Rattle.logic_meaning.specs.Point.{Point, Of, move}
use Rattle.formula_laws.specs.Points.{AgreeOn, finer}
use Rattle.logic_meaning.specs.Some.{EachOf}
use Rattle.logic_meaning.specs.Tree.{Tree, TrueAt, IsFree}
use Rattle.formula_laws.proofs.FreeNames.{tree_agrees}
use Rattle.formula_laws.proofs.Iff.{both_ways}
use Rattle.formula_laws.proofs.TreeFiner.{tree_finer}
use Rattle.formula_laws.proofs.Values.{pos_mul}
use Rattle.language_meaning.specs.Value.{NamedPoint}
use Rattle.language_meaning.specs.Resolving.{at_names}
use Rattle.logic_meaning.specs.Values.{with_value, with_values, IsValue, origin}
use Rattle.sample_reference.proofs.SamePoints.{abs_positive}
use Rattle.smt_language.specs.Levels.{level, levels, levels_from}
use Rattle.sample_reference.specs.Leading.{named_from}
use Rattle.program_meaning.specs.Checks.{HaveValues}

-- ---- values put in one after the other

-- the name has the value at the point
abbrev pub IsThere : ℕ → Frac → Point ℕ → Type 0
IsThere n v q = q.at n *ℤ v.denominator ≡ v.numerator *ℤ pos q.below

-- the names from one on have these values
abbrev pub AreThere : ℕ → List Frac → Point ℕ → Type 0
AreThere n [] q = Unit {0}
AreThere n (v ∷ vs) q = IsThere n v q × AreThere (suc n) vs q

longer : (m a d n b c : ℤ) → a *ℤ d ≡ n *ℤ b → c ≡ b *ℤ m → (m *ℤ a) *ℤ d ≡ n *ℤ c
longer m a d n b c e f =
    let g = ap (λ u. m *ℤ u) e in
    let h = ap (λ u. n *ℤ u) f in
    simp ring (omega (arith, ints, g, simp ring at h))

-- a name keeps its value where another is moved
stays : (n : ℕ) (v : Frac) (q : Point ℕ) (x : ℕ) (k : ℤ) (m : ℕ) → ¬ (x ≡ n) → IsThere n v q → IsThere n v (move nat_eq q x k m)
unfolding move
stays n v q x k m d h = go (nat_eq x n) refl
  where
    go : (b : Bool) → nat_eq x n ≡ b → (if b then k else pos m *ℤ q.at n) *ℤ v.denominator ≡ v.numerator *ℤ pos (q.below * m)
    go true e = absurd (d (eqb-true x n e))
    go false e = longer (pos m) (q.at n) v.denominator v.numerator (pos q.below) (pos (q.below * m)) h (pos_mul q.below m)

all_stay : (n m : ℕ) (v : Frac) (vs : List Frac) (q : Point ℕ) → n < m → IsThere n v q → IsThere n v (with_values q (named_from m vs))
all_stay n m v [] q l h = h
all_stay n m v (w ∷ ws) q l h = all_stay n (suc m) v ws _ (omega arith) (stays n v q m _ (unsigned_abs w.denominator) (λ e. omega arith) h)

turned : (n b d : ℤ) → (n *ℤ b) *ℤ d ≡ n *ℤ (b *ℤ d)
turned n b d = simp ring

begins : (n : ℕ) (v : Frac) (q : Point ℕ) → pos 0 <ℤ v.denominator → IsThere n v (with_value q (record { name = n; at = v }))
unfolding move
begins n v q h =
    let m = unsigned_abs v.denominator in
    ap (λ b. (if b then v.numerator *ℤ pos q.below else pos m *ℤ q.at n) *ℤ v.denominator) (eq-eqb n n refl)
    ∙ turned v.numerator (pos q.below) v.denominator
    ∙ ap (λ d. v.numerator *ℤ (pos q.below *ℤ d)) (sym (abs_positive v.denominator h))
    ∙ ap (λ b. v.numerator *ℤ b) (sym (pos_mul q.below m))

-- each name has the value that was put in
pub values_there : (c : Context) (n : ℕ) (vs : List Frac) (q : Point ℕ) → EachOf (IsValue c) (named_from n vs) → AreThere n vs (with_values q (named_from n vs))
values_there c n [] q h = tt
values_there c n (v ∷ vs) q h =
    let r : Point ℕ = with_value q (record { name = n; at = v }) in
    (all_stay n (suc n) v vs r (omega arith) (begins n v q h.0.proper), values_there c (suc n) vs r h.1)

-- ---- points of written formulas

-- the name of a level has the value of its number, and each other name 0
abbrev pub named_at : Point ℕ → List ℕ → ℤ
named_at q [] = pos 0
named_at q (n ∷ []) = q.at n
named_at q (m ∷ n ∷ ns) = pos 0

-- the point of these values
abbrev pub named_point : Point ℕ → NamedPoint
named_point q = record { at = named_at q; below = q.below }

-- the declared names have there the values of their numbers
pub have_values : (n : ℕ) (xs : List (List ℕ)) (vs : List Frac) (q : Point ℕ) → length vs ≡ length xs → AreThere n vs q → HaveValues n xs vs (named_point q)
have_values n [] [] q e h = tt
have_values n [] (v ∷ vs) q e h = absurd (omega arith)
have_values n (x ∷ xs) [] q e h = absurd (omega arith)
have_values n (x ∷ xs) (v ∷ vs) q e h = (h.0, have_values (suc n) xs vs q (omega arith) h.1)

slice_level : (k count i : ℕ) → i < count → slice_get (levels_from k count) i ≡ Some (level (k + i))
slice_level k zero i l = absurd (omega arith)
slice_level k (suc count) zero l = let e : k ≡ k + 0 = omega arith in ap (λ n. Some (level n)) e
slice_level k (suc count) (suc i) l = let e : suc k + i ≡ k + suc i = omega arith in slice_level (suc k) count i (omega arith) ∙ ap (λ n. Some (level n)) e

-- the numbers of levels have their values back
pub numbers_agree : (count : ℕ) (P : ℕ → Type 0) (q : Point ℕ) → ((y : ℕ) → P y → y < count) → AgreeOn P q (at_names (levels count) (named_point q))
numbers_agree count P q b = record { same_below = refl; same_at = λ y u. sym (ap (λ o. unwrap_or (option_map (named_at q) o) (pos 0)) (slice_level 0 count y (b y u)) ∙ zero_more y) }
  where
    zero_more : (y : ℕ) → q.at (0 + y) ≡ q.at y
    zero_more y = let e : 0 + y ≡ y = omega arith in ap q.at e

-- ---- formulas without free names

allowed_of : (c : Context) (q : Point ℕ) → Of c q → Allowed c q.below
allowed_of Fields q o = o
allowed_of Integers q o = o

below_finer : (m : ℕ) → (finer origin m).below ≡ m
unfolding finer
below_finer m = let e : 1 * m ≡ m = omega arith in e

-- it is true at each point of the theory where it is true at the origin
pub closed_truth : (c : Context) (t : Tree) → ((y : ℕ) → ¬ (IsFree t y)) → (q : Point ℕ) → Of c q → TrueAt c t origin ↔ TrueAt c t q
closed_truth c t closed q o =
    both_ways (tree_finer c t origin q.below (allowed_of c q o))
    (tree_agrees c t (finer origin q.below) q (record { same_below = below_finer q.below; same_at = λ y u. absurd (closed y u) }))
