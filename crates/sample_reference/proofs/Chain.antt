-- The calculated values, one after the other, make the first formula true.
use Rattle.std.proofs.Common.{◌≡◌, ℕ, ◌*◌, Bool, true, false, List, [], ◌∷◌, ◌++◌, Some, ◌⊎◌, inl, inr, ◌↔◌, refl, sym, ap, ◌∙◌, subst, arith, nat_eq, if◌then◌else◌, unsigned_abs, append_assoc, append-nil, eq-eqb}
use Rattle.std.proofs.Math.IntN.{ℤ, pos, ◌*ℤ◌}
use Rattle.std.specs.Prelude.{◌<ℤ◌}
use Rattle.std.proofs.lemmas.Int.{ints}
use Rattle.exact_numbers.specs.Frac.{Frac}
use Rattle.exact_numbers.proofs.Ring.{ring, one_mul}
use Rattle.exact_numbers.proofs.Order.{cancel_positive}
use Rattle.logic_meaning.specs.Context.{Context, Fields, Integers, Allowed}
use Rattle.logic_meaning.specs.Point.{Point, Of, move}
use Rattle.formula_laws.specs.Points.{finer, AgreeOn}
use Rattle.logic_meaning.specs.Some.{EachOf}
use Rattle.logic_meaning.specs.Shape.{is_in}
use Rattle.logic_meaning.specs.Tree.{Tree, TrueAt, IsFree}
use Rattle.formula_laws.proofs.FreeNames.{tree_agrees}
use Rattle.formula_laws.proofs.TreeFiner.{tree_finer, tree_same_point, allowed_positive}
use Rattle.formula_laws.proofs.TreeReplacing.{moved_of}
use Rattle.formula_laws.proofs.Values.{pos_mul}
use Rattle.logic_meaning.specs.Answers.{Step}
use Rattle.elimination_theory.specs.AnswersTheorems.{Lead, Makes}
use Rattle.elimination_theory.proofs.SomeListed.{each_append}
use Rattle.elimination_theory.proofs.Branches.{step_names}
use Rattle.elimination_theory.proofs.PutIn.{turn_equal, not_both}
use Rattle.logic_meaning.specs.Values.{Value, value_names, with_value, with_values, IsValue, common_denominator, point_over, origin}
use Rattle.logic_meaning.specs.Calculated.{step_value, values_from, place_value}
use Rattle.sample_reference.proofs.SamePoints.{some_same, some_then, IsCommon, common_is, common_one, abs_above, same_point, moved_same, value_allowed, values_of_theory}
use Rattle.sample_reference.proofs.OneValue.{one_value, turn_differ}

pub origin_of : (c : Context) → Of c origin
origin_of Fields = omega arith
origin_of Integers = refl

pub with_append : (xs ys : List Value) (p : Point ℕ) → with_values p (xs ++ ys) ≡ with_values (with_values p xs) ys
with_append [] ys p = refl
with_append (x ∷ xs) ys p = with_append xs ys (with_value p x)

names_append : (xs ys : List Value) → value_names (xs ++ ys) ≡ value_names xs ++ value_names ys
names_append [] ys = refl
names_append (x ∷ xs) ys = ap (λ ns. x.name ∷ ns) (names_append xs ys)

pub over_of : (c : Context) (found : List Value) (d : ℤ) → EachOf (IsValue c) found → common_denominator found ≡ Some d → IsCommon d found → Of c (point_over d found)
over_of Fields found d h e k = abs_above d k.positive
over_of Integers found d h e k = ap unsigned_abs (common_one found d h e)

-- the values make the formula true, and are those found before and of the steps
pub record AreFound (c : Context) (f : Tree) (steps : List Step) (found values : List Value) : Type 0 where
  pub each : EachOf (IsValue c) values
  pub names : value_names values ≡ value_names found ++ step_names steps
  pub matrix : TrueAt c f (with_values origin values)

-- a formula is true at the values exactly where it is at the values over one denominator
pub true_over : (c : Context) (f : Tree) (found : List Value) (d : ℤ) → EachOf (IsValue c) found → common_denominator found ≡ Some d → TrueAt c f (with_values origin found) ↔ TrueAt c f (point_over d found)
true_over c f found d h e =
    let k = common_is c found d h e in
    tree_same_point c f (with_values origin found) (point_over d found) (values_of_theory c found origin h (origin_of c)) (over_of c found d h e k) (same_point c found d h k)

-- one value more
pub true_more : (c : Context) (f : Tree) (found : List Value) (d : ℤ) (v : Value) → EachOf (IsValue c) found → common_denominator found ≡ Some d → IsValue c v → TrueAt c f (with_value (point_over d found) v) →
    TrueAt c f (with_values origin (found ++ (v ∷ [])))
true_more c f found d v h e is t =
    let k = common_is c found d h e in
    let q = with_values origin found in
    let l = point_over d found in
    let oq = values_of_theory c found origin h (origin_of c) in
    let ol = over_of c found d h e k in
    let m = unsigned_abs v.at.denominator in
    let a = value_allowed c v is in
    subst (TrueAt c f) (sym (with_append found (v ∷ []) origin))
    ((tree_same_point c f (with_value q v) (with_value l v) (moved_of c q v.name (v.at.numerator *ℤ pos q.below) m oq a) (moved_of c l v.name (v.at.numerator *ℤ pos l.below) m ol a) (moved_same q l v.name v.at.numerator m (same_point c found d h k))).1 t)

-- the value of one step, after those found before it
one_found : (c : Context) (s : Step) (g : Tree) (found : List Value) (d : ℤ) (r : Frac) → Makes c s g → EachOf (IsValue c) found → TrueAt c g (with_values origin found) → common_denominator found ≡ Some d →
    place_value c s.name s.place s.branch (point_over d found) ≡ Some r → IsValue c (record { name = s.name; at = r }) × TrueAt c s.branch (with_values origin (found ++ (record { name = s.name; at = r } ∷ [])))
one_found c s g found d r made h t e y =
    let one = one_value c s g (point_over d found) r (over_of c found d h e (common_is c found d h e)) made ((true_over c g found d h e).0 t) y in
    (one.0, true_more c s.branch found d (record { name = s.name; at = r }) h e one.0 one.1)

pub values_true : (c : Context) (steps : List Step) (f g : Tree) (found values : List Value) → Lead c steps f g → EachOf (IsValue c) found → TrueAt c g (with_values origin found) →
    values_from c steps found ≡ Some values → AreFound c f steps found values
values_true c [] f g found values l h t e =
    let same = some_same found values e in
    record {
      each = subst (EachOf (IsValue c)) same h;
      names = sym (ap value_names same) ∙ sym (append-nil (value_names found));
      matrix = subst (λ vs. TrueAt c f (with_values origin vs)) same ((l (with_values origin found) (values_of_theory c found origin h (origin_of c))).1 t);
    }
values_true c (s ∷ rest) f g found values l h t e =
    some_then (step_value c s found) _ values e (λ r u y.
    some_then (common_denominator found) _ r u (λ d w z.
    let one = one_found c s g found d r l.1 h t w z in
    let v : Value = record { name = s.name; at = r } in
    let i = values_true c rest f s.branch (found ++ (v ∷ [])) values l.0 (each_append (IsValue c) found (v ∷ []) h (one.0, tt)) one.1 y in
    record {
      each = i.each;
      names = i.names ∙ ap (λ ns. ns ++ step_names rest) (names_append found (v ∷ [])) ∙ append_assoc (value_names found) (s.name ∷ []) (step_names rest);
      matrix = i.matrix;
    }))

-- ---- values put into another point

cancel_move : (s t : ℤ) (b d m : ℕ) → pos 0 <ℤ pos m → s *ℤ pos (b * m) ≡ (pos m *ℤ t) *ℤ pos d → s *ℤ pos b ≡ t *ℤ pos d
cancel_move s t b d m h e =
    let k : s *ℤ (pos b *ℤ pos m) ≡ (pos m *ℤ t) *ℤ pos d = sym (ap (λ z. s *ℤ z) (pos_mul b m)) ∙ e in
    let k = simp ring at k in
    let g : pos m *ℤ (s *ℤ pos b) ≡ pos m *ℤ (t *ℤ pos d) = simp ring (omega (arith, ints, k)) in
    cancel_positive (pos m) h g

one_stays : (c : Context) (p q : Point ℕ) (x y : ℕ) (k : ℤ) (m : ℕ) → pos 0 <ℤ pos m → nat_eq x y ≡ false → q.at y *ℤ pos (move nat_eq p x k m).below ≡ (move nat_eq p x k m).at y *ℤ pos q.below → q.at y *ℤ pos p.below ≡ p.at y *ℤ pos q.below
unfolding move
one_stays c p q x y k m h n e =
    cancel_move (q.at y) (p.at y) p.below q.below m h (e ∙ ap (λ (b : Bool). (if b then k else pos m *ℤ p.at y) *ℤ pos q.below) n)

not_first : (x y : ℕ) (names : List ℕ) → is_in nat_eq y (x ∷ names) ≡ false → (nat_eq y x ≡ false) × (is_in nat_eq y names ≡ false)
not_first x y names = go (nat_eq y x) refl
  where
    go : (b : Bool) → nat_eq y x ≡ b → (if b then true else is_in nat_eq y names) ≡ false → (nat_eq y x ≡ false) × (is_in nat_eq y names ≡ false)
    go true e h = absurd (not_both true refl h)
    go false e h = (e, h)

-- other names keep their values
pub others_stay : (c : Context) (vs : List Value) (p : Point ℕ) → EachOf (IsValue c) vs → (y : ℕ) → is_in nat_eq y (value_names vs) ≡ false → (with_values p vs).at y *ℤ pos p.below ≡ p.at y *ℤ pos (with_values p vs).below
others_stay c [] p h y e = refl
others_stay c (v ∷ vs) p h y e =
    let l = not_first v.name y (value_names vs) e in
    one_stays c p (with_values (with_value p v) vs) v.name y _ (unsigned_abs v.at.denominator) (allowed_positive c (unsigned_abs v.at.denominator) (value_allowed c v h.0)) (turn_differ y v.name l.0) (others_stay c vs (with_value p v) h.1 y l.1)

-- p has the values of q over a denominator n times as large
record Times (n : ℕ) (q p : Point ℕ) (y : ℕ) : Type 0 where
  below : pos p.below ≡ pos q.below *ℤ pos n
  at : p.at y ≡ pos n *ℤ q.at y

swapped : (a b d : ℤ) → (a *ℤ b) *ℤ d ≡ (a *ℤ d) *ℤ b
swapped a b d = simp ring

times_here : (k b n : ℤ) → k *ℤ (b *ℤ n) ≡ n *ℤ (k *ℤ b)
times_here k b n = simp ring

times_there : (m n a : ℤ) → m *ℤ (n *ℤ a) ≡ n *ℤ (m *ℤ a)
times_there m n a = simp ring

times_value : (n : ℕ) (q p : Point ℕ) (v : Value) (y : ℕ) → pos p.below ≡ pos q.below *ℤ pos n → (nat_eq v.name y ≡ true) ⊎ (p.at y ≡ pos n *ℤ q.at y) → Times n (with_value q v) (with_value p v) y
unfolding move
times_value n q p v y e h = record { below = belows; at = go (nat_eq v.name y) refl h }
  where
    belows : pos (p.below * unsigned_abs v.at.denominator) ≡ pos (q.below * unsigned_abs v.at.denominator) *ℤ pos n
    belows =
        pos_mul p.below (unsigned_abs v.at.denominator) ∙ ap (λ z. z *ℤ pos (unsigned_abs v.at.denominator)) e ∙ swapped (pos q.below) (pos n) (pos (unsigned_abs v.at.denominator)) ∙ ap (λ z. z *ℤ pos n) (sym (pos_mul q.below (unsigned_abs v.at.denominator)))

    go : (b : Bool) → nat_eq v.name y ≡ b → (nat_eq v.name y ≡ true) ⊎ (p.at y ≡ pos n *ℤ q.at y) →
        (if b then v.at.numerator *ℤ pos p.below else pos (unsigned_abs v.at.denominator) *ℤ p.at y) ≡ pos n *ℤ (if b then v.at.numerator *ℤ pos q.below else pos (unsigned_abs v.at.denominator) *ℤ q.at y)
    go true d k = ap (λ z. v.at.numerator *ℤ z) e ∙ times_here v.at.numerator (pos q.below) (pos n)
    go false d (inl is) = absurd (not_both (nat_eq v.name y) is d)
    go false d (inr same) = ap (λ z. pos (unsigned_abs v.at.denominator) *ℤ z) same ∙ times_there (pos (unsigned_abs v.at.denominator)) (pos n) (q.at y)

-- so it is at each name that has a value
times_values : (n : ℕ) (vs : List Value) (q p : Point ℕ) (y : ℕ) → pos p.below ≡ pos q.below *ℤ pos n → (is_in nat_eq y (value_names vs) ≡ true) ⊎ (p.at y ≡ pos n *ℤ q.at y) → Times n (with_values q vs) (with_values p vs) y
times_values n [] q p y e (inl h) = absurd (not_true h)
  where
    not_true : ¬ (false ≡ true)
    not_true g = cc
times_values n [] q p y e (inr h) = record { below = e; at = h }
times_values n (v ∷ vs) q p y e h = go (nat_eq y v.name) refl h (λ k. times_values n vs (with_value q v) (with_value p v) y (below_too (times_value n q p v v.name e (inl (same_name v.name)))) k)
  where
    same_name : (x : ℕ) → nat_eq x x ≡ true
    same_name x = eq-eqb x x refl

    below_too : {z : ℕ} → Times n (with_value q v) (with_value p v) z → pos (with_value p v).below ≡ pos (with_value q v).below *ℤ pos n
    below_too t = t.below

    go : (b : Bool) → nat_eq y v.name ≡ b → ((if b then true else is_in nat_eq y (value_names vs)) ≡ true) ⊎ (p.at y ≡ pos n *ℤ q.at y) →
        ((is_in nat_eq y (value_names vs) ≡ true) ⊎ ((with_value p v).at y ≡ pos n *ℤ (with_value q v).at y) → Times n (with_values (with_value q v) vs) (with_values (with_value p v) vs) y) →
        Times n (with_values (with_value q v) vs) (with_values (with_value p v) vs) y
    go true d h k = k (inr (times_value n q p v y e (inl (turn_equal y v.name d))).at)
    go false d (inl i) k = k (inl i)
    go false d (inr s) k = k (inr (times_value n q p v y e (inr s)).at)

below_values : (n : ℕ) (vs : List Value) (q p : Point ℕ) → pos p.below ≡ pos q.below *ℤ pos n → pos (with_values p vs).below ≡ pos (with_values q vs).below *ℤ pos n
below_values n [] q p e = e
below_values n (v ∷ vs) q p e = below_values n vs (with_value q v) (with_value p v) (times_value n q p v v.name e (inl (eq-eqb v.name v.name refl))).below

same_number : (a b n : ℕ) → pos a ≡ pos b *ℤ pos n → b * n ≡ a
same_number a b n e = let m = pos_mul b n in omega (arith, ints)

agrees : (f : Tree) (n : ℕ) (q r : Point ℕ) → pos r.below ≡ pos q.below *ℤ pos n → ((y : ℕ) → IsFree f y → Times n q r y) → AgreeOn (IsFree f) (finer q n) r
unfolding finer
agrees f n q r e h = record { same_below = same_number r.below q.below n e; same_at = λ y i. sym (h y i).at }

-- a formula whose free names all have values is true with them at each point, or at none
pub values_anywhere : (c : Context) (f : Tree) (vs : List Value) (p : Point ℕ) → Of c p → ((y : ℕ) → IsFree f y → is_in nat_eq y (value_names vs) ≡ true) →
    TrueAt c f (with_values origin vs) → TrueAt c f (with_values p vs)
values_anywhere c f vs p o free t =
    let q = with_values origin vs in
    let e : pos p.below ≡ pos 1 *ℤ pos p.below = sym (one_mul (pos p.below)) in
    (tree_agrees c f (finer q p.below) (with_values p vs) (agrees f p.below q (with_values p vs) (below_values p.below vs origin p e) (λ y i. times_values p.below vs origin p y e (inl (free y i))))).0
    ((tree_finer c f q p.below (allowed c p o)).0 t)
  where
    allowed : (k : Context) (r : Point ℕ) → Of k r → Allowed k r.below
    allowed Fields r u = u
    allowed Integers r u = u
