-- Test points of one name are equal exactly where their places are the same.
use Rattle.std.proofs.Common.{◌≡◌, ℕ, Bool, true, false, ◌&&◌, nat_eq, [], refl, sym, ap, ◌∙◌, subst, rules, arith, eqb-true, eq-eqb, unsigned_abs}
use Rattle.std.proofs.Math.IntN.{ℤ, pos, negsuc}
use Rattle.std.specs.Prelude.{◌<ℤ◌}
use Rattle.std.specs.Ordering.{int_eq}
use Rattle.std.specs.Cmp.{signed_Decides}
use Rattle.std.proofs.lemmas.Int.{ints}
use Rattle.logic_meaning.specs.Form.{Form}
use Rattle.logic_meaning.specs.Answer as meaning
use Rattle.formula_laws.proofs.Same.{and_left, and_right, both_true, place_same, place_alike}
use Rattle.linear_forms.specs.Equality.{form_eq, form_decides}
use Rattle.logic_meaning.specs.declared.form.VarId.{VarId}
use Rattle.test_points.specs.declared.points.TestPoint.{TestPoint}
use Rattle.test_points.specs.declared.points.Place.{Place}
use Rattle.test_points.specs.declared.points.Place.TheVariants.{Exact, AboveBy, BelowBy, MinusInfinity, PlusInfinity, Periodic}
use Rattle.test_points.specs.contracts.points.TestPointPartialEq.TheImpl.{eq-value}
use Rattle.test_points.specs.contracts.points.PlacePartialEq.TheImpl as places
use Rattle.test_points.specs.Points.{place_at, place_of, IsShaped, IsPointOf}

-- equality of test points, as the program computes it
abbrev pub point_eq : TestPoint → TestPoint → Bool
point_eq a b = (eq-value).it a b

place_true : (a b : Place) → (places.eq-value).it a b ≡ true → a ≡ b
place_true a b h = search rules

place_alike' : (a : Place) → (places.eq-value).it a a ≡ true
place_alike' Exact = refl
place_alike' AboveBy = refl
place_alike' BelowBy = refl
place_alike' MinusInfinity = refl
place_alike' PlusInfinity = refl
place_alike' Periodic = refl

by_fields : (a b : TestPoint) → a.name.number ≡ b.name.number → a.place ≡ b.place → a.form ≡ b.form → a.over ≡ b.over → a.period ≡ b.period → a ≡ b
by_fields a b n p f o q = λ i. record { name = record { number = n i }; place = p i; form = f i; over = o i; period = q i }

pub point_true : (a b : TestPoint) → point_eq a b ≡ true → a ≡ b
point_true a b h =
    let n = nat_eq a.name.number b.name.number in
    let p = (places.eq-value).it a.place b.place in
    let f = form_eq a.form b.form in
    let o = int_eq a.over b.over in
    let q = int_eq a.period b.period in
    let h1 = and_right n (p && (f && (o && q))) h in
    let h2 = and_right p (f && (o && q)) h1 in
    let h3 = and_right f (o && q) h2 in
    by_fields a b (eqb-true a.name.number b.name.number (and_left n (p && (f && (o && q))) h)) (place_true a.place b.place (and_left p (f && (o && q)) h1))
    ((form_decides a.form b.form).0 (and_left f (o && q) h2)) ((signed_Decides a.over b.over).0 (and_left o q h3)) ((signed_Decides a.period b.period).0 (and_right o q h3))

pub point_alike : (a : TestPoint) → point_eq a a ≡ true
point_alike a =
    let p = (places.eq-value).it a.place a.place in
    let f = form_eq a.form a.form in
    let o = int_eq a.over a.over in
    let q = int_eq a.period a.period in
    both_true (nat_eq a.name.number a.name.number) (p && (f && (o && q))) (eq-eqb a.name.number a.name.number refl)
    (both_true p (f && (o && q)) (place_alike' a.place) (both_true f (o && q) ((form_decides a.form a.form).1 refl) (both_true o q ((signed_Decides a.over a.over).1 refl) ((signed_Decides a.period a.period).1 refl))))

natural_same : (a b : ℤ) → pos 0 <ℤ a → pos 0 <ℤ b → unsigned_abs a ≡ unsigned_abs b → a ≡ b
natural_same (pos a) (pos b) h k e = ap pos e
natural_same (negsuc a) b h k e = absurd (omega (arith, ints))
natural_same (pos a) (negsuc b) h k e = absurd (omega (arith, ints))

-- ---- the parts of a place

form_in : meaning.Place → Form → Form
form_in (meaning.Exact e d) f = e
form_in (meaning.AboveBy e d) f = e
form_in (meaning.BelowBy e d) f = e
form_in s f = f

over_in : meaning.Place → ℕ → ℕ
over_in (meaning.Exact e d) c = d
over_in (meaning.AboveBy e d) c = d
over_in (meaning.BelowBy e d) c = d
over_in s c = c

constant_in : meaning.Place → ℤ → ℤ
constant_in (meaning.Periodic a q) k = a
constant_in s k = k

period_in : meaning.Place → ℤ → ℤ
period_in (meaning.Periodic a q) k = q
period_in s k = k

kind_in : meaning.Place → Place
kind_in (meaning.Exact e d) = Exact
kind_in (meaning.AboveBy e d) = AboveBy
kind_in (meaning.BelowBy e d) = BelowBy
kind_in meaning.MinusInfinity = MinusInfinity
kind_in meaning.PlusInfinity = PlusInfinity
kind_in (meaning.Periodic a q) = Periodic

kind_of : (p : Place) (e : Form) (d : ℕ) (q : ℤ) → kind_in (place_at p e d q) ≡ p
unfolding kind_in
kind_of Exact e d q = refl
kind_of AboveBy e d q = refl
kind_of BelowBy e d q = refl
kind_of MinusInfinity e d q = refl
kind_of PlusInfinity e d q = refl
kind_of Periodic e d q = refl

-- the numbers of a place and what does not belong to it are all the fields
record SameFields (e f : Form) (c d : ℕ) (q r : ℤ) : Type 0 where
  form : e ≡ f
  over : c ≡ d
  period : q ≡ r

constant_form : (e f : Form) → e.terms ≡ [] → f.terms ≡ [] → e.constant ≡ f.constant → e ≡ f
constant_form e f h k c = let t = h ∙ sym k in λ i. record { terms = t i; constant = c i }

same_fields : (p : Place) (e f : Form) (c d : ℤ) (q r : ℤ) → IsShaped p e c q → IsShaped p f d r → place_at p e (unsigned_abs c) q ≡ place_at p f (unsigned_abs d) r → SameFields e f (unsigned_abs c) (unsigned_abs d) q r
unfolding form_in over_in constant_in period_in
same_fields Exact e f c d q r s t h = record { form = ap (λ x. form_in x e) h; over = ap (λ x. over_in x 0) h; period = s ∙ sym t }
same_fields AboveBy e f c d q r s t h = record { form = ap (λ x. form_in x e) h; over = ap (λ x. over_in x 0) h; period = s ∙ sym t }
same_fields BelowBy e f c d q r s t h = record { form = ap (λ x. form_in x e) h; over = ap (λ x. over_in x 0) h; period = s ∙ sym t }
same_fields MinusInfinity e f c d q r s t h = record { form = s.0 ∙ sym t.0; over = ap unsigned_abs (s.1 ∙ sym t.1); period = s.2 ∙ sym t.2 }
same_fields PlusInfinity e f c d q r s t h = record { form = s.0 ∙ sym t.0; over = ap unsigned_abs (s.1 ∙ sym t.1); period = s.2 ∙ sym t.2 }
same_fields Periodic e f c d q r s t h =
    record { form = constant_form e f s.0 t.0 (ap (λ x. constant_in x (pos 0)) h); over = ap unsigned_abs (s.1 ∙ sym t.1); period = ap (λ x. period_in x (pos 0)) h }

-- a place determines the test point of a name
pub place_determines : (x : VarId) (a b : TestPoint) → IsPointOf x a → IsPointOf x b → place_of a ≡ place_of b → a ≡ b
place_determines x a b h k e =
    let p : a.place ≡ b.place = sym (kind_of a.place a.form (unsigned_abs a.over) a.period) ∙ ap kind_in e ∙ kind_of b.place b.form (unsigned_abs b.over) b.period in
    let s : IsShaped b.place a.form a.over a.period = subst (λ (p : Place). IsShaped p a.form a.over a.period) p h.well_formed.shaped in
    let i : place_at b.place a.form (unsigned_abs a.over) a.period ≡ place_of b = subst (λ (p : Place). place_at p a.form (unsigned_abs a.over) a.period ≡ place_of b) p e in
    let f = same_fields b.place a.form b.form a.over b.over a.period b.period s k.well_formed.shaped i in
    by_fields a b (ap (λ (v : VarId). v.number) (h.name ∙ sym k.name)) p f.form (natural_same a.over b.over h.well_formed.positive k.well_formed.positive f.over) f.period

true_together : (a b : Bool) → (a ≡ true → b ≡ true) → (b ≡ true → a ≡ true) → a ≡ b
true_together true b h k = sym (h refl)
true_together false true h k = k refl
true_together false false h k = refl

pub points_agree : (x : VarId) (new old : TestPoint) → IsPointOf x new → IsPointOf x old → point_eq new old ≡ meaning.same_place (place_of old) (place_of new)
points_agree x new old h k =
    true_together (point_eq new old) (meaning.same_place (place_of old) (place_of new))
    (λ e. subst (λ (t : TestPoint). meaning.same_place (place_of t) (place_of new) ≡ true) (point_true new old e) (place_alike (place_of new)))
    (λ e. let i = place_determines x old new k h (place_same (place_of old) (place_of new) e) in subst (λ (t : TestPoint). point_eq new t ≡ true) (sym i) (point_alike new))
