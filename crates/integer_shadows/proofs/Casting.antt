-- The shadow of sides, and of atoms.
use Rattle.std.proofs.Common.{◌≡◌, ℕ, ◌↔◌, true, eqb, Vec, Global, vec_len, length, List, [], ◌∷◌, map, refl, sym, ap, ◌∙◌, subst, arith, unsigned_abs, nat_eq, ◌⊎◌, inl, inr, ⊎_elim}
use Rattle.std.proofs.Math.IntN.{ℤ, pos, neg_ℤ, ◌+ℤ◌, ◌-ℤ◌, ◌*ℤ◌}
use Rattle.std.specs.Prelude.{◌≤ℤ◌, ◌<ℤ◌, int_div}
use Rattle.std.proofs.lemmas.Bool.{eqb-true}
use Rattle.std.proofs.lemmas.Int.{ints}
use Rattle.exact_numbers.specs.Divides.{Divides, IsGcd}
use Rattle.exact_numbers.proofs.Ring.{ring}
use Rattle.exact_numbers.proofs.Order.{mul_not_negative, factor_positive}
use Rattle.exact_numbers.proofs.Divisibility.{divides_along, divides_trans, divides_neg, divides_mul, divides_other}
use Rattle.exact_numbers.proofs.Congruence.{solved}
use Rattle.exact_numbers.proofs.GreatestDivisor.{gcd_positive}
use Rattle.exact_numbers.proofs.LeastMultiple.{exact_div}
use Rattle.logic_meaning.specs.Context.{Integers}
use Rattle.logic_meaning.specs.Point.{Point, Of, move}
use Rattle.logic_meaning.specs.Form.{Form, value, coefficient, without}
use Rattle.logic_meaning.specs.Some.{EachOf, SomeOf, Among}
use Rattle.logic_meaning.specs.Atom.{Atom, Equals, Compare, Congruent, Says, Mentions, form_of}
use Rattle.formula_laws.proofs.Listed.{among_some}
use Rattle.normal_atoms.specs.Atoms.{atom_of}
use Rattle.case_theory.specs.PutThrough.{AreTrue}
use Rattle.shadow_theory.specs.declared.shadow.Shadow.{Shadow}
use Rattle.shadow_theory.specs.declared.shadow.Shadow.TheVariants.{Never, Atoms, Unknown}
use Rattle.shadow_theory.specs.Shadows.{HasValue, IsShadowOf}
use Rattle.integer_shadows.specs.declared.pairs.Paired.{Paired}
use Rattle.integer_shadows.specs.declared.sides.Bounds.{Bounds}
use Rattle.integer_shadows.specs.declared.sides.Sides.{Sides}
use Rattle.integer_shadows.specs.Told.{IsTold, IsTrueIn, HasNames, IsWellMade, IsWith, AreApart}
use Rattle.integer_shadows.specs.Forms.{IsOver, IsWithout}
use Rattle.integer_shadows.specs.Sides.{IsModulus, AreAtLeast, IsMet, AreMetWithValue, AreSides, AreSidesOf, IsShadowOfSides, IsConditioned}
use Rattle.integer_shadows.specs.Pairs.{GapsAreOpen, AllAreOpen, IsMoreByBounds, IsSettled}
use Rattle.integer_shadows.specs.Solving.{IsEquation, IsSolved}
use Rattle.integer_shadows.proofs.Moved.{moved, moved_of, line, gap_stays, shadow_stays, names_of, over_one}
use Rattle.integer_shadows.proofs.Between.{Greatest, greatest, meets_all}
use Rattle.integer_shadows.proofs.Beyond.{above_all, below_all}
use Rattle.integer_shadows.proofs.Equations.{rest_is}
use Rattle.integer_shadows.proofs.Binding.{says_divides, both_halves, empty_each}

-- a list whose length is tested to be 0
pub no_items : {X : Type 0} (v : Vec X Global) → vec_len v ≡ length v.items → true ≡ eqb (vec_len v) 0 → v.items ≡ []
no_items v e h = empty v.items (sym e ∙ eqb-true (vec_len v) 0 (sym h))
  where
    empty : {X : Type 0} (xs : List X) → length xs ≡ 0 → xs ≡ []
    empty [] i = refl
    empty (x ∷ xs) i = absurd (omega arith)

-- ---- the condition of a congruence

pub conditioned : (x : ℕ) (d : ℤ) (f r : Form) (old new : Shadow) → IsModulus d → IsWithout x f r → IsWith old new (Congruent true (unsigned_abs d) r) → IsConditioned x d f old new
conditioned x d f r old new hd w h = record {
  told = h.told;
  truth = λ t p o.
      let q = h.truth t p o in let k = says_divides d r p hd.0 o in let e = rest_is x f r w p in
      (λ y. let v = q.0 y in (v.0, divides_along e (k.0 v.1)), λ y. q.1 (y.0, k.1 (divides_along (sym e) y.1)));
  names = λ us n o. h.names x us n (names_of x us (Congruent true (unsigned_abs d) r) w.gone (over_one us f r w.others o));
  made = h.made;
}

module _ (n c g : ℤ) (hn : pos 0 <ℤ n) (gcd : IsGcd c n g) where
  pub divisor_positive : pos 0 <ℤ g
  divisor_positive = gcd_positive gcd (λ z. omega (arith, ints))

  divisor_exact : g *ℤ int_div n g ≡ n
  divisor_exact = let p = divisor_positive in exact_div g n (λ (z : g ≡ pos 0). omega (arith, ints)) gcd.right

  pub step_positive : pos 0 <ℤ int_div n g
  step_positive = let e = divisor_exact in factor_positive divisor_positive (subst (λ z. pos 0 <ℤ z) (sym e) hn)

  same_product : (a b m : ℤ) → (a *ℤ m) *ℤ b ≡ (a *ℤ b) *ℤ m
  same_product a b m = simp ring (omega (arith, ints))

  -- the step leads back into the class
  pub step_divides : Divides n (c *ℤ int_div n g)
  step_divides =
      let m = int_div n g in let d = gcd.left in
      record { quotient = d.quotient; exact = ap (λ z. z *ℤ m) d.exact ∙ sym (same_product g d.quotient m) ∙ ap (λ z. z *ℤ d.quotient) divisor_exact }

  pub class_has_member : (r : ℤ) → Divides g r → (k : ℤ) × Divides n (c *ℤ k +ℤ r)
  class_has_member r d =
      let s = solved gcd (divides_neg d) in
      let e : c *ℤ s.solution -ℤ neg_ℤ r ≡ c *ℤ s.solution +ℤ r = omega (arith, ints) in
      (s.solution, divides_along e s.same)

  pub member_is_in_class : (k r : ℤ) → Divides n (c *ℤ k +ℤ r) → Divides g r
  member_is_in_class k r d = divides_other (divides_mul k gcd.left) (divides_trans gcd.right d)

-- ---- sides

module _ (x : ℕ) (shadow : Shadow) (b : Bounds) (g : ℤ) (hm : IsModulus b.modulus) (gcd : IsGcd (coefficient x b.class) b.modulus g) where
  abbrev whole : Sides
  whole = record { shadow = shadow; bounds = b }

  abbrev rest : Point ℕ → ℤ
  rest p = value (without x b.class) p

  in_class : (p : Point ℕ) (k : ℤ) → Divides b.modulus (value b.class (moved x p k)) ↔ Divides b.modulus (coefficient x b.class *ℤ k +ℤ rest p)
  in_class p k = (divides_along (line x p k b.class), divides_along (sym (line x p k b.class)))

  -- where the sides are met with a value, the condition is true
  met_condition : (us : List Atom) (new : Shadow) → IsConditioned x g b.class shadow new → HasNames x us shadow → IsTold new → (p : Point ℕ) → Of Integers p → (k : ℤ) → IsMet whole (moved x p k) → IsTrueIn new p
  met_condition us new h names t p o k m =
      (h.truth t p o).1 (
        (shadow_stays x p k us shadow o names).0 m.shadow,
        member_is_in_class b.modulus (coefficient x b.class) g hm.0 gcd k (rest p) ((in_class p k).0 m.class),
      )

  -- ---- bounds on one side

  beyond_lower : (us : List Atom) → AreSides x us whole → b.upper.items ≡ [] → (p : Point ℕ) → Of Integers p → IsTrueIn shadow p → Divides g (rest p) → AreMetWithValue x whole p
  beyond_lower us s e p o t d =
      let k = class_has_member b.modulus (coefficient x b.class) g hm.0 gcd (rest p) d in
      let f = above_all x p b.modulus (coefficient x b.class) (rest p) (int_div b.modulus g) k.0 (step_positive b.modulus (coefficient x b.class) g hm.0 gcd) (step_divides b.modulus (coefficient x b.class) g hm.0 gcd) k.1
      b.lower.items b.differing.items (firsts b.lower.items s.lower) s.differing in (
        f.at,
        record {
          shadow = (shadow_stays x p f.at us shadow o s.names).1 t;
          class = (in_class p f.at).1 f.in_class;
          lower = f.meets;
          upper = empty_each _ b.upper.items e;
          differing = f.differs;
        },
      )
    where
      firsts : (ls : List Form) → EachOf (λ (f : Form). (pos 0 <ℤ coefficient x f) × IsOver us f) ls → EachOf (λ (f : Form). pos 0 <ℤ coefficient x f) ls
      firsts [] h = tt
      firsts (l ∷ ls) h = (h.0.0, firsts ls h.1)

  beyond_upper : (us : List Atom) → AreSides x us whole → b.lower.items ≡ [] → (p : Point ℕ) → Of Integers p → IsTrueIn shadow p → Divides g (rest p) → AreMetWithValue x whole p
  beyond_upper us s e p o t d =
      let k = class_has_member b.modulus (coefficient x b.class) g hm.0 gcd (rest p) d in
      let f = below_all x p b.modulus (coefficient x b.class) (rest p) (int_div b.modulus g) k.0 (step_positive b.modulus (coefficient x b.class) g hm.0 gcd) (step_divides b.modulus (coefficient x b.class) g hm.0 gcd) k.1
      b.upper.items b.differing.items (firsts b.upper.items s.upper) s.differing in (
        f.at,
        record {
          shadow = (shadow_stays x p f.at us shadow o s.names).1 t;
          class = (in_class p f.at).1 f.in_class;
          lower = empty_each _ b.lower.items e;
          upper = f.meets;
          differing = f.differs;
        },
      )
    where
      firsts : (ls : List Form) → EachOf (λ (f : Form). (coefficient x f <ℤ pos 0) × IsOver us f) ls → EachOf (λ (f : Form). coefficient x f <ℤ pos 0) ls
      firsts [] h = tt
      firsts (l ∷ ls) h = (h.0.0, firsts ls h.1)

  pub one_sided : (given : List Atom) (new : Shadow) → (b.lower.items ≡ []) ⊎ (b.upper.items ≡ []) → IsConditioned x g b.class shadow new → IsShadowOfSides x given whole new
  one_sided given new e h = record {
    told = h.told;
    truth = λ t us s p o gs. (
      λ y.
          let v = (h.truth t p o).0 y in
          ⊎_elim (λ i. beyond_upper us s i p o v.0 v.1) (λ i. beyond_lower us s i p o v.0 v.1) e,
      λ y. met_condition us new h s.names t p o y.0 y.1,
    );
    names = λ us s. h.names us s.names s.class;
    made = h.made;
  }

  -- ---- bounds on both sides

  open_gap : (a c l u : ℤ) → a <ℤ pos 0 → pos 0 <ℤ c → pos 0 ≤ℤ l → pos 0 ≤ℤ u → pos 0 ≤ℤ (neg_ℤ a *ℤ l +ℤ c *ℤ u)
  open_gap a c l u ha hc hl hu =
      let ka : pos 0 ≤ℤ neg_ℤ a = omega (arith, ints) in let kc : pos 0 ≤ℤ c = omega (arith, ints) in
      let one : pos 0 ≤ℤ (neg_ℤ a *ℤ l) = mul_not_negative ka hl in let two : pos 0 ≤ℤ (c *ℤ u) = mul_not_negative kc hu in
      omega (arith, ints)

  one_open : (us : List Atom) (p : Point ℕ) (k : ℤ) (l : Form) → pos 0 <ℤ coefficient x l → pos 0 ≤ℤ value l (moved x p k) → (vs : List Form) → EachOf (λ (f : Form). (coefficient x f <ℤ pos 0) × IsOver us f) vs →
      AreAtLeast vs (moved x p k) → GapsAreOpen x l vs p
  one_open us p k l hl al [] h a = tt
  one_open us p k l hl al (v ∷ vs) h a = (
    subst (λ z. pos 0 ≤ℤ z) (gap_stays x p k l v) (open_gap (coefficient x v) (coefficient x l) (value l (moved x p k)) (value v (moved x p k)) h.0.0 hl al a.0),
    one_open us p k l hl al vs h.1 a.1,
  )

  all_open : (us : List Atom) (p : Point ℕ) (k : ℤ) (ls vs : List Form) → EachOf (λ (f : Form). (pos 0 <ℤ coefficient x f) × IsOver us f) ls → EachOf (λ (f : Form). (coefficient x f <ℤ pos 0) × IsOver us f) vs →
      AreAtLeast ls (moved x p k) → AreAtLeast vs (moved x p k) → AllAreOpen x ls vs p
  all_open us p k [] vs hl hv al av = tt
  all_open us p k (l ∷ ls) vs hl hv al av = (one_open us p k l hl.0.0 al.0 vs hv av, all_open us p k ls vs hl.1 hv al.1 av)

  signs_of : (P Q : Form → Type 0) (ls : List Form) → EachOf (λ (f : Form). P f × Q f) ls → EachOf P ls
  signs_of P Q [] h = tt
  signs_of P Q (l ∷ ls) h = (h.0.0, signs_of P Q ls h.1)

  overs_of : (P Q : Form → Type 0) (ls : List Form) → EachOf (λ (f : Form). P f × Q f) ls → EachOf Q ls
  overs_of P Q [] h = tt
  overs_of P Q (l ∷ ls) h = (h.0.1, overs_of P Q ls h.1)

  greatest_of : (p : Point ℕ) (ls : List Form) → ¬ (ls ≡ []) → (k : ℤ) → EachOf (λ (f : Form). pos 0 <ℤ coefficient x f) ls → Divides b.modulus (coefficient x b.class *ℤ k +ℤ rest p) →
      Greatest x p b.modulus (coefficient x b.class) (rest p) (int_div b.modulus g) (step_positive b.modulus (coefficient x b.class) g hm.0 gcd) (step_divides b.modulus (coefficient x b.class) g hm.0 gcd) ls
  greatest_of p [] e k hs h = absurd (e refl)
  greatest_of p (l ∷ ls) e k hs h = greatest x p b.modulus (coefficient x b.class) (rest p) (int_div b.modulus g) (step_positive b.modulus (coefficient x b.class) g hm.0 gcd) (step_divides b.modulus (coefficient x b.class) g hm.0 gcd) l ls k hs h

  from_told : (Q : Shadow → Type 0) (s : Shadow) → Q Unknown → (IsTold s → Q s) → Q s
  from_told Q Never u f = f tt
  from_told Q (Atoms vs) u f = f tt
  from_told Q Unknown u f = u

  pub two_sided : (given : List Atom) (start pairs : Paired) (new : Shadow) → b.differing.items ≡ [] → ¬ (b.lower.items ≡ []) → IsConditioned x g b.class shadow start.shadow →
      IsMoreByBounds x (int_div b.modulus g) b.lower.items b.upper.items start pairs → IsSettled given (map atom_of pairs.needs.items) pairs.shadow new → IsShadowOfSides x given whole new
  two_sided given start pairs new none some h m s =
      let same : (t : IsTold new) → IsTold pairs.shadow = λ t. subst IsTold (s.same t) t in
      record {
        told = λ t. h.told (m.told (same t));
        truth = λ t us a p o gs. (
          λ y.
              let z = subst (λ w. IsTrueIn w p) (s.same t) y in
              let suffice = (m.needed (same t) p o z (s.needs t p o gs y)).1 in
              let v = (m.truth (same t) p o).0 z in
              let w = (h.truth (m.told (same t)) p o).0 v.0 in
              let k = class_has_member b.modulus (coefficient x b.class) g hm.0 gcd (rest p) w.1 in
              let f = greatest_of p b.lower.items some k.0 (signs_of (λ (f : Form). pos 0 <ℤ coefficient x f) (λ (f : Form). IsOver us f) b.lower.items a.lower) k.1 in (
                f.at,
                record {
                  shadow = (shadow_stays x p f.at us shadow o a.names).1 w.0;
                  class = (in_class p f.at).1 f.in_class;
                  lower = f.meets;
                  upper = meets_all x p b.modulus (coefficient x b.class) (rest p) (int_div b.modulus g) (step_positive b.modulus (coefficient x b.class) g hm.0 gcd) (step_divides b.modulus (coefficient x b.class) g hm.0 gcd)
                      b.lower.items b.upper.items f.at (signs_of (λ (f : Form). pos 0 <ℤ coefficient x f) (λ (f : Form). IsOver us f) b.lower.items a.lower) (signs_of (λ (f : Form). coefficient x f <ℤ pos 0) (λ (f : Form). IsOver us f) b.upper.items a.upper) f.tight suffice;
                  differing = empty_each _ b.differing.items none;
                },
              ),
          λ y.
              let c = met_condition us start.shadow h a.names (m.told (same t)) p o y.0 y.1 in
              let z = (m.truth (same t) p o).1 (c, all_open us p y.0 b.lower.items b.upper.items a.lower a.upper y.1.lower y.1.upper) in
              subst (λ w. IsTrueIn w p) (sym (s.same t)) z,
        );
        names = λ us a. from_told (HasNames x us) new tt (λ t. subst (HasNames x us) (sym (s.same t)) (m.names us (h.names us a.names a.class) (overs_of (λ (f : Form). pos 0 <ℤ coefficient x f) (λ (f : Form). IsOver us f) b.lower.items a.lower, overs_of (λ (f : Form). coefficient x f <ℤ pos 0) (λ (f : Form). IsOver us f) b.upper.items a.upper)));
        made = λ w. from_told IsWellMade new tt (λ t. subst IsWellMade (sym (s.same t)) (m.made (h.made w)));
      }

-- ---- atoms

shadow_of : (given : List Atom) (x : ℕ) (us : List Atom) (s : Shadow) → (IsTold s → (p : Point ℕ) → Of Integers p → AreTrue given p → IsTrueIn s p ↔ HasValue Integers x us p) → HasNames x us s → IsWellMade s → IsShadowOf Integers given x us s
shadow_of given x us Never e n m = λ p o g h. (e tt p o g).1 h
shadow_of given x us (Atoms vs) e n m = record { is = record { exact = e tt; names = n; normal = m.0 }; well_formed = m.1 }
shadow_of given x us Unknown e n m = tt

pub of_sides : (given : List Atom) (x : ℕ) (us : List Atom) (s : Sides) (new : Shadow) → AreSidesOf x us s → IsShadowOfSides x given s new → IsShadowOf Integers given x us new
of_sides given x us s new a h = shadow_of given x us new
    (λ t p o g.
    let r = h.truth t us a.sides p o g in (
      λ y. let k = r.0 y in (k.0, 1, refl, (a.truth (h.told t) (moved x p k.0) (moved_of x p k.0 o)).0 k.1),
      λ y. r.1 (y.0, (a.truth (h.told t) (moved x p y.0) (moved_of x p y.0 o)).1 (subst (λ m. AreTrue us (move nat_eq p x y.0 m)) y.2 y.3)),
    ))
    (h.names us a.sides) (h.made a.sides.made)

all_over : (us : List Atom) → EachOf (λ (u : Atom). IsOver us (form_of u)) us
all_over us = go us us (λ P h. h)
  where
    go : (us vs : List Atom) → ((P : Atom → Type 0) → SomeOf P vs → SomeOf P us) → EachOf (λ (u : Atom). IsOver us (form_of u)) vs
    go us [] f = tt
    go us (v ∷ vs) f = (λ y n. f (λ (u : Atom). Mentions u y) (inl n), go us vs (λ P h. f P (inr h)))

true_at : (us : List Atom) (a : Atom) (p : Point ℕ) → Among us a → AreTrue us p → Says a p
true_at [] a p i t = absurd i
true_at (u ∷ us) a p (inl e) t = subst (λ v. Says v p) e t.0
true_at (u ∷ us) a p (inr i) t = true_at us a p i t.1

pub of_equation : (given : List Atom) (x : ℕ) (us : List Atom) (e : Form) (shadow new : Shadow) → IsEquation x us e → AreApart x us shadow → IsSolved x e us shadow new → IsShadowOf Integers given x us new
of_equation given x us e shadow new q a s =
    let over : IsOver us e = λ y n. among_some (λ (u : Atom). Mentions u y) us (Compare Equals e) q.among n in
    let names = s.names us a.names over (all_over us) in
    shadow_of given x us new
    (λ t p o g. (
      λ y.
          let k = s.solvable t p o y in
          let r = moved x p k.0 in let or = moved_of x p k.0 o in
          let v = (s.truth t r or k.1).0 ((shadow_stays x p k.0 us new o names).1 y) in
          (k.0, 1, refl, (both_halves x us r).0 ((a.truth r).0 v.0, v.1)),
      λ y.
          let k = y.0 in
          let r = moved x p k in let or = moved_of x p k o in
          let true_there = subst (λ m. AreTrue us (move nat_eq p x k m)) y.2 y.3 in
          let z = true_at us (Compare Equals e) r q.among true_there in
          let v = (both_halves x us r).1 true_there in
          (shadow_stays x p k us new o names).0 ((s.truth t r or z).1 ((a.truth r).1 v.0, v.1)),
    ))
    names (s.made a.made)
