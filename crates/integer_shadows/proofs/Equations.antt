-- An equation that has the name, and the other atoms where it holds.
use Rattle.std.proofs.Common.{◌≡◌, ℕ, suc, ◌+◌, ◌<◌, ◌≤◌, ◌↔◌, Bool, true, Bor, Option, Some, None, IfSome, IsSomeAnd, List, [], ◌∷◌, map, take, length, get_or, refl, sym, ap, ◌∙◌, subst, arith, unsigned_abs, ◌⊎◌, inl, inr}
use Rattle.std.proofs.Math.IntN.{ℤ, pos, negsuc, neg_ℤ, ◌+ℤ◌, ◌*ℤ◌}
use Rattle.std.specs.Prelude.{◌<ℤ◌}
use Rattle.std.proofs.lemmas.Int.{ints}
use Rattle.exact_numbers.specs.Divides.{Divides}
use Rattle.exact_numbers.proofs.Ring.{mul_comm, neg_mul, mul_neg, mul_zero}
use Rattle.exact_numbers.proofs.Order.{mul_positive}
use Rattle.exact_numbers.proofs.Divisibility.{divides_along, neg_divides, mul_divides_mul, cancel_divides}
use Rattle.logic_meaning.specs.Point.{Point}
use Rattle.logic_meaning.specs.Form.{Form, value, coefficient, without}
use Rattle.logic_meaning.specs.Some.{Among}
use Rattle.logic_meaning.specs.Atom.{Atom, Relation, Equals, Compare, Congruent, Says, Mentions, form_of}
use Rattle.formula_laws.proofs.Values.{value_split}
use Rattle.formula_laws.proofs.Iff.{both_ways, turn_round}
use Rattle.formula_laws.proofs.Relations.{relates_along, relates_zero_mul}
use Rattle.linear_forms.specs.Combinations.{IsCombination}
use Rattle.normal_atoms.specs.declared.atoms.Atom.{Atom as Code}
use Rattle.normal_atoms.specs.Atoms.{atom_of}
use Rattle.normal_atoms.proofs.Congruences.{congruent_says, told_same}
use Rattle.shadow_theory.specs.declared.shadow.Shadow.{Shadow}
use Rattle.integer_shadows.specs.Told.{IsWith}
use Rattle.integer_shadows.specs.Forms.{IsOver, IsWithout}
use Rattle.integer_shadows.specs.Solving.{magnitude, turned_by, IsZeroWithValue, IsEquation, IsAtomBy, IsMoreBy, IsSolvable, IsSolved}
use Rattle.integer_shadows.proofs.Moved.{line, names_of, over_one, over_two}
use Rattle.integer_shadows.proofs.Keeping.{mapped_more, mapped_whole, mapped_start, some_at_place}

-- ---- numbers

pub magnitude_positive : (a : ℤ) → ¬ (a ≡ pos 0) → pos 0 <ℤ magnitude a
magnitude_positive (pos n) h = let k : ¬ (n ≡ 0) = λ e. h (ap (λ m. pos m) e) in omega (arith, ints)
magnitude_positive (negsuc n) h = omega (arith, ints)

name_gone : (a c s : ℤ) → s ≡ magnitude a *ℤ c +ℤ turned_by a c *ℤ a → s ≡ pos 0
name_gone (pos n) c s e = let g = neg_mul c (pos n) in let h = mul_comm c (pos n) in omega (arith, ints)
name_gone (negsuc n) c s e =
    let g : pos (suc n) *ℤ c ≡ neg_ℤ (c *ℤ negsuc n) = mul_comm (pos (suc n)) c ∙ mul_neg c (negsuc n) in omega (arith, ints)

zero_times : (k z s v : ℤ) → z ≡ pos 0 → s ≡ v +ℤ k *ℤ z → s ≡ v
zero_times k z s v e h = let g = ap (λ y. k *ℤ y) e in let m = mul_zero k in omega (arith, ints)

zero_both : (a b f g s : ℤ) → f ≡ pos 0 → g ≡ pos 0 → s ≡ a *ℤ f +ℤ b *ℤ g → s ≡ pos 0
zero_both a b f g s e h i = let k = ap (λ z. a *ℤ z) e in let l = ap (λ z. b *ℤ z) h in let m = mul_zero a in let n = mul_zero b in omega (arith, ints)

abs_positive : (m : ℤ) → pos 0 <ℤ m → pos (unsigned_abs m) ≡ m
abs_positive (pos n) h = refl
abs_positive (negsuc n) h = absurd (omega (arith, ints))

pub modulus_positive : (a m n : ℤ) → ¬ (a ≡ pos 0) → pos 0 <ℤ m → n ≡ magnitude a *ℤ m → pos 0 <ℤ n
modulus_positive a m n h hm i = subst (λ z. pos 0 <ℤ z) (sym i) (mul_positive (magnitude_positive a h) hm)

-- ---- one atom

module _ (x : ℕ) (e f g : Form) (stands : ¬ (coefficient x e ≡ pos 0)) (h : IsCombination (magnitude (coefficient x e)) f (turned_by (coefficient x e) (coefficient x f)) e g) where
  solved_gone : coefficient x g ≡ pos 0
  solved_gone = name_gone (coefficient x e) (coefficient x f) (coefficient x g) (h.coefficients_add x)

  solved_others : (y : ℕ) → coefficient y e ≡ pos 0 → coefficient y f ≡ pos 0 → coefficient y g ≡ pos 0
  solved_others y i j = zero_both (magnitude (coefficient x e)) (turned_by (coefficient x e) (coefficient x f)) (coefficient y f) (coefficient y e) (coefficient y g) j i (h.coefficients_add y)

  solved_value : (p : Point ℕ) → value e p ≡ pos 0 → value g p ≡ magnitude (coefficient x e) *ℤ value f p
  solved_value p z = zero_times (turned_by (coefficient x e) (coefficient x f)) (value e p) (value g p) _ z (h.values_add p)

  pub compare_by : (r : Relation) → IsAtomBy x e (Compare r f) (Compare r g)
  compare_by r = record {
    truth = λ p o z. both_ways (relates_along r (pos 0) (solved_value p z)) (turn_round (relates_zero_mul r (magnitude (coefficient x e)) (value f p) (magnitude_positive (coefficient x e) stands)));
    gone = solved_gone;
    others = solved_others;
  }

  divides_times : (k m v w : ℤ) → pos 0 <ℤ k → w ≡ k *ℤ v → Divides (k *ℤ m) w ↔ Divides m v
  divides_times k m v w hk i = (λ d. cancel_divides k (λ z. omega (arith, ints)) (divides_along i d), λ d. divides_along (sym i) (mul_divides_mul k d))

  pub congruent_by : (b : Bool) (m n : ℤ) → pos 0 <ℤ m → n ≡ magnitude (coefficient x e) *ℤ m → IsAtomBy x e (Congruent b (unsigned_abs m) f) (Congruent b (unsigned_abs n) g)
  congruent_by b m n hm i = record {
    truth = λ p o z.
        let k = magnitude (coefficient x e) in
        let d = divides_times k m (value f p) (value g p) (magnitude_positive (coefficient x e) stands) (solved_value p z) in
        let am = abs_positive m hm in let an = abs_positive n (modulus_positive (coefficient x e) m n stands hm i) ∙ i in
        let j : Divides (pos (unsigned_abs n)) (value g p) ↔ Divides (pos (unsigned_abs m)) (value f p) =
        subst (λ s. Divides s (value g p) ↔ Divides (pos (unsigned_abs m)) (value f p)) (sym an) (subst (λ s. Divides (k *ℤ m) (value g p) ↔ Divides s (value f p)) (sym am) d) in
        both_ways (congruent_says b (unsigned_abs n) g p o) (both_ways (told_same b j) (turn_round (congruent_says b (unsigned_abs m) f p o)));
    gone = solved_gone;
    others = solved_others;
  }

-- ---- a value of the name

divides_magnitude : (a v : ℤ) → Divides (magnitude a) v ↔ Divides a v
divides_magnitude (pos n) v = (λ d. d, λ d. d)
divides_magnitude (negsuc n) v = (λ d. neg_divides d, λ d. neg_divides d)

solves : (a t : ℤ) → Divides a t ↔ ((k : ℤ) × (a *ℤ k +ℤ t ≡ pos 0))
solves a t = (
  λ d. let e = d.exact in let q = d.quotient in (neg_ℤ q, let g = mul_neg a q in omega (arith, ints)),
  λ s. let g = mul_neg a s.0 in record { quotient = neg_ℤ s.0; exact = let h = s.1 in omega (arith, ints) },
)

same_rest : (v c at r s : ℤ) → v ≡ c *ℤ at +ℤ r → v ≡ c *ℤ at +ℤ s → r ≡ s
same_rest v c at r s e f = omega (arith, ints)

pub rest_is : (x : ℕ) (f r : Form) → IsWithout x f r → (p : Point ℕ) → value r p ≡ value (without x f) p
rest_is x f r w p = same_rest (value f p) (coefficient x f) (p.at x) (value r p) (value (without x f) p) (w.value_splits p) (value_split f p x)

pub is_solvable : (x : ℕ) (e r : Form) (m : ℤ) (old new : Shadow) → ¬ (coefficient x e ≡ pos 0) → m ≡ magnitude (coefficient x e) → IsWithout x e r → IsWith old new (Congruent true (unsigned_abs m) r) → IsSolvable x e old new
is_solvable x e r m old new stands i w h = record {
  told = h.told;
  truth = λ t p o.
      let a = coefficient x e in
      let v = rest_is x e r w p in
      let am : pos (unsigned_abs m) ≡ magnitude a = ap (λ z. pos (unsigned_abs z)) i ∙ abs_positive (magnitude a) (magnitude_positive a stands) in
      let s : Says (Congruent true (unsigned_abs m) r) p ↔ Divides (magnitude a) (value (without x e) p) =
      subst (λ z. Says (Congruent true (unsigned_abs m) r) p ↔ Divides (magnitude a) z) v
      (subst (λ z. Says (Congruent true (unsigned_abs m) r) p ↔ Divides z (value r p)) am (congruent_says true (unsigned_abs m) r p o)) in
      let k = both_ways s (both_ways (divides_magnitude a (value (without x e) p)) (solves a (value (without x e) p))) in
      let z : Says (Congruent true (unsigned_abs m) r) p ↔ IsZeroWithValue x e p =
      (λ y. let d = k.0 y in (d.0, line x p d.0 e ∙ d.1), λ d. k.1 (d.0, sym (line x p d.0 e) ∙ d.1)) in
      let q = h.truth t p o in
      (λ y. let d = q.0 y in (d.0, z.0 d.1), λ y. q.1 (y.0, z.1 y.1));
  names = λ ws n o. h.names x ws n (names_of x ws (Congruent true (unsigned_abs m) r) w.gone (over_one ws e r w.others o));
  made = h.made;
}

-- ---- atom after atom

pub more_by : (x : ℕ) (e : Form) (a r : Atom) (old new : Shadow) → Mentions a x → IsAtomBy x e a r → IsWith old new r → IsMoreBy x e (a ∷ []) old new
more_by x e a r old new m h w = record {
  told = w.told;
  keeps = λ t p o y. ((w.truth t p o).0 y).0;
  truth = λ t p o z. let q = w.truth t p o in let s = h.truth p o z in
      (λ y. let d = q.0 y in (d.0, ((λ _. s.0 d.1), tt)), λ y. q.1 (y.0, s.1 (y.1.0 m)));
  names = λ ws n o os. w.names x ws n (names_of x ws r h.gone (over_two ws e (form_of a) (form_of r) h.others o os.0));
  made = w.made;
}

module _ (x : ℕ) (e : Form) (us : List Code) where
  -- what is said of an atom that has x
  abbrev Has : Point ℕ → Atom → Type 0
  Has p u = Mentions u x → Says u p

  abbrev Names : List Atom → Atom → Type 0
  Names ws u = IsOver ws (form_of u)

  pub solved_start : (old new : Shadow) → IsSolvable x e old new → IsSolved x e (map atom_of (take 0 us)) old new
  solved_start old new h = record {
    told = h.told;
    solvable = λ t p o y. ((h.truth t p o).0 y).1;
    truth = λ t p o z.
        let q = h.truth t p o in
        let k : IsZeroWithValue x e p = (p.at x, line x p (p.at x) e ∙ sym (value_split e p x) ∙ z) in
        (λ y. ((q.0 y).0, mapped_start atom_of (Has p) us), λ y. q.1 (y.0, k));
    names = λ ws n o os. h.names ws n o;
    made = h.made;
  }

  module _ (i : ℕ) (u : Code) (l : i < length us) (s : u ≡ get_or us i u) (old mid : Shadow) (h : IsSolved x e (map atom_of (take i us)) old mid) where
    pub solved_more : (new next : Shadow) → next ≡ new → IsMoreBy x e (atom_of u ∷ []) mid new → IsSolved x e (map atom_of (take (i + 1) us)) old next
    solved_more new next j k = subst (IsSolved x e (map atom_of (take (i + 1) us)) old) (sym j) (record {
      told = λ t. h.told (k.told t);
      solvable = λ t p o y. h.solvable (k.told t) p o (k.keeps t p o y);
      truth = λ t p o z.
          let a = h.truth (k.told t) p o z in let b = k.truth t p o z in let m = mapped_more atom_of (Has p) us i u l s in
          (λ y. let d = b.0 y in let c = a.0 d.0 in (c.0, m.1 (c.1, d.1.0)), λ y. let c = m.0 y.1 in b.1 (a.1 (y.0, c.0), (c.1, tt)));
      names = λ ws n o os. let m = (mapped_more atom_of (Names ws) us i u l s).0 os in k.names ws (h.names ws n o m.0) o (m.1, tt);
      made = λ m. k.made (h.made m);
    })

    pub solved_skips : (next : Shadow) → next ≡ mid → ¬ (Mentions (atom_of u) x) → IsSolved x e (map atom_of (take (i + 1) us)) old next
    solved_skips next j n = subst (IsSolved x e (map atom_of (take (i + 1) us)) old) (sym j) (record {
      told = h.told;
      solvable = h.solvable;
      truth = λ t p o z.
          let a = h.truth t p o z in let m = mapped_more atom_of (Has p) us i u l s in
          (λ y. let c = a.0 y in (c.0, m.1 (c.1, λ k. absurd (n k))), λ y. a.1 (y.0, (m.0 y.1).0));
      names = λ ws k o os. h.names ws k o ((mapped_more atom_of (Names ws) us i u l s).0 os).0;
      made = h.made;
    })

  pub solved_whole : (i : ℕ) (old new : Shadow) → length us ≤ i → IsSolved x e (map atom_of (take i us)) old new → IsSolved x e (map atom_of us) old new
  solved_whole i old new l h = record {
    told = h.told;
    solvable = h.solvable;
    truth = λ t p o z. let a = h.truth t p o z in let m = mapped_whole atom_of (Has p) us i l in (λ y. let c = a.0 y in (c.0, m.0 c.1), λ y. a.1 (y.0, m.1 y.1));
    names = λ ws n o os. h.names ws n o ((mapped_whole atom_of (Names ws) us i l).1 os);
    made = h.made;
  }

-- ---- the equation

among_one : (a b : Atom) → Among (a ∷ []) b → a ≡ b
among_one a b (inl e) = e
among_one a b (inr e) = absurd e

-- an equation that is one of the atoms
pub equation_at : (x : ℕ) (us : List Code) (i : ℕ) (u : Code) (e : Form) → i < length us → u ≡ get_or us i u → IsEquation x (atom_of u ∷ []) e → IsEquation x (map atom_of us) e
equation_at x us i u e l s h = record { among = some_at_place atom_of (λ v. v ≡ Compare Equals e) us i u l s (among_one (atom_of u) (Compare Equals e) h.among); stands = h.stands }

-- the better of two equations
pub better_is : (x : ℕ) (us : List Atom) (best : Option (Bor Form)) (form result : Form) → (result ≡ form) ⊎ IsSomeAnd best (λ b. result ≡ b.now) → IsEquation x us form → IfSome best (λ b. IsEquation x us b.now) → IsEquation x us result
better_is x us best form result (inl e) h k = subst (IsEquation x us) (sym e) h
better_is x us None form result (inr e) h k = absurd e
better_is x us (Some b) form result (inr e) h k = subst (IsEquation x us) (sym e) k
