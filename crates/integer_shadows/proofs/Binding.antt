-- Atoms with a name, one after another, as bounds.
use Rattle.std.proofs.Common.{◌≡◌, ℕ, ◌+◌, ◌<◌, ◌≤◌, ◌↔◌, true, List, [], ◌∷◌, ◌++◌, map, take, length, get_or, refl, sym, ap, subst, arith, unsigned_abs, inl, inr, ⊎_elim}
use Rattle.std.proofs.Math.IntN.{ℤ, pos, negsuc}
use Rattle.std.specs.Prelude.{◌≤ℤ◌, ◌<ℤ◌}
use Rattle.std.proofs.lemmas.Int.{ints}
use Rattle.exact_numbers.specs.Divides.{Divides}
use Rattle.exact_numbers.proofs.Divisibility.{one_divides}
use Rattle.logic_meaning.specs.Context.{Integers}
use Rattle.logic_meaning.specs.Point.{Point, Of}
use Rattle.logic_meaning.specs.Form.{Form, value, coefficient}
use Rattle.logic_meaning.specs.Some.{EachOf}
use Rattle.logic_meaning.specs.Atom.{Atom, Relation, Differs, Compare, Congruent, Says, Mentions, form_of}
use Rattle.normal_atoms.specs.declared.atoms.Atom.{Atom as Code}
use Rattle.normal_atoms.specs.Atoms.{atom_of}
use Rattle.normal_atoms.proofs.Congruences.{congruent_says}
use Rattle.case_theory.specs.PutThrough.{AreTrue}
use Rattle.shadow_theory.specs.declared.shadow.Shadow.{Shadow}
use Rattle.shadow_theory.specs.declared.shadow.Shadow.TheVariants.{Unknown}
use Rattle.integer_shadows.specs.declared.congruences.Split.{Split}
use Rattle.integer_shadows.specs.declared.sides.Bounds.{Bounds}
use Rattle.integer_shadows.specs.declared.sides.Sides.{Sides}
use Rattle.integer_shadows.specs.Told.{IsTold, IsTrueIn, AreApart}
use Rattle.integer_shadows.specs.Forms.{IsOver}
use Rattle.integer_shadows.specs.Sides.{IsModulus, AreMerged, IsBound, IsMet, HasNoBound, AreSides, IsBoundMore, IsDifferingMore, IsSplitOff, AreSidesWith, AreSidesOf}
use Rattle.integer_shadows.proofs.Moved.{names_of, over_one, over_two}
use Rattle.integer_shadows.proofs.Keeping.{each_joined, mapped_more, mapped_whole, mapped_start, some_at_place, mentions_decided}

-- each element of a list with one more
joined_each : {X : Type 0} (P : X → Type 0) (xs ys : List X) (x : X) → ys ≡ xs ++ x ∷ [] → EachOf P ys ↔ (EachOf P xs × P x)
joined_each P xs ys x e = subst (λ zs. EachOf P zs ↔ (EachOf P xs × P x)) (sym e) (each_joined P xs x)

same_each : {X : Type 0} (P : X → Type 0) (xs ys : List X) → ys ≡ xs → EachOf P ys ↔ EachOf P xs
same_each P xs ys e = subst (λ zs. EachOf P zs ↔ EachOf P xs) (sym e) (λ t. t, λ t. t)

same_class : (p : Point ℕ) (old new : Bounds) → new.modulus ≡ old.modulus → new.class ≡ old.class → Divides new.modulus (value new.class p) ↔ Divides old.modulus (value old.class p)
same_class p old new e i =
    subst (λ m. Divides m (value new.class p) ↔ Divides old.modulus (value old.class p)) (sym e)
    (subst (λ f. Divides old.modulus (value f p) ↔ Divides old.modulus (value old.class p)) (sym i) (λ t. t, λ t. t))

-- ---- one form more

module _ (x : ℕ) (shadow : Shadow) (old new : Bounds) (f : Form) (a : Atom) where
  differing_more : IsDifferingMore f old new → ((p : Point ℕ) → Says a p ↔ (¬ (value f p ≡ pos 0))) → ¬ (coefficient x f ≡ pos 0) →
      AreSidesWith x (record { shadow = shadow; bounds = old }) (record { shadow = shadow; bounds = new }) a
  differing_more s says n = record {
    told = λ t. t;
    truth = λ t p o.
        let c = same_class p old new s.modulus s.class in
        let l = same_each (λ (g : Form). pos 0 ≤ℤ value g p) old.lower.items new.lower.items s.lower in
        let u = same_each (λ (g : Form). pos 0 ≤ℤ value g p) old.upper.items new.upper.items s.upper in
        let d = joined_each (λ (g : Form). ¬ (value g p ≡ pos 0)) old.differing.items new.differing.items f s.differing in (
          λ m. let e = d.0 m.differing in (record { shadow = m.shadow; class = c.0 m.class; lower = l.0 m.lower; upper = u.0 m.upper; differing = e.0 }, (says p).1 e.1),
          λ m. let b = m.0 in record { shadow = b.shadow; class = c.1 b.class; lower = l.1 b.lower; upper = u.1 b.upper; differing = d.1 (b.differing, (says p).0 m.1) },
        );
    sides = λ us h o. record {
      modulus = subst IsModulus (sym s.modulus) h.modulus;
      names = h.names;
      made = h.made;
      class = subst (IsOver us) (sym s.class) h.class;
      lower = (same_each (λ (g : Form). (pos 0 <ℤ coefficient x g) × IsOver us g) old.lower.items new.lower.items s.lower).1 h.lower;
      upper = (same_each (λ (g : Form). (coefficient x g <ℤ pos 0) × IsOver us g) old.upper.items new.upper.items s.upper).1 h.upper;
      differing = (joined_each (λ (g : Form). ¬ (coefficient x g ≡ pos 0)) old.differing.items new.differing.items f s.differing).1 (h.differing, n);
    };
    modulus = λ h. subst IsModulus (sym s.modulus) h;
  }

  bound_more : IsBoundMore x f old new → ((p : Point ℕ) → Of Integers p → Says a p ↔ (pos 0 ≤ℤ value f p)) → ((us : List Atom) → IsOver us (form_of a) → IsOver us f) →
      AreSidesWith x (record { shadow = shadow; bounds = old }) (record { shadow = shadow; bounds = new }) a
  bound_more (inl (side, s)) says over = record {
    told = λ t. t;
    truth = λ t p o.
        let c = same_class p old new s.modulus s.class in
        let l = joined_each (λ (g : Form). pos 0 ≤ℤ value g p) old.lower.items new.lower.items f s.lower in
        let u = same_each (λ (g : Form). pos 0 ≤ℤ value g p) old.upper.items new.upper.items s.upper in
        let d = same_each (λ (g : Form). ¬ (value g p ≡ pos 0)) old.differing.items new.differing.items s.differing in (
          λ m. let e = l.0 m.lower in (record { shadow = m.shadow; class = c.0 m.class; lower = e.0; upper = u.0 m.upper; differing = d.0 m.differing }, (says p o).1 e.1),
          λ m. let b = m.0 in record { shadow = b.shadow; class = c.1 b.class; lower = l.1 (b.lower, (says p o).0 m.1); upper = u.1 b.upper; differing = d.1 b.differing },
        );
    sides = λ us h o. record {
      modulus = subst IsModulus (sym s.modulus) h.modulus;
      names = h.names;
      made = h.made;
      class = subst (IsOver us) (sym s.class) h.class;
      lower = (joined_each (λ (g : Form). (pos 0 <ℤ coefficient x g) × IsOver us g) old.lower.items new.lower.items f s.lower).1 (h.lower, (side, over us o));
      upper = (same_each (λ (g : Form). (coefficient x g <ℤ pos 0) × IsOver us g) old.upper.items new.upper.items s.upper).1 h.upper;
      differing = (same_each (λ (g : Form). ¬ (coefficient x g ≡ pos 0)) old.differing.items new.differing.items s.differing).1 h.differing;
    };
    modulus = λ h. subst IsModulus (sym s.modulus) h;
  }
  bound_more (inr (side, s)) says over = record {
    told = λ t. t;
    truth = λ t p o.
        let c = same_class p old new s.modulus s.class in
        let l = same_each (λ (g : Form). pos 0 ≤ℤ value g p) old.lower.items new.lower.items s.lower in
        let u = joined_each (λ (g : Form). pos 0 ≤ℤ value g p) old.upper.items new.upper.items f s.upper in
        let d = same_each (λ (g : Form). ¬ (value g p ≡ pos 0)) old.differing.items new.differing.items s.differing in (
          λ m. let e = u.0 m.upper in (record { shadow = m.shadow; class = c.0 m.class; lower = l.0 m.lower; upper = e.0; differing = d.0 m.differing }, (says p o).1 e.1),
          λ m. let b = m.0 in record { shadow = b.shadow; class = c.1 b.class; lower = l.1 b.lower; upper = u.1 (b.upper, (says p o).0 m.1); differing = d.1 b.differing },
        );
    sides = λ us h o. record {
      modulus = subst IsModulus (sym s.modulus) h.modulus;
      names = h.names;
      made = h.made;
      class = subst (IsOver us) (sym s.class) h.class;
      lower = (same_each (λ (g : Form). (pos 0 <ℤ coefficient x g) × IsOver us g) old.lower.items new.lower.items s.lower).1 h.lower;
      upper = (joined_each (λ (g : Form). (coefficient x g <ℤ pos 0) × IsOver us g) old.upper.items new.upper.items f s.upper).1 (h.upper, (side, over us o));
      differing = (same_each (λ (g : Form). ¬ (coefficient x g ≡ pos 0)) old.differing.items new.differing.items s.differing).1 h.differing;
    };
    modulus = λ h. subst IsModulus (sym s.modulus) h;
  }

-- an atom that is not 0
pub with_differing : (x : ℕ) (shadow : Shadow) (old new : Bounds) (f g : Form) → g ≡ f → IsDifferingMore g old new → Mentions (Compare Differs f) x →
    AreSidesWith x (record { shadow = shadow; bounds = old }) (record { shadow = shadow; bounds = new }) (Compare Differs f)
with_differing x shadow old new f g e s m =
    differing_more x shadow old new f (Compare Differs f) (subst (λ h. IsDifferingMore h old new) e s) (λ p. (λ t. t, λ t. t)) m

-- a bound
pub with_bound : (x : ℕ) (shadow : Shadow) (old new : Bounds) (r : Relation) (f b : Form) → IsBound r f b → IsBoundMore x b old new →
    AreSidesWith x (record { shadow = shadow; bounds = old }) (record { shadow = shadow; bounds = new }) (Compare r f)
with_bound x shadow old new r f b h s =
    bound_more x shadow old new b (Compare r f) s (λ p o. let t = h.truth p o in (t.1, t.0)) (λ us o. over_one us f b (λ y z. (h.names y).0 z) o)

-- ---- a congruence more

abs_is : (m : ℤ) → pos 0 <ℤ m → pos (unsigned_abs m) ≡ m
abs_is (pos n) h = refl
abs_is (negsuc n) h = absurd (omega (arith, ints))

pub says_divides : (m : ℤ) (f : Form) (p : Point ℕ) → pos 0 <ℤ m → Of Integers p → Says (Congruent true (unsigned_abs m) f) p ↔ Divides m (value f p)
says_divides m f p h o = subst (λ z. Says (Congruent true (unsigned_abs m) f) p ↔ Divides z (value f p)) (abs_is m h) (congruent_says true (unsigned_abs m) f p o)

pub with_congruence : (x : ℕ) (shadow : Shadow) (old : Bounds) (new : Sides) (m : ℤ) (f : Form) (r : Split) → pos 0 <ℤ m → AreMerged x old.modulus old.class m f r → IsSplitOff r shadow old new →
    AreSidesWith x (record { shadow = shadow; bounds = old }) new (Congruent true (unsigned_abs m) f)
with_congruence x shadow old new m f r hm h s =
    let nb = new.bounds in record {
      told = s.shadow.told;
      truth = λ t p o.
          let w = s.shadow.truth t p o in
          let k = says_divides r.modulus r.condition p h.modulus.0 o in
          let a = says_divides m f p hm o in
          let q = h.truth p in
          let c : Divides nb.modulus (value nb.class p) ↔ Divides r.modulus (value r.class p) =
          subst (λ z. Divides z (value nb.class p) ↔ Divides r.modulus (value r.class p)) (sym s.modulus)
          (subst (λ g. Divides r.modulus (value g p) ↔ Divides r.modulus (value r.class p)) (sym s.class) (λ d. d, λ d. d)) in
          let l = same_each (λ (g : Form). pos 0 ≤ℤ value g p) old.lower.items nb.lower.items s.lower in
          let u = same_each (λ (g : Form). pos 0 ≤ℤ value g p) old.upper.items nb.upper.items s.upper in
          let d = same_each (λ (g : Form). ¬ (value g p ≡ pos 0)) old.differing.items nb.differing.items s.differing in (
            λ v.
                let y = w.0 v.shadow in let z = q.1 (c.0 v.class, k.0 y.1) in
                (record { shadow = y.0; class = z.0; lower = l.0 v.lower; upper = u.0 v.upper; differing = d.0 v.differing }, a.1 z.1),
            λ v.
                let b = v.0 in let z = q.0 (b.class, a.0 v.1) in
                record { shadow = w.1 (b.shadow, k.1 z.1); class = c.1 z.0; lower = l.1 b.lower; upper = u.1 b.upper; differing = d.1 b.differing },
          );
      sides = λ us g o. record {
        modulus = subst IsModulus (sym s.modulus) h.modulus;
        names = s.shadow.names x us g.names (names_of x us (Congruent true (unsigned_abs r.modulus) r.condition) h.gone (over_two us old.class f r.condition h.others_in_condition g.class o));
        made = s.shadow.made g.made;
        class = subst (IsOver us) (sym s.class) (over_two us old.class f r.class h.others_in_class g.class o);
        lower = (same_each (λ (e : Form). (pos 0 <ℤ coefficient x e) × IsOver us e) old.lower.items nb.lower.items s.lower).1 g.lower;
        upper = (same_each (λ (e : Form). (coefficient x e <ℤ pos 0) × IsOver us e) old.upper.items nb.upper.items s.upper).1 g.upper;
        differing = (same_each (λ (e : Form). ¬ (coefficient x e ≡ pos 0)) old.differing.items nb.differing.items s.differing).1 g.differing;
      };
      modulus = λ z. subst IsModulus (sym s.modulus) h.modulus;
    }

-- ---- nothing is told

pub with_nothing : (x : ℕ) (shadow : Shadow) (old : Bounds) (a : Atom) → AreSidesWith x (record { shadow = shadow; bounds = old }) (record { shadow = Unknown; bounds = old }) a
with_nothing x shadow old a = record {
  told = λ t. absurd t;
  truth = λ t. absurd t;
  sides = λ us h o. record { modulus = h.modulus; names = tt; made = tt; class = h.class; lower = h.lower; upper = h.upper; differing = h.differing };
  modulus = λ h. h;
}

-- ---- atom after atom

-- the sides say what the shadow does and those of the atoms us that have x, which are some of ws
pub record AreSorted (x : ℕ) (ws us : List Atom) (shadow : Shadow) (s : Sides) : Type 0 where
  pub truth : IsTold s.shadow → (p : Point ℕ) → Of Integers p → IsMet s p ↔ (IsTrueIn shadow p × EachOf (λ (u : Atom). Mentions u x → Says u p) us)
  pub told : IsTold s.shadow → IsTold shadow
  pub sides : AreSides x ws s

modulus_one : (m : ℤ) → m ≡ pos 1 → IsModulus m
modulus_one m e = subst IsModulus (sym e) (omega (arith, ints), omega arith)

zero_over : (us : List Atom) (f : Form) → f ≡ record { terms = []; constant = pos 0 } → IsOver us f
unfolding coefficient
zero_over us f e y n = absurd (n (ap (λ g. coefficient y g) e))

pub empty_each : {X : Type 0} (P : X → Type 0) (xs : List X) → xs ≡ [] → EachOf P xs
empty_each P xs e = subst (λ ys. EachOf P ys) (sym e) tt

pub both_halves : (x : ℕ) (vs : List Atom) (p : Point ℕ) → (EachOf (λ (u : Atom). ¬ (Mentions u x) → Says u p) vs × EachOf (λ (u : Atom). Mentions u x → Says u p) vs) ↔ AreTrue vs p
both_halves x [] p = (λ t. tt, λ t. (tt, tt))
both_halves x (v ∷ vs) p =
    let r = both_halves x vs p in
    (λ t. (⊎_elim (λ m. t.1.0 m) (λ n. t.0.0 n) (mentions_decided v x), r.0 (t.0.1, t.1.1)), λ t. let k = r.1 t.1 in ((λ n. t.0, k.0), (λ m. t.0, k.1)))

module _ (x : ℕ) (us : List Code) where
  abbrev Has : Point ℕ → Atom → Type 0
  Has p u = Mentions u x → Says u p

  pub sorted_start : (shadow : Shadow) (b : Bounds) → AreApart x (map atom_of us) shadow → HasNoBound b → AreSorted x (map atom_of us) (map atom_of (take 0 us)) shadow (record { shadow = shadow; bounds = b })
  sorted_start shadow b h n = record {
    told = λ t. t;
    truth = λ t p o. (
      λ m. (m.shadow, mapped_start atom_of (Has p) us),
      λ v. record {
        shadow = v.0;
        class = subst (λ m. Divides m (value b.class p)) (sym n.modulus) (one_divides (value b.class p));
        lower = empty_each _ b.lower.items n.lower;
        upper = empty_each _ b.upper.items n.upper;
        differing = empty_each _ b.differing.items n.differing;
      },
    );
    sides = record {
      modulus = modulus_one b.modulus n.modulus;
      names = h.names;
      made = h.made;
      class = zero_over (map atom_of us) b.class n.class;
      lower = empty_each _ b.lower.items n.lower;
      upper = empty_each _ b.upper.items n.upper;
      differing = empty_each _ b.differing.items n.differing;
    };
  }

  module _ (shadow : Shadow) (i : ℕ) (u : Code) (l : i < length us) (e : u ≡ get_or us i u) (mid : Sides) (h : AreSorted x (map atom_of us) (map atom_of (take i us)) shadow mid) where
    pub sorted_more : (new next : Sides) → next ≡ new → Mentions (atom_of u) x → AreSidesWith x mid new (atom_of u) → AreSorted x (map atom_of us) (map atom_of (take (i + 1) us)) shadow next
    sorted_more new next j mentioned k = subst (AreSorted x (map atom_of us) (map atom_of (take (i + 1) us)) shadow) (sym j) (record {
      told = λ t. h.told (k.told t);
      truth = λ t p o.
          let a = h.truth (k.told t) p o in let b = k.truth t p o in let m = mapped_more atom_of (Has p) us i u l e in (
            λ v. let y = b.0 v in let z = a.0 y.0 in (z.0, m.1 (z.1, λ _. y.1)),
            λ v. let y = m.0 v.1 in b.1 (a.1 (v.0, y.0), y.1 mentioned),
          );
      sides = k.sides (map atom_of us) h.sides (λ y n. some_at_place atom_of (λ w. Mentions w y) us i u l e n);
    })

    pub sorted_skips : (next : Sides) → next ≡ mid → ¬ (Mentions (atom_of u) x) → AreSorted x (map atom_of us) (map atom_of (take (i + 1) us)) shadow next
    sorted_skips next j n = subst (AreSorted x (map atom_of us) (map atom_of (take (i + 1) us)) shadow) (sym j) (record {
      told = h.told;
      truth = λ t p o.
          let a = h.truth t p o in let m = mapped_more atom_of (Has p) us i u l e in
          (λ v. let z = a.0 v in (z.0, m.1 (z.1, λ k. absurd (n k))), λ v. a.1 (v.0, (m.0 v.1).0));
      sides = h.sides;
    })

  pub sorted_whole : (shadow : Shadow) (i : ℕ) (s : Sides) → length us ≤ i → AreApart x (map atom_of us) shadow → AreSorted x (map atom_of us) (map atom_of (take i us)) shadow s → AreSidesOf x (map atom_of us) s
  sorted_whole shadow i s l apart h = record {
    truth = λ t p o.
        let a = h.truth t p o in let m = mapped_whole atom_of (Has p) us i l in let k = apart.truth p in let r = both_halves x (map atom_of us) p in
        (λ v. let z = a.0 v in r.0 (k.0 z.0, m.0 z.1), λ v. let z = r.1 v in a.1 (k.1 z.0, m.1 z.1));
    sides = h.sides;
  }
