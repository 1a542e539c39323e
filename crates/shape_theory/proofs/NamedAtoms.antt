-- Atoms with other names: which names they have, and when they are true.
use Rattle.std.proofs.Common.{◌≡◌, ◌<◌, ℕ, Bool, true, false, List, [], ◌∷◌, map, inl, inr, ap, sym, ◌∙◌, subst, refl, arith, ◌↔◌, nat_eq, if◌then◌else◌}
use Rattle.std.proofs.Math.IntN.{ℤ, pos, ◌+ℤ◌, ◌*ℤ◌}
use Rattle.std.proofs.lemmas.Bool.{eq-eqb, eqb-true, cases_eq}
use Rattle.logic_meaning.specs.Point.{Point}
use Rattle.logic_meaning.specs.Form.{Form, Term, total, multiple, value, coefficient}
use Rattle.logic_meaning.specs.Sorted.{AllAbove, IsRising, AllNonzero, IsSorted}
use Rattle.logic_meaning.specs.Some.{Among}
use Rattle.logic_meaning.specs.Atom.{Atom, Compare, Congruent, Relates, Says, Mentions, IsMultiple, form_of}
use Rattle.formula_laws.specs.TheoryAtoms.{AtomIn}
use Rattle.logic_meaning.specs.Context.{Context, Fields, Integers}
use Rattle.formula_laws.proofs.Sorted.{here, elsewhere}
use Rattle.shape_theory.specs.Links.{IsOneToOne}
use Rattle.logic_meaning.specs.Renaming.{terms_named, form_named, atom_named}

abbrev pub names_of : List Term → List ℕ
names_of ts = map (λ (t : Term). t.name) ts

-- the names of sorted terms rise
pub named_above : (x y : ℕ) (ts : List Term) → AllAbove y ts → Among (names_of ts) x → y < x
named_above x y [] a m = absurd m
named_above x y (t ∷ ts) a (inl e) = subst (λ (z : ℕ). y < z) e a.0
named_above x y (t ∷ ts) a (inr m) = named_above x y ts a.1 m

-- so a name among them has a multiple
pub named_multiple : (x : ℕ) (ts : List Term) → IsRising ts → AllNonzero ts → Among (names_of ts) x → ¬ (multiple x ts ≡ pos 0)
named_multiple x [] r n m e = absurd m
named_multiple x (t ∷ ts) r n (inl h) e = n.0 (sym (here x t ts h (subst (λ (z : ℕ). AllAbove z ts) h r.0)) ∙ e)
named_multiple x (t ∷ ts) r n (inr m) e =
    let l = named_above x t.name ts r.0 m in
    named_multiple x ts r.1 n.1 m (sym (elsewhere x t ts (λ (h : t.name ≡ x). omega arith)) ∙ e)

pub among_mentions : (a : Atom) (x : ℕ) → IsSorted (form_of a) → Among (names_of (form_of a).terms) x → Mentions a x
unfolding coefficient
among_mentions a x s m = named_multiple x (form_of a).terms s.rising s.nonzero m

module _ (now : ℕ → ℕ) where
  pub image_among : (v : ℕ) (ts : List Term) → ¬ (multiple v (terms_named now ts) ≡ pos 0) → (z : ℕ) × Among (names_of ts) z × (now z ≡ v)
  image_among v [] n = absurd (n refl)
  image_among v (t ∷ ts) n =
      elim (cases_eq (now t.name) v) [
        | inl e ↦ (t.name, inl refl, e)
        | inr d ↦ let i = image_among v ts (λ z. n (elsewhere v (record { times = t.times; name = now t.name }) (terms_named now ts) d ∙ z)) in (i.0, inr i.1, i.2)
      ]

  -- no other name of the terms becomes that of z
  abbrev pub IsAlone : ℕ → List Term → Type 0
  IsAlone z ts = (y : ℕ) → Among (names_of ts) y → now y ≡ now z → y ≡ z

  pub multiple_named : (z : ℕ) (ts : List Term) → IsAlone z ts → multiple (now z) (terms_named now ts) ≡ multiple z ts
  multiple_named z [] one = refl
  multiple_named z (t ∷ ts) one = go (nat_eq z t.name) refl (nat_eq (now z) (now t.name)) refl (multiple_named z ts (λ y m. one y (inr m)))
    where
      go : (b : Bool) → nat_eq z t.name ≡ b → (d : Bool) → nat_eq (now z) (now t.name) ≡ d → multiple (now z) (terms_named now ts) ≡ multiple z ts →
          (if d then t.times +ℤ multiple (now z) (terms_named now ts) else multiple (now z) (terms_named now ts)) ≡ (if b then t.times +ℤ multiple z ts else multiple z ts)
      go true e true g h = ap (λ k. t.times +ℤ k) h
      go true e false g h = absurd (cc (eq-eqb (now z) (now t.name) (ap now (eqb-true z t.name e)), g))
      go false e true g h = absurd (cc (eq-eqb z t.name (sym (one t.name (inl refl) (sym (eqb-true (now z) (now t.name) g)))), e))
      go false e false g h = h

  total_named : (ts : List Term) (at : ℕ → ℤ) → total (terms_named now ts) at ≡ total ts (λ z. at (now z))
  total_named [] at = refl
  total_named (t ∷ ts) at = ap (λ k. t.times *ℤ at (now t.name) +ℤ k) (total_named ts at)

  -- the point of the names before
  abbrev pub before : Point ℕ → Point ℕ
  before p = record { at = λ z. p.at (now z); below = p.below }

  value_named : (f : Form) (p : Point ℕ) → value (form_named now f) p ≡ value f (before p)
  unfolding value
  value_named f p = ap (λ k. k +ℤ f.constant *ℤ pos p.below) (total_named f.terms p.at)

  multiple_same : (n : ℕ) (f : Form) (p : Point ℕ) → IsMultiple n (form_named now f) p ↔ IsMultiple n f (before p)
  multiple_same n f p = (λ d. (d.0, sym (value_named f p) ∙ d.1), λ d. (d.0, value_named f p ∙ d.1))

  -- the atom is true where it was at the point of the names before
  pub says_named : (a : Atom) (p : Point ℕ) → Says (atom_named now a) p ↔ Says a (before p)
  says_named (Compare r f) p = let e = value_named f p in (λ t. subst (λ z. Relates r z (pos 0)) e t, λ t. subst (λ z. Relates r z (pos 0)) (sym e) t)
  says_named (Congruent true n f) p = multiple_same n f p
  says_named (Congruent false n f) p = let i = multiple_same n f p in (λ t d. t (i.1 d), λ t d. t (i.0 d))

  form_of_named : (a : Atom) → form_of (atom_named now a) ≡ form_named now (form_of a)
  form_of_named (Compare r f) = refl
  form_of_named (Congruent holds n f) = refl

  -- each name of the atom is now that of a name before,
  pub image_mentioned : (a : Atom) (v : ℕ) → IsSorted (form_of a) → Mentions (atom_named now a) v → (z : ℕ) × Mentions a z × (now z ≡ v)
  unfolding coefficient
  image_mentioned a v s n =
      let i = image_among v (form_of a).terms (λ e. n (ap (λ (f : Form). multiple v f.terms) (form_of_named a) ∙ e)) in
      (i.0, among_mentions a i.0 s i.1, i.2)

  pub coefficient_named : (a : Atom) (z : ℕ) → IsSorted (form_of a) → IsOneToOne now a → Mentions a z → coefficient (now z) (form_of (atom_named now a)) ≡ coefficient z (form_of a)
  unfolding coefficient
  coefficient_named a z s one m =
      ap (λ (f : Form). multiple (now z) f.terms) (form_of_named a) ∙ multiple_named z (form_of a).terms (λ y n e. one y z (among_mentions a y s n) m e)

  -- and then each name before has one now
  pub mentioned_image : (a : Atom) (z : ℕ) → IsSorted (form_of a) → IsOneToOne now a → Mentions a z → Mentions (atom_named now a) (now z)
  mentioned_image a z s one m e = m (sym (coefficient_named a z s one m) ∙ e)

  pub named_in : (c : Context) (a : Atom) → AtomIn c a → AtomIn c (atom_named now a)
  named_in c (Compare r f) i = tt
  named_in Fields (Congruent holds n f) i = i
  named_in Integers (Congruent holds n f) i = i
