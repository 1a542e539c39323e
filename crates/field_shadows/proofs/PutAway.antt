-- A name put away by an equation.
use Rattle.std.proofs.Common.{◌≡◌, ◌⊎◌, inl, inr, ⊎_elim, ℕ, suc, zero, ◌<◌, List, [], ◌∷◌, map, ap, sym, ◌∙◌, subst, refl, arith, ◌↔◌, nat_eq}
use Rattle.std.proofs.Math.IntN.{ℤ, pos, negsuc, neg_ℤ, ◌+ℤ◌, ◌*ℤ◌}
use Rattle.std.specs.Prelude.{◌<ℤ◌}
use Rattle.std.proofs.lemmas.Int.{ints}
use Rattle.exact_numbers.proofs.Ring.{mul_zero, mul_comm, mul_neg, neg_mul}
use Rattle.logic_meaning.specs.Context.{Fields}
use Rattle.logic_meaning.specs.Point.{Point, move}
use Rattle.logic_meaning.specs.Form.{Form, value, coefficient, without}
use Rattle.logic_meaning.specs.Some.{SomeOf, Among, EachOf}
use Rattle.logic_meaning.specs.Atom.{Atom, Compare, Equals, Relates, Says, Mentions, form_of}
use Rattle.logic_meaning.specs.NormalForm.{IsNormal}
use Rattle.linear_theory.proofs.Lists.{each_from}
use Rattle.formula_laws.proofs.Values.{value_move}
use Rattle.formula_laws.proofs.Listed.{some_among, among_some}
use Rattle.formula_laws.proofs.Relations.{relates_along, relates_zero_mul}
use Rattle.formula_laws.proofs.Iff.{both_ways, turn_round}
use Rattle.elimination_theory.proofs.SomeListed.{each_among}
use Rattle.elimination_theory.proofs.IntegersNames.{map_among}
use Rattle.elimination_theory.proofs.FieldsLine.{comparison_still}
use Rattle.normal_atoms.specs.declared.atoms.Atom.{Atom as Written}
use Rattle.normal_atoms.specs.Atoms.{atom_of}
use Rattle.case_theory.specs.PutThrough.{AreTrue}
use Rattle.shadow_theory.specs.Shadows.{HasValue, HasNamesOf}
use Rattle.field_shadows.specs.Equations.{IsPutAway, ArePutAway}
use Rattle.field_shadows.specs.Rest.{AreTrueWithout}
use Rattle.field_shadows.proofs.Forms.{cancelled_names, still, without_true}

-- ---- the number at which a form is 0

abbrev Root : ℤ → ℤ → Type 0
Root a t = (k : ℤ) × (m : ℕ) × 0 < m × (a *ℤ k +ℤ t *ℤ pos m ≡ pos 0)

root : (a t : ℤ) → ¬ (a ≡ pos 0) → Root a t
root (pos zero) t n = absurd (n refl)
root (pos (suc n)) t z = (neg_ℤ t, suc n, omega arith, (let i = mul_neg (pos (suc n)) t in let j = mul_comm (pos (suc n)) t in omega (arith, ints)))
root (negsuc n) t z = (t, suc n, omega arith, (let i : negsuc n *ℤ t ≡ neg_ℤ (pos (suc n) *ℤ t) = neg_mul (pos (suc n)) t in let j = mul_comm (pos (suc n)) t in omega (arith, ints)))

-- ---- one atom

vanished : (h t f b g : ℤ) → h ≡ t *ℤ f +ℤ b *ℤ g → g ≡ pos 0 → h ≡ t *ℤ f
vanished h t f b g e z = let i = ap (λ z. b *ℤ z) z in let j = mul_zero b in omega (arith, ints)

-- where the equation is true, the new atom says what the old one does
put_away_says : (x : ℕ) (g : Form) (u : Atom) (v : Written) → IsPutAway x g u v → (p : Point ℕ) (k : ℤ) (m : ℕ) → 0 < m → value g (move nat_eq p x k m) ≡ pos 0 → Says (atom_of v) p ↔ Says u (move nat_eq p x k m)
put_away_says x g u v h p k m pm zero_there =
    let q = move nat_eq p x k m in
    let c = h.cancelled in
    let j : pos 0 <ℤ pos m = omega (arith, ints) in
    let e = vanished (value h.new_form q) c.times (value h.form q) c.by (value g q) (c.values q) zero_there in
    let same : Relates h.relation (value h.new_form p) (pos 0) ↔ Relates h.relation (value h.form q) (pos 0) =
    both_ways (turn_round (comparison_still h.relation h.new_form p x k m c.gone j))
    (both_ways (relates_along h.relation (pos 0) e) (turn_round (relates_zero_mul h.relation c.times (value h.form q) c.positive))) in
    subst (λ (a : Atom). Says a p ↔ Says u q) (sym h.is) (subst (λ (a : Atom). Relates h.relation (value h.new_form p) (pos 0) ↔ Says a q) (sym h.given) same)

-- ---- all atoms

module _ (x : ℕ) (g : Form) (us : List Atom) (vs : List Written) (named : ¬ (coefficient x g ≡ pos 0)) (here : Among us (Compare Equals g)) (all : ArePutAway x g us vs) where
  from_old : (v : Written) → Among vs v → (u : Atom) × Among us u × IsPutAway x g u v
  from_old v m = some_among (λ (u : Atom). IsPutAway x g u v) us (each_among (λ (w : Written). SomeOf (λ (u : Atom). IsPutAway x g u w) us) vs v all.from m)

  mapped : (ws : List Written) (w : Written) → Among ws w → Among (map atom_of ws) (atom_of w)
  mapped [] w n = absurd n
  mapped (z ∷ ws) w (inl e) = inl (ap atom_of e)
  mapped (z ∷ ws) w (inr n) = inr (mapped ws w n)

  module _ (normal : EachOf (IsNormal Fields) us) (p : Point ℕ) where
    forth : AreTrueWithout x us p × AreTrue (map atom_of vs) p → HasValue Fields x us p
    forth h =
        let r = root (coefficient x g) (value (without x g) p) named in
        let q = move nat_eq p x r.0 r.1 in
        let z : value g q ≡ pos 0 = value_move g p x r.0 r.1 ∙ r.3 in (
          r.0,
          r.1,
          r.2,
          each_from (λ (u : Atom). Says u q) us (λ u m.
              ⊎_elim
              (λ e. (still u (each_among (IsNormal Fields) us u normal m) x p r.0 r.1 r.2 e).1 (each_among (λ (w : Atom). coefficient x (form_of w) ≡ pos 0 → Says w p) us u h.0 m e))
              (λ s.
              let v = some_among (IsPutAway x g u) vs s in
              (put_away_says x g u v.0 v.2 p r.0 r.1 r.2 z).0 (each_among (λ (a : Atom). Says a p) (map atom_of vs) (atom_of v.0) h.1 (mapped vs v.0 v.1)))
              (each_among (λ (w : Atom). (coefficient x (form_of w) ≡ pos 0) ⊎ SomeOf (IsPutAway x g w) vs) us u all.each m)),
        )

    back : HasValue Fields x us p → AreTrueWithout x us p × AreTrue (map atom_of vs) p
    back h =
        let q = move nat_eq p x h.0 h.1 in
        let z : value g q ≡ pos 0 = each_among (λ (w : Atom). Says w q) us (Compare Equals g) h.3 here in (
          without_true us normal x p h.0 h.1 h.2 h.3,
          each_from (λ (a : Atom). Says a p) (map atom_of vs) (λ a m.
              let v = map_among atom_of vs a m in
              let u = from_old v.0 v.1 in
              subst (λ (w : Atom). Says w p) v.2 ((put_away_says x g u.0 v.0 u.2 p h.0 h.1 h.2 z).1 (each_among (λ (w : Atom). Says w q) us u.0 h.3 u.1))),
        )

    pub put_away_exact : (AreTrueWithout x us p × AreTrue (map atom_of vs) p) ↔ HasValue Fields x us p
    put_away_exact = (forth, back)

  pub put_away_names : EachOf (HasNamesOf x us) (map atom_of vs)
  put_away_names =
      each_from (HasNamesOf x us) (map atom_of vs) (λ a m.
      let v = map_among atom_of vs a m in
      let u = from_old v.0 v.1 in
      subst (HasNamesOf x us) (sym u.2.is ∙ v.2)
      (cancelled_names x u.2.form g u.2.new_form u.2.cancelled us
      (λ y n. among_some (λ (w : Atom). Mentions w y) us u.0 u.1 (subst (λ (w : Atom). Mentions w y) (sym u.2.given) n))
      (λ y n. among_some (λ (w : Atom). Mentions w y) us (Compare Equals g) here n)))
