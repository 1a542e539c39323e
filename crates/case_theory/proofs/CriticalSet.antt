-- The value at a place depends on the set of atoms alone.
use Rattle.std.proofs.Common.{◌≡◌, ℕ, suc, Bool, true, false, List, [], ◌∷◌, Option, Some, None, ◌↔◌, refl, ap, ◌∙◌, if◌then◌else◌}
use Rattle.std.proofs.Math.IntN.{pos, negsuc, neg_ℤ}
use Rattle.exact_numbers.specs.Frac.{Frac, ◌>>=◌}
use Rattle.logic_meaning.specs.Context.{Context}
use Rattle.logic_meaning.specs.Point.{Point}
use Rattle.logic_meaning.specs.Some.{Among}
use Rattle.logic_meaning.specs.Form.{Form}
use Rattle.logic_meaning.specs.Atom.{Atom}
use Rattle.logic_meaning.specs.Answer.{Place, Exact, AboveBy, BelowBy, PlusInfinity, MinusInfinity, Periodic}
use Rattle.logic_meaning.specs.Tree.{Tree}
use Rattle.formula_laws.proofs.Iff.{both_ways, turn_round}
use Rattle.logic_meaning.specs.declared.side.Side.{Side}
use Rattle.logic_meaning.specs.declared.side.Side.TheVariants.{Lower, Upper}
use Rattle.logic_meaning.specs.Atoms.{atoms_of}
use Rattle.logic_meaning.specs.PutIn.{tree_put, tree_put_within}
use Rattle.logic_meaning.specs.Calculated.{critical_values, criticals, least_past, just_past, below_all, class_below, form_value, seen, seen_from, value_beside, beside_form, place_value}
use Rattle.sample_reference.proofs.CriticalSets.{once_same, found_same}
use Rattle.case_theory.specs.CriticalSet.{HaveSameAtoms, ValueIsOfAtoms}

-- ---- the value at a place

module _ (c : Context) (x : ℕ) (p : Point ℕ) (f g : Tree) (h : HaveSameAtoms c x p f g) where
  abbrev first_atoms : List Atom
  first_atoms = atoms_of (tree_put c p (x ∷ []) f)

  abbrev second_atoms : List Atom
  second_atoms = atoms_of (tree_put c p (x ∷ []) g)

  atoms_same : (a : Atom) → Among first_atoms a ↔ Among second_atoms a
  atoms_same a =
      both_ways (turn_round (once_same (tree_put c p (x ∷ []) f) a)) (both_ways (h.same a) (once_same (tree_put c p (x ∷ []) g) a))

  from_criticals : (side : Side) (bound : Option Frac) (find : Option Frac → Option Frac) →
      (criticals c x f p >>= λ values. seen_from side (λ vs. find (least_past bound vs)) values) ≡ (criticals c x g p >>= λ values. seen_from side (λ vs. find (least_past bound vs)) values)
  from_criticals side bound find = within (tree_put_within c p (x ∷ []) f) (tree_put_within c p (x ∷ []) g) h.within
    where
      both : (b : Bool) → ((if b then Some (critical_values x first_atoms) else None) >>= λ values. seen_from side (λ vs. find (least_past bound vs)) values)
          ≡ ((if b then Some (critical_values x second_atoms) else None) >>= λ values. seen_from side (λ vs. find (least_past bound vs)) values)
      both true = found_same x first_atoms second_atoms atoms_same side bound find
      both false = refl

      within : (a b : Bool) → a ≡ b → ((if a then Some (critical_values x first_atoms) else None) >>= λ values. seen_from side (λ vs. find (least_past bound vs)) values)
          ≡ ((if b then Some (critical_values x second_atoms) else None) >>= λ values. seen_from side (λ vs. find (least_past bound vs)) values)
      within a b e =
          both a ∙ ap (λ t. (if t then Some (critical_values x second_atoms) else None) >>= λ values. seen_from side (λ vs. find (least_past bound vs)) values) e

  beside_same : (side : Side) (e : Form) (d : ℕ) → beside_form c side x e d f p ≡ beside_form c side x e d g p
  beside_same side e d = go (form_value e d p)
    where
      go : (o : Option Frac) → (o >>= λ v. criticals c x f p >>= λ values. value_beside side v values) ≡ (o >>= λ v. criticals c x g p >>= λ values. value_beside side v values)
      go None = refl
      go (Some v) = from_criticals side (Some (seen side v)) (just_past (seen side v))

  value_same : (s : Place) → place_value c x s f p ≡ place_value c x s g p
  value_same (Exact e d) = refl
  value_same (AboveBy e d) = beside_same Lower e d
  value_same (BelowBy e d) = beside_same Upper e d
  value_same MinusInfinity = from_criticals Lower None below_all
  value_same PlusInfinity = from_criticals Upper None below_all
  value_same (Periodic j (negsuc q)) = from_criticals Lower None (class_below j (pos (suc q)))
  value_same (Periodic j (pos q)) = from_criticals Upper None (class_below (neg_ℤ j) (pos q))

pub value_of_atoms : (c : Context) → ValueIsOfAtoms c
value_of_atoms c x s f g p h = value_same c x p f g h s
