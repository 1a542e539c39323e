-- What holds of the infinities and next to each end of an atom holds of each test point of the fields.
use Rattle.std.proofs.Common.{◌≡◌, ℕ, zero, suc, List, ◌∷◌, flat_map, subst, inl, inr}
use Rattle.std.proofs.Math.IntN.{ℤ, pos, negsuc}
use Rattle.logic_meaning.specs.Form.{Form, scale, coefficient, without}
use Rattle.logic_meaning.specs.Atom.{Atom, Compare, Congruent, Relation, Equals, Differs, Below, AtMost, Above, AtLeast, mirrored, form_of}
use Rattle.logic_meaning.specs.Answer.{Place, PlusInfinity, MinusInfinity, same_place}
use Rattle.logic_meaning.specs.Some.{Among}
use Rattle.formula_laws.proofs.Listed.{flat_map_among, distinct_among}
use Rattle.logic_meaning.specs.Side.{turned}
use Rattle.logic_meaning.specs.declared.side.Side.{Side}
use Rattle.logic_meaning.specs.declared.side.Side.TheVariants.{Lower, Upper}
use Rattle.logic_meaning.specs.FieldsPoints.{exact_point, beside_point, ends_of, comparison_points, atom_points, infinity_of, field_points_of}

module _ (P : Place → Type 0) where
  -- P holds of the points at e over d
  abbrev pub HoldsAt : Form → ℕ → Type 0
  HoldsAt e d = P (exact_point e d) × ((side : Side) → P (beside_point side e d))

  -- P holds at the end of an atom in x, whatever its coefficient
  abbrev pub HoldsNext : ℕ → Atom → Type 0
  HoldsNext x a = (n : ℕ) → HoldsAt (scale (negsuc 0) (without x (form_of a))) (suc n) × HoldsAt (without x (form_of a)) (suc n)

  pub at_all : (e : Form) (d : ℕ) → P (exact_point e d) → P (beside_point Lower e d) → P (beside_point Upper e d) → HoldsAt e d
  at_all e d exact lower upper = (exact, λ side. elim side as (λ u. P (beside_point u e d)) [ Lower ↦ lower | Upper ↦ upper ])

  pub far_out : P MinusInfinity → P PlusInfinity → (side : Side) → P (infinity_of side)
  far_out minus plus Lower = minus
  far_out minus plus Upper = plus

  along : {s t : Place} → s ≡ t → P s → P t
  along e h = subst P e h

  end_has : (side : Side) (r : Relation) (e : Form) (d : ℕ) → HoldsAt e d → (s : Place) → Among (ends_of side r e d) s → P s
  end_has side Equals e d h s (inl i) = along i h.0
  end_has side Equals e d h s (inr i) = absurd i
  end_has side Differs e d h s (inl i) = along i (h.1 side)
  end_has side Differs e d h s (inr i) = absurd i
  end_has side Below e d h s i = absurd i
  end_has side AtMost e d h s i = absurd i
  end_has side Above e d h s (inl i) = along i (h.1 side)
  end_has side Above e d h s (inr i) = absurd i
  end_has side AtLeast e d h s (inl i) = along i h.0
  end_has side AtLeast e d h s (inr i) = absurd i

  comparison_has : (side : Side) (c : ℤ) (r : Relation) (t : Form) → ((n : ℕ) → HoldsAt (scale (negsuc 0) t) (suc n) × HoldsAt t (suc n)) → (s : Place) → Among (comparison_points side c r t) s → P s
  comparison_has side (pos zero) r t h s i = absurd i
  comparison_has side (pos (suc n)) r t h s i = end_has side (turned side r) (scale (negsuc 0) t) (suc n) (h n).0 s i
  comparison_has side (negsuc n) r t h s i = end_has side (turned side (mirrored r)) t (suc n) (h n).1 s i

  atom_has : (side : Side) (x : ℕ) (a : Atom) → HoldsNext x a → (s : Place) → Among (atom_points side x a) s → P s
  atom_has side x (Compare r f) h s i = comparison_has side (coefficient x f) r (without x f) h s i
  atom_has side x (Congruent holds n f) h s i = absurd i

  pub field_points_have : (side : Side) (x : ℕ) (atoms : List Atom) → P (infinity_of side) → ((a : Atom) → Among atoms a → HoldsNext x a) → (s : Place) → Among (field_points_of side x atoms) s → P s
  field_points_have side x atoms far next s h = go (distinct_among same_place (infinity_of side ∷ flat_map (atom_points side x) atoms) s h)
    where
      go : Among (infinity_of side ∷ flat_map (atom_points side x) atoms) s → P s
      go (inl e) = along e far
      go (inr m) = let r = flat_map_among (atom_points side x) atoms s m in atom_has side x r.0 (next r.0 r.1) s r.2
