-- Weak constraints stay weak: the lower test points of weak comparisons are exact ones and minus infinity.
use Rattle.std.proofs.Common.{ℕ, suc, zero, List, [], ◌∷◌, refl, subst, inl, inr, nat_eq, flat_map}
use Rattle.std.proofs.Math.IntN.{ℤ, pos, negsuc}
use Rattle.logic_meaning.specs.Context.{Fields}
use Rattle.logic_meaning.specs.Point.{move}
use Rattle.logic_meaning.specs.Form.{Form, coefficient, without, scale}
use Rattle.logic_meaning.specs.Formula.{Ex}
use Rattle.logic_meaning.specs.Some.{Among}
use Rattle.logic_meaning.specs.Every.{Every, EveryOf}
use Rattle.logic_meaning.specs.Atom.{Atom, Compare, Congruent, Relation, Equals, Differs, Below, AtMost, Above, AtLeast, mirrored}
use Rattle.formula_laws.specs.TheoryAtoms.{AtomIn}
use Rattle.logic_meaning.specs.Answer.{Place, Exact, AboveBy, BelowBy, PlusInfinity, MinusInfinity, Periodic, same_place}
use Rattle.logic_meaning.specs.Tree.{Tree}
use Rattle.formula_laws.specs.Equivalence.{InContext}
use Rattle.formula_laws.proofs.EachAtom.{every_map}
use Rattle.formula_laws.proofs.Listed.{flat_map_among, distinct_among}
use Rattle.formula_laws.proofs.ReplacedShape.{every_replaced}
use Rattle.formula_laws.proofs.TreeReplacing.{moved_of}
use Rattle.logic_meaning.specs.declared.side.Side.TheVariants.{Lower}
use Rattle.logic_meaning.specs.Atoms.{atoms_of}
use Rattle.logic_meaning.specs.Substitution.{form_at, below_all, beyond, exactly}
use Rattle.logic_meaning.specs.FieldsPoints.{ends_of, comparison_points, atom_points, field_points}
use Rattle.logic_meaning.specs.FieldsSubstitution.{field_atom}
use Rattle.elimination_theory.specs.FieldsTrees.{field_substitution}
use Rattle.elimination_theory.specs.Elimination.{trees_at, field_elimination}
use Rattle.elimination_theory.proofs.FieldsEliminated.{field_elimination_exact, field_elimination_tree}
use Rattle.elimination_theory.proofs.SomeListed.{atoms_of_every, each_among}
use Rattle.linear_theory.specs.WeakTargets.{IsWeakRelation, IsWeak, exs}
use Rattle.linear_theory.specs.Laws.{IsWeakEquivalent, WeakStaysWeak}

-- an exact place, or minus infinity
abbrev pub IsWeakPlace : Place → Type 0
IsWeakPlace (Exact e d) = Unit {0}
IsWeakPlace (AboveBy e d) = ⊥
IsWeakPlace (BelowBy e d) = ⊥
IsWeakPlace PlusInfinity = ⊥
IsWeakPlace MinusInfinity = Unit {0}
IsWeakPlace (Periodic a q) = ⊥

pub weak_in_fields : (f : Tree) → Every IsWeak f → InContext Fields f
weak_in_fields f w = every_map IsWeak (AtomIn Fields) inside f w
  where
    inside : (a : Atom) → IsWeak a → AtomIn Fields a
    inside (Compare r g) h = tt
    inside (Congruent holds n g) h = h

-- ---- the test points

weak_mirrored : (r : Relation) → IsWeakRelation r → IsWeakRelation (mirrored r)
weak_mirrored Equals h = h
weak_mirrored Differs h = h
weak_mirrored Below h = h
weak_mirrored AtMost h = h
weak_mirrored Above h = h
weak_mirrored AtLeast h = h

end_weak : (r : Relation) (e : Form) (d : ℕ) → IsWeakRelation r → (s : Place) → Among (ends_of Lower r e d) s → IsWeakPlace s
end_weak Equals e d h s (inl i) = subst IsWeakPlace i tt
end_weak Equals e d h s (inr i) = absurd i
end_weak Differs e d h s i = absurd h
end_weak Below e d h s i = absurd h
end_weak AtMost e d h s i = absurd i
end_weak Above e d h s i = absurd h
end_weak AtLeast e d h s (inl i) = subst IsWeakPlace i tt
end_weak AtLeast e d h s (inr i) = absurd i

comparison_weak : (c : ℤ) (r : Relation) (t : Form) → IsWeakRelation r → (s : Place) → Among (comparison_points Lower c r t) s → IsWeakPlace s
comparison_weak (pos zero) r t h s i = absurd i
comparison_weak (pos (suc n)) r t h s i = end_weak r (scale (negsuc 0) t) (suc n) h s i
comparison_weak (negsuc n) r t h s i = end_weak (mirrored r) t (suc n) (weak_mirrored r h) s i

atom_weak : (x : ℕ) (a : Atom) → IsWeak a → (s : Place) → Among (atom_points Lower x a) s → IsWeakPlace s
atom_weak x (Compare r f) h s i = comparison_weak (coefficient x f) r (without x f) h s i
atom_weak x (Congruent holds n f) h s i = absurd h

pub points_weak : (x : ℕ) (f : Tree) → Every IsWeak f → (s : Place) → Among (field_points Lower x f) s → IsWeakPlace s
points_weak x f w s m = go (distinct_among same_place (MinusInfinity ∷ flat_map (atom_points Lower x) (atoms_of f)) s m)
  where
    go : Among (MinusInfinity ∷ flat_map (atom_points Lower x) (atoms_of f)) s → IsWeakPlace s
    go (inl e) = subst IsWeakPlace e tt
    go (inr n) =
        let r = flat_map_among (atom_points Lower x) (atoms_of f) s n in
        atom_weak x r.0 (each_among IsWeak (atoms_of f) r.0 (atoms_of_every IsWeak f w) r.1) s r.2

-- ---- what is put in

exactly_weak : (c : ℤ) (r : Relation) (f v : Form) → IsWeakRelation r → Every IsWeak (exactly c r f v)
exactly_weak (pos zero) r f v h = h
exactly_weak (pos (suc n)) r f v h = h
exactly_weak (negsuc n) r f v h = h

below_weak : (r : Relation) → Every IsWeak (below_all r)
below_weak Equals = tt
below_weak Differs = tt
below_weak Below = tt
below_weak AtMost = tt
below_weak Above = tt
below_weak AtLeast = tt

beyond_weak : (c : ℤ) (r : Relation) (f : Form) → IsWeakRelation r → Every IsWeak (beyond c r f)
beyond_weak (pos zero) r f h = h
beyond_weak (pos (suc n)) r f h = below_weak r
beyond_weak (negsuc n) r f h = below_weak (mirrored r)

put_weak : (x : ℕ) (s : Place) → IsWeakPlace s → (a : Atom) → IsWeak a → Every IsWeak (field_atom x s a)
put_weak x (Exact e d) p (Compare r f) h = exactly_weak (coefficient x f) r f (form_at x e d f) h
put_weak x (AboveBy e d) p (Compare r f) h = absurd p
put_weak x (BelowBy e d) p (Compare r f) h = absurd p
put_weak x PlusInfinity p (Compare r f) h = absurd p
put_weak x MinusInfinity p (Compare r f) h = beyond_weak (coefficient x f) r f h
put_weak x (Periodic a q) p (Compare r f) h = absurd p
put_weak x s p (Congruent holds n f) h = absurd h

substitution_weak : (x : ℕ) (s : Place) (f : Tree) → IsWeakPlace s → Every IsWeak f → Every IsWeak (field_substitution x s f)
substitution_weak x s f p w = every_replaced (field_atom x s) (λ y. y) IsWeak f (every_map IsWeak (λ a. Every IsWeak (field_atom x s a)) (put_weak x s p) f w)

trees_weak : (put : Place → Tree) (places : List Place) → ((s : Place) → Among places s → Every IsWeak (put s)) → EveryOf IsWeak (trees_at put places)
trees_weak put [] h = tt
trees_weak put (s ∷ places) h = (h s (inl refl), trees_weak put places (λ q m. h q (inr m)))

elimination_weak : (x : ℕ) (f : Tree) → Every IsWeak f → Every IsWeak (field_elimination Lower x f)
elimination_weak x f w = trees_weak (λ s. field_substitution x s f) (field_points Lower x f) (λ s m. substitution_weak x s f (points_weak x f w s m) w)

-- ---- quantifiers

one_weak : (x : ℕ) (f g : Tree) → IsWeakEquivalent f g → IsWeakEquivalent (Ex x f) (field_elimination Lower x g)
one_weak x f g h =
    let inside = weak_in_fields g h.weak in
    record {
      is_plain = (field_elimination_tree Lower x g h.is_plain inside).0;
      weak = elimination_weak x g h.weak;
      equivalent = λ p o.
          let e = field_elimination_exact Lower x g h.is_plain inside p o in (
            λ t. e.0 (t.0, t.1, t.2, (h.equivalent (move nat_eq p x t.0 t.1) (moved_of Fields p x t.0 t.1 o t.2)).0 t.3),
            λ t. let u = e.1 t in (u.0, u.1, u.2, (h.equivalent (move nat_eq p x u.0 u.1) (moved_of Fields p x u.0 u.1 o u.2)).1 u.3),
          );
    }

pub stays_weak : WeakStaysWeak
stays_weak [] f s w = (f, record { is_plain = s; weak = w; equivalent = λ p o. (λ t. t, λ t. t) })
stays_weak (x ∷ xs) f s w = let r = stays_weak xs f s w in (field_elimination Lower x r.0, one_weak x (exs xs f) r.0 r.1)
