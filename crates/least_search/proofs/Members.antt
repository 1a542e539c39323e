-- A conjunction of weak members is true where their constraints are met.
use Rattle.std.proofs.Common.{◌≡◌, ◌↔◌, ℕ, ◌∷◌, [], Bool, List, map, ap, sym, subst, Some, None, ⊎_elim}
use Rattle.std.specs.Prelude.{Result, Ok, Err, Option, IfOk, IfSome, OnSome}
use Rattle.std.specs.List.{AllByRecursion}
use Rattle.std.specs.declared.vec.Vec.{Vec}
use Rattle.std.specs.declared.alloc.Global.{Global}
use Rattle.std.specs.declared.alloc.AllocError.{AllocError}
use Rattle.logic_meaning.specs.Atom.{Relation, Equals, Differs, Below, AtMost, Above, AtLeast, Compare, Congruent}
use Rattle.logic_meaning.specs.Constraints as meant
use Rattle.logic_meaning.specs.Context.{Fields}
use Rattle.logic_meaning.specs.Every.{Every, EveryOf}
use Rattle.logic_meaning.specs.Form.{Form}
use Rattle.logic_meaning.specs.Formula.{Yes, No, One, Not, And, Or, Impl, Repl, Equiv, Ex, All}
use Rattle.logic_meaning.specs.Plain.{IsPlain, ArePlain}
use Rattle.logic_meaning.specs.Point.{Point, Of}
use Rattle.logic_meaning.specs.Shape.{IsQuantifierFree, AreQuantifierFree}
use Rattle.logic_meaning.specs.Sizes.{subtrees, all_subtrees}
use Rattle.logic_meaning.specs.Some.{Among}
use Rattle.logic_meaning.specs.Tree.{Tree, TrueAt}
use Rattle.formula_laws.proofs.Listed.{among_append}
use Rattle.linear_theory.specs.Meeting.{Meets, MeetsAll}
use Rattle.linear_theory.specs.WeakTargets.{IsWeak, IsWeakRelation}
use Rattle.formula_tree.specs.Trees.{members}
use Rattle.certificates.specs.declared.constraint.Constraint.{Constraint}
use Rattle.certificates.specs.Constraints.{constraint_of}
use Rattle.program_meaning.specs.Certificates.{tree_constraint}
use Rattle.least_search.specs.Problems.{IsWeakMember, AreRowsOf}
use Rattle.least_search.proofs.Constraints.{Bounds, IsBound, meets_constraint}

-- ---- one member

weak_bounds : (r : Relation) → IsWeakRelation r → Bounds r
weak_bounds Equals h = tt
weak_bounds Differs h = absurd h
weak_bounds Below h = absurd h
weak_bounds AtMost h = tt
weak_bounds Above h = absurd h
weak_bounds AtLeast h = tt

-- a weak member is plain, weak, and a bound
record IsFit (f : Tree) : Type 0 where
  is_plain : IsPlain f
  weak : Every IsWeak f
  is_bound : IsBound f
  free : IsQuantifierFree f
  whole : (b : Bool) (n : ℕ) (e : Form) → ¬ (Among (subtrees f) (One (Congruent b n e)))

fit : (f : Tree) → IsWeakMember f → IsFit f
fit Yes h = record { is_plain = tt; weak = tt; is_bound = tt; free = tt; whole = λ b n e. ⊎_elim (λ i. absurd (cc)) (λ i. i) }
fit No h = record { is_plain = tt; weak = tt; is_bound = tt; free = tt; whole = λ b n e. ⊎_elim (λ i. absurd (cc)) (λ i. i) }
fit (One (Compare r g)) h = record { is_plain = tt; weak = h; is_bound = weak_bounds r h; free = tt; whole = λ b n e. ⊎_elim (λ i. absurd (cc)) (λ i. i) }
fit (One (Congruent b n g)) h = absurd h
fit (Not f) h = absurd h
fit (And fs) h = absurd h
fit (Or fs) h = absurd h
fit (Impl f g) h = absurd h
fit (Repl f g) h = absurd h
fit (Equiv f g) h = absurd h
fit (Ex x f) h = absurd h
fit (All x f) h = absurd h

says_one : (f : Tree) → IsWeakMember f → (p : Point ℕ) → Of Fields p → TrueAt Fields f p ↔ Meets p (tree_constraint f)
says_one f h p o = meets_constraint Fields f (fit f h).is_bound p o

pub one_row : (f : Tree) → IsWeakMember f → AreRowsOf f (tree_constraint f ∷ [])
one_row f h = record {
  is_plain = (fit f h).is_plain;
  weak = (fit f h).weak;
  free = (fit f h).free;
  whole = λ b n e i. (fit f h).whole b n e i;
  says = λ p o. let e = says_one f h p o in (λ t. (e.0 t, tt), λ m. e.1 m.0);
}

-- ---- many

module _ {X : Type 0} (t : X → Tree) where
  abbrev AreWeak : List X → Type 0
  AreWeak ids = AllByRecursion (λ id. IsWeakMember (t id)) ids

  plain_members : (ids : List X) → AreWeak ids → ArePlain (members (map t ids))
  plain_members [] h = tt
  plain_members (i ∷ ids) h = ((fit (t i) h.0).is_plain, plain_members ids h.1)

  weak_members : (ids : List X) → AreWeak ids → EveryOf IsWeak (members (map t ids))
  weak_members [] h = tt
  weak_members (i ∷ ids) h = ((fit (t i) h.0).weak, weak_members ids h.1)

  free_members : (ids : List X) → AreWeak ids → AreQuantifierFree (members (map t ids))
  free_members [] h = tt
  free_members (i ∷ ids) h = ((fit (t i) h.0).free, free_members ids h.1)

  whole_members : (ids : List X) → AreWeak ids → (b : Bool) (n : ℕ) (e : Form) → ¬ (Among (all_subtrees (members (map t ids))) (One (Congruent b n e)))
  whole_members [] h b n e m = m
  whole_members (i ∷ ids) h b n e m = ⊎_elim ((fit (t i) h.0).whole b n e) (whole_members ids h.1 b n e) (among_append (subtrees (t i)) (all_subtrees (members (map t ids))) (One (Congruent b n e)) m)

  whole_and : (ids : List X) → AreWeak ids → (b : Bool) (n : ℕ) (e : Form) → ¬ (Among (subtrees (And (members (map t ids)))) (One (Congruent b n e)))
  whole_and ids h b n e = ⊎_elim (λ i. absurd (cc)) (whole_members ids h b n e)

  says_members : (ids : List X) → AreWeak ids → (p : Point ℕ) → Of Fields p → TrueAt Fields (And (members (map t ids))) p ↔ MeetsAll p (map (λ id. tree_constraint (t id)) ids)
  says_members [] h p o = (λ k. tt, λ k. tt)
  says_members (i ∷ ids) h p o =
      let e = says_one (t i) h.0 p o in let r = says_members ids h.1 p o in
      (λ k. (e.0 k.0, r.0 k.1), λ k. (e.1 k.0, r.1 k.1))

  pub members_rows : (ids : List X) → AreWeak ids → AreRowsOf (And (members (map t ids))) (map (λ id. tree_constraint (t id)) ids)
  members_rows ids h = record { is_plain = plain_members ids h; weak = weak_members ids h; free = free_members ids h; whole = whole_and ids h; says = says_members ids h }

  -- ---- what the program found

  abbrev RowsOrNot : Type 0
  RowsOrNot = Result (Option (Vec Constraint Global)) AllocError

  pub rows_found : (f : Tree) (ids : List X) (r : RowsOrNot) → (AreWeak ids → AreRowsOf f (map (λ id. tree_constraint (t id)) ids)) → IfOk r (λ o. OnSome o (AreWeak ids))
      → IfOk r (λ o. IfSome o (λ rows. map constraint_of rows.items ≡ map (λ id. tree_constraint (t id)) ids)) → IfOk r (λ o. IfSome o (λ rows. AreRowsOf f (map constraint_of rows.items)))
  rows_found f ids (Err e) k w h = tt
  rows_found f ids (Ok None) k w h = tt
  rows_found f ids (Ok (Some rows)) k w h = subst (AreRowsOf f) (sym h) (k w)
