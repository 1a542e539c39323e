-- The ends of the names, counted term by term and atom by atom.
use Rattle.std.proofs.Common.{◌≡◌, inl, inr, ℕ, zero, suc, ◌+◌, ◌^◌, ◌<◌, ◌≤◌, length-take, Bool, true, false, List, [], ◌∷◌, ◌++◌, map, length, take, get_or, Option, Some, None, count_by, cond, nat_eq, is_some, sym, ap, ap₂, ◌∙◌, subst, refl, arith, if◌then◌else◌}
use Rattle.std.proofs.Math.IntN.{ℤ, pos, negsuc, neg_ℤ, ◌+ℤ◌}
use Rattle.std.specs.Prelude.{slice_get, option_map, nat_lt, ◌/◌}
use Rattle.std.specs.Ordering.{int_eq}
use Rattle.std.specs.Cmp.{signed_Decides}
use Rattle.std.proofs.lemmas.Bool.{cases_eq}
use Rattle.std.proofs.lemmas.List.{take_all, map-append, length-map}
use Rattle.std.proofs.lemmas.List.Sums.{sum_by-cons, count_by-le-length}
use Rattle.std.proofs.lemmas.Option.{slice_get-get_or}
use Rattle.logic_meaning.specs.Form.{Form, Term, multiple, coefficient, without, scale}
use Rattle.logic_meaning.specs.Sorted.{AllAbove, IsRising, AllNonzero}
use Rattle.logic_meaning.specs.Atom.{Atom, Relation, Compare, Congruent, Equals, Differs, Below, AtMost, Above, AtLeast, mirrored, form_of}
use Rattle.formula_laws.proofs.Sorted.{here, elsewhere}
use Rattle.logic_meaning.specs.Side.{turned}
use Rattle.logic_meaning.specs.declared.side.Side.{Side}
use Rattle.logic_meaning.specs.IntegersPoints.{starts_of, comparison_starts}
use Rattle.logic_meaning.specs.Reference.{stands_among}
use Rattle.logic_meaning.specs.declared.form.VarId.{VarId}
use Rattle.linear_forms.specs.Linear.{term_of}
use Rattle.test_points.specs.Starts.{has_end}
use Rattle.normal_atoms.specs.declared.atoms.Atom as program
use Rattle.normal_atoms.specs.Atoms.{atom_of}
use Rattle.formula_tree.specs.declared.shape.Shape.{Shape}
use Rattle.formula_tree.specs.declared.shape.Shape.TheVariants as shape
use Rattle.formula_store.specs.declared.id.FormulaId.{FormulaId}
use Rattle.branch_points.specs.declared.ends.Ends.{Ends}
use Rattle.branch_points.specs.Chosen.{shape_atoms, listed_atoms}
use Rattle.branch_points.specs.Ends.{once, ends_with, end_count, AreEnds, HaveMore, HaveTerm, HasRoom}
use Rattle.branch_points.proofs.ListedAtoms.{listed_more, listed_few}

-- ---- the first terms of a form

above_of : (x : ℕ) (ts : List Term) (i : ℕ) (t : Term) → AllAbove x ts → slice_get ts i ≡ Some t → x < t.name
above_of x [] i t a e = absurd (cc)
above_of x (s ∷ ts) zero t a e = let k : s ≡ t = cc in subst (λ (u : Term). x < u.name) k a.0
above_of x (s ∷ ts) (suc i) t a e = above_of x ts i t a.1 e

-- a name does not stand before its term
before : (ts : List Term) (i : ℕ) (t : Term) → IsRising ts → slice_get ts i ≡ Some t → multiple t.name (take i ts) ≡ pos 0
before [] i t r e = absurd (cc)
before (s ∷ ts) zero t r e = refl
before (s ∷ ts) (suc i) t r e = elsewhere t.name s (take i ts) (λ (k : s.name ≡ t.name). let a = above_of s.name ts i t r.0 e in omega arith) ∙ before ts i t r.1 e

own_suc : (ts : List Term) (i : ℕ) (t : Term) → IsRising ts → slice_get ts i ≡ Some t → multiple t.name (take (suc i) ts) ≡ t.times
own_suc [] i t r e = absurd (cc)
own_suc (s ∷ ts) zero t r e = let k : s ≡ t = cc in subst (λ (u : Term). multiple u.name (s ∷ []) ≡ u.times) k (here s.name s [] refl tt)
own_suc (s ∷ ts) (suc i) t r e = elsewhere t.name s (take (suc i) ts) (λ (k : s.name ≡ t.name). let a = above_of s.name ts i t r.0 e in omega arith) ∙ own_suc ts i t r.1 e

other_suc : (x : ℕ) (ts : List Term) (i : ℕ) (t : Term) → slice_get ts i ≡ Some t → ¬ (x ≡ t.name) → multiple x (take (suc i) ts) ≡ multiple x (take i ts)
other_suc x [] i t e n = absurd (cc)
other_suc x (s ∷ ts) zero t e n = let k : s ≡ t = cc in elsewhere x s [] (λ (m : s.name ≡ x). n (sym m ∙ ap (λ (u : Term). u.name) k))
other_suc x (s ∷ ts) (suc i) t e n = ap (λ (z : ℤ). if nat_eq x s.name then s.times +ℤ z else z) (other_suc x ts i t e n)

nonzero_at : (ts : List Term) (i : ℕ) (t : Term) → AllNonzero ts → slice_get ts i ≡ Some t → ¬ (t.times ≡ pos 0)
nonzero_at [] i t a e = absurd (cc)
nonzero_at (s ∷ ts) zero t a e = let k : s ≡ t = cc in subst (λ (u : Term). ¬ (u.times ≡ pos 0)) k a.0
nonzero_at (s ∷ ts) (suc i) t a e = nonzero_at ts i t a.1 e

-- there is a term at each place
pub no_term : (o : Option (VarId × ℤ)) (ts : List Term) (i : ℕ) → ((p : VarId × ℤ) → ¬ (o ≡ Some p)) → option_map term_of o ≡ slice_get ts i → ¬ (i < length ts)
no_term None ts i n e h = let s : slice_get ts i ≡ Some (get_or ts i (record { times = pos 0; name = 0 })) = slice_get-get_or ts i (record { times = pos 0; name = 0 }) h in absurd (cc)
no_term (Some p) ts i n e h = n p refl

-- ---- the ends of an atom

starts_alike : (side : Side) (r : Relation) (v w : Form) → nat_lt 0 (length (starts_of side r v)) ≡ nat_lt 0 (length (starts_of side r w))
starts_alike side Equals v w = refl
starts_alike side Differs v w = refl
starts_alike side Below v w = refl
starts_alike side AtMost v w = refl
starts_alike side Above v w = refl
starts_alike side AtLeast v w = refl

comparison_alike : (side : Side) (k : ℤ) (r : Relation) (v w : Form) → nat_lt 0 (length (comparison_starts side 1 k r v)) ≡ nat_lt 0 (length (comparison_starts side 1 k r w))
comparison_alike side (pos zero) r v w = refl
comparison_alike side (pos (suc n)) r v w = starts_alike side (turned side r) (scale (neg_ℤ (pos (1 / suc n))) v) (scale (neg_ℤ (pos (1 / suc n))) w)
comparison_alike side (negsuc n) r v w = starts_alike side (turned side (mirrored r)) (scale (pos (1 / suc n)) v) (scale (pos (1 / suc n)) w)

-- the coefficient of a name tells whether it has an end
end_told : (side : Side) (x : ℕ) (a : Atom) → ends_with side a (coefficient x (form_of a)) ≡ has_end side x a
end_told side x (Compare r f) = comparison_alike side (coefficient x f) r f (without x f)
end_told side x (Congruent holds m f) = refl

-- a name that does not stand there has none
no_end : (side : Side) (a : Atom) → ends_with side a (pos 0) ≡ false
no_end side (Compare r f) = refl
no_end side (Congruent holds m f) = refl

-- ---- one term more

module _ (a : Atom) (ts : List Term) (i : ℕ) (t : Term) (old mid new : ℕ → Option Ends)
    (rising : IsRising ts) (nonzero : AllNonzero ts) (at : slice_get ts i ≡ Some t)
    (so_far : HaveMore a (λ x. multiple x (take i ts)) old mid) (term : HaveTerm a t.name t.times mid new) where
  own_counts : (side : Side) → end_count side (new t.name) ≡ end_count side (old t.name) + once (ends_with side a (multiple t.name (take (suc i) ts)))
  own_counts side =
      let none : once (ends_with side a (multiple t.name (take i ts))) ≡ 0 = ap (λ (k : ℤ). once (ends_with side a k)) (before ts i t rising at) ∙ ap once (no_end side a) in
      let one : once (ends_with side a (multiple t.name (take (suc i) ts))) ≡ once (ends_with side a t.times) = ap (λ (k : ℤ). once (ends_with side a k)) (own_suc ts i t rising at) in
      let e = so_far.counts side t.name in let f = term.counts side in omega arith

  own_stands : is_some (new t.name) ≡ (if int_eq (multiple t.name (take (suc i) ts)) (pos 0) then is_some (old t.name) else true)
  own_stands = term.stands ∙ sym (ap (λ (k : ℤ). if int_eq k (pos 0) then is_some (old t.name) else true) (own_suc ts i t rising at) ∙ go (int_eq t.times (pos 0)) refl)
    where
      go : (b : Bool) → int_eq t.times (pos 0) ≡ b → (if b then is_some (old t.name) else true) ≡ true
      go true e = absurd (nonzero_at ts i t nonzero at ((signed_Decides t.times (pos 0)).0 e))
      go false e = refl

  more_suc : HaveMore a (λ x. multiple x (take (suc i) ts)) old new
  more_suc = record {
    counts = λ side x.
        elim (cases_eq x t.name) [
          | inl e ↦ subst (λ (y : ℕ). end_count side (new y) ≡ end_count side (old y) + once (ends_with side a (multiple y (take (suc i) ts)))) (sym e) (own_counts side)
          | inr n ↦ ap (end_count side) (term.others x n) ∙ so_far.counts side x ∙ ap (λ (k : ℤ). end_count side (old x) + once (ends_with side a k)) (sym (other_suc x ts i t at n))
        ];
    stands = λ x.
        elim (cases_eq x t.name) [
          | inl e ↦ subst (λ (y : ℕ). is_some (new y) ≡ (if int_eq (multiple y (take (suc i) ts)) (pos 0) then is_some (old y) else true)) (sym e) own_stands
          | inr n ↦ ap is_some (term.others x n) ∙ so_far.stands x ∙ ap (λ (k : ℤ). if int_eq k (pos 0) then is_some (old x) else true) (sym (other_suc x ts i t at n))
        ];
  }

  pub term_more : HaveMore a (λ x. multiple x (take (i + 1) ts)) old new
  term_more = let n : suc i ≡ i + 1 = omega arith in subst (λ (k : ℕ). HaveMore a (λ x. multiple x (take k ts)) old new) n more_suc

-- there is room for the end of a name that has not come yet
pub term_room : (a : Atom) (ts : List Term) (i : ℕ) (t : Term) (old mid : ℕ → Option Ends) → IsRising ts → slice_get ts i ≡ Some t →
    HaveMore a (λ x. multiple x (take i ts)) old mid → HasRoom (old t.name) → HasRoom (mid t.name)
term_room a ts i t old mid rising at so_far room side =
    let none : once (ends_with side a (multiple t.name (take i ts))) ≡ 0 = ap (λ (k : ℤ). once (ends_with side a k)) (before ts i t rising at) ∙ ap once (no_end side a) in
    let e = so_far.counts side t.name in
    let r = room side in omega arith

-- all terms are counted
pub terms_all : (a : Atom) (f : Form) (i : ℕ) (old new : ℕ → Option Ends) → f ≡ form_of a → length f.terms ≤ i →
    HaveMore a (λ x. multiple x (take i f.terms)) old new → HaveMore a (λ x. coefficient x (form_of a)) old new
unfolding coefficient
terms_all a f i old new e h m =
    let whole : take i f.terms ≡ f.terms = take_all i f.terms h in
    let all : HaveMore a (λ x. multiple x f.terms) old new = subst (λ (ts : List Term). HaveMore a (λ x. multiple x ts) old new) whole m in
    subst (λ (g : Form). HaveMore a (λ x. multiple x g.terms) old new) e all

-- ---- one atom more

count_last : (p : Atom → Bool) (atoms : List Atom) (a : Atom) → count_by p (atoms ++ a ∷ []) ≡ count_by p atoms + once (p a)
count_last p [] a = sum_by-cons (λ (b : Atom). cond (p b) 1 0) a [] ∙ omega arith
count_last p (b ∷ atoms) a =
    let whole : count_by p (b ∷ (atoms ++ a ∷ [])) ≡ cond (p b) 1 0 + count_by p (atoms ++ a ∷ []) = sum_by-cons (λ (d : Atom). cond (p d) 1 0) b (atoms ++ a ∷ []) in
    let front : count_by p (b ∷ atoms) ≡ cond (p b) 1 0 + count_by p atoms = sum_by-cons (λ (d : Atom). cond (p d) 1 0) b atoms in
    let more = count_last p atoms a in omega arith

stands_last : (x : ℕ) (atoms : List Atom) (a : Atom) → stands_among x (atoms ++ a ∷ []) ≡ (if int_eq (coefficient x (form_of a)) (pos 0) then stands_among x atoms else true)
stands_last x [] a = refl
stands_last x (b ∷ atoms) a = ap (λ (r : Bool). if int_eq (coefficient x (form_of b)) (pos 0) then r else true) (stands_last x atoms a) ∙ go (int_eq (coefficient x (form_of b)) (pos 0)) (int_eq (coefficient x (form_of a)) (pos 0)) (stands_among x atoms)
  where
    go : (u v r : Bool) → (if u then (if v then r else true) else true) ≡ (if v then (if u then r else true) else true)
    go true v r = refl
    go false true r = refl
    go false false r = refl

atom_last : (atoms : List Atom) (a : Atom) (old new : ℕ → Option Ends) → AreEnds atoms old → HaveMore a (λ x. coefficient x (form_of a)) old new → AreEnds (atoms ++ a ∷ []) new
atom_last atoms a old new are more = record {
  counts = λ side x.
      more.counts side x
      ∙ ap₂ (λ (m n : ℕ). m + n) (are.counts side x) (ap once (end_told side x a))
      ∙ sym (count_last (has_end side x) atoms a);
  stands = λ x.
      more.stands x
      ∙ ap (λ (r : Bool). if int_eq (coefficient x (form_of a)) (pos 0) then r else true) (are.stands x)
      ∙ sym (stands_last x atoms a);
}

-- the atom of a shape more
pub shape_more : (s : Shape FormulaId) (a : program.Atom) (atoms : List Atom) (old new : ℕ → Option Ends) → s ≡ shape.One a → HaveMore (atom_of a) (λ x. coefficient x (form_of (atom_of a))) old new →
    AreEnds atoms old → AreEnds (atoms ++ map atom_of (shape_atoms s)) new
shape_more s a atoms old new is more are =
    subst (λ (n : Shape FormulaId). AreEnds (atoms ++ map atom_of (shape_atoms n)) new) (sym is) (atom_last atoms (atom_of a) old new are more)

-- ---- one subformula more

module _ (nodes : List (Shape FormulaId)) (ids : List FormulaId) (i : ℕ) (table : ℕ → Option Ends) (are : AreEnds (map atom_of (listed_atoms nodes (take i ids))) table) where
  -- there is room for its ends
  pub ends_room : i < length ids → length ids < 2 ^ 64 → (x : ℕ) → HasRoom (table x)
  ends_room h fits x side =
      let atoms : List program.Atom = listed_atoms nodes (take i ids) in
      let few = listed_few nodes (take i ids) in
      let some = count_by-le-length (has_end side x) (map atom_of atoms) in
      let same = length-map atoms atom_of in
      let taken = length-take i ids in
      let is = are.counts side x in omega arith

  pub node_more : (d : FormulaId) (s : Shape FormulaId) (new : ℕ → Option Ends) → i < length ids → slice_get nodes (get_or ids i d).number ≡ Some s →
      ((atoms : List Atom) → AreEnds atoms table → AreEnds (atoms ++ map atom_of (shape_atoms s)) new) → AreEnds (map atom_of (listed_atoms nodes (take (i + 1) ids))) new
  node_more d s new h at more =
      let mapped : map atom_of (listed_atoms nodes (take (i + 1) ids)) ≡ map atom_of (listed_atoms nodes (take i ids)) ++ map atom_of (shape_atoms s) =
      ap (map atom_of) (listed_more nodes ids i d s h at) ∙ map-append atom_of (listed_atoms nodes (take i ids)) (shape_atoms s) in
      subst (λ (all : List Atom). AreEnds all new) (sym mapped) (more (map atom_of (listed_atoms nodes (take i ids))) are)
