-- The truth of lists that are cut member by member.
use Rattle.std.proofs.Common.{◌≡◌, ℕ, ◌≤◌, Bool, true, false, List, [], ◌∷◌, ◌++◌, get_or, map, inl, inr, ⊎_elim, ◌↔◌, refl, sym, subst, arith}
use Rattle.std.proofs.lemmas.Int.{ints}
use Rattle.logic_meaning.specs.Context.{Context}
use Rattle.logic_meaning.specs.Point.{Point, Of}
use Rattle.logic_meaning.specs.Form.{value}
use Rattle.logic_meaning.specs.Formula.{Yes, No, One, And, Or}
use Rattle.logic_meaning.specs.Plain.{IsAtomic}
use Rattle.logic_meaning.specs.Sizes.{nodes, all_nodes}
use Rattle.logic_meaning.specs.Atom.{Atom, Says}
use Rattle.logic_meaning.specs.Tree.{Tree, TrueAt}
use Rattle.formula_tree.specs.Trees.{members}
use Rattle.case_theory.proofs.Under.{under_then}
use Rattle.atom_pruning.specs.declared.rows.AtomRows.{AtomRows}
use Rattle.atom_pruning.specs.Rows.{AreRowsOf, AreRows}
use Rattle.atom_pruning.specs.Kept.{AllSay, marked, AreImpossible, AreEnough}
use Rattle.branch_pruning.specs.Cuts.{IsCut, AreCut, stays, goes, fails, never, conjunction, disjunction, no_member, one_more, IsCutTo, IsInsideCutTo, IsDecidedTo, AreAll, AreToldBy, always, said, left_of, left_by}

-- ---- rows of lists of atoms

module _ (c : Context) where
  pub rows_joined : (us vs : List Atom) (rs qs : List AtomRows) → AreRows c us rs → AreRows c vs qs → AreRows c (us ++ vs) (rs ++ qs)
  rows_joined [] vs [] qs h k = k
  rows_joined [] vs (r ∷ rs) qs h k = absurd h
  rows_joined (u ∷ us) vs [] qs h k = absurd h
  rows_joined (u ∷ us) vs (r ∷ rs) qs h k = (h.0, rows_joined us vs rs qs h.1 k)

pub says_joined : (us vs : List Atom) (p : Point ℕ) → AllSay us p → AllSay vs p → AllSay (us ++ vs) p
says_joined [] vs p h k = k
says_joined (u ∷ us) vs p h k = (h.0, says_joined us vs p h.1 k)

pub told_more : (c : Context) (ks us : List Atom) (rows : List AtomRows) (a : Atom) (r : AtomRows) → AreToldBy c ks us rows → AreRowsOf c a r → ((p : Point ℕ) → AllSay us p → Says a p) → AreToldBy c ks us (rows ++ r ∷ [])
told_more c ks us rows a r t h k = record {
  atoms = t.atoms ++ a ∷ [];
  are = rows_joined c t.atoms (a ∷ []) rows (r ∷ []) t.are (h, tt);
  told = λ p o s u. says_joined t.atoms (a ∷ []) p (t.told p o s u) (k p u, tt);
}

-- ---- what members say

always_true : (p : Point ℕ) → Says always p
unfolding value
always_true p = omega (arith, ints)

module _ (c : Context) (p : Point ℕ) where
  abbrev AllTrue : List Tree → Type 0
  AllTrue fs = TrueAt c (And (members fs)) p

  said_true : (f : Tree) → TrueAt c f p → Says (said f) p
  said_true (One a) t = t
  said_true f t = always_true p

  pub all_said : (fs : List Tree) → AllTrue fs → AllSay (map said fs) p
  all_said [] t = tt
  all_said (f ∷ fs) t = (said_true f t.0, all_said fs t.1)

  marked_say : (bs : List Bool) (us : List Atom) → AllSay us p → AllSay (marked bs us) p
  marked_say [] us h = tt
  marked_say (b ∷ bs) [] h = tt
  marked_say (true ∷ bs) (u ∷ us) h = (h.0, marked_say bs us h.1)
  marked_say (false ∷ bs) (u ∷ us) h = marked_say bs us h.1

  -- ---- members without their implied atoms

  left_true : (b : Bool) (f : Tree) → TrueAt c f p → TrueAt c (left_of b f) p
  left_true true f t = t
  left_true false (One a) t = tt
  left_true false f t = t

  all_left_true : (bs : List Bool) (fs : List Tree) → AllTrue fs → AllTrue (left_by bs fs)
  all_left_true [] fs t = t
  all_left_true (b ∷ bs) [] t = tt
  all_left_true (b ∷ bs) (f ∷ fs) t = (left_true b f t.0, all_left_true bs fs t.1)

  left_back : (b : Bool) (f : Tree) → TrueAt c (left_of b f) p → Says (said f) p → TrueAt c f p
  left_back true f t s = t
  left_back false (One a) t s = s
  left_back false f t s = t

  all_left_back : (bs : List Bool) (fs : List Tree) → AllTrue (left_by bs fs) → AllSay (map said fs) p → AllTrue fs
  all_left_back [] fs t s = t
  all_left_back (b ∷ bs) [] t s = tt
  all_left_back (b ∷ bs) (f ∷ fs) t s = (left_back b f t.0 s.0, all_left_back bs fs t.1 s.1)

  -- ---- members that are cut

  module _ (rows : List AtomRows) where
    -- an atom that stays is said
    stays_said : (f g : Tree) → IsInsideCutTo c rows f g → TrueAt c g p → Says (said f) p
    stays_said (One a) g h t = subst (λ k. TrueAt c k p) (h.atomic tt) t
    stays_said f g h t = always_true p

    all_stay_said : (bs : List Bool) (fs gs : List Tree) → AreAll (IsInsideCutTo c rows) (left_by bs fs) gs → AllTrue gs → AllSay (marked bs (map said fs)) p
    all_stay_said [] fs gs h t = tt
    all_stay_said (b ∷ bs) [] gs h t = tt
    all_stay_said (b ∷ bs) (f ∷ fs) [] h t = absurd h
    all_stay_said (true ∷ bs) (f ∷ fs) (g ∷ gs) h t = (stays_said f g h.0 t.0, all_stay_said bs fs gs h.1 t.1)
    all_stay_said (false ∷ bs) (f ∷ fs) (g ∷ gs) h t = all_stay_said bs fs gs h.1 t.1

    module _ (ks : List Atom) (are : AreRows c ks rows) (o : Of c p) (s : AllSay ks p) where
      all_cut_true : (fs gs : List Tree) → AreAll (IsInsideCutTo c rows) fs gs → AllTrue fs ↔ AllTrue gs
      all_cut_true [] [] h = (λ t. t, λ t. t)
      all_cut_true [] (g ∷ gs) h = absurd h
      all_cut_true (f ∷ fs) [] h = absurd h
      all_cut_true (f ∷ fs) (g ∷ gs) h =
          let i = h.0.to.equivalent ks are p o s in let j = all_cut_true fs gs h.1 in
          (λ t. (i.0 t.0, j.0 t.1), λ t. (i.1 t.0, j.1 t.1))

      some_cut_true : (fs gs : List Tree) → AreAll (IsCutTo c rows) fs gs → TrueAt c (Or (members fs)) p ↔ TrueAt c (Or (members gs)) p
      some_cut_true [] [] h = (λ t. t, λ t. t)
      some_cut_true [] (g ∷ gs) h = absurd h
      some_cut_true (f ∷ fs) [] h = absurd h
      some_cut_true (f ∷ fs) (g ∷ gs) h =
          let i = h.0.equivalent ks are p o s in let j = some_cut_true fs gs h.1 in
          (⊎_elim (λ t. inl (i.0 t)) (λ t. inr (j.0 t)), ⊎_elim (λ t. inl (i.1 t)) (λ t. inr (j.1 t)))

-- ---- lists

module _ (c : Context) (rows : List AtomRows) where
  some_are_cut : (fs gs : List Tree) → AreAll (IsCutTo c rows) fs gs → AreCut (members fs) (members gs)
  some_are_cut [] [] h = no_member
  some_are_cut [] (g ∷ gs) h = absurd h
  some_are_cut (f ∷ fs) [] h = absurd h
  some_are_cut (f ∷ fs) (g ∷ gs) h = one_more h.0.cut (some_are_cut fs gs h.1)

  all_are_cut : (fs gs : List Tree) → AreAll (IsInsideCutTo c rows) fs gs → AreCut (members fs) (members gs)
  all_are_cut [] [] h = no_member
  all_are_cut [] (g ∷ gs) h = absurd h
  all_are_cut (f ∷ fs) [] h = absurd h
  all_are_cut (f ∷ fs) (g ∷ gs) h = one_more h.0.to.cut (all_are_cut fs gs h.1)

  left_cut : (b : Bool) (f g : Tree) → IsInsideCutTo c rows (left_of b f) g → IsCut f g
  left_cut true f g h = h.to.cut
  left_cut false (One a) g h = subst (IsCut (One a)) (sym (h.atomic tt)) goes
  left_cut false f g h = h.to.cut

  left_are_cut : (bs : List Bool) (fs gs : List Tree) → AreAll (IsInsideCutTo c rows) (left_by bs fs) gs → AreCut (members fs) (members gs)
  left_are_cut [] fs gs h = all_are_cut fs gs h
  left_are_cut (b ∷ bs) [] [] h = no_member
  left_are_cut (b ∷ bs) [] (g ∷ gs) h = absurd h
  left_are_cut (b ∷ bs) (f ∷ fs) [] h = absurd h
  left_are_cut (b ∷ bs) (f ∷ fs) (g ∷ gs) h = one_more (left_cut b f g h.0) (left_are_cut bs fs gs h.1)

  cut_itself : (f : Tree) → IsCutTo c rows f f
  cut_itself f = record { cut = stays; equivalent = λ ks h p o t. (λ u. u, λ u. u) }

  pub inside_itself : (f : Tree) → IsInsideCutTo c rows f f
  inside_itself f = record { to = cut_itself f; atomic = λ h. refl }

  pub disjunction_cut : (fs gs : List Tree) → AreAll (IsCutTo c rows) fs gs → IsInsideCutTo c rows (Or (members fs)) (Or (members gs))
  disjunction_cut fs gs h = record {
    to = record { cut = disjunction (some_are_cut fs gs h); equivalent = λ ks are p o s. some_cut_true c p rows ks are o s fs gs h };
    atomic = λ e. absurd e;
  }

  pub impossible_cut : (fs : List Tree) → ((ks : List Atom) → AreRows c ks rows → AreImpossible c ks (map said fs)) → IsInsideCutTo c rows (And (members fs)) No
  impossible_cut fs h = record {
    to = record { cut = never; equivalent = λ ks are p o s. (λ t. h ks are p o s (all_said c p fs t), λ t. absurd t) };
    atomic = λ e. absurd e;
  }

-- The members that stay are cut under what they say.
pub conjunction_cut : (c : Context) (rows inner : List AtomRows) (bs : List Bool) (fs gs : List Tree) → ((ks : List Atom) → AreRows c ks rows → AreEnough c ks (map said fs) bs) →
    ((ks : List Atom) → AreRows c ks rows → AreToldBy c ks (marked bs (map said fs)) inner) → AreAll (IsInsideCutTo c inner) (left_by bs fs) gs → IsInsideCutTo c rows (And (members fs)) (And (members gs))
conjunction_cut c rows inner bs fs gs enough told h = record {
  to = record {
    cut = conjunction (left_are_cut c inner bs fs gs h);
    equivalent = λ ks are p o s.
        let t = told ks are in
        let inside = λ (m : AllSay (marked bs (map said fs)) p). all_cut_true c p inner t.atoms t.are o (t.told p o s m) (left_by bs fs) gs h in (
          λ u. (inside (marked_say c p bs (map said fs) (all_said c p fs u))).0 (all_left_true c p bs fs u),
          λ u.
              let m = all_stay_said c p inner bs fs gs h u in
              all_left_back c p bs fs ((inside m).1 u) ((enough ks are).enough p o s m),
        );
  };
  atomic = λ e. absurd e;
}

all_stay : (c : Context) (rows : List AtomRows) (fs : List Tree) → AreAll (IsInsideCutTo c rows) fs fs
all_stay c rows [] = tt
all_stay c rows (f ∷ fs) = (inside_itself c rows f, all_stay c rows fs)

-- The members that stay are left as they are.
pub conjunction_left : (c : Context) (rows : List AtomRows) (bs : List Bool) (fs : List Tree) → ((ks : List Atom) → AreRows c ks rows → AreEnough c ks (map said fs) bs) →
    IsInsideCutTo c rows (And (members fs)) (And (members (left_by bs fs)))
conjunction_left c rows bs fs enough =
    conjunction_cut c rows rows bs fs (left_by bs fs) enough (λ ks are. record { atoms = ks; are = are; told = λ p o s u. s }) (all_stay c rows (left_by bs fs))

-- ---- sizes

left_nodes : (b : Bool) (f : Tree) → nodes (left_of b f) ≤ nodes f
left_nodes true f = omega arith
left_nodes false (One a) = omega arith
left_nodes false f = omega arith

pub left_few : (bs : List Bool) (fs : List Tree) → all_nodes (members (left_by bs fs)) ≤ all_nodes (members fs)
left_few [] fs = omega arith
left_few (b ∷ bs) [] = omega arith
left_few (b ∷ bs) (f ∷ fs) = let i = left_nodes b f in let j = left_few bs fs in omega arith

-- ---- an atom that is decided

none_say : (a : Atom) (bs : List Bool) (p : Point ℕ) → get_or bs 0 false ≡ false → AllSay (marked bs (a ∷ [])) p
none_say a [] p e = tt
none_say a (true ∷ bs) p e = cc
none_say a (false ∷ []) p e = tt
none_say a (false ∷ b ∷ bs) p e = tt

module _ (c : Context) (rows : List AtomRows) where
  pub undecided : (f : Tree) → IsDecidedTo c rows f f
  undecided f = record { to = cut_itself c rows f; either = inl refl }

  pub never_true : (a : Atom) → ((ks : List Atom) → AreRows c ks rows → AreImpossible c ks (a ∷ [])) → IsDecidedTo c rows (One a) No
  never_true a h = record { to = record { cut = fails; equivalent = λ ks are p o s. (λ t. h ks are p o s (t, tt), λ t. absurd t) }; either = inr tt }

  pub always_said : (a : Atom) (bs : List Bool) → get_or bs 0 false ≡ false → ((ks : List Atom) → AreRows c ks rows → AreEnough c ks (a ∷ []) bs) → IsDecidedTo c rows (One a) Yes
  always_said a bs e h = record { to = record { cut = goes; equivalent = λ ks are p o s. (λ t. tt, λ t. ((h ks are).enough p o s (none_say a bs p e)).0) }; either = inr tt }

  -- decided, and cut
  pub decided_cut : (f h g : Tree) → IsDecidedTo c rows f h → IsInsideCutTo c rows h g → IsCutTo c rows f g
  decided_cut f h g d k = record {
    cut = ⊎_elim (λ (e : h ≡ f). subst (λ z. IsCut z g) e k.to.cut) (λ (a : IsAtomic h). subst (IsCut f) (sym (k.atomic a)) d.to.cut) d.either;
    equivalent = λ ks are. under_then c ks f h g (d.to.equivalent ks are) (k.to.equivalent ks are);
  }
