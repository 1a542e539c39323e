-- The children of a branch, one point after the other.
use Rattle.std.proofs.Common.{◌≡◌, ℕ, zero, suc, ◌<◌, ◌≤◌, ◌+◌, length-append, List, [], ◌∷◌, ◌++◌, map, length, get_or, Some, refl, sym, ap, ◌∙◌, subst, arith, inl, inr}
use Rattle.std.specs.Prelude.{Bool, Option, None, IfSome, IsSomeAnd, IsTrue, option_map, option_to_list}
use Rattle.logic_meaning.specs.Context.{Context, Fields, Integers}
use Rattle.logic_meaning.specs.Atom.{Atom}
use Rattle.logic_meaning.specs.Answer.{Place}
use Rattle.logic_meaning.specs.Formula.{Yes}
use Rattle.logic_meaning.specs.Fold.{fold_list}
use Rattle.logic_meaning.specs.declared.junction.Junction.TheVariants.{Conjunction}
use Rattle.logic_meaning.specs.NegationNormal.{both}
use Rattle.logic_meaning.specs.Some.{Among, EachOf}
use Rattle.logic_meaning.specs.Tree.{Tree, TrueAt}
use Rattle.std.proofs.lemmas.List.{append-nil, map-append, same_from_push}
use Rattle.logic_meaning.specs.BothTheories.{IsPlaceIn}
use Rattle.logic_meaning.specs.Steps.{result_at}
use Rattle.elimination_theory.proofs.SomeListed.{each_append}
use Rattle.elimination_theory.specs.Theorems.{IsTidy}
use Rattle.elimination_theory.proofs.Tidy.{result_tidy}
use Rattle.logic_meaning.specs.NormalForm.{normal_atom}
use Rattle.logic_meaning.specs.declared.form.VarId.{VarId}
use Rattle.formula_tree.specs.declared.shape.Shape.{Shape}
use Rattle.formula_tree.specs.Makers.{AreMade, Keeps}
use Rattle.formula_store.specs.declared.id.FormulaId.{FormulaId}
use Rattle.formula_store.specs.Nodes.{tree, IsId}
use Rattle.nnf_trees.specs.Placed.{put}
use Rattle.nnf_trees.proofs.ResultLaws.{guard_folded}
use Rattle.test_points.specs.declared.points.TestPoint.{TestPoint}
use Rattle.test_points.specs.Points.{place_of, IsPointOf}
use Rattle.case_theory.specs.Points.{IsPointFor}
use Rattle.case_theory.specs.Worked.{IsWorked, IsNeverUnder}
use Rattle.case_theory.specs.Children.{AreChildren, IsChild}
use Rattle.case_theory.proofs.Children.{children_made}
use Rattle.branch_rounds.specs.declared.children.Child.{Child}
use Rattle.normal_atoms.specs.declared.atoms.Context as code
use Rattle.normal_atoms.specs.Atoms.{context_of, atom_of}
use Rattle.formula_store.proofs.Marked.{all_at}
use Rattle.branch_points.specs.declared.choice.Chosen.{Chosen}
use Rattle.branch_rounds.specs.declared.work.Work.{Work}
use Rattle.branch_rounds.specs.Children.{HasPoints, IsChildOf, IsAdded, result_seen}
use Rattle.shape_theory.specs.Texts.{IsNoLarger}
use Rattle.branch_pruning.specs.Pruned.{IsPrunedTo}
use Rattle.branch_rounds.specs.Worked.{guarded, IsLeft, IsWorkedTo}
use Rattle.branch_rounds.proofs.Left.{worked_to}

-- ---- lists

-- what two lists give at a place
pub same_at : {X Y Z : Type 0} (f : X → Z) (g : Y → Z) (xs : List X) (ys : List Y) → map f xs ≡ map g ys → (i : ℕ) (d : X) (e : Y) → i < length ys → f (get_or xs i d) ≡ g (get_or ys i e)
same_at f g [] [] h i d e lt = absurd (omega (arith, lt))
same_at f g [] (y ∷ ys) h i d e lt = cc
same_at f g (x ∷ xs) [] h i d e lt = absurd (omega (arith, lt))
same_at f g (x ∷ xs) (y ∷ ys) h zero d e lt = cc
same_at f g (x ∷ xs) (y ∷ ys) h (suc i) d e lt = let k : map f xs ≡ map g ys = cc in same_at f g xs ys k i d e (omega (arith, lt))

pub same_length : {X Y Z : Type 0} (f : X → Z) (g : Y → Z) (xs : List X) (ys : List Y) → map f xs ≡ map g ys → length xs ≡ length ys
same_length f g [] [] h = refl
same_length f g [] (y ∷ ys) h = cc
same_length f g (x ∷ xs) [] h = cc
same_length f g (x ∷ xs) (y ∷ ys) h = let k : map f xs ≡ map g ys = cc in ap suc (same_length f g xs ys k)

pub each_at : {X Y : Type 0} (P : Y → Type 0) (g : X → Y) (xs : List X) → EachOf P (map g xs) → (i : ℕ) (d : X) → i < length xs → P (g (get_or xs i d))
each_at P g [] h i d lt = absurd (omega (arith, lt))
each_at P g (x ∷ xs) h zero d lt = h.0
each_at P g (x ∷ xs) h (suc i) d lt = each_at P g xs h.1 i d (omega (arith, lt))

-- ---- what is left at a point

-- what is put in, joined with the guard, is the result of the theory
pub guarded_result : (c : Context) (x : ℕ) (s : Place) (f : Tree) → IsPlaceIn c s → guarded c s (put c x s f) ≡ result_at c (normal_atom c) x s f
guarded_result Fields x s f p = refl
guarded_result Integers x s f p = ap (λ u. fold_list Conjunction (both u (put Integers x s f))) (sym (guard_folded s p))

module _ (c : Context) (ks : List Atom) (name : VarId) (f : Tree) (tidy : IsTidy c f) where
  -- the formula at a point can be worked on
  pub put_tidy : (s : Place) (t : Tree) → IsPlaceIn c s → t ≡ put c name.number s f → IsTidy c (guarded c s t)
  put_tidy s t p e = subst (λ g. IsTidy c (guarded c s g)) (sym e) (subst (IsTidy c) (sym (guarded_result c name.number s f p)) (result_tidy c name.number s f p tidy))

  module _ (old new : List (Shape FormulaId)) (k : Keeps (IsId old) (tree old) (IsId new) (tree new)) where
    pub each_kept : (children : List Child) → EachOf (IsChildOf c f old name) children → EachOf (IsChildOf c f new name) children
    each_kept [] h = tt
    each_kept (a ∷ children) h = (record { is = k.is a.formula h.0.is; point = h.0.point; no_larger = subst (IsNoLarger (result_at c (normal_atom c) name.number (place_of a.point) f)) (sym (k.same a.formula h.0.is)) h.0.no_larger }, each_kept children h.1)

    seen_kept : (children : List Child) → EachOf (IsChildOf c f old name) children → map (result_seen new) children ≡ map (result_seen old) children
    seen_kept [] h = refl
    seen_kept (a ∷ children) h = λ i. record { place = place_of a.point; tree = k.same a.formula h.0.is i } ∷ seen_kept children h.1 i

    module _ (before : List Place) (s : Place) (t : Tree) (place : IsPlaceIn c s) (point : IsPointFor c name.number f s) (is_put : t ≡ put c name.number s f) where
      -- nothing at this point
      pub none_more : (children : List Child) → EachOf (IsChildOf c f old name) children → AreChildren c ks name.number f before (map (result_seen old) children) → IsNeverUnder c ks (guarded c s t) →
          AreChildren c ks name.number f (before ++ s ∷ []) (map (result_seen new) children)
      none_more children e a n =
          let is : guarded c s t ≡ result_at c (normal_atom c) name.number s f = ap (guarded c s) is_put ∙ guarded_result c name.number s f place in
          let made = children_made c ks name.number f in
          let here = made.no_child s [] [] tidy point (subst (IsNeverUnder c ks) is n) made.no_point in
          subst (λ rs. AreChildren c ks name.number f (before ++ s ∷ []) rs) (append-nil (map (result_seen old) children) ∙ sym (seen_kept children e))
          (made.joined before (s ∷ []) (map (result_seen old) children) [] a here)

      -- what is left here is no larger than the result
      pub left_here : (a : Child) → place_of a.point ≡ s → IsPrunedTo c ks (guarded c s t) new a.formula → IsNoLarger (result_at c (normal_atom c) name.number (place_of a.point) f) (tree new a.formula)
      left_here a e w =
          let is : guarded c s t ≡ result_at c (normal_atom c) name.number s f = ap (guarded c s) is_put ∙ guarded_result c name.number s f place in
          subst (λ (q : Place). IsNoLarger (result_at c (normal_atom c) name.number q f) (tree new a.formula)) (sym e) (subst (λ g. IsNoLarger g (tree new a.formula)) is w.no_larger)

      -- one child at this point
      only_here : (a : Child) → place_of a.point ≡ s → IsWorkedTo c ks (guarded c s t) new a.formula → AreChildren c ks name.number f (s ∷ []) (result_seen new a ∷ [])
      only_here a e w =
          let is : guarded c s t ≡ result_at c (normal_atom c) name.number s f = ap (guarded c s) is_put ∙ guarded_result c name.number s f place in
          let made = children_made c ks name.number f in
          subst (λ (q : Place). AreChildren c ks name.number f (s ∷ []) (record { place = q; tree = tree new a.formula } ∷ [])) (sym e)
          (made.one_child s (tree new a.formula) [] [] tidy point (subst (λ g. IsWorked c ks g (tree new a.formula)) is w.worked) made.no_point)

      pub child_more : (children : List Child) → EachOf (IsChildOf c f old name) children → AreChildren c ks name.number f before (map (result_seen old) children) →
          (a : Child) → place_of a.point ≡ s → IsWorkedTo c ks (guarded c s t) new a.formula → AreChildren c ks name.number f (before ++ s ∷ []) (map (result_seen new) (children ++ a ∷ []))
      child_more children e h a p w =
          subst (λ rs. AreChildren c ks name.number f (before ++ s ∷ []) rs)
          (ap (λ l. l ++ result_seen new a ∷ []) (sym (seen_kept children e)) ∙ sym (map-append (result_seen new) children (a ∷ [])))
          ((children_made c ks name.number f).joined before (s ∷ []) (map (result_seen old) children) (result_seen new a ∷ []) h (only_here a p w))

      -- and one that is true is enough for all points among which this one is
      pub true_alone : (points : List Place) → Among points s → (a : Child) → place_of a.point ≡ s → IsWorkedTo c ks (guarded c s t) new a.formula → tree new a.formula ≡ Yes →
          AreChildren c ks name.number f points (result_seen new a ∷ [])
      true_alone points m a e w y =
          let here = only_here a e w in
          let i : IsChild c ks name.number f (s ∷ []) (result_seen new a) = here.each.0 in
          record {
            each = (record { listed = subst (Among points) (sym e) m; equivalent = i.equivalent; tidy = i.tidy; names = i.names }, tt);
            whole = λ p o u v. inl (subst (λ g. TrueAt c g p) (sym y) tt);
          }

-- ---- at one of the chosen points

-- the id stands for the formula at the point, which is one of those that are enough
pub record IsAtPoint (c : Context) (name : VarId) (f : Tree) (nodes : List (Shape FormulaId)) (id : FormulaId) (t : TestPoint) : Type 0 where
  pub is : IsId nodes id
  pub formula : tree nodes id ≡ put c name.number (place_of t) f
  pub point : IsPointOf name t
  pub place : IsPlaceIn c (place_of t)
  pub suits : IsPointFor c name.number f (place_of t)

module _ (k : code.Context) (f : Tree) (ch : Chosen) (h : HasPoints k f ch) (first now : List (Shape FormulaId)) (since : Keeps (IsId first) (tree first) (IsId now) (tree now)) (ids : List FormulaId)
    (made : AreMade (IsId first) (tree first) ids (map (λ t. put (context_of k) t.name.number (place_of t) f) ch.points.items)) where
  pub as_many : length ids ≡ length ch.points.items
  as_many = same_length (tree first) (λ (t : TestPoint). put (context_of k) t.name.number (place_of t) f) ids ch.points.items made.same

  pub at_point : (i : ℕ) (id : FormulaId) (t : TestPoint) → i < length ids → id ≡ get_or ids i id → t ≡ get_or ch.points.items i t → IsAtPoint (context_of k) ch.name f now id t
  at_point i id t lt e1 e2 =
      let few : i < length ch.points.items = subst (λ n. i < n) as_many lt in
      let there : IsId first id = subst (IsId first) (sym e1) (all_at (IsId first) ids i id lt made.are) in
      let point : IsPointOf ch.name t = subst (IsPointOf ch.name) (sym e2) (h.points i t few) in
      record {
        is = since.is id there;
        formula = since.same id there ∙ ap (tree first) e1 ∙ same_at (tree first) (λ (u : TestPoint). put (context_of k) u.name.number (place_of u) f) ids ch.points.items made.same i id t few
            ∙ ap (λ (u : TestPoint). put (context_of k) u.name.number (place_of u) f) (sym e2) ∙ ap (λ (y : VarId). put (context_of k) y.number (place_of t) f) point.name;
        point = point;
        place = subst (λ (u : TestPoint). IsPlaceIn (context_of k) (place_of u)) (sym e2) (h.places i t few);
        suits = subst (λ (u : TestPoint). IsPointFor (context_of k) ch.name.number f (place_of u)) (sym e2) (each_at (IsPointFor (context_of k) ch.name.number f) place_of ch.points.items h.suffice.each i t few);
      }

-- ---- one point after the other

-- the place of one of the points is among theirs
pub among_at : (points : List TestPoint) (i : ℕ) (t : TestPoint) → i < length points → t ≡ get_or points i t → Among (map place_of points) (place_of t)
among_at [] i t lt e = absurd (omega (arith, lt))
among_at (u ∷ points) zero t lt e = inl (ap place_of (sym e))
among_at (u ∷ points) (suc i) t lt e = inr (among_at points i t (omega (arith, lt)) e)

module _ (w : Work) (f : Tree) (tidy : IsTidy (context_of w.context) f) (name : VarId) (old new : List (Shape FormulaId)) (k : Keeps (IsId old) (tree old) (IsId new) (tree new)) (id : FormulaId) (t : TestPoint)
    (at : IsAtPoint (context_of w.context) name f old id t) where
  -- with what is left at the point they are the children at one point more
  pub record AreMore (before : List Place) (some children : List Child) : Type 0 where
    pub each : EachOf (IsChildOf (context_of w.context) f new name) children
    pub few : length children ≤ length some + 1
    pub are : AreChildren (context_of w.context) (map atom_of w.assumed.now) name.number f (before ++ place_of t ∷ []) (map (result_seen new) children)

  left_at : (before : List Place) (child : Child) → child.point ≡ t → IsPrunedTo (context_of w.context) (map atom_of w.assumed.now) (guarded (context_of w.context) (place_of t) (tree old id)) new child.formula →
      IsNoLarger (result_at (context_of w.context) (normal_atom (context_of w.context)) name.number (place_of child.point) f) (tree new child.formula)
  left_at before child p left =
      left_here (context_of w.context) (map atom_of w.assumed.now) name f tidy old new k before (place_of t) (tree old id) at.place at.suits at.formula child (ap place_of p) left

  more_of : (before : List Place) (children more : List Child) → EachOf (IsChildOf (context_of w.context) f old name) children → AreChildren (context_of w.context) (map atom_of w.assumed.now) name.number f before (map (result_seen old) children) →
      (o : Option Child) → IsLeft (context_of w.context) (map atom_of w.assumed.now) (guarded (context_of w.context) (place_of t) (tree old id)) new (option_map (λ (a : Child). a.formula) o) → IfSome o (λ (a : Child). a.point ≡ t) →
      more ≡ children ++ option_to_list o → AreMore before children more
  more_of before children more e a None left p is =
      let same : more ≡ children = is ∙ append-nil children in
      subst (AreMore before children) (sym same) (record {
        each = each_kept (context_of w.context) (map atom_of w.assumed.now) name f tidy old new k children e;
        few = omega arith;
        are = none_more (context_of w.context) (map atom_of w.assumed.now) name f tidy old new k before (place_of t) (tree old id) at.place at.suits at.formula children e a left;
      })
  more_of before children more e a (Some child) left p is =
      subst (AreMore before children) (sym is) (record {
        each = each_append (IsChildOf (context_of w.context) f new name) children (child ∷ []) (each_kept (context_of w.context) (map atom_of w.assumed.now) name f tidy old new k children e)
            (record { is = left.is; point = subst (IsPointOf name) (sym p) at.point; no_larger = left_at before child p left }, tt);
        few = omega (arith, length-append children (child ∷ []));
        are = child_more (context_of w.context) (map atom_of w.assumed.now) name f tidy old new k before (place_of t) (tree old id) at.place at.suits at.formula children e a child (ap place_of p) (worked_to left);
      })

  pub added_more : (before : List Place) (children more : List Child) (b : Bool) → EachOf (IsChildOf (context_of w.context) f old name) children →
      AreChildren (context_of w.context) (map atom_of w.assumed.now) name.number f before (map (result_seen old) children) → IsAdded w (tree old id) t new children more b → AreMore before children more
  added_more before children more b e a h = more_of before children more e a h.added h.left h.point h.is

  -- where it is true it is enough, alone
  pub record IsEnough (points : List Place) (child : Child) : Type 0 where
    pub is : IsChildOf (context_of w.context) f new name child
    pub are : AreChildren (context_of w.context) (map atom_of w.assumed.now) name.number f points (result_seen new child ∷ [])

  enough_of : (points : List Place) → Among points (place_of t) → (children more front : List Child) (last : Child) →
      (o : Option Child) → IsLeft (context_of w.context) (map atom_of w.assumed.now) (guarded (context_of w.context) (place_of t) (tree old id)) new (option_map (λ (a : Child). a.formula) o) → IfSome o (λ (a : Child). a.point ≡ t) →
      more ≡ children ++ option_to_list o → IsSomeAnd o (λ (a : Child). tree new a.formula ≡ Yes) → more ≡ front ++ last ∷ [] → IsEnough points last
  enough_of points m children more front last None left p is y e = absurd y
  enough_of points m children more front last (Some child) left p is y e =
      let same : child ≡ last = (same_from_push children front child last (sym is ∙ e)).1 in
      subst (IsEnough points) same (record {
        is = record { is = left.is; point = subst (IsPointOf name) (sym p) at.point; no_larger = left_at [] child p left };
        are = true_alone (context_of w.context) (map atom_of w.assumed.now) name f tidy old new k [] (place_of t) (tree old id) at.place at.suits at.formula points m child (ap place_of p) (worked_to left) y;
      })

  pub added_enough : (points : List Place) → Among points (place_of t) → (children more front : List Child) (last : Child) (b : Bool) → IsAdded w (tree old id) t new children more b → IsTrue b → more ≡ front ++ last ∷ [] → IsEnough points last
  added_enough points m children more front last b h y e = enough_of points m children more front last h.added h.left h.point h.is (h.settled y) e
