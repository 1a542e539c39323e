-- One point alone for the one name that is left: the root of the first equation among the conjuncts.
use Rattle.std.proofs.Common.{◌≡◌, ◌⊎◌, ℕ, suc, zero, ◌≤◌, Some, None, Option, false, List, [], ◌∷◌, map, length, refl, sym, ap, ◌∙◌, subst, arith, inl, inr, ⊎_elim, true≢false}
use Rattle.std.proofs.lemmas.List.{length-map}
use Rattle.std.proofs.Math.IntN.{ℤ, pos, negsuc}
use Rattle.logic_meaning.specs.Context.{Context}
use Rattle.logic_meaning.specs.Answer.{Place}
use Rattle.logic_meaning.specs.Atom.{Atom, Compare, Congruent, Equals, Differs, Below, AtMost, Above, AtLeast, Mentions}
use Rattle.logic_meaning.specs.Every.{FreeInSome}
use Rattle.logic_meaning.specs.Form.{Form, coefficient, without}
use Rattle.logic_meaning.specs.Formula.{One, And, none, also}
use Rattle.logic_meaning.specs.Some.{Among, SomeOf, EachOf}
use Rattle.logic_meaning.specs.Tree.{Tree, Trees, IsFree}
use Rattle.logic_meaning.specs.Substitution.{where_zero}
use Rattle.normal_atoms.specs.Atoms.{context_of, atom_of}
use Rattle.formula_tree.specs.declared.shape.Shape.{Shape}
use Rattle.formula_store.specs.declared.id.FormulaId.{FormulaId}
use Rattle.formula_tree.specs.Makers.{Keeps}
use Rattle.formula_store.specs.Nodes.{tree, IsId}
use Rattle.logic_meaning.specs.declared.form.VarId.{VarId}
use Rattle.nnf_trees.specs.Placed.{all_within}
use Rattle.test_points.specs.declared.points.TestPoint.{TestPoint}
use Rattle.test_points.specs.Points.{place_of}
use Rattle.case_theory.specs.Children.{IsChild}
use Rattle.logic_meaning.specs.Direct.{equation_of, first_of_two, first_equation}
use Rattle.logic_meaning.specs.Roots.{IsRootOf, IsRoot}
use Rattle.branch_points.specs.declared.choice.Chosen.{Chosen}
use Rattle.branch_points.specs.Chosen.{conjuncts, NeedsCounting, IsByRule, IsAtRoot, IsRootAmong}
use Rattle.branch_points.proofs.RootsAmong.{root_first}
use Rattle.branch_rounds.specs.declared.children.Child.{Child}
use Rattle.branch_rounds.specs.declared.error.RoundError.{RoundError}
use Rattle.branch_rounds.specs.declared.error.RoundError.TheVariants.{Overflow, Nodes, Memory}
use Rattle.branch_rounds.specs.declared.work.Work.{Work}
use Rattle.branch_rounds.specs.Branches.{Seen, branch_at, numbers}
use Rattle.branch_rounds.specs.Children.{IsChildOf, AreChildrenOf, result_seen}
use Rattle.branch_rounds.specs.Rounds.{IsSpreadOver, IsDirectAt, IsLeftAlone}
use Rattle.shape_theory.specs.Texts.{IsNoLarger}
use Rattle.logic_meaning.specs.Steps.{result_at}
use Rattle.logic_meaning.specs.NormalForm.{normal_atom}

-- ---- the word

-- neither of the others
pub only_memory : (e : RoundError) → (e ≡ Overflow → ⊥) → (e ≡ Nodes → ⊥) → e ≡ Memory
only_memory Overflow o n = absurd (o refl)
only_memory Nodes o n = absurd (n refl)
only_memory Memory o n = refl

-- ---- the root

-- an equation has one root in a name
root_same : (c : Context) (a : ℤ) (t : Form) (s u : Place) → IsRootOf c a t s → IsRootOf c a t u → s ≡ u
root_same c (pos zero) t s u h k = absurd h
root_same c (pos (suc n)) t s u h k = h ∙ sym k
root_same c (negsuc n) t s u h k = h ∙ sym k

-- ---- a name of an equation stands in the formula

where_mentioned : (z : ℤ) (d e : Form) → where_zero z None (Some d) ≡ Some e → ¬ (z ≡ pos 0)
where_mentioned (pos zero) d e h = cc
where_mentioned (pos (suc n)) d e h = λ k. cc
where_mentioned (negsuc n) d e h = λ k. cc

mentioned : (x : ℕ) (a : Atom) (e : Form) → equation_of x a ≡ Some e → Mentions a x
mentioned x (Compare Equals f) e h = where_mentioned (coefficient x f) f e h
mentioned x (Compare Differs f) e h = cc
mentioned x (Compare Below f) e h = cc
mentioned x (Compare AtMost f) e h = cc
mentioned x (Compare Above f) e h = cc
mentioned x (Compare AtLeast f) e h = cc
mentioned x (Congruent holds n f) e h = cc

first_free : (x : ℕ) (fs : Trees) (e : Form) → first_equation x fs ≡ Some e → FreeInSome Mentions fs x
first_free x none e h = cc
first_free x (also (One a) fs) e h = go (equation_of x a) (mentioned x a) h (first_free x fs)
  where
    go : (o : Option Form) → ((d : Form) → o ≡ Some d → Mentions a x) → first_of_two o (first_equation x fs) ≡ Some e → ((d : Form) → first_equation x fs ≡ Some d → FreeInSome Mentions fs x) → Mentions a x ⊎ FreeInSome Mentions fs x
    go None m k i = inr (i e k)
    go (Some d) m k i = inl (m d refl)
first_free x (also f fs) e h = inr (first_free x fs e h)

conjuncts_free : (x : ℕ) (f : Tree) → FreeInSome Mentions (conjuncts f) x → IsFree f x
conjuncts_free x (And fs) h = h
conjuncts_free x f h = ⊎_elim (λ i. i) absurd h

-- ---- the point that is chosen

module _ (w : Work) (f : Tree) (names : List VarId) (x : VarId) (s : Place) (left : ℕ) (d : IsDirectAt (context_of w.context) left f names x s) where
  only : (y : VarId) → Among names y → x ≡ y
  only y m = ⊎_elim (λ e. e) absurd (subst (λ (l : List VarId). Among l y) d.alone m)

  stands : (y : VarId) → Among names y → IsFree f y.number
  stands y m = subst (λ (z : VarId). IsFree f z.number) (only y m) (conjuncts_free x.number f (first_free x.number (conjuncts f) d.equation.0 d.equation.1))

  -- its points need not be counted
  pub never_counted : ¬ (NeedsCounting f (numbers names))
  never_counted n =
      let no_equation : first_equation x.number (conjuncts f) ≡ None = (n x.number (subst (λ (l : List VarId). Among (numbers l) x.number) (sym d.alone) (inl refl))).1 in
      let equation : first_equation x.number (conjuncts f) ≡ Some d.equation.0 = d.equation.1 in
      cc

  -- the point is one of x, at s
  pub record IsAlone (ch : Chosen) : Type 0 where
    pub point : TestPoint
    pub points : ch.points.items ≡ point ∷ []
    pub name : ch.name ≡ x
    pub own : point.name ≡ x
    pub place : place_of point ≡ s

  pub chosen_alone : (most : ℕ) (ch : Chosen) → IsByRule w.context f names most ch → IsAlone ch
  chosen_alone most ch rule =
      let at : IsAtRoot w.context f names ch = rule.equation stands x d.equation.0 (subst (λ (l : List VarId). Among l x) (sym d.alone) (inl refl)) d.equation.1 in
      let r : IsRootAmong w.context (conjuncts f) names at.0 = at.1 in
      let own : x ≡ at.0.name = only at.0.name r.listed in
      let first : first_equation at.0.name.number (conjuncts f) ≡ Some r.equation = root_first w.context (conjuncts f) names at.0 r in
      let here : first_equation x.number (conjuncts f) ≡ Some d.equation.0 = d.equation.1 in
      let again : first_equation x.number (conjuncts f) ≡ Some r.equation = ap (λ (y : VarId). first_equation y.number (conjuncts f)) own ∙ first in
      let same : r.equation ≡ d.equation.0 = (cc) in
      let root : IsRoot (context_of w.context) x.number d.equation.0 (place_of at.0) =
      subst (λ (e : Form). IsRoot (context_of w.context) x.number e (place_of at.0)) same (subst (λ (y : VarId). IsRoot (context_of w.context) y.number r.equation (place_of at.0)) (sym own) r.root) in
      record {
        point = at.0;
        points = at.3;
        name = at.2 ∙ sym own;
        own = sym own;
        place = root_same (context_of w.context) (coefficient x.number d.equation.0) (without x.number d.equation.0) (place_of at.0) s root d.equation.2;
      }

  module _ (ch : Chosen) (a : IsAlone ch) where
    -- no number passes the limit there
    pub never_passes : ¬ (SomeOf (λ (t : TestPoint). all_within (context_of w.context) t.name.number (place_of t) f ≡ false) ch.points.items)
    never_passes p =
        let here : all_within (context_of w.context) a.point.name.number (place_of a.point) f ≡ false =
        ⊎_elim (λ e. e) absurd (subst (SomeOf (λ (t : TestPoint). all_within (context_of w.context) t.name.number (place_of t) f ≡ false)) a.points p) in
        let moved : all_within (context_of w.context) a.point.name.number (place_of a.point) f ≡ all_within (context_of w.context) x.number s f =
        ap (λ (y : VarId). all_within (context_of w.context) y.number (place_of a.point) f) a.own ∙ ap (λ (p : Place). all_within (context_of w.context) x.number p f) a.place in
        true≢false (sym d.within ∙ sym moved ∙ here)

    pub one_point : length ch.points.items ≡ 1
    one_point = ap length a.points

    module _ (nodes : List (Shape FormulaId)) (kids : List Child) (are : AreChildrenOf w f ch nodes kids) where
      each_left : (points : List TestPoint) (rest : List VarId) (ks : List Child) → EachOf (IsChildOf (context_of w.context) f nodes ch.name) ks →
          EachOf (IsChild (context_of w.context) (map atom_of w.assumed.now) ch.name.number f (map place_of ch.points.items)) (map (result_seen nodes) ks) →
          EachOf (λ (b : Seen). IsNoLarger (result_at (context_of w.context) (normal_atom (context_of w.context)) x.number s f) (tree nodes b.formula)) (map (branch_at points rest) ks)
      each_left points rest [] h i = tt
      each_left points rest (k ∷ ks) h i =
          let place : s ≡ place_of k.point =
          sym a.place ∙ ⊎_elim (λ e. e) absurd (subst (λ (ts : List TestPoint). Among (map place_of ts) (place_of k.point)) a.points i.0.listed) in (
            subst (λ (y : VarId). IsNoLarger (result_at (context_of w.context) (normal_atom (context_of w.context)) y.number s f) (tree nodes k.formula)) a.name
                (subst (λ (p : Place). IsNoLarger (result_at (context_of w.context) (normal_atom (context_of w.context)) ch.name.number p f) (tree nodes k.formula)) (sym place) h.0.no_larger),
            each_left points rest ks h.1 i.1,
          )

      -- what comes of the branch there is alone
      pub left_alone : (points : List TestPoint) (rest : List VarId) → IsLeftAlone (context_of w.context) x.number s f nodes (map (branch_at points rest) kids)
      left_alone points rest = record {
        few = let many = length-map kids (branch_at points rest) in let one = one_point in let few = are.few in omega arith;
        no_larger = each_left points rest kids are.each are.are.each;
      }

-- ---- over a round

-- of a formula that is the same, and of as many nodes that are left
pub direct_over : (c : Context) (x : VarId) (s : Place) (names : List VarId) (f g : Tree) (m n : ℕ) → f ≡ g → m ≡ n → IsDirectAt c m f names x s → IsDirectAt c n g names x s
direct_over c x s names f g m n e i h = subst (λ k. IsDirectAt c k g names x s) i (subst (λ t. IsDirectAt c m t names x s) e h)

pub alone_over : (c : Context) (x : VarId) (s : Place) (f g : Tree) → f ≡ g → (nodes : List (Shape FormulaId)) (bs : List Seen) → IsLeftAlone c x.number s g nodes bs → IsLeftAlone c x.number s f nodes bs
alone_over c x s f g e nodes bs h = subst (λ t. IsLeftAlone c x.number s t nodes bs) (sym e) h

-- where the branch is the one there was at first, what holds of that one holds of it as the store grows
module _ (w : Work) (first old : List (Shape FormulaId)) (k : Keeps (IsId first) (tree first) (IsId old) (tree old)) (b d : Seen) (same : b ≡ d) (is : IsId first d.formula) (x : VarId) (s : Place) where
  formula_same : tree first d.formula ≡ tree old b.formula
  formula_same = sym (k.same d.formula is) ∙ ap (λ (q : Seen). tree old q.formula) (sym same)

  pub direct_here : (m n : ℕ) → m ≡ n → IsDirectAt (context_of w.context) m (tree first d.formula) d.left x s → IsDirectAt (context_of w.context) n (tree old b.formula) b.left x s
  direct_here m n e h =
      subst (λ (l : List VarId). IsDirectAt (context_of w.context) n (tree old b.formula) l x s) (ap (λ (q : Seen). q.left) (sym same))
      (direct_over (context_of w.context) x s d.left (tree first d.formula) (tree old b.formula) m n formula_same e h)

  pub alone_here : (new : List (Shape FormulaId)) (bs : List Seen) → IsLeftAlone (context_of w.context) x.number s (tree old b.formula) new bs →
      IsLeftAlone (context_of w.context) x.number s (tree first d.formula) new bs
  alone_here new bs h = alone_over (context_of w.context) x s (tree first d.formula) (tree old b.formula) formula_same new bs h

-- one branch at most, put last where there is none, is all
pub spread_alone : (new bs : List Seen) → length bs ≤ 1 → IsSpreadOver [] bs new → new ≡ bs
spread_alone new [] few h = h
spread_alone new (b ∷ []) few h = h.2 ∙ ⊎_elim (λ e. e) (λ t. absurd t.1) h.1
spread_alone new (b ∷ d ∷ bs) few h = absurd (omega (arith, few))

-- the first of two lists that are one branch
pub only_branch : (b d : Seen) (rest : List Seen) → b ∷ rest ≡ d ∷ [] → (b ≡ d) × (rest ≡ [])
only_branch b d rest e = let one : b ≡ d = (cc) in let none : rest ≡ [] = (cc) in (one, none)

pub some_branch : {P : Type 0} (b : Seen) (rest : List Seen) → b ∷ rest ≡ [] → P
some_branch b rest e = absurd (cc)
