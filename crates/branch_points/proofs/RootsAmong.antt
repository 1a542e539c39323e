-- The root of the first equation among some formulas, one formula after another.
use Rattle.std.proofs.Common.{◌≡◌, ℕ, zero, suc, ◌+◌, ◌<◌, ◌≤◌, Option, Some, None, List, [], ◌∷◌, map, length, get_or, take, drop, refl, ap, sym, ◌∙◌, subst, arith}
use Rattle.std.proofs.lemmas.List.{take_all}
use Rattle.std.proofs.Math.IntN.{ℤ, pos, negsuc}
use Rattle.logic_meaning.specs.Formula.{Yes, No, One, Not, And, Or, Impl, Repl, Equiv, Ex, All, none, also}
use Rattle.logic_meaning.specs.Fold.{append}
use Rattle.logic_meaning.specs.Form.{Form, coefficient, without}
use Rattle.logic_meaning.specs.Atom.{Compare, Equals}
use Rattle.logic_meaning.specs.Answer.{Place}
use Rattle.logic_meaning.specs.Some.{Among}
use Rattle.logic_meaning.specs.Tree.{Tree, Trees}
use Rattle.logic_meaning.specs.declared.form.VarId.{VarId}
use Rattle.normal_atoms.specs.declared.atoms.Context.{Context}
use Rattle.normal_atoms.specs.Atoms.{context_of}
use Rattle.formula_tree.specs.Trees.{members}
use Rattle.test_points.specs.declared.points.TestPoint.{TestPoint}
use Rattle.test_points.specs.Points.{place_of, IsPointOf}
use Rattle.logic_meaning.specs.Roots.{IsRootOf, IsRoot}
use Rattle.logic_meaning.specs.Direct.{equation_of, first_of_two, first_equation}
use Rattle.branch_points.specs.Chosen.{HasNoEquation, IsRootAmong}
use Rattle.branch_points.proofs.FirstEquations.{other_some}

behind : (o u v w : Option Form) → first_of_two o u ≡ None → (u ≡ None → v ≡ w) → first_of_two o v ≡ w
behind None u v w h r = r h
behind (Some d) u v w h r = cc

-- what is no equation in front
none_before : (x : ℕ) (before rest : Trees) → first_equation x before ≡ None → first_equation x (append before rest) ≡ first_equation x rest
none_before x none rest h = refl
none_before x (also (One a) fs) rest h = behind (equation_of x a) (first_equation x fs) (first_equation x (append fs rest)) (first_equation x rest) h (none_before x fs rest)
none_before x (also Yes fs) rest h = none_before x fs rest h
none_before x (also No fs) rest h = none_before x fs rest h
none_before x (also (Not f) fs) rest h = none_before x fs rest h
none_before x (also (And gs) fs) rest h = none_before x fs rest h
none_before x (also (Or gs) fs) rest h = none_before x fs rest h
none_before x (also (Impl f g) fs) rest h = none_before x fs rest h
none_before x (also (Repl f g) fs) rest h = none_before x fs rest h
none_before x (also (Equiv f g) fs) rest h = none_before x fs rest h
none_before x (also (Ex y f) fs) rest h = none_before x fs rest h
none_before x (also (All y f) fs) rest h = none_before x fs rest h

-- a name that has a root stands in the equation
root_stands : (m : _) (a : ℤ) (t : Form) (s : Place) → IsRootOf m a t s → ¬ (a ≡ pos 0)
root_stands m (pos zero) t s h = λ e. h
root_stands m (pos (suc n)) t s h = λ e. cc
root_stands m (negsuc n) t s h = λ e. cc

-- the equation is the first one in the name
pub root_first : (c : Context) (fs : Trees) (left : List VarId) (t : TestPoint) (r : IsRootAmong c fs left t) → first_equation t.name.number fs ≡ Some r.equation
root_first c fs left t r =
    let x = t.name.number in
    let stands = root_stands (context_of c) (coefficient x r.equation) (without x r.equation) (place_of t) r.root in
    ap (first_equation x) r.split ∙ none_before x r.before (also (One (Compare Equals r.equation)) r.after) (r.nowhere t.name r.listed)
    ∙ ap (λ o. first_of_two o (first_equation x r.after)) (other_some (coefficient x r.equation) r.equation stands)

-- the root of one formula
pub root_alone : (c : Context) (f : Tree) (left : List VarId) (t : TestPoint) (x : VarId) (e : Form) → f ≡ One (Compare Equals e) → Among left x → IsPointOf x t → IsRoot (context_of c) x.number e (place_of t) →
    IsRootAmong c (also f none) left t
root_alone c f left t x e is listed well root =
    let same : x ≡ t.name = sym well.name in
    record {
      listed = subst (Among left) same listed;
      well_formed = subst (λ (y : VarId). IsPointOf y t) same well;
      equation = e;
      root = subst (λ (y : VarId). IsRoot (context_of c) y.number e (place_of t)) same root;
      before = none;
      after = none;
      split = ap (λ g. also g none) is;
      nowhere = λ y m. refl;
    }

-- ---- one formula after another

module _ {Id : Type 0} (t : Id → Tree) where
  -- the formulas with the one at a place
  split_at : (ids : List Id) (i : ℕ) (d : Id) → i < length ids → members (map t ids) ≡ append (members (map t (take i ids))) (also (t (get_or ids i d)) (members (map t (drop (suc i) ids))))
  split_at [] i d h = absurd (omega arith)
  split_at (a ∷ ids) zero d h = refl
  split_at (a ∷ ids) (suc i) d h = ap (also (t a)) (split_at ids i d (omega arith))

  one_more : (ids : List Id) (i : ℕ) (d : Id) → i < length ids → members (map t (take (suc i) ids)) ≡ append (members (map t (take i ids))) (also (t (get_or ids i d)) none)
  one_more [] i d h = absurd (omega arith)
  one_more (a ∷ ids) zero d h = refl
  one_more (a ∷ ids) (suc i) d h = ap (also (t a)) (one_more ids i d (omega arith))

  module _ (left : List VarId) (ids : List Id) (i : ℕ) (d : Id) (h : i < length ids) (no_one : HasNoEquation (members (map t (take i ids))) left) where
    pub passed_on : HasNoEquation (also (t (get_or ids i d)) none) left → HasNoEquation (members (map t (take (i + 1) ids))) left
    passed_on n x m =
        let e : suc i ≡ i + 1 = omega arith in
        ap (λ k. first_equation x.number (members (map t (take k ids)))) (sym e) ∙ ap (first_equation x.number) (one_more ids i d h)
        ∙ none_before x.number (members (map t (take i ids))) (also (t (get_or ids i d)) none) (no_one x m) ∙ n x m

    -- an equation with nothing before it
    pub found_here : (c : Context) (r : TestPoint) → IsRootAmong c (also (t (get_or ids i d)) none) left r → IsRootAmong c (members (map t ids)) left r
    found_here c r is = record {
      listed = is.listed;
      well_formed = is.well_formed;
      equation = is.equation;
      root = is.root;
      before = members (map t (take i ids));
      after = members (map t (drop (suc i) ids));
      split = split_at ids i d h ∙ ap (λ g. append (members (map t (take i ids))) (also g (members (map t (drop (suc i) ids))))) (own_member (t (get_or ids i d)) is.before is.after is.split);
      nowhere = no_one;
    }
      where
        own_member : (f : Tree) (before after : Trees) → also f none ≡ append before (also (One (Compare Equals is.equation)) after) → f ≡ One (Compare Equals is.equation)
        own_member f none after e = cc
        own_member f (also g none) after e = cc
        own_member f (also g (also k before)) after e = cc

  pub found_nowhere : (left : List VarId) (ids : List Id) (i : ℕ) → length ids ≤ i → HasNoEquation (members (map t (take i ids))) left → HasNoEquation (members (map t ids)) left
  found_nowhere left ids i h = subst (λ (l : List Id). HasNoEquation (members (map t (take i ids))) left → HasNoEquation (members (map t l)) left) (take_all i ids h) (λ n. n)
