-- The ways to choose a name and its points.
use Rattle.std.proofs.lemmas.List.{length-map}
use Rattle.std.proofs.Common.{◌≡◌, ◌≤◌, max, length, arith, ℕ, true, false, is_some, Option, Some, None, List, [], ◌∷◌, All as Each, map, refl, ap, sym, ◌∙◌, subst}
use Rattle.std.specs.List.{AllByRecursion}
use Rattle.std.proofs.lemmas.List.Elements.{All-from_recursion}
use Rattle.logic_meaning.specs.Context as meaning
use Rattle.logic_meaning.specs.Atom as meant
use Rattle.logic_meaning.specs.Formula.{And}
use Rattle.logic_meaning.specs.Form.{Form}
use Rattle.logic_meaning.specs.Some.{Among, EachOf}
use Rattle.logic_meaning.specs.Answer.{Place}
use Rattle.logic_meaning.specs.Tree.{Tree, Trees, IsFree}
use Rattle.logic_meaning.specs.Answers.{zero_place}
use Rattle.logic_meaning.specs.BothTheories.{IsPlaceIn}
use Rattle.elimination_theory.proofs.BothSubstitutions.{place_in}
use Rattle.elimination_theory.proofs.SomeListed.{each_among, each_map}
use Rattle.elimination_theory.specs.Theorems.{IsTidy}
use Rattle.logic_meaning.specs.Reference.{stands_among}
use Rattle.elimination_theory.proofs.Tidy.{tidy_in}
use Rattle.logic_meaning.specs.declared.form.VarId.{VarId}
use Rattle.normal_atoms.specs.declared.atoms.Context.{Context}
use Rattle.normal_atoms.specs.declared.atoms.Atom.{Atom}
use Rattle.normal_atoms.specs.Atoms.{atom_of, context_of}
use Rattle.test_points.specs.declared.points.TestPoint.{TestPoint}
use Rattle.test_points.specs.Points.{place_of, IsPointOf}
use Rattle.case_theory.specs.Points.{IsPointFor, ArePointsFor}
use Rattle.logic_meaning.specs.Roots.{IsRoot}
use Rattle.logic_meaning.specs.Direct.{first_equation}
use Rattle.case_theory.proofs.Points.{zero_point, root_point, side_points}
use Rattle.branch_points.specs.declared.choice.Chosen.{Chosen}
use Rattle.branch_points.specs.Chosen.{AreAtomsOf, conjuncts, HasNoEquation, IsRootAmong, IsOnSide, IsChosen, IsByRule, NeedsCounting}
use Rattle.branch_points.specs.declared.ends.Ends.{Ends}
use Rattle.branch_points.specs.Ends.{AreEnds}
use Rattle.branch_points.proofs.CountedPoints.{points_counted}
use Rattle.branch_points.proofs.FirstEquations.{conjunct_is}
use Rattle.branch_points.proofs.RootsAmong.{root_first}
use Rattle.branch_points.proofs.Names.{numbers, only_name, number_among, among_numbers, free_where_standing, absent_where_not}

-- where the table has the names, they stand in some atom
pub standing : (atoms : List meant.Atom) (table : ℕ → Option Ends) → AreEnds atoms table → (left : List VarId) → EachOf (λ (x : VarId). is_some (table x.number) ≡ true) left →
    EachOf (λ (x : VarId). stands_among x.number atoms ≡ true) left
standing atoms table are left =
    each_map (λ (x : VarId). is_some (table x.number) ≡ true) (λ (x : VarId). stands_among x.number atoms ≡ true) (λ x e. sym (are.stands x.number) ∙ e) left

each_place : (c : meaning.Context) (x : ℕ) (f : Tree) (points : List TestPoint) → EachOf (IsPointFor c x f) (map place_of points) → AllByRecursion (λ t. IsPlaceIn c (place_of t)) points
each_place c x f [] e = tt
each_place c x f (t ∷ points) e = (place_in c x (place_of t) f e.0.suits, each_place c x f points e.1)

module _ (c : Context) (f : Tree) (left : List VarId) (most : ℕ) (tidy : IsTidy (context_of c) f) where
  -- what a single remaining name owes to a first equation
  abbrev IsDirectTo : List Place → Type 0
  IsDirectTo places =
      (x : ℕ) (fs : Trees) (e : Form) → numbers left ≡ x ∷ [] → f ≡ And fs → IsFree f x → first_equation x fs ≡ Some e →
      (s : Place) × IsRoot (context_of c) x e s × (places ≡ s ∷ [])

  points_chosen : (ch : Chosen) → Among left ch.name → Each (IsPointOf ch.name) ch.points.items → ArePointsFor (context_of c) ch.name.number f (map place_of ch.points.items) →
      IsDirectTo (map place_of ch.points.items) → IsChosen c f left ch
  points_chosen ch listed points suffice direct = record {
    listed = listed;
    points = points;
    places = All-from_recursion (λ (t : TestPoint). IsPlaceIn (context_of c) (place_of t)) ch.points.items (each_place (context_of c) ch.name.number f ch.points.items suffice.each);
    suffice = suffice;
    direct = direct;
  }

  one_chosen : (ch : Chosen) (t : TestPoint) → ch.name ≡ t.name → ch.points.items ≡ t ∷ [] → Among left t.name → IsPointOf t.name t →
      ArePointsFor (context_of c) t.name.number f (place_of t ∷ []) → IsDirectTo (place_of t ∷ []) → IsChosen c f left ch
  one_chosen ch t name points listed well suffice direct =
      points_chosen ch (subst (Among left) (sym name) listed)
      (All-from_recursion (IsPointOf ch.name) ch.points.items (subst (λ (ts : List TestPoint). AllByRecursion (IsPointOf ch.name) ts) (sym points) (subst (λ (n : VarId). IsPointOf n t) (sym name) well, tt)))
      (subst (λ (ts : List TestPoint). ArePointsFor (context_of c) ch.name.number f (map place_of ts)) (sym points) (subst (λ (n : VarId). ArePointsFor (context_of c) n.number f (place_of t ∷ [])) (sym name) suffice))
      (λ x fs e one is free first. let d = direct x fs e one is free first in (d.0, d.1, ap (map place_of) points ∙ d.2))

  module _ (atoms : List Atom) (are : AreAtomsOf f atoms) where
    -- a name that stands in no atom, at 0
    pub zero_chosen : (ch : Chosen) (t : TestPoint) (x : VarId) → Among left x → stands_among x.number (map atom_of atoms) ≡ false → place_of t ≡ zero_place → IsPointOf x t →
        ch.name ≡ t.name → ch.points.items ≡ t ∷ [] → IsChosen c f left ch
    zero_chosen ch t x listed absent place well name points =
        let n = absent_where_not f x.number (map atom_of atoms) tidy.is_plain are.same absent in
        let same : x ≡ t.name = sym well.name in
        let zero = zero_point (context_of c) x.number f tidy.is_plain (tidy_in (context_of c) f tidy) n in
        one_chosen ch t name points (subst (Among left) same listed) (subst (λ (y : VarId). IsPointOf y t) same well)
        (subst (λ (y : VarId). ArePointsFor (context_of c) y.number f (place_of t ∷ [])) same (subst (λ (s : Place). ArePointsFor (context_of c) x.number f (s ∷ [])) (sym place) zero))
        (λ y fs e one is free first. absurd (n (subst (IsFree f) (sym (only_name left x y one listed)) free)))

    -- the points of a side
    pub side_chosen : HasNoEquation (conjuncts f) left → (ch : Chosen) → IsOnSide c (map atom_of atoms) left most ch → IsChosen c f left ch
    side_chosen none ch o =
        points_chosen ch o.listed o.points
        (subst (λ (ps : List Place). ArePointsFor (context_of c) ch.name.number f ps) (sym o.places)
        (side_points (context_of c) o.side ch.name.number f (map atom_of atoms) tidy.is_plain (tidy_in (context_of c) f tidy) are.same))
        (λ x fs e one is free first.
        let q : first_equation x (conjuncts f) ≡ None = subst (λ (n : ℕ). first_equation n (conjuncts f) ≡ None) (only_name left ch.name x one o.listed) (none ch.name o.listed) in
        let r : first_equation x (conjuncts f) ≡ Some e = ap (λ g. first_equation x (conjuncts g)) is ∙ first in
        absurd (cc))

    stand_free : EachOf (λ (x : VarId). stands_among x.number (map atom_of atoms) ≡ true) left → (x : VarId) → Among left x → IsFree f x.number
    stand_free each x m =
        let P : VarId → Type 0 = λ y. stands_among y.number (map atom_of atoms) ≡ true in
        free_where_standing f x.number (map atom_of atoms) tidy.is_plain are.same (each_among P left x each m)

    -- the points of a side are no more than were counted
    pub side_few : (ch : Chosen) → IsOnSide c (map atom_of atoms) left most ch → length ch.points.items ≤ max 1 most
    side_few ch o =
        let n = length-map ch.points.items place_of in
        let m = ap length o.places in
        let k = points_counted (context_of c) o.side ch.name.number (map atom_of atoms) in
        let few = o.few in
        omega arith

    -- where neither is there
    pub needs_counting : EachOf (λ (x : VarId). stands_among x.number (map atom_of atoms) ≡ true) left → HasNoEquation (conjuncts f) left → NeedsCounting f (numbers left)
    needs_counting each none n m =
        let r = among_numbers left n m in
        subst (λ (k : ℕ). IsFree f k × (first_equation k (conjuncts f) ≡ None)) r.2 (stand_free each r.0 r.1, none r.0 r.1)

    -- ---- by which rule

    pub zero_rule : (ch : Chosen) (t : TestPoint) (x : VarId) → Among left x → stands_among x.number (map atom_of atoms) ≡ false → place_of t ≡ zero_place → IsPointOf x t →
        ch.name ≡ t.name → ch.points.items ≡ t ∷ [] → IsByRule c f left most ch
    zero_rule ch t x listed absent place well name points =
        let n = absent_where_not f x.number (map atom_of atoms) tidy.is_plain are.same absent in
        let same : x ≡ ch.name = sym (name ∙ well.name) in
        record {
          absent = λ y m k. (subst (λ (z : VarId). ¬ (IsFree f z.number)) same n, ap (map place_of) points ∙ ap (λ s. s ∷ []) place);
          equation = λ free. absurd (n (free x listed));
          counted = λ needs. absurd (n ((needs x.number (number_among left x listed)).0));
        }

    pub root_rule : EachOf (λ (x : VarId). stands_among x.number (map atom_of atoms) ≡ true) left → (ch : Chosen) (t : TestPoint) → IsRootAmong c (conjuncts f) left t →
        ch.name ≡ t.name → ch.points.items ≡ t ∷ [] → IsByRule c f left most ch
    root_rule each ch t r name points = record {
      absent = λ y m n. absurd (n (stand_free each y m));
      equation = λ free x e m first. (t, r, name, points);
      counted = λ needs. let nowhere = (needs t.name.number (number_among left t.name r.listed)).1 in let here = root_first c (conjuncts f) left t r in absurd (cc);
    }

    pub side_rule : EachOf (λ (x : VarId). stands_among x.number (map atom_of atoms) ≡ true) left → HasNoEquation (conjuncts f) left → (ch : Chosen) → IsOnSide c (map atom_of atoms) left most ch →
        IsByRule c f left most ch
    side_rule each none ch o = record {
      absent = λ y m n. absurd (n (stand_free each y m));
      equation = λ free x e m first. let nowhere = none x m in absurd (cc);
      counted = λ needs. (atoms, are, o);
    }

  -- the root of an equation
  pub root_chosen : (ch : Chosen) (t : TestPoint) → IsRootAmong c (conjuncts f) left t → ch.name ≡ t.name → ch.points.items ≡ t ∷ [] → IsChosen c f left ch
  root_chosen ch t r name points =
      let here = root_first c (conjuncts f) left t r in
      one_chosen ch t name points r.listed r.well_formed
      (root_point (context_of c) t.name.number f r.equation (place_of t) tidy.is_plain (tidy_in (context_of c) f tidy) (conjunct_is t.name.number f r.equation here) r.root)
      (λ x fs e one is free first.
      let n = only_name left t.name x one r.listed in
      let q : first_equation x fs ≡ Some r.equation = subst (λ (k : ℕ). first_equation k fs ≡ Some r.equation) n (ap (λ g. first_equation t.name.number (conjuncts g)) (sym is) ∙ here) in
      let same : r.equation ≡ e = (cc) in
      (place_of t, subst (λ (k : ℕ). IsRoot (context_of c) k e (place_of t)) n (subst (λ (d : Form). IsRoot (context_of c) t.name.number d (place_of t)) same r.root), refl))
