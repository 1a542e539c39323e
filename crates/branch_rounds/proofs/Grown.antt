-- The branches at the points of a name, from what is left of the formula there.
use Rattle.std.proofs.Common.{◌≡◌, ℕ, suc, List, [], ◌∷◌, ◌++◌, map, length, refl, ap, ◌∙◌, subst}
use Rattle.std.proofs.lemmas.List.{reverse-append}
use Rattle.std.specs.Prelude.{reverse}
use Rattle.logic_meaning.specs.Answer.{Answer, Place}
use Rattle.logic_meaning.specs.Atom.{Atom}
use Rattle.logic_meaning.specs.Context.{Context}
use Rattle.formula_laws.specs.StandsOnce.{StandsOnce}
use Rattle.logic_meaning.specs.Some.{Among, EachOf}
use Rattle.logic_meaning.specs.Tree.{Tree}
use Rattle.logic_meaning.specs.Answers.{answers_of}
use Rattle.normal_atoms.specs.Atoms.{context_of, atom_of}
use Rattle.logic_meaning.specs.declared.form.VarId.{VarId}
use Rattle.formula_tree.specs.declared.shape.Shape.{Shape}
use Rattle.formula_store.specs.declared.id.FormulaId.{FormulaId}
use Rattle.formula_store.specs.Nodes.{tree}
use Rattle.elimination_theory.proofs.SomeListed.{each_append}
use Rattle.test_points.specs.declared.points.TestPoint.{TestPoint}
use Rattle.test_points.specs.Points.{answer_of, place_of, IsTestPoint, IsPointOf}
use Rattle.case_theory.specs.Pending.{Pending, IsRest, children}
use Rattle.case_theory.specs.Points.{ArePointsFor}
use Rattle.case_theory.specs.Children.{IsChild, AreChildren}
use Rattle.branch_points.specs.declared.choice.Chosen.{Chosen}
use Rattle.branch_points.specs.Chosen.{IsChosen}
use Rattle.branch_rounds.specs.declared.children.Child.{Child}
use Rattle.branch_rounds.specs.declared.work.Work.{Work}
use Rattle.branch_rounds.specs.Branches.{Seen, IsOpen, AllStand, branch_at, others_of, numbers}
use Rattle.branch_rounds.specs.Children.{IsChildOf, AreChildrenOf, result_seen}
use Rattle.branch_rounds.specs.Rounds.{HaveFewer, IsStep}
use Rattle.branch_rounds.proofs.Names.{left_rest, left_once, one_fewer, among_numbers}

module _ (nodes : List (Shape FormulaId)) (x : VarId) (ps : List TestPoint) (left : List VarId) where
  -- the answers of the child: its point comes first
  last_first : (t : TestPoint) → IsPointOf x t → (bs : List Answer) → map answer_of (reverse ps) ≡ bs → map answer_of (reverse (ps ++ t ∷ [])) ≡ record { name = x.number; place = place_of t } ∷ bs
  last_first t h bs e =
      ap (map answer_of) (reverse-append ps (t ∷ [])) ∙ ap (λ cs. answer_of t ∷ cs) e ∙ ap (λ (y : VarId). record { name = y.number; place = place_of t } ∷ bs) h.name

  -- they stand for the children of what the branch stands for
  pub all_children : (c : Context) (ks : List Atom) (f : Tree) (p : Pending) → map answer_of (reverse ps) ≡ answers_of p.steps → (kids : List Child) → EachOf (IsChildOf c f nodes x) kids →
      AllStand nodes (map (branch_at ps left) kids) (children x.number p (numbers left) (map (result_seen nodes) kids))
  all_children c ks f p e [] h = tt
  all_children c ks f p e (k ∷ kids) h = (record { formula = refl; answers = last_first k.point h.0.point (answers_of p.steps) e; left = refl }, all_children c ks f p e kids h.1)

  -- they can be worked on
  pub all_open : (w : Work) (ks : List Atom) (f : Tree) (points : List Place) → EachOf IsTestPoint ps → StandsOnce (numbers left) → (kids : List Child) → EachOf (IsChildOf (context_of w.context) f nodes x) kids →
      EachOf (IsChild (context_of w.context) ks x.number f points) (map (result_seen nodes) kids) → EachOf (IsOpen w nodes) (map (branch_at ps left) kids)
  all_open w ks f points a o [] h c = tt
  all_open w ks f points a o (k ∷ kids) h c =
      (record { is = h.0.is; tidy = c.0.tidy; points = each_append IsTestPoint ps (k.point ∷ []) a (h.0.point.well_formed, tt); once = o }, all_open w ks f points a o kids h.1 c.1)

  -- and have one name less
  pub all_fewer : (before : List VarId) → suc (length left) ≡ length before → (kids : List Child) → HaveFewer before (map (branch_at ps left) kids)
  all_fewer before e [] = tt
  all_fewer before e (k ∷ kids) = (e, all_fewer before e kids)

-- so they are the next branches
pub step_is : (w : Work) (old new : List (Shape FormulaId)) (b : Seen) → IsOpen w old b → (ch : Chosen) → IsChosen w.context (tree old b.formula) b.left ch → (kids : List Child) → AreChildrenOf w (tree old b.formula) ch new kids →
    IsStep w old b new (map (branch_at b.points (others_of ch.name b.left)) kids)
step_is w old new b o ch is kids are =
    let c = context_of w.context in
    let ks = map atom_of w.assumed.now in
    let x = ch.name in
    let left = others_of x b.left in
    let points = map place_of ch.points.items in
    let results = map (result_seen new) kids in
    let listed = among_numbers x b.left is.listed in
    record {
      are_open = all_open new x b.points left w ks (tree old b.formula) points o.points (left_once x b.left o.once) kids are.each are.are.each;
      fewer = all_fewer new x b.points left b.left (one_fewer x b.left o.once listed) kids;
      goes_on = λ p h. record {
        name = x.number;
        rest = numbers left;
        points = points;
        results = results;
        listed = subst (λ (l : List ℕ). Among l x.number) h.left listed;
        is_rest = subst (λ (l : List ℕ). IsRest x.number l (numbers left)) h.left (left_rest x b.left o.once);
        suffice = subst (λ g. ArePointsFor c x.number g points) h.formula is.suffice;
        are = subst (λ g. AreChildren c ks x.number g points results) h.formula are.are;
        stand = all_children new x b.points left c ks (tree old b.formula) p h.answers kids are.each;
      };
    }
