-- Leaves and the branches for which they stand.
use Rattle.std.proofs.Common.{◌≡◌, ℕ, List, [], ◌∷◌, ◌++◌, length, append_assoc, All, map, refl, sym, ap, ◌∙◌, subst}
use Rattle.std.specs.Prelude.{Result}
use Rattle.std.specs.declared.vec.Vec.{Vec}
use Rattle.std.specs.declared.alloc.Global.{Global}
use Rattle.std.specs.declared.result.Result.TheVariants.{Ok, Err}
use Rattle.std.proofs.lemmas.List.{append-nil}
use Rattle.std.proofs.lemmas.List.Elements.{All-cons}
use Rattle.logic_meaning.specs.Context.{Context}
use Rattle.formula_laws.specs.TheoryAtoms.{AtomIn}
use Rattle.logic_meaning.specs.Every.{EveryOf}
use Rattle.formula_laws.specs.Equivalence.{InContext}
use Rattle.logic_meaning.specs.Cases.{Case, cases_of}
use Rattle.logic_meaning.specs.Reference.{Branch, branch_trees}
use Rattle.logic_meaning.specs.Measured.{Outcome, stopped, done}
use Rattle.nnf_trees.specs.declared.nnf.Nnf.{Nnf}
use Rattle.nnf_trees.specs.Nnfs.{nnf_of}
use Rattle.formula_tree.specs.Trees.{tree_of}
use Rattle.test_points.specs.declared.points.TestPoint.{TestPoint}
use Rattle.test_points.specs.Points.{answer_of, IsTestPoint}
use Rattle.reference_engine.specs.declared.measured.Measured.{Measured}
use Rattle.reference_engine.specs.declared.measured.Measured.TheVariants as measured
use Rattle.reference_engine.specs.Told.{StopsWith, bare, all_bare, formulas_of, seen}
use Rattle.reference_engine.specs.declared.branch.Leaf.{Leaf}
use Rattle.reference_engine.specs.declared.cases.PrintedCase.{PrintedCase}
use Rattle.reference_engine.specs.Stand.{StandsFor, StandFor, IsSound, AreSound, AreInside, TellsOf, Tells}
use Rattle.reference_engine.specs.Case.{case_seen, leaf_case, HavePoints}

-- ---- lists

pub stand_appended : (ls ms : List Leaf) (bs cs : List Branch) → StandFor ls bs → StandFor ms cs → StandFor (ls ++ ms) (bs ++ cs)
stand_appended [] ms [] cs h k = k
stand_appended [] ms (b ∷ bs) cs h k = absurd h
stand_appended (l ∷ ls) ms [] cs h k = absurd h
stand_appended (l ∷ ls) ms (b ∷ bs) cs h k = (h.0, stand_appended ls ms bs cs h.1 k)

pub stand_pushed : (ls ms : List Leaf) (l : Leaf) (bs : List Branch) (b : Branch) → StandFor ls bs → StandsFor l b → ms ≡ ls ++ l ∷ [] → StandFor ms (bs ++ b ∷ [])
stand_pushed ls ms l bs b h k e = subst (λ xs. StandFor xs (bs ++ b ∷ [])) (sym e) (stand_appended ls (l ∷ []) bs (b ∷ []) h (k, tt))

pub sound_appended : (ls ms : List Leaf) → AreSound ls → AreSound ms → AreSound (ls ++ ms)
sound_appended [] ms h k = k
sound_appended (l ∷ ls) ms h k = (h.0, sound_appended ls ms h.1 k)

pub sound_pushed : (ls ms : List Leaf) (l : Leaf) → AreSound ls → IsSound l → ms ≡ ls ++ l ∷ [] → AreSound ms
sound_pushed ls ms l h k e = subst AreSound (sym e) (sound_appended ls (l ∷ []) h (k, tt))

-- the formulas of leaves are those of the branches
pub inside_of : (c : Context) (ls : List Leaf) (bs : List Branch) → StandFor ls bs → EveryOf (AtomIn c) (branch_trees bs) → AreInside c ls
inside_of c [] bs h i = tt
inside_of c (l ∷ ls) [] h i = absurd h
inside_of c (l ∷ ls) (b ∷ bs) h i = (subst (InContext c) (sym h.0.formula) i.0, inside_of c ls bs h.1 i.1)

-- ---- formulas without steps

pub bare_pushed : (fs : List Nnf) (f : Nnf) → all_bare (formulas_of (fs ++ f ∷ [])) ≡ all_bare (formulas_of fs) ++ bare (nnf_of f) ∷ []
bare_pushed [] f = refl
bare_pushed (g ∷ fs) f = ap (λ bs. bare (nnf_of g) ∷ bs) (bare_pushed fs f)

-- ---- computations

pub tells_err : (r : Result (Vec Leaf Global) Measured) (e : Measured) (cost : ℕ) (o : Outcome (List Branch × ℕ)) → r ≡ Err e → StopsWith e o → Tells r cost o
tells_err r e cost o h s = subst (λ q. Tells q cost o) (sym h) s

pub tells_of : (ls : List Leaf) (bs : List Branch) (cost : ℕ) (o : Outcome (List Branch × ℕ)) → o ≡ done (bs, cost) → StandFor ls bs → TellsOf ls cost o
tells_of ls bs cost o e h = subst (TellsOf ls cost) (sym e) (h, refl)

pub tells_along : (r : Result (Vec Leaf Global) Measured) (cost : ℕ) (o p : Outcome (List Branch × ℕ)) → o ≡ p → Tells r cost o → Tells r cost p
tells_along r cost o p e h = subst (Tells r cost) e h

-- what is done, of which something is told
pub record IsDone (ls : List Leaf) (cost : ℕ) (o : Outcome (List Branch × ℕ)) : Type 0 where
  pub branches : List Branch
  pub is : o ≡ done (branches, cost)
  pub stand : StandFor ls branches

pub done_of : (ls : List Leaf) (cost : ℕ) (o : Outcome (List Branch × ℕ)) → TellsOf ls cost o → IsDone ls cost o
done_of ls cost (stopped s) h = absurd h
done_of ls cost (done r) h = record { branches = r.0; is = ap (λ n. let o : Outcome (List Branch × ℕ) = done (r.0, n) in o) h.1; stand = h.0 }

pub unseen_stops : (e : Measured) (o : Outcome (List Branch × ℕ)) → StopsWith e (seen o) → StopsWith e o
unseen_stops measured.Overflow (stopped s) h = cc
unseen_stops measured.Overflow (done r) h = cc
unseen_stops measured.Nodes (stopped s) h = cc
unseen_stops measured.Nodes (done r) h = cc
unseen_stops measured.Memory o h = tt

-- ---- cases

pub case_pushed : (ks ms : List PrintedCase) (k : PrintedCase) → ms ≡ ks ++ k ∷ [] → map case_seen ms ≡ map case_seen ks ++ case_seen k ∷ []
case_pushed ks ms k e = ap (map case_seen) e ∙ go ks
  where
    go : (xs : List PrintedCase) → map case_seen (xs ++ k ∷ []) ≡ map case_seen xs ++ case_seen k ∷ []
    go [] = refl
    go (x ∷ xs) = ap (λ ys. case_seen x ∷ ys) (go xs)

-- leaves are the cases of the branches for which they stand
pub leaf_cases : (ls : List Leaf) (bs : List Branch) → StandFor ls bs → map leaf_case ls ≡ cases_of bs
leaf_cases [] [] h = refl
leaf_cases [] (b ∷ bs) h = absurd h
leaf_cases (l ∷ ls) [] h = absurd h
leaf_cases (l ∷ ls) (b ∷ bs) h = λ i. record { guard = h.0.formula i; answers = h.0.answers i } ∷ leaf_cases ls bs h.1 i

-- a leaf becomes a case, after those before it
pub cases_go_on : (made made2 : List PrintedCase) (k : PrintedCase) (l : Leaf) (rest : List Leaf) (all : List Case) → map case_seen made ++ map leaf_case (l ∷ rest) ≡ all → tree_of k.guard ≡ nnf_of l.formula → k.answers.items ≡ l.points.items
    → made2 ≡ made ++ k ∷ [] → map case_seen made2 ++ map leaf_case rest ≡ all
cases_go_on made made2 k l rest all w e a m =
    ap (λ ks. ks ++ map leaf_case rest) (case_pushed made made2 k m ∙ (λ i. map case_seen made ++ record { guard = e i; answers = ap (map answer_of) a i } ∷ []))
    ∙ append_assoc (map case_seen made) (leaf_case l ∷ []) (map leaf_case rest) ∙ w

pub cases_end : (made : List PrintedCase) (rest : List Leaf) (all : List Case) → map case_seen made ++ map leaf_case rest ≡ all → rest ≡ [] → map case_seen made ≡ all
cases_end made rest all w e = sym (append-nil (map case_seen made)) ∙ ap (λ ls. map case_seen made ++ map leaf_case ls) (sym e) ∙ w

pub points_pushed : (ks ms : List PrintedCase) (k : PrintedCase) → HavePoints ks → All IsTestPoint k.answers.items → ms ≡ ks ++ k ∷ [] → HavePoints ms
points_pushed ks ms k h i e = subst HavePoints (sym e) (go ks h)
  where
    go : (xs : List PrintedCase) → HavePoints xs → HavePoints (xs ++ k ∷ [])
    go [] h = (i, tt)
    go (x ∷ xs) h = (h.0, go xs h.1)

-- the formulas before those left have become leaves
pub record AreLeavesBefore (made : List Leaf) (rest all : List Nnf) : Type 0 where
  pub before : List Nnf
  pub stand : StandFor made (all_bare (formulas_of before))
  pub whole : before ++ rest ≡ all

pub leaves_begin : (all : List Nnf) → AreLeavesBefore [] all all
leaves_begin all = record { before = []; stand = tt; whole = refl }

pub leaves_go_on : (made made2 : List Leaf) (l : Leaf) (f : Nnf) (rest all : List Nnf) → AreLeavesBefore made (f ∷ rest) all → l.formula ≡ f → l.points.items ≡ [] → made2 ≡ made ++ l ∷ [] → AreLeavesBefore made2 rest all
leaves_go_on made made2 l f rest all w e a m = record {
  before = w.before ++ f ∷ [];
  stand = subst (StandFor made2) (sym (bare_pushed w.before f)) (stand_pushed made made2 l (all_bare (formulas_of w.before)) (bare (nnf_of f)) w.stand (record { formula = ap nnf_of e; answers = ap (map answer_of) a }) m);
  whole = append_assoc w.before (f ∷ []) rest ∙ w.whole;
}

pub leaves_end : (made : List Leaf) (rest all : List Nnf) → AreLeavesBefore made rest all → rest ≡ [] → StandFor made (all_bare (formulas_of all))
leaves_end made rest all w e = subst (λ fs. StandFor made (all_bare (formulas_of fs))) (sym (append-nil w.before) ∙ ap (λ fs. w.before ++ fs) (sym e) ∙ w.whole) w.stand

pub nothing : {X : Type 0} (xs : List X) → length xs ≡ 0 → xs ≡ []
nothing [] e = refl
nothing (x ∷ xs) e = cc

-- one well-formed point more
pub points_more : (t : TestPoint) (ts us : List TestPoint) → us ≡ t ∷ ts → IsTestPoint t → All IsTestPoint ts → All IsTestPoint us
points_more t ts us e h k = subst (All IsTestPoint) (sym e) (All-cons IsTestPoint t ts h k)
