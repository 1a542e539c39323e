-- Steps of branches, as the program takes them.
use Rattle.std.proofs.Common.{◌≡◌, ℕ, ◌*◌, ◌+◌, true, false, List, [], ◌∷◌, ◌++◌, append_assoc, map, refl, sym, ap, ◌∙◌, subst}
use Rattle.std.specs.Prelude.{if◌then◌else◌}
use Rattle.std.proofs.lemmas.List.{append-nil}
use Rattle.logic_meaning.specs.Answer.{Place}
use Rattle.logic_meaning.specs.Context.{Context}
use Rattle.logic_meaning.specs.Formula.{No}
use Rattle.logic_meaning.specs.Sizes.{nodes}
use Rattle.logic_meaning.specs.Tree.{Tree}
use Rattle.logic_meaning.specs.Atoms.{atoms_in, atoms_of}
use Rattle.logic_meaning.specs.BothTheories.{test_points}
use Rattle.logic_meaning.specs.declared.side.Side.TheVariants.{Lower}
use Rattle.logic_meaning.specs.Steps.{Result as Left, kept, result_at, results}
use Rattle.logic_meaning.specs.Limits.{each}
use Rattle.logic_meaning.specs.StopLimits.{span_within, step_within}
use Rattle.logic_meaning.specs.Reference.{Branch, next_branch, kept_at_zero, stands_among, point_count, full_step, one_step, steps}
use Rattle.logic_meaning.specs.Measured.{Outcome, stopped, done, then_of, give, pay, within}
use Rattle.logic_meaning.specs.NormalForm.{normal_atom}
use Rattle.logic_meaning.specs.declared.form.VarId.{VarId}
use Rattle.nnf_trees.specs.Nnfs.{nnf_of}
use Rattle.nnf_trees.specs.Placed.{is_no, point_within}
use Rattle.nnf_trees.proofs.PutLaws.{and_known}
use Rattle.test_points.specs.declared.points.TestPoint.{TestPoint}
use Rattle.test_points.specs.Points.{answer_of, place_of, IsPointOf}
use Rattle.reference_engine.specs.declared.measured.Measured.{Measured}
use Rattle.reference_engine.specs.declared.measured.Measured.TheVariants as measured
use Rattle.reference_engine.specs.Told.{StopsWith, bare, seen}
use Rattle.reference_engine.specs.Paid.{paid_for}
use Rattle.reference_engine.proofs.Seen.{stops_then, stops_along, full_bare}
use Rattle.reference_engine.specs.declared.branch.Leaf.{Leaf}
use Rattle.reference_engine.specs.Stand.{StandsFor, StandFor, IsZeroPoint, TellsOf, results_at}
use Rattle.reference_engine.proofs.Standing.{stand_appended, stand_pushed, unseen_stops}

-- ---- a list of steps

-- branches before those of a computation
abbrev pub put_before : List Branch → Outcome (List Branch × ℕ) → Outcome (List Branch × ℕ)
put_before bs o = then_of o (λ q. done (bs ++ q.0, q.1))

before_before : (bs cs : List Branch) (o : Outcome (List Branch × ℕ)) → put_before bs (put_before cs o) ≡ put_before (bs ++ cs) o
before_before bs cs (stopped s) = refl
before_before bs cs (done q) = ap (λ ds. done (ds, q.1)) (sym (append_assoc bs cs q.0))

none_before : (o : Outcome (List Branch × ℕ)) → put_before [] o ≡ o
none_before (stopped s) = refl
none_before (done q) = refl

-- the steps of the leaves left lead where all steps lead
pub record IsOnTheWay (c : Context) (limit x : ℕ) (made rest : List Leaf) (cost : ℕ) (all : Outcome (List Branch × ℕ)) : Type 0 where
  pub before : List Branch
  pub left : List Branch
  pub before_stand : StandFor made before
  pub left_stand : StandFor rest left
  pub leads : put_before before (steps c limit x left cost) ≡ all

module _ (c : Context) (limit x : ℕ) where
  steps_first : (b : Branch) (bs mb : List Branch) (cost cost2 : ℕ) → one_step c limit x b cost ≡ done (mb, cost2) → steps c limit x (b ∷ bs) cost ≡ put_before mb (steps c limit x bs cost2)
  steps_first b bs mb cost cost2 e = ap (λ o. then_of o (λ r. then_of (steps c limit x bs r.1) (λ q. done (r.0 ++ q.0, q.1)))) e

  pub way_begins : (ls : List Leaf) (bs : List Branch) (cost : ℕ) → StandFor ls bs → IsOnTheWay c limit x [] ls cost (steps c limit x bs cost)
  way_begins ls bs cost h = record { before = []; left = bs; before_stand = tt; left_stand = h; leads = none_before (steps c limit x bs cost) }

  -- the first of those left
  pub way_goes_on : (made made2 rest more : List Leaf) (l : Leaf) (cost cost2 : ℕ) (all : Outcome (List Branch × ℕ)) → IsOnTheWay c limit x made (l ∷ rest) cost all →
      ((b : Branch) → StandsFor l b → TellsOf more cost2 (one_step c limit x b cost)) → made2 ≡ made ++ more → IsOnTheWay c limit x made2 rest cost2 all
  way_goes_on made made2 rest more l cost cost2 all w told m = go w.left w.left_stand w.leads
    where
      next : (b : Branch) (bs : List Branch) → StandFor rest bs → put_before w.before (steps c limit x (b ∷ bs) cost) ≡ all → (o : Outcome (List Branch × ℕ)) → one_step c limit x b cost ≡ o → TellsOf more cost2 o → IsOnTheWay c limit x made2 rest cost2 all
      next b bs h k (stopped s) e t = absurd t
      next b bs h k (done r) e t =
          let f : one_step c limit x b cost ≡ done (r.0, cost2) = e ∙ ap (λ n. let o : Outcome (List Branch × ℕ) = done (r.0, n) in o) t.1 in
          record {
            before = w.before ++ r.0;
            left = bs;
            before_stand = subst (λ xs. StandFor xs (w.before ++ r.0)) (sym m) (stand_appended made more w.before r.0 w.before_stand t.0);
            left_stand = h;
            leads = sym (before_before w.before r.0 (steps c limit x bs cost2)) ∙ ap (put_before w.before) (sym (steps_first b bs r.0 cost cost2 f)) ∙ k;
          }

      go : (bs : List Branch) → StandFor (l ∷ rest) bs → put_before w.before (steps c limit x bs cost) ≡ all → IsOnTheWay c limit x made2 rest cost2 all
      go [] h k = absurd h
      go (b ∷ bs) h k = next b bs h.1 k (one_step c limit x b cost) refl (told b h.0)

  pub way_stops : (e : Measured) (made rest : List Leaf) (l : Leaf) (cost : ℕ) (all : Outcome (List Branch × ℕ)) → IsOnTheWay c limit x made (l ∷ rest) cost all →
      ((b : Branch) → StandsFor l b → StopsWith e (one_step c limit x b cost)) → StopsWith e all
  way_stops e made rest l cost all w stops = go w.left w.left_stand w.leads
    where
      go : (bs : List Branch) → StandFor (l ∷ rest) bs → put_before w.before (steps c limit x bs cost) ≡ all → StopsWith e all
      go [] h k = absurd h
      go (b ∷ bs) h k = stops_along e _ all k (stops_then e (steps c limit x (b ∷ bs) cost) _ (stops_then e (one_step c limit x b cost) _ (stops b h.0)))

  pub way_ends : (made rest : List Leaf) (cost : ℕ) (all : Outcome (List Branch × ℕ)) → IsOnTheWay c limit x made rest cost all → rest ≡ [] → TellsOf made cost all
  way_ends made rest cost all w e = go w.left (subst (λ ls. StandFor ls w.left) e w.left_stand) w.leads
    where
      go : (bs : List Branch) → StandFor [] bs → put_before w.before (steps c limit x bs cost) ≡ all → TellsOf made cost all
      go [] h k = subst (TellsOf made cost) k (subst (StandFor made) (sym (append-nil w.before)) w.before_stand, refl)
      go (b ∷ bs) h k = absurd h

-- ---- one step

module _ (c : Context) (limit x : ℕ) (b : Branch) where
  pub one_full : (cost : ℕ) → stands_among x (atoms_in b.tree) ≡ true → one_step c limit x b cost ≡ full_step c limit x b cost
  one_full cost e = ap (λ t. (if t then full_step c limit x b else give (kept_at_zero x b ∷ [])) cost) e

  pub one_kept : (cost : ℕ) → stands_among x (atoms_in b.tree) ≡ false → one_step c limit x b cost ≡ done (kept_at_zero x b ∷ [], cost)
  one_kept cost e = ap (λ t. (if t then full_step c limit x b else give (kept_at_zero x b ∷ [])) cost) e

  abbrev after_paid : Outcome (Unit {0} × ℕ) → Outcome (List Branch × ℕ)
  after_paid o = then_of o (λ q. then_of (within (step_within c x b.tree) q.1) (λ r. done (results_at c x b (test_points c Lower x (atoms_of b.tree)), r.1)))

  split : (n : ℕ) (o : Outcome (Unit {0} × ℕ)) →
      then_of o (λ p. then_of (pay limit n p.1) (λ q. then_of (within (step_within c x b.tree) q.1) (λ r. done (results_at c x b (test_points c Lower x (atoms_of b.tree)), r.1)))) ≡ after_paid (then_of o (λ p. pay limit n p.1))
  split n (stopped s) = refl
  split n (done p) = refl

  full_paid : (cost : ℕ) → full_step c limit x b cost ≡ after_paid (paid_for c limit x b.tree cost)
  full_paid cost = split (point_count c x b.tree * (nodes b.tree + 2)) (within (span_within c x b.tree) cost)

  pub full_left : (cost after : ℕ) → paid_for c limit x b.tree cost ≡ done (tt, after) → step_within c x b.tree ≡ true → full_step c limit x b cost ≡ done (results_at c x b (test_points c Lower x (atoms_of b.tree)), after)
  full_left cost after p e = full_paid cost ∙ ap after_paid p ∙ ap (λ t. then_of (within t after) (λ r. done (results_at c x b (test_points c Lower x (atoms_of b.tree)), r.1))) e

  pub full_overflows : (cost after : ℕ) → paid_for c limit x b.tree cost ≡ done (tt, after) → step_within c x b.tree ≡ false → StopsWith measured.Overflow (full_step c limit x b cost)
  full_overflows cost after p e = full_paid cost ∙ ap after_paid p ∙ ap (λ t. then_of (within t after) (λ r. done (results_at c x b (test_points c Lower x (atoms_of b.tree)), r.1))) e

  pub full_stops : (e : Measured) (cost : ℕ) → StopsWith e (seen (full_step c limit x (bare b.tree) cost)) → StopsWith e (full_step c limit x b cost)
  full_stops e cost h = unseen_stops e (full_step c limit x b cost) (stops_along e _ _ (sym (full_bare c limit x b cost)) h)

-- ---- points

module _ (c : Context) (x : ℕ) (b : Branch) where
  kept_no : (s : Place) (g : Tree) (rest : List Left) → is_no g ≡ true → kept s g rest ≡ rest
  kept_no s No rest e = refl
  kept_no s g rest e = cc

  kept_other : (s : Place) (g : Tree) (rest : List Left) → is_no g ≡ false → kept s g rest ≡ record { place = s; tree = g } ∷ rest
  kept_other s No rest e = cc
  kept_other s g rest e = refl

  pub place_without : (s : Place) (g : Tree) (places : List Place) → g ≡ result_at c (normal_atom c) x s b.tree → is_no g ≡ true → results_at c x b (s ∷ places) ≡ results_at c x b places
  place_without s g places e n = ap (map (next_branch x b)) (ap (λ h. kept s h (results c (normal_atom c) x b.tree places)) (sym e) ∙ kept_no s g (results c (normal_atom c) x b.tree places) n)

  pub place_with : (s : Place) (g : Tree) (places : List Place) → g ≡ result_at c (normal_atom c) x s b.tree → is_no g ≡ false → results_at c x b (s ∷ places) ≡ next_branch x b (record { place = s; tree = g }) ∷ results_at c x b places
  place_with s g places e n = ap (map (next_branch x b)) (ap (λ h. kept s h (results c (normal_atom c) x b.tree places)) (sym e) ∙ kept_other s g (results c (normal_atom c) x b.tree places) n)

-- the leaf behind a leaf, at a point
pub next_stands : (l m : Leaf) (b : Branch) (x : VarId) (t : TestPoint) → StandsFor l b → IsPointOf x t → m.points.items ≡ t ∷ l.points.items → StandsFor m (next_branch x.number b (record { place = place_of t; tree = nnf_of m.formula }))
next_stands l m b x t h i e = record {
  formula = refl;
  answers = ap (map answer_of) e ∙ ap (λ (v : VarId). record { name = v.number; place = place_of t } ∷ map answer_of l.points.items) i.name ∙ ap (λ answers. record { name = x.number; place = place_of t } ∷ answers) h.answers;
}

pub zero_stands : (l m : Leaf) (b : Branch) (x : VarId) (t : TestPoint) → StandsFor l b → IsZeroPoint x t → m.formula ≡ l.formula → m.points.items ≡ t ∷ l.points.items → StandsFor m (kept_at_zero x.number b)
zero_stands l m b x t h i f e = record {
  formula = ap nnf_of f ∙ h.formula;
  answers = ap (map answer_of) e ∙ (λ j. record { name = (i.point_of.name j).number; place = i.place j } ∷ h.answers j);
}

-- the places left lead where all places lead
pub record AreLeft (c : Context) (x : ℕ) (l : Leaf) (made : List Leaf) (rest all : List TestPoint) : Type 0 where
  pub stand : (b : Branch) → StandsFor l b → (bs : List Branch) × StandFor made bs × (bs ++ results_at c x b (map place_of rest) ≡ results_at c x b (map place_of all))
  pub within : each (point_within c x (nnf_of l.formula)) (map place_of rest) ≡ each (point_within c x (nnf_of l.formula)) (map place_of all)

module _ (c : Context) (l : Leaf) where
  pub left_first : (x : ℕ) (all : List TestPoint) → AreLeft c x l [] all all
  left_first x all = record { stand = λ b h. ([], tt, refl); within = refl }

  pub left_without : (x : VarId) (made : List Leaf) (t : TestPoint) (rest all : List TestPoint) (g : Tree) → AreLeft c x.number l made (t ∷ rest) all → g ≡ result_at c (normal_atom c) x.number (place_of t) (nnf_of l.formula) → is_no g ≡ true →
      point_within c x.number (nnf_of l.formula) (place_of t) ≡ true → AreLeft c x.number l made rest all
  left_without x made t rest all g a e n w = record {
    stand = λ b h. let s = a.stand b h in
        (s.0, s.1, ap (λ bs. s.0 ++ bs) (sym (place_without c x.number b (place_of t) g (map place_of rest) (e ∙ ap (result_at c (normal_atom c) x.number (place_of t)) h.formula) n)) ∙ s.2);
    within = sym (and_known (point_within c x.number (nnf_of l.formula) (place_of t)) (each (point_within c x.number (nnf_of l.formula)) (map place_of rest)) w) ∙ a.within;
  }

  pub left_with : (x : VarId) (made made2 : List Leaf) (m : Leaf) (t : TestPoint) (rest all : List TestPoint) → AreLeft c x.number l made (t ∷ rest) all → nnf_of m.formula ≡ result_at c (normal_atom c) x.number (place_of t) (nnf_of l.formula) →
      is_no (nnf_of m.formula) ≡ false → point_within c x.number (nnf_of l.formula) (place_of t) ≡ true → IsPointOf x t → m.points.items ≡ t ∷ l.points.items → made2 ≡ made ++ m ∷ [] → AreLeft c x.number l made2 rest all
  left_with x made made2 m t rest all a e n w i p q = record {
    stand = λ b h.
        let s = a.stand b h in
        let d = next_branch x.number b (record { place = place_of t; tree = nnf_of m.formula }) in (
          s.0 ++ d ∷ [],
          stand_pushed made made2 m s.0 d s.1 (next_stands l m b x t h i p) q,
          append_assoc s.0 (d ∷ []) (results_at c x.number b (map place_of rest))
              ∙ ap (λ bs. s.0 ++ bs) (sym (place_with c x.number b (place_of t) (nnf_of m.formula) (map place_of rest) (e ∙ ap (result_at c (normal_atom c) x.number (place_of t)) h.formula) n)) ∙ s.2,
        );
    within = sym (and_known (point_within c x.number (nnf_of l.formula) (place_of t)) (each (point_within c x.number (nnf_of l.formula)) (map place_of rest)) w) ∙ a.within;
  }
