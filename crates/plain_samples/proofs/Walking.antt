-- The steps of a traced branch are those that its points take again from the root.
use Rattle.std.proofs.Common.{◌≡◌, Bool, true, false, List, [], ◌∷◌, ◌++◌, append_assoc, map, All, refl, sym, ap, ◌∙◌, subst}
use Rattle.std.specs.Prelude.{reverse, if◌then◌else◌}
use Rattle.std.proofs.lemmas.List.{append-nil, map-append, reverse-append, reverse-reverse}
use Rattle.std.proofs.lemmas.List.Elements.{All-push}
use Rattle.logic_meaning.specs.Answer.{Answer}
use Rattle.logic_meaning.specs.Context.{Context}
use Rattle.logic_meaning.specs.Some.{EachOf}
use Rattle.logic_meaning.specs.Tree.{Tree}
use Rattle.formula_laws.specs.Equivalence.{InContext}
use Rattle.logic_meaning.specs.Answers.{Step, answers_of}
use Rattle.elimination_theory.specs.AnswersTheorems.{Lead}
use Rattle.logic_meaning.specs.Answers as meaning
use Rattle.logic_meaning.specs.Atoms.{atoms_in}
use Rattle.logic_meaning.specs.BothTheories.{IsPlaceIn}
use Rattle.logic_meaning.specs.Steps.{result_at}
use Rattle.elimination_theory.proofs.BothSubstitutions.{place_in}
use Rattle.logic_meaning.specs.Reference.{stands_among}
use Rattle.logic_meaning.specs.NormalForm.{normal_atom}
use Rattle.nnf_trees.specs.Nnfs.{nnf_of, IsProper}
use Rattle.nnf_trees.specs.Placed.{point_within}
use Rattle.sample_reference.specs.Traced.{Trace, after_step, after_within}
use Rattle.test_points.specs.declared.points.TestPoint.{TestPoint}
use Rattle.test_points.specs.Points.{answer_of, place_of, IsTestPoint}
use Rattle.plain_samples.specs.declared.step.Step as code
use Rattle.plain_samples.specs.Steps.{step_of, steps_of, IsStep}
use Rattle.plain_samples.specs.Replay.{taken, taken_from, IsTakable, AreTakable}

-- the first element is last in the reverse
reversed_more : {X : Type 0} (x : X) (xs ys : List X) → reverse (x ∷ xs) ++ ys ≡ reverse xs ++ x ∷ ys
reversed_more x xs ys = ap (λ zs. zs ++ ys) (reverse-append (x ∷ []) xs) ∙ append_assoc (reverse xs) (x ∷ []) ys

-- the place and the branch are of the theory
abbrev pub IsInTheory : Context → Step → Type 0
IsInTheory c s = IsPlaceIn c s.place × InContext c s.branch

pub lead_inside : (c : Context) (steps : List Step) (f g : Tree) → Lead c steps f g → EachOf (IsInTheory c) steps
lead_inside c [] f g h = tt
lead_inside c (s ∷ rest) f g h = ((place_in c s.name s.place s.branch h.1.suits, h.1.in_context), lead_inside c rest f s.branch h.0)

first_or : Answer → List Answer → Answer
first_or a [] = a
first_or a (b ∷ bs) = b

rest_of : List Answer → List Answer
rest_of [] = []
rest_of (b ∷ bs) = bs

module _ (c : Context) (root : Tree) where
  walked : (steps : List Step) (ts : List TestPoint) (t : Tree) → Trace c root steps t → EachOf (IsInTheory c) steps → map answer_of ts ≡ answers_of steps → EachOf IsTestPoint ts → (more : List TestPoint) → AreTakable c t more →
      AreTakable c root (reverse ts ++ more) × (reverse steps ++ taken_from c t more ≡ taken_from c root (reverse ts ++ more))
  unfolding first_or rest_of
  walked [] [] t h i e p more k = (subst (λ r. AreTakable c r more) h k, ap (λ r. taken_from c r more) h)
  walked [] (u ∷ us) t h i e p more k = absurd cc
  walked (s ∷ rest) [] t h i e p more k = absurd cc
  walked (s ∷ rest) (u ∷ us) t h i e p more k =
      let answer : answer_of u ≡ meaning.answer_of s = ap (first_or (answer_of u)) e in
      let same : taken s.branch u ≡ s = ap (λ (a : Answer). let r : Step = record { name = a.name; place = a.place; branch = s.branch } in r) answer in
      let place : s.place ≡ place_of u = ap (λ (a : Answer). a.place) (sym answer) in
      let here : IsTakable c s.branch u = record {
        point = p.0;
        place = subst (IsPlaceIn c) place i.0.0;
        inside = i.0.1;
        within = subst (λ q. after_within c q ≡ true) (sym same) h.0.within;
      } in
      let left : t ≡ after_step c (taken s.branch u) = h.0.tree ∙ ap (after_step c) (sym same) in
      let before = walked rest us s.branch h.1 i.1 (ap rest_of e) p.1 (u ∷ more) (here, subst (λ r. AreTakable c r more) left k) in
      let order : reverse us ++ u ∷ more ≡ reverse (u ∷ us) ++ more = sym (reversed_more u us more) in (
        subst (AreTakable c root) order before.0,
        reversed_more s rest (taken_from c t more)
            ∙ ap (λ xs. reverse rest ++ xs) (ap (λ q. q ∷ taken_from c t more) (sym same) ∙ ap (λ r. taken s.branch u ∷ taken_from c r more) left)
            ∙ before.1 ∙ ap (taken_from c root) order,
      )

  pub are_takable : (steps : List Step) (ts : List TestPoint) (t : Tree) → Trace c root steps t → EachOf (IsInTheory c) steps → map answer_of ts ≡ answers_of steps → EachOf IsTestPoint ts → AreTakable c root (reverse ts)
  are_takable steps ts t h i e p = subst (AreTakable c root) (append-nil (reverse ts)) (walked steps ts t h i e p [] tt).0

  pub taken_again : (steps : List Step) (ts : List TestPoint) (t : Tree) → Trace c root steps t → EachOf (IsInTheory c) steps → map answer_of ts ≡ answers_of steps → EachOf IsTestPoint ts → steps ≡ reverse (taken_from c root (reverse ts))
  taken_again steps ts t h i e p =
      sym (reverse-reverse steps) ∙ ap reverse (sym (append-nil (reverse steps)) ∙ (walked steps ts t h i e p [] tt).1 ∙ ap (taken_from c root) (append-nil (reverse ts)))

-- ---- one step

module _ (c : Context) (s : Step) where
  pub within_put : stands_among s.name (atoms_in s.branch) ≡ true → after_within c s ≡ true → point_within c s.name s.branch s.place ≡ true
  within_put e h = sym (ap (λ (b : Bool). if b then point_within c s.name s.branch s.place else true) e) ∙ h

  pub after_put : stands_among s.name (atoms_in s.branch) ≡ true → result_at c (normal_atom c) s.name s.place s.branch ≡ after_step c s
  after_put e = sym (ap (λ (b : Bool). if b then result_at c (normal_atom c) s.name s.place s.branch else s.branch) e)

  pub after_kept : stands_among s.name (atoms_in s.branch) ≡ false → s.branch ≡ after_step c s
  after_kept e = sym (ap (λ (b : Bool). if b then result_at c (normal_atom c) s.name s.place s.branch else s.branch) e)

-- ---- the program's steps

-- one step more is taken
pub steps_more : (c : Context) (made made2 : List code.Step) (s : code.Step) (g : Tree) (rest : List TestPoint) (all : List Step) → steps_of made ++ taken_from c (nnf_of s.branch) (s.point ∷ rest) ≡ all → g ≡ after_step c (step_of s) → made2 ≡ made ++ s ∷ [] →
    steps_of made2 ++ taken_from c g rest ≡ all
steps_more c made made2 s g rest all h e m =
    ap (λ xs. steps_of xs ++ taken_from c g rest) m ∙ ap (λ xs. xs ++ taken_from c g rest) (map-append step_of made (s ∷ [])) ∙ append_assoc (steps_of made) (step_of s ∷ []) (taken_from c g rest)
    ∙ ap (λ t. steps_of made ++ step_of s ∷ taken_from c t rest) e ∙ h

pub sound_more : (c : Context) (made made2 : List code.Step) (s : code.Step) → All (IsStep c) made → IsTakable c (nnf_of s.branch) s.point → IsProper s.branch → made2 ≡ made ++ s ∷ [] → All (IsStep c) made2
sound_more c made made2 s h t p m =
    let step : IsStep c s = record { point = t.point; place = t.place; proper = p; inside = t.inside } in
    subst (All (IsStep c)) (sym m) (All-push (IsStep c) made s h step)

-- in the other order
pub steps_reversed : (xs : List code.Step) → steps_of (reverse xs) ≡ reverse (steps_of xs)
steps_reversed [] = refl
steps_reversed (x ∷ xs) =
    ap steps_of (reverse-append (x ∷ []) xs) ∙ map-append step_of (reverse xs) (x ∷ []) ∙ ap (λ ss. ss ++ step_of x ∷ []) (steps_reversed xs) ∙ sym (reverse-append (step_of x ∷ []) (steps_of xs))
