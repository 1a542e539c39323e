-- The branches of answers, made from the last answer to the first.
use Rattle.std.proofs.Common.{◌≡◌, ℕ, zero, suc, ◌+◌, ◌<◌, ◌≤◌, false, List, [], ◌∷◌, ◌++◌, map, length, reverse, get_or, drop, refl, sym, ap, ap₂, ◌∙◌, subst, arith, inl, inr, length-append}
use Rattle.std.specs.List.{AllByRecursion}
use Rattle.std.proofs.Math.ListN.{drop_of_length-le}
use Rattle.std.proofs.Math.Seq.{drop-cons}
use Rattle.std.proofs.lemmas.List.{reverse-append}
use Rattle.logic_meaning.specs.Context.{Context}
use Rattle.logic_meaning.specs.Answer.{Answer}
use Rattle.logic_meaning.specs.Plain.{IsPlain}
use Rattle.logic_meaning.specs.Some.{SomeOf, EachOf}
use Rattle.logic_meaning.specs.Tree.{Tree}
use Rattle.formula_laws.specs.Equivalence.{InContext}
use Rattle.logic_meaning.specs.Answers.{Step}
use Rattle.logic_meaning.specs.BothTheories.{IsPlaceIn}
use Rattle.logic_meaning.specs.Steps.{result_at}
use Rattle.elimination_theory.proofs.OneStep.{result_becomes}
use Rattle.elimination_theory.proofs.Tidy.{normaliser}
use Rattle.logic_meaning.specs.NormalForm.{normal_atom}
use Rattle.formula_tree.specs.declared.shape.Shape.{Shape}
use Rattle.formula_tree.specs.Makers.{IsMade, Keeps}
use Rattle.formula_store.specs.declared.id.FormulaId.{FormulaId}
use Rattle.formula_store.specs.Nodes.{tree, IsId}
use Rattle.formula_store.proofs.Makes.{keeps_then}
use Rattle.nnf_trees.specs.Placed.{all_within}
use Rattle.test_points.specs.declared.points.TestPoint.{TestPoint}
use Rattle.test_points.specs.Points.{place_of, answer_of}
use Rattle.case_theory.specs.PutThrough.{put_through}
use Rattle.case_theory.specs.Samples.{answer_steps}
use Rattle.engine_answers.specs.Searches.{IsSharedTree}
use Rattle.engine_answers.specs.Branches.{shared_steps}
use Rattle.engine_answers.specs.Calculation.{SubstitutionPasses, after_first}

pub rest_at : {X : Type 0} (xs : List X) (i : ℕ) (x : X) → i < length xs → x ≡ get_or xs i x → drop i xs ≡ x ∷ drop (suc i) xs
rest_at xs i x h e = drop-cons xs i x h ∙ ap (λ y. y ∷ drop (suc i) xs) (sym e)

pub some_at : {X : Type 0} (xs : List X) (i : ℕ) → i < length xs → (x : X) × (drop i xs ≡ x ∷ drop (suc i) xs)
some_at [] i h = absurd (omega arith)
some_at (x ∷ xs) zero h = (x, refl)
some_at (x ∷ xs) (suc i) h = some_at xs i (omega arith)

pub each_at : {X : Type 0} (P : Answer → Type 0) (g : X → Answer) (xs : List X) (i : ℕ) (d : X) → EachOf P (map g xs) → i < length xs → P (g (get_or xs i d))
each_at P g [] i d h n = absurd (omega arith)
each_at P g (x ∷ xs) zero d h n = h.0
each_at P g (x ∷ xs) (suc i) d h n = each_at P g xs i d h.1 (omega arith)

module _ (c : Context) where
  -- ---- a store that grows

  shared_kept : (old new : List (Shape FormulaId)) (id : FormulaId) → Keeps (IsId old) (tree old) (IsId new) (tree new) → IsSharedTree c old id → IsSharedTree c new id
  shared_kept old new id k h =
      let same = sym (k.same id h.is) in
      record { is = k.is id h.is; is_plain = subst IsPlain same h.is_plain; in_context = subst (InContext c) same h.in_context }

  all_kept : (old new : List (Shape FormulaId)) (ids : List FormulaId) → Keeps (IsId old) (tree old) (IsId new) (tree new) → AllByRecursion (IsSharedTree c old) ids → AllByRecursion (IsSharedTree c new) ids
  all_kept old new [] k h = tt
  all_kept old new (id ∷ ids) k h = (shared_kept old new id k h.0, all_kept old new ids k h.1)

  steps_kept : (old new : List (Shape FormulaId)) (ts : List TestPoint) (ids : List FormulaId) → Keeps (IsId old) (tree old) (IsId new) (tree new) → AllByRecursion (IsSharedTree c old) ids → shared_steps new ts ids ≡ shared_steps old ts ids
  steps_kept old new [] ids k h = refl
  steps_kept old new (t ∷ ts) [] k h = refl
  steps_kept old new (t ∷ ts) (id ∷ ids) k h =
      ap (λ f. record { name = t.name.number; place = place_of t; branch = f } ∷ shared_steps new ts ids) (k.same id h.0.is)
      ∙ ap (λ l. record { name = t.name.number; place = place_of t; branch = tree old id } ∷ l) (steps_kept old new ts ids k h.1)

  module _ (ts : List TestPoint) (f : Tree) where
    -- the formula with the answers after this place put in
    abbrev pub through_after : ℕ → Tree
    through_after p = put_through c (map answer_of (drop (suc p) ts)) f

    -- the branches of the answers from a place on, the last one first; the newest is that of this place
    pub record AreBuilt (old new : List (Shape FormulaId)) (p : ℕ) (branch : FormulaId) (ids : List FormulaId) : Type 0 where
      pub newest : IsSharedTree c new branch
      pub same : tree new branch ≡ through_after p
      pub each : AllByRecursion (IsSharedTree c new) (reverse ids)
      pub count : length ids + p ≡ length ts
      pub steps : shared_steps new (drop p ts) (reverse ids) ≡ answer_steps c (map answer_of (drop p ts)) f
      pub kept : Keeps (IsId old) (tree old) (IsId new) (tree new)

    step_first : (new : List (Shape FormulaId)) (p : ℕ) (branch : FormulaId) (ids : List FormulaId) → p < length ts → tree new branch ≡ through_after p →
        shared_steps new (drop (suc p) ts) ids ≡ answer_steps c (map answer_of (drop (suc p) ts)) f → shared_steps new (drop p ts) (branch ∷ ids) ≡ answer_steps c (map answer_of (drop p ts)) f
    step_first new p branch ids n same rest =
        let here = some_at ts p n in
        let t = here.0 in
        let split = here.1 in
        ap (λ (l : List TestPoint). shared_steps new l (branch ∷ ids)) split
        ∙ ap₂ (λ (g : Tree) (l : List Step). record { name = t.name.number; place = place_of t; branch = g } ∷ l) same rest
        ∙ ap (λ (l : List TestPoint). answer_steps c (map answer_of l) f) (sym split)

    pub built_first : (old : List (Shape FormulaId)) (p : ℕ) (matrix : FormulaId) (ids : List FormulaId) → IsSharedTree c old matrix → tree old matrix ≡ f → suc p ≡ length ts → ids ≡ matrix ∷ [] → AreBuilt old old p matrix ids
    built_first old p matrix ids h e n m =
        let long : length ts ≤ suc p = omega arith in
        let over : drop (suc p) ts ≡ [] = drop_of_length-le ts long in
        let here : tree old matrix ≡ through_after p = e ∙ ap (λ (l : List TestPoint). put_through c (map answer_of l) f) (sym over) in
        let rest : shared_steps old (drop (suc p) ts) [] ≡ answer_steps c (map answer_of (drop (suc p) ts)) f
        = ap (λ (l : List TestPoint). shared_steps old l []) over ∙ ap (λ (l : List TestPoint). answer_steps c (map answer_of l) f) (sym over) in
        let turned : reverse ids ≡ matrix ∷ [] = ap reverse m in
        record {
          newest = h;
          same = here;
          each = subst (AllByRecursion (IsSharedTree c old)) (sym turned) (h, tt);
          count = ap (λ (l : List FormulaId). length l + p) m ∙ (let k : 1 + p ≡ length ts = omega arith in k);
          steps = ap (shared_steps old (drop p ts)) turned ∙ step_first old p matrix [] (omega arith) here rest;
          kept = record { is = λ id i. i; same = λ id i. refl };
        }

    built_more : (old new newer : List (Shape FormulaId)) (q : ℕ) (t : TestPoint) (branch made : FormulaId) (ids more : List FormulaId) → AreBuilt old new (suc q) branch ids → suc q < length ts → t ≡ get_or ts (suc q) t →
        IsPlaceIn c (place_of t) → Keeps (IsId new) (tree new) (IsId newer) (tree newer) → IsMade (IsId newer) (tree newer) made (result_at c (normal_atom c) t.name.number (place_of t) (tree new branch)) → more ≡ ids ++ (made ∷ []) →
        AreBuilt old newer q made more
    built_more old new newer q t branch made ids more b n is place k m e =
        let becomes = result_becomes c (normal_atom c) (normaliser c) t.name.number (place_of t) (tree new branch) place b.newest.is_plain b.newest.in_context in
        let here : tree newer made ≡ through_after q
        = m.same ∙ ap (result_at c (normal_atom c) t.name.number (place_of t)) b.same ∙ ap (λ (l : List TestPoint). put_through c (map answer_of l) f) (sym (rest_at ts (suc q) t n is)) in
        let turned : reverse more ≡ made ∷ reverse ids = ap reverse e ∙ reverse-append ids (made ∷ []) in
        let newest : IsSharedTree c newer made = record { is = m.is; is_plain = subst IsPlain (sym m.same) becomes.is_plain; in_context = subst (InContext c) (sym m.same) becomes.in_context } in
        let below : q < length ts = omega arith in
        record {
          newest = newest;
          same = here;
          each = subst (AllByRecursion (IsSharedTree c newer)) (sym turned) (newest, all_kept new newer (reverse ids) k b.each);
          count = let long : length more ≡ length ids + 1 = ap length e ∙ length-append ids (made ∷ []) in let before = b.count in omega (arith, long, before);
          steps = ap (shared_steps newer (drop q ts)) turned ∙ step_first newer q made (reverse ids) below here (steps_kept new newer (drop (suc q) ts) (reverse ids) k b.each ∙ b.steps);
          kept = keeps_then old new newer b.kept k;
        }

    -- one answer more is put in
    pub built_down : (old new newer : List (Shape FormulaId)) (p q : ℕ) (t : TestPoint) (branch made : FormulaId) (ids more : List FormulaId) → suc q ≡ p → AreBuilt old new p branch ids → p < length ts → t ≡ get_or ts p t →
        IsPlaceIn c (place_of t) → Keeps (IsId new) (tree new) (IsId newer) (tree newer) → IsMade (IsId newer) (tree newer) made (result_at c (normal_atom c) t.name.number (place_of t) (tree new branch)) → more ≡ ids ++ (made ∷ []) →
        AreBuilt old newer q made more
    built_down old new newer p q t branch made ids more e b n is place k m g =
        let back = sym e in
        built_more old new newer q t branch made ids more (subst (λ j. AreBuilt old new j branch ids) back b) (subst (λ j. j < length ts) back n) (subst (λ j. t ≡ get_or ts j t) back is) place k m g

-- ---- a number that passes the limit

module _ (c : Context) (f : Tree) where
  passes_later : (ts : List TestPoint) (q : ℕ) → SomeOf (SubstitutionPasses c) (answer_steps c (map answer_of (drop q ts)) f) → SomeOf (SubstitutionPasses c) (answer_steps c (map answer_of ts) f)
  passes_later ts zero h = h
  passes_later [] (suc q) h = h
  passes_later (t ∷ ts) (suc q) h = inr (passes_later ts q h)

  after_one : (ts : List TestPoint) (q : ℕ) → SomeOf (SubstitutionPasses c) (answer_steps c (map answer_of (drop (suc q) ts)) f) → SomeOf (SubstitutionPasses c) (after_first (answer_steps c (map answer_of ts) f))
  after_one [] q h = h
  after_one (t ∷ ts) q h = passes_later ts q h

  pub passes_after : (ts : List TestPoint) (p q : ℕ) (t : TestPoint) → suc q ≡ p → p < length ts → t ≡ get_or ts p t → (g : Tree) → g ≡ through_after c ts f p → all_within c t.name.number (place_of t) g ≡ false →
      SomeOf (SubstitutionPasses c) (after_first (answer_steps c (map answer_of ts) f))
  passes_after ts p q t e n is g same h =
      let here : SomeOf (SubstitutionPasses c) (answer_steps c (map answer_of (drop p ts)) f) = subst (λ (l : List TestPoint). SomeOf (SubstitutionPasses c) (answer_steps c (map answer_of l) f)) (sym (rest_at ts p t n is)) (inl (ap (all_within c t.name.number (place_of t)) (sym same) ∙ h)) in
      after_one ts q (subst (λ j. SomeOf (SubstitutionPasses c) (answer_steps c (map answer_of (drop j ts)) f)) (sym e) here)
