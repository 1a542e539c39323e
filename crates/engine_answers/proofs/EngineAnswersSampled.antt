-- The values of a case of a case tree, in the order of its block, are a sample of the formula; and there is none where no guard is true.
use Rattle.std.proofs.Common.{◌≡◌, ℕ, All as Each, zero, suc, ◌+◌, ◌<◌, Bool, true, false, List, [], ◌∷◌, ◌++◌, map, drop, get_or, length, append_assoc, inl, inr, sym, ap, ◌∙◌, subst, refl, arith, nat_eq}
use Rattle.std.specs.Prelude.{Some, None, Option}
use Rattle.exact_numbers.specs.declared.fraction.Fraction.{Fraction}
use Rattle.logic_meaning.specs.Context.{Context}
use Rattle.logic_meaning.specs.Point.{Point, Of}
use Rattle.formula_laws.specs.StandsOnce.{StandsOnce}
use Rattle.logic_meaning.specs.Every.{Every}
use Rattle.logic_meaning.specs.Shape.{block_of, matrix_of}
use Rattle.logic_meaning.specs.declared.quantifier.Quantifier.TheVariants.{Exists}
use Rattle.logic_meaning.specs.Sizes.{nodes}
use Rattle.logic_meaning.specs.Some.{Among, EachOf}
use Rattle.logic_meaning.specs.Atom.{Says}
use Rattle.logic_meaning.specs.Measured.{Outcome, done, then_of, pay, within}
use Rattle.logic_meaning.specs.Tree.{Tree, TrueAt}
use Rattle.logic_meaning.specs.Answers.{Step}
use Rattle.elimination_theory.proofs.SomeListed.{each_among}
use Rattle.logic_meaning.specs.NormalForm.{IsNormal}
use Rattle.logic_meaning.specs.declared.form.VarId.{VarId}
use Rattle.linear_forms.specs.Values.{number_of}
use Rattle.logic_meaning.specs.Cases.{case_sign, case_formula, case_names}
use Rattle.logic_meaning.specs.PutIn.{tree_put, tree_put_within}
use Rattle.logic_meaning.specs.Reference.{normal_tree, turned, branches}
use Rattle.logic_meaning.specs.Sample.{first_true}
use Rattle.elimination_theory.specs.Theorems.{Says as SaysAll}
use Rattle.elimination_theory.proofs.CasesExact.{says}
use Rattle.case_theory.proofs.Lists.{once_head}
use Rattle.case_theory.proofs.Without.{without_all_each}
use Rattle.logic_meaning.specs.ReferenceSample.{sampled, reference_sample}
use Rattle.sample_reference.specs.TrueSample.{IsTrueSample}
use Rattle.sample_reference.specs.Seen.{value_of, values_of}
use Rattle.logic_meaning.specs.Values.{Value, value_names, with_values}
use Rattle.case_theory.specs.Reordered.{AreReordered, IsTrueCase}
use Rattle.case_theory.specs.Samples.{IsSampleable, AreTrueAnswers}
use Rattle.reference_engine.proofs.FormAgain.{normal_tree_again}
use Rattle.reference_engine.specs.declared.measured.Measured.{Measured}
use Rattle.reference_engine.specs.Told.{StopsWith}
use Rattle.reference_engine.specs.declared.measured.Measured.TheVariants as measured
use Rattle.case_theory.specs.CaseTree.{without_all, SaysUnder, IsCaseUnder}
use Rattle.formula_tree.specs.declared.shape.Shape.{Shape}
use Rattle.formula_store.specs.declared.id.FormulaId.{FormulaId}
use Rattle.formula_store.specs.Nodes.{tree}
use Rattle.formula_store.specs.Truths.{Tells}
use Rattle.test_points.specs.Points.{answer_of, IsTestPoint}
use Rattle.engine_answers.specs.declared.case_tree.Case.{Case}
use Rattle.engine_answers.specs.declared.case_tree.CaseTree.{CaseTree}
use Rattle.engine_answers.specs.CaseTrees.{case_seen, cases_seen, IsCaseTreeOf}
use Rattle.case_theory.proofs.Cases.{case_sampleable}
use Rattle.case_theory.proofs.Reordered.{case_gives}
use Rattle.engine_answers.specs.Samples.{AreInOrder}

-- ---- values in an order

value_named : (vs : List Value) (v : Value) → Among vs v → Among (value_names vs) v.name
value_named [] v m = absurd m
value_named (u ∷ vs) v (inl e) = inl (ap (λ (w : Value). w.name) e)
value_named (u ∷ vs) v (inr m) = inr (value_named vs v m)

-- names that stand once have one value
one_value : (vs : List Value) (u v : Value) → StandsOnce (value_names vs) → Among vs u → Among vs v → u.name ≡ v.name → u ≡ v
one_value [] u v h m n e = absurd m
one_value (w ∷ vs) u v h (inl i) (inl j) e = sym i ∙ j
one_value (w ∷ vs) u v h (inl i) (inr n) e = absurd (once_head w.name (value_names vs) h (subst (Among (value_names vs)) (sym e ∙ sym (ap (λ (z : Value). z.name) i)) (value_named vs v n)))
one_value (w ∷ vs) u v h (inr m) (inl j) e = absurd (once_head w.name (value_names vs) h (subst (Among (value_names vs)) (e ∙ sym (ap (λ (z : Value). z.name) j)) (value_named vs u m)))
one_value (w ∷ vs) u v h (inr m) (inr n) e = one_value vs u v h.1 m n e

-- a value of the name
named_value : (vs : List Value) (y : ℕ) → Among (value_names vs) y → (v : Value) × Among vs v × (v.name ≡ y)
named_value [] y m = absurd m
named_value (v ∷ vs) y (inl e) = (v, inl refl, e)
named_value (v ∷ vs) y (inr m) = let r = named_value vs y m in (r.0, inr r.1, r.2)

-- the same values, in the order of their names
pub reordered : (names : List ℕ) (values ordered : List Value) → StandsOnce (value_names values) → ((y : ℕ) → Among (value_names values) y → Among names y) → AreInOrder names values ordered → AreReordered values ordered
reordered names values ordered once all h = record { once = once; same = λ v. (there v, λ m. each_among (Among values) ordered v h.each m) }
  where
    there : (v : Value) → Among values v → Among ordered v
    there v m =
        let r = named_value ordered v.name (subst (λ ns. Among ns v.name) (sym h.named) (all v.name (value_named values v m))) in
        subst (Among ordered) (one_value values r.0 v once (each_among (Among values) ordered r.0 h.each r.1) m r.2) r.1

-- ---- one value after the other

names_more : (vs : List (VarId × Fraction)) (v : VarId × Fraction) → value_names (values_of (vs ++ v ∷ [])) ≡ value_names (values_of vs) ++ v.0.number ∷ []
names_more [] v = refl
names_more (u ∷ vs) v = ap (λ ns. u.0.number ∷ ns) (names_more vs v)

dropped : (xs : List VarId) (i : ℕ) (d : VarId) → i < length xs → map number_of (drop i xs) ≡ (get_or xs i d).number ∷ map number_of (drop (suc i) xs)
dropped [] i d h = absurd (omega arith)
dropped (x ∷ xs) zero d h = refl
dropped (x ∷ xs) (suc i) d h = dropped xs i d (omega arith)

pub name_there : (xs : List VarId) (i : ℕ) (d : VarId) → i < length xs → Among (map number_of xs) (get_or xs i d).number
name_there [] i d h = absurd (omega arith)
name_there (x ∷ xs) zero d h = inl refl
name_there (x ∷ xs) (suc i) d h = inr (name_there xs i d (omega arith))

pub value_there : (xs : List (VarId × Fraction)) (i : ℕ) (x : VarId × Fraction) → i < length xs → x ≡ get_or xs i x → Among (values_of xs) (value_of x)
value_there [] i x l e = absurd (omega arith)
value_there (y ∷ xs) zero x l e = inl (ap value_of (sym e))
value_there (y ∷ xs) (suc i) x l e = inr (value_there xs i x (omega arith) e)

-- the next name has its value too
pub named_more : (names : List VarId) (i : ℕ) (d : VarId) → i < length names → (vs : List (VarId × Fraction)) (v : VarId × Fraction) → value_names (values_of vs) ++ map number_of (drop i names) ≡ map number_of names → v.0.number ≡ (get_or names i d).number
    → (ws : List (VarId × Fraction)) → ws ≡ vs ++ v ∷ [] → value_names (values_of ws) ++ map number_of (drop (i + 1) names) ≡ map number_of names
named_more names i d l vs v h e ws is =
    let next : suc i ≡ i + 1 = omega arith in
    let rest = map number_of (drop (suc i) names) in
    let here : v.0.number ∷ rest ≡ map number_of (drop i names) = ap (λ n. n ∷ rest) e ∙ sym (dropped names i d l) in
    subst (λ m. value_names (values_of ws) ++ map number_of (drop m names) ≡ map number_of names) next
    (ap (λ us. value_names (values_of us) ++ rest) is ∙ ap (λ ns. ns ++ rest) (names_more vs v) ∙ append_assoc (value_names (values_of vs)) (v.0.number ∷ []) rest ∙ ap (λ ns. value_names (values_of vs) ++ ns) here ∙ h)

pub each_more : (values : List Value) (vs : List (VarId × Fraction)) (v : VarId × Fraction) → EachOf (Among values) (values_of vs) → Among values (value_of v) → EachOf (Among values) (values_of (vs ++ v ∷ []))
each_more values [] v h m = (m, tt)
each_more values (u ∷ vs) v h m = (h.0, each_more values vs v h.1 m)

-- ---- no sample

module _ (c : Context) (f : Tree) (n : Every (IsNormal c) f) (p : Point ℕ) (o : Of c p) (guards : Tree) where
  pub none_sampled : SaysUnder c (without_all (case_names f) []) (case_sign (normal_tree f)) f guards → ¬ (TrueAt c guards p) → ¬ (TrueAt c (case_formula f) p)
  none_sampled s g t = go (case_sign (normal_tree f)) s (says c f (case_sign (normal_tree f)) (case_formula f) n (λ q i. (λ u. u, λ u. u)))
    where
      go : (b : Bool) → SaysUnder c (without_all (case_names f) []) b f guards → SaysAll c b f (case_formula f) → ⊥
      go true e d = g ((e p o (without_all_each (λ k. Says k p) (case_names f) [] tt)).0 ((d p o).1 t))
      go false e d = g ((e p o (without_all_each (λ k. Says k p) (case_names f) [] tt)).0 ((d p o).1 t))

-- ---- a case that is true

seen_among : (nodes : List (Shape FormulaId)) (cases : List Case) (k : Case) → Among cases k → Among (cases_seen nodes cases) (case_seen nodes k)
seen_among nodes [] k m = absurd m
seen_among nodes (j ∷ cases) k (inl e) = inl (ap (case_seen nodes) e)
seen_among nodes (j ∷ cases) k (inr m) = inr (seen_among nodes cases k m)

module _ (c : Context) (nodes : List (Shape FormulaId)) (f : Tree) (p : Point ℕ) (o : Of c p) (t : CaseTree) (h : IsCaseTreeOf c [] f nodes t) (k : Case) (among : Among t.cases.items k) (told : Tells true (tree nodes k.guard) p) where
  true_case : IsTrueCase c [] f (tree nodes t.matrix) (cases_seen nodes t.cases.items) (case_seen nodes k) p
  true_case = record { tree = h.cases; among = seen_among nodes t.cases.items k among; of_theory = o; theory_true = tt; guard_true = told c }

  pub case_points : Each IsTestPoint k.answers.items
  case_points = each_among (λ (j : Case). Each IsTestPoint j.answers.items) t.cases.items k h.points among

  -- it can be sampled
  pub case_sampled : IsSampleable c (map answer_of k.answers.items) (tree nodes t.matrix) p
  case_sampled = case_sampleable c [] f (tree nodes t.matrix) (cases_seen nodes t.cases.items) (case_seen nodes k) p true_case

  case_is : IsCaseUnder c (without_all (case_names f) []) f (tree nodes t.matrix) (case_names f) (case_seen nodes k)
  case_is = each_among (IsCaseUnder c (without_all (case_names f) []) f (tree nodes t.matrix) (case_names f)) (cases_seen nodes t.cases.items) (case_seen nodes k) h.cases.each (seen_among nodes t.cases.items k among)

  module _ (values : List Value) (a : AreTrueAnswers c (map answer_of k.answers.items) (tree nodes t.matrix) p values) where
    -- each name of the block has a value
    pub block_valued : (y : ℕ) → Among (map number_of t.block.items) y → Among (value_names values) y
    block_valued y m = subst (λ ns. Among ns y) (sym a.names) ((case_is.answered.same y).1 (subst (λ ns. Among ns y) h.block m))

    all_named : (y : ℕ) → Among (value_names values) y → Among (map number_of t.block.items) y
    all_named y m = subst (λ ns. Among ns y) (sym h.block) ((case_is.answered.same y).0 (subst (λ ns. Among ns y) a.names m))

    -- and the values in the order of the block are a sample
    pub sample_given : (ordered : List Value) → AreInOrder (map number_of t.block.items) values ordered → IsTrueSample c f p (Some ordered)
    sample_given ordered i =
        case_gives c [] f (tree nodes t.matrix) (map answer_of k.answers.items) p values ordered o tt h.cases.means a
        (reordered (map number_of t.block.items) values ordered (subst (λ ns. StandsOnce ns) (sym a.names) case_is.answered.once) all_named i) (i.named ∙ h.block)

-- ---- the formula in negation normal form

module _ (c : Context) (q : Point ℕ) (t g : Tree) (e : g ≡ normal_tree t) where
  form_is : normal_tree g ≡ normal_tree t
  form_is = ap normal_tree e ∙ normal_tree_again t

  -- a sample of the negation normal form is one of the formula
  pub true_along : (sample : Option (List Value)) → IsTrueSample c g q sample → IsTrueSample c t q sample
  true_along None h = λ k. h (subst (λ n. TrueAt c (turned (case_sign n) n) q) (sym form_is) k)
  true_along (Some values) h = record {
    asked = subst (λ n. TrueAt c (turned (case_sign n) n) q) form_is h.asked;
    names = h.names ∙ ap (λ n. block_of nat_eq (turned (case_sign n) n) Exists []) form_is;
    each = h.each;
    matrix = subst (λ n. TrueAt c (matrix_of nat_eq (turned (case_sign n) n) Exists []) (with_values q values)) form_is h.matrix;
  }

module _ (c : Context) (limit : ℕ) (q : Point ℕ) where
  -- the sample of a formula with this negation normal form, from where its nodes are counted
  abbrev from_form : Tree → Outcome (Unit {0} × ℕ) → Outcome (Option (List Value) × ℕ)
  from_form g o =
      then_of (then_of {B = Option (List Step) × ℕ} (then_of o (λ r. then_of (within (tree_put_within c q [] g) r.1) (λ s. branches c limit [] (case_sign g) (tree_put c q [] g) s.1))) (λ r. done (first_true r.0, r.1)))
      (λ r. sampled c r.1 r.0)

  pub sample_along : (t g : Tree) → g ≡ normal_tree t → reference_sample c limit q g ≡ reference_sample c limit q t
  sample_along t g e = ap (λ n. from_form n (pay limit (nodes n) 0)) (form_is c q t g e)

  -- what stops the count stops the sample
  pub paid_stops : (t : Tree) (e : Measured) → StopsWith e (pay limit (nodes (normal_tree t)) 0) → StopsWith e (reference_sample c limit q t)
  paid_stops t measured.Overflow h = ap (from_form (normal_tree t)) h
  paid_stops t measured.Nodes h = ap (from_form (normal_tree t)) h
  paid_stops t measured.Memory h = tt
