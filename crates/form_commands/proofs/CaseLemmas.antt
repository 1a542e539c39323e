-- What is left of the cases of the reference elimination is a case list of the formula.
use Rattle.std.proofs.Common.{◌≡◌, ◌↔◌, ◌⊎◌, inl, inr, ⊎_elim, ℕ, ◌+◌, ◌<◌, ◌≤◌, List, [], ◌∷◌, ◌++◌, map, length, append_assoc, codes, ℤ, Bool, true, false, Option, Some, None, sym, ap, ◌∙◌, subst, refl, nat_eq, arith, if◌then◌else◌}
use Rattle.std.proofs.lemmas.List.{append-nil, length-append}
use Rattle.std.proofs.lemmas.List.Elements.{recursion_from_All}
use Rattle.std.specs.Prelude.{Result, Ok, Err, IfErr}
use Rattle.std.specs.List.{AllByRecursion}
use Rattle.logic_meaning.specs.Context.{Context}
use Rattle.logic_meaning.specs.Atom.{Atom, Says, Mentions}
use Rattle.logic_meaning.specs.Answer.{PlaceMentions}
use Rattle.logic_meaning.specs.Every.{Every, EveryBound, FreeInSome}
use Rattle.logic_meaning.specs.Form.{Form, coefficient}
use Rattle.logic_meaning.specs.Formula.{Or, Ex}
use Rattle.logic_meaning.specs.Point.{Point, Of}
use Rattle.logic_meaning.specs.Shape.{block_of, is_in}
use Rattle.logic_meaning.specs.declared.quantifier.Quantifier.TheVariants.{Exists}
use Rattle.logic_meaning.specs.Sizes.{nodes}
use Rattle.logic_meaning.specs.Some.{EachOf}
use Rattle.logic_meaning.specs.Tree.{Tree, IsFree, TrueAt}
use Rattle.logic_meaning.specs.NormalForm.{IsNormal, negated_normal}
use Rattle.linear_forms.specs.Combinations.{IsLinear}
use Rattle.elimination_theory.proofs.Becoming.{becomes_itself}
use Rattle.logic_meaning.specs.Cases.{Case, case_sign, case_formula, case_names, cases_of, reference_cases}
use Rattle.logic_meaning.specs.Measured.{Outcome, done, then_of, pay}
use Rattle.formula_laws.specs.Giving.{Gives}
use Rattle.logic_meaning.specs.Reference.{normal_tree, turned, branches}
use Rattle.elimination_theory.specs.Theorems.{IsTidy, IsExactCase, AreExactCases, Says as SaysOf}
use Rattle.logic_meaning.specs.AnswerParts.{guards_of, answer_names}
use Rattle.elimination_theory.proofs.CasesExact.{cases_exact}
use Rattle.elimination_theory.proofs.Tidy.{tidy_in}
use Rattle.logic_meaning.specs.Over.{AreAnswersOver}
use Rattle.elimination_theory.proofs.Over.{cases_have_answers}
use Rattle.test_points.specs.declared.points.Place.{Place}
use Rattle.test_points.specs.declared.points.Place.TheVariants as place
use Rattle.test_points.specs.declared.points.TestPoint.{TestPoint}
use Rattle.test_points.specs.Points.{place_at, answer_of, IsTestPoint}
use Rattle.reference_engine.specs.declared.measured.Measured.{Measured}
use Rattle.reference_engine.specs.Told.{StopsWith}
use Rattle.reference_engine.specs.declared.measured.Measured.TheVariants as measured
use Rattle.reference_engine.specs.declared.cases.PrintedCase.{PrintedCase}
use Rattle.reference_engine.specs.Case.{case_seen, HavePoints}
use Rattle.reference_engine.proofs.FormAgain.{normal_tree_again}
use Rattle.shape_theory.specs.Orderly.{IsOrderly}
use Rattle.logic_meaning.specs.Text.{tree_text}
use Rattle.formula_laws.specs.Within.{IsAtomWithin}
use Rattle.session_state.specs.FromRedlogPrinter.{IsPlaceWithin, AreAnswersWithin, AreCasesWithin}
use Rattle.logic_meaning.specs.AnswerTexts.{separated, answer_texts, case_text, cases_text}
use Rattle.case_theory.specs.CaseTree.{SaysUnder}
use Rattle.case_theory.specs.PutThrough.{AreTrue}
use Rattle.form_commands.specs.declared.error.FormsError.{FormsError}
use Rattle.form_commands.specs.declared.error.FormsError.TheVariants as error
use Rattle.program_meaning.specs.Cases.{Turned}
use Rattle.form_commands.specs.Faults.{measured_error, CasesFault}
use Rattle.form_commands.specs.Cases.{IsCaseLeft, IsLeftOf, put_before, AreLeftOf}
use Rattle.session_state.specs.Keeping.{IsSessionFormula}
use Rattle.session_state.proofs.FromPrenexForms.{bound_normal_form}
use Rattle.session_state.proofs.SoundLemmas.{terms_within}
use Rattle.form_commands.proofs.EliminatedLemmas.{plain_free, free_below, answer_orderly, orderly_members, within_of_names, unquantified_bound, simplified_formula}

-- ---- results

pub err_map : {T E : Type 0} {P Q : E → Type 0} (r : Result T E) → ((e : E) → P e → Q e) → IfErr r P → IfErr r Q
err_map (Ok x) f h = tt
err_map (Err e) f h = f e h

-- ---- the names of the leading block

block_names : (K : ℕ → Type 0) (f : Tree) (chain : List ℕ) → EveryBound K f → EachOf K (block_of nat_eq f Exists chain)
block_names K (Ex x f) chain h = go (block_names K f (x ∷ chain) h.1) (is_in nat_eq x chain)
  where
    go : EachOf K (block_of nat_eq f Exists (x ∷ chain)) → (b : Bool) → EachOf K (if b then [] else x ∷ block_of nat_eq f Exists (x ∷ chain))
    go inner true = tt
    go inner false = (h.0, inner)
block_names K _ chain h = tt

turned_bound : (K : ℕ → Type 0) (sign : Bool) (f : Tree) → EveryBound K f → EveryBound K (turned sign f)
turned_bound K true f h = h
turned_bound K false f h = (bound_normal_form K negated_normal f h).1

pub names_below : (n : ℕ) (f : Tree) → EveryBound (λ x. x < n) f → EachOf (λ x. x < n) (case_names f)
names_below n f h = block_names (λ x. x < n) (case_formula f) [] (turned_bound (λ x. x < n) (case_sign (normal_tree f)) (normal_tree f) (bound_normal_form (λ x. x < n) negated_normal f h).0)

pub block_below : (c : Context) (n : ℕ) (f : Tree) → IsSessionFormula c n f → EachOf (λ x. x < n) (case_names f)
block_below c n f own = names_below n f own.within.quantified

-- ---- the cases of the reference elimination

-- a guard can be simplified
pub guard_orderly : (c : Context) (t : Tree) → IsTidy c t → IsOrderly (IsNormal c) t
guard_orderly c t tidy = answer_orderly c t t (record { eliminated = becomes_itself c t tidy.is_plain (tidy_in c t tidy); tidy = tidy })

-- a guard is a formula of the session
guard_formula : (c : Context) (n : ℕ) (t : Tree) → IsTidy c t → ((y : ℕ) → IsFree t y → y < n) → IsSessionFormula c n t
guard_formula c n t tidy below =
    let bound = unquantified_bound (λ x. x < n) t (plain_free t tidy.is_plain) in
    record {
      normal = tidy.normal;
      within = record { atoms = within_of_names c n t tidy.normal bound below; quantified = bound };
      members = orderly_members (IsNormal c) t (guard_orderly c t tidy);
    }

pub record IsReferenceCase (c : Context) (n : ℕ) (f : Tree) (k : Case) : Type 0 where
  pub exact : IsExactCase c f k
  pub names : (y : ℕ) → IsFree k.guard y → IsFree f y
  pub answers : AreAnswersOver c (IsFree f) k.answers
  pub formula : IsSessionFormula c n k.guard

module _ (c : Context) (n : ℕ) (f : Tree) (own : IsSessionFormula c n f) where
  below : (y : ℕ) → IsFree f y → y < n
  below y t = free_below n y f own.within.atoms t

  each_known : (ks : List Case) → EachOf (IsExactCase c f) ks → ((y : ℕ) → FreeInSome Mentions (guards_of ks) y → IsFree f y) → EachOf (λ (k : Case). AreAnswersOver c (IsFree f) k.answers) ks → EachOf (IsReferenceCase c n f) ks
  each_known [] exact names over = tt
  each_known (k ∷ ks) exact names over = (
    record {
      exact = exact.0;
      names = λ y t. names y (inl t);
      answers = over.0;
      formula = guard_formula c n k.guard exact.0.tidy (λ y t. below y (names y (inl t)));
    },
    each_known ks exact.1 (λ y t. names y (inr t)) over.1,
  )

  module _ (limit : ℕ) (ks : List Case) (cost : ℕ) (same : reference_cases c limit f ≡ done (ks, cost)) where
    pub exact_here : AreExactCases c f ks
    exact_here = subst (Gives (λ (r : List Case × ℕ). AreExactCases c f r.0)) same (cases_exact c limit f own.normal)

    pub reference_known : EachOf (IsReferenceCase c n f) ks
    reference_known =
        each_known ks exact_here.each exact_here.names
        (subst (Gives (λ (r : List Case × ℕ). EachOf (λ (k : Case). AreAnswersOver c (IsFree f) k.answers) r.0)) same (cases_have_answers c limit f own.normal))

-- each guard can be simplified
guards_orderly : (c : Context) (f : Tree) (ks : List Case) → EachOf (IsExactCase c f) ks → EachOf (λ (k : Case). IsOrderly (IsNormal c) k.guard) ks
guards_orderly c f [] h = tt
guards_orderly c f (k ∷ ks) h = (guard_orderly c k.guard h.0.tidy, guards_orderly c f ks h.1)

module _ (c : Context) (limit : ℕ) where
  pub cases_orderly : (f : Tree) → Every (IsNormal c) f → (ks : List Case) (cost : ℕ) → reference_cases c limit f ≡ done (ks, cost) → EachOf (λ (k : Case). IsOrderly (IsNormal c) k.guard) ks
  cases_orderly f normal ks cost same =
      let exact : AreExactCases c f ks = subst (Gives (λ (r : List Case × ℕ). AreExactCases c f r.0)) same (cases_exact c limit f normal) in
      guards_orderly c f ks exact.each

  -- the cases of a formula with this negation normal form, from where its nodes are counted
  abbrev from_form : Tree → Outcome (Unit {0} × ℕ) → Outcome (List Case × ℕ)
  from_form g o = then_of (then_of o (λ r. branches c limit [] (case_sign g) g r.1)) (λ r. done (cases_of r.0, r.1))

  pub cases_along : (f g : Tree) → g ≡ normal_tree f → reference_cases c limit g ≡ reference_cases c limit f
  cases_along f g e = ap (λ h. from_form h (pay limit (nodes h) 0)) (ap normal_tree e ∙ normal_tree_again f)

  -- what stops the count stops the cases
  pub paid_stops : (f : Tree) (e : Measured) → StopsWith e (pay limit (nodes (normal_tree f)) 0) → StopsWith e (reference_cases c limit f)
  paid_stops f measured.Overflow h = ap (from_form (normal_tree f)) h
  paid_stops f measured.Nodes h = ap (from_form (normal_tree f)) h
  paid_stops f measured.Memory h = tt

  pub cases_fault : (f : Tree) (e : Measured) → StopsWith e (reference_cases c limit f) → CasesFault c limit f (measured_error e)
  cases_fault f measured.Overflow h = h
  cases_fault f measured.Nodes h = h
  cases_fault f measured.Memory h = tt

  pub fault_along : (f g : Tree) → reference_cases c limit g ≡ reference_cases c limit f → (e : FormsError) → CasesFault c limit g e → CasesFault c limit f e
  fault_along f g same error.Nodes h = sym same ∙ h
  fault_along f g same error.Overflow h = sym same ∙ h
  fault_along f g same error.Memory h = tt

-- ---- lengths

pub length_3 : (x y z : List ℕ) → length (x ++ y ++ z) ≡ length x + length y + length z
length_3 x y z = length-append (x ++ y) z ∙ ap (λ n. n + length z) (length-append x y)

length_5 : (v w x y z : List ℕ) → length (v ++ w ++ x ++ y ++ z) ≡ length v + length w + length x + length y + length z
length_5 v w x y z = length-append (v ++ w ++ x ++ y) z ∙ ap (λ n. n + length z) (length-append (v ++ w ++ x) y ∙ ap (λ n. n + length y) (length_3 v w x))

-- ---- what is left of cases

module _ (c : Context) (ks : List Atom) where
  pub left_each : (P Q : Case → Type 0) → ((k m : Case) → P k → IsCaseLeft c ks k m → Q m) → (cases left : List Case) → EachOf P cases → AreLeftOf c ks cases left → EachOf Q left
  left_each P Q g [] left e h = subst (EachOf Q) (sym h) tt
  left_each P Q g (k ∷ cases) left e h = subst (EachOf Q) (sym h.4) (go (left_each P Q g cases h.1 e.1 h.3) h.0 h.2)
    where
      go : EachOf Q h.1 → (o : Option Case) → IsLeftOf c ks k o → EachOf Q (put_before o h.1)
      go rest None t = rest
      go rest (Some m) t = (g k m e.0 t, rest)

  -- some guard is true where one was
  module _ (p : Point ℕ) (of : Of c p) (says : EachOf (λ k. Says k p) ks) where
    pub left_true : (cases left : List Case) → AreLeftOf c ks cases left → TrueAt c (Or (guards_of left)) p ↔ TrueAt c (Or (guards_of cases)) p
    left_true [] left h = subst (λ xs. TrueAt c (Or (guards_of xs)) p ↔ TrueAt c (Or (guards_of [])) p) (sym h) (λ t. t, λ t. t)
    left_true (k ∷ cases) left h = subst (λ xs. TrueAt c (Or (guards_of xs)) p ↔ TrueAt c (Or (guards_of (k ∷ cases))) p) (sym h.4) (go (left_true cases h.1 h.3) h.0 h.2)
      where
        go : TrueAt c (Or (guards_of h.1)) p ↔ TrueAt c (Or (guards_of cases)) p → (o : Option Case) → IsLeftOf c ks k o → TrueAt c (Or (guards_of (put_before o h.1))) p ↔ TrueAt c (Or (guards_of (k ∷ cases))) p
        go rest None t = let e = t.truth p of says in (λ u. inr (rest.0 u), ⊎_elim (λ u. absurd (e.1 u)) (λ u. rest.1 u))
        go rest (Some m) t = let e = t.simplified.truth p of says in (⊎_elim (λ u. inl (e.0 u)) (λ u. inr (rest.0 u)), ⊎_elim (λ u. inl (e.1 u)) (λ u. inr (rest.1 u)))

  -- ---- texts

  -- with a comma before it, a list is longer by less than what stands before it
  before_comma : (before : List ℕ) (ts : List (List ℕ)) → length (separated before ts) ≤ length before + length (separated (codes ",") ts)
  before_comma before [] = omega arith
  before_comma before (t ∷ ts) =
      let i : length (separated before (t ∷ ts)) ≡ length before + length t + length (separated (codes ",") ts) = length_3 before t (separated (codes ",") ts) in
      let j : length (separated (codes ",") (t ∷ ts)) ≡ 1 + length t + length (separated (codes ",") ts) = length_3 (codes ",") t (separated (codes ",") ts) in
      omega (arith, i, j)

  module _ (names : List (List ℕ)) (some : EachOf (λ name. 0 < length name) names) where
    case_shorter : (k m : Case) → Every (IsAtomWithin (length names)) k.guard → IsCaseLeft c ks k m → length (case_text names m) ≤ length (case_text names k)
    case_shorter k m within l =
        let shorter = l.simplified.text names some within in
        let old = length_5 (codes "{") (tree_text names k.guard) (codes ",{") (separated [] (answer_texts names 1 1 k.answers)) (codes "}}") in
        let new = length_5 (codes "{") (tree_text names m.guard) (codes ",{") (separated [] (answer_texts names 1 1 m.answers)) (codes "}}") in
        let same : length (separated [] (answer_texts names 1 1 m.answers)) ≡ length (separated [] (answer_texts names 1 1 k.answers)) = ap (λ answers. length (separated [] (answer_texts names 1 1 answers))) l.answers in
        no_longer _ _ _ _ _ _ _ _ _ new old shorter same
      where
        no_longer : (m k a g h b s t z : ℕ) → m ≡ a + g + b + s + z → k ≡ a + h + b + t + z → g ≤ h → s ≡ t → m ≤ k
        no_longer m k a g h b s t z e f l same = omega arith

    left_shorter : (before : List ℕ) (cases left : List Case) → EachOf (λ (k : Case). Every (IsAtomWithin (length names)) k.guard) cases → AreLeftOf c ks cases left
        → length (separated before (map (case_text names) left)) ≤ length (separated before (map (case_text names) cases))
    left_shorter before [] left e h = subst (λ xs. length (separated before (map (case_text names) xs)) ≤ length (separated before [])) (sym h) (omega arith)
    left_shorter before (k ∷ cases) left e h =
        subst (λ xs. length (separated before (map (case_text names) xs)) ≤ length (separated before (map (case_text names) (k ∷ cases)))) (sym h.4) (go (left_shorter (codes ",") cases h.1 e.1 h.3) h.0 h.2)
      where
        go : length (separated (codes ",") (map (case_text names) h.1)) ≤ length (separated (codes ",") (map (case_text names) cases)) → (o : Option Case) → IsLeftOf c ks k o
            → length (separated before (map (case_text names) (put_before o h.1))) ≤ length (separated before (map (case_text names) (k ∷ cases)))
        go rest None t = dropped _ _ _ _ _ _ (before_comma before (map (case_text names) h.1)) rest (length_3 before (case_text names k) (separated (codes ",") (map (case_text names) cases)))
          where
            dropped : (new b c old k all : ℕ) → new ≤ b + c → c ≤ old → all ≡ b + k + old → new ≤ all
            dropped new b c old k all l r w = omega arith
        go rest (Some m) t =
            kept _ _ _ _ _ _ _ (length_3 before (case_text names m) (separated (codes ",") (map (case_text names) h.1))) (length_3 before (case_text names k) (separated (codes ",") (map (case_text names) cases))) (case_shorter k m e.0 t) rest
          where
            kept : (new all b m k c old : ℕ) → new ≡ b + m + c → all ≡ b + k + old → m ≤ k → c ≤ old → new ≤ all
            kept new all b m k c old v w l r = omega arith

    pub left_no_longer : (cases left : List Case) → EachOf (λ (k : Case). Every (IsAtomWithin (length names)) k.guard) cases → AreLeftOf c ks cases left → length (cases_text names left) ≤ length (cases_text names cases)
    left_no_longer cases left e h = framed _ _ _ _ _ _ (length_3 (codes "{") (separated [] (map (case_text names) left)) (codes "}")) (length_3 (codes "{") (separated [] (map (case_text names) cases)) (codes "}")) (left_shorter [] cases left e h)
      where
        framed : (new old a s t z : ℕ) → new ≡ a + s + z → old ≡ a + t + z → s ≤ t → new ≤ old
        framed new old a s t z e f l = omega arith

-- ---- what is left, case after case

module _ (c : Context) (ks : List Atom) where
  -- what is left of all cases, from what is left of those to come
  abbrev pub LeavesAll : List Case → List Case → List Case → Type 0
  LeavesAll made rest all = (tail : List Case) → AreLeftOf c ks rest tail → AreLeftOf c ks all (made ++ tail)

  pub leaves_more : (made made2 : List Case) (k : Case) (rest all : List Case) (o : Option Case) → LeavesAll made (k ∷ rest) all → IsLeftOf c ks k o → made2 ≡ made ++ put_before o [] → LeavesAll made2 rest all
  leaves_more made made2 k rest all o h is e tail t =
      subst (AreLeftOf c ks all) (sym (ap (λ ms. ms ++ tail) e ∙ append_assoc made (put_before o []) tail ∙ ap (λ ms. made ++ ms) (one o))) (h (put_before o tail) (o, tail, is, t, refl))
    where
      one : (p : Option Case) → put_before p [] ++ tail ≡ put_before p tail
      one None = refl
      one (Some m) = refl

  pub leaves_end : (made all : List Case) → LeavesAll made [] all → AreLeftOf c ks all made
  leaves_end made all h = subst (AreLeftOf c ks all) (append-nil made) (h [] refl)

-- ---- numbers of names

place_within : (n : ℕ) (s : Place) (e : Form) (d : ℕ) (q : ℤ) → IsLinear e → ((y : ℕ) → PlaceMentions (place_at s e d q) y → y < n) → IsPlaceWithin n (place_at s e d q)
unfolding coefficient
place_within n place.Exact e d q l h = terms_within n e.terms l.sorted.rising l.sorted.nonzero h
place_within n place.AboveBy e d q l h = terms_within n e.terms l.sorted.rising l.sorted.nonzero h
place_within n place.BelowBy e d q l h = terms_within n e.terms l.sorted.rising l.sorted.nonzero h
place_within n place.MinusInfinity e d q l h = tt
place_within n place.PlusInfinity e d q l h = tt
place_within n place.Periodic e d q l h = tt

answers_within : (c : Context) (n : ℕ) (ts : List TestPoint) (P : ℕ → Type 0) → ((y : ℕ) → P y → y < n) → AllByRecursion IsTestPoint ts → EachOf (λ x. x < n) (answer_names (map answer_of ts)) → AreAnswersOver c P (map answer_of ts)
    → AreAnswersWithin n (map answer_of ts)
answers_within c n [] P below points names over = tt
answers_within c n (t ∷ ts) P below points names over = (
  record { name = names.0; place = place_within n t.place t.form _ t.period points.0.linear (λ y m. below y (over.0.names y m)) },
  answers_within c n ts (λ y. P y ⊎ (t.name.number ≡ y)) (λ y. ⊎_elim (λ u. below y u) (λ e. subst (λ x. x < n) e names.0)) points.1 names.1 over.1,
)

-- what is needed of a case to write it
pub record IsWritable (c : Context) (n : ℕ) (f : Tree) (k : Case) : Type 0 where
  pub formula : IsSessionFormula c n k.guard
  pub names : EachOf (λ x. x < n) (answer_names k.answers)
  pub answers : AreAnswersOver c (IsFree f) k.answers

module _ (c : Context) (n : ℕ) (f : Tree) (own : IsSessionFormula c n f) where
  writable : (ks : List Atom) (k m : Case) → IsReferenceCase c n f k → IsCaseLeft c ks k m → IsWritable c n f m
  writable ks k m r l = record {
    formula = simplified_formula c ks n k.guard m.guard r.formula l.simplified;
    names = subst (EachOf (λ x. x < n)) (sym (ap answer_names l.answers ∙ r.exact.in_order)) (block_below c n f own);
    answers = subst (AreAnswersOver c (IsFree f)) (sym l.answers) r.answers;
  }

  pub left_writable : (ks : List Atom) (cases left : List Case) → EachOf (IsReferenceCase c n f) cases → AreLeftOf c ks cases left → EachOf (IsWritable c n f) left
  left_writable ks cases left e h = left_each c ks (IsReferenceCase c n f) (IsWritable c n f) (writable ks) cases left e h

  pub items_within : (items : List PrintedCase) → EachOf (IsWritable c n f) (map case_seen items) → HavePoints items → AreCasesWithin n (map case_seen items)
  items_within [] e h = tt
  items_within (k ∷ items) e h = (
    record {
      guard = e.0.formula.within;
      answers = answers_within c n k.answers.items (IsFree f) (λ y t. free_below n y f own.within.atoms t) (recursion_from_All IsTestPoint k.answers.items h.0) e.0.names e.0.answers;
    },
    items_within items e.1 h.1,
  )

-- ---- the formula, or its negation

pub turned_says : (c : Context) (sign : Bool) (f g : Tree) (p : Point ℕ) → Of c p → SaysOf c sign f g → Turned sign (TrueAt c f p) ↔ TrueAt c g p
turned_says c true f g p of h = h p of
turned_says c false f g p of h = h p of

-- under atoms
pub turned_under : (c : Context) (ks : List Atom) (sign : Bool) (f g : Tree) (p : Point ℕ) → Of c p → AreTrue ks p → SaysUnder c ks sign f g → Turned sign (TrueAt c f p) ↔ TrueAt c g p
turned_under c ks true f g p of t h = h p of t
turned_under c ks false f g p of t h = h p of t

pub turned_along : (sign : Bool) (A B : Type 0) → A ↔ B → Turned sign A ↔ Turned sign B
turned_along true A B e = e
turned_along false A B e = (λ n b. n (e.1 b), λ n a. n (e.0 a))
