-- The cases of the reference elimination, as elimination promises them; and where it stops.
use Rattle.std.proofs.Common.{◌≡◌, ℕ, suc, ◌+◌, ◌≤◌, nat_le, Bool, true, false, List, [], ◌∷◌, Option, Some, None, refl, ap, sym, ◌∙◌, subst, arith, inl, inr, ◌↔◌, nat_eq, if◌then◌else◌}
use Rattle.std.proofs.lemmas.Bool.{leb-true, le-leb}
use Rattle.logic_meaning.specs.Context.{Context}
use Rattle.logic_meaning.specs.Formula.{Yes, No, One, Not, And, Or, Impl, Repl, Equiv, Ex, All, none, also}
use Rattle.logic_meaning.specs.Every.{Every, FreeInSome}
use Rattle.logic_meaning.specs.Atom.{Atom, Mentions}
use Rattle.logic_meaning.specs.Some.{EachOf}
use Rattle.logic_meaning.specs.Shape.{is_in, matrix_of}
use Rattle.logic_meaning.specs.Plain.{IsNegationNormal, AreNegationNormal}
use Rattle.logic_meaning.specs.declared.quantifier.Quantifier.TheVariants.{Exists}
use Rattle.logic_meaning.specs.Sizes.{nodes, all_nodes}
use Rattle.logic_meaning.specs.NegationNormal.{normal_form_of_not, normal_forms_of_not}
use Rattle.logic_meaning.specs.Tree.{Tree, Trees, TrueAt, IsFree}
use Rattle.formula_laws.specs.Equivalence.{Equivalent}
use Rattle.logic_meaning.specs.Measured.{Outcome, stopped, done, then_of, Counted, ◌>>=◌, pay, Stop, Nodes}
use Rattle.formula_laws.specs.Giving.{Gives}
use Rattle.formula_laws.proofs.Iff.{both_ways}
use Rattle.formula_laws.proofs.NormalShape.{normal_form_shape, normal_form_every}
use Rattle.logic_meaning.specs.Answers.{Step, answers_of}
use Rattle.elimination_theory.specs.AnswersTheorems.{Lead}
use Rattle.logic_meaning.specs.NormalForm.{IsNormal, negated_normal}
use Rattle.formula_laws.proofs.EachAtom.{every_map}
use Rattle.normal_atoms.proofs.NormalLaws.{negated_normal_is}
use Rattle.logic_meaning.specs.Reference.{reference, Branch, branch_trees, alone, together, normal_tree, turned, steps, closed, branches, leading_branches}
use Rattle.logic_meaning.specs.Cases.{Case, case_of, cases_of, case_sign, case_formula, case_matrix, case_names, reference_cases}
use Rattle.elimination_theory.specs.CasesOver.{AreOver}
use Rattle.elimination_theory.specs.Theorems.{IsAnswerTo, IsTidy}
use Rattle.logic_meaning.specs.AnswerParts.{guards_of, answer_names}
use Rattle.elimination_theory.proofs.Always.{gives_then, gives_both, gives_map}
use Rattle.elimination_theory.proofs.Branches.{step_names, IsBranch, AreBranches}
use Rattle.elimination_theory.proofs.Sound.{leading_are, normal_normal_tree, reference_exact}
use Rattle.elimination_theory.proofs.CasesExact.{guards_are, names_are, says, free}
use Rattle.elimination_theory.proofs.Over.{cases_over}
use Rattle.elimination_theory.proofs.Turned.{all_negated}
use Rattle.elimination_theory.proofs.PutMatrix.{normal_stays, every_matrix}
use Rattle.case_theory.specs.CaseTree.{without_all, NameBlock, IsCaseUnder, IsCaseTree}
use Rattle.case_theory.specs.Under.{Lack, LeadUnder}
use Rattle.case_theory.specs.Fallback.{MatrixIsNormal, ReferenceGivesMatrix, ReferenceIsCaseTree, stop_of, IsDone, MatrixIsDone, StopsAreOne}
use Rattle.case_theory.proofs.Without.{without_all_lack}
use Rattle.case_theory.proofs.Under.{answers_under}
use Rattle.case_theory.proofs.Fit.{answers_fit}
use Rattle.case_theory.proofs.Leading.{names_once}
use Rattle.case_theory.proofs.Ends.{lead_places, says_under}
use Rattle.case_theory.proofs.Steady.{IsNoDearer, steady_branches}

-- ---- cases

-- steps that lead from a formula lead from every one that is equivalent to it, under all assumptions without their names
pub lead_under : (c : Context) (ks : List Atom) (steps : List Step) (f m g : Tree) → Equivalent c f m → EachOf (Lack ks) (step_names steps) → Lead c steps f g → LeadUnder c ks steps m g
lead_under c ks [] f m g e n l = λ p o t. let i = e p o in both_ways (i.1, i.0) (l p o)
lead_under c ks (s ∷ rest) f m g e n l = (
  lead_under c ks rest f m s.branch e n.1 l.0,
  record { suits = l.1.suits; is_plain = l.1.is_plain; in_context = l.1.in_context; equivalent = λ p o t. l.1.equivalent p o; lack = n.0 },
)

module _ (c : Context) (theory : List Atom) (f m : Tree) (tidy : IsTidy c m) (e : Equivalent c (case_matrix f) m) where
  -- the theory without the names of the block
  abbrev ks : List Atom
  ks = without_all (case_names f) theory

  branch_case : (b : Branch) → IsBranch c (case_matrix f) (case_names f) b → AreOver (IsFree f) (answers_of b.steps) → ((y : ℕ) → IsFree b.tree y → IsFree f y) →
      IsCaseUnder c ks f m (case_names f) (case_of b)
  branch_case b i over names =
      let named : answer_names (answers_of b.steps) ≡ case_names f = names_are b.steps ∙ i.in_order in
      let lead = lead_under c ks b.steps (case_matrix f) m b.tree e (subst (EachOf (Lack ks)) (sym i.in_order) (without_all_lack (case_names f) theory)) i.lead in
      record {
        exact = λ p o t. answers_under c ks b.steps m b.tree p lead o t;
        answered = subst (NameBlock (case_names f)) (sym named) (record { once = names_once f; same = λ y. (λ u. u, λ u. u) });
        places = lead_places c ks b.steps m b.tree lead;
        over = over;
        fit = answers_fit c ks b.steps m b.tree tidy lead;
        tidy = i.tidy;
        names = names;
      }

  branch_cases : (bs : List Branch) → EachOf (IsBranch c (case_matrix f) (case_names f)) bs → EachOf (λ (k : Case). AreOver (IsFree f) k.answers) (cases_of bs) →
      ((y : ℕ) → FreeInSome Mentions (branch_trees bs) y → IsFree f y) → EachOf (IsCaseUnder c ks f m (case_names f)) (cases_of bs)
  branch_cases [] h over names = tt
  branch_cases (b ∷ bs) h over names = (branch_case b h.0 over.0 (λ y u. names y (inl u)), branch_cases bs h.1 over.1 (λ y u. names y (inr u)))

pub reference_tree : (c : Context) → ReferenceIsCaseTree c
reference_tree c limit theory f m n tidy e =
    let sign = case_sign (normal_tree f) in
    let Over : List Case × ℕ → Type 0 = λ r. EachOf (λ (k : Case). AreOver (IsFree f) k.answers) r.0 in
    gives_map (λ (r : List Case × ℕ). Over r × (Over r → IsCaseTree c theory f m r.0)) (λ (r : List Case × ℕ). IsCaseTree c theory f m r.0) (reference_cases c limit f) (λ r h. h.1 h.0)
    (gives_both Over (λ r. Over r → IsCaseTree c theory f m r.0) (reference_cases c limit f) (cases_over c limit f n)
    (gives_then (λ (r : List Branch × ℕ). AreBranches c (case_formula f) (case_matrix f) (case_names f) r.0) (λ (r : List Case × ℕ). Over r → IsCaseTree c theory f m r.0) (leading_branches c limit sign f 0) _
    (leading_are c limit sign f n 0)
    (λ r i over. record {
      means = λ p o t. e p o;
      tidy = tidy;
      each = branch_cases c theory f m tidy e r.0 i.each over (λ y u. free c f sign y (i.free y u));
      together = says_under c (without_all (case_names f) theory) sign f (case_formula f) (Or (guards_of (cases_of r.0))) (says c f sign (case_formula f) n (λ p o. (λ u. u, λ u. u)))
          (λ p o t. subst (λ (ts : Trees). TrueAt c (case_formula f) p ↔ TrueAt c (Or ts) p) (sym (guards_are r.0)) (i.equivalent p o));
    })))

turned_normal : (c : Context) (sign : Bool) (g : Tree) → Every (IsNormal c) g → Every (IsNormal c) (turned sign g)
turned_normal c true g h = h
turned_normal c false g h = (normal_form_every negated_normal (IsNormal c) g (every_map (IsNormal c) (λ a. IsNormal c a × IsNormal c (negated_normal a)) (λ a n. (n, negated_normal_is c a n)) g h)).1

pub matrix_normal : (c : Context) → MatrixIsNormal c
matrix_normal c f n =
    every_matrix (IsNormal c) (case_formula f) Exists [] (turned_normal c (case_sign (normal_tree f)) (normal_tree f)
    (normal_normal_tree c 0 f n))

pub reference_matrix : (c : Context) → ReferenceGivesMatrix c
reference_matrix c limit theory f n =
    go (reference c limit (case_matrix f)) (reference_exact c limit (case_matrix f) (matrix_normal c f n)) (reference_cases c limit f) (λ m tidy e. reference_tree c limit theory f m n tidy e)
  where
    go : (o : Outcome (Tree × ℕ)) → Gives (λ (m : Tree × ℕ). IsAnswerTo c (case_matrix f) m.0) o → (u : Outcome (List Case × ℕ)) →
        ((m : Tree) → IsTidy c m → Equivalent c (case_matrix f) m → Gives (λ (r : List Case × ℕ). IsCaseTree c theory f m r.0) u) →
        Gives (λ (r : List Case × ℕ). Gives (λ (m : Tree × ℕ). IsCaseTree c theory f m.0 r.0) o) u
    go o a (stopped s) h = tt
    go (stopped s) a (done r) h = tt
    go (done m) a (done r) h = h m.0 a.tidy a.eliminated.equivalent

-- ---- stops

stop_kept : {A B : Type 0} (o : Outcome A) (k : A → B) → stop_of (then_of o (λ r. done (k r))) ≡ stop_of o
stop_kept (stopped s) k = refl
stop_kept (done a) k = refl

stop_then : {A B D : Type 0} (o : Outcome A) (k : A → Outcome B) (l : A → Outcome D) → ((a : A) → stop_of (k a) ≡ stop_of (l a)) → stop_of (then_of o k) ≡ stop_of (then_of o l)
stop_then (stopped s) k l h = refl
stop_then (done a) k l h = h a

module _ (c : Context) (limit : ℕ) where
  -- a chain that goes on, and one that ends
  going_closed : (sign : Bool) (x : ℕ) (inner : Counted (List Branch)) (cost : ℕ) → stop_of ((inner >>= steps c limit x) cost) ≡ stop_of (closed c limit sign x inner cost)
  going_closed sign x inner cost =
      stop_then (inner cost) (λ r. steps c limit x r.0 r.1) _ (λ r. sym (stop_kept (steps c limit x r.0 r.1) (λ (s : List Branch × ℕ). (alone (turned sign (together s.0)), s.1))))

  sign_stops : (g : Tree) (cost : ℕ) → stop_of (branches c limit [] (case_sign g) g cost) ≡ stop_of (branches c limit [] true g cost)
  sign_stops Yes cost = refl
  sign_stops No cost = refl
  sign_stops (One a) cost = refl
  sign_stops (Not f) cost = refl
  sign_stops (And fs) cost = refl
  sign_stops (Or fs) cost = refl
  sign_stops (Impl f g) cost = refl
  sign_stops (Repl f g) cost = refl
  sign_stops (Equiv f g) cost = refl
  sign_stops (Ex x f) cost = refl
  sign_stops (All x f) cost = going_closed false x (branches c limit (x ∷ []) false f) cost

pub stops_one : (c : Context) → StopsAreOne c
stops_one c limit f =
    let g = normal_tree f in
    stop_kept (leading_branches c limit (case_sign g) f 0) (λ (r : List Branch × ℕ). (cases_of r.0, r.1))
    ∙ stop_then (pay limit (nodes g) 0) (λ r. branches c limit [] (case_sign g) g r.1) (λ r. branches c limit [] true g r.1) (λ r. sign_stops c limit g r.1)
    ∙ sym (stop_kept (leading_branches c limit true f 0) (λ (r : List Branch × ℕ). (together r.0, r.1)))

-- ---- the case matrix alone

done_first : {A B : Type 0} (o : Outcome A) (k : A → Outcome B) → IsDone (then_of o k) → IsDone o
done_first (stopped s) k d = d
done_first (done a) k d = tt

done_kept : {A B : Type 0} (o : Outcome A) (k : A → B) → IsDone o → IsDone (then_of o (λ r. done (k r)))
done_kept (stopped s) k d = d
done_kept (done a) k d = tt

done_less : {A : Type 0} (o u : Outcome (A × ℕ)) → IsNoDearer o u → IsDone o → IsDone u
done_less (stopped s) u h d = absurd d
done_less (done r) u h d = subst IsDone (sym h.1) tt

IsNone : Option Stop → Type 0
IsNone None = Unit {0}
IsNone (Some s) = ⊥

stop_done : {A B : Type 0} (o : Outcome A) (u : Outcome B) → stop_of o ≡ stop_of u → IsDone o → IsDone u
unfolding IsNone
stop_done (stopped s) u e d = absurd d
stop_done (done a) (done b) e d = tt
stop_done (done a) (stopped s) e d = subst IsNone e tt

module _ (c : Context) (limit : ℕ) where
  -- where a chain is done, so is what stands behind it, at the same cost
  matrix_branches : (f : Tree) (names : List ℕ) (cost : ℕ) → IsDone (branches c limit names true f cost) → IsDone (branches c limit [] true (matrix_of nat_eq f Exists names) cost)
  matrix_branches Yes names cost d = d
  matrix_branches No names cost d = d
  matrix_branches (One a) names cost d = d
  matrix_branches (Not f) names cost d = d
  matrix_branches (And fs) names cost d = d
  matrix_branches (Or fs) names cost d = d
  matrix_branches (Impl f g) names cost d = d
  matrix_branches (Repl f g) names cost d = d
  matrix_branches (Equiv f g) names cost d = d
  matrix_branches (All x f) names cost d = d
  matrix_branches (Ex x f) names cost d = go (is_in nat_eq x names) (matrix_branches f (x ∷ names) cost) d
    where
      go : (test : Bool) → (IsDone (branches c limit (x ∷ names) true f cost) → IsDone (branches c limit [] true (matrix_of nat_eq f Exists (x ∷ names)) cost)) →
          IsDone ((if test then closed c limit true x (branches c limit (x ∷ []) true f) else (branches c limit (x ∷ names) true f >>= steps c limit x)) cost) →
          IsDone (branches c limit [] true (if test then Ex x f else matrix_of nat_eq f Exists (x ∷ names)) cost)
      go true i d = stop_done (closed c limit true x (branches c limit (x ∷ []) true f) cost) ((branches c limit (x ∷ []) true f >>= steps c limit x) cost) (sym (going_closed c limit true x (branches c limit (x ∷ []) true f) cost)) d
      go false i d = i (done_first (branches c limit (x ∷ names) true f cost) (λ r. steps c limit x r.0 r.1) d)

mutual
  negated_nodes : (f : Tree) → IsNegationNormal f → nodes (normal_form_of_not negated_normal f) ≤ nodes f
  negated_nodes Yes h = omega arith
  negated_nodes No h = omega arith
  negated_nodes (One a) h = omega arith
  negated_nodes (Not f) h = absurd h
  negated_nodes (And fs) h = let i = all_negated_nodes fs h in omega arith
  negated_nodes (Or fs) h = let i = all_negated_nodes fs h in omega arith
  negated_nodes (Impl f g) h = absurd h
  negated_nodes (Repl f g) h = absurd h
  negated_nodes (Equiv f g) h = absurd h
  negated_nodes (Ex x f) h = let i = negated_nodes f h in omega arith
  negated_nodes (All x f) h = let i = negated_nodes f h in omega arith

  all_negated_nodes : (fs : Trees) → AreNegationNormal fs → all_nodes (normal_forms_of_not negated_normal fs) ≤ all_nodes fs
  all_negated_nodes none h = omega arith
  all_negated_nodes (also f fs) h = let i = negated_nodes f h.0 in let j = all_negated_nodes fs h.1 in omega arith

-- the matrix is in negation normal form, and no larger
matrix_small : (f : Tree) (chain : List ℕ) → IsNegationNormal f → IsNegationNormal (matrix_of nat_eq f Exists chain) × nodes (matrix_of nat_eq f Exists chain) ≤ nodes f
matrix_small Yes chain h = (h, omega arith)
matrix_small No chain h = (h, omega arith)
matrix_small (One a) chain h = (h, omega arith)
matrix_small (Not f) chain h = absurd h
matrix_small (And fs) chain h = (h, omega arith)
matrix_small (Or fs) chain h = (h, omega arith)
matrix_small (Impl f g) chain h = absurd h
matrix_small (Repl f g) chain h = absurd h
matrix_small (Equiv f g) chain h = absurd h
matrix_small (All x f) chain h = (h, omega arith)
matrix_small (Ex x f) chain h = go (is_in nat_eq x chain) (matrix_small f (x ∷ chain) h)
  where
    go : (b : Bool) → IsNegationNormal (matrix_of nat_eq f Exists (x ∷ chain)) × nodes (matrix_of nat_eq f Exists (x ∷ chain)) ≤ nodes f →
        IsNegationNormal (if b then Ex x f else matrix_of nat_eq f Exists (x ∷ chain)) × nodes (if b then Ex x f else matrix_of nat_eq f Exists (x ∷ chain)) ≤ suc (nodes f)
    go true i = (h, omega arith)
    go false i = (i.0, let n = i.1 in omega arith)

turned_small : (sign : Bool) (g : Tree) → IsNegationNormal g → IsNegationNormal (turned sign g) × nodes (turned sign g) ≤ nodes g
turned_small true g h = (h, omega arith)
turned_small false g h = ((normal_form_shape negated_normal g).1, negated_nodes g h)

module _ (c : Context) (limit : ℕ) where
  -- working on the formula with a sign is working on the formula turned
  turned_done : (sign : Bool) (g : Tree) (cost : ℕ) → IsNegationNormal g → Every (IsNormal c) g → IsDone (branches c limit [] sign g cost) → IsDone (branches c limit [] true (turned sign g) cost)
  turned_done true g cost h n d = d
  turned_done false g cost h n d = subst (λ (m : Counted (List Branch)). IsDone (m cost)) ((all_negated c limit g h n).turned_round [] true) d

  pay_done : (n cost : ℕ) → IsDone (pay limit n cost) → (pay limit n cost ≡ done (tt, cost + n)) × cost + n ≤ limit
  pay_done n cost d = go (nat_le (cost + n) limit) refl d
    where
      go : (b : Bool) → nat_le (cost + n) limit ≡ b → IsDone {A = Unit {0} × ℕ} (if b then done (tt, cost + n) else stopped Nodes) →
          (Path (Outcome (Unit {0} × ℕ)) (if b then done (tt, cost + n) else stopped Nodes) (done (tt, cost + n))) × cost + n ≤ limit
      go true e d = (refl, leb-true (cost + n) limit e)
      go false e d = absurd d

  pay_enough : (n cost : ℕ) → cost + n ≤ limit → pay limit n cost ≡ done (tt, cost + n)
  pay_enough n cost l = ap (λ (b : Bool). let o : Outcome (Unit {0} × ℕ) = if b then done (tt, cost + n) else stopped Nodes in o) (le-leb (cost + n) limit l)

pub matrix_done : (c : Context) → MatrixIsDone c
matrix_done c limit f n d =
    let g = normal_tree f in
    let sign = case_sign g in
    let m = case_matrix f in
    let shape = turned_small sign g (normal_form_shape negated_normal f).0 in
    let small = matrix_small (turned sign g) [] shape.0 in
    let first = done_first (leading_branches c limit sign f 0) (λ r. done (cases_of r.0, r.1)) d in
    let paid = pay_done c limit (nodes g) 0 (done_first (pay limit (nodes g) 0) (λ r. branches c limit [] sign g r.1) first) in
    let here = subst (λ (o : Outcome (Unit {0} × ℕ)). IsDone {A = List Branch × ℕ} (then_of o (λ r. branches c limit [] sign g r.1))) paid.0 first in
    let behind = matrix_branches c limit (turned sign g) [] (0 + nodes g) (turned_done c limit sign g (0 + nodes g) (normal_form_shape negated_normal f).0 (normal_normal_tree c limit f n) here) in
    let fewer : 0 + nodes m ≤ 0 + nodes g = let a = small.1 in let b = shape.1 in omega arith in
    let lesser = done_less (branches c limit [] true m (0 + nodes g)) (branches c limit [] true m (0 + nodes m)) (steady_branches c limit [] true m (0 + nodes g) (0 + nodes m) fewer) behind in
    subst (λ (h : Tree). IsDone {A = Tree × ℕ} (then_of (then_of (pay limit (nodes h) 0) (λ r. branches c limit [] true h r.1)) (λ (r : List Branch × ℕ). done (together r.0, r.1)))) (sym (normal_stays m small.0))
    (done_kept (then_of (pay limit (nodes m) 0) (λ r. branches c limit [] true m r.1)) (λ (r : List Branch × ℕ). (together r.0, r.1))
    (subst (λ (o : Outcome (Unit {0} × ℕ)). IsDone {A = List Branch × ℕ} (then_of o (λ r. branches c limit [] true m r.1))) (sym (pay_enough c limit (nodes m) 0 (let l = paid.1 in omega arith))) lesser))
