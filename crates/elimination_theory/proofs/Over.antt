-- What is known of the answers of branches, by the recursion that forms the branches.
use Rattle.std.proofs.Common.{◌≡◌, ℕ, ◌+◌, ◌*◌, Bool, true, false, List, [], ◌∷◌, ◌++◌, map, refl, inl, inr, ⊎_elim, ◌⊎◌, nat_eq, if◌then◌else◌, arith, lit<}
use Rattle.std.proofs.lemmas.Bool.{cases_eq}
use Rattle.logic_meaning.specs.Context.{Context, Fields, Integers}
use Rattle.logic_meaning.specs.Formula.{Yes, No, One, Not, And, Or, Impl, Repl, Equiv, Ex, All}
use Rattle.logic_meaning.specs.Every.{Every, FreeInSome}
use Rattle.logic_meaning.specs.Form.{coefficient}
use Rattle.logic_meaning.specs.Atom.{Atom, Mentions, form_of}
use Rattle.logic_meaning.specs.Sorted.{IsSorted}
use Rattle.formula_laws.proofs.EachAtom.{every_map}
use Rattle.logic_meaning.specs.Some.{Among, EachOf}
use Rattle.logic_meaning.specs.Shape.{is_in}
use Rattle.logic_meaning.specs.Plain.{IsPlain, IsNegationNormal}
use Rattle.logic_meaning.specs.Sizes.{nodes}
use Rattle.logic_meaning.specs.NegationNormal.{normal_form_of_not}
use Rattle.logic_meaning.specs.Answer.{Answer, Place, PlaceMentions}
use Rattle.logic_meaning.specs.Tree.{Tree, IsFree}
use Rattle.formula_laws.proofs.NormalShape.{normal_form_shape}
use Rattle.logic_meaning.specs.declared.side.Side.TheVariants.{Lower}
use Rattle.logic_meaning.specs.Atoms.{atoms_in, atoms_of}
use Rattle.logic_meaning.specs.BothTheories.{IsPlaceIn, test_points}
use Rattle.logic_meaning.specs.Steps.{Result, result_at, kept, results, step}
use Rattle.logic_meaning.specs.Answers.{answers_of, zero_place}
use Rattle.elimination_theory.proofs.FieldsNames.{field_point_names}
use Rattle.elimination_theory.proofs.IntegersNames.{integer_point_names}
use Rattle.elimination_theory.proofs.SomeListed.{each_append, each_map, each_among, atoms_of_every}
use Rattle.elimination_theory.proofs.PointsSorted.{points_sorted}
use Rattle.elimination_theory.proofs.BothSubstitutions.{place_in, point_suits}
use Rattle.logic_meaning.specs.NormalForm.{IsNormal, normal_atom, negated_normal}
use Rattle.normal_atoms.proofs.NormalLaws.{normal_sorted}
use Rattle.logic_meaning.specs.Measured.{Outcome, stopped, done, Counted, ◌>>=◌, give, pay, within}
use Rattle.formula_laws.specs.Giving.{Gives}
use Rattle.logic_meaning.specs.StopLimits.{span_within, step_within}
use Rattle.logic_meaning.specs.Reference.{Branch, stands_among, point_count, kept_at_zero, next_branch, alone, branch_trees, together, normal_tree, turned, full_step, one_step, steps, closed, branches, members, leading_branches}
use Rattle.logic_meaning.specs.Cases.{Case, cases_of, case_sign, reference_cases}
use Rattle.elimination_theory.proofs.Always.{Always, always_then, always_give, always_pay, always_within, always_passed, gives_then, gives_both, gives_map}
use Rattle.elimination_theory.proofs.Tidy.{tidy_in}
use Rattle.elimination_theory.proofs.Limits.{limits_tested}
use Rattle.elimination_theory.proofs.Branches.{IsBranch, AreBranches}
use Rattle.elimination_theory.proofs.Sound.{branches_are, normal_normal_tree}
use Rattle.elimination_theory.proofs.CasesExact.{free}
use Rattle.elimination_theory.specs.Theorems.{IsTidy}
use Rattle.logic_meaning.specs.Over.{IsAnswerOver, AreAnswersOver}
use Rattle.elimination_theory.specs.CasesOver.{CasesHaveAnswers, AreOver, CasesAreOver}

-- ---- answers

names_more : (c : Context) (P Q : ℕ → Type 0) (a : Answer) → ((y : ℕ) → P y → Q y) → IsAnswerOver c P a → IsAnswerOver c Q a
names_more c P Q a h t = record { place = t.place; sorted = t.sorted; within = t.within; names = λ y m. h y (t.names y m) }

-- answers over some names are over more
answers_more : (c : Context) (P Q : ℕ → Type 0) → ((y : ℕ) → P y → Q y) → (answers : List Answer) → AreAnswersOver c P answers → AreAnswersOver c Q answers
answers_more c P Q h [] t = tt
answers_more c P Q h (a ∷ rest) t = (names_more c P Q a h t.0, answers_more c (λ y. P y ⊎ (a.name ≡ y)) (λ y. Q y ⊎ (a.name ≡ y)) (λ y. ⊎_elim (λ p. inl (h y p)) (λ e. inr e)) rest t.1)

over_of : (c : Context) (P : ℕ → Type 0) (answers : List Answer) → AreAnswersOver c P answers → AreOver P answers
over_of c P [] t = tt
over_of c P (a ∷ rest) t = (t.0.names, over_of c (λ y. P y ⊎ (a.name ≡ y)) rest t.1)

-- ---- places

-- a test point of x has names of the formula other than x alone
point_names : (c : Context) (x : ℕ) (f : Tree) (s : Place) (y : ℕ) → IsPlain f → PlaceMentions s y → Among (test_points c Lower x (atoms_of f)) s → IsFree (Ex x f) y
point_names Fields x f s y plain m h = field_point_names Lower x f s y plain m h
point_names Integers x f s y plain m h = integer_point_names Lower x f s y plain m h

-- a test point of x is an answer over the names of the formula other than x, where the numbers of the step are within the limit
point_answer : (c : Context) (x : ℕ) (f : Tree) → IsTidy c f → step_within c x f ≡ true → (s : Place) → Among (test_points c Lower x (atoms_of f)) s → IsAnswerOver c (IsFree (Ex x f)) (record { name = x; place = s })
point_answer c x f tidy passed s m = record {
  place = place_in c x s f (point_suits c Lower x f s (tidy_in c f tidy) m);
  sorted = points_sorted c Lower x (atoms_of f) s (atoms_of_every (λ (a : Atom). IsSorted (form_of a)) f (every_map (IsNormal c) (λ (a : Atom). IsSorted (form_of a)) (normal_sorted c) f tidy.normal)) m;
  within = (each_among _ (test_points c Lower x (atoms_of f)) s ((limits_tested c x f).step.0 passed) m).0;
  names = λ y t. point_names c x f s y tidy.is_plain t m;
}

zero_in : (c : Context) → IsPlaceIn c zero_place
zero_in Fields = omega arith
zero_in Integers = omega arith

zero_answer : (c : Context) (P : ℕ → Type 0) (x : ℕ) → IsAnswerOver c P (record { name = x; place = zero_place })
unfolding coefficient
zero_answer c P x = record {
  place = zero_in c;
  sorted = record { rising = tt; nonzero = tt };
  within = (record { coefficients = λ y. lit< tt; constant_within = lit< tt }, lit< tt);
  names = λ y m. absurd (m refl);
}

kept_places : (places : List Place) (s : Place) (g : Tree) (rest : List Result) → Among places s → EachOf (λ (r : Result). Among places r.place) rest → EachOf (λ (r : Result). Among places r.place) (kept s g rest)
kept_places places s No rest m h = h
kept_places places s _ rest m h = (m, h)

-- the place of each result is among those that it was made of
results_places : (c : Context) (by : Atom → Tree) (x : ℕ) (f : Tree) (all places : List Place) → ((s : Place) → Among places s → Among all s) → EachOf (λ (r : Result). Among all r.place) (results c by x f places)
results_places c by x f all [] h = tt
results_places c by x f all (s ∷ places) h = kept_places all s (result_at c by x s f) (results c by x f places) (h s (inl refl)) (results_places c by x f all places (λ t m. h t (inr m)))

-- ---- branches

-- the answers that led to the branch are over the free names of the formula
abbrev pub IsOver : Context → Tree → Branch → Type 0
IsOver c f b = AreAnswersOver c (IsFree f) (answers_of b.steps)

-- those of each branch
abbrev pub AllOver : Context → Tree → List Branch → Type 0
AllOver c f bs = EachOf (IsOver c f) bs

always_any : {A : Type 0} (m : Counted A) → Always (λ a. Unit {0}) m
always_any {A} m cost = go (m cost)
  where
    go : (o : Outcome (A × ℕ)) → Gives (λ (r : A × ℕ). Unit {0}) o
    go (stopped s) = tt
    go (done r) = tt

always_both : {A : Type 0} (P Q : A → Type 0) (m : Counted A) → Always P m → Always Q m → Always (λ a. P a × Q a) m
always_both {A} P Q m h k cost = gives_both (λ (r : A × ℕ). P r.0) (λ (r : A × ℕ). Q r.0) (m cost) (h cost) (k cost)

-- a branch of f, and what a step for x makes of it
module _ (c : Context) (limit x : ℕ) (f : Tree) where
  module _ (b : Branch) (tidy : IsTidy c b.tree) (names : (y : ℕ) → IsFree b.tree y → IsFree f y) (over : IsOver c f b) where
    -- the answers before are over the names of ex(x, f), and x
    before : AreAnswersOver c (λ y. IsFree (Ex x f) y ⊎ (x ≡ y)) (answers_of b.steps)
    before = answers_more c (IsFree f) (λ y. IsFree (Ex x f) y ⊎ (x ≡ y)) (λ y t. elim (cases_eq x y) [ inl e ↦ inr e | inr d ↦ inl (d, t) ]) (answers_of b.steps) over

    next_over : step_within c x b.tree ≡ true → (rs : List Result) → EachOf (λ (r : Result). Among (test_points c Lower x (atoms_of b.tree)) r.place) rs → AllOver c (Ex x f) (map (next_branch x b) rs)
    next_over passed [] h = tt
    next_over passed (r ∷ rs) h =
        ((names_more c (IsFree (Ex x b.tree)) (IsFree (Ex x f)) (record { name = x; place = r.place }) (λ y t. (t.0, names y t.1)) (point_answer c x b.tree tidy passed r.place h.0), before), next_over passed rs h.1)

    zero_over : AllOver c (Ex x f) (kept_at_zero x b ∷ [])
    zero_over = ((zero_answer c (IsFree (Ex x f)) x, before), tt)

    one_over : Always (AllOver c (Ex x f)) (one_step c limit x b)
    one_over = go (stands_among x (atoms_in b.tree))
      where
        go : (test : Bool) → Always (AllOver c (Ex x f)) (if test then full_step c limit x b else give (kept_at_zero x b ∷ []))
        go true =
            always_then (λ u. Unit {0}) (AllOver c (Ex x f)) (within (span_within c x b.tree)) _ (always_within (span_within c x b.tree)) (λ u v.
            always_then (λ u. Unit {0}) (AllOver c (Ex x f)) (pay limit (point_count c x b.tree * (nodes b.tree + 2))) _ (always_pay limit (point_count c x b.tree * (nodes b.tree + 2))) (λ u v.
            always_then (λ u. step_within c x b.tree ≡ true) (AllOver c (Ex x f)) (within (step_within c x b.tree)) _ (always_passed (step_within c x b.tree)) (λ u passed.
            always_give (AllOver c (Ex x f)) (map (next_branch x b) (step c (normal_atom c) Lower x b.tree))
            (next_over passed (step c (normal_atom c) Lower x b.tree) (results_places c (normal_atom c) x b.tree _ (test_points c Lower x (atoms_of b.tree)) (λ s m. m))))))
        go false = always_give (AllOver c (Ex x f)) (kept_at_zero x b ∷ []) zero_over

  -- the same of each branch
  steps_over : (matrix : Tree) (block : List ℕ) (bs : List Branch) → EachOf (IsBranch c matrix block) bs → ((y : ℕ) → FreeInSome Mentions (branch_trees bs) y → IsFree f y) → AllOver c f bs → Always (AllOver c (Ex x f)) (steps c limit x bs)
  steps_over matrix block [] h names over = always_give (AllOver c (Ex x f)) [] tt
  steps_over matrix block (b ∷ bs) h names over =
      always_then (AllOver c (Ex x f)) (AllOver c (Ex x f)) (one_step c limit x b) _ (one_over b h.0.tidy (λ y t. names y (inl t)) over.0) (λ first i.
      always_then (AllOver c (Ex x f)) (AllOver c (Ex x f)) (steps c limit x bs) _ (steps_over matrix block bs h.1 (λ y t. names y (inr t)) over.1) (λ rest j.
      always_give (AllOver c (Ex x f)) (first ++ rest) (each_append (IsOver c (Ex x f)) first rest i j)))

  closed_over : (sign : Bool) (g : Tree) (inner : Counted (List Branch)) → Always (AllOver c g) (closed c limit sign x inner)
  closed_over sign g inner =
      always_then (λ u. Unit {0}) (AllOver c g) inner _ (always_any inner) (λ bs u.
      always_then (λ u. Unit {0}) (AllOver c g) (steps c limit x bs) _ (always_any (steps c limit x bs)) (λ left v.
      always_give (AllOver c g) (alone (turned sign (together left))) (tt, tt)))

  -- ex(x, f) goes on the chain of its names, or ends it
  chained_over : (matrix : Tree) (block : List ℕ) (ended going : Counted (List Branch)) (test : Bool) → Always (AreBranches c f matrix block) going → Always (AllOver c f) going →
      Always (AllOver c (Ex x f)) (if test then closed c limit true x ended else (going >>= steps c limit x))
  chained_over matrix block ended going true h k = closed_over true (Ex x f) ended
  chained_over matrix block ended going false h k =
      always_then (λ bs. AreBranches c f matrix block bs × AllOver c f bs) (AllOver c (Ex x f)) going _ (always_both (AreBranches c f matrix block) (AllOver c f) going h k)
      (λ bs i. steps_over matrix block bs i.0.each i.0.free i.1)

module _ (c : Context) (limit : ℕ) where
  -- what has become one formula has no answers
  single : (g h : Tree) → Always (AllOver c g) (give (alone h))
  single g h = always_give (AllOver c g) (alone h) (tt, tt)

  folded_over : {A : Type 0} (g : Tree) (m : Counted A) (k : A → Tree) → Always (AllOver c g) (m >>= λ a. give (alone (k a)))
  folded_over {A} g m k = always_then (λ (a : A). Unit {0}) (AllOver c g) m _ (always_any m) (λ a u. single g (k a))

  branches_over : (names : List ℕ) (sign : Bool) (f : Tree) → IsNegationNormal f → Every (IsNormal c) f → Always (AllOver c (turned sign f)) (branches c limit names sign f)
  branches_over names true Yes n h = single Yes Yes
  branches_over names false Yes n h = single No No
  branches_over names true No n h = single No No
  branches_over names false No n h = single Yes Yes
  branches_over names true (One a) n h = single (One a) (One a)
  branches_over names false (One a) n h = single (One (negated_normal a)) (One (negated_normal a))
  branches_over names true (And fs) n h = folded_over (turned true (And fs)) (members c limit true fs) _
  branches_over names false (And fs) n h = folded_over (turned false (And fs)) (members c limit false fs) _
  branches_over names true (Or fs) n h = folded_over (turned true (Or fs)) (members c limit true fs) _
  branches_over names false (Or fs) n h = folded_over (turned false (Or fs)) (members c limit false fs) _
  branches_over names true (Ex x f) n h =
      chained_over c limit x f _ _ (branches c limit (x ∷ []) true f) (branches c limit (x ∷ names) true f) (is_in nat_eq x names) (branches_are c limit (x ∷ names) true f n h) (branches_over (x ∷ names) true f n h)
  branches_over names false (Ex x f) n h = closed_over c limit x f false (turned false (Ex x f)) (branches c limit (x ∷ []) true f)
  branches_over names true (All x f) n h = closed_over c limit x f false (All x f) (branches c limit (x ∷ []) false f)
  branches_over names false (All x f) n h =
      chained_over c limit x (normal_form_of_not negated_normal f) _ _ (branches c limit (x ∷ []) false f) (branches c limit (x ∷ names) false f) (is_in nat_eq x names)
      (branches_are c limit (x ∷ names) false f n h) (branches_over (x ∷ names) false f n h)
  branches_over names sign (Not f) n h = absurd n
  branches_over names sign (Impl f g) n h = absurd n
  branches_over names sign (Repl f g) n h = absurd n
  branches_over names sign (Equiv f g) n h = absurd n

  leading_over : (sign : Bool) (f : Tree) → Every (IsNormal c) f → Always (AllOver c (turned sign (normal_tree f))) (leading_branches c limit sign f)
  leading_over sign f h =
      always_then (λ u. Unit {0}) (AllOver c (turned sign (normal_tree f))) (pay limit (nodes (normal_tree f))) _ (always_pay limit (nodes (normal_tree f)))
      (λ u v. branches_over [] sign (normal_tree f) (normal_form_shape negated_normal f).0 (normal_normal_tree c limit f h))

each_case : (c : Context) (f g : Tree) → ((y : ℕ) → IsFree g y → IsFree f y) → (bs : List Branch) → AllOver c g bs → EachOf (λ (k : Case). AreAnswersOver c (IsFree f) k.answers) (cases_of bs)
each_case c f g h [] t = tt
each_case c f g h (b ∷ bs) t = (answers_more c (IsFree g) (IsFree f) h (answers_of b.steps) t.0, each_case c f g h bs t.1)

pub cases_have_answers : (c : Context) → CasesHaveAnswers c
cases_have_answers c limit f n =
    let sign = case_sign (normal_tree f) in
    gives_then (λ (r : List Branch × ℕ). AllOver c (turned sign (normal_tree f)) r.0) (λ (r : List Case × ℕ). EachOf (λ (k : Case). AreAnswersOver c (IsFree f) k.answers) r.0) (leading_branches c limit sign f 0) _
    (leading_over c limit sign f n 0) (λ r i. each_case c f (turned sign (normal_tree f)) (λ y t. free c f sign y t) r.0 i)

pub cases_over : (c : Context) → CasesAreOver c
cases_over c limit f n =
    gives_map (λ (r : List Case × ℕ). EachOf (λ (k : Case). AreAnswersOver c (IsFree f) k.answers) r.0) (λ (r : List Case × ℕ). EachOf (λ (k : Case). AreOver (IsFree f) k.answers) r.0) (reference_cases c limit f)
    (λ r h. each_map (λ (k : Case). AreAnswersOver c (IsFree f) k.answers) (λ (k : Case). AreOver (IsFree f) k.answers) (λ k t. over_of c (IsFree f) k.answers t) r.0 h) (cases_have_answers c limit f n)
