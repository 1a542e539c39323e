-- From what is found of a resolved problem to what is said of the target as it is written.
use Rattle.std.proofs.Common.{◌≡◌, ◌<◌, ◌↔◌, ◌⊎◌, inl, inr, ℕ, List, [], ◌∷◌, ◌++◌, map, false, Some, sym, ap, ◌∙◌, subst, refl, arith, nat_eq, unsigned_abs}
use Rattle.std.proofs.Math.IntN.{ℤ, pos, ◌*ℤ◌}
use Rattle.std.proofs.lemmas.Bool.{false≢true}
use Rattle.std.proofs.lemmas.Int.{ints}
use Rattle.std.specs.Prelude.{slice_get, ◌<ℤ◌}
use Rattle.std.specs.List.{AllByRecursion, IsDistinct}
use Rattle.exact_numbers.specs.Frac.{Frac, IsProper, SameValue}
use Rattle.exact_numbers.proofs.FractionRule.{same_value_trans}
use Rattle.exact_numbers.proofs.Order.{mul_positive}
use Rattle.exact_numbers.proofs.Ring.{ring}
use Rattle.logic_meaning.specs.declared.quantifier.Quantifier.TheVariants.{Exists}
use Rattle.logic_meaning.specs.Atom as meaning
use Rattle.logic_meaning.specs.Context.{Context, Fields, Allowed}
use Rattle.formula_laws.specs.StandsOnce.{StandsOnce}
use Rattle.logic_meaning.specs.Every.{Every, EveryOf}
use Rattle.logic_meaning.specs.Form as form
use Rattle.logic_meaning.specs.Formula.{One, none, also}
use Rattle.logic_meaning.specs.Point.{Point, Of, move}
use Rattle.formula_laws.specs.Points.{AgreeOn, finer}
use Rattle.logic_meaning.specs.Replaced.{replaced, all_replaced}
use Rattle.logic_meaning.specs.Plain.{IsPlain as IsPlainTree}
use Rattle.logic_meaning.specs.Some.{SomeOf, Among, EachOf}
use Rattle.logic_meaning.specs.Tree.{Tree, TrueAt}
use Rattle.logic_meaning.specs.Truth.{AllTrue}
use Rattle.formula_laws.proofs.SamePoint.{allowed_mul}
use Rattle.formula_laws.proofs.TreeFiner.{tree_finer}
use Rattle.formula_laws.proofs.Values.{value_finer, pos_mul}
use Rattle.normal_atoms.proofs.NormalLaws.{normal_truth}
use Rattle.normal_atoms.proofs.Relations.{chain}
use Rattle.logic_meaning.specs.Cases.{case_matrix, case_names}
use Rattle.language_meaning.specs.declared.tree.Relation.{Relation}
use Rattle.language_meaning.specs.declared.tree.Relation.TheVariants.{Equal}
use Rattle.language_meaning.specs.Names.{IsVariable}
use Rattle.language_meaning.specs.Trees.{TermTree, WrittenAtom, FormulaTree, FormulaTrees, Compare, Named}
use Rattle.language_meaning.specs.Value.{NamedPoint, HasName, RelatesFractions, relation_of, same_name, value}
use Rattle.language_meaning.specs.Value as syntax
use Rattle.written_syntax.specs.Valued.{IsIn}
use Rattle.written_syntax.specs.Writable.{IsWritableTerm, IsWritableFormula, AreWritableFormulas}
use Rattle.written_syntax.proofs.ValueLaw.{value_proper}
use Rattle.written_syntax.specs.ConstraintLists.{AreWeakConstraints}
use Rattle.language_meaning.specs.QuantifiedNames.{quantified_names}
use Rattle.language_meaning.specs.FractionRule.{◌>>=◌}
use Rattle.language_meaning.specs.RationalForms.{RationalForm, formed, formed_difference, sum_of_forms, opposite_form}
use Rattle.resolved_formulas.specs.ResolvedLaws.{Numbered, value_at}
use Rattle.language_meaning.specs.Resolving.{BoundTrees, variables_of, formula_variables, all_variables, compared, resolved_atom, bound_truth}
use Rattle.logic_meaning.specs.Names.{place}
use Rattle.resolved_formulas.proofs.AtomTruth.{difference_stands, comparison_truth}
use Rattle.resolved_formulas.proofs.FormValues.{below_positive, form_stands}
use Rattle.resolved_formulas.proofs.Nowhere.{mentioned_have}
use Rattle.resolved_formulas.proofs.PlaceLaws.{same_itself, slice_place, after_distinct}
use Rattle.resolved_formulas.proofs.ResolvedTruth.{IsPlain, there, all_plain}
use Rattle.resolved_formulas.proofs.RuleLaw.{bind_ok}
use Rattle.logic_meaning.specs.Values.{Value, value_names, with_values, IsValue, origin}
use Rattle.sample_reference.specs.TrueSample.{AreTrueValues}
use Rattle.sample_reference.proofs.SamePoints.{abs_above, values_of_theory}
use Rattle.logic_meaning.specs.LeastFraction.{IsLeastFraction}
use Rattle.linear_theory.specs.WeakTargets.{exs}
use Rattle.program_meaning.specs.Assumptions.{AllTrueAt}
use Rattle.program_meaning.specs.Places.{by_names}
use Rattle.program_meaning.specs.State.{State, known}
use Rattle.program_meaning.specs.Targets.{TargetAnswer, Infeasible, Unbounded, Attained, IsAttained, target_name, target_number, problem_names, together, resolved_problem, problem_of, SaysLeast}
use Rattle.session_state.proofs.NameLemmas.{variables_in_names}
use Rattle.session_state.proofs.VariableLemmas.{AllVariables, both, variables_of_formula, variables_of_all, all_put_in}
use Rattle.form_commands.specs.Reading.{HasNumbers, IsReadable}
use Rattle.least_search.specs.Found.{IsTargetFound, at_value}
use Rattle.least_search.proofs.Blocks.{whole_block, whole_matrix}
use Rattle.constraint_queries.proofs.Problems.{IsWeakComparison, weak_comparison, names_resolved, together_weak}
use Rattle.constraint_queries.proofs.TargetPoints.{Other, IsThere, others_agree, target_there, below_of_finer}

-- what is known of a problem that is read
pub record IsProblemRead (s : State) (written : FormulaTrees) (target : TermTree) : Type 0 where
  pub fields : s.context ≡ Fields
  pub distinct : IsDistinct same_name s.names
  pub numbered : HasNumbers s.names (problem_of written target)
  pub readable : IsReadable s (problem_of written target)
  pub weak : AreWeakConstraints written
  pub proper : AreWritableFormulas written
  pub target_proper : IsWritableTerm target

-- ---- names

each_is : (P : List ℕ → Type 0) (xs : List (List ℕ)) (x : List ℕ) → AllByRecursion P xs → IsIn x xs → P x
each_is P [] x h i = absurd i
each_is P (y ∷ ys) x h (inl e) = subst P e h.0
each_is P (y ∷ ys) x h (inr i) = each_is P ys x h.1 i

each_in : (P : List ℕ → Type 0) (xs : List (List ℕ)) → ((x : List ℕ) → IsIn x xs → P x) → AllByRecursion P xs
each_in P [] h = tt
each_in P (x ∷ xs) h = (h x (inl refl), each_in P xs (λ y i. h y (inr i)))

all_left : (xs ys : List (List ℕ)) → AllVariables (xs ++ ys) → AllVariables xs
all_left [] ys h = tt
all_left (x ∷ xs) ys h = (h.0, all_left xs ys h.1)

-- no script can write the target's name
not_target : (x : List ℕ) → IsVariable x → ¬ (x ≡ target_name)
not_target x h e = let v = subst IsVariable e h in false≢true v.begins

-- the names of a comparison that a script can write are others
names_written : (rel : Relation) (a b : TermTree) → IsWritableTerm a → IsWritableTerm b → (x : List ℕ) → HasName a x ⊎ HasName b x → ¬ (x ≡ target_name)
names_written rel a b pa pb x m =
    let f : FormulaTree = One (Compare rel a b) in
    not_target x (mentioned_have IsVariable f (λ y i. each_is IsVariable (formula_variables f) y (variables_of_formula f (pa, pb)) i) x m)

-- ---- places

module _ (names : List (List ℕ)) where
  one_name : (x y : List ℕ) → IsIn x names → IsIn y names → place names x ≡ place names y → x ≡ y
  one_name x y h k e =
      let same : Some x ≡ Some y = sym (slice_place names x h) ∙ ap (slice_get names) e ∙ slice_place names y k in
      cc

  apart : (x : List ℕ) (own : List (List ℕ)) → IsIn x names → AllByRecursion (λ y. IsIn y names) own → AllByRecursion (λ y. same_name x y ≡ false) own → ¬ (SomeOf (λ n. place names x ≡ n) (map (place names) own))
  apart x [] h k d e = e
  apart x (y ∷ own) h k d (inl e) = false≢true (sym d.0 ∙ ap (same_name x) (sym (one_name x y h k.0 e)) ∙ same_itself x)
  apart x (y ∷ own) h k d (inr e) = apart x own h k.1 d.1 e

  places_once : (own : List (List ℕ)) → AllByRecursion (λ y. IsIn y names) own → IsDistinct same_name own → StandsOnce (map (place names) own)
  unfolding IsDistinct
  places_once [] h d = tt
  places_once (x ∷ own) h d = (apart x own h.0 h.1 d.0, places_once own h.1 d.1)

  -- the target's number is that of no variable
  target_apart : (own : List (List ℕ)) → IsIn target_name names → AllByRecursion (λ y. IsIn y names) own → AllVariables own → ¬ (Among (map (place names) own) (place names target_name))
  target_apart [] t h v i = i
  target_apart (x ∷ own) t h v (inl e) = not_target x v.0 (one_name x target_name h.0 t e)
  target_apart (x ∷ own) t h v (inr i) = target_apart own t h.1 v.1 i

-- ---- comparisons

-- a comparison has its truth at each point that numbers its names
compare_there : (c : Context) (bound : BoundTrees) (names : List (List ℕ)) (rel : Relation) (a b : TermTree) → IsPlain c bound names (Compare rel a b) → (K : List ℕ → Type 0) (p : NamedPoint) (q : Point ℕ)
    → 0 < p.below → Of c q → Numbered (place names) K p q → ((x : List ℕ) → HasName a x ⊎ HasName b x → K x)
    → RelatesFractions rel (value a p) (value b p) ↔ TrueAt c (compared c rel (formed_difference c (place names) a b)) q
compare_there c bound names rel a b plain K p q h o n named =
    let d = there (formed_difference c (place names) a b) (λ m. plain.within (inl m)) in
    let stands = difference_stands c (place names) K a b d.0 p q h n named d.1 in
    let below = below_positive p q h n.same_below in
    subst (λ r. RelatesFractions rel (value a p) (value b p) ↔ TrueAt c (compared c rel r) q) (sym d.1)
    (chain (comparison_truth (relation_of rel) d.0 (value a p) (value b p) q below (value_proper a p h) (value_proper b p h) stands) (normal_truth c (meaning.Compare (relation_of rel) d.0.form) tt q o))

-- ---- forms

form_proper : (b : RationalForm) (q : Point ℕ) → 0 < q.below → pos 0 <ℤ b.denominator → IsProper (value_at b q)
form_proper b q h p = mul_positive p (omega (arith, ints))

finer_value : (b : RationalForm) (q : Point ℕ) (n : ℕ) → SameValue (value_at b q) (value_at b (finer q n))
finer_value b q n = over (form.value b.form q) b.denominator (pos q.below) (pos n) (form.value b.form (finer q n)) (pos (finer q n).below) (value_finer b.form q n) (ap pos (below_of_finer q n) ∙ pos_mul q.below n)
  where
    longer : (x d b n : ℤ) → x *ℤ (d *ℤ (b *ℤ n)) ≡ (n *ℤ x) *ℤ (d *ℤ b)
    longer x d b n = simp ring (omega (arith, ints))

    over : (x d b n y c : ℤ) → y ≡ n *ℤ x → c ≡ b *ℤ n → x *ℤ (d *ℤ c) ≡ y *ℤ (d *ℤ b)
    over x d b n y c e f = ap (λ u. x *ℤ (d *ℤ u)) f ∙ longer x d b n ∙ sym (ap (λ u. u *ℤ (d *ℤ b)) e)

-- ---- members

module _ (P : WrittenAtom → Type 0) where
  every_behind : (xs : List (List ℕ)) (f : FormulaTree) → Every P (quantified_names Exists xs f) → Every P f
  every_behind [] f h = h
  every_behind (x ∷ xs) f h = every_behind xs f h

  every_member : (f : FormulaTree) (fs : FormulaTrees) → Every P (together f fs) → Every P f × EveryOf P fs
  every_member f none h = (h, tt)
  every_member f (also g gs) h = h

module _ (c : Context) (by : WrittenAtom → Tree) (number : List ℕ → ℕ) (q : Point ℕ) where
  abbrev AllTrueHere : FormulaTrees → Type 0
  AllTrueHere none = Unit {0}
  AllTrueHere (also f fs) = TrueAt c (replaced by number f) q × AllTrueHere fs

  true_member : (f : FormulaTree) (fs : FormulaTrees) → TrueAt c (replaced by number (together f fs)) q → TrueAt c (replaced by number f) q × AllTrueHere fs
  true_member f none h = (h, tt)
  true_member f (also g gs) h = (h.0, (h.1.0, rest gs h.1.1))
    where
      rest : (fs : FormulaTrees) → AllTrue meaning.Says (move nat_eq) c (all_replaced by number fs) q → AllTrueHere fs
      rest none h = tt
      rest (also f fs) h = (h.0, rest fs h.1)

in_quantified : (xs : List (List ℕ)) (f : FormulaTree) (x : List ℕ) → IsIn x xs → IsIn x (formula_variables (quantified_names Exists xs f))
in_quantified [] f x i = absurd i
in_quantified (y ∷ ys) f x (inl e) = inl e
in_quantified (y ∷ ys) f x (inr i) = inr (in_quantified ys f x i)

-- ---- what is found

module _ (s : State) (written : FormulaTrees) (target : TermTree) (h : IsProblemRead s written target) where
  abbrev number : List ℕ → ℕ
  number = place s.names

  abbrev by : WrittenAtom → Tree
  by = resolved_atom s.context (known s) number

  abbrev z : ℕ
  z = target_number s

  abbrev equation : FormulaTree
  equation = One (Compare Equal (Named target_name) target)

  abbrev own : List (List ℕ)
  own = problem_names written target

  plain : Every (IsPlain s.context (known s) s.names) equation × EveryOf (IsPlain s.context (known s) s.names) written
  plain =
      every_member (IsPlain s.context (known s) s.names) equation written
      (every_behind (IsPlain s.context (known s) s.names) own (together equation written)
      (subst (λ ns. Every (IsPlain s.context (known s) ns) (problem_of written target)) h.numbered (all_plain s.context (known s) s.names (problem_of written target) h.readable)))

  target_in : IsIn target_name s.names
  target_in = plain.0.named target_name (inl refl)

  own_in : AllByRecursion (λ x. IsIn x s.names) own
  own_in = each_in (λ x. IsIn x s.names) own (λ x i. variables_in_names (problem_of written target) s.names h.numbered x (in_quantified own (together equation written) x i))

  own_variables : AllVariables own
  own_variables =
      let target_variables = all_left (variables_of target) (variables_of target) (variables_of_formula (One (Compare Equal target target)) (h.target_proper, h.target_proper)) in
      all_put_in [] (all_variables written ++ variables_of target) tt (both (all_variables written) (variables_of target) (variables_of_all written h.proper) target_variables)

  own_distinct : IsDistinct same_name own
  unfolding IsDistinct
  own_distinct = after_distinct (all_variables written ++ variables_of target) [] tt

  own_once : StandsOnce (map number own)
  own_once = places_once s.names own own_in own_distinct

  -- the points have the theory of the state
  in_state : (q : Point ℕ) → Of Fields q → Of s.context q
  in_state q o = subst (λ c. Of c q) (sym h.fields) o

  numbered_all : (q : Point ℕ) → Numbered number (λ x. IsIn x s.names) (by_names s.names q) q
  numbered_all q = record { same_below = refl; same_at = λ x k. refl }

  -- the names of the state but for the target's
  abbrev IsOther : List ℕ → Type 0
  IsOther x = IsIn x s.names × (¬ (x ≡ target_name))

  -- ---- with the least value and the values of the sample

  module _ (v : Frac) (positive : pos 0 <ℤ v.denominator) (values : List Value) (each : EachOf (IsValue Fields) values) (ordered : value_names values ≡ map number own) where
    abbrev n : ℕ
    n = unsigned_abs v.denominator

    -- with the target's value, without it, and without it over as large a denominator
    abbrev valued : Point ℕ
    valued = with_values (at_value z v) values

    abbrev bare : Point ℕ
    bare = with_values origin values

    abbrev fine : Point ℕ
    fine = finer bare n

    bare_of : Of Fields bare
    bare_of = values_of_theory Fields values origin each (omega arith)

    fine_of : Of Fields fine
    fine_of = subst (λ b. 0 < b) (sym (below_of_finer bare n)) (allowed_mul Fields bare.below n bare_of (abs_above v.denominator positive))

    agree : AgreeOn (Other z) valued fine
    agree = others_agree z v values

    valued_of : Of Fields valued
    valued_of = subst (λ b. 0 < b) (sym agree.same_below) fine_of

    numbered_others : Numbered number IsOther (by_names s.names fine) valued
    numbered_others = record { same_below = agree.same_below; same_at = λ x k. agree.same_at (number x) (λ e. k.1 (one_name s.names x target_name k.0 target_in (sym e))) }

    -- a comparison without the target's name is true without its value too
    comparison_met : (rel : Relation) (a b : TermTree) → IsPlain s.context (known s) s.names (Compare rel a b) → IsWritableTerm a → IsWritableTerm b
        → TrueAt s.context (compared s.context rel (formed_difference s.context number a b)) valued → RelatesFractions rel (value a (by_names s.names bare)) (value b (by_names s.names bare))
    comparison_met rel a b p wa wb t =
        let others = names_written rel a b wa wb in
        let spread = compare_there s.context (known s) s.names rel a b p IsOther (by_names s.names fine) valued fine_of (in_state valued valued_of) numbered_others (λ x m. (p.named x m, others x m)) in
        let same = compare_there s.context (known s) s.names rel a b p (λ x. IsIn x s.names) (by_names s.names fine) fine fine_of (in_state fine fine_of) (numbered_all fine) p.named in
        let allowed : Allowed s.context n = subst (λ c. Allowed c n) (sym h.fields) (abs_above v.denominator positive) in
        let coarse = tree_finer s.context (compared s.context rel (formed_difference s.context number a b)) bare n allowed in
        let last = compare_there s.context (known s) s.names rel a b p (λ x. IsIn x s.names) (by_names s.names bare) bare bare_of (in_state bare bare_of) (numbered_all bare) p.named in
        last.1 (coarse.1 (same.0 (spread.1 t)))

    constraint_met : (g : FormulaTree) → IsWeakComparison g → Every (IsPlain s.context (known s) s.names) g → IsWritableFormula g → TrueAt s.context (replaced by number g) valued
        → syntax.TrueAt (bound_truth s.context (known s) s.names) s.context g (by_names s.names bare)
    constraint_met g w =
        subst (λ f. Every (IsPlain s.context (known s) s.names) f → IsWritableFormula f → TrueAt s.context (replaced by number f) valued → syntax.TrueAt (bound_truth s.context (known s) s.names) s.context f (by_names s.names bare)) (sym w.is)
        (λ p proper t. comparison_met w.relation w.left w.right p proper.0 proper.1 t)

    all_met : (fs : FormulaTrees) → AreWeakConstraints fs → EveryOf (IsPlain s.context (known s) s.names) fs → AreWritableFormulas fs → AllTrueHere s.context by number valued fs → AllTrueAt s fs (by_names s.names bare)
    all_met none k p w t = tt
    all_met (also g gs) k p w t = (constraint_met g (weak_comparison g k.0) p.0 w.0 t.0, all_met gs k.1 p.1 w.1 t.1)

    -- the target's name has its value
    value_there : IsThere z v valued
    value_there = target_there z v values positive (λ i. target_apart s.names own target_in own_in own_variables (subst (λ ns. Among ns z) ordered i))

    target_met : TrueAt s.context (replaced by number equation) valued → SameValue (value target (by_names s.names bare)) v
    target_met t =
        let p = plain.0 in
        let d = there (formed_difference s.context number (Named target_name) target) (λ m. p.within (inl m)) in
        let a = bind_ok (formed s.context number (Named target_name)) (λ u. formed s.context number target >>= λ w. sum_of_forms u (opposite_form w)) d.0 d.1 in
        let b = bind_ok (formed s.context number target) (λ w. sum_of_forms a.0 (opposite_form w)) d.0 a.2 in
        let named : (x : List ℕ) → HasName target x → IsIn x s.names = λ x m. p.named x (inr m) in
        let others : (x : List ℕ) → HasName target x → IsOther x = λ x m. (named x m, names_written Equal target target h.target_proper h.target_proper x (inl m)) in
        let on_bare = form_stands s.context number (λ x. IsIn x s.names) target b.0 (by_names s.names bare) bare bare_of (numbered_all bare) named b.1 in
        let on_fine = form_stands s.context number (λ x. IsIn x s.names) target b.0 (by_names s.names fine) fine fine_of (numbered_all fine) named b.1 in
        let spread = form_stands s.context number IsOther target b.0 (by_names s.names fine) valued fine_of numbered_others others b.1 in
        let on_valued = form_stands s.context number (λ x. IsIn x s.names) target b.0 (by_names s.names valued) valued valued_of (numbered_all valued) named b.1 in
        let equal : SameValue (value (Named target_name) (by_names s.names valued)) (value target (by_names s.names valued)) =
        (compare_there s.context (known s) s.names Equal (Named target_name) target p (λ x. IsIn x s.names) (by_names s.names valued) valued valued_of (in_state valued valued_of) (numbered_all valued) p.named).1 t in
        same_value_trans (value target (by_names s.names bare)) (value_at b.0 bare) v (form_proper b.0 bare bare_of on_bare.positive) (sym on_bare.same)
        (same_value_trans (value_at b.0 bare) (value_at b.0 fine) v (form_proper b.0 fine fine_of on_bare.positive) (finer_value b.0 bare n)
        (same_value_trans (value_at b.0 fine) (value target (by_names s.names fine)) v on_fine.meant on_fine.same
        (same_value_trans (value target (by_names s.names fine)) (value_at b.0 valued) v (form_proper b.0 valued valued_of on_bare.positive) (sym spread.same)
        (same_value_trans (value_at b.0 valued) (value target (by_names s.names valued)) v on_valued.meant on_valued.same
        (same_value_trans (value target (by_names s.names valued)) (value (Named target_name) (by_names s.names valued)) v (omega (arith, ints, valued_of)) (sym equal) value_there)))))

  abbrev matrix : Tree
  matrix = replaced by number (together equation written)

  matrix_plain : IsPlainTree matrix
  matrix_plain = (together_weak s h.fields equation written refl h.weak).is_plain

  resolved : resolved_problem s written target ≡ exs (map number own) matrix
  resolved = names_resolved by number own (together equation written)

  attained_says : (v : Frac) (values : List Value) → IsLeastFraction z (resolved_problem s written target) v → AreTrueValues Fields (resolved_problem s written target) (at_value z v) values → IsAttained s written target v values
  attained_says v values least sample =
      let ordered : value_names values ≡ map number own = sample.names ∙ ap case_names resolved ∙ whole_block (map number own) matrix matrix_plain own_once in
      let q = with_values (at_value z v) values in
      let true_there : TrueAt Fields matrix q = subst (λ g. TrueAt Fields g q) (ap case_matrix resolved ∙ whole_matrix (map number own) matrix matrix_plain own_once) sample.matrix in
      let members = true_member s.context by number q equation written (subst (λ c. TrueAt c matrix q) (sym h.fields) true_there) in
      record {
        is_least = least;
        in_order = ordered;
        each = sample.each;
        meets = all_met v least.proper values sample.each ordered written h.weak plain.1 h.proper members.1;
        attains = target_met v least.proper values sample.each ordered members.0;
      }

-- what is found of the problem is said of the target
pub says_least : (s : State) (written : FormulaTrees) (target : TermTree) (answer : TargetAnswer) → IsProblemRead s written target
    → IsTargetFound (target_number s) (resolved_problem s written target) answer → SaysLeast s written target answer
says_least s written target Infeasible h found = found
says_least s written target Unbounded h found = found
says_least s written target (Attained least values) h found = attained_says s written target h least values found.0 found.1
