-- The names of a problem: its own are numbered first, and that of the target's value last.
use Rattle.std.proofs.Common.{◌≡◌, ◌⊎◌, inl, inr, ⊎_elim, ℕ, suc, ◌+◌, List, [], ◌∷◌, ◌++◌, Bool, true, false, not, ◌||◌, if◌then◌else◌, length, take, ap, sym, ◌∙◌, subst, refl, arith, append-nil}
use Rattle.std.proofs.lemmas.Bool.{false≢true}
use Rattle.std.proofs.lemmas.List.{length-append}
use Rattle.std.proofs.lemmas.List.Sums.{fold-append}
use Rattle.std.proofs.Math.Seq.{take-append_seam}
use Rattle.std.specs.List.{list_any, fold}
use Rattle.logic_meaning.specs.Formula.{One, none, also}
use Rattle.logic_meaning.specs.declared.quantifier.Quantifier.TheVariants.{Exists}
use Rattle.language_meaning.specs.Names.{IsVariable}
use Rattle.language_meaning.specs.declared.tree.Relation.TheVariants.{Equal}
use Rattle.language_meaning.specs.Trees.{TermTree, FormulaTree, FormulaTrees, Named, Compare}
use Rattle.language_meaning.specs.Value.{same_name}
use Rattle.written_syntax.specs.Valued.{IsIn}
use Rattle.written_syntax.specs.Writable.{IsWritableTerm, AreWritableFormulas}
use Rattle.language_meaning.specs.QuantifiedNames.{quantified_names}
use Rattle.logic_meaning.specs.Names.{with_name, place}
use Rattle.language_meaning.specs.Resolving.{variables_of, formula_variables, all_variables}
use Rattle.language_meaning.specs.NamesAfter.{names_after}
use Rattle.resolved_formulas.proofs.PlaceLaws.{same_is, same_itself, after_has, in_either}
use Rattle.formula_resolving.specs.Numbering.{Grows}
use Rattle.formula_resolving.proofs.Numbered.{grows_same, grows_then, grows_with}
use Rattle.program_meaning.specs.Targets.{target_name, problem_names, together, problem_of}
use Rattle.session_state.proofs.VariableLemmas.{AllVariables, all_put_in}
use Rattle.session_state.proofs.NameLemmas.{kept_names}
use Rattle.constraint_queries.proofs.ProblemSteps.{names_variables}

-- ---- the text

quantified_variables : (xs : List (List ℕ)) (f : FormulaTree) → formula_variables (quantified_names Exists xs f) ≡ xs ++ formula_variables f
quantified_variables [] f = refl
quantified_variables (x ∷ xs) f = ap (λ ys. x ∷ ys) (quantified_variables xs f)

together_variables : (f : FormulaTree) (fs : FormulaTrees) → formula_variables (together f fs) ≡ formula_variables f ++ all_variables fs
together_variables f none = sym (append-nil (formula_variables f))
together_variables f (also g gs) = refl

-- the problem's names, the target's name, and names of the problem again
pub problem_variables_are : (written : FormulaTrees) (target : TermTree)
    → formula_variables (problem_of written target) ≡ problem_names written target ++ target_name ∷ (variables_of target ++ all_variables written)
problem_variables_are written target =
    quantified_variables (problem_names written target) (together (One (Compare Equal (Named target_name) target)) written)
    ∙ ap (λ ys. problem_names written target ++ ys) (together_variables (One (Compare Equal (Named target_name) target)) written)

-- ---- names that are put in

-- they come behind the others
pub grows_all : (xs names : List (List ℕ)) → Grows names (fold with_name names xs)
grows_all [] names = grows_same names
grows_all (x ∷ xs) names = grows_then names (with_name names x) (fold with_name names (x ∷ xs)) (grows_with names x) (grows_all xs (with_name names x))

-- ---- the target's name

-- it begins with no letter
other_name : (x : List ℕ) → IsVariable x → same_name target_name x ≡ false
other_name x h = go (same_name target_name x) refl
  where
    no_variable : ¬ (IsVariable target_name)
    no_variable v = false≢true v.begins

    go : (b : Bool) → same_name target_name x ≡ b → b ≡ false
    go true e = absurd (no_variable (subst IsVariable (sym (same_is target_name x e)) h))
    go false e = refl

not_among : (names : List (List ℕ)) → AllVariables names → list_any (same_name target_name) names ≡ false
not_among [] h = refl
not_among (x ∷ xs) h = ap (λ b. b || list_any (same_name target_name) xs) (other_name x h.0) ∙ not_among xs h.1

put_last : (names : List (List ℕ)) → AllVariables names → with_name names target_name ≡ names ++ target_name ∷ []
put_last names h = ap (λ b. if b then names else names ++ target_name ∷ []) (not_among names h)

-- so its number is the last one
place_last : (names : List (List ℕ)) → AllVariables names → place (names ++ target_name ∷ []) target_name ≡ length names
place_last [] h = ap (λ b. if not b then 1 else 0) (same_itself target_name)
place_last (x ∷ xs) h =
    let e : 1 + length xs ≡ suc (length xs) = omega arith in
    ap (λ b. if not b then 1 + place (xs ++ target_name ∷ []) target_name else 0) (other_name x h.0) ∙ ap (λ n. 1 + n) (place_last xs h.1) ∙ e

-- ---- the names after the problem

module _ (old : List (List ℕ)) (variables : AllVariables old) (written : FormulaTrees) (target : TermTree) (proper : AreWritableFormulas written) (target_proper : IsWritableTerm target) where
  -- the names with those of the problem
  abbrev pub front : List (List ℕ)
  front = fold with_name old (problem_names written target)

  pub front_variables : AllVariables front
  front_variables = all_put_in old (problem_names written target) variables (names_variables written target proper target_proper)

  again : (x : List ℕ) → IsIn x (variables_of target ++ all_variables written) → IsIn x (front ++ target_name ∷ [])
  again x i = in_either x front (target_name ∷ []) (inl (after_has (problem_names written target) old x (inr (after_has (all_variables written ++ variables_of target) [] x (inr (turned i))))))
    where
      split : (xs ys : List (List ℕ)) → IsIn x (xs ++ ys) → IsIn x xs ⊎ IsIn x ys
      split [] ys h = inr h
      split (z ∷ zs) ys (inl e) = inl (inl e)
      split (z ∷ zs) ys (inr h) = ⊎_elim (λ k. inl (inr k)) (λ k. inr k) (split zs ys h)

      turned : IsIn x (variables_of target ++ all_variables written) → IsIn x (all_variables written ++ variables_of target)
      turned h = in_either x (all_variables written) (variables_of target) (⊎_elim (λ k. inr k) (λ k. inl k) (split (variables_of target) (all_variables written) h))

  -- the last one is that of the target
  pub last_is_target : names_after old (problem_of written target) ≡ front ++ target_name ∷ []
  last_is_target =
      ap (λ xs. fold with_name old xs) (problem_variables_are written target)
      ∙ fold-append with_name old (problem_names written target) (target_name ∷ (variables_of target ++ all_variables written))
      ∙ ap (λ ns. fold with_name ns (variables_of target ++ all_variables written)) (put_last front front_variables)
      ∙ kept_names (variables_of target ++ all_variables written) (front ++ target_name ∷ []) again

  pub count_is : length (names_after old (problem_of written target)) ≡ length front + 1
  count_is = ap length last_is_target ∙ length-append front (target_name ∷ [])

  pub target_is_last : place (names_after old (problem_of written target)) target_name ≡ length front
  target_is_last = ap (λ ns. place ns target_name) last_is_target ∙ place_last front front_variables

  pub given_back : take (length front) (names_after old (problem_of written target)) ≡ front
  given_back = ap (take (length front)) last_is_target ∙ take-append_seam front (target_name ∷ [])
