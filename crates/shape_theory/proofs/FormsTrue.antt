-- The clean form has the truth of the formula at a point where merging has the truth of joining.
use Rattle.std.proofs.Common.{◌≡◌, ◌↔◌, ℕ, Bool, true, false, inl, ⊎_elim, Some, List, [], ◌∷◌}
use Rattle.std.proofs.Math.IntN.{ℤ}
use Rattle.logic_meaning.specs.Context.{Context}
use Rattle.logic_meaning.specs.Formula.{Formula, Formulas, Yes, No, One, Not, And, Or, Impl, Repl, Equiv, Ex, All, none, also}
use Rattle.logic_meaning.specs.Truth.{True}
use Rattle.logic_meaning.specs.Shape.{IsQuantifierFree, AreQuantifierFree}
use Rattle.logic_meaning.specs.Fold.{joined, from_pieces}
use Rattle.logic_meaning.specs.declared.junction.Junction.{Junction}
use Rattle.logic_meaning.specs.declared.junction.Junction.TheVariants.{Conjunction, Disjunction}
use Rattle.formula_laws.proofs.Iff.{both_ways, turn_round}
use Rattle.logic_meaning.specs.Merging.{Joined}
use Rattle.shape_theory.specs.Kit.{Kit}
use Rattle.shape_theory.specs.Orderly.{IsOrderly, AreOrderly}
use Rattle.logic_meaning.specs.AtomsFirst.{ones}
use Rattle.shape_theory.proofs.Joining.{Nothing, same, along_both, along_right, along_left, group, nothing_more}
use Rattle.logic_meaning.specs.Ways.{dual, is_same, line_form, line_forms, form_of_lines}
use Rattle.logic_meaning.specs.PlainForms.{of_none}
use Rattle.shape_theory.specs.Lines.{joined_lines, clean_lines, more_clean_lines, clean_form}
use Rattle.shape_theory.proofs.Inserting.{MergesLightly}
use Rattle.shape_theory.proofs.LinesTrue.{MergesTruly, LineSays, LinesSay, AreSound, Together, joined_sound, joined_true}

alone : (j : Junction) (R : Type 0) → R ↔ Joined j R (Nothing j)
alone Conjunction R = (λ r. (r, tt), λ t. t.0)
alone Disjunction R = (λ r. inl r, ⊎_elim (λ r. r) (λ t. absurd t))

module _ {A P : Type 0} (says : A → P → Type 0) (move : P → ℕ → ℤ → ℕ → P) (c : Context) (p : P) where
  abbrev T : Formula A ℕ → Type 0
  T f = True says move c f p

  none_true : (j : Junction) → T (joined j none) ↔ Nothing j
  none_true Conjunction = same
  none_true Disjunction = same

  also_true : (j : Junction) (f : Formula A ℕ) (fs : Formulas A ℕ) → T (joined j (also f fs)) ↔ Joined j (T f) (T (joined j fs))
  also_true Conjunction f fs = same
  also_true Disjunction f fs = same

  neutral_true : (j : Junction) → T (from_pieces j (Some none)) ↔ Nothing j
  neutral_true Conjunction = same
  neutral_true Disjunction = same

  -- the members joined, where one stands for the whole
  pieces_true : (j : Junction) (fs : Formulas A ℕ) → T (from_pieces j (Some fs)) ↔ T (joined j fs)
  pieces_true j none = both_ways (neutral_true j) (turn_round (none_true j))
  pieces_true j (also f none) = both_ways (both_ways (alone j (T f)) (along_right j (T f) (turn_round (none_true j)))) (turn_round (also_true j f none))
  pieces_true j (also f (also g gs)) = same

  module _ (kit : Kit A) (j : Junction) (Q : A → Type 0) (w : A → ℕ) (light : MergesLightly kit j Q w) (truly : MergesTruly kit j Q w light (λ a. says a p)) where
    abbrev L : List A → Type 0
    L us = LineSays kit j Q w light (λ a. says a p) us

    abbrev M : List (List A) → Type 0
    M ls = LinesSay kit j Q w light (λ a. says a p) ls

    abbrev S : List (List A) → Type 0
    S ls = AreSound kit j Q w light (λ a. says a p) truly ls

    ones_true : (us : List A) → T (joined j (ones us none)) ↔ L us
    ones_true [] = none_true j
    ones_true (a ∷ us) = both_ways (also_true j (One a) (ones us none)) (along_right j (says a p) (ones_true us))

    line_true : (us : List A) → T (line_form j us) ↔ L us
    line_true us = both_ways (pieces_true j (ones us none)) (ones_true us)

    lines_true : (ls : List (List A)) → T (joined (dual j) (line_forms j ls)) ↔ M ls
    lines_true [] = none_true (dual j)
    lines_true (us ∷ ls) = both_ways (also_true (dual j) (line_form j us) (line_forms j ls)) (along_both (dual j) (line_true us) (lines_true ls))

    form_true : (ls : List (List A)) → T (form_of_lines j ls) ↔ M ls
    form_true ls = both_ways (pieces_true (dual j) (line_forms j ls)) (lines_true ls)

    -- ---- the lists of a formula

    none_sound : (b : Bool) → S (of_none b)
    none_sound false = tt
    none_sound true = ((tt, tt), tt)

    mutual
      clean_sound : (f : Formula A ℕ) → IsOrderly Q f → S (clean_lines kit j f)
      clean_sound Yes h = none_sound (is_same j Conjunction)
      clean_sound No h = none_sound (is_same j Disjunction)
      clean_sound (One a) h = (((h, tt), (tt, tt)), tt)
      clean_sound (Not f) h = tt
      clean_sound (And fs) h = more_sound (is_same j Conjunction) (of_none (is_same j Conjunction)) fs (none_sound (is_same j Conjunction)) h.1
      clean_sound (Or fs) h = more_sound (is_same j Disjunction) (of_none (is_same j Disjunction)) fs (none_sound (is_same j Disjunction)) h.1
      clean_sound (Impl f g) h = tt
      clean_sound (Repl f g) h = tt
      clean_sound (Equiv f g) h = tt
      clean_sound (Ex x f) h = tt
      clean_sound (All x f) h = tt

      more_sound : (b : Bool) (ls : List (List A)) (fs : Formulas A ℕ) → S ls → AreOrderly Q fs → S (more_clean_lines kit j b ls fs)
      more_sound b ls none s h = s
      more_sound b ls (also f fs) s h =
          more_sound b (joined_lines kit j b ls (clean_lines kit j f)) fs (joined_sound kit j Q w light (λ a. says a p) truly b ls (clean_lines kit j f) s (clean_sound f h.0)) h.1

    together_is : (i k : Junction) (R U : Type 0) → i ≡ j → Together kit j Q w light (λ a. says a p) truly (is_same i k) R U ↔ Joined k R U
    together_is Conjunction Conjunction R U e = together_of j e
      where
        together_of : (l : Junction) → Conjunction ≡ l → Joined l R U ↔ Joined Conjunction R U
        together_of Conjunction x = same
        together_of Disjunction x = absurd (cc (x))
    together_is Conjunction Disjunction R U e = together_of j e
      where
        together_of : (l : Junction) → Conjunction ≡ l → Joined (dual l) R U ↔ Joined Disjunction R U
        together_of Conjunction x = same
        together_of Disjunction x = absurd (cc (x))
    together_is Disjunction Conjunction R U e = together_of j e
      where
        together_of : (l : Junction) → Disjunction ≡ l → Joined (dual l) R U ↔ Joined Conjunction R U
        together_of Conjunction x = absurd (cc (x))
        together_of Disjunction x = same
    together_is Disjunction Disjunction R U e = together_of j e
      where
        together_of : (l : Junction) → Disjunction ≡ l → Joined l R U ↔ Joined Disjunction R U
        together_of Conjunction x = absurd (cc (x))
        together_of Disjunction x = same

    -- the lists of no member
    none_says : (i k : Junction) → Joined (dual i) (Nothing i) (Nothing (dual i)) ↔ Nothing i
    none_says Conjunction k = turn_round (alone Disjunction (Nothing Conjunction))
    none_says Disjunction k = turn_round (alone Conjunction (Nothing Disjunction))

    of_none_true : (i k : Junction) → i ≡ j → M (of_none (is_same i k)) ↔ Nothing k
    of_none_true Conjunction Conjunction e = says_of j e
      where
        says_of : (l : Junction) → Conjunction ≡ l → Joined (dual l) (Nothing l) (Nothing (dual l)) ↔ Nothing Conjunction
        says_of Conjunction x = none_says Conjunction Conjunction
        says_of Disjunction x = absurd (cc (x))
    of_none_true Conjunction Disjunction e = says_of j e
      where
        says_of : (l : Junction) → Conjunction ≡ l → Nothing (dual l) ↔ Nothing Disjunction
        says_of Conjunction x = same
        says_of Disjunction x = absurd (cc (x))
    of_none_true Disjunction Conjunction e = says_of j e
      where
        says_of : (l : Junction) → Disjunction ≡ l → Nothing (dual l) ↔ Nothing Conjunction
        says_of Conjunction x = absurd (cc (x))
        says_of Disjunction x = same
    of_none_true Disjunction Disjunction e = says_of j e
      where
        says_of : (l : Junction) → Disjunction ≡ l → Joined (dual l) (Nothing l) (Nothing (dual l)) ↔ Nothing Disjunction
        says_of Conjunction x = absurd (cc (x))
        says_of Disjunction x = none_says Disjunction Disjunction

    one_says : (a : A) → M ((a ∷ []) ∷ []) ↔ says a p
    one_says a = both_ways (turn_round (alone (dual j) (L (a ∷ [])))) (turn_round (alone j (says a p)))

    mutual
      clean_true : (f : Formula A ℕ) → IsOrderly Q f → IsQuantifierFree f → M (clean_lines kit j f) ↔ T f
      clean_true Yes h q = both_ways (of_none_true j Conjunction (λ i. j)) same
      clean_true No h q = both_ways (of_none_true j Disjunction (λ i. j)) same
      clean_true (One a) h q = one_says a
      clean_true (Not f) h q = absurd h
      clean_true (And fs) h q =
          both_ways (more_true Conjunction (of_none (is_same j Conjunction)) fs (none_sound (is_same j Conjunction)) h.1 q)
          (turn_round (nothing_more Conjunction (M (of_none (is_same j Conjunction))) (T (And fs)) (of_none_true j Conjunction (λ i. j))))
      clean_true (Or fs) h q =
          both_ways (more_true Disjunction (of_none (is_same j Disjunction)) fs (none_sound (is_same j Disjunction)) h.1 q)
          (turn_round (nothing_more Disjunction (M (of_none (is_same j Disjunction))) (T (Or fs)) (of_none_true j Disjunction (λ i. j))))
      clean_true (Impl f g) h q = absurd h
      clean_true (Repl f g) h q = absurd h
      clean_true (Equiv f g) h q = absurd h
      clean_true (Ex x f) h q = absurd q
      clean_true (All x f) h q = absurd q

      more_true : (k : Junction) (ls : List (List A)) (fs : Formulas A ℕ) → S ls → AreOrderly Q fs → AreQuantifierFree fs → M (more_clean_lines kit j (is_same j k) ls fs) ↔ Joined k (M ls) (T (joined k fs))
      more_true k ls none s h q = both_ways (alone k (M ls)) (along_right k (M ls) (turn_round (none_true k)))
      more_true k ls (also f fs) s h q =
          both_ways (more_true k (joined_lines kit j (is_same j k) ls (clean_lines kit j f)) fs (joined_sound kit j Q w light (λ a. says a p) truly (is_same j k) ls (clean_lines kit j f) s (clean_sound f h.0)) h.1 q.1)
          (both_ways
          (along_left k (T (joined k fs))
          (both_ways (joined_true kit j Q w light (λ a. says a p) truly (is_same j k) ls (clean_lines kit j f) s (clean_sound f h.0))
          (both_ways (together_is j k (M ls) (M (clean_lines kit j f)) (λ i. j)) (along_right k (M ls) (clean_true f h.0 q.0)))))
          (both_ways (group k (M ls) (T f) (T (joined k fs))) (along_right k (M ls) (turn_round (also_true k f fs)))))

    pub clean_form_true : (f : Formula A ℕ) → IsOrderly Q f → IsQuantifierFree f → T (clean_form kit j f) ↔ T f
    clean_form_true f h q = both_ways (form_true (clean_lines kit j f)) (clean_true f h q)
