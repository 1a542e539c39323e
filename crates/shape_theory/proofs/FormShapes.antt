-- The shape and the names of a formula that stands for lists of atoms.
use Rattle.std.proofs.Common.{ℕ, inl, inr, ⊎_elim, Some, List, [], ◌∷◌}
use Rattle.logic_meaning.specs.Formula.{Formula, Formulas, Yes, No, One, Not, And, Or, Impl, Repl, Equiv, Ex, All, none, also}
use Rattle.logic_meaning.specs.Every.{Every, EveryOf, Free, FreeInSome}
use Rattle.logic_meaning.specs.Some.{EachOf}
use Rattle.logic_meaning.specs.Shape.{IsQuantifierFree, AreQuantifierFree}
use Rattle.logic_meaning.specs.Fold.{from_pieces}
use Rattle.logic_meaning.specs.declared.junction.Junction.{Junction}
use Rattle.logic_meaning.specs.declared.junction.Junction.TheVariants.{Conjunction, Disjunction}
use Rattle.shape_theory.specs.Orderly.{IsOrderly, AreOrderly}
use Rattle.logic_meaning.specs.AtomsFirst.{ones}
use Rattle.logic_meaning.specs.Ways.{dual, line_forms, form_of_lines}

module _ {A : Type 0} (Q : A → Type 0) where
  pieces_orderly : (j : Junction) (fs : Formulas A ℕ) → AreOrderly Q fs → IsOrderly Q (from_pieces j (Some fs))
  pieces_orderly Conjunction none h = tt
  pieces_orderly Disjunction none h = tt
  pieces_orderly j (also f none) h = h.0
  pieces_orderly Conjunction (also f (also g gs)) h = (tt, h)
  pieces_orderly Disjunction (also f (also g gs)) h = (tt, h)

  ones_orderly : (us : List A) → EachOf Q us → AreOrderly Q (ones us none)
  ones_orderly [] h = tt
  ones_orderly (a ∷ us) h = (h.0, ones_orderly us h.1)

  lines_orderly : (j : Junction) (ls : List (List A)) → EachOf (EachOf Q) ls → AreOrderly Q (line_forms j ls)
  lines_orderly j [] h = tt
  lines_orderly j (us ∷ ls) h = (pieces_orderly j (ones us none) (ones_orderly us h.0), lines_orderly j ls h.1)

  pub form_orderly : (j : Junction) (ls : List (List A)) → EachOf (EachOf Q) ls → IsOrderly Q (form_of_lines j ls)
  form_orderly j ls h = pieces_orderly (dual j) (line_forms j ls) (lines_orderly j ls h)

module _ {A : Type 0} where
  pieces_free : (j : Junction) (fs : Formulas A ℕ) → AreQuantifierFree fs → IsQuantifierFree (from_pieces j (Some fs))
  pieces_free Conjunction none h = tt
  pieces_free Disjunction none h = tt
  pieces_free j (also f none) h = h.0
  pieces_free Conjunction (also f (also g gs)) h = h
  pieces_free Disjunction (also f (also g gs)) h = h

  ones_free : (us : List A) → AreQuantifierFree {A = A} {N = ℕ} (ones us none)
  ones_free [] = tt
  ones_free (a ∷ us) = (tt, ones_free us)

  lines_free : (j : Junction) (ls : List (List A)) → AreQuantifierFree (line_forms j ls)
  lines_free j [] = tt
  lines_free j (us ∷ ls) = (pieces_free j (ones us none) (ones_free us), lines_free j ls)

  pub form_free : (j : Junction) (ls : List (List A)) → IsQuantifierFree (form_of_lines j ls)
  form_free j ls = pieces_free (dual j) (line_forms j ls) (lines_free j ls)

-- ---- names

module _ {A : Type 0} (Mentions : A → ℕ → Type 0) (C : ℕ → Type 0) where
  -- all names of the atom are in C
  abbrev pub HasNames : A → Type 0
  HasNames a = (x : ℕ) → Mentions a x → C x

  mutual
    -- so it is where the formula has all atoms with names in C
    pub names_in : (f : Formula A ℕ) → IsOrderly HasNames f → IsQuantifierFree f → (x : ℕ) → Free Mentions f x → C x
    names_in Yes h q x t = absurd t
    names_in No h q x t = absurd t
    names_in (One a) h q x t = h x t
    names_in (Not f) h q x t = absurd h
    names_in (And fs) h q x t = all_names_in fs h.1 q x t
    names_in (Or fs) h q x t = all_names_in fs h.1 q x t
    names_in (Impl f g) h q x t = absurd h
    names_in (Repl f g) h q x t = absurd h
    names_in (Equiv f g) h q x t = absurd h
    names_in (Ex y f) h q x t = absurd q
    names_in (All y f) h q x t = absurd q

    all_names_in : (fs : Formulas A ℕ) → AreOrderly HasNames fs → AreQuantifierFree fs → (x : ℕ) → FreeInSome Mentions fs x → C x
    all_names_in none h q x t = absurd t
    all_names_in (also f fs) h q x t = ⊎_elim (names_in f h.0 q.0 x) (all_names_in fs h.1 q.1 x) t

  mutual
    pub in_names : (f : Formula A ℕ) → IsQuantifierFree f → ((x : ℕ) → Free Mentions f x → C x) → Every HasNames f
    in_names Yes q i = tt
    in_names No q i = tt
    in_names (One a) q i = i
    in_names (Not f) q i = in_names f q i
    in_names (And fs) q i = all_in_names fs q i
    in_names (Or fs) q i = all_in_names fs q i
    in_names (Impl f g) q i = (in_names f q.0 (λ x t. i x (inl t)), in_names g q.1 (λ x t. i x (inr t)))
    in_names (Repl f g) q i = (in_names f q.0 (λ x t. i x (inl t)), in_names g q.1 (λ x t. i x (inr t)))
    in_names (Equiv f g) q i = (in_names f q.0 (λ x t. i x (inl t)), in_names g q.1 (λ x t. i x (inr t)))
    in_names (Ex y f) q i = absurd q
    in_names (All y f) q i = absurd q

    all_in_names : (fs : Formulas A ℕ) → AreQuantifierFree fs → ((x : ℕ) → FreeInSome Mentions fs x → C x) → EveryOf HasNames fs
    all_in_names none q i = tt
    all_in_names (also f fs) q i = (in_names f q.0 (λ x t. i x (inl t)), all_in_names fs q.1 (λ x t. i x (inr t)))
