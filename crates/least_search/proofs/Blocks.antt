-- What is asked of a formula behind quantifiers by ex: the formula itself. Its leading block has all the names, where none stands twice.
use Rattle.std.proofs.Common.{◌≡◌, inl, inr, ℕ, List, [], ◌∷◌, Bool, true, false, if◌then◌else◌, sym, ap, ◌∙◌, refl, nat_eq, eqb-true}
use Rattle.logic_meaning.specs.declared.quantifier.Quantifier.TheVariants.{Exists}
use Rattle.formula_laws.specs.StandsOnce.{StandsOnce}
use Rattle.logic_meaning.specs.Formula.{Yes, No, One, Not, And, Or, Impl, Repl, Equiv, Ex, All, none, also}
use Rattle.logic_meaning.specs.Shape.{block_of, matrix_of, is_in}
use Rattle.logic_meaning.specs.Plain.{IsPlain, ArePlain, IsNegationNormal, AreNegationNormal}
use Rattle.logic_meaning.specs.Some.{SomeOf, EachOf}
use Rattle.logic_meaning.specs.Tree.{Tree, Trees}
use Rattle.formula_laws.proofs.NormalAgain.{normal_form_itself}
use Rattle.logic_meaning.specs.NormalForm.{negated_normal}
use Rattle.logic_meaning.specs.Cases.{case_sign, case_formula, case_matrix, case_names}
use Rattle.logic_meaning.specs.Reference.{normal_tree, turned}
use Rattle.linear_theory.specs.WeakTargets.{exs}

-- ---- what is asked

plain_sign : (f : Tree) → IsPlain f → case_sign (normal_tree f) ≡ true
plain_sign Yes h = refl
plain_sign No h = refl
plain_sign (One a) h = refl
plain_sign (Not f) h = absurd h
plain_sign (And fs) h = refl
plain_sign (Or fs) h = refl
plain_sign (Impl f g) h = absurd h
plain_sign (Repl f g) h = absurd h
plain_sign (Equiv f g) h = absurd h
plain_sign (Ex x f) h = absurd h
plain_sign (All x f) h = absurd h

pub exs_sign : (xs : List ℕ) (f : Tree) → IsPlain f → case_sign (normal_tree (exs xs f)) ≡ true
exs_sign [] f h = plain_sign f h
exs_sign (x ∷ xs) f h = refl

mutual
  plain_negation_normal : (f : Tree) → IsPlain f → IsNegationNormal f
  plain_negation_normal Yes h = tt
  plain_negation_normal No h = tt
  plain_negation_normal (One a) h = tt
  plain_negation_normal (Not f) h = absurd h
  plain_negation_normal (And fs) h = are_negation_normal fs h
  plain_negation_normal (Or fs) h = are_negation_normal fs h
  plain_negation_normal (Impl f g) h = absurd h
  plain_negation_normal (Repl f g) h = absurd h
  plain_negation_normal (Equiv f g) h = absurd h
  plain_negation_normal (Ex x f) h = absurd h
  plain_negation_normal (All x f) h = absurd h

  are_negation_normal : (fs : Trees) → ArePlain fs → AreNegationNormal fs
  are_negation_normal none h = tt
  are_negation_normal (also f fs) h = (plain_negation_normal f h.0, are_negation_normal fs h.1)

exs_negation_normal : (ns : List ℕ) (f : Tree) → IsPlain f → IsNegationNormal (exs ns f)
exs_negation_normal [] f h = plain_negation_normal f h
exs_negation_normal (x ∷ ns) f h = exs_negation_normal ns f h

pub asked_itself : (ns : List ℕ) (f : Tree) → IsPlain f → case_formula (exs ns f) ≡ exs ns f
asked_itself ns f h = ap (λ b. turned b (normal_tree (exs ns f))) (exs_sign ns f h) ∙ normal_form_itself negated_normal (exs ns f) (exs_negation_normal ns f h)

-- ---- the chain of its names

-- none of the names stands in the chain
abbrev Apart : List ℕ → List ℕ → Type 0
Apart chain ns = EachOf (λ y. is_in nat_eq y chain ≡ false) ns

apart_next : (x : ℕ) (ns chain : List ℕ) → ¬ (SomeOf (λ y. x ≡ y) ns) → Apart chain ns → Apart (x ∷ chain) ns
apart_next x [] chain n h = tt
apart_next x (y ∷ ns) chain n h = (go (nat_eq y x) refl, apart_next x ns chain (λ i. n (inr i)) h.1)
  where
    go : (b : Bool) → nat_eq y x ≡ b → (if b then true else is_in nat_eq y chain) ≡ false
    go true e = absurd (n (inl (sym (eqb-true y x e))))
    go false e = h.0

apart_from_none : (ns : List ℕ) → Apart [] ns
apart_from_none [] = tt
apart_from_none (x ∷ ns) = (refl, apart_from_none ns)

plain_block : (f : Tree) (chain : List ℕ) → IsPlain f → block_of nat_eq f Exists chain ≡ []
plain_block Yes chain h = refl
plain_block No chain h = refl
plain_block (One a) chain h = refl
plain_block (Not f) chain h = absurd h
plain_block (And fs) chain h = refl
plain_block (Or fs) chain h = refl
plain_block (Impl f g) chain h = absurd h
plain_block (Repl f g) chain h = absurd h
plain_block (Equiv f g) chain h = absurd h
plain_block (Ex x f) chain h = absurd h
plain_block (All x f) chain h = absurd h

plain_matrix : (f : Tree) (chain : List ℕ) → IsPlain f → matrix_of nat_eq f Exists chain ≡ f
plain_matrix Yes chain h = refl
plain_matrix No chain h = refl
plain_matrix (One a) chain h = refl
plain_matrix (Not f) chain h = absurd h
plain_matrix (And fs) chain h = refl
plain_matrix (Or fs) chain h = refl
plain_matrix (Impl f g) chain h = absurd h
plain_matrix (Repl f g) chain h = absurd h
plain_matrix (Equiv f g) chain h = absurd h
plain_matrix (Ex x f) chain h = absurd h
plain_matrix (All x f) chain h = absurd h

exs_block : (ns : List ℕ) (f : Tree) (chain : List ℕ) → IsPlain f → StandsOnce ns → Apart chain ns → block_of nat_eq (exs ns f) Exists chain ≡ ns
exs_block [] f chain h once a = plain_block f chain h
exs_block (x ∷ ns) f chain h once a =
    ap (λ b. if b then [] else x ∷ block_of nat_eq (exs ns f) Exists (x ∷ chain)) a.0 ∙ ap (λ ys. x ∷ ys) (exs_block ns f (x ∷ chain) h once.1 (apart_next x ns chain once.0 a.1))

exs_matrix : (ns : List ℕ) (f : Tree) (chain : List ℕ) → IsPlain f → StandsOnce ns → Apart chain ns → matrix_of nat_eq (exs ns f) Exists chain ≡ f
exs_matrix [] f chain h once a = plain_matrix f chain h
exs_matrix (x ∷ ns) f chain h once a =
    ap (λ b. if b then Ex x (exs ns f) else matrix_of nat_eq (exs ns f) Exists (x ∷ chain)) a.0 ∙ exs_matrix ns f (x ∷ chain) h once.1 (apart_next x ns chain once.0 a.1)

-- ---- the block and what stands behind it

pub whole_block : (ns : List ℕ) (f : Tree) → IsPlain f → StandsOnce ns → case_names (exs ns f) ≡ ns
whole_block ns f h once = ap (λ g. block_of nat_eq g Exists []) (asked_itself ns f h) ∙ exs_block ns f [] h once (apart_from_none ns)

pub whole_matrix : (ns : List ℕ) (f : Tree) → IsPlain f → StandsOnce ns → case_matrix (exs ns f) ≡ f
whole_matrix ns f h once = ap (λ g. matrix_of nat_eq g Exists []) (asked_itself ns f h) ∙ exs_matrix ns f [] h once (apart_from_none ns)
