-- The chain with which the negation normal form begins is the leading block of the formula.
use Rattle.std.proofs.Common.{◌≡◌, ℕ, nat_eq, List, [], refl, ap, sym, ◌∙◌}
use Rattle.logic_meaning.specs.Formula.{Yes, No, One, Not, And, Or, Impl, Repl, Equiv, Ex, All}
use Rattle.logic_meaning.specs.declared.quantifier.Quantifier.{Quantifier}
use Rattle.logic_meaning.specs.Shape.{block_of, matrix_of}
use Rattle.logic_meaning.specs.Plain.{leading}
use Rattle.logic_meaning.specs.Tree.{Tree}
use Rattle.logic_meaning.specs.Reference.{normal_tree, turned}
use Rattle.logic_meaning.specs.Cases.{case_sign, case_matrix, case_names}
use Rattle.case_theory.proofs.Leading.{leading_split}
use Rattle.engine_answers.specs.Blocks.{is_asked}

sign_of : (g : Tree) → is_asked (leading g) ≡ case_sign g
sign_of Yes = refl
sign_of No = refl
sign_of (One a) = refl
sign_of (Not g) = refl
sign_of (And gs) = refl
sign_of (Or gs) = refl
sign_of (Impl g h) = refl
sign_of (Repl g h) = refl
sign_of (Equiv g h) = refl
sign_of (Ex x g) = refl
sign_of (All x g) = refl

module _ (f g : Tree) (e : g ≡ normal_tree f) (q : Quantifier) (l : q ≡ leading g) where
  begins : q ≡ leading (normal_tree f)
  begins = l ∙ ap leading e

  pub sign : is_asked q ≡ case_sign (normal_tree f)
  sign = ap is_asked begins ∙ sign_of (normal_tree f)

  pub names : (ns : List ℕ) → ns ≡ block_of nat_eq g q [] → ns ≡ case_names f
  names ns h = h ∙ ap (λ t. block_of nat_eq t q []) e ∙ ap (λ k. block_of nat_eq (normal_tree f) k []) begins ∙ sym (leading_split f).names

  -- the matrix behind it, or its negation, is the case matrix
  pub turned_matrix : (m : Tree) → m ≡ matrix_of nat_eq g q [] → turned (is_asked q) m ≡ case_matrix f
  turned_matrix m h =
      ap (turned (is_asked q)) (h ∙ ap (λ t. matrix_of nat_eq t q []) e ∙ ap (λ k. matrix_of nat_eq (normal_tree f) k []) begins)
      ∙ ap (λ b. turned b (matrix_of nat_eq (normal_tree f) (leading (normal_tree f)) [])) sign ∙ sym (leading_split f).matrix
