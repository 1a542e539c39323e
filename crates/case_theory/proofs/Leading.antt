-- The leading block: the formula is the block over the matrix, and each of its names stands once.
use Rattle.std.proofs.Common.{◌≡◌, ℕ, Bool, true, false, List, [], ◌∷◌, refl, ap, sym, ◌∙◌, subst, inl, inr, nat_eq, eq-eqb, if◌then◌else◌}
use Rattle.logic_meaning.specs.Context.{Context, Fields}
use Rattle.logic_meaning.specs.Formula.{Yes, No, One, Not, And, Or, Impl, Repl, Equiv, Ex, All}
use Rattle.logic_meaning.specs.Some.{Among}
use Rattle.formula_laws.specs.StandsOnce.{StandsOnce}
use Rattle.logic_meaning.specs.Shape.{is_in, block_of, matrix_of}
use Rattle.logic_meaning.specs.declared.quantifier.Quantifier.TheVariants.{Exists}
use Rattle.logic_meaning.specs.Tree.{Tree, IsFree}
use Rattle.logic_meaning.specs.Reference.{normal_tree, turned}
use Rattle.logic_meaning.specs.Cases.{case_sign, case_formula, case_matrix, case_names}
use Rattle.elimination_theory.proofs.CasesExact.{free}
use Rattle.elimination_theory.proofs.Branches.{true_is_not_false}
use Rattle.elimination_theory.proofs.PutMatrix.{block_turned, matrix_turned}
use Rattle.logic_meaning.specs.Plain.{IsNegationNormal, leading}
use Rattle.formula_laws.proofs.NormalShape.{normal_form_shape}
use Rattle.logic_meaning.specs.NormalForm.{negated_normal}
use Rattle.case_theory.specs.Leading.{LeadingBlockIsSplit}
use Rattle.case_theory.specs.Block.{ex_all}
use Rattle.case_theory.proofs.Lists.{once_more}

-- the block over what stands behind it is the formula
pub block_is : (f : Tree) (chain : List ℕ) → ex_all (block_of nat_eq f Exists chain) (matrix_of nat_eq f Exists chain) ≡ f
block_is Yes chain = refl
block_is No chain = refl
block_is (One a) chain = refl
block_is (Not f) chain = refl
block_is (And fs) chain = refl
block_is (Or fs) chain = refl
block_is (Impl f g) chain = refl
block_is (Repl f g) chain = refl
block_is (Equiv f g) chain = refl
block_is (All x f) chain = refl
block_is (Ex x f) chain = go (is_in nat_eq x chain) (block_is f (x ∷ chain))
  where
    go : (b : Bool) → ex_all (block_of nat_eq f Exists (x ∷ chain)) (matrix_of nat_eq f Exists (x ∷ chain)) ≡ f →
        ex_all (if b then [] else x ∷ block_of nat_eq f Exists (x ∷ chain)) (if b then Ex x f else matrix_of nat_eq f Exists (x ∷ chain)) ≡ Ex x f
    go true e = refl
    go false e = ap (Ex x) e

in_front : (x : ℕ) (chain : List ℕ) → is_in nat_eq x (x ∷ chain) ≡ true
in_front x chain = ap (λ (b : Bool). if b then true else is_in nat_eq x chain) (eq-eqb x x refl)

in_later : (x y : ℕ) (chain : List ℕ) → is_in nat_eq y (x ∷ chain) ≡ false → is_in nat_eq y chain ≡ false
in_later x y chain = go (nat_eq y x)
  where
    go : (b : Bool) → (if b then true else is_in nat_eq y chain) ≡ false → is_in nat_eq y chain ≡ false
    go true e = absurd (true_is_not_false e)
    go false e = e

-- no name of the block stands in the chain before it
outside : (f : Tree) (chain : List ℕ) (y : ℕ) → Among (block_of nat_eq f Exists chain) y → is_in nat_eq y chain ≡ false
outside Yes chain y m = absurd m
outside No chain y m = absurd m
outside (One a) chain y m = absurd m
outside (Not f) chain y m = absurd m
outside (And fs) chain y m = absurd m
outside (Or fs) chain y m = absurd m
outside (Impl f g) chain y m = absurd m
outside (Repl f g) chain y m = absurd m
outside (Equiv f g) chain y m = absurd m
outside (All x f) chain y m = absurd m
outside (Ex x f) chain y m = go (is_in nat_eq x chain) refl m (outside f (x ∷ chain) y)
  where
    go : (b : Bool) → is_in nat_eq x chain ≡ b → Among (if b then [] else x ∷ block_of nat_eq f Exists (x ∷ chain)) y → (Among (block_of nat_eq f Exists (x ∷ chain)) y → is_in nat_eq y (x ∷ chain) ≡ false) → is_in nat_eq y chain ≡ false
    go true e m i = absurd m
    go false e (inl h) i = subst (λ (z : ℕ). is_in nat_eq z chain ≡ false) h e
    go false e (inr n) i = in_later x y chain (i n)

block_once : (f : Tree) (chain : List ℕ) → StandsOnce (block_of nat_eq f Exists chain)
block_once Yes chain = tt
block_once No chain = tt
block_once (One a) chain = tt
block_once (Not f) chain = tt
block_once (And fs) chain = tt
block_once (Or fs) chain = tt
block_once (Impl f g) chain = tt
block_once (Repl f g) chain = tt
block_once (Equiv f g) chain = tt
block_once (All x f) chain = tt
block_once (Ex x f) chain = go (is_in nat_eq x chain) (block_once f (x ∷ chain))
  where
    go : (b : Bool) → StandsOnce (block_of nat_eq f Exists (x ∷ chain)) → StandsOnce (if b then [] else x ∷ block_of nat_eq f Exists (x ∷ chain))
    go true o = tt
    go false o = once_more x (block_of nat_eq f Exists (x ∷ chain)) (λ m. true_is_not_false (sym (in_front x chain) ∙ outside f (x ∷ chain) x m)) o

pub names_once : (f : Tree) → StandsOnce (case_names f)
names_once f = block_once (case_formula f) []

-- ---- free names

pub free_in_all : (xs : List ℕ) (f : Tree) (y : ℕ) → IsFree f y → ¬ (Among xs y) → IsFree (ex_all xs f) y
free_in_all [] f y t n = t
free_in_all (x ∷ xs) f y t n = (λ e. n (inl e), free_in_all xs f y t (λ m. n (inr m)))

-- what is free in the matrix, and no name of the block, is free in the formula
pub matrix_names : (c : Context) (f : Tree) (y : ℕ) → IsFree (case_matrix f) y → ¬ (Among (case_names f) y) → IsFree f y
matrix_names c f y t n = free c f (case_sign (normal_tree f)) y (subst (λ (g : Tree). IsFree g y) (block_is (case_formula f) []) (free_in_all (case_names f) (case_matrix f) y t n))

-- ---- a formula that begins with all

split_block : (g : Tree) → IsNegationNormal g → block_of nat_eq (turned (case_sign g) g) Exists [] ≡ block_of nat_eq g (leading g) []
split_block Yes h = refl
split_block No h = refl
split_block (One a) h = refl
split_block (Not f) h = refl
split_block (And fs) h = refl
split_block (Or fs) h = refl
split_block (Impl f g) h = refl
split_block (Repl f g) h = refl
split_block (Equiv f g) h = refl
split_block (Ex x f) h = refl
split_block (All x f) h = block_turned (All x f) [] h

split_matrix : (g : Tree) → IsNegationNormal g → matrix_of nat_eq (turned (case_sign g) g) Exists [] ≡ turned (case_sign g) (matrix_of nat_eq g (leading g) [])
split_matrix Yes h = refl
split_matrix No h = refl
split_matrix (One a) h = refl
split_matrix (Not f) h = refl
split_matrix (And fs) h = refl
split_matrix (Or fs) h = refl
split_matrix (Impl f g) h = refl
split_matrix (Repl f g) h = refl
split_matrix (Equiv f g) h = refl
split_matrix (Ex x f) h = refl
split_matrix (All x f) h = matrix_turned (All x f) [] h

pub leading_split : (f : Tree) → LeadingBlockIsSplit f
leading_split f = record {
  names = split_block (normal_tree f) (normal_form_shape negated_normal f).0;
  matrix = split_matrix (normal_tree f) (normal_form_shape negated_normal f).0;
  once = names_once f;
  whole = block_is (case_formula f) [];
  free = λ y t n. matrix_names Fields f y t n;
}
