-- The chain of one quantifier with which a formula in negation normal form begins is a block over the formula behind it.
use Rattle.std.proofs.Common.{◌≡◌, ℕ, ◌<◌, nat_eq, Bool, true, false, List, [], ◌∷◌, length, refl, ap, sym, subst, ◌∙◌, arith, if◌then◌else◌}
use Rattle.logic_meaning.specs.Context.{Context}
use Rattle.formula_laws.specs.StandsOnce.{StandsOnce}
use Rattle.logic_meaning.specs.Every.{Every}
use Rattle.logic_meaning.specs.Formula.{Yes, No, One, Not, And, Or, Impl, Repl, Equiv, Ex, All}
use Rattle.logic_meaning.specs.declared.quantifier.Quantifier.{Quantifier}
use Rattle.logic_meaning.specs.declared.quantifier.Quantifier.TheVariants.{Exists, ForAll}
use Rattle.logic_meaning.specs.Shape.{is_in, block_of, matrix_of, quantified}
use Rattle.logic_meaning.specs.Plain.{IsNegationNormal, leading}
use Rattle.logic_meaning.specs.Tree.{Tree}
use Rattle.formula_laws.proofs.NormalShape.{normal_form_shape}
use Rattle.logic_meaning.specs.NormalForm.{IsNormal, negated_normal}
use Rattle.logic_meaning.specs.Cases.{case_sign, case_formula, case_matrix}
use Rattle.logic_meaning.specs.Reference.{normal_tree, turned}
use Rattle.elimination_theory.proofs.PutMatrix.{normal_stays, every_matrix}
use Rattle.logic_meaning.specs.declared.form.VarId.{VarId}
use Rattle.formula_tree.specs.declared.shape.Shape.{Shape}
use Rattle.formula_store.specs.declared.id.FormulaId.{FormulaId}
use Rattle.formula_store.specs.Nodes.{tree, IsId}
use Rattle.case_theory.specs.Block.{ex_all}
use Rattle.case_theory.proofs.Leading.{leading_split, names_once}
use Rattle.engine_answers.proofs.Leading.{sign, names, turned_matrix}
use Rattle.branch_rounds.specs.Branches.{numbers}
use Rattle.engine_answers.specs.InnerBlocksBlocks.{IsBlockOver}
use Rattle.engine_answers.specs.Without.{IsReady}

-- ---- negation normal form

-- what stands behind a chain is in negation normal form where the formula is
pub matrix_form : (f : Tree) (q : Quantifier) (chain : List ℕ) → IsNegationNormal f → IsNegationNormal (matrix_of nat_eq f q chain)
matrix_form Yes q chain h = tt
matrix_form No q chain h = tt
matrix_form (One a) q chain h = tt
matrix_form (Not f) q chain h = absurd h
matrix_form (And fs) q chain h = h
matrix_form (Or fs) q chain h = h
matrix_form (Impl f g) q chain h = absurd h
matrix_form (Repl f g) q chain h = absurd h
matrix_form (Equiv f g) q chain h = absurd h
matrix_form (Ex x f) ForAll chain h = h
matrix_form (All x f) Exists chain h = h
matrix_form (Ex x f) Exists chain h = go (is_in nat_eq x chain) (matrix_form f Exists (x ∷ chain) h)
  where
    go : (b : Bool) → IsNegationNormal (matrix_of nat_eq f Exists (x ∷ chain)) → IsNegationNormal (if b then Ex x f else matrix_of nat_eq f Exists (x ∷ chain))
    go true i = h
    go false i = i
matrix_form (All x f) ForAll chain h = go (is_in nat_eq x chain) (matrix_form f ForAll (x ∷ chain) h)
  where
    go : (b : Bool) → IsNegationNormal (matrix_of nat_eq f ForAll (x ∷ chain)) → IsNegationNormal (if b then All x f else matrix_of nat_eq f ForAll (x ∷ chain))
    go true i = h
    go false i = i

turned_form : (b : Bool) (f : Tree) → IsNegationNormal f → IsNegationNormal (turned b f)
turned_form true f h = h
turned_form false f h = (normal_form_shape negated_normal f).1

-- so is the matrix whose cases are asked
pub case_matrix_form : (f : Tree) → IsNegationNormal (case_matrix f)
case_matrix_form f = matrix_form (case_formula f) Exists [] (turned_form (case_sign (normal_tree f)) (normal_tree f) (normal_form_shape negated_normal f).0)

-- ---- a formula that begins with a quantifier

-- what stands behind a chain is over normal atoms in negation normal form where the formula is
pub behind_ready : (c : Context) (nodes : List (Shape FormulaId)) (id inner : FormulaId) (q : Quantifier) → IsReady c nodes id → IsId nodes inner → tree nodes inner ≡ matrix_of nat_eq (tree nodes id) q [] → IsReady c nodes inner
behind_ready c nodes id inner q r i m = record {
  is = i;
  normal = subst (Every (IsNormal c)) (sym m) (every_matrix (IsNormal c) (tree nodes id) q [] r.normal);
  form = subst IsNegationNormal (sym m) (matrix_form (tree nodes id) q [] r.form);
}

begins_so : (q : Quantifier) (x : ℕ) (g : Tree) → q ≡ leading (quantified q x g)
begins_so Exists x g = refl
begins_so ForAll x g = refl

first_name : (q : Quantifier) (x : ℕ) (g : Tree) → block_of nat_eq (quantified q x g) q [] ≡ x ∷ block_of nat_eq g q (x ∷ [])
first_name Exists x g = refl
first_name ForAll x g = refl

length_numbers : (ns : List VarId) → length (numbers ns) ≡ length ns
length_numbers [] = refl
length_numbers (n ∷ ns) = let i = length_numbers ns in omega (arith, i)

module _ (c : Context) (q : Quantifier) (f m : Tree) (x : ℕ) (g : Tree) (begins : f ≡ quantified q x g) (form : IsNegationNormal f) (ns : List VarId) (block : numbers ns ≡ block_of nat_eq f q []) where
  stays : f ≡ normal_tree f
  stays = sym (normal_stays f form)

  lead : q ≡ leading f
  lead = begins_so q x g ∙ ap leading (sym begins)

  -- each of its names stands once, and there is one
  pub chain_once : StandsOnce (numbers ns)
  chain_once = subst StandsOnce (sym (names f f stays q lead (numbers ns) block)) (names_once f)

  pub chain_some : 0 < length ns
  chain_some = let one = ap length (block ∙ ap (λ t. block_of nat_eq t q []) begins ∙ first_name q x g) in let same = length_numbers ns in omega (arith, one, same)

  module _ (normal : Every (IsNormal c) f) (matrix : m ≡ matrix_of nat_eq f q []) where
    -- the formula is the block over what stands behind it
    pub chain_over : IsBlockOver c q (numbers ns) f m
    chain_over = record {
      whole = (λ i. ex_all (names f f stays q lead (numbers ns) block i) (turned_matrix f f stays q lead m matrix i)) ∙ (leading_split f).whole
          ∙ sym (λ i. turned (sign f f stays q lead i) (stays i));
      normal = normal;
      inner_normal = subst (Every (IsNormal c)) (sym matrix) (every_matrix (IsNormal c) f q [] normal);
    }
