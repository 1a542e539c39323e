-- Names in the holes of a formula, which are no variables of it.
use Rattle.std.proofs.Common.{◌≡◌, ℕ, zero, suc, ◌+◌, ◌<◌, List, [], ◌∷◌, ◌++◌, map, refl, sym, ap, ap₂, ◌∙◌, subst, arith}
use Rattle.logic_meaning.specs.Formula.{Formula, One}
use Rattle.logic_meaning.specs.Formula as plain
use Rattle.logic_meaning.specs.Replaced.{replaced, all_replaced}
use Rattle.logic_meaning.specs.Sizes.{nodes, all_nodes}
use Rattle.written_syntax.specs.declared.tree.Formula as written
use Rattle.written_syntax.specs.declared.tree.Formula.TheVariants as formula
use Rattle.written_syntax.specs.declared.tree.Formula.TheOpen as layer
use Rattle.written_syntax.specs.declared.tree.Formulas as writtens
use Rattle.written_syntax.specs.declared.tree.InnerCommand as commands
use Rattle.language_meaning.specs.Trees.{TermTree, TermTrees, Number, Named, Sum, Product, Quotient, Power, Negative, none, also, WrittenAtom, Compare, Cong, Ncong, Bound, FormulaTree, FormulaTrees, formulas_of}
use Rattle.language_meaning.specs.Holes.{Holed, hole, command_count, all_of}
use Rattle.written_syntax.specs.CodeTrees.{whole_formula, formula_tree, formula_trees, named_tree, named_trees, inner_of}
use Rattle.written_syntax.specs.Proper.{IsTermOver, AreTermsOver, IsFormulaOver, AreFormulasOver, AreFormulas, IsAnyName, IsProperTerm, AreProperTerms, IsProperFormula, AreProperFormulas}
use Rattle.written_syntax.specs.Valued.{prefix_of, IsUnquantified}
use Rattle.language_meaning.specs.Resolving.{formula_variables, all_variables}
use Rattle.written_syntax.proofs.TreeEquations.{formula-True, formula-False, formula-Compare, formula-Cong, formula-Ncong, formula-Not, formula-And, formula-Or, formula-Impl, formula-Repl, formula-Equiv, formula-Ex, formula-All, formula-Named, formula-Computed, formulas-out, named-True, named-False, named-Compare, named-Cong, named-Ncong, named-Not, named-And, named-Or, named-Impl, named-Repl, named-Equiv, named-Ex, named-All, named-Named, named-Computed, wholes-out}

-- a hole where a name stands as a formula
abbrev holed_atom : WrittenAtom → FormulaTree
holed_atom (Compare rel s t) = One (Compare rel s t)
holed_atom (Cong s t m) = One (Cong s t m)
holed_atom (Ncong s t m) = One (Ncong s t m)
holed_atom (Bound x) = hole

abbrev emptied : FormulaTree → FormulaTree
emptied f = replaced holed_atom (λ x. x) f

abbrev all_emptied : FormulaTrees → FormulaTrees
all_emptied fs = all_replaced holed_atom (λ x. x) fs

-- a formula is the same but for the names in its holes
abbrev IsSameBut : written.Formula → Type 0
IsSameBut f = (k : ℕ) → emptied (named_tree k f) ≡ emptied (formula_tree f)

-- the same of formulas with fewer nodes
abbrev AreSameBelow : ℕ → Type 0
AreSameBelow n = (f : written.Formula) → nodes (formula_tree f) < n → IsSameBut f

members_same : (n : ℕ) → AreSameBelow n → (fs : List written.Formula) → all_nodes (formulas_of (map formula_tree fs)) < n → (k : ℕ) → all_emptied ((all_of (map whole_formula fs)).named k) ≡ all_emptied (formulas_of (map formula_tree fs))
unfolding named_tree
members_same n below [] l k = refl
members_same n below (f ∷ fs) l k =
    let fewer : nodes (formula_tree f) < n = omega arith in
    let rest : all_nodes (formulas_of (map formula_tree fs)) < n = omega arith in
    ap₂ (λ g gs. plain.also g gs) (below f fewer k) (members_same n below fs rest (k + command_count (whole_formula f).inner))

all_same : (n : ℕ) → AreSameBelow n → (fs : writtens.Formulas) → all_nodes (formula_trees fs) < n → (k : ℕ) → all_emptied (named_trees k fs) ≡ all_emptied (formula_trees fs)
unfolding named_trees
all_same n below fs l k =
    let items = (writtens.out-Formulas fs).list.items in
    let e = formulas-out fs in
    let fewer : all_nodes (formulas_of (map formula_tree items)) < n = omega (arith, ap all_nodes e) in
    ap (λ (h : Holed FormulaTrees). all_emptied (h.named k)) (wholes-out fs) ∙ members_same n below items fewer k ∙ ap all_emptied (sym e)

-- a formula is what is made of its parts
made : (f g : written.Formula) (k : ℕ) (s t : FormulaTree) → f ≡ g → named_tree k f ≡ s → formula_tree f ≡ t → emptied s ≡ emptied t → emptied (named_tree k g) ≡ emptied (formula_tree g)
made f g k s t e named plain same = subst (λ (h : written.Formula). emptied (named_tree k h) ≡ emptied (formula_tree h)) e (ap emptied named ∙ same ∙ ap emptied (sym plain))

one_more : (n : ℕ) → AreSameBelow n → AreSameBelow (suc n)
one_more n below f l k = at (written.out-Formula f) (written.roll-out-Formula f)
  where
    at : (m : layer.Formula-F written.Formula commands.InnerCommand writtens.Formulas) → written.roll-Formula m ≡ f → emptied (named_tree k f) ≡ emptied (formula_tree f)
    at layer.True e = made formula.True f k _ _ (sym formula.rolls-True ∙ e) (named-True k) formula-True refl
    at layer.False e = made formula.False f k _ _ (sym formula.rolls-False ∙ e) (named-False k) formula-False refl
    at (layer.Compare r s t) e = made (formula.Compare r s t) f k _ _ (sym (formula.rolls-Compare r s t) ∙ e) (named-Compare k r s t) (formula-Compare r s t) refl
    at (layer.Cong s t m) e = made (formula.Cong s t m) f k _ _ (sym (formula.rolls-Cong s t m) ∙ e) (named-Cong k s t m) (formula-Cong s t m) refl
    at (layer.Ncong s t m) e = made (formula.Ncong s t m) f k _ _ (sym (formula.rolls-Ncong s t m) ∙ e) (named-Ncong k s t m) (formula-Ncong s t m) refl
    at (layer.Not g) e =
        let is : formula.Not g ≡ f = sym (formula.rolls-Not g) ∙ e in
        let fewer : nodes (formula_tree g.value) < n = omega (arith, l, ap (λ h. nodes (formula_tree h)) is, ap nodes (formula-Not g)) in
        made (formula.Not g) f k _ _ is (named-Not k g) (formula-Not g) (ap plain.Not (below g.value fewer k))
    at (layer.And gs) e =
        let is : formula.And gs ≡ f = sym (formula.rolls-And gs) ∙ e in
        let fewer : all_nodes (formula_trees gs) < n = omega (arith, l, ap (λ h. nodes (formula_tree h)) is, ap nodes (formula-And gs)) in
        made (formula.And gs) f k _ _ is (named-And k gs) (formula-And gs) (ap plain.And (all_same n below gs fewer k))
    at (layer.Or gs) e =
        let is : formula.Or gs ≡ f = sym (formula.rolls-Or gs) ∙ e in
        let fewer : all_nodes (formula_trees gs) < n = omega (arith, l, ap (λ h. nodes (formula_tree h)) is, ap nodes (formula-Or gs)) in
        made (formula.Or gs) f k _ _ is (named-Or k gs) (formula-Or gs) (ap plain.Or (all_same n below gs fewer k))
    at (layer.Impl g h) e =
        let is : formula.Impl g h ≡ f = sym (formula.rolls-Impl g h) ∙ e in
        let fewer : (nodes (formula_tree g.value) + nodes (formula_tree h.value)) < n = omega (arith, l, ap (λ h. nodes (formula_tree h)) is, ap nodes (formula-Impl g h)) in
        made (formula.Impl g h) f k _ _ is (named-Impl k g h) (formula-Impl g h) (ap₂ (λ s t. plain.Impl s t) (below g.value (omega (arith, fewer)) k) (below h.value (omega (arith, fewer)) (k + command_count (inner_of g.value))))
    at (layer.Repl g h) e =
        let is : formula.Repl g h ≡ f = sym (formula.rolls-Repl g h) ∙ e in
        let fewer : (nodes (formula_tree g.value) + nodes (formula_tree h.value)) < n = omega (arith, l, ap (λ h. nodes (formula_tree h)) is, ap nodes (formula-Repl g h)) in
        made (formula.Repl g h) f k _ _ is (named-Repl k g h) (formula-Repl g h) (ap₂ (λ s t. plain.Repl s t) (below g.value (omega (arith, fewer)) k) (below h.value (omega (arith, fewer)) (k + command_count (inner_of g.value))))
    at (layer.Equiv g h) e =
        let is : formula.Equiv g h ≡ f = sym (formula.rolls-Equiv g h) ∙ e in
        let fewer : (nodes (formula_tree g.value) + nodes (formula_tree h.value)) < n = omega (arith, l, ap (λ h. nodes (formula_tree h)) is, ap nodes (formula-Equiv g h)) in
        made (formula.Equiv g h) f k _ _ is (named-Equiv k g h) (formula-Equiv g h) (ap₂ (λ s t. plain.Equiv s t) (below g.value (omega (arith, fewer)) k) (below h.value (omega (arith, fewer)) (k + command_count (inner_of g.value))))
    at (layer.Ex x g) e =
        let is : formula.Ex x g ≡ f = sym (formula.rolls-Ex x g) ∙ e in
        let fewer : nodes (formula_tree g.value) < n = omega (arith, l, ap (λ h. nodes (formula_tree h)) is, ap nodes (formula-Ex x g)) in
        made (formula.Ex x g) f k _ _ is (named-Ex k x g) (formula-Ex x g) (ap (plain.Ex x) (below g.value fewer k))
    at (layer.All x g) e =
        let is : formula.All x g ≡ f = sym (formula.rolls-All x g) ∙ e in
        let fewer : nodes (formula_tree g.value) < n = omega (arith, l, ap (λ h. nodes (formula_tree h)) is, ap nodes (formula-All x g)) in
        made (formula.All x g) f k _ _ is (named-All k x g) (formula-All x g) (ap (plain.All x) (below g.value fewer k))
    at (layer.Named x) e = made (formula.Named x) f k _ _ (sym (formula.rolls-Named x) ∙ e) (named-Named k x) (formula-Named x) refl
    at (layer.Computed c) e = made (formula.Computed c) f k _ _ (sym (formula.rolls-Computed c) ∙ e) (named-Computed k c) (formula-Computed c) refl

below_all : (n : ℕ) → AreSameBelow n
below_all zero f l k = absurd (omega (arith, l))
below_all (suc n) f l k = one_more n (below_all n) f l k

-- names in the holes change nothing else
same_but : (f : written.Formula) (k : ℕ) → emptied (named_tree k f) ≡ emptied (formula_tree f)
same_but f k = below_all (suc (nodes (formula_tree f))) f (omega arith) k

mutual
  variables_emptied : (f : FormulaTree) → formula_variables (emptied f) ≡ formula_variables f
  variables_emptied plain.Yes = refl
  variables_emptied plain.No = refl
  variables_emptied (One (Compare rel s t)) = refl
  variables_emptied (One (Cong s t m)) = refl
  variables_emptied (One (Ncong s t m)) = refl
  variables_emptied (One (Bound x)) = refl
  variables_emptied (plain.Not f) = variables_emptied f
  variables_emptied (plain.And fs) = all_variables_emptied fs
  variables_emptied (plain.Or fs) = all_variables_emptied fs
  variables_emptied (plain.Impl f g) = ap₂ (λ xs ys. xs ++ ys) (variables_emptied f) (variables_emptied g)
  variables_emptied (plain.Repl f g) = ap₂ (λ xs ys. xs ++ ys) (variables_emptied f) (variables_emptied g)
  variables_emptied (plain.Equiv f g) = ap₂ (λ xs ys. xs ++ ys) (variables_emptied f) (variables_emptied g)
  variables_emptied (plain.Ex x f) = ap (λ xs. x ∷ xs) (variables_emptied f)
  variables_emptied (plain.All x f) = ap (λ xs. x ∷ xs) (variables_emptied f)

  all_variables_emptied : (fs : FormulaTrees) → all_variables (all_emptied fs) ≡ all_variables fs
  all_variables_emptied plain.none = refl
  all_variables_emptied (plain.also f fs) = ap₂ (λ xs ys. xs ++ ys) (variables_emptied f) (all_variables_emptied fs)

-- so the variables are the same
pub variables_named : (f : written.Formula) (k : ℕ) → formula_variables (named_tree k f) ≡ formula_variables (formula_tree f)
variables_named f k = sym (variables_emptied (named_tree k f)) ∙ ap formula_variables (same_but f k) ∙ variables_emptied (formula_tree f)

-- ---- the quantifiers with which a formula begins

prefix_emptied : (f : FormulaTree) → prefix_of (emptied f) ≡ prefix_of f
prefix_emptied plain.Yes = refl
prefix_emptied plain.No = refl
prefix_emptied (One (Compare rel s t)) = refl
prefix_emptied (One (Cong s t m)) = refl
prefix_emptied (One (Ncong s t m)) = refl
prefix_emptied (One (Bound x)) = refl
prefix_emptied (plain.Not f) = refl
prefix_emptied (plain.And fs) = refl
prefix_emptied (plain.Or fs) = refl
prefix_emptied (plain.Impl f g) = refl
prefix_emptied (plain.Repl f g) = refl
prefix_emptied (plain.Equiv f g) = refl
prefix_emptied (plain.Ex x f) = ap (λ xs. x ∷ xs) (prefix_emptied f)
prefix_emptied (plain.All x f) = ap (λ xs. x ∷ xs) (prefix_emptied f)

-- names in the holes leave the quantifiers at its head
pub prefix_named : (f : written.Formula) (k : ℕ) → prefix_of (named_tree k f) ≡ prefix_of (formula_tree f)
prefix_named f k = sym (prefix_emptied (named_tree k f)) ∙ ap prefix_of (same_but f k) ∙ prefix_emptied (formula_tree f)

emptied_unquantified : (f : FormulaTree) → IsUnquantified f → IsUnquantified (emptied f)
emptied_unquantified plain.Yes h = tt
emptied_unquantified plain.No h = tt
emptied_unquantified (One (Compare rel s t)) h = tt
emptied_unquantified (One (Cong s t m)) h = tt
emptied_unquantified (One (Ncong s t m)) h = tt
emptied_unquantified (One (Bound x)) h = tt
emptied_unquantified (plain.Not f) h = tt
emptied_unquantified (plain.And fs) h = tt
emptied_unquantified (plain.Or fs) h = tt
emptied_unquantified (plain.Impl f g) h = tt
emptied_unquantified (plain.Repl f g) h = tt
emptied_unquantified (plain.Equiv f g) h = tt
emptied_unquantified (plain.Ex x f) h = h
emptied_unquantified (plain.All x f) h = h

filled_unquantified : (f : FormulaTree) → IsUnquantified (emptied f) → IsUnquantified f
filled_unquantified plain.Yes h = tt
filled_unquantified plain.No h = tt
filled_unquantified (One (Compare rel s t)) h = tt
filled_unquantified (One (Cong s t m)) h = tt
filled_unquantified (One (Ncong s t m)) h = tt
filled_unquantified (One (Bound x)) h = tt
filled_unquantified (plain.Not f) h = tt
filled_unquantified (plain.And fs) h = tt
filled_unquantified (plain.Or fs) h = tt
filled_unquantified (plain.Impl f g) h = tt
filled_unquantified (plain.Repl f g) h = tt
filled_unquantified (plain.Equiv f g) h = tt
filled_unquantified (plain.Ex x f) h = h
filled_unquantified (plain.All x f) h = h

pub unquantified_named : (f : written.Formula) (k : ℕ) → IsUnquantified (formula_tree f) → IsUnquantified (named_tree k f)
unquantified_named f k h = filled_unquantified (named_tree k f) (subst IsUnquantified (sym (same_but f k)) (emptied_unquantified (formula_tree f) h))

-- ---- what is proper

emptied_list : (fs : FormulaTrees) → AreFormulas fs → AreFormulas (all_emptied fs)
emptied_list plain.none h = h
emptied_list (plain.also f plain.none) h = h
emptied_list (plain.also f (plain.also g fs)) h = tt

module _ (K : List ℕ → Type 0) where
  mutual
    -- a term over some names is one over any
    proper_term : (t : TermTree) → IsTermOver K t → IsProperTerm t
    proper_term (Number n) h = h
    proper_term (Named x) h = tt
    proper_term (Sum ts) h = (h.0, proper_terms ts h.1)
    proper_term (Product ts) h = (h.0, proper_terms ts h.1)
    proper_term (Quotient s t) h = (proper_term s h.0, proper_term t h.1)
    proper_term (Power t n) h = (proper_term t h.0, h.1)
    proper_term (Negative t) h = proper_term t h

    proper_terms : (ts : TermTrees) → AreTermsOver K ts → AreProperTerms ts
    proper_terms none h = tt
    proper_terms (also t ts) h = (proper_term t h.0, proper_terms ts h.1)

  mutual
    -- a formula over some names is proper, and with its names emptied
    emptied_proper : (f : FormulaTree) → IsFormulaOver K f → IsProperFormula (emptied f)
    emptied_proper plain.Yes h = tt
    emptied_proper plain.No h = tt
    emptied_proper (One (Compare rel s t)) h = (proper_term s h.0, proper_term t h.1)
    emptied_proper (One (Cong s t m)) h = (proper_term s h.0, proper_term t h.1, proper_term m h.2)
    emptied_proper (One (Ncong s t m)) h = (proper_term s h.0, proper_term t h.1, proper_term m h.2)
    emptied_proper (One (Bound x)) h = tt
    emptied_proper (plain.Not f) h = emptied_proper f h
    emptied_proper (plain.And fs) h = (emptied_list fs h.0, all_emptied_proper fs h.1)
    emptied_proper (plain.Or fs) h = (emptied_list fs h.0, all_emptied_proper fs h.1)
    emptied_proper (plain.Impl f g) h = (emptied_proper f h.0, emptied_proper g h.1)
    emptied_proper (plain.Repl f g) h = (emptied_proper f h.0, emptied_proper g h.1)
    emptied_proper (plain.Equiv f g) h = (emptied_proper f h.0, emptied_proper g h.1)
    emptied_proper (plain.Ex x f) h = (tt, emptied_proper f h.1)
    emptied_proper (plain.All x f) h = (tt, emptied_proper f h.1)

    all_emptied_proper : (fs : FormulaTrees) → AreFormulasOver K fs → AreProperFormulas (all_emptied fs)
    all_emptied_proper plain.none h = tt
    all_emptied_proper (plain.also f fs) h = (emptied_proper f h.0, all_emptied_proper fs h.1)

filled_list : (fs : FormulaTrees) → AreFormulas (all_emptied fs) → AreFormulas fs
filled_list plain.none h = h
filled_list (plain.also f plain.none) h = h
filled_list (plain.also f (plain.also g fs)) h = tt

mutual
  -- what is proper without the names that stand as formulas is proper with them
  filled_proper : (f : FormulaTree) → IsProperFormula (emptied f) → IsProperFormula f
  filled_proper plain.Yes h = tt
  filled_proper plain.No h = tt
  filled_proper (One (Compare rel s t)) h = h
  filled_proper (One (Cong s t m)) h = h
  filled_proper (One (Ncong s t m)) h = h
  filled_proper (One (Bound x)) h = tt
  filled_proper (plain.Not f) h = filled_proper f h
  filled_proper (plain.And fs) h = (filled_list fs h.0, all_filled_proper fs h.1)
  filled_proper (plain.Or fs) h = (filled_list fs h.0, all_filled_proper fs h.1)
  filled_proper (plain.Impl f g) h = (filled_proper f h.0, filled_proper g h.1)
  filled_proper (plain.Repl f g) h = (filled_proper f h.0, filled_proper g h.1)
  filled_proper (plain.Equiv f g) h = (filled_proper f h.0, filled_proper g h.1)
  filled_proper (plain.Ex x f) h = (tt, filled_proper f h.1)
  filled_proper (plain.All x f) h = (tt, filled_proper f h.1)

  all_filled_proper : (fs : FormulaTrees) → AreProperFormulas (all_emptied fs) → AreProperFormulas fs
  all_filled_proper plain.none h = tt
  all_filled_proper (plain.also f fs) h = (filled_proper f h.0, all_filled_proper fs h.1)

-- a formula that is over some names, with names in its holes, is proper
pub named_proper : (K : List ℕ → Type 0) (f : written.Formula) (k : ℕ) → IsFormulaOver K (named_tree k f) → IsProperFormula (formula_tree f)
named_proper K f k h = filled_proper (formula_tree f) (subst IsProperFormula (same_but f k) (emptied_proper K (named_tree k f) h))

-- so is one that is proper with them
pub proper_named : (f : written.Formula) (k : ℕ) → IsProperFormula (named_tree k f) → IsProperFormula (formula_tree f)
proper_named f k h = named_proper IsAnyName f k h
