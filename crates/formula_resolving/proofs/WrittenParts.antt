-- Written formulas told by their parts, and what is proper in them.
use Rattle.std.proofs.Common.{◌≡◌, ℕ, List, [], ◌∷◌, ◌+◌, map, get_or, length, ◌<◌, suc, zero, arith, ap, ap₂, sym, ◌∙◌, subst, true, false}
use Rattle.std.specs.declared.boxed.Box.{Box}
use Rattle.std.specs.declared.alloc.Global.{Global}
use Rattle.logic_meaning.specs.Formula.{Yes, No, One, Not, Ex, All}
use Rattle.logic_meaning.specs.Formula as plain
use Rattle.language_meaning.specs.declared.tree.Relation.{Relation}
use Rattle.written_syntax.specs.declared.tree.Term as code
use Rattle.written_syntax.specs.declared.tree.Formula as written
use Rattle.written_syntax.specs.declared.tree.Formula.TheVariants as formula
use Rattle.written_syntax.specs.declared.tree.Formulas as writtens
use Rattle.written_syntax.specs.declared.tree.InnerCommand as commands
use Rattle.language_meaning.specs.Trees.{FormulaTree, FormulaTrees, Compare, Cong, Ncong, Bound, formulas_of}
use Rattle.language_meaning.specs.Holes.{Holed, hole, inner_name, command_count, all_of}
use Rattle.written_syntax.specs.CodeTrees.{term_tree, whole_formula, whole_formulas, formula_tree, formula_trees, inner_of, inners_of, named_tree, named_trees}
use Rattle.written_syntax.specs.Valued.{matrix_of}
use Rattle.written_syntax.specs.Proper.{IsProperFormula, AreProperFormulas}
use Rattle.written_syntax.proofs.TreeEquations.{formula-True, formula-False, formula-Compare, formula-Cong, formula-Ncong, formula-Not, formula-And, formula-Or, formula-Impl, formula-Repl, formula-Equiv, formula-Named, formula-Computed, inner-True, inner-False, inner-Compare, inner-Cong, inner-Ncong, inner-Not, inner-And, inner-Or, inner-Impl, inner-Repl, inner-Equiv, inner-Named, inner-Computed, named-True, named-False, named-Compare, named-Cong, named-Ncong, named-Not, named-And, named-Or, named-Impl, named-Repl, named-Equiv, named-Named, named-Computed}
use Rattle.formula_resolving.proofs.NamedTrees.{all_trees, count_together}
use Rattle.written_atoms.specs.Read.{congruence_tree}
use Rattle.logic_meaning.specs.declared.junction.Junction.TheVariants.{Conjunction, Disjunction}
use Rattle.logic_meaning.specs.Fold.{joined}
use Rattle.formula_resolving.specs.declared.parts.Pair.{Pair}
use Rattle.formula_resolving.specs.declared.parts.Pair.TheVariants as pair
use Rattle.formula_resolving.specs.Connectives.{paired}

-- what is known of a formula: its tree, how many commands stand in it, and its tree with names in their places
pub record HasForm (f : written.Formula) (t : FormulaTree) (n : ℕ) (at : ℕ → FormulaTree) : Type 0 where
  pub tree : formula_tree f ≡ t
  pub count : command_count (inner_of f) ≡ n
  pub named : (k : ℕ) → named_tree k f ≡ at k

-- a formula in which no command stands
abbrev pub IsLeaf : written.Formula → FormulaTree → Type 0
IsLeaf f t = HasForm f t 0 (λ k. t)

abbrev pub count_of : written.Formula → ℕ
count_of f = command_count (inner_of f)

pub true_is : (f : written.Formula) → f ≡ formula.True → IsLeaf f Yes
true_is f e = record { tree = ap formula_tree e ∙ formula-True; count = ap count_of e ∙ ap command_count inner-True; named = λ k. ap (named_tree k) e ∙ named-True k }

pub false_is : (f : written.Formula) → f ≡ formula.False → IsLeaf f No
false_is f e = record { tree = ap formula_tree e ∙ formula-False; count = ap count_of e ∙ ap command_count inner-False; named = λ k. ap (named_tree k) e ∙ named-False k }

pub name_is : (f : written.Formula) (x : List ℕ) → f ≡ formula.Named x → IsLeaf f (One (Bound x))
name_is f x e = record { tree = ap formula_tree e ∙ formula-Named x; count = ap count_of e ∙ ap command_count (inner-Named x); named = λ k. ap (named_tree k) e ∙ named-Named k x }

pub computed_is : (f : written.Formula) (b : Box commands.InnerCommand Global) → f ≡ formula.Computed b → HasForm f hole 1 (λ k. One (Bound (inner_name k)))
computed_is f b e = record { tree = ap formula_tree e ∙ formula-Computed b; count = ap count_of e ∙ ap command_count (inner-Computed b); named = λ k. ap (named_tree k) e ∙ named-Computed k b }

pub compare_is : (f : written.Formula) (r : Relation) (a b : Box code.Term Global) (x y : code.Term) → f ≡ formula.Compare r a b → x ≡ a.value → y ≡ b.value → IsLeaf f (One (Compare r (term_tree x) (term_tree y)))
compare_is f r a b x y e d k =
    let same : One (Compare r (term_tree a.value) (term_tree b.value)) ≡ One (Compare r (term_tree x) (term_tree y)) = ap₂ (λ s t. One (Compare r (term_tree s) (term_tree t))) (sym d) (sym k) in record {
      tree = ap formula_tree e ∙ formula-Compare r a b ∙ same;
      count = ap count_of e ∙ ap command_count (inner-Compare r a b);
      named = λ n. ap (named_tree n) e ∙ named-Compare n r a b ∙ same;
    }

pub cong_is : (f : written.Formula) (a b m : Box code.Term Global) (x y z : code.Term) → f ≡ formula.Cong a b m → x ≡ a.value → y ≡ b.value → z ≡ m.value → IsLeaf f (One (congruence_tree true (term_tree x) (term_tree y) (term_tree z)))
cong_is f a b m x y z e d k l =
    let same : One (Cong (term_tree a.value) (term_tree b.value) (term_tree m.value)) ≡ One (Cong (term_tree x) (term_tree y) (term_tree z)) = (λ i. One (Cong (term_tree (sym d i)) (term_tree (sym k i)) (term_tree (sym l i)))) in record {
      tree = ap formula_tree e ∙ formula-Cong a b m ∙ same;
      count = ap count_of e ∙ ap command_count (inner-Cong a b m);
      named = λ n. ap (named_tree n) e ∙ named-Cong n a b m ∙ same;
    }

pub ncong_is : (f : written.Formula) (a b m : Box code.Term Global) (x y z : code.Term) → f ≡ formula.Ncong a b m → x ≡ a.value → y ≡ b.value → z ≡ m.value → IsLeaf f (One (congruence_tree false (term_tree x) (term_tree y) (term_tree z)))
ncong_is f a b m x y z e d k l =
    let same : One (Ncong (term_tree a.value) (term_tree b.value) (term_tree m.value)) ≡ One (Ncong (term_tree x) (term_tree y) (term_tree z)) = (λ i. One (Ncong (term_tree (sym d i)) (term_tree (sym k i)) (term_tree (sym l i)))) in record {
      tree = ap formula_tree e ∙ formula-Ncong a b m ∙ same;
      count = ap count_of e ∙ ap command_count (inner-Ncong a b m);
      named = λ n. ap (named_tree n) e ∙ named-Ncong n a b m ∙ same;
    }

pub negation_is : (f : written.Formula) (b : Box written.Formula Global) (x : written.Formula) → f ≡ formula.Not b → x ≡ b.value → HasForm f (Not (formula_tree x)) (count_of x) (λ k. Not (named_tree k x))
negation_is f b x e d = record {
  tree = ap formula_tree e ∙ formula-Not b ∙ ap (λ s. Not (formula_tree s)) (sym d);
  count = ap count_of e ∙ ap command_count (inner-Not b) ∙ ap count_of (sym d);
  named = λ k. ap (named_tree k) e ∙ named-Not k b ∙ ap (λ s. Not (named_tree k s)) (sym d);
}

-- the trees of the members
pub trees_are : (fs : writtens.Formulas) (xs : List written.Formula) → whole_formulas fs ≡ all_of (map whole_formula xs) → formula_trees fs ≡ formulas_of (map formula_tree xs)
unfolding formula_trees
trees_are fs xs d = ap (λ (h : Holed FormulaTrees). h.tree) d ∙ all_trees xs

inners_are : (fs : writtens.Formulas) (xs : List written.Formula) → whole_formulas fs ≡ all_of (map whole_formula xs) → inners_of fs ≡ (all_of (map whole_formula xs)).inner
unfolding inners_of
inners_are fs xs d = ap (λ (h : Holed FormulaTrees). h.inner) d

nameds_are : (k : ℕ) (fs : writtens.Formulas) (xs : List written.Formula) → whole_formulas fs ≡ all_of (map whole_formula xs) → named_trees k fs ≡ (all_of (map whole_formula xs)).named k
unfolding named_trees
nameds_are k fs xs d = ap (λ (h : Holed FormulaTrees). h.named k) d

pub conjunction_is : (f : written.Formula) (fs : writtens.Formulas) (xs : List written.Formula) → f ≡ formula.And fs → whole_formulas fs ≡ all_of (map whole_formula xs)
    → HasForm f (joined Conjunction (formulas_of (map formula_tree xs))) (command_count (all_of (map whole_formula xs)).inner) (λ k. joined Conjunction ((all_of (map whole_formula xs)).named k))
conjunction_is f fs xs e d = record {
  tree = ap formula_tree e ∙ formula-And fs ∙ ap plain.And (trees_are fs xs d);
  count = ap count_of e ∙ ap command_count (inner-And fs ∙ inners_are fs xs d);
  named = λ k. ap (named_tree k) e ∙ named-And k fs ∙ ap plain.And (nameds_are k fs xs d);
}

pub disjunction_is : (f : written.Formula) (fs : writtens.Formulas) (xs : List written.Formula) → f ≡ formula.Or fs → whole_formulas fs ≡ all_of (map whole_formula xs)
    → HasForm f (joined Disjunction (formulas_of (map formula_tree xs))) (command_count (all_of (map whole_formula xs)).inner) (λ k. joined Disjunction ((all_of (map whole_formula xs)).named k))
disjunction_is f fs xs e d = record {
  tree = ap formula_tree e ∙ formula-Or fs ∙ ap plain.Or (trees_are fs xs d);
  count = ap count_of e ∙ ap command_count (inner-Or fs ∙ inners_are fs xs d);
  named = λ k. ap (named_tree k) e ∙ named-Or k fs ∙ ap plain.Or (nameds_are k fs xs d);
}

-- two formulas with a connective between them
abbrev pub IsPaired : Pair → written.Formula → written.Formula → written.Formula → Type 0
IsPaired p f x y = HasForm f (paired p (formula_tree x) (formula_tree y)) (count_of x + count_of y) (λ k. paired p (named_tree k x) (named_tree (k + count_of x) y))

pub implication_is : (f : written.Formula) (a b : Box written.Formula Global) (x y : written.Formula) → f ≡ formula.Impl a b → x ≡ a.value → y ≡ b.value → IsPaired pair.Impl f x y
implication_is f a b x y e d k = record {
  tree = ap formula_tree e ∙ formula-Impl a b ∙ ap₂ (λ s t. plain.Impl (formula_tree s) (formula_tree t)) (sym d) (sym k);
  count = ap count_of e ∙ ap command_count (inner-Impl a b) ∙ count_together (inner_of a.value) (inner_of b.value) ∙ ap₂ (λ s t. count_of s + count_of t) (sym d) (sym k);
  named = λ n. ap (named_tree n) e ∙ named-Impl n a b ∙ ap₂ (λ s t. plain.Impl (named_tree n s) (named_tree (n + count_of s) t)) (sym d) (sym k);
}

pub replication_is : (f : written.Formula) (a b : Box written.Formula Global) (x y : written.Formula) → f ≡ formula.Repl a b → x ≡ a.value → y ≡ b.value → IsPaired pair.Repl f x y
replication_is f a b x y e d k = record {
  tree = ap formula_tree e ∙ formula-Repl a b ∙ ap₂ (λ s t. plain.Repl (formula_tree s) (formula_tree t)) (sym d) (sym k);
  count = ap count_of e ∙ ap command_count (inner-Repl a b) ∙ count_together (inner_of a.value) (inner_of b.value) ∙ ap₂ (λ s t. count_of s + count_of t) (sym d) (sym k);
  named = λ n. ap (named_tree n) e ∙ named-Repl n a b ∙ ap₂ (λ s t. plain.Repl (named_tree n s) (named_tree (n + count_of s) t)) (sym d) (sym k);
}

pub equivalence_is : (f : written.Formula) (a b : Box written.Formula Global) (x y : written.Formula) → f ≡ formula.Equiv a b → x ≡ a.value → y ≡ b.value → IsPaired pair.Equiv f x y
equivalence_is f a b x y e d k = record {
  tree = ap formula_tree e ∙ formula-Equiv a b ∙ ap₂ (λ s t. plain.Equiv (formula_tree s) (formula_tree t)) (sym d) (sym k);
  count = ap count_of e ∙ ap command_count (inner-Equiv a b) ∙ count_together (inner_of a.value) (inner_of b.value) ∙ ap₂ (λ s t. count_of s + count_of t) (sym d) (sym k);
  named = λ n. ap (named_tree n) e ∙ named-Equiv n a b ∙ ap₂ (λ s t. plain.Equiv (named_tree n s) (named_tree (n + count_of s) t)) (sym d) (sym k);
}

pub proper_matrix : (f : FormulaTree) → IsProperFormula f → IsProperFormula (matrix_of f)
proper_matrix (Ex x f) h = proper_matrix f h.1
proper_matrix (All x f) h = proper_matrix f h.1
proper_matrix Yes h = h
proper_matrix No h = h
proper_matrix (One a) h = h
proper_matrix (Not f) h = h
proper_matrix (plain.And fs) h = h
proper_matrix (plain.Or fs) h = h
proper_matrix (plain.Impl f g) h = h
proper_matrix (plain.Repl f g) h = h
proper_matrix (plain.Equiv f g) h = h

proper_at : (fs : List written.Formula) (i : ℕ) (d : written.Formula) → AreProperFormulas (formulas_of (map formula_tree fs)) → i < length fs → IsProperFormula (formula_tree (get_or fs i d))
proper_at [] i d h l = absurd (omega arith)
proper_at (f ∷ fs) zero d h l = h.0
proper_at (f ∷ fs) (suc i) d h l = proper_at fs i d h.1 (omega arith)

pub proper_member : (fs : List written.Formula) (i : ℕ) (x : written.Formula) → AreProperFormulas (formulas_of (map formula_tree fs)) → x ≡ get_or fs i x → i < length fs → IsProperFormula (formula_tree x)
proper_member fs i x h e l = subst (λ y. IsProperFormula (formula_tree y)) (sym e) (proper_at fs i x h l)
