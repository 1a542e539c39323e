-- The variables and the nodes of what is written, told by its parts.
use Rattle.std.proofs.Common.{◌≡◌, ◌⊎◌, inl, inr, ⊎_elim, map, ℕ, suc, List, [], ◌∷◌, ◌++◌, ap, ap₂, sym, ◌∙◌}
use Rattle.std.specs.declared.boxed.Box.{Box}
use Rattle.std.specs.declared.alloc.Global.{Global}
use Rattle.logic_meaning.specs.Sizes.{nodes, all_nodes}
use Rattle.logic_meaning.specs.Formula.{And, Or}
use Rattle.language_meaning.specs.declared.tree.Relation.{Relation}
use Rattle.written_syntax.specs.declared.tree.Term as code
use Rattle.written_syntax.specs.declared.tree.Term.TheVariants as term
use Rattle.written_syntax.specs.declared.tree.Formula as written
use Rattle.written_syntax.specs.declared.tree.Formula.TheVariants as formula
use Rattle.written_syntax.specs.declared.tree.Formulas as writtens
use Rattle.language_meaning.specs.Trees.{formulas_of}
use Rattle.language_meaning.specs.Holes.{all_of}
use Rattle.written_syntax.specs.CodeTrees.{term_tree, whole_formula, whole_formulas, formula_tree}
use Rattle.written_syntax.proofs.TreeEquations.{tree-Quotient, formula-Compare, formula-Cong, formula-Ncong, formula-Impl, formula-Repl, formula-Equiv, formula-Ex, formula-All}
use Rattle.language_meaning.specs.Resolving.{variables_of, formula_variables, all_variables}
use Rattle.formula_resolving.proofs.WrittenParts.{conjunction_is, disjunction_is}

pub quotient_variables : (f : code.Term) (a b : Box code.Term Global) (x y : code.Term) → f ≡ term.Quotient a b → x ≡ a.value → y ≡ b.value → variables_of (term_tree f) ≡ variables_of (term_tree x) ++ variables_of (term_tree y)
quotient_variables f a b x y e d k =
    ap variables_of (ap term_tree e ∙ tree-Quotient a b) ∙ ap₂ (λ s t. variables_of (term_tree s) ++ variables_of (term_tree t)) (sym d) (sym k)

pub compare_variables : (f : written.Formula) (r : Relation) (a b : Box code.Term Global) (x y : code.Term) → f ≡ formula.Compare r a b → x ≡ a.value → y ≡ b.value → formula_variables (formula_tree f) ≡ variables_of (term_tree x) ++ variables_of (term_tree y)
compare_variables f r a b x y e d k =
    ap formula_variables (ap formula_tree e ∙ formula-Compare r a b) ∙ ap₂ (λ s t. variables_of (term_tree s) ++ variables_of (term_tree t)) (sym d) (sym k)

pub congruence_variables : (f : written.Formula) (a b m : Box code.Term Global) (x y z : code.Term) → (f ≡ formula.Cong a b m) ⊎ (f ≡ formula.Ncong a b m) → x ≡ a.value → y ≡ b.value → z ≡ m.value
    → formula_variables (formula_tree f) ≡ variables_of (term_tree x) ++ (variables_of (term_tree y) ++ variables_of (term_tree z))
congruence_variables f a b m x y z is d k l =
    ⊎_elim (λ e. ap formula_variables (ap formula_tree e ∙ formula-Cong a b m)) (λ e. ap formula_variables (ap formula_tree e ∙ formula-Ncong a b m)) is
    ∙ ap₂ (λ s t. variables_of (term_tree s) ++ t) (sym d) (ap₂ (λ s t. variables_of (term_tree s) ++ variables_of (term_tree t)) (sym k) (sym l))

pub pair_variables : (f : written.Formula) (a b : Box written.Formula Global) (x y : written.Formula) → (f ≡ formula.Impl a b) ⊎ ((f ≡ formula.Repl a b) ⊎ (f ≡ formula.Equiv a b)) → x ≡ a.value → y ≡ b.value
    → formula_variables (formula_tree f) ≡ formula_variables (formula_tree x) ++ formula_variables (formula_tree y)
pair_variables f a b x y is d k =
    ⊎_elim (λ e. ap formula_variables (ap formula_tree e ∙ formula-Impl a b)) (λ is. ⊎_elim (λ e. ap formula_variables (ap formula_tree e ∙ formula-Repl a b)) (λ e. ap formula_variables (ap formula_tree e ∙ formula-Equiv a b)) is) is
    ∙ ap₂ (λ s t. formula_variables (formula_tree s) ++ formula_variables (formula_tree t)) (sym d) (sym k)

-- one quantifier taken off
pub quantified_variables : (f : written.Formula) (x : List ℕ) (b : Box written.Formula Global) (g : written.Formula) → (f ≡ formula.Ex x b) ⊎ (f ≡ formula.All x b) → g ≡ b.value
    → formula_variables (formula_tree f) ≡ (x ∷ []) ++ formula_variables (formula_tree g)
quantified_variables f x b g is d =
    ⊎_elim (λ e. ap formula_variables (ap formula_tree e ∙ formula-Ex x b)) (λ e. ap formula_variables (ap formula_tree e ∙ formula-All x b)) is
    ∙ ap (λ s. x ∷ formula_variables (formula_tree s)) (sym d)

pub quantified_nodes : (f : written.Formula) (x : List ℕ) (b : Box written.Formula Global) (g : written.Formula) → (f ≡ formula.Ex x b) ⊎ (f ≡ formula.All x b) → g ≡ b.value
    → nodes (formula_tree f) ≡ suc (nodes (formula_tree g))
quantified_nodes f x b g is d =
    ⊎_elim (λ e. ap nodes (ap formula_tree e ∙ formula-Ex x b)) (λ e. ap nodes (ap formula_tree e ∙ formula-All x b)) is
    ∙ ap (λ s. suc (nodes (formula_tree s))) (sym d)

-- the members of a conjunction or a disjunction
joint_is : (f : written.Formula) (fs : writtens.Formulas) (xs : List written.Formula) → (f ≡ formula.And fs) ⊎ (f ≡ formula.Or fs) → whole_formulas fs ≡ all_of (map whole_formula xs)
    → (formula_tree f ≡ And (formulas_of (map formula_tree xs))) ⊎ (formula_tree f ≡ Or (formulas_of (map formula_tree xs)))
joint_is f fs xs is d = ⊎_elim (λ e. inl (conjunction_is f fs xs e d).tree) (λ e. inr (disjunction_is f fs xs e d).tree) is

pub members_variables : (f : written.Formula) (fs : writtens.Formulas) (xs : List written.Formula) → (f ≡ formula.And fs) ⊎ (f ≡ formula.Or fs) → whole_formulas fs ≡ all_of (map whole_formula xs)
    → formula_variables (formula_tree f) ≡ all_variables (formulas_of (map formula_tree xs))
members_variables f fs xs is d = ⊎_elim (λ e. ap formula_variables e) (λ e. ap formula_variables e) (joint_is f fs xs is d)

pub members_nodes : (f : written.Formula) (fs : writtens.Formulas) (xs : List written.Formula) → (f ≡ formula.And fs) ⊎ (f ≡ formula.Or fs) → whole_formulas fs ≡ all_of (map whole_formula xs)
    → nodes (formula_tree f) ≡ suc (all_nodes (formulas_of (map formula_tree xs)))
members_nodes f fs xs is d = ⊎_elim (λ e. ap nodes e) (λ e. ap nodes e) (joint_is f fs xs is d)
