-- The trees of what is read, and what is left of the lists that are read in turn.
use Rattle.std.proofs.Common.{◌≡◌, ◌<◌, ◌+◌, ℕ, zero, suc, List, [], ◌∷◌, map, length, get_or, drop, sym, ap, ◌∙◌, ap₂, subst, arith}
use Rattle.std.specs.declared.boxed.Box.{Box}
use Rattle.std.specs.declared.alloc.Global.{Global}
use Rattle.logic_meaning.specs.declared.quantifier.Quantifier.{Quantifier}
use Rattle.smt_language.specs.declared.names.SortedName.{SortedName}
use Rattle.smt_tokens.specs.declared.expression.Expression as code
use Rattle.smt_tokens.specs.declared.expression.Expression.TheVariants as expression
use Rattle.smt_tokens.specs.declared.expression.LocalValue as local
use Rattle.smt_tokens.specs.declared.expression.LocalValues as locals
use Rattle.smt_tokens.specs.CodeTrees.{expression_tree, local_tree, local_trees}
use Rattle.smt_language.specs.Trees.{Quantified, Let, also, also_local}
use Rattle.smt_tokens.specs.TreeLists.{expressions_of, locals_of}
use Rattle.smt_tokens.proofs.TreeEquations.{tree-Quantified, tree-Let, local-out}
use Rattle.smt_meaning.specs.Proper.{IsProper, AreProper, AreProperLocals}

pub let_is : (e : code.Expression) (ls : locals.LocalValues) (b : Box code.Expression Global) (xs : List local.LocalValue) (x : code.Expression) → e ≡ expression.Let ls b → local_trees ls ≡ locals_of (map local_tree xs) → x ≡ b.value
    → expression_tree e ≡ Let (locals_of (map local_tree xs)) (expression_tree x)
let_is e ls b xs x i d k = ap expression_tree i ∙ tree-Let ls b ∙ ap₂ Let d (ap expression_tree (sym k))

pub quantified_is : (e : code.Expression) (q : Quantifier) (xs ys : List SortedName) (b : Box code.Expression Global) (x : code.Expression) → e ≡ expression.Quantified q xs b → ys ≡ xs → x ≡ b.value → expression_tree e ≡ Quantified q ys (expression_tree x)
quantified_is e q xs ys b x i d k = ap expression_tree i ∙ tree-Quantified q xs b ∙ ap₂ (Quantified q) (sym d) (ap expression_tree (sym k))

-- the value of a name of a let
pub value_is : (l : local.LocalValue) → (local_tree l).value ≡ expression_tree (local.out-LocalValue l).value
value_is l = ap (λ r. r.value) (local-out l)

pub members_left : (es : List code.Expression) (i : ℕ) (e : code.Expression) → e ≡ get_or es i e → i < length es → expressions_of (map expression_tree (drop i es)) ≡ also (expression_tree e) (expressions_of (map expression_tree (drop (i + 1) es)))
members_left [] i e h l = absurd (omega arith)
members_left (x ∷ es) zero e h l = ap (λ y. also (expression_tree y) (expressions_of (map expression_tree es))) (sym h)
members_left (x ∷ es) (suc i) e h l = let k : suc (i + 1) ≡ suc i + 1 = omega arith in members_left es i e h (omega arith) ∙ ap (λ n. also (expression_tree e) (expressions_of (map expression_tree (drop n (x ∷ es))))) k

pub locals_left : (ls : List local.LocalValue) (i : ℕ) (l : local.LocalValue) → l ≡ get_or ls i l → i < length ls
    → locals_of (map local_tree (drop i ls)) ≡ also_local (local.out-LocalValue l).name (expression_tree (local.out-LocalValue l).value) (locals_of (map local_tree (drop (i + 1) ls)))
locals_left [] i l h s = absurd (omega arith)
locals_left (x ∷ ls) zero l h s = ap (λ r. also_local r.name r.value (locals_of (map local_tree ls))) (ap local_tree (sym h) ∙ local-out l)
locals_left (x ∷ ls) (suc i) l h s = let k : suc (i + 1) ≡ suc i + 1 = omega arith in
    locals_left ls i l h (omega arith) ∙ ap (λ n. also_local (local.out-LocalValue l).name (expression_tree (local.out-LocalValue l).value) (locals_of (map local_tree (drop n (x ∷ ls))))) k

pub proper_member : (es : List code.Expression) (i : ℕ) (e : code.Expression) → e ≡ get_or es i e → i < length es → AreProper (expressions_of (map expression_tree es)) → IsProper (expression_tree e)
proper_member [] i e h l p = absurd (omega arith)
proper_member (x ∷ es) zero e h l p = subst (λ y. IsProper (expression_tree y)) (sym h) p.0
proper_member (x ∷ es) (suc i) e h l p = proper_member es i e h (omega arith) p.1

pub proper_local : (ls : List local.LocalValue) (i : ℕ) (l : local.LocalValue) → l ≡ get_or ls i l → i < length ls → AreProperLocals (locals_of (map local_tree ls)) → IsProper (expression_tree (local.out-LocalValue l).value)
proper_local [] i l h s p = absurd (omega arith)
proper_local (x ∷ ls) zero l h s p = subst IsProper (ap (λ y. (local_tree y).value) (sym h) ∙ value_is l) p.0
proper_local (x ∷ ls) (suc i) l h s p = proper_local ls i l h (omega arith) p.1
