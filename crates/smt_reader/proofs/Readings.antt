-- What the steps of reading a term or a formula come to.
use Rattle.std.proofs.Common.{◌≡◌, ℕ, List, [], ◌∷◌, length, true, false, sym, refl, ap, ◌∙◌}
use Rattle.std.specs.Prelude.{Option, Some, None, if◌then◌else◌}
use Rattle.std.specs.Option.{option_map, option_and_then}
use Rattle.logic_meaning.specs.declared.quantifier.Quantifier.{Quantifier}
use Rattle.smt_language.specs.declared.expression.Operator.{Operator}
use Rattle.smt_language.specs.declared.names.SortedName.{SortedName}
use Rattle.smt_language.specs.Trees.{ExpressionTree, LocalTree, Apply, Quantified, Let}
use Rattle.smt_tokens.specs.TreeLists.{expressions_of, locals_of}
use Rattle.smt_reader.specs.declared.refusal.Refusal.{Refusal}
use Rattle.smt_reader.specs.declared.refusal.Refusal.TheVariants as refusal
use Rattle.smt_language.specs.declared.sexpr.Leaf.{Leaf}
use Rattle.smt_reader.specs.declared.sexpr.SExpr.{SExpr}
use Rattle.smt_reader.specs.declared.sexpr.SExpr.TheVariants as sexpr
use Rattle.smt_reader.specs.declared.sexpr.SExprs as codes
use Rattle.smt_language.specs.SExprs.{SExprTree, SExprTrees, One, Group, none, also}
use Rattle.smt_reader.specs.CodeTrees.{sexpr_tree, trees_of}
use Rattle.smt_language.specs.SpelledShapes.{name_at, group_at, count, put_before, each_of}
use Rattle.smt_language.specs.Bindings.{are_bindings, scope_of}
use Rattle.smt_language.specs.Expressions as reading
use Rattle.smt_language.specs.Expressions.{expression_of, members_of, single_of, body_of, values_of, local_at, takes, applied, quantified, local_of, local_named, bindings_of, are_apart, member_before, local_before}
use Rattle.smt_reader.specs.Refuses.{Refuses}
use Rattle.smt_reader.proofs.TreeEquations.{tree-Leaf, tree-Group, trees-out}
use Rattle.smt_reader.proofs.Lists.{no_two, count_is}
use Rattle.smt_reader.proofs.Options.{then_none, map_some, map_none}

-- a refusal for one reason is one for another
pub refused_too : {P Q : Type 0} (e : Refusal) → (P → Q) → Refuses e P → Refuses e Q
refused_too refusal.Syntax f h = f h
refused_too refusal.Memory f h = tt

-- ---- lists

member_put : (o : Option ExpressionTree) (es : Option (List ExpressionTree)) → member_before o (option_map expressions_of es) ≡ option_map expressions_of (put_before o es)
member_put None es = refl
member_put (Some e) None = refl
member_put (Some e) (Some es) = refl

pub members_each : (ss : SExprTrees) → members_of ss ≡ option_map expressions_of (each_of expression_of ss)
members_each none = refl
members_each (also s ss) = ap (member_before (expression_of s)) (members_each ss) ∙ member_put (expression_of s) (each_of expression_of ss)

local_put : (o : Option LocalTree) (ls : Option (List LocalTree)) → local_before o (option_map locals_of ls) ≡ option_map locals_of (put_before o ls)
local_put None ls = refl
local_put (Some l) None = refl
local_put (Some l) (Some ls) = refl

pub locals_each : (bs : SExprTrees) → reading.locals_of bs ≡ option_map locals_of (each_of local_at bs)
locals_each none = refl
locals_each (also b bs) = ap (local_before (local_at b)) (locals_each bs) ∙ local_put (local_at b) (each_of local_at bs)

-- ---- an operator

counted : (o : Operator) (ss : List SExpr) → takes o (count (trees_of ss)) ≡ takes o (length ss)
counted o ss = ap (takes o) (count_is ss)

pub applied_few : (o : Operator) (ss : List SExpr) → takes o (length ss) ≡ false → applied o (count (trees_of ss)) (members_of (trees_of ss)) ≡ None
applied_few o ss few = ap (λ b. if b then option_map (Apply o) (members_of (trees_of ss)) else None) (counted o ss ∙ few)

applied_each : (o : Operator) (ss : List SExpr) → takes o (length ss) ≡ true
    → applied o (count (trees_of ss)) (members_of (trees_of ss)) ≡ option_map (Apply o) (option_map expressions_of (each_of expression_of (trees_of ss)))
applied_each o ss some =
    ap (λ b. if b then option_map (Apply o) (members_of (trees_of ss)) else None) (counted o ss ∙ some) ∙ ap (option_map (Apply o)) (members_each (trees_of ss))

pub applied_none : (o : Operator) (ss : List SExpr) → takes o (length ss) ≡ true → each_of expression_of (trees_of ss) ≡ None → applied o (count (trees_of ss)) (members_of (trees_of ss)) ≡ None
applied_none o ss some e = applied_each o ss some ∙ ap (λ m. option_map (Apply o) (option_map expressions_of m)) e

pub applied_some : (o : Operator) (ss : List SExpr) (es : List ExpressionTree) → takes o (length ss) ≡ true → each_of expression_of (trees_of ss) ≡ Some es
    → applied o (count (trees_of ss)) (members_of (trees_of ss)) ≡ Some (Apply o (expressions_of es))
applied_some o ss es some e = applied_each o ss some ∙ ap (λ m. option_map (Apply o) (option_map expressions_of m)) e

-- ---- a single member

pub no_single : (ss : List SExpr) → ¬ (length ss ≡ 1) → single_of (trees_of ss) ≡ None
no_single [] other = refl
no_single (s ∷ []) other = absurd (other refl)
no_single (s ∷ t ∷ ss) other = refl

pub single_is : (ss : List SExpr) (s : SExpr) → ss ≡ s ∷ [] → single_of (trees_of ss) ≡ expression_of (sexpr_tree s)
single_is ss s e = ap (λ all. single_of (trees_of all)) e

-- ---- bindings, and what they are used in

pub group_tree : (s : SExpr) (ss : codes.SExprs) (list : List SExpr) → s ≡ sexpr.Group ss → list ≡ (codes.out-SExprs ss).list.items → sexpr_tree s ≡ Group (trees_of list)
group_tree s ss list e f = ap sexpr_tree e ∙ tree-Group ss ∙ ap Group (trees-out ss ∙ ap trees_of (sym f))

pub leaf_tree : (s : SExpr) (l : Leaf) → s ≡ sexpr.Leaf l → sexpr_tree s ≡ One l
leaf_tree s l e = ap sexpr_tree e ∙ tree-Leaf l

pub record IsBound (ss bs : List SExpr) (s : SExpr) : Type 0 where
  pub bindings : bindings_of (trees_of ss) ≡ Some (trees_of bs)
  pub values : values_of (trees_of ss) ≡ reading.locals_of (trees_of bs)
  pub body : body_of (trees_of ss) ≡ expression_of (sexpr_tree s)

pub bound_is : (ss bs : List SExpr) (b s : SExpr) → ss ≡ b ∷ s ∷ [] → sexpr_tree b ≡ Group (trees_of bs) → IsBound ss bs s
bound_is ss bs b s e g = record {
  bindings = ap (λ all. bindings_of (trees_of all)) e ∙ ap group_at g;
  values = ap (λ all. values_of (trees_of all)) e ∙ ap reading.values_in g;
  body = ap (λ all. body_of (trees_of all)) e;
}

pub no_bindings : (ss : List SExpr) → ¬ (length ss ≡ 2) → bindings_of (trees_of ss) ≡ None
no_bindings ss other = then_none _ _ (no_two ss other)

pub leaf_first : (ss : List SExpr) (b s : SExpr) (l : Leaf) → ss ≡ b ∷ s ∷ [] → sexpr_tree b ≡ One l → bindings_of (trees_of ss) ≡ None
leaf_first ss b s l e g = ap (λ all. bindings_of (trees_of all)) e ∙ ap group_at g

pub quantified_none : (q : Quantifier) (ss : List SExpr) → bindings_of (trees_of ss) ≡ None → quantified q (option_and_then scope_of (bindings_of (trees_of ss))) (body_of (trees_of ss)) ≡ None
quantified_none q ss h = ap (λ p. quantified q (option_and_then scope_of p) (body_of (trees_of ss))) h

pub quantified_no_names : (q : Quantifier) (ss bs : List SExpr) (s : SExpr) → IsBound ss bs s → scope_of (trees_of bs) ≡ None
    → quantified q (option_and_then scope_of (bindings_of (trees_of ss))) (body_of (trees_of ss)) ≡ None
quantified_no_names q ss bs s is h = ap (λ p. quantified q (option_and_then scope_of p) (body_of (trees_of ss))) is.bindings ∙ ap (λ p. quantified q p (body_of (trees_of ss))) h

quantified_with : (q : Quantifier) (ss bs : List SExpr) (s : SExpr) (names : List SortedName) → IsBound ss bs s → scope_of (trees_of bs) ≡ Some names
    → quantified q (option_and_then scope_of (bindings_of (trees_of ss))) (body_of (trees_of ss)) ≡ option_map (Quantified q names) (expression_of (sexpr_tree s))
quantified_with q ss bs s names is h =
    ap (λ p. quantified q (option_and_then scope_of p) (body_of (trees_of ss))) is.bindings
    ∙ ap (λ p. quantified q p (body_of (trees_of ss))) h ∙ ap (option_map (Quantified q names)) is.body

pub quantified_no_body : (q : Quantifier) (ss bs : List SExpr) (s : SExpr) (names : List SortedName) → IsBound ss bs s → scope_of (trees_of bs) ≡ Some names → expression_of (sexpr_tree s) ≡ None
    → quantified q (option_and_then scope_of (bindings_of (trees_of ss))) (body_of (trees_of ss)) ≡ None
quantified_no_body q ss bs s names is h e = quantified_with q ss bs s names is h ∙ map_none _ _ e

pub quantified_some : (q : Quantifier) (ss bs : List SExpr) (s : SExpr) (names : List SortedName) (e : ExpressionTree) → IsBound ss bs s → scope_of (trees_of bs) ≡ Some names
    → expression_of (sexpr_tree s) ≡ Some e → quantified q (option_and_then scope_of (bindings_of (trees_of ss))) (body_of (trees_of ss)) ≡ Some (Quantified q names e)
quantified_some q ss bs s names e is h f = quantified_with q ss bs s names is h ∙ map_some _ _ e f

-- ---- a let

pub local_none : (ss : List SExpr) → bindings_of (trees_of ss) ≡ None → local_of (are_apart (bindings_of (trees_of ss))) (values_of (trees_of ss)) (body_of (trees_of ss)) ≡ None
local_none ss h = ap (λ p. local_of (are_apart p) (values_of (trees_of ss)) (body_of (trees_of ss))) h

pub local_twice : (ss bs : List SExpr) (s : SExpr) → IsBound ss bs s → are_bindings (trees_of bs) ≡ false
    → local_of (are_apart (bindings_of (trees_of ss))) (values_of (trees_of ss)) (body_of (trees_of ss)) ≡ None
local_twice ss bs s is h =
    ap (λ p. local_of (are_apart p) (values_of (trees_of ss)) (body_of (trees_of ss))) is.bindings ∙ ap (λ b. local_of b (values_of (trees_of ss)) (body_of (trees_of ss))) h

local_with : (ss bs : List SExpr) (s : SExpr) → IsBound ss bs s → are_bindings (trees_of bs) ≡ true
    → local_of (are_apart (bindings_of (trees_of ss))) (values_of (trees_of ss)) (body_of (trees_of ss))
    ≡ option_and_then (λ values. option_map (Let values) (expression_of (sexpr_tree s))) (option_map locals_of (each_of local_at (trees_of bs)))
local_with ss bs s is h =
    ap (λ p. local_of (are_apart p) (values_of (trees_of ss)) (body_of (trees_of ss))) is.bindings ∙ ap (λ b. local_of b (values_of (trees_of ss)) (body_of (trees_of ss))) h
    ∙ ap (λ v. option_and_then (λ values. option_map (Let values) (body_of (trees_of ss))) v) (is.values ∙ locals_each (trees_of bs))
    ∙ ap (λ e. option_and_then (λ values. option_map (Let values) e) (option_map locals_of (each_of local_at (trees_of bs)))) is.body

pub local_no_values : (ss bs : List SExpr) (s : SExpr) → IsBound ss bs s → are_bindings (trees_of bs) ≡ true → each_of local_at (trees_of bs) ≡ None
    → local_of (are_apart (bindings_of (trees_of ss))) (values_of (trees_of ss)) (body_of (trees_of ss)) ≡ None
local_no_values ss bs s is h e =
    local_with ss bs s is h ∙ ap (λ ls. option_and_then (λ values. option_map (Let values) (expression_of (sexpr_tree s))) (option_map locals_of ls)) e

pub local_no_body : (ss bs : List SExpr) (s : SExpr) (ls : List LocalTree) → IsBound ss bs s → are_bindings (trees_of bs) ≡ true → each_of local_at (trees_of bs) ≡ Some ls
    → expression_of (sexpr_tree s) ≡ None → local_of (are_apart (bindings_of (trees_of ss))) (values_of (trees_of ss)) (body_of (trees_of ss)) ≡ None
local_no_body ss bs s ls is h e f =
    local_with ss bs s is h ∙ ap (λ ls. option_and_then (λ values. option_map (Let values) (expression_of (sexpr_tree s))) (option_map locals_of ls)) e ∙ map_none _ _ f

pub local_some : (ss bs : List SExpr) (s : SExpr) (ls : List LocalTree) (e : ExpressionTree) → IsBound ss bs s → are_bindings (trees_of bs) ≡ true → each_of local_at (trees_of bs) ≡ Some ls
    → expression_of (sexpr_tree s) ≡ Some e → local_of (are_apart (bindings_of (trees_of ss))) (values_of (trees_of ss)) (body_of (trees_of ss)) ≡ Some (Let (locals_of ls) e)
local_some ss bs s ls e is h f g =
    local_with ss bs s is h ∙ ap (λ ls. option_and_then (λ values. option_map (Let values) (expression_of (sexpr_tree s))) (option_map locals_of ls)) f ∙ map_some _ _ e g

-- ---- one binding of a let

pub no_pair : (t : SExprTree) (ss : List SExpr) → t ≡ Group (trees_of ss) → ¬ (length ss ≡ 2) → local_at t ≡ None
no_pair t ss e other = ap local_at e ∙ no_pair_in ss other
  where
    then_nothing : (o : Option (List ℕ)) → local_named o None ≡ None
    then_nothing None = refl
    then_nothing (Some x) = refl

    no_pair_in : (ss : List SExpr) → ¬ (length ss ≡ 2) → reading.local_pair (trees_of ss) ≡ None
    no_pair_in [] other = refl
    no_pair_in (s ∷ []) other = then_nothing (name_at (sexpr_tree s))
    no_pair_in (s ∷ u ∷ []) other = absurd (other refl)
    no_pair_in (s ∷ u ∷ v ∷ ss) other = then_nothing (name_at (sexpr_tree s))

pub pair_is : (t : SExprTree) (ss : List SExpr) (x s : SExpr) → t ≡ Group (trees_of ss) → ss ≡ x ∷ s ∷ [] → local_at t ≡ local_named (name_at (sexpr_tree x)) (expression_of (sexpr_tree s))
pair_is t ss x s e f = ap local_at e ∙ ap (λ all. reading.local_pair (trees_of all)) f

pub no_name : (t : SExprTree) (ss : List SExpr) (x s : SExpr) → t ≡ Group (trees_of ss) → ss ≡ x ∷ s ∷ [] → name_at (sexpr_tree x) ≡ None → local_at t ≡ None
no_name t ss x s e f h = pair_is t ss x s e f ∙ ap (λ o. local_named o (expression_of (sexpr_tree s))) h

pub no_value : (t : SExprTree) (ss : List SExpr) (x s : SExpr) (name : List ℕ) → t ≡ Group (trees_of ss) → ss ≡ x ∷ s ∷ [] → name_at (sexpr_tree x) ≡ Some name
    → expression_of (sexpr_tree s) ≡ None → local_at t ≡ None
no_value t ss x s name e f h g = pair_is t ss x s e f ∙ ap (λ o. local_named o (expression_of (sexpr_tree s))) h ∙ map_none _ _ g

pub value_is : (t : SExprTree) (ss : List SExpr) (x s : SExpr) (name : List ℕ) (v : ExpressionTree) → t ≡ Group (trees_of ss) → ss ≡ x ∷ s ∷ [] → name_at (sexpr_tree x) ≡ Some name
    → expression_of (sexpr_tree s) ≡ Some v → local_at t ≡ Some (record { name = name; value = v })
value_is t ss x s name v e f h g = pair_is t ss x s e f ∙ ap (λ o. local_named o (expression_of (sexpr_tree s))) h ∙ map_some _ _ v g
