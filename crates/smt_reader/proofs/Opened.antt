-- Tokens without their places, and a leaf that is put.
use Rattle.std.proofs.Common.{◌≡◌, List, [], ◌∷◌, ◌++◌, map, sym, ap, ◌∙◌}
use Rattle.std.specs.Prelude.{Some, reverse}
use Rattle.smt_language.specs.declared.token.SmtLexeme.{SmtLexeme}
use Rattle.smt_language.specs.declared.token.SmtToken.{SmtToken}
use Rattle.smt_language.specs.declared.token.SmtToken.TheVariants as token
use Rattle.smt_language.specs.declared.sexpr.Leaf.{Leaf}
use Rattle.smt_reader.specs.declared.sexpr.SExpr.{SExpr}
use Rattle.smt_reader.specs.declared.sexpr.SExpr.TheVariants as sexpr
use Rattle.smt_reader.specs.declared.grouping.OpenGroups.{OpenGroups}
use Rattle.smt_language.specs.SExprLists.{leaf_of}
use Rattle.smt_reader.specs.CodeTrees.{sexpr_tree}
use Rattle.smt_language.specs.Faults.{kinds}
use Rattle.smt_reader.specs.Grouping.{Goes, leaf_put}
use Rattle.smt_reader.specs.OpenGroups.{open_of, group_of}
use Rattle.smt_reader.proofs.TreeEquations.{tree-Leaf}
use Rattle.smt_reader.proofs.Lists.{map_more}
use Rattle.smt_reader.proofs.Grouped.{inside}

pub kinds_first : (ts rest : List SmtLexeme) (t : SmtLexeme) → ts ≡ t ∷ rest → t.token ≡ token.Open → kinds ts ≡ token.Open ∷ kinds rest
kinds_first ts rest t e f = ap kinds e ∙ ap (λ k. k ∷ kinds rest) f

pub leaf_in : (t : SmtToken) (o : OpenGroups) (l : Leaf) (new : List SExpr) → leaf_of t ≡ Some l → new ≡ o.inmost.items ++ sexpr.Leaf l ∷ []
    → leaf_put (leaf_of t) (open_of o) ≡ Goes (inside (map sexpr_tree new) (map group_of (reverse o.around.items)))
leaf_in t o l new e put =
    ap (λ m. leaf_put m (open_of o)) e
    ∙ ap (λ xs. Goes (inside xs (map group_of (reverse o.around.items))))
    (sym (ap (map sexpr_tree) put ∙ map_more sexpr_tree o.inmost.items (sexpr.Leaf l) ∙ ap (λ s. map sexpr_tree o.inmost.items ++ s ∷ []) (tree-Leaf l)))
