-- How tokens after an opening parenthesis are put together: what stands in the group that is open, and in those around it.
use Rattle.std.specs.Prelude.{List, [], ◌∷◌, ◌++◌, Option, Some, None}
use Rattle.smt_language.specs.declared.token.SmtToken.{SmtToken}
use Rattle.smt_language.specs.declared.token.SmtToken.TheVariants as token
use Rattle.smt_language.specs.declared.sexpr.Leaf.{Leaf}
use Rattle.smt_language.specs.SExprs.{SExprTree, SExprTrees, One, Group}
use Rattle.smt_language.specs.SExprLists.{sexprs_of, leaf_of}

-- what is open: the members so far of the inmost group, and of those around it, the one first that is directly around
pub record Open : Type 0 where
  pub inmost : List SExprTree
  pub around : List (List SExprTree)

-- what a token leads to: nothing is written so, or more is open, or the members of the outermost group are there
pub data Reached : Type 0 where
  Fails : Reached
  Goes : Open → Reached
  Ends : SExprTrees → Reached

-- one member more
abbrev pub put : SExprTree → Open → Open
put s state = record { inmost = state.inmost ++ (s ∷ []); around = state.around }

-- a group more
abbrev pub opened : Open → Open
opened state = record { inmost = []; around = state.inmost ∷ state.around }

-- the inmost group is closed inside these
abbrev pub closed : List SExprTree → List (List SExprTree) → Reached
closed inmost [] = Ends (sexprs_of inmost)
closed inmost (g ∷ gs) = Goes (record { inmost = g ++ (Group (sexprs_of inmost) ∷ []); around = gs })

-- a leaf is put, if there is one
abbrev pub leaf_put : Option Leaf → Open → Reached
leaf_put None state = Fails
leaf_put (Some l) state = Goes (put (One l) state)

-- one more token
abbrev pub step : Open → SmtToken → Reached
step state token.Open = Goes (opened state)
step state token.Close = closed state.inmost state.around
step state t = leaf_put (leaf_of t) state

-- the members of the outermost group, which has to end with the tokens
abbrev pub ended : SExprTrees → List SmtToken → Option SExprTrees
ended ss [] = Some ss
ended ss (t ∷ ts) = None

-- what follows a token, by what it leads to
abbrev pub go_on : Reached → List SmtToken → (Open → Option SExprTrees) → Option SExprTrees
go_on Fails ts rest = None
go_on (Goes state) ts rest = rest state
go_on (Ends ss) ts rest = ended ss ts

-- the members of the outermost group, where these tokens follow
abbrev pub grouped : Open → List SmtToken → Option SExprTrees
grouped state [] = None
grouped state (t ∷ ts) = go_on (step state t) ts (λ o. grouped o ts)
