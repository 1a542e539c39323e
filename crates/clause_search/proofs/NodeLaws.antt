-- The clauses of nodes hold at every point.
use Rattle.std.proofs.Common.{◌≡◌, ℕ, zero, suc, ◌<◌, true, false, List, [], ◌∷◌, ◌++◌, Some, length, get_or, map, sym, subst, ⊎_elim, slice_get}
use Rattle.std.proofs.lemmas.Option.{slice_get-get_or}
use Rattle.logic_meaning.specs.Context.{Context}
use Rattle.logic_meaning.specs.Point.{Point}
use Rattle.logic_meaning.specs.Formula.{No, And, Or}
use Rattle.logic_meaning.specs.Some.{EachOf}
use Rattle.logic_meaning.specs.Tree.{Tree, TrueAt}
use Rattle.formula_tree.specs.declared.shape.Shape.{Shape}
use Rattle.formula_tree.specs.Trees.{members}
use Rattle.formula_store.specs.declared.id.FormulaId.{FormulaId}
use Rattle.formula_store.specs.Nodes.{tree}
use Rattle.clause_theory.specs.declared.clause.Literal.{Literal}
use Rattle.clause_theory.specs.declared.clause.Clause.{Clause}
use Rattle.clause_theory.specs.Clauses.{IsNot, Fails}
use Rattle.clause_theory.proofs.Marked.{each_push}
use Rattle.clause_search.specs.Nodes.{StandsForNodes, IsNodeLaw, AreNodeLaws, StandsAt, SayMembers}

-- the formula at a place is true, or is not
abbrev pub holds_at : ℕ → Literal
holds_at k = record { variable = k; holds = true }

abbrev pub fails_at : ℕ → Literal
fails_at k = record { variable = k; holds = false }

pub each_split : {X : Type 0} (P : X → Type 0) (xs ys : List X) → EachOf P (xs ++ ys) → EachOf P xs × EachOf P ys
each_split P [] ys each = (tt, each)
each_split P (x ∷ xs) ys each = let rest = each_split P xs ys each.1 in ((each.0, rest.0), rest.1)

-- the node at a place
pub node_stands : (nodes : List (Shape FormulaId)) (ids : List FormulaId) (place : ℕ) → place < length ids → StandsAt nodes ids place (tree nodes (get_or ids place (record { number = 0 })))
node_stands nodes ids place l f is = is place _ (slice_get-get_or ids place (record { number = 0 }) l)

-- ---- members

module _ (nodes : List (Shape FormulaId)) (c : Context) (p : Point ℕ) where
  -- where and of formulas is true, each is
  pub member_true : (ids : List FormulaId) (j : ℕ) (id : FormulaId) → slice_get ids j ≡ Some id → TrueAt c (And (members (map (tree nodes) ids))) p → TrueAt c (tree nodes id) p
  member_true [] j id there h = absurd cc
  member_true (i ∷ ids) zero id there h = let same : i ≡ id = cc in subst (λ (x : FormulaId). TrueAt c (tree nodes x) p) same h.0
  member_true (i ∷ ids) (suc j) id there h = member_true ids j id there h.1

module _ (nodes : List (Shape FormulaId)) (ids : List FormulaId) where
  -- where or of formulas is true, not all literals that say so of the formulas fail
  pub some_holds : (f : ℕ → Tree) → StandsForNodes nodes ids f → (c : Context) (p : Point ℕ) (ms : List FormulaId) (ls : List Literal) → SayMembers nodes ids ms ls
      → TrueAt c (Or (members (map (tree nodes) ms))) p → ¬ (EachOf (Fails f c p) ls)
  some_holds f at c p [] [] say some fail = some
  some_holds f at c p [] (l ∷ ls) say some fail = say
  some_holds f at c p (m ∷ ms) [] say some fail = say
  some_holds f at c p (m ∷ ms) (l ∷ ls) say some fail =
      let here : ¬ (TrueAt c (f l.variable) p) = subst (λ b. IsNot b (TrueAt c (f l.variable) p)) say.0.1 fail.0 in
      ⊎_elim
      (λ h. here (subst (λ (t : Tree). TrueAt c t p) (sym (say.0.0 f at)) h))
      (λ h. some_holds f at c p ms ls say.1 h fail.1)
      some

  pub members_push : (ms : List FormulaId) (ls : List Literal) (m : FormulaId) (l : Literal) → SayMembers nodes ids ms ls → StandsAt nodes ids l.variable (tree nodes m) → l.holds ≡ true
      → SayMembers nodes ids (ms ++ m ∷ []) (ls ++ l ∷ [])
  members_push [] [] m l say at holds = ((at, holds), tt)
  members_push [] (k ∷ ls) m l say at holds = absurd say
  members_push (i ∷ ms) [] m l say at holds = absurd say
  members_push (i ∷ ms) (k ∷ ls) m l say at holds = (say.0, members_push ms ls m l say.1 at holds)

  -- ---- the clauses

  module _ (place : ℕ) (t : Tree) (at : StandsAt nodes ids place t) where
    -- where the formula is not false it is not untrue
    there : (f : ℕ → Tree) → StandsForNodes nodes ids f → (c : Context) (p : Point ℕ) → ¬ ¬ (TrueAt c (f place) p) → ¬ ¬ (TrueAt c t p)
    there f is c p n none = n (λ h. none (subst (λ (u : Tree). TrueAt c u p) (at f is) h))

    pub false_law : t ≡ No → IsNodeLaw nodes ids (fails_at place ∷ [])
    false_law e f is c p fail = there f is c p fail.0 (λ h. subst (λ (u : Tree). TrueAt c u p) e h)

    pub member_law : (ms : List FormulaId) (j : ℕ) (m : FormulaId) (k : ℕ) → t ≡ And (members (map (tree nodes) ms)) → slice_get ms j ≡ Some m → StandsAt nodes ids k (tree nodes m)
        → IsNodeLaw nodes ids (fails_at place ∷ holds_at k ∷ [])
    member_law ms j m k e among member f is c p fail =
        there f is c p fail.0 (λ h.
        fail.1.0 (subst (λ (u : Tree). TrueAt c u p) (sym (member f is)) (member_true nodes c p ms j m among (subst (λ (u : Tree). TrueAt c u p) e h))))

    pub choice_law : (ms : List FormulaId) (ls : List Literal) → t ≡ Or (members (map (tree nodes) ms)) → SayMembers nodes ids ms ls → IsNodeLaw nodes ids (ls ++ fails_at place ∷ [])
    choice_law ms ls e say f is c p fail =
        let parts = each_split (Fails f c p) ls (fails_at place ∷ []) fail in
        there f is c p parts.1.0 (λ h. some_holds f is c p ms ls say (subst (λ (u : Tree). TrueAt c u p) e h) parts.0)

-- one clause more
pub law_push : (nodes : List (Shape FormulaId)) (ids : List FormulaId) (clauses : List Clause) (k : Clause) → AreNodeLaws nodes ids clauses → IsNodeLaw nodes ids k.literals.items
    → AreNodeLaws nodes ids (clauses ++ k ∷ [])
law_push nodes ids clauses k before law = each_push (λ (j : Clause). IsNodeLaw nodes ids j.literals.items) clauses k before law
