-- Rows of literals are met where their opposites fail, so literals whose rows are refuted do not all hold.
use Rattle.std.proofs.Common.{◌≡◌, ℕ, Bool, true, false, not, List, [], ◌∷◌, ◌++◌, Option, Some, None, IfSome, Result, Ok, Err, OnOk, Bor, map, sym, subst, slice_get, option_copied}
use Rattle.logic_meaning.specs.Context.{Context, Fields}
use Rattle.logic_meaning.specs.Point.{Point, Of}
use Rattle.logic_meaning.specs.Some.{EachOf}
use Rattle.logic_meaning.specs.Tree.{Tree, TrueAt}
use Rattle.linear_theory.specs.Meeting.{Meets, MeetsAll}
use Rattle.certificates.specs.declared.constraint.Constraint.{Constraint}
use Rattle.certificates.specs.Constraints.{constraint_of}
use Rattle.atom_pruning.specs.declared.rows.AtomRows.{AtomRows}
use Rattle.atom_pruning.specs.Rows.{MeetsAny}
use Rattle.atom_pruning.proofs.Decided.{of_fields}
use Rattle.clause_theory.specs.declared.clause.Literal.{Literal}
use Rattle.clause_theory.specs.Turned.{turned}
use Rattle.clause_theory.specs.Clauses.{IsNot, Fails}
use Rattle.clause_theory.proofs.Marked.{each_push}
use Rattle.clause_theory.proofs.UnitSteps.{each_at}
use Rattle.clause_search.specs.declared.variables.Variable.{Variable}
use Rattle.clause_search.specs.Variables.{row_of, HasRows, IsRowed}
use Rattle.clause_search.specs.Refuting.{IsRowFor, AreRowsFor, IsTheoryLaw}
use Rattle.clause_search.proofs.NodeLaws.{each_split}

sign_met : (c : Context) (t : Tree) (r : AtomRows) (p : Point ℕ) (b : Bool) → HasRows c t r → Of c p → IsNot (not b) (TrueAt c t p) → MeetsAny p (row_of r b)
sign_met c t r p true rows o n = rows.holds p o n
sign_met c t r p false rows o n = rows.fails p o n

copied_some : (P : Constraint → Type 0) (o : Option (Bor Constraint)) (r : Option Constraint) → option_copied o ≡ r → ((row : Constraint) → r ≡ Some row → P row) → IfSome o (λ row. P row.now)
copied_some P None r e h = tt
copied_some P (Some row) r e h = h row.now (sym e)

-- what two facts of an Ok say
pub ok_both : {T E : Type 0} (P Q R : Type 0) → (P → Q → R) → (r : Result T E) → OnOk r P → OnOk r Q → OnOk r R
ok_both P Q R to (Ok x) p q = to p q
ok_both P Q R to (Err e) p q = tt

module _ (vs : List Variable) where
  -- the row of a literal
  pub row_met : (l : Literal) (v : Variable) → slice_get vs l.variable ≡ Some v → (o : Option (Bor Constraint)) → option_copied o ≡ row_of v.rows l.holds → IfSome o (λ row. IsRowFor vs l row.now)
  row_met l v there o e =
      copied_some (IsRowFor vs l) o (row_of v.rows l.holds) e (λ row is f c p at fail.
      let rows : HasRows c _ v.rows = each_at (IsRowed c at.nodes) vs l.variable v at.rowed there in
      let same = at.stands l.variable v there in
      let fails = subst (λ (t : Tree). IsNot (not l.holds) (TrueAt c t p)) same fail in
      subst (MeetsAny p) is (sign_met c _ v.rows p l.holds rows at.of_theory fails))

  pub no_rows_yet : AreRowsFor vs [] []
  no_rows_yet f c p at fail = tt

  -- one literal more
  pub rows_push : (opposites opposites' : List Literal) (rows rows' : List Constraint) (l : Literal) (row : Constraint) → AreRowsFor vs opposites rows → IsRowFor vs l row
      → opposites' ≡ opposites ++ turned l ∷ [] → map constraint_of rows' ≡ map constraint_of rows ++ constraint_of row ∷ [] → AreRowsFor vs opposites' rows'
  rows_push opposites opposites' rows rows' l row before here e e' f c p at fail =
      let parts = each_split (Fails f c p) opposites (turned l ∷ []) (subst (EachOf (Fails f c p)) e fail) in
      subst (MeetsAll p) (sym e') (each_push (Meets p) (map constraint_of rows) (constraint_of row) (before f c p at parts.0) (here f c p at parts.1.0))

  -- where the rows are refuted
  pub refuted_law : (opposites : List Literal) (rows : List Constraint) → AreRowsFor vs opposites rows → ((p : Point ℕ) → Of Fields p → ¬ (MeetsAll p (map constraint_of rows))) → IsTheoryLaw vs opposites
  refuted_law opposites rows are none f c p at fail = none p (of_fields c p at.of_theory) (are f c p at fail)
