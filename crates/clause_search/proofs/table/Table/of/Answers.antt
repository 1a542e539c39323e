use Rattle.std.proofs.Common.{◌≡◌, List, [], ◌∷◌, ap, sym, ◌∙◌, subst, refl}
use Rattle.formula_store.specs.declared.id.FormulaId.{FormulaId}
use Rattle.formula_store.specs.Nodes.{tree}
use Rattle.clause_theory.specs.declared.clause.Literal.{Literal}
use Rattle.clause_theory.specs.declared.clause.Clause.{Clause}
use Rattle.clause_search.specs.Tables.{AreNodes, HaveNodes}
use Rattle.clause_search.specs.Nodes.{AreNodeLaws, StandsAt}
use Rattle.clause_search.specs.Soundness.{question_of, AreSound}
use Rattle.clause_search.proofs.NodeLaws.{holds_at}
use Rattle.clause_search.proofs.Begun.{begun, nodes_stand}
use Rattle.clause_search.proofs.table.Table.of.Goals as goal

pub returns : goal.returns
returns c =
    let q = question_of c.args.context c.args.store.now c.args.root in
    let ids = c.in_ok-ids.ids.items in
    let vs = c.in_ok-variables.variables.items in
    let nodes : AreNodes ids vs = subst (λ (xs : List FormulaId). AreNodes xs vs) c.deref-2.ensures.value c.in_ok-variables.ensures.nodes in
    let laws : AreNodeLaws q.nodes ids c.in_ok-clauses.clauses.items = subst (λ (xs : List FormulaId). AreNodeLaws q.nodes xs c.in_ok-clauses.clauses.items) c.deref.ensures.value c.in_ok-clauses.ensures in
    let at : StandsAt q.nodes ids c.in-Some.place (tree q.nodes q.root) = subst (λ (xs : List FormulaId). StandsAt q.nodes xs c.in-Some.place (tree q.nodes q.root)) c.deref.ensures.value c.in-Some.ensures in
    let literals : c.in_ok-literals.literals.items ≡ holds_at c.in-Some.place ∷ [] = c.in_ok-literals.ensures.items ∙ ap (λ (l : Literal). l ∷ []) c.holds.ensures in
    let k : Clause = record { literals = c.in_ok-literals.literals } in
    let grown = c.in_ok-separate_all.ensures in
    let begin : AreSound q c.args.context vs c.push.new.self.items = subst (AreSound q c.args.context vs) (sym c.in_ok-push.ensures.items) (begun q c.args.context refl ids vs nodes c.in_ok-clauses.clauses.items c.in-Some.place k c.in_ok-variables.ensures.rowed laws at literals) in
    c.in_ok-bound_all.ensures.sound q refl (grown.sound q refl begin)

pub separate_all-requires-clause-nodes : goal.separate_all-requires-clause-nodes
separate_all-requires-clause-nodes c =
    let q = question_of c.args.context c.args.store.now c.args.root in
    let ids = c.in_ok-ids.ids.items in
    let vs = c.in_ok-variables.variables.items in
    let nodes : AreNodes ids vs = subst (λ (xs : List FormulaId). AreNodes xs vs) c.deref-2.ensures.value c.in_ok-variables.ensures.nodes in
    subst (λ (xs : List FormulaId). HaveNodes q.nodes xs vs) (sym c.deref.ensures.value) (nodes_stand q c.args.context refl ids vs nodes)
