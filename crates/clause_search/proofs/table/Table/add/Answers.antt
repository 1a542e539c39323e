use Rattle.std.proofs.Common.{ℕ, List, [], ◌∷◌, ◌++◌, sym, subst, ap, ◌∙◌}
use Rattle.logic_meaning.specs.Formula.{One}
use Rattle.logic_meaning.specs.Tree.{Tree}
use Rattle.normal_atoms.specs.Atoms.{atom_of}
use Rattle.clause_search.specs.declared.variables.Variable.{Variable}
use Rattle.clause_search.specs.Variables.{formula, IsRowed}
use Rattle.clause_search.specs.Soundness.{AreSound}
use Rattle.clause_search.specs.Variables.{AreKept, StandsAmong}
use Rattle.clause_search.proofs.Solving.{kept_push, stands_last, variable_push}
use Rattle.clause_search.proofs.table.Table.add.Goals as goal

pub returns-clause-grown : goal.returns-clause-grown
returns-clause-grown c = λ nodes.
    let v = c.in_ok-variable.variable in
    let before = c.args.self.now in
    let items = c.in_ok-push.ensures.items in
    record {
      sound = λ q same sound.
          let rowed : IsRowed q.theory q.nodes v = subst (λ t. IsRowed t q.nodes v) (sym sound.theory) (c.in_ok-variable.ensures.rows q.nodes) in
          subst (λ (vs : List Variable). AreSound q c.args.context vs before.clauses.items) (sym items) (variable_push q c.args.context before.variables.items before.clauses.items sound v rowed);
      kept = subst (AreKept before.variables.items) (sym items) (kept_push before.variables.items v);
    }

pub returns-clause-place : goal.returns-clause-place
returns-clause-place c =
    let v = c.in_ok-variable.variable in
    let vs = c.args.self.now.variables.items in
    let t : Tree = One (atom_of c.args.atom) in
    let stands = stands_last vs v t (λ nodes. ap (λ m. formula nodes m) c.in_ok-variable.ensures.meaning) in
    let at : StandsAmong (vs ++ v ∷ []) c.len-place.result t = subst (λ (k : ℕ). StandsAmong (vs ++ v ∷ []) k t) (sym (c.len-place.ensures ∙ c.args.self.now.variables.ok.0)) stands in
    subst (λ (xs : List Variable). StandsAmong xs c.len-place.result t) (sym c.in_ok-push.ensures.items) at
