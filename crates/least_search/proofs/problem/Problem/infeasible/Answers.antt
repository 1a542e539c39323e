use Rattle.std.proofs.Common.{map, sym, subst}
use Rattle.formula_store.specs.Nodes.{tree}
use Rattle.linear_forms.specs.Values.{number_of}
use Rattle.linear_theory.specs.Meeting.{MeetsAll}
use Rattle.certificates.specs.Constraints.{constraint_of}
use Rattle.least_search.proofs.Checked.{told_infeasible}
use Rattle.least_search.proofs.problem.Problem.infeasible.Goals as goal

pub returns-then-branch : goal.returns-then-branch
returns-then-branch c = record {
  found =
      let s = c.args.self.now in
      let h = c.requires.problem in
      told_infeasible s.target.number (map number_of s.names.items) (tree s.store.now s.matrix) (map constraint_of s.rows.items) h.once h.apart h.rows
      (λ p o m. c.in_ok-are_refuted.ensures c.if-branch.true p o (subst (λ cs. MeetsAll p (map constraint_of cs)) (sym c.deref.ensures.value) m));
}
