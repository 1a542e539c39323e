use Rattle.std.proofs.Common.{map, subst}
use Rattle.exact_numbers.specs.Fraction.{frac_of}
use Rattle.logic_meaning.specs.Context.{Fields}
use Rattle.logic_meaning.specs.Tree.{TrueAt}
use Rattle.logic_meaning.specs.Values.{with_values}
use Rattle.formula_store.specs.Nodes.{tree}
use Rattle.linear_forms.specs.Values.{number_of}
use Rattle.certificates.specs.Constraints.{constraint_of}
use Rattle.sample_reference.specs.Seen.{values_of}
use Rattle.least_search.specs.Found.{at_value}
use Rattle.least_search.proofs.Checked.{some_is, told_attained}
use Rattle.least_search.proofs.problem.Problem.attained.Goals as goal

pub returns-then-branch : goal.returns-then-branch
returns-then-branch c = record {
  found =
      let s = c.args.self in
      let h = c.requires.problem in
      let f = tree s.store.now s.matrix in
      let v = frac_of c.in-Some.least in
      let values = c.in-Some-2.values in
      let met = subst (λ vs. TrueAt Fields f (with_values (at_value s.target.number v) (values_of vs))) c.deref.ensures.value (c.in_ok-is_met.ensures (c.if-not-branch.false)) in
      told_attained s.target.number (map number_of s.names.items) f (map constraint_of s.rows.items) h.once h.apart h.rows v (values_of values.items) c.in-Some.least.positive
      (some_is _ c.in_ok-values.field-0 values c.in-Some-2.is c.in_ok-values.ensures.each) (some_is _ c.in_ok-values.field-0 values c.in-Some-2.is c.in_ok-values.ensures.names) met
      c.in-Some.ensures (c.in_ok-is_bound.ensures c.if-branch.true);
}
