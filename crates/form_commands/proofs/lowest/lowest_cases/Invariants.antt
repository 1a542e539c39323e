use Rattle.std.proofs.Common.{◌≡◌, ◌++◌, map}
use Rattle.reference_engine.specs.Case.{case_seen, HavePoints}
use Rattle.form_commands.specs.Lowest.{lowest_case}
use Rattle.form_commands.proofs.lowest.lowest_cases.Given as goal

-- the cases so far
abbrev pub invariant-loop-case : goal.invariant-loop-case
invariant-loop-case l = record {
  can : (goal.iterator-loop-case).can_next l.case-iterator;
  finite : (goal.iterator-loop-case).is_finite l.case-iterator;
  cases : map case_seen l.lowest.items ++ map lowest_case (map case_seen l.case-iterator.rest.items) ≡ map lowest_case (map case_seen l.fn.cases.items);
  points : HavePoints l.lowest.items;
  rest : HavePoints l.case-iterator.rest.items;
}
