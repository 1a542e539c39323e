use Rattle.std.proofs.Common.{◌≡◌, ap, ap₂, if◌then◌else◌, sym, subst, ◌∙◌, take, List, nat_eq, arith, rules}
use Rattle.std.proofs.lemmas.Int.{to_z-of_z}
use Rattle.std.proofs.lemmas.List.{take_all}
use Rattle.std.specs.Int.{w128}
use Rattle.std.specs.Prelude.{FitsSigned}
use Rattle.linear_forms.specs.Values.{number_at}
use Rattle.language_meaning.specs.declared.entries.PointEntry.{PointEntry}
use Rattle.written_syntax.specs.PointNumbers.{point_of}
use Rattle.written_syntax.specs.Valued.{IsIn}
use Rattle.written_syntax.proofs.EntryLists.{all_at, more_entries}
use Rattle.point_queries.proofs.PointLemmas.{ArePut, none_put, one_put, all_put}
use Rattle.point_queries.proofs.points.values_of.Goals as goal

pub loop-entry-init : goal.loop-entry-init
loop-entry-init c =
    let fits : FitsSigned w128 c.denominator.result = search rules in
    record {
      put = none_put _ _ _ (λ n. ap (λ v. number_at v n) c.new-values.ensures);
      rest = c.requires.numbered;
      below = ap (λ v. v.denominator) c.new-values.ensures ∙ to_z-of_z w128 c.denominator.result fits ∙ c.denominator.ensures.value;
    }

pub loop-entry-preserved : goal.loop-entry-preserved
loop-entry-preserved c =
    let names = c.args.names.now in
    let p = point_of c.args.point.now in
    let e = c.entry-item.result in
    let front : List PointEntry = take c.loop-entry.entry-index c.args.entries.now in
    let here = all_at (λ (f : PointEntry). IsIn f.name names) c.args.entries.now c.loop-entry.entry-index e c.loop-entry-test.true c.entry-item.is c.loop-entry.invariant.rest in
    let fits : FitsSigned w128 c.numerator-number.result = search rules in
    let raw = c.in_default.ensures.put in
    record {
      put = subst (λ (es : List PointEntry). ArePut names p es (number_at c.put.new.self)) (sym (more_entries c.args.entries.now c.loop-entry.entry-index e c.loop-entry-test.true c.entry-item.is))
          (one_put names p front e (number_at c.loop-entry.values) (number_at c.put.new.self) c.numerator-number.result
          (λ n. raw n ∙ ap₂ (λ m k. if nat_eq m n then k else number_at c.loop-entry.values n) c.place.ensures (to_z-of_z w128 c.numerator-number.result fits)) c.loop-entry.invariant.put here.0 c.numerator-number.ensures.value);
      rest = here.1;
      below = c.in_default.ensures.denominator ∙ c.loop-entry.invariant.below;
    }

pub returns-clause-at : goal.returns-clause-at
returns-clause-at c =
    let whole : take c.loop-entry.entry-index c.args.entries.now ≡ c.args.entries.now = take_all c.loop-entry.entry-index c.args.entries.now (omega arith) in
    all_put c.args.names.now (point_of c.args.point.now) c.args.entries.now c.requires.distinct c.requires.point (number_at c.loop-entry.values)
    (subst (λ (es : List PointEntry). ArePut c.args.names.now (point_of c.args.point.now) es (number_at c.loop-entry.values)) whole c.loop-entry.invariant.put)
