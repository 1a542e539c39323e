use Rattle.std.proofs.Common.{sym, subst, List}
use Rattle.exact_numbers.specs.declared.fraction.Fraction.{Fraction}
use Rattle.logic_meaning.specs.declared.form.VarId.{VarId}
use Rattle.certificates.specs.Found.{IsIndex}
use Rattle.certificates.proofs.Indexed.{index_more}
use Rattle.certificates.proofs.found.Found.with.Goals as goal

pub invariant_of-result : goal.invariant_of-result
invariant_of-result c =
    subst (λ (list : List (VarId × Fraction)). IsIndex list c.insert.new.self.entries) (sym c.in_ok-push.ensures.items)
    (index_more c.self.inside.list.items c.self.inside.values.entries c.insert.new.self.entries c.args.name c.args.value c.self.invariant c.in_ok-insert.ensures.updates.0)
