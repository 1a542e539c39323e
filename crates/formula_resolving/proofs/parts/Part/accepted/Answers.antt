use Rattle.std.proofs.Common.{false, [], sym}
use Rattle.language_meaning.specs.Resolving.{formula_variables}
use Rattle.formula_resolving.proofs.FirstCause.{unmet}
use Rattle.formula_resolving.proofs.Refusing.{accepted, refused, none_bound}
use Rattle.formula_resolving.proofs.parts.Part.accepted.Goals as goal

pub unreachable-requires : goal.unreachable-requires
unreachable-requires g c = unmet false c.args.self.causes c.args.self.height c.in-None.ensures (c.requires c.in-None-id.is)

pub returns-in-Some-clause-refused : goal.returns-in-Some-clause-refused
returns-in-Some-clause-refused g c =
    λ d names f t. refused d [] names f c.args.self.causes false c.args.self.height t.causes (sym (none_bound (formula_variables f))) t.height c.in-Some.cause c.in-Some.ensures

pub returns-in-Some-id-clause-accepted : goal.returns-in-Some-id-clause-accepted
returns-in-Some-id-clause-accepted g c =
    λ d names f t. accepted d [] names f c.args.self.causes false c.args.self.height t.causes (sym (none_bound (formula_variables f))) t.height c.in-None.ensures
