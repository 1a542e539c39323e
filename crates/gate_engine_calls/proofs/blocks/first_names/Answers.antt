use Rattle.std.proofs.Common.{rules, ◌≡◌, ◌+◌, [], ◌∷◌, ◌++◌, sym, subst}
use Rattle.gate_engine_calls.proofs.FirstNames.{AreBelow, are_below_next}
use Rattle.gate_engine_calls.proofs.blocks.first_names.Goals as goal

pub loop-number-preserved : goal.loop-number-preserved
loop-number-preserved c =
    let x = c.name.result in
    let names = c.loop-number.names.items in
    let e : x.number ≡ c.loop-number.number = c.name.ensures in
    let is : c.push.new.self.items ≡ names ++ x ∷ [] = search rules in
    let next = are_below_next x names (subst (λ n. AreBelow n names) (sym e) c.loop-number.invariant) in
    subst (AreBelow (c.loop-number.number + 1)) (sym is) (subst (λ n. AreBelow (n + 1) (names ++ x ∷ [])) e next)
