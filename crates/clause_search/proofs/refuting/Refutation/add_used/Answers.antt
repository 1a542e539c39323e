use Rattle.std.proofs.Common.{◌≡◌, [], ◌∷◌, ◌++◌, map}
use Rattle.certificates.specs.Constraints.{constraint_of}
use Rattle.clause_theory.specs.Turned.{turned}
use Rattle.clause_search.specs.Refuting.{AreRowsFor}
use Rattle.clause_search.proofs.Refuted.{ok_both, rows_push}
use Rattle.clause_search.proofs.refuting.Refutation.add_used.Goals as goal

pub returns-in-Some : goal.returns-in-Some
returns-in-Some c =
    let vs = c.args.variables.now in
    let old = c.args.self.now in
    let new = c.add.new.self in
    let row = c.in-Some.row.now in
    ok_both (new.opposites.items ≡ old.opposites.items ++ turned c.args.literal ∷ []) (map constraint_of new.constraints.items ≡ map constraint_of old.constraints.items ++ constraint_of row ∷ [])
    (AreRowsFor vs old.opposites.items old.constraints.items → AreRowsFor vs new.opposites.items new.constraints.items)
    (λ e e' before. rows_push vs old.opposites.items new.opposites.items old.constraints.items new.constraints.items c.args.literal row before c.in-Some.ensures e e')
    c.add.result c.add.ensures.opposites c.add.ensures.constraints
