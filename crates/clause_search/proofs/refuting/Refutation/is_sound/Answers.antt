use Rattle.std.proofs.Common.{List, map, sym, subst}
use Rattle.certificates.specs.declared.constraint.Constraint.{Constraint}
use Rattle.linear_theory.specs.Meeting.{MeetsAll}
use Rattle.linear_theory.proofs.Refutes.{refutes}
use Rattle.certificates.specs.Constraints.{constraint_of}
use Rattle.clause_search.proofs.refuting.Refutation.is_sound.Goals as goal

pub returns-in-Ok : goal.returns-in-Ok
returns-in-Ok c = λ t p o h.
    let same : List Constraint = c.deref.result.now in
    refutes (map constraint_of same) c.deref-2.result.now (c.in-Ok.ensures.decides.0 t) p o (subst (λ (cs : List Constraint). MeetsAll p (map constraint_of cs)) (sym c.deref.ensures.value) h)
