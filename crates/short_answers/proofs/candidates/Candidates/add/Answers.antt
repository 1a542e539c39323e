use Rattle.std.proofs.Common.{List, sym, subst}
use Rattle.normal_atoms.specs.declared.atoms.Atom.{Atom}
use Rattle.short_answers.specs.Candidates.{AreCandidates, IsCandidate}
use Rattle.short_answers.proofs.Adding.{each_then}
use Rattle.short_answers.proofs.Candidate.{normal_candidate}
use Rattle.short_answers.proofs.candidates.Candidates.add.Goals as goal

pub returns-in_ok-push-in-Ok-One-clause-candidates : goal.returns-in_ok-push-in-Ok-One-clause-candidates
returns-in_ok-push-in-Ok-One-clause-candidates c =
    let k = c.args.self.now.context in
    let atoms : List Atom = c.args.self.now.atoms.items in
    let one = normal_candidate k c.args.atom c.in-Ok-One.atom c.normal.result c.in-Ok-One.field-0 c.in-Ok-One.is c.in-Ok-One.field-0-is c.requires.in_context c.normal.ensures.normal c.normal.ensures.well_formed in
    subst (AreCandidates k) (sym c.in_ok-push-in-Ok-One.ensures.items) (each_then (IsCandidate k) atoms c.in-Ok-One.atom c.requires.candidates one)
