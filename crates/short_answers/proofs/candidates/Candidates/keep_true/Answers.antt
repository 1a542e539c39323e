use Rattle.std.proofs.Common.{List, sym, subst, arith}
use Rattle.normal_atoms.specs.declared.atoms.Atom.{Atom}
use Rattle.short_answers.specs.Candidates.{AreCandidates, IsCandidate}
use Rattle.short_answers.proofs.Adding.{each_then, each_front, each_reversed}
use Rattle.short_answers.proofs.candidates.Candidates.keep_true.Goals as goal

pub loop-atom-preserved-in-Continue-branch-2 : goal.loop-atom-preserved-in-Continue-branch-2
loop-atom-preserved-in-Continue-branch-2 c =
    let k = c.loop-atom.self.context in
    let i = c.loop-atom.invariant in
    let old : List Atom = c.loop-atom.self.atoms.items in
    let new : List Atom = c.pop.new.self.items in
    let kept : List Atom = c.loop-atom.kept.items in
    let r = each_front (IsCandidate k) old new c.in-Some.atom c.in-Some.ensures.items i.candidates in
    let few = i.few in
    let a = c.in-Some.ensures.len in
    let b = c.in_ok-push.ensures.len in
    record {
      context = i.context;
      candidates = r.0;
      kept = subst (AreCandidates k) (sym c.in_ok-push.ensures.items) (each_then (IsCandidate k) kept c.in-Some.atom i.kept r.1);
      few = omega arith;
    }

pub returns-clause-candidates : goal.returns-clause-candidates
returns-clause-candidates c =
    let k = c.loop-atom.self.context in
    let kept : List Atom = c.loop-atom.kept.items in
    subst (AreCandidates k) (sym c.reverse.ensures.items) (each_reversed (IsCandidate k) kept c.loop-atom.invariant.kept)
