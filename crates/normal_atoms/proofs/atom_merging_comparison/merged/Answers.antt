use Rattle.std.proofs.Common.{refl, subst, sym, ap, ◌∙◌}
use Rattle.normal_atoms.specs.Computed.{merging_of}
use Rattle.normal_atoms.specs.Computed as merging
use Rattle.normal_atoms.proofs.Computed.{compared_apart, compared_so, absorbing_is, one_or_kept}
use Rattle.normal_atoms.specs.Atoms.{context_of, relation_of}
use Rattle.normal_atoms.proofs.Stepped.{ok_map}
use Rattle.logic_meaning.specs.Atom.{Compare}
use Rattle.normal_atoms.specs.Verdicts.{Settled, Kept, First, Second, normal_comparison}
use Rattle.normal_atoms.specs.Merged.{IsMerging}
use Rattle.normal_atoms.proofs.JoinedComparisons.{normal_content, judged_verdict, settles, stays_kept, merges_at, kept_at}
use Rattle.normal_atoms.proofs.MergedAnswers.{settled_answer, one_answer}
use Rattle.normal_atoms.proofs.atom_merging_comparison.merged.Goals as goal

pub position_of-requires-clause-content : goal.position_of-requires-clause-content
position_of-requires-clause-content c = normal_content (context_of c.args.context) (relation_of c.args.relation) c.args.form.now c.requires.normal

pub position_of-requires-clause-other_content : goal.position_of-requires-clause-other_content
position_of-requires-clause-other_content c = normal_content (context_of c.args.context) (relation_of c.args.other_relation) c.args.other.now c.requires.other_normal

pub returns-in-Settled-clause-merged : goal.returns-in-Settled-clause-merged
returns-in-Settled-clause-merged c =
    let t = context_of c.args.context in
    let j = c.args.junction in
    let r = relation_of c.args.relation in
    let s = relation_of c.args.other_relation in
    let f = c.args.form.now in
    let g = c.args.other.now in
    let x = c.requires.normal in
    let y = c.requires.other_normal in
    let h = judged_verdict t r f s g x y c.in-Some.ensures.0 j c.in-Some.position c.in-Some.ensures.1 Settled c.in-Settled.ensures in
    subst (IsMerging t j (Compare r f) (Compare s g)) (sym c.absorbing.ensures) (settled_answer t c.args.junction (Compare r f) (Compare s g) (settles t r f s g x y c.in-Some.ensures.0 j h))

pub returns-in-First-clause-merged : goal.returns-in-First-clause-merged
returns-in-First-clause-merged c =
    let t = context_of c.args.context in
    let j = c.args.junction in
    let r = relation_of c.args.relation in
    let s = relation_of c.args.other_relation in
    let q = relation_of c.in-First.relation in
    let f = c.args.form.now in
    let g = c.args.other.now in
    let x = c.requires.normal in
    let y = c.requires.other_normal in
    let p = c.in-Some.ensures.0 in
    let h = judged_verdict t r f s g x y p j c.in-Some.position c.in-Some.ensures.1 (First q) c.in-First.ensures in
    ok_map c.normal_comparison.result
    (λ m w. one_answer t j (Compare r f) (Compare s g) (normal_comparison t q f) m
    (merges_at t r f s g x y p j q r f x refl h.0)
    (kept_at t r f s g x y p j q r f x refl h.0 h.1 c.normal_comparison.ensures.given.constant_within) w)
    c.normal_comparison.ensures.one

pub returns-in-Second-clause-merged : goal.returns-in-Second-clause-merged
returns-in-Second-clause-merged c =
    let t = context_of c.args.context in
    let j = c.args.junction in
    let r = relation_of c.args.relation in
    let s = relation_of c.args.other_relation in
    let q = relation_of c.in-Second.relation in
    let f = c.args.form.now in
    let g = c.args.other.now in
    let x = c.requires.normal in
    let y = c.requires.other_normal in
    let p = c.in-Some.ensures.0 in
    let h = judged_verdict t r f s g x y p j c.in-Some.position c.in-Some.ensures.1 (Second q) c.in-Second.ensures in
    ok_map c.normal_comparison-in-Second.result
    (λ m w. one_answer t j (Compare r f) (Compare s g) (normal_comparison t q g) m
    (merges_at t r f s g x y p j q s g y p h.0)
    (kept_at t r f s g x y p j q s g y p h.0 h.1 c.normal_comparison-in-Second.ensures.given.constant_within) w)
    c.normal_comparison-in-Second.ensures.one

pub returns-in-Kept-clause-merged : goal.returns-in-Kept-clause-merged
returns-in-Kept-clause-merged c =
    let t = context_of c.args.context in
    let j = c.args.junction in
    let r = relation_of c.args.relation in
    let s = relation_of c.args.other_relation in
    let f = c.args.form.now in
    let g = c.args.other.now in
    let x = c.requires.normal in
    let y = c.requires.other_normal in
    let p = c.in-Some.ensures.0 in
    stays_kept t r f s g x y p j (judged_verdict t r f s g x y p j c.in-Some.position c.in-Some.ensures.1 Kept c.in-Kept.ensures)

pub returns-in_default-clause-computed : goal.returns-in_default-clause-computed
returns-in_default-clause-computed c = compared_apart (context_of c.args.context) c.args.junction (relation_of c.args.relation) c.args.form.now (relation_of c.args.other_relation) c.args.other.now c.in_default.ensures

pub returns-in-Settled-clause-computed : goal.returns-in-Settled-clause-computed
returns-in-Settled-clause-computed c =
    let t = context_of c.args.context in
    let j = c.args.junction in
    let r = relation_of c.args.relation in
    let s = relation_of c.args.other_relation in
    let f = c.args.form.now in
    let g = c.args.other.now in
    compared_so t j r f s g c.in-Some.ensures.0 c.in-Some.position c.in-Some.ensures.2 Settled c.in-Settled.ensures (merging_of c.absorbing.result) (ap merging_of c.absorbing.ensures ∙ absorbing_is c.args.junction)

pub returns-in-First-clause-computed : goal.returns-in-First-clause-computed
returns-in-First-clause-computed c =
    let t = context_of c.args.context in
    let j = c.args.junction in
    let r = relation_of c.args.relation in
    let s = relation_of c.args.other_relation in
    let q = relation_of c.in-First.relation in
    let f = c.args.form.now in
    let g = c.args.other.now in
    ok_map c.normal_comparison.result
    (λ m w. compared_so t j r f s g c.in-Some.ensures.0 c.in-Some.position c.in-Some.ensures.2 (First q) c.in-First.ensures (merging_of m) (one_or_kept (normal_comparison t q f) m w))
    c.normal_comparison.ensures.one

pub returns-in-Second-clause-computed : goal.returns-in-Second-clause-computed
returns-in-Second-clause-computed c =
    let t = context_of c.args.context in
    let j = c.args.junction in
    let r = relation_of c.args.relation in
    let s = relation_of c.args.other_relation in
    let q = relation_of c.in-Second.relation in
    let f = c.args.form.now in
    let g = c.args.other.now in
    ok_map c.normal_comparison-in-Second.result
    (λ m w. compared_so t j r f s g c.in-Some.ensures.0 c.in-Some.position c.in-Some.ensures.2 (Second q) c.in-Second.ensures (merging_of m) (one_or_kept (normal_comparison t q g) m w))
    c.normal_comparison-in-Second.ensures.one

pub returns-in-Kept-clause-computed : goal.returns-in-Kept-clause-computed
returns-in-Kept-clause-computed c =
    let t = context_of c.args.context in
    let j = c.args.junction in
    let r = relation_of c.args.relation in
    let s = relation_of c.args.other_relation in
    let f = c.args.form.now in
    let g = c.args.other.now in
    compared_so t j r f s g c.in-Some.ensures.0 c.in-Some.position c.in-Some.ensures.2 Kept c.in-Kept.ensures merging.Kept refl
