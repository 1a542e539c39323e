use Rattle.std.proofs.Common.{◌≡◌, None, true, false, refl, sym, ap, ◌∙◌}
use Rattle.logic_meaning.specs.Atom.{Compare, opposite_relation}
use Rattle.logic_meaning.specs.declared.junction.Junction.TheVariants.{Conjunction, Disjunction}
use Rattle.normal_atoms.specs.Atoms.{context_of, relation_of}
use Rattle.normal_atoms.specs.Verdicts.{Settled, both, verdict_of}
use Rattle.normal_atoms.specs.Computed.{is_settled, decided_by}
use Rattle.normal_atoms.proofs.Computed.{compared_open, decided_so, settled_of, unsettled_of}
use Rattle.normal_atoms.proofs.JoinedComparisons.{normal_content, normal_relation, relation_toward, judged_both, settles, implies, not_implies, not_excludes}
use Rattle.normal_atoms.proofs.MergedAnswers.{decisive, indecisive}
use Rattle.normal_atoms.proofs.atom_merging_comparison.decided.Goals as goal

pub position_of-requires-clause-content : goal.position_of-requires-clause-content
position_of-requires-clause-content c = normal_content (context_of c.args.context) (relation_of c.args.relation) c.args.form.now c.requires.normal

pub position_of-requires-clause-other_content : goal.position_of-requires-clause-other_content
position_of-requires-clause-other_content c = normal_content (context_of c.args.context) (relation_of c.args.other_relation) c.args.other.now c.requires.other_normal

pub returns-then-is_settled : goal.returns-then-is_settled
returns-then-is_settled c =
    let t = context_of c.args.context in
    let r = relation_of c.args.relation in
    let s = relation_of c.args.other_relation in
    let f = c.args.form.now in
    let g = c.args.other.now in
    let x = c.requires.normal in
    let y = c.requires.other_normal in
    let w = c.in_ok-position.position in
    let p = c.in_ok-position.ensures.0 in
    let e : Settled ≡ both w r (opposite_relation s) = sym (decisive (verdict_of c.both.result) c.if-is_settled.ensures) ∙ c.both.ensures ∙ ap (both w r) c.opposite.ensures in
    let z = c.in_ok-position.ensures.2 in
    let k = settled_of (verdict_of c.both.result) c.if-is_settled.ensures in
    record { computed = decided_so t r f s g p w z true (is_settled (both w r s)) (ap is_settled (sym (c.both.ensures ∙ ap (both w r) c.opposite.ensures)) ∙ k) refl; decided = implies t r f s g x y p (judged_both t r f s g x y p r (opposite_relation s) (normal_relation t r f x) (relation_toward t Disjunction s (normal_relation t s g y)) w c.in_ok-position.ensures.1 Settled e) }

pub returns-then-is_settled-2 : goal.returns-then-is_settled-2
returns-then-is_settled-2 c =
    let t = context_of c.args.context in
    let r = relation_of c.args.relation in
    let s = relation_of c.args.other_relation in
    let f = c.args.form.now in
    let g = c.args.other.now in
    let x = c.requires.normal in
    let y = c.requires.other_normal in
    let w = c.in_ok-position.position in
    let p = c.in_ok-position.ensures.0 in
    let e : Settled ≡ both w r s = sym (decisive (verdict_of c.both-else-is_settled.result) c.if-is_settled-2.ensures) ∙ c.both-else-is_settled.ensures in
    let z = c.in_ok-position.ensures.2 in
    let k = unsettled_of (verdict_of c.both.result) c.if-is_settled.ensures in
    let l = settled_of (verdict_of c.both-else-is_settled.result) c.if-is_settled-2.ensures in
    record { computed = decided_so t r f s g p w z false true (ap is_settled (sym (c.both.ensures ∙ ap (both w r) c.opposite.ensures)) ∙ k) (ap is_settled (sym c.both-else-is_settled.ensures) ∙ l); decided = settles t r f s g x y p Conjunction (judged_both t r f s g x y p r s (normal_relation t r f x) (normal_relation t s g y) w c.in_ok-position.ensures.1 Settled e) }

pub returns-else-is_settled-2 : goal.returns-else-is_settled-2
returns-else-is_settled-2 c =
    let t = context_of c.args.context in
    let r = relation_of c.args.relation in
    let s = relation_of c.args.other_relation in
    let f = c.args.form.now in
    let g = c.args.other.now in
    let x = c.requires.normal in
    let y = c.requires.other_normal in
    let w = c.in_ok-position.position in
    let p = c.in_ok-position.ensures.0 in
    let l = c.in_ok-position.ensures.1 in
    let u = verdict_of c.both.result in
    let v = verdict_of c.both-else-is_settled.result in
    let i = normal_relation t r f x in
    let k = normal_relation t s g y in
    let z = c.in_ok-position.ensures.2 in
    record {
      computed = decided_so t r f s g p w z false false (ap is_settled (sym (c.both.ensures ∙ ap (both w r) c.opposite.ensures)) ∙ unsettled_of u c.if-is_settled.ensures) (ap is_settled (sym c.both-else-is_settled.ensures) ∙ unsettled_of v c.if-is_settled-2.ensures);
      decided = (
        not_implies t r f s g x y p u (judged_both t r f s g x y p r (opposite_relation s) i (relation_toward t Disjunction s k) w l u (c.both.ensures ∙ ap (both w r) c.opposite.ensures)) (indecisive u c.if-is_settled.ensures),
        not_excludes t r f s g x y p v (judged_both t r f s g x y p r s i k w l v c.both-else-is_settled.ensures) (indecisive v c.if-is_settled-2.ensures),
      );
    }

pub returns-in_err-position-clause-computed : goal.returns-in_err-position-clause-computed
returns-in_err-position-clause-computed c =
    let h = c.from_residual.ensures in
    let k : None ≡ decided_by (context_of c.args.context) (Compare (relation_of c.args.relation) c.args.form.now) (Compare (relation_of c.args.other_relation) c.args.other.now) =
    compared_open (context_of c.args.context) (relation_of c.args.relation) c.args.form.now (relation_of c.args.other_relation) c.args.other.now c.in_err-position.ensures in
    cc
