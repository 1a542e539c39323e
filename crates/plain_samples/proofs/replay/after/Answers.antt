use Rattle.std.proofs.Common.{rules, ◌≡◌, List, true, false, map, sym, ap, ◌∙◌}
use Rattle.logic_meaning.specs.Atoms.{atoms_in, atoms_of}
use Rattle.logic_meaning.specs.Steps.{result_at}
use Rattle.logic_meaning.specs.Reference.{stands_among}
use Rattle.normal_atoms.specs.declared.atoms.Atom.{Atom}
use Rattle.normal_atoms.specs.Atoms.{atom_of, context_of}
use Rattle.logic_meaning.specs.NormalForm.{normal_atom}
use Rattle.sample_reference.specs.Traced.{after_step}
use Rattle.nnf_trees.specs.Nnfs.{nnf_of}
use Rattle.nnf_trees.proofs.ResultLaws.{stands_once}
use Rattle.test_points.specs.Points.{place_of}
use Rattle.reference_engine.proofs.Arms.{if_ok_also}
use Rattle.plain_samples.specs.Replay.{taken}
use Rattle.plain_samples.proofs.Walking.{within_put, after_put, after_kept}
use Rattle.plain_samples.proofs.replay.after.Goals as goal

pub put-requires-clause-within : goal.put-requires-clause-within
put-requires-clause-within c =
    let x = c.args.point.now.name.number in
    let f = nnf_of c.args.f.now in
    let listed : map atom_of c.in_ok-atoms.atoms.items ≡ atoms_of f = search rules in
    let stands : stands_among x (atoms_in f) ≡ true
    = sym (ap (λ (bs : List Atom). stands_among x (map atom_of bs)) c.deref.ensures.value ∙ ap (stands_among x) listed ∙ stands_once x f) ∙ sym c.stands_in_some.ensures ∙ c.if-stands_in_some.true in
    within_put (context_of c.args.context) (taken f c.args.point.now) stands c.requires.takable.within

pub returns-then-stands_in_some-clause-formula : goal.returns-then-stands_in_some-clause-formula
returns-then-stands_in_some-clause-formula c =
    let o = context_of c.args.context in
    let t = c.args.point.now in
    let x = t.name.number in
    let f = nnf_of c.args.f.now in
    let listed : map atom_of c.in_ok-atoms.atoms.items ≡ atoms_of f = search rules in
    let stands : stands_among x (atoms_in f) ≡ true
    = sym (ap (λ (bs : List Atom). stands_among x (map atom_of bs)) c.deref.ensures.value ∙ ap (stands_among x) listed ∙ stands_once x f) ∙ sym c.stands_in_some.ensures ∙ c.if-stands_in_some.true in
    if_ok_also c.put.result (λ g. nnf_of g ≡ result_at o (normal_atom o) x (place_of t) f) (λ g. nnf_of g ≡ after_step o (taken f t)) c.put.ensures.formula (λ g e. e ∙ after_put o (taken f t) stands)

pub returns-clause-formula : goal.returns-clause-formula
returns-clause-formula c =
    let o = context_of c.args.context in
    let t = c.args.point.now in
    let x = t.name.number in
    let f = nnf_of c.args.f.now in
    let listed : map atom_of c.in_ok-atoms.atoms.items ≡ atoms_of f = search rules in
    let stands : stands_among x (atoms_in f) ≡ false
    = sym (ap (λ (bs : List Atom). stands_among x (map atom_of bs)) c.deref.ensures.value ∙ ap (stands_among x) listed ∙ stands_once x f) ∙ sym c.stands_in_some.ensures ∙ c.if-stands_in_some.false in
    if_ok_also c.copied.result (λ g. nnf_of g ≡ f) (λ g. nnf_of g ≡ after_step o (taken f t)) c.copied.ensures.formula (λ g e. e ∙ after_kept o (taken f t) stands)
