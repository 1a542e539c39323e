use Rattle.std.proofs.Common.{rules, ◌≡◌, List, true, false, map, sym, ap, ◌∙◌, subst}
use Rattle.std.specs.declared.vec.Vec.{Vec}
use Rattle.std.specs.declared.alloc.Global.{Global}
use Rattle.logic_meaning.specs.Atoms.{atoms_in, atoms_of}
use Rattle.normal_atoms.specs.declared.atoms.Atom.{Atom}
use Rattle.normal_atoms.specs.Atoms.{atom_of, context_of}
use Rattle.logic_meaning.specs.Reference.{stands_among}
use Rattle.nnf_trees.proofs.ResultLaws.{stands_once}
use Rattle.nnf_trees.specs.declared.nnf.Nnf.{Nnf}
use Rattle.nnf_trees.specs.Nnfs.{nnf_of}
use Rattle.reference_engine.specs.Told.{Told, formulas_of}
use Rattle.reference_engine.proofs.Seen.{told_as}
use Rattle.reference_engine.proofs.Paying.{one_full, one_kept}
use Rattle.reference_engine.proofs.steps.one_step.Goals as goal

pub returns-then-stands_in_some-clause-told : goal.returns-then-stands_in_some-clause-told
returns-then-stands_in_some-clause-told c =
    let f = nnf_of c.args.branch in
    let listed : map atom_of c.in_ok-atoms.atoms.items ≡ atoms_of f = search rules in
    let stands : stands_among c.args.x.number (atoms_in f) ≡ true
    = sym (ap (λ (bs : List Atom). stands_among c.args.x.number (map atom_of bs)) c.deref.ensures.value ∙ ap (stands_among c.args.x.number) listed ∙ stands_once c.args.x.number f) ∙ sym c.stands_in_some.ensures ∙ c.if-stands_in_some.true in
    subst (Told (λ (v : Vec Nnf Global). formulas_of v.items) c.full_step.result c.full_step.new.cost) (sym (one_full (context_of c.args.setting.context) c.args.setting.limit c.args.x.number f c.args.cost.now stands)) c.full_step.ensures.told

pub returns-in_ok-alone-clause-told : goal.returns-in_ok-alone-clause-told
returns-in_ok-alone-clause-told c =
    let f = nnf_of c.args.branch in
    let listed : map atom_of c.in_ok-atoms.atoms.items ≡ atoms_of f = search rules in
    let stands : stands_among c.args.x.number (atoms_in f) ≡ false
    = sym (ap (λ (bs : List Atom). stands_among c.args.x.number (map atom_of bs)) c.deref.ensures.value ∙ ap (stands_among c.args.x.number) listed ∙ stands_once c.args.x.number f) ∙ sym c.stands_in_some.ensures ∙ c.if-stands_in_some.false in
    told_as (λ (v : Vec Nnf Global). formulas_of v.items) c.in_ok-alone.field-0 _ c.args.cost.now _ c.in_ok-alone.ensures.alone (one_kept (context_of c.args.setting.context) c.args.setting.limit c.args.x.number f c.args.cost.now stands)
