use Rattle.std.proofs.Common.{List, ◌++◌, take, map, flat_map, ap, sym, ◌∙◌, arith}
use Rattle.std.proofs.lemmas.Grind.{flat_map-append}
use Rattle.std.proofs.lemmas.List.{map-append}
use Rattle.logic_meaning.specs.Atom as meant
use Rattle.logic_meaning.specs.Answer.{Place}
use Rattle.logic_meaning.specs.FieldsPoints.{atom_points}
use Rattle.normal_atoms.specs.declared.atoms.Atom.{Atom}
use Rattle.normal_atoms.specs.Atoms.{atom_of}
use Rattle.branch_points.specs.Chosen.{shape_atoms, listed_atoms}
use Rattle.branch_points.proofs.ListedAtoms.{listed_more, listed_all}
use Rattle.branch_points.proofs.fields.atoms_with.Goals as goal

pub loop-id-preserved : goal.loop-id-preserved
loop-id-preserved c side =
    let points : meant.Atom → List Place = atom_points side c.args.x.number in
    let s = c.shape.result.now in
    let old : List Atom = listed_atoms c.args.store.now (take c.loop-id.id-index c.args.ids.now) in
    let more = listed_more c.args.store.now c.args.ids.now c.loop-id.id-index (record { number = 0 }) s c.loop-id-test.true c.shape.ensures.node in
    c.in_ok-push_with.ensures side ∙ ap (λ (l : List Place). l ++ flat_map points (map atom_of (shape_atoms s))) (c.loop-id.invariant side)
    ∙ sym (ap (λ (l : List Atom). flat_map points (map atom_of l)) more ∙ ap (flat_map points) (map-append atom_of old (shape_atoms s)) ∙ flat_map-append points (map atom_of old) (map atom_of (shape_atoms s)))

pub returns : goal.returns
returns c side =
    c.loop-id.invariant side ∙ ap (λ (l : List Atom). flat_map (atom_points side c.args.x.number) (map atom_of l)) (listed_all c.args.store.now c.args.ids.now c.loop-id.id-index (omega arith))
