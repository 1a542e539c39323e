use Rattle.std.proofs.Common.{◌≡◌, ◌++◌, List, [], ◌∷◌, map, length, ap, sym, ◌∙◌, subst, rules}
use Rattle.std.proofs.lemmas.Iterator.Adapters.{YieldsList-from_vec}
use Rattle.std.proofs.lemmas.Iterator.Consumers.{YieldsList-turn}
use Rattle.logic_meaning.specs.Context.{Fields}
use Rattle.logic_meaning.specs.Atom.{Atom, Says}
use Rattle.formula_laws.specs.TheoryAtoms.{AtomIn}
use Rattle.elimination_theory.proofs.SomeListed.{each_among, each_right}
use Rattle.normal_atoms.specs.declared.atoms.Atom.{Atom as Written}
use Rattle.normal_atoms.specs.Atoms.{atom_of, tree_of, IsWellFormedNormal}
use Rattle.field_shadows.specs.Normalised.{AreNormalised}
use Rattle.field_shadows.proofs.Listing.{among_at, among_mapped}
use Rattle.field_shadows.proofs.Steps.{by_recursion_each}
use Rattle.field_shadows.proofs.Normal.{normalised_first, true_more, one_more, false_one, with_next}
use Rattle.field_shadows.proofs.normalising.normalised.Goals as goal

pub loop-atom-init : goal.loop-atom-init
loop-atom-init c = normalised_first c.args.kept.items c.requires.kept c.requires.kept_well_formed

pub loop-atom-preserved-in-Ok-True : goal.loop-atom-preserved-in-Ok-True
loop-atom-preserved-in-Ok-True c =
    let vs = c.args.others.items in
    let ys = c.loop-atom.yielded in
    let a = c.in-Some.atom in
    let gives = c.into_iter-atom-iterator.ensures.into_iter_gives in
    let turn = YieldsList-turn (YieldsList-from_vec {s = c.into_iter-atom-iterator.result} vs gives.0 (search rules)) ys c.loop-atom.atom-iterator c.loop-atom.yielded_by c.next.result c.next.new.self a c.in-Some.is c.next.ensures.steps in
    let here = among_at vs (length ys) a turn.0 turn.1 in
    let i = each_among (λ (b : Written). AtomIn Fields (atom_of b)) vs a (by_recursion_each (λ (b : Written). AtomIn Fields (atom_of b)) vs c.requires.in_fields) here in
    let e = sym (ap tree_of c.in-Ok-True.field-0-is) ∙ c.in-Ok-True.ensures.normal in
    subst (λ (us : List Atom). AreNormalised us c.loop-atom.kept.items) (with_next c.args.kept.items ys a) (true_more (map atom_of c.args.kept.items ++ map atom_of ys) c.loop-atom.kept.items c.loop-atom.invariant (atom_of a) i e)

pub returns-in-Ok-False : goal.returns-in-Ok-False
returns-in-Ok-False c = λ p o h.
    let vs = c.args.others.items in
    let ys = c.loop-atom.yielded in
    let a = c.in-Some.atom in
    let gives = c.into_iter-atom-iterator.ensures.into_iter_gives in
    let turn = YieldsList-turn (YieldsList-from_vec {s = c.into_iter-atom-iterator.result} vs gives.0 (search rules)) ys c.loop-atom.atom-iterator c.loop-atom.yielded_by c.next.result c.next.new.self a c.in-Some.is c.next.ensures.steps in
    let here = among_at vs (length ys) a turn.0 turn.1 in
    let i = each_among (λ (b : Written). AtomIn Fields (atom_of b)) vs a (by_recursion_each (λ (b : Written). AtomIn Fields (atom_of b)) vs c.requires.in_fields) here in
    let e = sym (ap tree_of c.in-Ok-False.field-0-is) ∙ c.in-Ok-False.ensures.normal in
    false_one (atom_of a) i e p o (each_among (λ (u : Atom). Says u p) (map atom_of vs) (atom_of a) (each_right (λ (u : Atom). Says u p) (map atom_of c.args.kept.items) (map atom_of vs) h) (among_mapped atom_of vs a here))

pub loop-atom-preserved : goal.loop-atom-preserved
loop-atom-preserved c =
    let vs = c.args.others.items in
    let ys = c.loop-atom.yielded in
    let a = c.in-Some.atom in
    let w = c.in-Ok-One.atom in
    let gives = c.into_iter-atom-iterator.ensures.into_iter_gives in
    let turn = YieldsList-turn (YieldsList-from_vec {s = c.into_iter-atom-iterator.result} vs gives.0 (search rules)) ys c.loop-atom.atom-iterator c.loop-atom.yielded_by c.next.result c.next.new.self a c.in-Some.is c.next.ensures.steps in
    let here = among_at vs (length ys) a turn.0 turn.1 in
    let i = each_among (λ (b : Written). AtomIn Fields (atom_of b)) vs a (by_recursion_each (λ (b : Written). AtomIn Fields (atom_of b)) vs c.requires.in_fields) here in
    let e = sym (ap tree_of c.in-Ok-One.field-0-is) ∙ c.in-Ok-One.ensures.normal in
    let formed = subst IsWellFormedNormal c.in-Ok-One.field-0-is c.in-Ok-One.ensures.well_formed in
    let new : c.push.new.self.items ≡ c.loop-atom.kept.items ++ w ∷ [] = search rules in
    subst (λ (ws : List Written). AreNormalised (map atom_of c.args.kept.items ++ map atom_of (ys ++ a ∷ [])) ws) (sym new)
    (subst (λ (us : List Atom). AreNormalised us (c.loop-atom.kept.items ++ w ∷ [])) (with_next c.args.kept.items ys a) (one_more (map atom_of c.args.kept.items ++ map atom_of ys) c.loop-atom.kept.items c.loop-atom.invariant (atom_of a) i w e formed))
