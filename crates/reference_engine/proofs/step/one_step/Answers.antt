use Rattle.std.proofs.Common.{rules, ◌≡◌, List, ◌∷◌, [], true, false, map, sym, ap, ◌∙◌, subst}
use Rattle.logic_meaning.specs.Tree.{Tree}
use Rattle.logic_meaning.specs.Atoms.{atoms_in, atoms_of}
use Rattle.logic_meaning.specs.Reference.{stands_among, kept_at_zero, one_step, full_step}
use Rattle.normal_atoms.specs.declared.atoms.Atom.{Atom}
use Rattle.normal_atoms.specs.Atoms.{atom_of, context_of}
use Rattle.nnf_trees.specs.Nnfs.{nnf_of}
use Rattle.nnf_trees.proofs.ResultLaws.{stands_once}
use Rattle.reference_engine.proofs.Standing.{tells_along, tells_of}
use Rattle.reference_engine.proofs.Stepping.{one_full, one_kept}
use Rattle.reference_engine.proofs.step.one_step.Goals as goal

pub returns-then-stands_in_some-clause-told : goal.returns-then-stands_in_some-clause-told
returns-then-stands_in_some-clause-told c = λ b h.
    let o = context_of c.args.setting.context in
    let x = c.args.x.number in
    let f = nnf_of c.args.leaf.formula in
    let listed : map atom_of c.in_ok-atoms.atoms.items ≡ atoms_of f = search rules in
    let stands : stands_among x (atoms_in f) ≡ true
    = sym (ap (λ (bs : List Atom). stands_among x (map atom_of bs)) c.deref.ensures.value ∙ ap (stands_among x) listed ∙ stands_once x f) ∙ sym c.stands_in_some.ensures ∙ c.if-stands_in_some.true in
    tells_along c.full_step.result c.full_step.new.cost (full_step o c.args.setting.limit x b c.args.cost.now) (one_step o c.args.setting.limit x b c.args.cost.now)
    (sym (one_full o c.args.setting.limit x b c.args.cost.now (subst (λ (g : Tree). stands_among x (atoms_in g) ≡ true) h.formula stands))) (c.full_step.ensures.told b h)

pub returns-in_ok-at_zero-clause-told : goal.returns-in_ok-at_zero-clause-told
returns-in_ok-at_zero-clause-told c = λ b h.
    let o = context_of c.args.setting.context in
    let x = c.args.x.number in
    let f = nnf_of c.args.leaf.formula in
    let listed : map atom_of c.in_ok-atoms.atoms.items ≡ atoms_of f = search rules in
    let stands : stands_among x (atoms_in f) ≡ false
    = sym (ap (λ (bs : List Atom). stands_among x (map atom_of bs)) c.deref.ensures.value ∙ ap (stands_among x) listed ∙ stands_once x f) ∙ sym c.stands_in_some.ensures ∙ c.if-stands_in_some.false in
    tells_of c.in_ok-at_zero.field-0.items (kept_at_zero x b ∷ []) c.args.cost.now (one_step o c.args.setting.limit x b c.args.cost.now)
    (one_kept o c.args.setting.limit x b c.args.cost.now (subst (λ (g : Tree). stands_among x (atoms_in g) ≡ false) h.formula stands))
    (c.in_ok-at_zero.ensures.stand b h)
