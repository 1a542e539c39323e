use Rattle.std.proofs.Common.{rules, ◌≡◌, ℕ, true, false, not, cond, nat_eq, Option, Some, None, List, [], ◌∷◌, ◌++◌, sym, ap, ◌∙◌, subst}
use Rattle.std.specs.HashMap.{get, Updates}
use Rattle.std.specs.HashSet.{contains}
use Rattle.logic_meaning.specs.Formula.{One}
use Rattle.logic_meaning.specs.Atom.{Atom}
use Rattle.logic_meaning.specs.Tree.{Tree}
use Rattle.normal_atoms.specs.Atoms.{atom_of, context_of}
use Rattle.normal_atoms.specs.Computed.{IsNormalWithin}
use Rattle.shape_theory.specs.Simplifiable.{IsSimplifiable}
use Rattle.formula_tree.specs.Shapes.{tree_over}
use Rattle.formula_store.specs.declared.id.FormulaId.{FormulaId}
use Rattle.formula_store.specs.Nodes.{tree, IsId}
use Rattle.theory_simplifier.specs.Unchanged.{key_of, AreSeen}
use Rattle.theory_simplifier.proofs.Keeping.{if_ok_map}
use Rattle.theory_simplifier.proofs.Staying.{not_false, first_seen, second_seen}
use Rattle.theory_simplifier.proofs.unchanged.joins.Goals as goal

pub returns-in_default-copied : goal.returns-in_default-copied
returns-in_default-copied c true_is fs h =
    let o = context_of c.args.context in
    let nodes = c.args.store.now in
    let a : Atom = atom_of c.in-One.atom in
    let first : ℕ → Option FormulaId = get nat_eq c.args.firsts.now in
    let second = contains nat_eq c.args.seconds.now in
    let one : tree nodes c.args.id ≡ One a = c.shape.ensures.tree ∙ ap (tree_over (tree nodes)) c.in-One.is in
    let n : IsNormalWithin o a = subst (IsSimplifiable o) one c.requires.formula in
    let key : c.key_of-key.result ≡ key_of a = c.key_of-key.ensures in
    let absent : first c.key_of-key.result ≡ None = search rules in
    let put : Updates nat_eq c.args.firsts.now c.insert.new.self c.key_of-key.result (Some c.args.id) = search rules in
    subst (λ (f : Tree). AreSeen o c.args.junction nodes (fs ++ f ∷ []) (get nat_eq c.insert.new.self) second) (sym one)
    (first_seen o c.args.junction nodes fs first second a n h c.args.id (get nat_eq c.insert.new.self) (sym (ap first key) ∙ absent)
    (λ q. put.0 q ∙ ap (λ (k : ℕ). cond (nat_eq k q) (Some c.args.id) (first q)) key) one (c.requires.id, c.requires.formula))

pub stay_apart-requires-clause-id : goal.stay_apart-requires-clause-id
stay_apart-requires-clause-id c =
    let found : get nat_eq c.args.firsts.now c.key_of-key.result ≡ Some c.in-Some.first = search rules in
    (c.requires.firsts c.key_of-key.result c.in-Some.first found).0

pub returns : goal.returns
returns c =
    let o = context_of c.args.context in
    let nodes = c.args.store.now in
    let a : Atom = atom_of c.in-One.atom in
    let first : ℕ → Option FormulaId = get nat_eq c.args.firsts.now in
    let second = contains nat_eq c.args.seconds.now in
    let second2 = contains nat_eq c.insert-2.new.self in
    let one : tree nodes c.args.id ≡ One a = c.shape.ensures.tree ∙ ap (tree_over (tree nodes)) c.in-One.is in
    let n : IsNormalWithin o a = subst (IsSimplifiable o) one c.requires.formula in
    let key : c.key_of-key.result ≡ key_of a = c.key_of-key.ensures in
    let found : first c.key_of-key.result ≡ Some c.in-Some.first = search rules in
    let added : c.in_ok-insert.field-0 ≡ true = search rules in
    let new : second (key_of a) ≡ false = not_false (second (key_of a)) (sym (ap (λ k. not (second k)) key) ∙ sym c.in_ok-insert.ensures.added ∙ added) in
    if_ok_map c.stay_apart.result _ _
    (λ b k t fs h.
    subst (λ (f : Tree). AreSeen o c.args.junction nodes (fs ++ f ∷ []) first second2) (sym one)
    (second_seen o c.args.junction nodes fs first second a n h c.in-Some.first second2 (sym (ap first key) ∙ found) new
    (λ q. c.in_ok-insert.ensures.updates.0 q ∙ ap (λ (m : ℕ). cond (nat_eq m q) true (second q)) key) (k t)))
    c.stay_apart.ensures
