use Rattle.std.proofs.Common.{◌≡◌, ◌∷◌, [], List, false, get_or, refl, ap, sym, subst, ◌∙◌, arith}
use Rattle.logic_meaning.specs.Formula.{Yes, No, One}
use Rattle.logic_meaning.specs.Tree.{Tree}
use Rattle.normal_atoms.specs.Atoms.{context_of, atom_of}
use Rattle.formula_tree.specs.Shapes.{tree_over}
use Rattle.formula_store.specs.Nodes.{tree}
use Rattle.atom_pruning.specs.declared.rows.AtomRows.{AtomRows}
use Rattle.atom_pruning.specs.Rows.{AreRows}
use Rattle.atom_pruning.specs.Kept.{IsKept}
use Rattle.branch_pruning.specs.Cuts.{IsDecidedTo}
use Rattle.branch_pruning.proofs.Conjunctions.{undecided, never_true, always_said}
use Rattle.branch_pruning.proofs.Staying.{made_in}
use Rattle.branch_pruning.proofs.cutting.Cutter.decided.Goals as goal

pub returns-in_default-clause-decided : goal.returns-in_default-clause-decided
returns-in_default-clause-decided c = record { is = c.requires.id; to = undecided (context_of c.args.self.now.context) c.args.self.now.assumed.items (tree c.args.store.now c.args.id) }

pub returns-in_default-2 : goal.returns-in_default-2
returns-in_default-2 c = record {
  decided = record { is = c.requires.id; to = undecided (context_of c.args.self.now.context) c.args.self.now.assumed.items (tree c.args.store.now c.args.id) };
  stays = record { context = refl; assumed = refl; effort = omega arith };
  kept = record { is = λ id h. h; same = λ id h. refl };
}

pub returns-in-Impossible-clause-decided : goal.returns-in-Impossible-clause-decided
returns-in-Impossible-clause-decided c =
    let o = context_of c.args.self.now.context in
    let rows : List AtomRows = c.args.self.now.assumed.items in
    let a = atom_of c.in-One.atom in
    let is : tree c.args.store.now c.args.id ≡ One a = c.shape.ensures.tree ∙ ap (tree_over (tree c.args.store.now)) c.in-One.is in
    let own : AreRows o (a ∷ []) c.from_ref.result.now = subst (AreRows o (a ∷ [])) (sym c.from_ref.ensures.value) (c.in_ok-rows-in-One.ensures.rows, tt) in
    made_in (IsDecidedTo o rows) (tree c.args.store.now c.args.id) No c.make.new.self c.in_ok-make-in-Impossible.field-0 c.in_ok-make-in-Impossible.ensures.made
    (subst (λ (f : Tree). IsDecidedTo o rows f No) (sym is) (never_true o rows a (λ ks are. subst (IsKept o ks (a ∷ [])) c.in-Impossible.is (c.in_ok-needed.ensures.kept o ks (a ∷ []) are own))))

pub index-requires : goal.index-requires
index-requires c =
    let o = context_of c.args.self.now.context in
    let a = atom_of c.in-One.atom in
    let own : AreRows o (a ∷ []) c.from_ref.result.now = subst (AreRows o (a ∷ [])) (sym c.from_ref.ensures.value) (c.in_ok-rows-in-One.ensures.rows, tt) in
    let enough = (subst (IsKept o c.requires.assumed.atoms (a ∷ [])) c.in-Marked.is (c.in_ok-needed.ensures.kept o c.requires.assumed.atoms (a ∷ []) c.requires.assumed.are own)).one_each in
    omega arith

pub returns-then-index-clause-decided : goal.returns-then-index-clause-decided
returns-then-index-clause-decided c = record { is = c.requires.id; to = undecided (context_of c.args.self.now.context) c.args.self.now.assumed.items (tree c.args.store.now c.args.id) }

pub returns-clause-decided : goal.returns-clause-decided
returns-clause-decided c =
    let o = context_of c.args.self.now.context in
    let rows : List AtomRows = c.args.self.now.assumed.items in
    let a = atom_of c.in-One.atom in
    let bs = c.in-Marked.marks.items in
    let is : tree c.args.store.now c.args.id ≡ One a = c.shape.ensures.tree ∙ ap (tree_over (tree c.args.store.now)) c.in-One.is in
    let own : AreRows o (a ∷ []) c.from_ref.result.now = subst (AreRows o (a ∷ [])) (sym c.from_ref.ensures.value) (c.in_ok-rows-in-One.ensures.rows, tt) in
    let mark : get_or bs 0 false ≡ false = sym (subst (λ b. b ≡ get_or bs 0 b) c.if-index.false c.index.ensures) in
    made_in (IsDecidedTo o rows) (tree c.args.store.now c.args.id) Yes c.make-else-index.new.self c.in_ok-make-in-Marked.field-0 c.in_ok-make-in-Marked.ensures.made
    (subst (λ (f : Tree). IsDecidedTo o rows f Yes) (sym is) (always_said o rows a bs mark (λ ks are. subst (IsKept o ks (a ∷ [])) c.in-Marked.is (c.in_ok-needed.ensures.kept o ks (a ∷ []) are own))))
