use Rattle.std.proofs.Common.{List, map, refl, sym, subst}
use Rattle.std.specs.Prelude.{Option, MatchOption}
use Rattle.logic_meaning.specs.Every.{FreeInSome}
use Rattle.logic_meaning.specs.Fold.{fold_list}
use Rattle.logic_meaning.specs.declared.junction.Junction.TheVariants.{Conjunction as Both}
use Rattle.logic_meaning.specs.Some.{Among, EachOf}
use Rattle.logic_meaning.specs.Atom.{Mentions}
use Rattle.logic_meaning.specs.declared.form.VarId.{VarId}
use Rattle.elimination_theory.specs.Theorems.{IsTidy}
use Rattle.normal_atoms.specs.Atoms.{context_of, atom_of}
use Rattle.formula_tree.specs.Makers.{IsMade}
use Rattle.formula_tree.specs.Trees.{members}
use Rattle.formula_store.specs.declared.id.FormulaId.{FormulaId}
use Rattle.formula_store.specs.Nodes.{tree, IsId}
use Rattle.narrowed_blocks.specs.declared.open_block.OpenBlock.{OpenBlock}
use Rattle.narrowed_blocks.specs.Conjunctions.{others_in}
use Rattle.narrowed_blocks.specs.Narrowing.{listed, IsNever}
use Rattle.narrowed_blocks.specs.Settings.{Becomes, assumed_in}
use Rattle.narrowed_blocks.proofs.Wholes.{sound_begun, whole_left, whole_never}
use Rattle.narrowed_blocks.proofs.narrowing.narrowed.Goals as goal

pub movable_names-requires-clause-tidy : goal.movable_names-requires-clause-tidy
movable_names-requires-clause-tidy c =
    let n = c.args.store.now in
    let o = context_of c.args.context in
    subst (λ (ids : List FormulaId). EachOf (λ (id : FormulaId). IsTidy o (tree n id)) ids) (sym c.deref.ensures.value) (c.in_ok-conjunction.ensures.tidy o c.requires.tidy).1

pub narrowed-requires-clause-sound : goal.narrowed-requires-clause-sound
narrowed-requires-clause-sound c =
    let n = c.args.store.now in
    let k = c.in_ok-conjunction.conjunction in
    sound_begun c.in_ok-setting.setting c.args.context (tree n c.args.matrix) n k (record { atoms = k.atoms; names = c.in_ok-names.names; movable = c.in_ok-movable.movable }) c.in_ok-setting.ensures.context c.in_ok-conjunction.ensures c.requires.tidy refl

pub returns-in-Some-clause-narrowed : goal.returns-in-Some-clause-narrowed
returns-in-Some-clause-narrowed c =
    let n = c.args.store.now in
    let s = c.in_ok-setting.setting in
    let k = c.in_ok-conjunction.conjunction in
    let names : List VarId = c.args.block.now in
    let left : OpenBlock = c.in-Some.left in
    let after = c.joined.new.store in
    let begun : OpenBlock = record { atoms = k.atoms; names = c.in_ok-names.names; movable = c.in_ok-movable.movable } in
    let movable : EachOf (λ (x : VarId). Among names x × ¬ (FreeInSome Mentions (others_in n k) x.number)) c.in_ok-movable.movable.items =
    subst (λ (l : List FormulaId). EachOf (λ (x : VarId). Among names x × ¬ (FreeInSome Mentions (members (map (tree n) l)) x.number)) c.in_ok-movable.movable.items) c.deref.ensures.value c.in_ok-movable.ensures in
    let becomes : Becomes s begun left = subst (λ (o : Option OpenBlock). MatchOption o (IsNever (context_of s.context) (assumed_in s) begun) (Becomes s begun)) c.in-Some.is c.in_ok-left.ensures in
    let made : IsMade (IsId after) (tree after) c.in_ok-matrix-in-Some.matrix (fold_list Both (listed (map atom_of left.atoms.items) (others_in n k))) =
    subst (λ (l : List FormulaId). IsMade (IsId after) (tree after) c.in_ok-matrix-in-Some.matrix (fold_list Both (listed (map atom_of left.atoms.items) (members (map (tree n) l))))) c.deref-in-Some.ensures.value c.in_ok-matrix-in-Some.ensures.made in
    whole_left s c.args.context c.args.assumed.now c.in_ok-setting.ensures.context c.in_ok-setting.ensures.assumed (tree n c.args.matrix) n names k c.in_ok-conjunction.ensures c.requires.tidy c.requires.lack c.requires.once
    begun refl c.in_ok-names.ensures movable left becomes after (record { matrix = c.in_ok-matrix-in-Some.matrix; names = left.names }) made refl

pub returns-clause-narrowed : goal.returns-clause-narrowed
returns-clause-narrowed c =
    let n = c.args.store.now in
    let s = c.in_ok-setting.setting in
    let k = c.in_ok-conjunction.conjunction in
    let names : List VarId = c.args.block.now in
    let after = c.make.new.self in
    let begun : OpenBlock = record { atoms = k.atoms; names = c.in_ok-names.names; movable = c.in_ok-movable.movable } in
    let movable : EachOf (λ (x : VarId). Among names x × ¬ (FreeInSome Mentions (others_in n k) x.number)) c.in_ok-movable.movable.items =
    subst (λ (l : List FormulaId). EachOf (λ (x : VarId). Among names x × ¬ (FreeInSome Mentions (members (map (tree n) l)) x.number)) c.in_ok-movable.movable.items) c.deref.ensures.value c.in_ok-movable.ensures in
    let never : IsNever (context_of s.context) (assumed_in s) begun = subst (λ (o : Option OpenBlock). MatchOption o (IsNever (context_of s.context) (assumed_in s) begun) (Becomes s begun)) c.in-None.is c.in_ok-left.ensures in
    whole_never s c.args.context c.args.assumed.now c.in_ok-setting.ensures.context c.in_ok-setting.ensures.assumed (tree n c.args.matrix) n names k c.in_ok-conjunction.ensures c.requires.tidy c.requires.lack c.requires.once
    begun refl c.in_ok-names.ensures movable never after (record { matrix = c.in_ok-make-in-None.field-0; names = c.new.result }) c.in_ok-make-in-None.ensures.made c.new.ensures.items
