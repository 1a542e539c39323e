use Rattle.std.proofs.Common.{◌≡◌, [], ◌++◌, List, map, ap, sym, subst, ◌∙◌, refl}
use Rattle.std.proofs.lemmas.List.{map-append}
use Rattle.logic_meaning.specs.Fold.{fold_list}
use Rattle.logic_meaning.specs.Tree.{Tree}
use Rattle.logic_meaning.specs.declared.junction.Junction.TheVariants.{Conjunction}
use Rattle.elimination_theory.proofs.Tidy.{tidy_fold_list}
use Rattle.normal_atoms.specs.Atoms.{context_of}
use Rattle.formula_tree.specs.Trees.{members}
use Rattle.formula_store.specs.declared.id.FormulaId.{FormulaId}
use Rattle.formula_store.specs.Nodes.{tree}
use Rattle.formula_store.proofs.Makes.{keeps_then}
use Rattle.branch_rounds.specs.Branches.{numbers}
use Rattle.short_answers.specs.Asking.{AreTidyIds, assumptions}
use Rattle.short_answers.proofs.Answered.{all_lack, answered}
use Rattle.short_answers.proofs.Keeping.{both_tidy, ids_of, kept_thrice, made_tidy, tidy_of}
use Rattle.short_answers.proofs.asking.Asker.eliminated.Goals as goal

pub fold-requires : goal.fold-requires
fold-requires g c =
    let o = context_of c.args.self.now.work.now.context in
    let n = c.args.store.now in
    let all = both_tidy o n c.args.self.now.assumed.now c.args.members.now c.requires.asking.are c.requires.members in
    ids_of o n c.deref.result.now (subst (AreTidyIds o n) (sym (c.deref.ensures.value ∙ c.in_ok-all.ensures)) all)

pub without_what_is_impossible-requires-clause-id : goal.without_what_is_impossible-requires-clause-id
without_what_is_impossible-requires-clause-id g c κs within =
    let o = context_of c.args.self.now.work.now.context in
    let n = c.args.store.now in
    let all = both_tidy o n c.args.self.now.assumed.now c.args.members.now c.requires.asking.are c.requires.members in
    let ids : List FormulaId = c.deref.result.now in
    let fs = members (map (tree n) ids) in
    made_tidy o c.fold.new.formulas c.in_ok-whole.whole (fold_list Conjunction fs) c.in_ok-whole.ensures.made (tidy_fold_list o Conjunction fs (tidy_of o n ids (subst (AreTidyIds o n) (sym (c.deref.ensures.value ∙ c.in_ok-all.ensures)) all)))

pub returns-in_err-matrix-clause-kept : goal.returns-in_err-matrix-clause-kept
returns-in_err-matrix-clause-kept g c = keeps_then c.args.store.now c.fold.new.formulas c.without_what_is_impossible.new.store c.fold.ensures.kept c.without_what_is_impossible.ensures.kept

pub block_branches-requires-clause-tidy : goal.block_branches-requires-clause-tidy
block_branches-requires-clause-tidy g c κs within = c.in_ok-matrix.ensures.tidy.tidy

pub block_branches-requires-clause-lack : goal.block_branches-requires-clause-lack
block_branches-requires-clause-lack g c κs within = all_lack [] (numbers c.args.self.now.names.now) refl

pub returns-in-Ok-clause-answer : goal.returns-in-Ok-clause-answer
returns-in-Ok-clause-answer g c =
    let w = c.args.self.now.work.now in
    let n = c.args.store.now in
    let ids : List FormulaId = c.deref.result.now in
    let fs = map (tree n) c.args.members.now in
    let listed : map (tree n) ids ≡ assumptions w ++ fs =
    ap (map (tree n)) (c.deref.ensures.value ∙ c.in_ok-all.ensures) ∙ map-append (tree n) c.args.self.now.assumed.now c.args.members.now ∙ ap (λ (ts : List Tree). ts ++ fs) c.requires.asking.says in
    answered w _ refl refl fs (map (tree n) ids) (tree c.fold.new.formulas c.in_ok-whole.whole) (tree c.without_what_is_impossible.new.store c.in_ok-matrix.matrix) listed c.in_ok-whole.ensures.made.same c.in_ok-matrix.ensures.same (numbers c.args.self.now.names.now)
    c.block_branches.new.store c.in-Ok.branches.items c.in-Ok.ensures.branches c.answer_of.result c.answer_of.ensures

pub returns-in-Ok-clause-kept : goal.returns-in-Ok-clause-kept
returns-in-Ok-clause-kept g c = kept_thrice c.args.store.now c.fold.new.formulas c.without_what_is_impossible.new.store c.block_branches.new.store c.fold.ensures.kept c.without_what_is_impossible.ensures.kept c.block_branches.ensures.kept

pub returns-in-Err-Memory-clause-kept : goal.returns-in-Err-Memory-clause-kept
returns-in-Err-Memory-clause-kept g c = kept_thrice c.args.store.now c.fold.new.formulas c.without_what_is_impossible.new.store c.block_branches.new.store c.fold.ensures.kept c.without_what_is_impossible.ensures.kept c.block_branches.ensures.kept

pub returns : goal.returns
returns g c = record { answer = tt; kept = kept_thrice c.args.store.now c.fold.new.formulas c.without_what_is_impossible.new.store c.block_branches.new.store c.fold.ensures.kept c.without_what_is_impossible.ensures.kept c.block_branches.ensures.kept }
