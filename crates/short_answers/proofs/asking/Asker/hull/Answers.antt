use Rattle.std.proofs.Common.{◌∷◌, [], map, sym, subst}
use Rattle.std.specs.List.{AllByRecursion}
use Rattle.logic_meaning.specs.Some.{EachOf}
use Rattle.normal_atoms.specs.Atoms.{context_of, atom_of}
use Rattle.normal_atoms.proofs.Stepped.{ok_map}
use Rattle.formula_store.specs.declared.id.FormulaId.{FormulaId}
use Rattle.formula_store.specs.Nodes.{tree, IsId}
use Rattle.formula_store.proofs.Makes.{keeps_then}
use Rattle.short_answers.specs.Asking.{AreFollowing, AreTidyIds, NeverTogether}
use Rattle.short_answers.specs.Cases.{AreCasesOf}
use Rattle.short_answers.proofs.Hulls.{cases_kept, following_tidy, hull_follows, never_case}
use Rattle.short_answers.proofs.Keeping.{all_kept, asking_kept, each_is, ids_of, kept_thrice}
use Rattle.short_answers.proofs.asking.Asker.hull.Goals as goal

pub candidates-requires-clause-id : goal.candidates-requires-clause-id
candidates-requires-clause-id g c κs within = c.cases_of.ensures.kept.is c.args.id c.requires.id.is

pub candidates-requires-clause-cases : goal.candidates-requires-clause-cases
candidates-requires-clause-cases g c κs within =
    let o = context_of c.args.self.now.work.now.context in
    let n = c.cases_of.new.store in
    subst (EachOf (IsId n)) (sym c.deref.ensures.value) (each_is o n c.in_ok-cases.cases.items (c.in_ok-cases.ensures.cases.tidy o c.requires.id.tidy))

pub keep_met-requires-clause-asking : goal.keep_met-requires-clause-asking
keep_met-requires-clause-asking g c κs within =
    let s = c.args.self.now in
    asking_kept s.work.now s.assumed.now s.names.now c.args.store.now c.cases_of.new.store c.cases_of.ensures.kept c.requires.asking

pub keep_met-requires-clause-cases : goal.keep_met-requires-clause-cases
keep_met-requires-clause-cases g c κs within =
    let o = context_of c.args.self.now.work.now.context in
    subst (AreTidyIds o c.cases_of.new.store) (sym c.deref-2.ensures.value) (c.in_ok-cases.ensures.cases.tidy o c.requires.id.tidy)

pub returns-in_err-keep_met-clause-kept : goal.returns-in_err-keep_met-clause-kept
returns-in_err-keep_met-clause-kept g c = keeps_then c.args.store.now c.cases_of.new.store c.keep_met.new.store c.cases_of.ensures.kept c.keep_met.ensures.kept

pub returns-in_err-make-clause-kept : goal.returns-in_err-make-clause-kept
returns-in_err-make-clause-kept g c = kept_thrice c.args.store.now c.cases_of.new.store c.keep_met.new.store c.make.new.self c.cases_of.ensures.kept c.keep_met.ensures.kept c.make.ensures.kept

pub returns-then-branch-clause-follows : goal.returns-then-branch-clause-follows
returns-then-branch-clause-follows g c =
    let w = c.args.self.now.work.now in
    let o = context_of w.context in
    let n = c.cases_of.new.store in
    let each = subst (EachOf (λ (id : FormulaId). NeverTogether o (map atom_of w.assumed.now) (tree n id ∷ []))) c.deref-2.ensures.value (c.in_ok-keep_met.ensures.nowhere c.if-branch.true) in
    never_case w (tree c.args.store.now c.args.id) n c.make.new.self c.in_ok-cases.cases.items c.in_ok-make.field-0 c.in_ok-cases.ensures.cases each c.in_ok-make.ensures.made

pub returns-then-branch-clause-kept : goal.returns-then-branch-clause-kept
returns-then-branch-clause-kept g c = kept_thrice c.args.store.now c.cases_of.new.store c.keep_met.new.store c.make.new.self c.cases_of.ensures.kept c.keep_met.ensures.kept c.make.ensures.kept

pub following-requires-clause-asking : goal.following-requires-clause-asking
following-requires-clause-asking g c κs within =
    let s = c.args.self.now in
    asking_kept s.work.now s.assumed.now s.names.now c.args.store.now c.keep_met.new.store (keeps_then c.args.store.now c.cases_of.new.store c.keep_met.new.store c.cases_of.ensures.kept c.keep_met.ensures.kept) c.requires.asking

pub following-requires-clause-cases : goal.following-requires-clause-cases
following-requires-clause-cases g c κs within =
    let o = context_of c.args.self.now.work.now.context in
    subst (AreTidyIds o c.keep_met.new.store) (sym c.deref-3.ensures.value) (all_kept o c.cases_of.new.store c.keep_met.new.store c.keep_met.ensures.kept c.in_ok-cases.cases.items (c.in_ok-cases.ensures.cases.tidy o c.requires.id.tidy))

pub returns-in_err-following-clause-kept : goal.returns-in_err-following-clause-kept
returns-in_err-following-clause-kept g c = kept_thrice c.args.store.now c.cases_of.new.store c.keep_met.new.store c.following.new.store c.cases_of.ensures.kept c.keep_met.ensures.kept c.following.ensures.kept

pub lean-requires-clause-asking : goal.lean-requires-clause-asking
lean-requires-clause-asking g c κs within =
    let s = c.args.self.now in
    asking_kept s.work.now s.assumed.now s.names.now c.args.store.now c.following.new.store
    (kept_thrice c.args.store.now c.cases_of.new.store c.keep_met.new.store c.following.new.store c.cases_of.ensures.kept c.keep_met.ensures.kept c.following.ensures.kept) c.requires.asking

pub lean-requires-clause-left : goal.lean-requires-clause-left
lean-requires-clause-left g c κs within =
    let w = c.args.self.now.work.now in
    let f = tree c.args.store.now c.args.id in
    let n = c.keep_met.new.store in
    let cases = cases_kept (context_of w.context) f c.cases_of.new.store n c.in_ok-cases.cases.items c.keep_met.ensures.kept c.requires.id.tidy c.in_ok-cases.ensures.cases in
    following_tidy w f c.following.new.store c.in_ok-following.following.items (c.in_ok-following.ensures.following f (subst (AreCasesOf f n) (sym c.deref-3.ensures.value) cases))

pub returns-in_err-lean-clause-kept : goal.returns-in_err-lean-clause-kept
returns-in_err-lean-clause-kept g c =
    keeps_then c.args.store.now c.following.new.store c.lean.new.store
    (kept_thrice c.args.store.now c.cases_of.new.store c.keep_met.new.store c.following.new.store c.cases_of.ensures.kept c.keep_met.ensures.kept c.following.ensures.kept) c.lean.ensures.kept

pub fold-requires : goal.fold-requires
fold-requires g c =
    let w = c.args.self.now.work.now in
    let o = context_of w.context in
    let f = tree c.args.store.now c.args.id in
    let n = c.keep_met.new.store in
    let new = c.lean.new.store in
    let cases = cases_kept o f c.cases_of.new.store n c.in_ok-cases.cases.items c.keep_met.ensures.kept c.requires.id.tidy c.in_ok-cases.ensures.cases in
    let each = c.in_ok-lean.ensures.following f (c.in_ok-following.ensures.following f (subst (AreCasesOf f n) (sym c.deref-3.ensures.value) cases)) in
    subst (AllByRecursion (IsId new)) (sym c.deref-4.ensures.value) (ids_of o new c.in_ok-lean.lean.items (following_tidy w f new c.in_ok-lean.lean.items each))

pub returns-clause-follows : goal.returns-clause-follows
returns-clause-follows g c =
    let w = c.args.self.now.work.now in
    let o = context_of w.context in
    let f = tree c.args.store.now c.args.id in
    let n = c.keep_met.new.store in
    let new = c.lean.new.store in
    let cases = cases_kept o f c.cases_of.new.store n c.in_ok-cases.cases.items c.keep_met.ensures.kept c.requires.id.tidy c.in_ok-cases.ensures.cases in
    let each = c.in_ok-lean.ensures.following f (c.in_ok-following.ensures.following f (subst (AreCasesOf f n) (sym c.deref-3.ensures.value) cases)) in
    ok_map c.fold.result (λ id made. hull_follows w f new c.fold.new.formulas c.deref-4.result.now id (subst (AreFollowing w f new) (sym c.deref-4.ensures.value) each) made) c.fold.ensures.made

pub returns-clause-kept : goal.returns-clause-kept
returns-clause-kept g c =
    kept_thrice c.args.store.now c.following.new.store c.lean.new.store c.fold.new.formulas
    (kept_thrice c.args.store.now c.cases_of.new.store c.keep_met.new.store c.following.new.store c.cases_of.ensures.kept c.keep_met.ensures.kept c.following.ensures.kept) c.lean.ensures.kept c.fold.ensures.kept
