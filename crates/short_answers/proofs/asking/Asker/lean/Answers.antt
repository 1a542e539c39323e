use Rattle.std.proofs.Common.{List, sym, subst}
use Rattle.normal_atoms.specs.Atoms.{context_of}
use Rattle.formula_store.specs.declared.id.FormulaId.{FormulaId}
use Rattle.formula_store.proofs.Makes.{keeps_then}
use Rattle.short_answers.specs.Asking.{AreFollowing, AreTidyIds, IsFollowing, IsTidyId}
use Rattle.short_answers.proofs.Adding.{each_front, each_reversed}
use Rattle.short_answers.proofs.Hulls.{following_kept}
use Rattle.short_answers.proofs.Keeping.{asking_kept, all_kept, kept_self}
use Rattle.short_answers.proofs.asking.Asker.lean.Goals as goal

pub loop-id-init : goal.loop-id-init
loop-id-init g c =
    let w = c.args.self.now.work.now in
    let o = context_of w.context in
    let n = c.args.store.now in
    let left : List FormulaId = c.args.left.items in
    record {
      kept = kept_self n;
      left = subst (AreTidyIds o n) (sym c.reverse.ensures.items) (each_reversed (IsTidyId o n) left c.requires.left);
      lean = subst (AreTidyIds o n) (sym c.new-lean.ensures.items) tt;
      left_following = λ f each. subst (AreFollowing w f n) (sym c.reverse.ensures.items) (each_reversed (IsFollowing w f n) left each);
      lean_following = λ f each. subst (AreFollowing w f n) (sym c.new-lean.ensures.items) tt;
    }

pub add_unless_implied-requires-clause-asking : goal.add_unless_implied-requires-clause-asking
add_unless_implied-requires-clause-asking g c κs within =
    let s = c.args.self.now in
    asking_kept s.work.now s.assumed.now s.names.now c.args.store.now c.loop-id.store c.loop-id.invariant.kept c.requires.asking

pub add_unless_implied-requires-clause-id : goal.add_unless_implied-requires-clause-id
add_unless_implied-requires-clause-id g c κs within =
    (each_front (IsTidyId (context_of c.args.self.now.work.now.context) c.loop-id.store) c.loop-id.left.items c.pop.new.self.items c.in-Some.id c.in-Some.ensures.items c.loop-id.invariant.left).1

pub add_unless_implied-requires-clause-left : goal.add_unless_implied-requires-clause-left
add_unless_implied-requires-clause-left g c κs within =
    let o = context_of c.args.self.now.work.now.context in
    let new : List FormulaId = c.pop.new.self.items in
    subst (AreTidyIds o c.loop-id.store) (sym c.deref.ensures.value) (each_front (IsTidyId o c.loop-id.store) c.loop-id.left.items new c.in-Some.id c.in-Some.ensures.items c.loop-id.invariant.left).0

pub returns-in_err-add_unless_implied-clause-kept : goal.returns-in_err-add_unless_implied-clause-kept
returns-in_err-add_unless_implied-clause-kept g c = keeps_then c.args.store.now c.loop-id.store c.add_unless_implied.new.store c.loop-id.invariant.kept c.add_unless_implied.ensures.kept

pub loop-id-preserved : goal.loop-id-preserved
loop-id-preserved g c =
    let w = c.args.self.now.work.now in
    let o = context_of w.context in
    let old = c.loop-id.store in
    let new = c.add_unless_implied.new.store in
    let all : List FormulaId = c.loop-id.left.items in
    let left : List FormulaId = c.pop.new.self.items in
    let i = c.loop-id.invariant in
    let r = each_front (IsTidyId o old) all left c.in-Some.id c.in-Some.ensures.items i.left in
    record {
      kept = keeps_then c.args.store.now old new i.kept c.add_unless_implied.ensures.kept;
      left = all_kept o old new c.add_unless_implied.ensures.kept left r.0;
      lean = c.in_ok-add_unless_implied.ensures.tidy;
      left_following = λ f each. following_kept w f old new left c.add_unless_implied.ensures.kept (each_front (IsFollowing w f old) all left c.in-Some.id c.in-Some.ensures.items (i.left_following f each)).0;
      lean_following = λ f each.
          c.in_ok-add_unless_implied.ensures.following f (each_front (IsFollowing w f old) all left c.in-Some.id c.in-Some.ensures.items (i.left_following f each)).1 (i.lean_following f each);
    }

pub returns-clause-following : goal.returns-clause-following
returns-clause-following g c =
    let w = c.args.self.now.work.now in
    let n = c.loop-id.store in
    let lean : List FormulaId = c.loop-id.lean.items in
    λ f each. subst (AreFollowing w f n) (sym c.reverse-2.ensures.items) (each_reversed (IsFollowing w f n) lean (c.loop-id.invariant.lean_following f each))
