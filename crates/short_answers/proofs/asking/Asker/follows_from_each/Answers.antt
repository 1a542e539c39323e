use Rattle.std.proofs.Common.{◌∷◌, [], List, get_or, map, refl, subst, arith}
use Rattle.logic_meaning.specs.NegationNormal.{normal_form_of_not}
use Rattle.logic_meaning.specs.NormalForm.{negated_normal}
use Rattle.logic_meaning.specs.Tree.{Tree}
use Rattle.normal_atoms.specs.Atoms.{context_of, atom_of}
use Rattle.formula_store.specs.declared.id.FormulaId.{FormulaId}
use Rattle.formula_store.specs.Nodes.{tree}
use Rattle.formula_store.proofs.Makes.{keeps_then}
use Rattle.short_answers.specs.declared.answer.Answer.{Answer}
use Rattle.short_answers.specs.Asking.{FollowsUnder, IsAnswerTo}
use Rattle.short_answers.proofs.Adding.{each_whole}
use Rattle.short_answers.proofs.Hulls.{case_tidy, denied_more, follows_more}
use Rattle.short_answers.proofs.Keeping.{asking_kept, made_kept, negation_tidy}
use Rattle.short_answers.proofs.asking.Asker.follows_from_each.Goals as goal

pub has_member-requires : goal.has_member-requires
has_member-requires g c = (case_tidy (context_of c.args.self.now.work.now.context) (map atom_of c.args.self.now.work.now.assumed.now) c.args.store.now c.loop-case.store c.loop-case.invariant.kept c.args.cases.now c.loop-case.case-index c.loop-case-test.true c.requires.cases).is

pub loop-case-preserved-then-has_member : goal.loop-case-preserved-then-has_member
loop-case-preserved-then-has_member g c =
    let o = context_of c.args.self.now.work.now.context in
    let ks = map atom_of c.args.self.now.work.now.assumed.now in
    let old = c.args.store.now in
    let now = c.loop-case.store in
    let i = c.loop-case.invariant in
    let cases : List FormulaId = c.args.cases.now in
    let case : FormulaId = get_or cases c.loop-case.case-index (record { number = 0 }) in
    record {
      kept = i.kept;
      opposite = i.opposite;
      context = i.context;
      candidates = i.candidates;
      few = i.few;
      follows = follows_more o ks old now i.kept cases c.loop-case.case-index c.loop-case-test.true c.requires.cases (tree old c.args.formula) i.follows
          (subst (λ (f : Tree). FollowsUnder o ks (tree now case) f) (i.kept.same c.args.formula c.requires.formula.is) (c.if-has_member.ensures refl o ks));
    }

pub ask-requires-clause-asking : goal.ask-requires-clause-asking
ask-requires-clause-asking g c κs within =
    let s = c.args.self.now in
    asking_kept s.work.now s.assumed.now s.names.now c.args.store.now c.loop-case.store c.loop-case.invariant.kept c.requires.asking

pub ask-requires-clause-members : goal.ask-requires-clause-members
ask-requires-clause-members g c κs within =
    let o = context_of c.args.self.now.work.now.context in (
      case_tidy o (map atom_of c.args.self.now.work.now.assumed.now) c.args.store.now c.loop-case.store c.loop-case.invariant.kept c.args.cases.now c.loop-case.case-index c.loop-case-test.true c.requires.cases,
      (negation_tidy o c.loop-case.store c.in_ok-not.not (tree c.args.store.now c.args.formula) c.loop-case.invariant.opposite c.requires.formula.tidy, tt),
    )

pub returns-in_err-ask-clause-kept : goal.returns-in_err-ask-clause-kept
returns-in_err-ask-clause-kept g c = keeps_then c.args.store.now c.loop-case.store c.ask.new.store c.loop-case.invariant.kept c.ask.ensures.kept

pub returns-in_err-keep_true-in-At-clause-kept : goal.returns-in_err-keep_true-in-At-clause-kept
returns-in_err-keep_true-in-At-clause-kept g c = keeps_then c.args.store.now c.loop-case.store c.ask.new.store c.loop-case.invariant.kept c.ask.ensures.kept

pub returns-in-At-clause-kept : goal.returns-in-At-clause-kept
returns-in-At-clause-kept g c = keeps_then c.args.store.now c.loop-case.store c.ask.new.store c.loop-case.invariant.kept c.ask.ensures.kept

pub returns-in-Unknown-clause-kept : goal.returns-in-Unknown-clause-kept
returns-in-Unknown-clause-kept g c = keeps_then c.args.store.now c.loop-case.store c.ask.new.store c.loop-case.invariant.kept c.ask.ensures.kept

pub loop-case-preserved : goal.loop-case-preserved
loop-case-preserved g c =
    let w = c.args.self.now.work.now in
    let o = context_of w.context in
    let ks = map atom_of w.assumed.now in
    let old = c.args.store.now in
    let now = c.loop-case.store in
    let i = c.loop-case.invariant in
    let not : FormulaId = c.in_ok-not.not in
    let cases : List FormulaId = c.args.cases.now in
    let case : FormulaId = get_or cases c.loop-case.case-index (record { number = 0 }) in
    record {
      kept = keeps_then old now c.ask.new.store i.kept c.ask.ensures.kept;
      opposite = made_kept now c.ask.new.store c.ask.ensures.kept not (normal_form_of_not negated_normal (tree old c.args.formula)) i.opposite;
      context = i.context;
      candidates = i.candidates;
      few = i.few;
      follows = denied_more o ks old now i.kept cases c.loop-case.case-index c.loop-case-test.true c.requires.cases (tree old c.args.formula) not c.requires.formula.tidy i.opposite i.follows
          (subst (λ (a : Answer). IsAnswerTo w (tree now case ∷ tree now not ∷ []) a) c.in-Nowhere.is c.in_ok-ask.ensures.answer);
    }

pub returns-clause-follows : goal.returns-clause-follows
returns-clause-follows g c = λ yes_follows.
    let o = context_of c.args.self.now.work.now.context in
    let ks = map atom_of c.args.self.now.work.now.assumed.now in
    let t = tree c.args.store.now in
    each_whole (λ (id : FormulaId). FollowsUnder o ks (t id) (t c.args.formula)) c.args.cases.now c.loop-case.case-index c.loop-case-test.false c.loop-case.invariant.follows

pub loop-case-init : goal.loop-case-init
loop-case-init g c = record { kept = c.negation.ensures.kept; opposite = c.in_ok-not.ensures.made; context = refl; candidates = c.requires.candidates; few = omega arith; follows = tt }
