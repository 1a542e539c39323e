use Rattle.std.proofs.Common.{List, Vec, Global, sym, subst, ◌∙◌}
use Rattle.normal_atoms.specs.declared.atoms.Context as code
use Rattle.normal_atoms.specs.declared.atoms.Atom.{Atom}
use Rattle.normal_atoms.specs.Atoms.{context_of}
use Rattle.formula_store.specs.declared.id.FormulaId.{FormulaId}
use Rattle.formula_store.proofs.Makes.{keeps_then}
use Rattle.short_answers.specs.Asking.{AreFollowing, IsFollowing, IsTidyId}
use Rattle.short_answers.specs.Candidates.{IsCandidate}
use Rattle.short_answers.proofs.Adding.{each_front, each_then}
use Rattle.short_answers.proofs.Hulls.{following_kept, follows_cases}
use Rattle.short_answers.proofs.Keeping.{all_kept, asking_kept, kept_thrice, made_candidate}
use Rattle.short_answers.proofs.asking.Asker.following.Goals as goal
use Rattle.short_answers.proofs.asking.Asker.following.Goals.{then-branch+in_ok-push, else-branch}

pub formula_of-requires : goal.formula_of-requires
formula_of-requires g c =
    let all : List Atom = c.loop-atom.candidates.atoms.items in
    (each_front (IsCandidate c.loop-atom.candidates.context) all c.pop.new.self.items c.in-Some.atom c.in-Some.ensures.items c.loop-atom.invariant.candidates).1.well_formed

pub follows_from_each-requires-clause-asking : goal.follows_from_each-requires-clause-asking
follows_from_each-requires-clause-asking g c κs within =
    let s = c.args.self.now in
    asking_kept s.work.now s.assumed.now s.names.now c.args.store.now c.formula_of.new.store (keeps_then c.args.store.now c.loop-atom.store c.formula_of.new.store c.loop-atom.invariant.kept c.formula_of.ensures.kept) c.requires.asking

pub follows_from_each-requires-clause-cases : goal.follows_from_each-requires-clause-cases
follows_from_each-requires-clause-cases g c κs within =
    all_kept (context_of c.args.self.now.work.now.context) c.args.store.now c.formula_of.new.store (keeps_then c.args.store.now c.loop-atom.store c.formula_of.new.store c.loop-atom.invariant.kept c.formula_of.ensures.kept) c.args.cases.now c.requires.cases

pub follows_from_each-requires-clause-formula : goal.follows_from_each-requires-clause-formula
follows_from_each-requires-clause-formula g c κs within =
    let all : List Atom = c.loop-atom.candidates.atoms.items in
    let one = (each_front (IsCandidate c.loop-atom.candidates.context) all c.pop.new.self.items c.in-Some.atom c.in-Some.ensures.items c.loop-atom.invariant.candidates).1 in
    subst (λ (k : code.Context). IsTidyId (context_of k) c.formula_of.new.store c.in_ok-formula.formula) (c.loop-atom.invariant.context ∙ c.requires.context)
    (made_candidate c.loop-atom.candidates.context c.formula_of.new.store c.in_ok-formula.formula c.in-Some.atom c.in_ok-formula.ensures.made one)

pub follows_from_each-requires-clause-context : goal.follows_from_each-requires-clause-context
follows_from_each-requires-clause-context g c κs within = c.loop-atom.invariant.context ∙ c.requires.context

pub follows_from_each-requires-clause-candidates : goal.follows_from_each-requires-clause-candidates
follows_from_each-requires-clause-candidates g c κs within =
    let old : List Atom = c.loop-atom.candidates.atoms.items in
    (each_front (IsCandidate c.loop-atom.candidates.context) old c.pop.new.self.items c.in-Some.atom c.in-Some.ensures.items c.loop-atom.invariant.candidates).0

pub returns-in_err-formula-clause-kept : goal.returns-in_err-formula-clause-kept
returns-in_err-formula-clause-kept g c = keeps_then c.args.store.now c.loop-atom.store c.formula_of.new.store c.loop-atom.invariant.kept c.formula_of.ensures.kept

pub returns-in_err-follows_from_each-clause-kept : goal.returns-in_err-follows_from_each-clause-kept
returns-in_err-follows_from_each-clause-kept g c = kept_thrice c.args.store.now c.loop-atom.store c.formula_of.new.store c.follows_from_each.new.store c.loop-atom.invariant.kept c.formula_of.ensures.kept c.follows_from_each.ensures.kept

pub returns-in_err-push-clause-kept : goal.returns-in_err-push-clause-kept
returns-in_err-push-clause-kept g c = kept_thrice c.args.store.now c.loop-atom.store c.formula_of.new.store c.follows_from_each.new.store c.loop-atom.invariant.kept c.formula_of.ensures.kept c.follows_from_each.ensures.kept

pub loop-atom-preserved-after-branch : goal.loop-atom-preserved-after-branch
loop-atom-preserved-after-branch g c =
    let w = c.args.self.now.work.now in
    let old = c.args.store.now in
    let mid = c.formula_of.new.store in
    let new = c.follows_from_each.new.store in
    let i = c.loop-atom.invariant in
    let before = keeps_then old c.loop-atom.store mid i.kept c.formula_of.ensures.kept in
    let all : List Atom = c.loop-atom.candidates.atoms.items in
    let one = (each_front (IsCandidate c.loop-atom.candidates.context) all c.pop.new.self.items c.in-Some.atom c.in-Some.ensures.items i.candidates).1 in
    let is = made_candidate c.loop-atom.candidates.context mid c.in_ok-formula.formula c.in-Some.atom c.in_ok-formula.ensures.made one in
    let tidy = subst (λ (k : code.Context). IsTidyId (context_of k) mid c.in_ok-formula.formula) (i.context ∙ c.requires.context) is in
    let so_far : List FormulaId = c.loop-atom.following.items in
    let kept = keeps_then c.loop-atom.store mid new c.formula_of.ensures.kept c.follows_from_each.ensures.kept in
    record {
      kept = keeps_then old mid new before c.follows_from_each.ensures.kept;
      context = c.in_ok-follows_from_each.ensures.context ∙ i.context;
      candidates = c.in_ok-follows_from_each.ensures.candidates;
      following = λ f cases.
          let before_it = following_kept w f c.loop-atom.store new so_far kept (i.following f cases) in
          elim c.if-branch.branch [
            | then-branch+in_ok-push v ↦
                subst (λ (v2 : Vec FormulaId Global). AreFollowing w f new v2.items) (sym v.following-is)
                (subst (AreFollowing w f new) (sym v.in_ok-push.ensures.items)
                (each_then (IsFollowing w f new) so_far c.in_ok-formula.formula before_it
                (follows_cases w f old mid new c.args.cases.now c.in_ok-formula.formula before c.follows_from_each.ensures.kept c.requires.cases tidy cases (c.in_ok-follows_from_each.ensures.follows v.if-branch.true))))
            | else-branch v ↦ subst (λ (v2 : Vec FormulaId Global). AreFollowing w f new v2.items) (sym v.following-is) before_it
          ];
    }

pub loop-atom-preserved : goal.loop-atom-preserved
loop-atom-preserved g c =
    let w = c.args.self.now.work.now in
    let old = c.args.store.now in
    let mid = c.formula_of.new.store in
    let new = c.follows_from_each.new.store in
    let i = c.loop-atom.invariant in
    let before = keeps_then old c.loop-atom.store mid i.kept c.formula_of.ensures.kept in
    let all : List Atom = c.loop-atom.candidates.atoms.items in
    let one = (each_front (IsCandidate c.loop-atom.candidates.context) all c.pop.new.self.items c.in-Some.atom c.in-Some.ensures.items i.candidates).1 in
    let is = made_candidate c.loop-atom.candidates.context mid c.in_ok-formula.formula c.in-Some.atom c.in_ok-formula.ensures.made one in
    let tidy = subst (λ (k : code.Context). IsTidyId (context_of k) mid c.in_ok-formula.formula) (i.context ∙ c.requires.context) is in
    let so_far : List FormulaId = c.loop-atom.following.items in
    let kept = keeps_then c.loop-atom.store mid new c.formula_of.ensures.kept c.follows_from_each.ensures.kept in
    record {
      kept = keeps_then old mid new before c.follows_from_each.ensures.kept;
      context = c.in_ok-follows_from_each.ensures.context ∙ i.context;
      candidates = c.in_ok-follows_from_each.ensures.candidates;
      following = λ f cases.
          let before_it = following_kept w f c.loop-atom.store new so_far kept (i.following f cases) in
          elim c.if-branch.branch [
            | then-branch+in_ok-push v ↦
                subst (λ (v2 : Vec FormulaId Global). AreFollowing w f new v2.items) (sym v.following-is)
                (subst (AreFollowing w f new) (sym v.in_ok-push.ensures.items)
                (each_then (IsFollowing w f new) so_far c.in_ok-formula.formula before_it
                (follows_cases w f old mid new c.args.cases.now c.in_ok-formula.formula before c.follows_from_each.ensures.kept c.requires.cases tidy cases (c.in_ok-follows_from_each.ensures.follows v.if-branch.true))))
            | else-branch v ↦ subst (λ (v2 : Vec FormulaId Global). AreFollowing w f new v2.items) (sym v.following-is) before_it
          ];
    }
