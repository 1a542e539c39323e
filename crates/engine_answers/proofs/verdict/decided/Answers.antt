use Rattle.std.proofs.Common.{rules, ◌≡◌, ◌↔◌, List, [], length, map, take, Some, None, not, ap, arith, sym, ◌∙◌, subst}
use Rattle.std.proofs.Math.Bool.{beq}
use Rattle.std.specs.Prelude.{IsTrue}
use Rattle.std.specs.declared.vec.Vec.{Vec}
use Rattle.std.specs.declared.alloc.Global.{Global}
use Rattle.exact_numbers.specs.declared.fraction.Fraction.{Fraction}
use Rattle.exact_numbers.specs.Fraction.{frac_of}
use Rattle.logic_meaning.specs.Some.{EachOf}
use Rattle.logic_meaning.specs.Tree.{Tree, TrueAt}
use Rattle.normal_atoms.specs.Atoms.{context_of}
use Rattle.logic_meaning.specs.declared.form.VarId.{VarId}
use Rattle.linear_forms.specs.Values.{point_of}
use Rattle.formula_store.specs.Nodes.{tree, IsId}
use Rattle.formula_store.proofs.Makes.{keeps_then}
use Rattle.logic_meaning.specs.Values.{origin}
use Rattle.sample_reference.specs.TrueSample.{IsTrueSample}
use Rattle.sample_reference.specs.Seen.{values_of}
use Rattle.sample_reference.specs.Leading.{under_names, AreWitnesses}
use Rattle.engine_answers.specs.declared.case_tree.Case.{Case}
use Rattle.engine_answers.specs.Decided.{EliminationStops, SampleStops}
use Rattle.engine_answers.proofs.SentenceAnswersTold.{SomeTrue, told_by}
use Rattle.engine_answers.proofs.SentenceAnswersSampled.{enough, witnessed, refuted, first_of, sample_some, sample_none}
use Rattle.engine_answers.proofs.Stopped.{sample_stops}
use Rattle.engine_answers.proofs.verdict.decided.Goals as goal

pub returns-in-Err-Overflow : goal.returns-in-Err-Overflow
returns-in-Err-Overflow g c =
    let o = context_of c.args.engine.now.context in
    let f = tree c.args.store.now c.args.id in
    let limit = c.args.engine.now.limits.nodes in
    let stops : EliminationStops o limit f = search rules in
    record { verdict = λ body e. subst (EliminationStops o limit) e stops; kept = c.cases.ensures.kept }

pub some_true-requires : goal.some_true-requires
some_true-requires g c = subst (EachOf (λ (k : Case). IsId c.cases.new.store k.guard)) (sym c.deref.ensures.value) c.in-Ok.ensures.cases.guards

pub returns-then-is_true-clause-verdict : goal.returns-then-is_true-clause-verdict
returns-then-is_true-clause-verdict g c =
    let o = context_of c.args.engine.now.context in
    let f = tree c.args.store.now c.args.id in
    let told : IsTrue (not (beq c.some_true.result c.in-Ok.cases.universal)) ↔ TrueAt o f origin = told_by o c.cases.new.store f c.requires.closed c.requires.normal c.in-Ok.cases c.in-Ok.ensures.cases c.some_true.result
    (subst (λ (cases : List Case). IsTrue c.some_true.result ↔ SomeTrue c.cases.new.store cases) c.deref.ensures.value c.some_true.ensures) in
    let holds = told.0 c.if-is_true.true in
    let none : c.args.count ≡ 0 = c.if-count-eq0.true in
    λ body e.
    let there = subst (λ (t : Tree). TrueAt o t origin) e holds in
    let alone : AreWitnesses o c.args.count body [] = record { one_each = sym none; each = tt; true_with = subst (λ n. TrueAt o (under_names 0 n body) origin) none there } in
    (there, subst (λ (vs : List Fraction). AreWitnesses o c.args.count body (map frac_of vs)) (sym c.new.ensures.items) alone)

pub returns-then-count-eq0-clause-verdict : goal.returns-then-count-eq0-clause-verdict
returns-then-count-eq0-clause-verdict g c =
    let o = context_of c.args.engine.now.context in
    let f = tree c.args.store.now c.args.id in
    let told : IsTrue (not (beq c.some_true.result c.in-Ok.cases.universal)) ↔ TrueAt o f origin = told_by o c.cases.new.store f c.requires.closed c.requires.normal c.in-Ok.cases c.in-Ok.ensures.cases c.some_true.result
    (subst (λ (cases : List Case). IsTrue c.some_true.result ↔ SomeTrue c.cases.new.store cases) c.deref.ensures.value c.some_true.ensures) in
    λ body e. subst (λ (t : Tree). ¬ (TrueAt o t origin)) e (λ t. let yes = told.1 t in let no = c.if-is_true.false in absurd (cc (yes, no)))

pub slice_bounds-fractions_of-end : goal.slice_bounds-fractions_of-end
slice_bounds-fractions_of-end g c =
    let o = context_of c.args.engine.now.context in
    let f = tree c.args.store.now c.args.id in
    let same : tree c.cases.new.store c.args.id ≡ f = c.cases.ensures.kept.same c.args.id c.requires.id in
    let seen = sample_some o (tree c.cases.new.store c.args.id) c.in-Ok-Some.field-0 c.in-Ok-Some.values (ap point_of c.new-2.ensures) c.in-Ok-Some.ensures.truth c.in-Ok-Some.field-0-is in
    let sample = subst (λ (t : Tree). IsTrueSample o t origin (Some (values_of c.in-Ok-Some.values.items))) same seen in
    subst (λ (vs : List (VarId × Fraction)). c.args.count ≡ length (take c.args.count vs)) (sym (c.deref-in-Ok-Some.ensures.value ∙ ap (λ (v : Vec (VarId × Fraction) Global). v.items) c.in-Ok-Some.values-is))
    (enough o c.args.count f c.requires.normal (omega arith) c.requires.leading.0 c.requires.leading.1 c.in-Ok-Some.values.items sample)

pub returns-in_err-fractions_of-in-Ok-Some-clause-kept : goal.returns-in_err-fractions_of-in-Ok-Some-clause-kept
returns-in_err-fractions_of-in-Ok-Some-clause-kept g c =
    keeps_then c.args.store.now c.cases.new.store c.sample_in-2.new.store c.cases.ensures.kept c.sample_in-2.ensures.kept

pub returns-in-Ok-Some-clause-verdict : goal.returns-in-Ok-Some-clause-verdict
returns-in-Ok-Some-clause-verdict g c =
    let o = context_of c.args.engine.now.context in
    let f = tree c.args.store.now c.args.id in
    let same : tree c.cases.new.store c.args.id ≡ f = c.cases.ensures.kept.same c.args.id c.requires.id in
    let seen = sample_some o (tree c.cases.new.store c.args.id) c.in-Ok-Some.field-0 c.in-Ok-Some.values (ap point_of c.new-2.ensures) c.in-Ok-Some.ensures.truth c.in-Ok-Some.field-0-is in
    let sample = subst (λ (t : Tree). IsTrueSample o t origin (Some (values_of c.in-Ok-Some.values.items))) same seen in
    λ body e.
    witnessed o c.args.count f c.requires.normal (omega arith) body e c.in-Ok-Some.values.items c.in_ok-fractions_of-in-Ok-Some.field-0.items sample
    (c.in_ok-fractions_of-in-Ok-Some.ensures ∙ ap (λ (vs : List (VarId × Fraction)). first_of c.args.count vs) (c.deref-in-Ok-Some.ensures.value ∙ ap (λ (v : Vec (VarId × Fraction) Global). v.items) c.in-Ok-Some.values-is))

pub returns-in-Ok-Some-clause-kept : goal.returns-in-Ok-Some-clause-kept
returns-in-Ok-Some-clause-kept g c =
    keeps_then c.args.store.now c.cases.new.store c.sample_in-2.new.store c.cases.ensures.kept c.sample_in-2.ensures.kept

pub returns-in-Ok-None-clause-verdict : goal.returns-in-Ok-None-clause-verdict
returns-in-Ok-None-clause-verdict g c =
    let o = context_of c.args.engine.now.context in
    let f = tree c.args.store.now c.args.id in
    let same : tree c.cases.new.store c.args.id ≡ f = c.cases.ensures.kept.same c.args.id c.requires.id in
    let seen = sample_none o (tree c.cases.new.store c.args.id) c.in-Ok-None.field-0 (ap point_of c.new-2.ensures) c.in-Ok-None.ensures.truth c.in-Ok-None.field-0-is in
    λ body e. refuted o c.args.count f c.requires.normal (omega arith) body e (subst (λ (t : Tree). IsTrueSample o t origin None) same seen)

pub returns-in-Ok-None-clause-kept : goal.returns-in-Ok-None-clause-kept
returns-in-Ok-None-clause-kept g c =
    keeps_then c.args.store.now c.cases.new.store c.sample_in-2.new.store c.cases.ensures.kept c.sample_in-2.ensures.kept

pub returns-then-is_true-2 : goal.returns-then-is_true-2
returns-then-is_true-2 g c =
    let o = context_of c.args.engine.now.context in
    let f = tree c.args.store.now c.args.id in
    let same : tree c.cases.new.store c.args.id ≡ f = c.cases.ensures.kept.same c.args.id c.requires.id in
    let told : IsTrue (not (beq c.some_true.result c.in-Ok.cases.universal)) ↔ TrueAt o f origin = told_by o c.cases.new.store f c.requires.closed c.requires.normal c.in-Ok.cases c.in-Ok.ensures.cases c.some_true.result
    (subst (λ (cases : List Case). IsTrue c.some_true.result ↔ SomeTrue c.cases.new.store cases) c.deref.ensures.value c.some_true.ensures) in
    let limit = c.args.engine.now.limits.nodes in
    let stops : SampleStops o limit (tree c.cases.new.store c.args.id) = sample_stops o limit (tree c.cases.new.store c.args.id) (ap point_of c.new-2.ensures) (search rules) in
    record {
      verdict = λ body e. (subst (λ (t : Tree). TrueAt o t origin) e (told.0 c.if-is_true-2.true), subst (SampleStops o limit) (same ∙ e) stops);
      kept = keeps_then c.args.store.now c.cases.new.store c.sample_in-2.new.store c.cases.ensures.kept c.sample_in-2.ensures.kept;
    }

pub returns-in-Err-Overflow-sample_in : goal.returns-in-Err-Overflow-sample_in
returns-in-Err-Overflow-sample_in g c =
    let o = context_of c.args.engine.now.context in
    let f = tree c.args.store.now c.args.id in
    let told : IsTrue (not (beq c.some_true.result c.in-Ok.cases.universal)) ↔ TrueAt o f origin = told_by o c.cases.new.store f c.requires.closed c.requires.normal c.in-Ok.cases c.in-Ok.ensures.cases c.some_true.result
    (subst (λ (cases : List Case). IsTrue c.some_true.result ↔ SomeTrue c.cases.new.store cases) c.deref.ensures.value c.some_true.ensures) in
    record {
      verdict = λ body e. subst (λ (t : Tree). ¬ (TrueAt o t origin)) e (λ t. let yes = told.1 t in let no = c.if-is_true-2.false in absurd (cc (yes, no)));
      kept = keeps_then c.args.store.now c.cases.new.store c.sample_in-2.new.store c.cases.ensures.kept c.sample_in-2.ensures.kept;
    }

pub returns-clause-kept : goal.returns-clause-kept
returns-clause-kept g c =
    keeps_then c.args.store.now c.cases.new.store c.sample_in-2.new.store c.cases.ensures.kept c.sample_in-2.ensures.kept
