use Rattle.std.proofs.Common.{◌≡◌, ℕ, true, sym, ap, ◌∙◌, subst, Err, unsigned_abs}
use Rattle.std.proofs.Math.IntN.{ℤ, pos}
use Rattle.logic_meaning.specs.Form.{Form, coefficient, without}
use Rattle.logic_meaning.specs.Combining.{CombinePasses}
use Rattle.linear_forms.specs.Combinations.{IsCombination}
use Rattle.normal_atoms.proofs.Stepped.{ok_map}
use Rattle.test_points.specs.declared.verdict.Verdict.{Verdict}
use Rattle.normal_atoms.specs.Atoms.{context_of}
use Rattle.test_points.specs.Substituted.{ended, ended_within}
use Rattle.test_points.proofs.Ended.{always_within, never_within, held_tree, held_within, held_refused, end_refused, passed_over}
use Rattle.test_points.proofs.comparing.at_end.Goals as goal

combined : (x : ℕ) (f e v : Form) (o d : ℤ) → o ≡ d → IsCombination (coefficient x f) e o (without x f) v → IsCombination (coefficient x f) e d (without x f) v
combined x f e v o d k = subst (λ (z : ℤ). IsCombination (coefficient x f) e z (without x f) v) k

pub returns-in-Always-clause-within : goal.returns-in-Always-clause-within
returns-in-Always-clause-within c =
    let x = c.args.point.now.name.number in let f = c.args.form.now in let e = c.args.point.now.form in let d = unsigned_abs c.args.point.now.over in
    let h = combined x f e c.in-Ok.value _ (pos d) (passed_over c.args.point.now.over c.requires.positive c.requires.over_within) c.in-Ok.ensures.combined in
    subst (λ (v : Verdict). ended_within (context_of c.args.context) v x e d f ≡ true) (sym c.in-Always.is) (always_within (context_of c.args.context) x e d f c.in-Ok.value h)

pub returns-in-Never-clause-within : goal.returns-in-Never-clause-within
returns-in-Never-clause-within c =
    let x = c.args.point.now.name.number in let f = c.args.form.now in let e = c.args.point.now.form in let d = unsigned_abs c.args.point.now.over in
    let h = combined x f e c.in-Ok.value _ (pos d) (passed_over c.args.point.now.over c.requires.positive c.requires.over_within) c.in-Ok.ensures.combined in
    subst (λ (v : Verdict). ended_within (context_of c.args.context) v x e d f ≡ true) (sym c.in-Never.is) (never_within (context_of c.args.context) x e d f c.in-Ok.value h)

pub returns-in-Holds-clause-ended : goal.returns-in-Holds-clause-ended
returns-in-Holds-clause-ended c =
    let x = c.args.point.now.name.number in let f = c.args.form.now in let e = c.args.point.now.form in let d = unsigned_abs c.args.point.now.over in
    let h = combined x f e c.in-Ok.value _ (pos d) (passed_over c.args.point.now.over c.requires.positive c.requires.over_within) c.in-Ok.ensures.combined in
    ok_map c.in_normal_form.result
    (λ n k. held_tree (context_of c.args.context) x e d f c.in-Ok.value c.in-Holds.relation _ h k ∙ ap (λ (v : Verdict). ended (context_of c.args.context) v x e d f) (sym c.in-Holds.is))
    c.in_normal_form.ensures.normal

pub returns-in-Holds-clause-within : goal.returns-in-Holds-clause-within
returns-in-Holds-clause-within c =
    let x = c.args.point.now.name.number in let f = c.args.form.now in let e = c.args.point.now.form in let d = unsigned_abs c.args.point.now.over in
    let h = combined x f e c.in-Ok.value _ (pos d) (passed_over c.args.point.now.over c.requires.positive c.requires.over_within) c.in-Ok.ensures.combined in
    ok_map c.in_normal_form.result
    (λ n k. ap (λ (v : Verdict). ended_within (context_of c.args.context) v x e d f) c.in-Holds.is ∙ held_within (context_of c.args.context) x e d f c.in-Ok.value c.in-Holds.relation h k)
    c.in_normal_form.ensures.within

pub returns-in-Holds-clause-overflow : goal.returns-in-Holds-clause-overflow
returns-in-Holds-clause-overflow c k =
    let x = c.args.point.now.name.number in let f = c.args.form.now in let e = c.args.point.now.form in let d = unsigned_abs c.args.point.now.over in
    let h = combined x f e c.in-Ok.value _ (pos d) (passed_over c.args.point.now.over c.requires.positive c.requires.over_within) c.in-Ok.ensures.combined in
    ap (λ (v : Verdict). ended_within (context_of c.args.context) v x e d f) c.in-Holds.is ∙ held_refused (context_of c.args.context) x e d f c.in-Ok.value c.in-Holds.relation h (c.in_normal_form.ensures.overflow k)

pub returns-in-Err-Overflow-clause-overflow : goal.returns-in-Err-Overflow-clause-overflow
returns-in-Err-Overflow-clause-overflow c h =
    let x = c.args.point.now.name.number in let f = c.args.form.now in let e = c.args.point.now.form in let d = unsigned_abs c.args.point.now.over in
    let k = c.form_at.ensures.overflow (c.in-Err-Overflow.is ∙ ap Err c.in-Err-Overflow.field-0-is) in
    end_refused (context_of c.args.context) c.args.verdict x e d f
    (subst (λ (z : ℤ). CombinePasses (coefficient x f) e z (without x f)) (passed_over c.args.point.now.over c.requires.positive c.requires.over_within) k)
