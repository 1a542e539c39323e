use Rattle.std.proofs.Common.{to_z, of_z, ◌≡◌, ℕ, ◌<◌, ◌≤◌, ◌^◌, sym, ap, ◌∙◌, subst, arith, Err, inl, inr, map, ◌++◌, unsigned_abs}
use Rattle.std.proofs.Math.IntN.{ℤ, pos, ◌+ℤ◌, ◌-ℤ◌, ◌*ℤ◌}
use Rattle.std.specs.Int.{w64, w128, FitsUnsigned}
use Rattle.std.specs.Prelude.{◌<ℤ◌, ◌≤ℤ◌}
use Rattle.std.proofs.lemmas.Bool.{cases_lt}
use Rattle.std.proofs.lemmas.Int.{ints}
use Rattle.exact_numbers.specs.Limit.{InLimit, PastLimit}
use Rattle.exact_numbers.proofs.Casts.{read_back}
use Rattle.logic_meaning.specs.Form.{coefficient, scale}
use Rattle.elimination_theory.proofs.LowestTerms.{natural}
use Rattle.normal_atoms.specs.Atoms.{relation_of}
use Rattle.test_points.specs.Points.{place_of}
use Rattle.test_points.specs.Starts.{run_of}
use Rattle.test_points.proofs.Steps.{positive_abs, abs_within}
use Rattle.test_points.proofs.Beside.{first_fails, last_fails, coefficient_fails, end_within, end_places, end_counted, passed_first, passed_before, formed_terms, formed_within, between}
use Rattle.test_points.proofs.cooper_periods_ends.push_end.Goals as goal

too_large : (s : ℤ) → pos 0 <ℤ s → InLimit s → (FitsUnsigned w64 (to_z w128 (of_z w128 s)) → ⊥) → 2 ^ 64 ≤ unsigned_abs s
too_large s h w n =
    let e = natural s (omega (arith, ints)) in
    elim (cases_lt (unsigned_abs s) (2 ^ 64)) [
      | inl lt ↦
          let low : pos 0 ≤ℤ s = omega (arith, ints) in
          let high : s <ℤ pos (2 ^ 64) = omega (arith, ints) in
          absurd (n (subst (FitsUnsigned w64) (sym (read_back s w)) (low, high)))
      | inr ge ↦ ge
    ]

last_passes : (x y first before : ℤ) → x ≡ first → y ≡ before → PastLimit (x +ℤ y) → PastLimit (first +ℤ before)
last_passes x y first before f g p = subst PastLimit (ap (λ (t : ℤ). t +ℤ y) f ∙ ap (λ (t : ℤ). first +ℤ t) g) p

pub returns-in_default-try_from-clause-many : goal.returns-in_default-try_from-clause-many
returns-in_default-try_from-clause-many c k =
    let u = c.requires.usable in let s = c.args.side in let l = unsigned_abs c.args.period.now.scale in let d = unsigned_abs c.args.period.now.span in
    let n = end_counted s l d (relation_of c.args.relation) c.args.factor c.in-Some.step c.args.end (sym c.in-Some.ensures) (positive_abs c.args.period.now.span u.span) in
    let m = too_large c.args.period.now.span u.span u.span_within c.in_default-try_from.ensures in
    omega arith

pub returns-in_default-first_number-clause-overflow : goal.returns-in_default-first_number-clause-overflow
returns-in_default-first_number-clause-overflow c k =
    let u = c.requires.usable in let s = c.args.side in let l = unsigned_abs c.args.period.now.scale in let d = unsigned_abs c.args.period.now.span in
    let r = relation_of c.args.relation in let e = c.args.end in let p = c.constant_part.ensures in
    let wc : InLimit c.constant_part.result = subst InLimit (sym p.value) p.linear.constant_within in
    let f = passed_first s r c.args.factor c.in-Some.step c.signed-number.result _ e (sym c.in-Some.ensures) c.requires.within c.signed-number.ensures.value c.signed-number.ensures.within (read_back c.constant_part.result wc ∙ p.value) in
    first_fails s l d r c.args.factor c.in-Some.step e (sym c.in-Some.ensures) (positive_abs c.args.period.now.span u.span) (subst PastLimit f c.in_default-first_number.ensures)

pub returns-in_default-sum-clause-overflow : goal.returns-in_default-sum-clause-overflow
returns-in_default-sum-clause-overflow c k =
    let u = c.requires.usable in let s = c.args.side in let l = unsigned_abs c.args.period.now.scale in let d = unsigned_abs c.args.period.now.span in
    let r = relation_of c.args.relation in let e = c.args.end in let p = c.constant_part.ensures in
    let wc : InLimit c.constant_part.result = subst InLimit (sym p.value) p.linear.constant_within in
    let f = passed_first s r c.args.factor c.in-Some.step c.signed-number.result _ e (sym c.in-Some.ensures) c.requires.within c.signed-number.ensures.value c.signed-number.ensures.within (read_back c.constant_part.result wc ∙ p.value) in
    let first = c.in-Some-first_number.first in let a = c.in-Some-first_number.ensures in
    let b = passed_before c.args.period.now.span u.span u.span_within in
    last_fails s l d r c.args.factor c.in-Some.step e (sym c.in-Some.ensures) (positive_abs c.args.period.now.span u.span) first (a.0 ∙ f)
    (last_passes _ _ first (pos d -ℤ pos 1) (read_back first a.1) b c.in_default-sum.ensures.value)

last_within : (x y z first before : ℤ) → z ≡ x +ℤ y → x ≡ first → y ≡ before → InLimit z → InLimit (first +ℤ before)
last_within x y z first before e f g w = subst InLimit (e ∙ ap (λ (t : ℤ). t +ℤ y) f ∙ ap (λ (t : ℤ). first +ℤ t) g) w

pub push_run-requires-clause-within : goal.push_run-requires-clause-within
push_run-requires-clause-within c j lt =
    let u = c.requires.usable in let d = unsigned_abs c.args.period.now.span in
    let first = c.in-Some-first_number.first in let a = c.in-Some-first_number.ensures in
    let back = read_back first a.1 in
    let w = last_within _ _ c.in-Some-sum._last first (pos d -ℤ pos 1) c.in-Some-sum.ensures.value.0 back (passed_before c.args.period.now.span u.span u.span_within) c.in-Some-sum.ensures.value.1 in
    let n : c.in-Ok.count ≡ d = c.in-Ok.ensures.1 ∙ ap unsigned_abs (read_back c.args.period.now.span u.span_within) in
    subst (λ (z : ℤ). InLimit (z +ℤ pos j)) (sym back) (between first d j a.1 w (subst (λ (m : ℕ). j < m) n lt))

pub returns-in_ok-push_run-in-Ok-scaled-clause-places : goal.returns-in_ok-push_run-in-Ok-scaled-clause-places
returns-in_ok-push_run-in-Ok-scaled-clause-places c =
    let u = c.requires.usable in let s = c.args.side in let l = unsigned_abs c.args.period.now.scale in let d = unsigned_abs c.args.period.now.span in
    let r = relation_of c.args.relation in let e = c.args.end in let p = c.constant_part.ensures in
    let wc : InLimit c.constant_part.result = subst InLimit (sym p.value) p.linear.constant_within in
    let f = passed_first s r c.args.factor c.in-Some.step c.signed-number.result _ e (sym c.in-Some.ensures) c.requires.within c.signed-number.ensures.value c.signed-number.ensures.within (read_back c.constant_part.result wc ∙ p.value) in
    let first = c.in-Some-first_number.first in let a = c.in-Some-first_number.ensures in
    let n : c.in-Ok.count ≡ d = c.in-Ok.ensures.1 ∙ ap unsigned_abs (read_back c.args.period.now.span u.span_within) in
    let t = formed_terms _ c.args.factor e c.in-Ok-scaled.form c.in-Ok-scaled.ensures.value (read_back c.args.factor c.requires.within) in
    let g = end_places s l d r c.args.factor c.in-Some.step e (sym c.in-Some.ensures) (positive_abs c.args.period.now.span u.span) first c.in-Ok-scaled.form c.in-Ok.count (a.0 ∙ f) t n in
    let o = ap (λ (z : ℤ). run_of s (unsigned_abs z) c.in-Ok-scaled.form (to_z w128 (of_z w128 first)) c.in-Ok.count) (read_back c.args.period.now.scale u.scale_within) ∙ ap (λ (z : ℤ). run_of s l c.in-Ok-scaled.form z c.in-Ok.count) (read_back first a.1) ∙ g in
    c.in_ok-push_run-in-Ok-scaled.ensures.places ∙ ap (λ ps. map place_of c.args.points.now.items ++ ps) o

pub returns-in_ok-push_run-in-Ok-scaled-clause-within : goal.returns-in_ok-push_run-in-Ok-scaled-clause-within
returns-in_ok-push_run-in-Ok-scaled-clause-within c =
    let u = c.requires.usable in let s = c.args.side in let l = unsigned_abs c.args.period.now.scale in let d = unsigned_abs c.args.period.now.span in
    let r = relation_of c.args.relation in let e = c.args.end in let p = c.constant_part.ensures in
    let wc : InLimit c.constant_part.result = subst InLimit (sym p.value) p.linear.constant_within in
    let f = passed_first s r c.args.factor c.in-Some.step c.signed-number.result _ e (sym c.in-Some.ensures) c.requires.within c.signed-number.ensures.value c.signed-number.ensures.within (read_back c.constant_part.result wc ∙ p.value) in
    let first = c.in-Some-first_number.first in let a = c.in-Some-first_number.ensures in
    let w = last_within _ _ c.in-Some-sum._last first (pos d -ℤ pos 1) c.in-Some-sum.ensures.value.0 (read_back first a.1) (passed_before c.args.period.now.span u.span u.span_within) c.in-Some-sum.ensures.value.1 in
    let t = formed_terms _ c.args.factor e c.in-Ok-scaled.form c.in-Ok-scaled.ensures.value (read_back c.args.factor c.requires.within) in
    end_within s l d r c.args.factor c.in-Some.step e (sym c.in-Some.ensures) (positive_abs c.args.period.now.span u.span) first (a.0 ∙ f) (formed_within c.in-Ok-scaled.form (scale c.args.factor e) t c.in-Ok-scaled.ensures.linear) (abs_within c.args.period.now.scale u.scale_within) a.1 w

pub returns-in-Err-Overflow-clause-overflow : goal.returns-in-Err-Overflow-clause-overflow
returns-in-Err-Overflow-clause-overflow c k =
    let u = c.requires.usable in let s = c.args.side in let l = unsigned_abs c.args.period.now.scale in let d = unsigned_abs c.args.period.now.span in
    let r = relation_of c.args.relation in let e = c.args.end in
    let p = c.in-Err-Overflow.ensures.overflow (ap Err c.in-Err-Overflow.field-0-is) in
    coefficient_fails s l d r c.args.factor c.in-Some.step e (sym c.in-Some.ensures) (positive_abs c.args.period.now.span u.span) p.0 (subst (λ (z : ℤ). PastLimit (z *ℤ coefficient p.0 e)) (read_back c.args.factor c.requires.within) p.1)
