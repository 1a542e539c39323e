use Rattle.std.proofs.Common.{◌≡◌, ◌<◌, ◌-◌, ◌+◌, ℕ, length, get_or, drop, None, sym, ap, ◌∙◌, arith, subst}
use Rattle.smt_resolver.specs.Frames.{looked_up}
use Rattle.smt_resolver.proofs.FrameLaws.{found_at, away_at}
use Rattle.smt_resolver.proofs.frames.Frames.get.Goals as goal

pub returns-in-Some : goal.returns-in-Some
returns-in-Some g c =
    let fs = c.args.self.now in let f = c.index.result.now in let x = c.args.name.now in let p : ℕ = c.outwards.place - 1 in
    let w = c.outwards.invariant.within in let t = c.outwards-test.true in
    let e : c.outwards.place ≡ p + 1 = omega arith in
    let l : p < length fs = omega arith in
    sym (found_at fs p f x c.in-Some.value.now l (c.index.ensures ∙ ap (λ ys. get_or ys p f) c.self.view_is) (sym c.in-Some.ensures) (subst (λ (n : ℕ). looked_up (drop n fs) x ≡ None) e c.outwards.invariant.away))

pub outwards-preserved : goal.outwards-preserved
outwards-preserved g c =
    let fs = c.args.self.now in let f = c.index.result.now in let x = c.args.name.now in let p : ℕ = c.outwards.place - 1 in
    let w = c.outwards.invariant.within in let t = c.outwards-test.true in
    let e : c.outwards.place ≡ p + 1 = omega arith in
    let l : p < length fs = omega arith in
    record {
      within = omega arith;
      away = away_at fs p f x l (c.index.ensures ∙ ap (λ ys. get_or ys p f) c.self.view_is) (sym c.in_default.ensures) (subst (λ (n : ℕ). looked_up (drop n fs) x ≡ None) e c.outwards.invariant.away);
    }
