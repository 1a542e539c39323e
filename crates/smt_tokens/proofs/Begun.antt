-- What one more token makes of a command that has begun.
use Rattle.std.proofs.Common.{◌≡◌, ℕ, suc, ◌+◌, ◌-◌, ◌<◌, true, false, List, [], ◌∷◌, ◌++◌, sym, subst, arith}
use Rattle.std.specs.Prelude.{Option, None}
use Rattle.smt_tokens.specs.declared.step.Begun.{Begun}
use Rattle.smt_tokens.specs.declared.step.Begun.TheVariants as begun
use Rattle.smt_language.specs.declared.token.SmtCut.{SmtCut}
use Rattle.smt_language.specs.declared.token.SmtLexeme.{SmtLexeme}
use Rattle.smt_language.specs.Commands.{is_open, is_close, never, here, closed, opened, inside, over, stops, goes, Cuts, none, group, loose}
use Rattle.smt_tokens.specs.Begun.{GoesOn, listed, outside, in_run, in_group}

pub group_begins : (total : ℕ) (t : SmtLexeme) (ts : List SmtLexeme) (cs : List SmtCut) → is_open t.token ≡ true → GoesOn total (begun.Group t.start 0) ts cs → Cuts total (t ∷ ts) cs
group_begins total t ts cs e (in_group c r) = group e c r

pub loose_begins : (total : ℕ) (t : SmtLexeme) (ts : List SmtLexeme) (cs : List SmtCut) → is_open t.token ≡ false
    → GoesOn total (begun.Loose (record { start = t.start; end = t.end })) ts cs → Cuts total (t ∷ ts) cs
loose_begins total t ts cs e (in_run c r) = loose e c r

pub run_goes : (cut : SmtCut) (total : ℕ) (t : SmtLexeme) (ts : List SmtLexeme) (cs : List SmtCut) → is_open t.token ≡ false
    → GoesOn total (begun.Loose (record { start = cut.start; end = t.end })) ts cs → GoesOn total (begun.Loose cut) (t ∷ ts) cs
run_goes cut total t ts cs e (in_run c r) = in_run (goes e c) r

rises : (start depth total : ℕ) (t : SmtLexeme) (ts : List SmtLexeme) (cs : List SmtCut) → is_open t.token ≡ true
    → GoesOn total (begun.Group start (suc depth)) ts cs → GoesOn total (begun.Group start depth) (t ∷ ts) cs
rises start depth total t ts cs e (in_group c r) = in_group (opened e c) r

falls : (start depth total : ℕ) (t : SmtLexeme) (ts : List SmtLexeme) (cs : List SmtCut) → is_close t.token ≡ true
    → GoesOn total (begun.Group start depth) ts cs → GoesOn total (begun.Group start (suc depth)) (t ∷ ts) cs
falls start depth total t ts cs e (in_group c r) = in_group (closed e c) r

stays : (start depth total : ℕ) (t : SmtLexeme) (ts : List SmtLexeme) (cs : List SmtCut) → is_open t.token ≡ false → is_close t.token ≡ false
    → GoesOn total (begun.Group start depth) ts cs → GoesOn total (begun.Group start depth) (t ∷ ts) cs
stays start depth total t ts cs e f (in_group c r) = in_group (inside e f c) r

module _ (start depth : ℕ) (t : SmtLexeme) where
  pub depth_rises : (b : Begun) → b ≡ begun.Group start (depth + 1) → is_open t.token ≡ true
      → (total : ℕ) (ts : List SmtLexeme) (cs : List SmtCut) → GoesOn total b ts cs → GoesOn total (begun.Group start depth) (t ∷ ts) cs
  depth_rises b is e total ts cs g =
      let next : depth + 1 ≡ suc depth = omega arith in
      rises start depth total t ts cs e (subst (λ d. GoesOn total (begun.Group start d) ts cs) next (subst (λ b. GoesOn total b ts cs) is g))

  pub depth_falls : (b : Begun) → b ≡ begun.Group start (depth - 1) → 0 < depth → is_close t.token ≡ true
      → (total : ℕ) (ts : List SmtLexeme) (cs : List SmtCut) → GoesOn total b ts cs → GoesOn total (begun.Group start depth) (t ∷ ts) cs
  depth_falls b is some e total ts cs g =
      let last : suc (depth - 1) ≡ depth = omega arith in
      subst (λ d. GoesOn total (begun.Group start d) (t ∷ ts) cs) last (falls start (depth - 1) total t ts cs e (subst (λ b. GoesOn total b ts cs) is g))

  pub depth_stays : (b : Begun) → b ≡ begun.Group start depth → is_open t.token ≡ false → is_close t.token ≡ false
      → (total : ℕ) (ts : List SmtLexeme) (cs : List SmtCut) → GoesOn total b ts cs → GoesOn total (begun.Group start depth) (t ∷ ts) cs
  depth_stays b is e f total ts cs g = stays start depth total t ts cs e f (subst (λ b. GoesOn total b ts cs) is g)

  pub group_ends : depth ≡ 0 → is_close t.token ≡ true → (total : ℕ) (ts : List SmtLexeme) (cs : List SmtCut) → GoesOn total begun.Nothing ts cs
      → GoesOn total (begun.Group start depth) (t ∷ ts) (record { start = start; end = t.end } ∷ cs)
  group_ends flat e total ts cs (outside c) =
      subst (λ d. GoesOn total (begun.Group start d) (t ∷ ts) (record { start = start; end = t.end } ∷ cs)) (sym flat) (in_group (here e) c)

pub nothing_goes : (total : ℕ) (ts : List SmtLexeme) (cs : List SmtCut) → Cuts total ts cs → GoesOn total begun.Nothing ts cs
nothing_goes total ts cs c = outside c

-- at the end of a script
pub end_of_nothing : (total : ℕ) → GoesOn total begun.Nothing [] []
end_of_nothing total = outside none

pub end_of_run : (total : ℕ) (cut : SmtCut) → GoesOn total (begun.Loose cut) [] (cut ∷ [])
end_of_run total cut = in_run over none

pub end_of_group : (total start depth : ℕ) → GoesOn total (begun.Group start depth) [] (record { start = start; end = total } ∷ [])
end_of_group total start depth = in_group never none

pub begun_is : (total : ℕ) (ts : List SmtLexeme) (cs : List SmtCut) (b c : Begun) → b ≡ c → GoesOn total c ts cs → GoesOn total b ts cs
begun_is total ts cs b c is g = subst (λ b. GoesOn total b ts cs) (sym is) g

pub run_stops : (total : ℕ) (t : SmtLexeme) (ts : List SmtLexeme) (cs : List SmtCut) (cut : SmtCut) → is_open t.token ≡ true → Cuts total (t ∷ ts) cs
    → GoesOn total (begun.Loose cut) (t ∷ ts) (cut ∷ cs)
run_stops total t ts cs cut e c = in_run (stops e) c

-- where a token ends no command
pub with_none : {start depth : ℕ} {b : Begun} {t : SmtLexeme} {ended : Option SmtCut} → ended ≡ None
    → ((total : ℕ) (ts : List SmtLexeme) (cs : List SmtCut) → GoesOn total b ts cs → GoesOn total (begun.Group start depth) (t ∷ ts) cs)
    → (total : ℕ) (ts : List SmtLexeme) (cs : List SmtCut) → GoesOn total b ts cs → GoesOn total (begun.Group start depth) (t ∷ ts) (listed ended ++ cs)
with_none {start} {depth} {t = t} is later total ts cs g = subst (λ e. GoesOn total (begun.Group start depth) (t ∷ ts) (listed e ++ cs)) (sym is) (later total ts cs g)
