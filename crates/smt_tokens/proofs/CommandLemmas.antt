-- Each script is cut into commands in one way.
use Rattle.std.proofs.Common.{◌≡◌, ℕ, zero, suc, Bool, true, false, List, [], ◌∷◌, length, sym, refl, ◌∙◌, subst}
use Rattle.smt_language.specs.declared.token.SmtCut.{SmtCut}
use Rattle.smt_language.specs.declared.token.SmtLexeme.{SmtLexeme}
use Rattle.smt_language.specs.declared.token.SmtToken.{SmtToken}
use Rattle.smt_language.specs.declared.token.SmtToken.TheVariants as token
use Rattle.smt_language.specs.Commands.{is_open, is_close, Closes, never, here, closed, opened, inside, Runs, over, stops, goes, Cuts, none, group, loose, AreCommands}
use Rattle.smt_tokens.proofs.Lexed.{lexed, same_lexemes}

apart : {b : Bool} → b ≡ true → b ≡ false → ⊥
apart e f = let both : true ≡ false = sym e ∙ f in cc

open_apart : (t : SmtToken) → is_open t ≡ true → is_close t ≡ true → ⊥
open_apart token.Open e f = cc
open_apart token.Close e f = cc
open_apart (token.Numeral n) e f = cc
open_apart (token.Decimal n m) e f = cc
open_apart (token.Symbol s) e f = cc
open_apart token.Unfit e f = cc
open_apart token.Text e f = cc
open_apart token.Keyword e f = cc
open_apart token.Bad e f = cc

same_close : {total depth end end' : ℕ} {ts rest rest' : List SmtLexeme} → Closes total depth ts end rest → Closes total depth ts end' rest' → (end ≡ end') × (rest ≡ rest')
same_close never never = (refl, refl)
same_close (here e) (here f) = (refl, refl)
same_close (here {t = t} e) (opened f q) = absurd (open_apart t.token f e)
same_close (here e) (inside f g q) = absurd (apart e g)
same_close (closed e p) (closed f q) = same_close p q
same_close (closed {t = t} e p) (opened f q) = absurd (open_apart t.token f e)
same_close (closed e p) (inside f g q) = absurd (apart e g)
same_close (opened {t = t} e p) (here f) = absurd (open_apart t.token e f)
same_close (opened {t = t} e p) (closed f q) = absurd (open_apart t.token e f)
same_close (opened e p) (opened f q) = same_close p q
same_close (opened e p) (inside f g q) = absurd (apart e f)
same_close (inside e f p) (here g) = absurd (apart g f)
same_close (inside e f p) (closed g q) = absurd (apart g f)
same_close (inside e f p) (opened g q) = absurd (apart g e)
same_close (inside e f p) (inside g h q) = same_close p q

same_run : {before end end' : ℕ} {ts rest rest' : List SmtLexeme} → Runs before ts end rest → Runs before ts end' rest' → (end ≡ end') × (rest ≡ rest')
same_run over over = (refl, refl)
same_run (stops e) (stops f) = (refl, refl)
same_run (stops e) (goes f q) = absurd (apart e f)
same_run (goes e p) (stops f) = absurd (apart f e)
same_run (goes e p) (goes f q) = same_run p q

same_first : (start : ℕ) {end end' : ℕ} {cs ds : List SmtCut} → end ≡ end' → cs ≡ ds
    → (let c : SmtCut = record { start = start; end = end } in c) ∷ cs ≡ (let d : SmtCut = record { start = start; end = end' } in d) ∷ ds
same_first start e f = λ i. (let c : SmtCut = record { start = start; end = e i } in c) ∷ f i

-- no tokens are cut in two ways
same_cuts : {total : ℕ} {ts : List SmtLexeme} {cs ds : List SmtCut} → Cuts total ts cs → Cuts total ts ds → cs ≡ ds
same_cuts none none = refl
same_cuts {total} (group {t = t} e p c) (group {cs = ds} f q d) =
    let same = same_close p q in
    same_first t.start same.0 (same_cuts c (subst (λ r. Cuts total r ds) (sym same.1) d))
same_cuts (group e p c) (loose f q d) = absurd (apart e f)
same_cuts (loose e p c) (group f q d) = absurd (apart f e)
same_cuts {total} (loose {t = t} e p c) (loose {cs = ds} f q d) =
    let same = same_run p q in
    same_first t.start same.0 (same_cuts c (subst (λ r. Cuts total r ds) (sym same.1) d))

-- the tokens are cut, wherever they stand
record AreCut (total : ℕ) (ts : List SmtLexeme) : Type 0 where
  outside : (cs : List SmtCut) × Cuts total ts cs
  behind : (before : ℕ) → (end : ℕ) × (rest : List SmtLexeme) × (cs : List SmtCut) × Runs before ts end rest × Cuts total rest cs
  within : (depth : ℕ) → (end : ℕ) × (rest : List SmtLexeme) × (cs : List SmtCut) × Closes total depth ts end rest × Cuts total rest cs

module _ (total : ℕ) (t : SmtLexeme) (ts : List SmtLexeme) (later : AreCut total ts) where
  group_here : is_open t.token ≡ true → (cs : List SmtCut) × Cuts total (t ∷ ts) cs
  group_here e = let all = later.within 0 in (record { start = t.start; end = all.0 } ∷ all.2, group e all.3 all.4)

  loose_here : is_open t.token ≡ false → (cs : List SmtCut) × Cuts total (t ∷ ts) cs
  loose_here e = let all = later.behind t.end in (record { start = t.start; end = all.0 } ∷ all.2, loose e all.3 all.4)

  goes_here : is_open t.token ≡ false → (before : ℕ) → (end : ℕ) × (rest : List SmtLexeme) × (cs : List SmtCut) × Runs before (t ∷ ts) end rest × Cuts total rest cs
  goes_here e before = let all = later.behind t.end in (all.0, all.1, all.2, goes e all.3, all.4)

  opens_here : is_open t.token ≡ true → (depth : ℕ) → (end : ℕ) × (rest : List SmtLexeme) × (cs : List SmtCut) × Closes total depth (t ∷ ts) end rest × Cuts total rest cs
  opens_here e depth = let all = later.within (suc depth) in (all.0, all.1, all.2, opened e all.3, all.4)

  closes_here : is_close t.token ≡ true → (depth : ℕ) → (end : ℕ) × (rest : List SmtLexeme) × (cs : List SmtCut) × Closes total depth (t ∷ ts) end rest × Cuts total rest cs
  closes_here e zero = (t.end, ts, later.outside.0, here e, later.outside.1)
  closes_here e (suc depth) = let all = later.within depth in (all.0, all.1, all.2, closed e all.3, all.4)

  stays_here : is_open t.token ≡ false → is_close t.token ≡ false → (depth : ℕ)
      → (end : ℕ) × (rest : List SmtLexeme) × (cs : List SmtCut) × Closes total depth (t ∷ ts) end rest × Cuts total rest cs
  stays_here e f depth = let all = later.within depth in (all.0, all.1, all.2, inside e f all.3, all.4)

  are_cut_if : (opens closes : Bool) → is_open t.token ≡ opens → is_close t.token ≡ closes → AreCut total (t ∷ ts)
  are_cut_if true closes e f =
      let all = group_here e in
      record { outside = all; behind = λ before. (before, t ∷ ts, all.0, stops e, all.1); within = opens_here e }
  are_cut_if false true e f = record { outside = loose_here e; behind = goes_here e; within = closes_here f }
  are_cut_if false false e f = record { outside = loose_here e; behind = goes_here e; within = stays_here e f }

are_cut : (total : ℕ) (ts : List SmtLexeme) → AreCut total ts
are_cut total [] = record { outside = ([], none); behind = λ before. (before, [], [], over, none); within = λ depth. (total, [], [], never, none) }
are_cut total (t ∷ ts) = are_cut_if total t ts (are_cut total ts) (is_open t.token) (is_close t.token) refl refl

-- all bytes have commands
pub some_commands : (bytes : List ℕ) → (commands : List SmtCut) × AreCommands bytes commands
some_commands bytes =
    let all = lexed bytes 0 in
    let cut = (are_cut (length bytes) all.0).outside in
    (cut.0, record { tokens = all.0; lexes = all.1; cuts = cut.1 })

-- no bytes have two lists of commands
pub same_commands : (bytes : List ℕ) (commands others : List SmtCut) → AreCommands bytes commands → AreCommands bytes others → commands ≡ others
same_commands bytes commands others p q =
    same_cuts p.cuts (subst (λ ts. Cuts (length bytes) ts others) (sym (same_lexemes p.lexes q.lexes)) q.cuts)
