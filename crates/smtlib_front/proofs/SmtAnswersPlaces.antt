-- The places of commands lie within the script.
use Rattle.std.proofs.Common.{◌≡◌, ℕ, ◌+◌, ◌<◌, ◌≤◌, Bool, true, false, List, [], ◌∷◌, ◌++◌, length, drop, sym, refl, ap, subst, arith, length-drop}
use Rattle.std.specs.Prelude.{Option, Some, None, ◌==◌, cond, nat_lt}
use Rattle.std.specs.List.{prefix_len}
use Rattle.std.proofs.lemmas.List.Sums.{prefix_len-le-length}
use Rattle.std.proofs.lemmas.Bool.{ltb-true}
use Rattle.language_meaning.specs.Names.{is_digit}
use Rattle.language_meaning.specs.Lexing.{is_blank, is_in_line}
use Rattle.smt_language.specs.declared.lexer.Front.{Front}
use Rattle.smt_language.specs.declared.token.SmtCut.{SmtCut}
use Rattle.smt_language.specs.declared.token.SmtLexeme.{SmtLexeme}
use Rattle.smt_language.specs.Lexing.{is_in_bars, is_symbol_part, begins_with_digit, symbol_length, fraction_length, closing_quote, closed_at, quoted, barred, keyword, simple, numbered_by, numbered, front, Lexes, over, spaced, taken}
use Rattle.smt_tokens.specs.Fronts.{size}
use Rattle.smt_language.specs.Commands.{Closes, never, here, closed, opened, inside, Runs, stops, goes, Cuts, none, group, loose, AreCommands}
use Rattle.smt_language.specs.Commands as commands
use Rattle.smt_tokens.proofs.Fronts.{either}

-- ---- what stands at the front of bytes has no more of them than there are

abbrev FitsIn : ℕ → Front → Type 0
FitsIn n f = size f ≤ n

quote_fits : (at : ℕ) (bytes : List ℕ) (n : ℕ) → closing_quote at bytes ≡ Some n → n < at + length bytes
quote_fits at [] n e = absurd (cc)
quote_fits at (b ∷ []) n e = go (b == 34) e
  where
    go : (p : Bool) → cond p (Some at) None ≡ Some n → n < at + length (b ∷ [])
    go true h = let same : at ≡ n = cc in omega arith
    go false h = absurd (cc)
quote_fits at (b ∷ c ∷ cs) n e = go (b == 34) (c == 34) (quote_fits (at + 2) cs n) (quote_fits (at + 1) (c ∷ cs) n) e
  where
    go : (p q : Bool) → (closing_quote (at + 2) cs ≡ Some n → n < at + 2 + length cs) → (closing_quote (at + 1) (c ∷ cs) ≡ Some n → n < at + 1 + length (c ∷ cs))
        → cond p (cond q (closing_quote (at + 2) cs) (Some at)) (closing_quote (at + 1) (c ∷ cs)) ≡ Some n → n < at + length (b ∷ c ∷ cs)
    go true true two one h = omega (arith, two h)
    go true false two one h = let same : at ≡ n = cc in omega arith
    go false q two one h = omega (arith, one h)

closed_fits : (o : Option ℕ) (total : ℕ) → ((n : ℕ) → o ≡ Some n → n < total) → FitsIn (1 + total) (closed_at o total)
closed_fits (Some n) total h = omega (arith, h n refl)
closed_fits None total h = omega arith

quoted_fits : (bytes : List ℕ) → FitsIn (1 + length bytes) (quoted bytes)
unfolding quoted
quoted_fits bytes = closed_fits (closing_quote 0 bytes) (length bytes) (λ n e. omega (arith, quote_fits 0 bytes n e))

barred_fits : (bytes : List ℕ) → FitsIn (1 + length bytes) (barred bytes)
unfolding barred
barred_fits bytes = either (FitsIn (1 + length bytes)) (nat_lt (prefix_len is_in_bars bytes) (length bytes)) _ _ (λ e. omega (arith, ltb-true (prefix_len is_in_bars bytes) (length bytes) e)) (λ e. omega arith)

symbol_fits : (bytes : List ℕ) → symbol_length bytes ≤ length bytes
symbol_fits bytes = go (begins_with_digit bytes)
  where
    go : (p : Bool) → cond p 0 (prefix_len is_symbol_part bytes) ≤ length bytes
    go true = omega arith
    go false = prefix_len-le-length is_symbol_part bytes

keyword_fits : (bytes : List ℕ) → FitsIn (1 + length bytes) (keyword bytes)
unfolding keyword
keyword_fits bytes = either (FitsIn (1 + length bytes)) (nat_lt 0 (symbol_length bytes)) _ _ (λ e. omega (arith, symbol_fits bytes)) (λ e. omega arith)

simple_fits : (b : ℕ) (bs : List ℕ) → FitsIn (length (b ∷ bs)) (simple (b ∷ bs))
unfolding simple
simple_fits b bs = either (FitsIn (length (b ∷ bs))) (nat_lt 0 (symbol_length (b ∷ bs))) _ _ (λ e. symbol_fits (b ∷ bs)) (λ e. omega arith)

fraction_fits : (bytes : List ℕ) → 0 < fraction_length bytes → 1 + fraction_length bytes ≤ length bytes
fraction_fits [] some = absurd (omega arith)
fraction_fits (b ∷ bs) some = go (b == 46) some
  where
    go : (p : Bool) → 0 < cond p (prefix_len is_digit bs) 0 → 1 + cond p (prefix_len is_digit bs) 0 ≤ length (b ∷ bs)
    go true h = omega (arith, prefix_len-le-length is_digit bs)
    go false h = absurd (omega arith)

by_fits : (bytes : List ℕ) (total whole fraction : ℕ) → whole ≤ total → (0 < fraction → whole + 1 + fraction ≤ total) → FitsIn total (numbered_by bytes whole fraction)
by_fits bytes total whole fraction few more = either (FitsIn total) (nat_lt 0 fraction) _ _ (λ e. more (ltb-true 0 fraction e)) (λ e. few)

numbered_fits : (bytes : List ℕ) → FitsIn (length bytes) (numbered bytes)
unfolding numbered
numbered_fits bytes =
    let whole = prefix_len is_digit bytes in
    let few = prefix_len-le-length is_digit bytes in
    by_fits bytes (length bytes) whole (fraction_length (drop whole bytes)) few (λ some. omega (arith, few, fraction_fits (drop whole bytes) some, length-drop whole bytes))

front_fits : (b : ℕ) (bs : List ℕ) → FitsIn (length (b ∷ bs)) (front b bs)
unfolding front
front_fits b bs =
    let F = FitsIn (length (b ∷ bs)) in
    either F (is_blank b) _ _ (λ e. omega arith) (λ e.
    either F (is_digit b) _ _ (λ e. numbered_fits (b ∷ bs)) (λ e.
    either F (b == 59) _ _ (λ e. omega (arith, prefix_len-le-length is_in_line bs)) (λ e.
    either F (b == 40) _ _ (λ e. omega arith) (λ e.
    either F (b == 41) _ _ (λ e. omega arith) (λ e.
    either F (b == 34) _ _ (λ e. omega (arith, quoted_fits bs)) (λ e.
    either F (b == 124) _ _ (λ e. omega (arith, barred_fits bs)) (λ e.
    either F (b == 58) _ _ (λ e. omega (arith, keyword_fits bs)) (λ e. simple_fits b bs))))))))

-- ---- the tokens stand in order, from one place on and up to another

abbrev ArePlaced : ℕ → ℕ → List SmtLexeme → Type 0
ArePlaced at total [] = at ≤ total
ArePlaced at total (t ∷ ts) = (at ≤ t.start) × (t.start ≤ t.end) × ArePlaced t.end total ts

from_before : (at later total : ℕ) (ts : List SmtLexeme) → at ≤ later → ArePlaced later total ts → ArePlaced at total ts
from_before at later total [] before placed = omega (arith, before, placed)
from_before at later total (t ∷ ts) before placed = (omega (arith, before, placed.0), placed.1, placed.2)

within : (at total : ℕ) (ts : List SmtLexeme) → ArePlaced at total ts → at ≤ total
within at total [] placed = placed
within at total (t ∷ ts) placed = omega (arith, placed.0, placed.1, within t.end total ts placed.2)

lexed_placed : {bytes : List ℕ} {at : ℕ} {ts : List SmtLexeme} (total : ℕ) → Lexes bytes at ts → at + length bytes ≡ total → ArePlaced at total ts
lexed_placed total over e = omega (arith, e)
lexed_placed {at = at} {ts = ts} total (spaced {b = b} {bs = bs} {n = n} is more) e =
    let fits : n ≤ length (b ∷ bs) = omega (arith, front_fits b bs, ap size is) in
    from_before at (at + n) total ts (omega arith) (lexed_placed total more (omega (arith, fits, e, length-drop n (b ∷ bs))))
lexed_placed {at = at} total (taken {b = b} {bs = bs} {n = n} {t = t} {ts = ts} is starts ends more) e =
    let fits : n ≤ length (b ∷ bs) = omega (arith, front_fits b bs, ap size is) in
    let rest = lexed_placed total more (omega (arith, fits, e, length-drop n (b ∷ bs))) in
    (omega (arith, starts), omega (arith, starts, ends), subst (λ k. ArePlaced k total ts) (sym ends) rest)

-- ---- and so do the commands

record IsBehind (at total end : ℕ) (rest : List SmtLexeme) : Type 0 where
  behind : at ≤ end
  low : end ≤ total
  placed : ArePlaced end total rest

earlier : (at later total end : ℕ) (rest : List SmtLexeme) → at ≤ later → IsBehind later total end rest → IsBehind at total end rest
earlier at later total end rest before b = record { behind = omega (arith, before, b.behind); low = b.low; placed = b.placed }

closes_behind : {total depth end : ℕ} {ts rest : List SmtLexeme} (at : ℕ) → Closes total depth ts end rest → ArePlaced at total ts → IsBehind at total end rest
closes_behind at never placed = record { behind = placed; low = omega arith; placed = omega arith }
closes_behind {total = total} at (here {t = t} {ts = ts} e) placed =
    record { behind = omega (arith, placed.0, placed.1); low = within t.end total ts placed.2; placed = placed.2 }
closes_behind {total = total} {end = end} {rest = rest} at (closed {t = t} e more) placed =
    earlier at t.end total end rest (omega (arith, placed.0, placed.1)) (closes_behind t.end more placed.2)
closes_behind {total = total} {end = end} {rest = rest} at (opened {t = t} e more) placed =
    earlier at t.end total end rest (omega (arith, placed.0, placed.1)) (closes_behind t.end more placed.2)
closes_behind {total = total} {end = end} {rest = rest} at (inside {t = t} e f more) placed =
    earlier at t.end total end rest (omega (arith, placed.0, placed.1)) (closes_behind t.end more placed.2)

runs_behind : {before end : ℕ} {ts rest : List SmtLexeme} (total : ℕ) → Runs before ts end rest → ArePlaced before total ts → IsBehind before total end rest
runs_behind total commands.over placed = record { behind = omega arith; low = placed; placed = placed }
runs_behind {before = before} total (stops {t = t} {ts = ts} e) placed = record { behind = omega arith; low = within before total (t ∷ ts) placed; placed = placed }
runs_behind {before = before} {end = end} {rest = rest} total (goes {t = t} e more) placed =
    earlier before t.end total end rest (omega (arith, placed.0, placed.1)) (runs_behind total more placed.2)

-- the place of a command lies within so many bytes
abbrev pub LiesIn : ℕ → SmtCut → Type 0
LiesIn total cut = (cut.start ≤ cut.end) × (cut.end ≤ total)

abbrev LieIn : ℕ → List SmtCut → Type 0
LieIn total [] = Unit {0}
LieIn total (cut ∷ cuts) = LiesIn total cut × LieIn total cuts

cuts_lie : {total : ℕ} {ts : List SmtLexeme} {cs : List SmtCut} (at : ℕ) → Cuts total ts cs → ArePlaced at total ts → LieIn total cs
cuts_lie at none placed = tt
cuts_lie {total = total} at (group {end = end} {t = t} {ts = ts} {rest = rest} e closes more) placed =
    let b = closes_behind t.end closes placed.2 in
    ((omega (arith, placed.1, b.behind), b.low), cuts_lie end more b.placed)
cuts_lie {total = total} at (loose {end = end} {t = t} {ts = ts} {rest = rest} e runs more) placed =
    let b = runs_behind total runs placed.2 in
    ((omega (arith, placed.1, b.behind), b.low), cuts_lie end more b.placed)

lies_at : (total : ℕ) (front rest : List SmtCut) (cut : SmtCut) → LieIn total (front ++ cut ∷ rest) → LiesIn total cut
lies_at total [] rest cut h = h.0
lies_at total (c ∷ front) rest cut h = lies_at total front rest cut h.1

-- each command of a script lies within it
pub command_lies : (script : List ℕ) (front rest : List SmtCut) (cut : SmtCut) → AreCommands script (front ++ cut ∷ rest) → LiesIn (length script) cut
command_lies script front rest cut are =
    lies_at (length script) front rest cut (cuts_lie 0 are.cuts (lexed_placed (length script) are.lexes (omega arith)))
