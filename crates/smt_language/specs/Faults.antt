-- Bad tokens, and tokens that stand too deep.
use Rattle.std.specs.Prelude.{ℕ, suc, ◌-◌, Bool, true, false, not, ◌||◌, List, [], ◌∷◌, map, nat_lt, Option, Some}
use Rattle.std.specs.List.{list_any}
use Rattle.smt_language.specs.declared.token.SmtLexeme.{SmtLexeme}
use Rattle.smt_language.specs.declared.token.SmtToken.{SmtToken}
use Rattle.smt_language.specs.declared.token.SmtToken.TheVariants as token
use Rattle.smt_language.specs.declared.limit.TheConstants.{DEPTH_LIMIT}
use Rattle.smt_language.specs.declared.word.Word.{Word}
use Rattle.smt_language.specs.declared.word.Word.TheVariants as word
use Rattle.smt_language.specs.Words.{word_of}

-- what tokens with places are
abbrev pub kinds : List SmtLexeme → List SmtToken
kinds = map (λ t. t.token)

-- the command has no effect, so that a symbol in it may have any length
abbrev pub takes_unfit : Option Word → Bool
takes_unfit (Some word.SetInfo) = true
takes_unfit (Some word.SetOption) = true
takes_unfit w = false

-- the tokens begin such a command
abbrev pub begins_unfit : List SmtToken → Bool
begins_unfit (token.Open ∷ token.Symbol x ∷ ts) = takes_unfit (word_of x)
begins_unfit ts = false

-- a token is bad, where symbols of any length are taken or not
abbrev pub is_bad : Bool → SmtToken → Bool
is_bad unfit token.Bad = true
is_bad unfit token.Unfit = not unfit
is_bad unfit t = false

-- some token of a command is bad
abbrev pub has_bad : List SmtToken → Bool
has_bad ts = list_any (is_bad (begins_unfit ts)) ts

-- how many parentheses are open after a token, where so many are before it
abbrev pub open_after : ℕ → SmtToken → ℕ
open_after depth token.Open = suc depth
open_after depth token.Close = depth - 1
open_after depth t = depth

-- where so many parentheses are open, some token opens one that passes the limit
abbrev pub passes : ℕ → List SmtToken → Bool
passes depth [] = false
passes depth (t ∷ ts) = nat_lt DEPTH_LIMIT (open_after depth t) || passes (open_after depth t) ts

-- more than 512 parentheses are open at once
abbrev pub is_deep : List SmtToken → Bool
is_deep ts = passes 0 ts
