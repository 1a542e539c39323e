-- Bytes spell one command at most, and what is not put together spells none.
use Rattle.std.proofs.Common.{◌≡◌, ℕ, List, [], ◌∷◌, ap, sym, ◌∙◌, subst, false}
use Rattle.std.specs.Prelude.{None}
use Rattle.smt_language.specs.declared.token.SmtLexeme.{SmtLexeme}
use Rattle.smt_language.specs.declared.token.SmtToken.{SmtToken}
use Rattle.smt_language.specs.declared.token.SmtToken.TheVariants as token
use Rattle.smt_tokens.proofs.Lexed.{same_lexemes}
use Rattle.smt_language.specs.Trees.{CommandTree}
use Rattle.smt_language.specs.SExprs.{SExprTrees, Group, written}
use Rattle.smt_language.specs.ReadCommands.{command_of}
use Rattle.smt_reader.specs.Grouping.{grouped}
use Rattle.smt_language.specs.Lexing.{Lexes}
use Rattle.smt_reader.specs.declared.refusal.Refusal.{Refusal}
use Rattle.smt_reader.specs.declared.refusal.Refusal.TheVariants as refusal
use Rattle.smt_language.specs.Faults.{kinds, is_deep}
use Rattle.smt_reader.specs.Refuses.{Refuses, cause_of}
use Rattle.smt_language.specs.Spells.{AreTokens, AreGood, IsUnread, Says, Spells}
use Rattle.smt_reader.proofs.Grouped.{inside, found, one_group}

same_tokens : (bytes : List ℕ) (ts us : List SmtToken) → AreTokens bytes ts → AreTokens bytes us → ts ≡ us
same_tokens bytes ts us a b = sym a.same ∙ ap kinds (same_lexemes a.lexes b.lexes) ∙ b.same

one_said : (ts : List SmtToken) (c d : CommandTree) → Says ts c → Says ts d → c ≡ d
one_said ts c d a b =
    let same : a.members ≡ b.members = one_group a.members b.members ts a.written b.written in
    let e = sym a.is ∙ ap command_of same ∙ b.is in
    cc

pub one_spelled : (bytes : List ℕ) (c d : CommandTree) → Spells bytes c → Spells bytes d → c ≡ d
one_spelled bytes c d a b =
    let same = same_tokens bytes a.tokens b.tokens a.good.are b.good.are in
    one_said b.tokens c d (subst (λ ts. Says ts c) same a.says) b.says

-- ---- tokens that are no group

pub no_token : (ss : SExprTrees) → ¬ (written (Group ss) [] ≡ [])
no_token ss e = cc

pub no_parenthesis : (t : SmtToken) (ts : List SmtToken) → ¬ (t ≡ token.Open) → (ss : SExprTrees) → ¬ (written (Group ss) [] ≡ t ∷ ts)
no_parenthesis t ts other ss e = other (let same : t ≡ token.Open = cc in same)

pub no_group : (ts : List SmtToken) → grouped (inside [] []) ts ≡ None → (ss : SExprTrees) → ¬ (written (Group ss) [] ≡ token.Open ∷ ts)
no_group ts none ss e = let some = found ss ts e in cc

-- ---- tokens that say nothing

pub no_members : (ts : List SmtToken) → ((ss : SExprTrees) → ¬ (written (Group ss) [] ≡ ts)) → (c : CommandTree) → ¬ (Says ts c)
no_members ts none c says = none says.members says.written

pub no_command : (ts : List SmtToken) (ss : SExprTrees) → written (Group ss) [] ≡ ts → command_of ss ≡ None → (c : CommandTree) → ¬ (Says ts c)
no_command ts ss e none c says =
    let same : says.members ≡ ss = one_group says.members ss ts says.written e in
    let is = says.is in
    let f = ap command_of same in
    cc

-- why tokens are no command
pub unread_as : (bytes : List ℕ) (ts : List SmtToken) → AreGood bytes ts → is_deep ts ≡ false → (e : Refusal) → Refuses e ((c : CommandTree) → ¬ (Says ts c)) → IsUnread bytes (cause_of e)
unread_as bytes ts good shallow refusal.Syntax none = record { tokens = ts; good = good; shallow = shallow; none = none }
unread_as bytes ts good shallow refusal.Memory none = tt

-- tokens with their places, and without
pub are_kinds : (bytes : List ℕ) (lexemes slice : List SmtLexeme) → Lexes bytes 0 lexemes → slice ≡ lexemes → AreTokens bytes (kinds slice)
are_kinds bytes lexemes slice lexes e = record { lexemes = lexemes; lexes = lexes; same = sym (ap kinds e) }
