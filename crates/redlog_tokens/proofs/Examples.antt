-- Worked examples of the definitions. Each side is computed.
use Rattle.std.proofs.Common.{◌≡◌, [], ◌∷◌, refl, codes}
use Rattle.std.specs.Prelude.{ℕ, ◌++◌, length, map, pos, Some, None, List}
use Rattle.language_meaning.specs.declared.tree.Literal.TheVariants.{Fits}
use Rattle.language_meaning.specs.declared.tree.Relation.TheVariants.{Equal, Differs, Less, AtMost, Greater, AtLeast}
use Rattle.language_meaning.specs.Names.{is_word, keywords}
use Rattle.language_meaning.specs.declared.lexer.Front.{Front}
use Rattle.language_meaning.specs.declared.lexer.Front.TheVariants as found
use Rattle.language_meaning.specs.declared.token.TokenKind.TheVariants as token
use Rattle.language_meaning.specs.declared.terminal.Terminal.{Terminal}
use Rattle.language_meaning.specs.declared.terminal.Terminal.TheVariants as terminal
use Rattle.language_meaning.specs.declared.terminal.Mark.TheVariants as mark
use Rattle.language_meaning.specs.declared.terminal.Word.TheVariants as word
use Rattle.language_meaning.specs.Lexing.{front, literal_of, long_signs, short_signs, signed, worded}
use Rattle.language_meaning.specs.Levels.{level, groups}
use Rattle.language_meaning.specs.Terminals.{sign_of, word_of}

-- 12x begins with the number 12
number : front 49 (codes "2x") ≡ found.Token (Some (token.Number (Fits (pos 12)))) 2
unfolding front literal_of
number = refl

-- <=1 begins with <=
sign : front 60 (codes "=1") ≡ found.Token (Some (token.Sign (codes "<="))) 2
unfolding front signed
sign = refl

-- a colon alone is bad
colon : front 58 (codes " =") ≡ found.Token None 1
unfolding front signed
colon = refl

-- not is a word, and nota a name
not_word : front 110 (codes "ot a") ≡ found.Token (Some (token.Word (codes "not"))) 3
unfolding front worded is_word
not_word = refl

name : front 110 (codes "ota") ≡ found.Token (Some (token.Name (codes "nota"))) 4
unfolding front worded is_word
name = refl

-- infinity is a name, and infinity1 a word
infinity : front 105 (codes "nfinity") ≡ found.Token (Some (token.Name (codes "infinity"))) 8
unfolding front worded is_word
infinity = refl

numbered : front 105 (codes "nfinity1") ≡ found.Token (Some (token.Word (codes "infinity1"))) 9
unfolding front worded is_word
numbered = refl

-- what stands at the front of a text
abbrev front_of : List ℕ → Front
front_of [] = found.Space 0
front_of (b ∷ bs) = front b bs

-- each word alone is a word, and each sign a sign
all_words : map front_of keywords ≡ map (λ w. found.Token (Some (token.Word w)) (length w)) keywords
unfolding front worded is_word
all_words = refl

all_signs : map front_of (long_signs ++ short_signs) ≡ map (λ s. found.Token (Some (token.Sign s)) (length s)) (long_signs ++ short_signs)
unfolding front signed
all_signs = refl

-- the words as the grammar names them
grammar_words : map word_of keywords
    ≡ word.True ∷ word.False ∷ word.Not ∷ word.And ∷ word.Or ∷ word.Impl ∷ word.Repl ∷ word.Equiv ∷ word.Ex ∷ word.All ∷ word.Cong ∷ word.Ncong ∷ word.Neq
    ∷ word.Set ∷ word.Nnf ∷ word.Pnf ∷ word.Dnf ∷ word.Cnf ∷ word.Simpl ∷ word.Qe ∷ word.Qea ∷ word.Holds ∷ word.Witness
    ∷ word.Assume ∷ word.Retract ∷ word.Grid ∷ word.Opt ∷ word.Cert ∷ word.Check ∷ word.Load ∷ word.On ∷ word.Off ∷ word.End ∷ word.Bye ∷ word.Quit ∷ []
unfolding word_of
grammar_words = refl

-- the signs as the grammar names them
grammar_signs : map sign_of (long_signs ++ short_signs)
    ≡ terminal.Mark mark.Power ∷ terminal.Mark mark.Assign ∷ terminal.Relation Differs ∷ terminal.Relation AtMost ∷ terminal.Relation AtLeast
    ∷ terminal.Mark mark.Plus ∷ terminal.Mark mark.Minus ∷ terminal.Mark mark.Times ∷ terminal.Mark mark.Slash ∷ terminal.Mark mark.Power
    ∷ terminal.Mark mark.Open ∷ terminal.Mark mark.Close ∷ terminal.Mark mark.OpenBrace ∷ terminal.Mark mark.CloseBrace ∷ terminal.Mark mark.Comma
    ∷ terminal.Mark mark.Semicolon ∷ terminal.Mark mark.Dollar ∷ terminal.Relation Equal ∷ terminal.Relation Less ∷ terminal.Relation Greater ∷ []
unfolding sign_of
grammar_signs = refl

-- the levels of tokens, of which the last comes first
abbrev opening : Terminal
opening = terminal.Mark mark.Open

abbrev comma : Terminal
comma = terminal.Mark mark.Comma

abbrev slash : Terminal
slash = terminal.Mark mark.Slash

abbrev arrow : Terminal
arrow = terminal.Word word.Impl

abbrev negation : Terminal
negation = terminal.Word word.Not

abbrev name_x : Terminal
name_x = terminal.Name (codes "x")

-- not not ( x )
second_not : level (negation ∷ negation ∷ []) ≡ 2
unfolding groups
second_not = refl

bracket : level (opening ∷ negation ∷ negation ∷ []) ≡ 3
unfolding groups
bracket = refl

in_the_bracket : level (name_x ∷ opening ∷ negation ∷ negation ∷ []) ≡ 3
unfolding groups
in_the_bracket = refl

behind : level (terminal.Mark mark.Close ∷ name_x ∷ opening ∷ negation ∷ negation ∷ []) ≡ 0
unfolding groups
behind = refl

-- not ex ( : the run counts while the bracket is open
quantified_run : level (opening ∷ terminal.Word word.Ex ∷ negation ∷ []) ≡ 2
unfolding groups
quantified_run = refl

-- rlnnf not rlqe ex ( : the words of a run count together
commands_in_a_run : level (opening ∷ terminal.Word word.Ex ∷ terminal.Word word.Qe ∷ negation ∷ terminal.Word word.Nnf ∷ []) ≡ 4
unfolding groups
commands_in_a_run = refl

-- rlqea rlqe : a command that stands inside no formula begins no run
no_run : level (terminal.Word word.Qe ∷ terminal.Word word.Qea ∷ []) ≡ 1
unfolding groups
no_run = refl

-- x / x / x, and a sum ends the run of /
two_slashes : level (name_x ∷ slash ∷ name_x ∷ slash ∷ name_x ∷ []) ≡ 2
unfolding groups
two_slashes = refl

no_slash : level (name_x ∷ terminal.Mark mark.Plus ∷ name_x ∷ slash ∷ name_x ∷ []) ≡ 0
unfolding groups
no_slash = refl

-- x impl x impl, and a comma begins anew
two_arrows : level (arrow ∷ name_x ∷ arrow ∷ name_x ∷ []) ≡ 2
unfolding groups
two_arrows = refl

after_comma : level (name_x ∷ comma ∷ name_x ∷ arrow ∷ name_x ∷ []) ≡ 0
unfolding groups
after_comma = refl
