-- What the bytes of one command spell, and why they spell nothing.
use Rattle.std.specs.Prelude.{◌≡◌, ℕ, true, false, List, [], Some}
use Rattle.smt_language.specs.declared.token.SmtLexeme.{SmtLexeme}
use Rattle.smt_language.specs.declared.token.SmtToken.{SmtToken}
use Rattle.smt_language.specs.Lexing.{Lexes}
use Rattle.smt_language.specs.Trees.{CommandTree}
use Rattle.smt_language.specs.declared.read_error.ReadError.{ReadError}
use Rattle.smt_language.specs.declared.read_error.ReadError.TheVariants as cause
use Rattle.smt_language.specs.SExprs.{SExprTrees, Group, written}
use Rattle.smt_language.specs.Faults.{kinds, has_bad, is_deep}
use Rattle.smt_language.specs.ReadCommands.{command_of}

-- the tokens of the bytes
pub record AreTokens (bytes : List ℕ) (tokens : List SmtToken) : Type 0 where
  pub lexemes : List SmtLexeme
  pub lexes : Lexes bytes 0 lexemes
  pub same : kinds lexemes ≡ tokens

-- the tokens of the bytes, none of them bad
pub record AreGood (bytes : List ℕ) (tokens : List SmtToken) : Type 0 where
  pub are : AreTokens bytes tokens
  pub good : has_bad tokens ≡ false

-- these are written so between two parentheses, and are the command
pub record Says (tokens : List SmtToken) (command : CommandTree) : Type 0 where
  pub members : SExprTrees
  pub written : written (Group members) [] ≡ tokens
  pub is : command_of members ≡ Some command

-- no token is bad, none stands deeper than 512, and they are the command
pub record Spells (bytes : List ℕ) (command : CommandTree) : Type 0 where
  pub tokens : List SmtToken
  pub good : AreGood bytes tokens
  pub shallow : is_deep tokens ≡ false
  pub says : Says tokens command

-- a token is bad
pub record IsLexical (bytes : List ℕ) : Type 0 where
  pub tokens : List SmtToken
  pub are : AreTokens bytes tokens
  pub bad : has_bad tokens ≡ true

-- no token is bad, and one stands deeper than 512
pub record IsDeep (bytes : List ℕ) : Type 0 where
  pub tokens : List SmtToken
  pub good : AreGood bytes tokens
  pub deep : is_deep tokens ≡ true

-- no token is bad, none stands deeper than 512, and they are no command
pub record SpellsNothing (bytes : List ℕ) : Type 0 where
  pub tokens : List SmtToken
  pub good : AreGood bytes tokens
  pub shallow : is_deep tokens ≡ false
  pub none : (command : CommandTree) → ¬ (Says tokens command)

-- why a command is not read; nothing is said where memory ran out
abbrev pub IsUnread : List ℕ → ReadError → Type 0
IsUnread bytes cause.Lexical = IsLexical bytes
IsUnread bytes cause.Nesting = IsDeep bytes
IsUnread bytes cause.Syntax = SpellsNothing bytes
IsUnread bytes cause.Memory = Unit {0}
