-- A script that is answered: each token, and what its two pieces spell.
use Rattle.std.proofs.Common.{ℕ, List, [], ◌∷◌, true, codes, refl, arith, ⊎_elim}
use Rattle.std.specs.Prelude.{Some}
use Rattle.language_meaning.specs.Names.{is_word}
use Rattle.language_meaning.specs.Holes.{alone}
use Rattle.language_meaning.specs.Statements.{Choose, Finish}
use Rattle.language_meaning.specs.declared.statement.Setting.TheVariants.{Pasf}
use Rattle.language_meaning.specs.declared.lexer.Lexeme.{Lexeme}
use Rattle.language_meaning.specs.declared.token.TokenKind.{TokenKind}
use Rattle.language_meaning.specs.declared.token.TokenKind.TheVariants as token
use Rattle.language_meaning.specs.Terminals.{word_of, sign_of}
use Rattle.language_meaning.specs.Levels.{groups}
use Rattle.language_meaning.specs.Lexing.{front, signed, worded, Lexes, LexesFrom, over, spaced, taken}
use Rattle.language_meaning.specs.Pieces.{IsPiece, marked, inside}
use Rattle.language_meaning.specs.Grammar.{setting_of, choose, end, acting}
use Rattle.language_meaning.specs.Statement.{Spells}
use Rattle.program_meaning.specs.Run.{piece_bytes}
use Rattle.redlog_run.specs.WithoutFormulas.{SomeChoiceIsAnswered, last, then}
use Rattle.redlog_run.proofs.Choices.{choices_are_answered}

abbrev script : List ℕ
script = codes "rlset pasf; end;"

abbrev lexeme : TokenKind → ℕ → ℕ → Lexeme
lexeme k a b = record { kind = Some k; start = a; end = b }

abbrev set : TokenKind
set = token.Word (codes "rlset")

abbrev pasf : TokenKind
pasf = token.Name (codes "pasf")

abbrev mark : TokenKind
mark = token.Sign (codes ";")

abbrev finish : TokenKind
finish = token.Word (codes "end")

second : LexesFrom script 11 (lexeme finish 12 15 ∷ lexeme mark 15 16 ∷ [])
unfolding front worded is_word signed
second = spaced {n = 1} refl (taken {n = 3} refl refl refl (taken {n = 1} refl refl refl over))

whole : LexesFrom script 0 (lexeme set 0 5 ∷ lexeme pasf 6 10 ∷ lexeme mark 10 11 ∷ lexeme finish 12 15 ∷ lexeme mark 15 16 ∷ [])
unfolding front worded is_word signed
whole = taken {n = 5} refl refl refl (spaced {n = 1} refl (taken {n = 4} refl refl refl (taken {n = 1} refl refl refl second)))

first_alone : Lexes (piece_bytes script 0 11) 0 (lexeme set 0 5 ∷ lexeme pasf 6 10 ∷ lexeme mark 10 11 ∷ [])
unfolding front worded is_word signed
first_alone = taken {n = 5} refl refl refl (spaced {n = 1} refl (taken {n = 4} refl refl refl (taken {n = 1} refl refl refl over)))

second_alone : Lexes (piece_bytes script 12 16) 0 (lexeme finish 0 3 ∷ lexeme mark 3 4 ∷ [])
unfolding front worded is_word signed
second_alone = taken {n = 3} refl refl refl (taken {n = 1} refl refl refl over)

first_spells : Spells (piece_bytes script 0 11) (record { action = Choose Pasf; printed = true; inner = alone })
unfolding word_of sign_of groups setting_of
first_spells = record {
  kinds = set ∷ pasf ∷ mark ∷ [];
  tokens = record { lexemes = lexeme set 0 5 ∷ lexeme pasf 6 10 ∷ lexeme mark 10 11 ∷ []; short = omega arith; lexes = first_alone; good = refl };
  shallow = ⊎_elim (λ h. omega arith) (⊎_elim (λ h. omega arith) (⊎_elim (λ h. omega arith) (λ h. h)));
  spelled = acting (choose refl) refl;
}

second_spells : Spells (piece_bytes script 12 16) (record { action = Finish; printed = true; inner = alone })
unfolding word_of sign_of groups
second_spells = record {
  kinds = finish ∷ mark ∷ [];
  tokens = record { lexemes = lexeme finish 0 3 ∷ lexeme mark 3 4 ∷ []; short = omega arith; lexes = second_alone; good = refl };
  shallow = ⊎_elim (λ h. omega arith) (⊎_elim (λ h. omega arith) (λ h. h));
  spelled = acting end refl;
}

first_piece : IsPiece script 0 0 11
first_piece = record {
  first = lexeme set 0 5;
  others = lexeme pasf 6 10 ∷ lexeme mark 10 11 ∷ lexeme finish 12 15 ∷ lexeme mark 15 16 ∷ [];
  rest = lexeme finish 12 15 ∷ lexeme mark 15 16 ∷ [];
  tokens = whole;
  begins = refl;
  cut = inside refl (inside refl (marked refl));
}

second_piece : IsPiece script 11 12 16
second_piece = record { first = lexeme finish 12 15; others = lexeme mark 15 16 ∷ []; rest = []; tokens = second; begins = refl; cut = inside refl (marked refl) }

pub some_choice_is_answered : SomeChoiceIsAnswered
some_choice_is_answered =
    choices_are_answered script (record { action = Choose Pasf; printed = true; inner = alone } ∷ record { action = Finish; printed = true; inner = alone } ∷ [])
    (then first_piece first_spells (λ e. absurd (cc)) (last second_piece second_spells refl)) (tt, (tt, tt))
