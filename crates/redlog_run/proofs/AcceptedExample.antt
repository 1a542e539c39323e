-- A script with a formula that is unrefused: each token, and what its two pieces spell.
use Rattle.std.proofs.Common.{ℕ, List, [], ◌∷◌, true, codes, refl, arith, ⊎_elim}
use Rattle.std.specs.Prelude.{Some}
use Rattle.logic_meaning.specs.Formula.{Yes}
use Rattle.language_meaning.specs.Names.{is_word}
use Rattle.language_meaning.specs.Holes.{alone}
use Rattle.language_meaning.specs.Holes as holes
use Rattle.language_meaning.specs.Statements.{Choose, Say, Echo}
use Rattle.language_meaning.specs.Inner.{about}
use Rattle.language_meaning.specs.declared.statement.Setting.TheVariants.{Pasf}
use Rattle.language_meaning.specs.declared.lexer.Lexeme.{Lexeme}
use Rattle.language_meaning.specs.declared.token.TokenKind.{TokenKind}
use Rattle.language_meaning.specs.declared.token.TokenKind.TheVariants as token
use Rattle.language_meaning.specs.Terminals.{word_of, sign_of}
use Rattle.language_meaning.specs.Levels.{groups}
use Rattle.language_meaning.specs.Lexing.{front, signed, worded, Lexes, LexesFrom, over, spaced, taken}
use Rattle.language_meaning.specs.Pieces.{HasNoTokenFrom, IsPiece, marked, inside}
use Rattle.language_meaning.specs.Grammar.{setting_of, choose, result, resulting, acting, equivalence, replication, no_implication, disjunction, conjunction, prime, truth, no_conjunct, no_disjunct, no_repl, no_equiv}
use Rattle.language_meaning.specs.Statement.{Spells}
use Rattle.session_commands.proofs.Accepted.{truth_is_never_refused}
use Rattle.program_meaning.specs.Run.{piece_bytes}
use Rattle.redlog_run.specs.WithoutFormulas as script
use Rattle.redlog_run.specs.Accepted.{SomeFormulaIsUnrefused}
use Rattle.redlog_run.proofs.Accepted.{never_refused}
use Rattle.redlog_run.proofs.Unrefused.{action_refused}

abbrev text : List ℕ
text = codes "rlset pasf; true;"

abbrev lexeme : TokenKind → ℕ → ℕ → Lexeme
lexeme k a b = record { kind = Some k; start = a; end = b }

abbrev set : TokenKind
set = token.Word (codes "rlset")

abbrev pasf : TokenKind
pasf = token.Name (codes "pasf")

abbrev mark : TokenKind
mark = token.Sign (codes ";")

abbrev yes : TokenKind
yes = token.Word (codes "true")

second : LexesFrom text 11 (lexeme yes 12 16 ∷ lexeme mark 16 17 ∷ [])
unfolding front worded is_word signed
second = spaced {n = 1} refl (taken {n = 4} refl refl refl (taken {n = 1} refl refl refl over))

whole : LexesFrom text 0 (lexeme set 0 5 ∷ lexeme pasf 6 10 ∷ lexeme mark 10 11 ∷ lexeme yes 12 16 ∷ lexeme mark 16 17 ∷ [])
unfolding front worded is_word signed
whole = taken {n = 5} refl refl refl (spaced {n = 1} refl (taken {n = 4} refl refl refl (taken {n = 1} refl refl refl second)))

none_left : HasNoTokenFrom text 17
none_left = over

first_alone : Lexes (piece_bytes text 0 11) 0 (lexeme set 0 5 ∷ lexeme pasf 6 10 ∷ lexeme mark 10 11 ∷ [])
unfolding front worded is_word signed
first_alone = taken {n = 5} refl refl refl (spaced {n = 1} refl (taken {n = 4} refl refl refl (taken {n = 1} refl refl refl over)))

second_alone : Lexes (piece_bytes text 12 17) 0 (lexeme yes 0 4 ∷ lexeme mark 4 5 ∷ [])
unfolding front worded is_word signed
second_alone = taken {n = 4} refl refl refl (taken {n = 1} refl refl refl over)

first_spells : Spells (piece_bytes text 0 11) (record { action = Choose Pasf; printed = true; inner = alone })
unfolding word_of sign_of groups setting_of
first_spells = record {
  kinds = set ∷ pasf ∷ mark ∷ [];
  tokens = record { lexemes = lexeme set 0 5 ∷ lexeme pasf 6 10 ∷ lexeme mark 10 11 ∷ []; short = omega arith; lexes = first_alone; good = refl };
  shallow = ⊎_elim (λ h. omega arith) (⊎_elim (λ h. omega arith) (⊎_elim (λ h. omega arith) (λ h. h)));
  spelled = acting (choose refl) refl;
}

second_spells : Spells (piece_bytes text 12 17) (record { action = Say (Echo Yes); printed = true; inner = alone })
unfolding word_of sign_of groups
second_spells = record {
  kinds = yes ∷ mark ∷ [];
  tokens = record { lexemes = lexeme yes 0 4 ∷ lexeme mark 4 5 ∷ []; short = omega arith; lexes = second_alone; good = refl };
  shallow = ⊎_elim (λ h. omega arith) (⊎_elim (λ h. omega arith) (λ h. h));
  spelled = acting (result (resulting {c = about Echo (holes.whole Yes)} (equivalence (replication (no_implication (disjunction (conjunction (prime truth) (no_conjunct refl)) (no_disjunct refl))) (no_repl refl)) (no_equiv refl)) refl)) refl;
}

first_piece : IsPiece text 0 0 11
first_piece = record {
  first = lexeme set 0 5;
  others = lexeme pasf 6 10 ∷ lexeme mark 10 11 ∷ lexeme yes 12 16 ∷ lexeme mark 16 17 ∷ [];
  rest = lexeme yes 12 16 ∷ lexeme mark 16 17 ∷ [];
  tokens = whole;
  begins = refl;
  cut = inside refl (inside refl (marked refl));
}

second_piece : IsPiece text 11 12 17
second_piece = record { first = lexeme yes 12 16; others = lexeme mark 16 17 ∷ []; rest = []; tokens = second; begins = refl; cut = inside refl (marked refl) }

pub some_formula_is_unrefused : SomeFormulaIsUnrefused
some_formula_is_unrefused =
    never_refused text (record { action = Choose Pasf; printed = true; inner = alone } ∷ record { action = Say (Echo Yes); printed = true; inner = alone } ∷ [])
    (script.then first_piece first_spells (λ e. absurd (cc)) (script.then second_piece second_spells (λ e. absurd (cc)) (script.over none_left)))
    (λ s limit e other r. action_refused s limit (record { action = Choose Pasf; printed = true; inner = alone }) e refl r, (truth_is_never_refused true, tt))
