-- Scripts whose statements have no formula, and what they are answered with.
use Rattle.std.specs.Prelude.{◌≡◌, ℕ, List, [], ◌∷◌, ◌++◌, Bool, false, codes, if◌then◌else◌}
use Rattle.std.specs.List.{flat_map, AllByRecursion}
use Rattle.language_meaning.specs.Statements.{ActionTree, Empty, Ignored, Finish, Choose, Say, Assign, Assume, Retract, StatementTree}
use Rattle.language_meaning.specs.Pieces.{HasNoTokenFrom, IsPiece}
use Rattle.language_meaning.specs.Statement.{Spells}
use Rattle.program_meaning.specs.State.{theory_of}
use Rattle.program_meaning.specs.Words.{context_text}
use Rattle.program_meaning.specs.Lines.{newline}
use Rattle.program_meaning.specs.Run.{RunOf, piece_bytes}
use Rattle.redlog_run.specs.NoRefusal.{HasNoRefusal}

-- from this place on the script spells these statements, up to the first that ends it, or else to its end
pub data SpellsFrom (script : List ℕ) : ℕ → List StatementTree → Type 0 where
  over : {from : ℕ} → HasNoTokenFrom script from → SpellsFrom script from []
  last : {from start end : ℕ} {t : StatementTree} → IsPiece script from start end → Spells (piece_bytes script start end) t → t.action ≡ Finish → SpellsFrom script from (t ∷ [])
  then : {from start end : ℕ} {t : StatementTree} {ts : List StatementTree} → IsPiece script from start end → Spells (piece_bytes script start end) t → ¬ (t.action ≡ Finish)
      → SpellsFrom script end ts → SpellsFrom script from (t ∷ ts)

-- the statement is empty, ignored, a choice of a theory, one that takes the assumptions back, or one that ends the script
abbrev pub IsWithoutFormula : ActionTree → Type 0
IsWithoutFormula Empty = Unit {0}
IsWithoutFormula Ignored = Unit {0}
IsWithoutFormula Finish = Unit {0}
IsWithoutFormula (Choose setting) = Unit {0}
IsWithoutFormula (Say c) = ⊥
IsWithoutFormula (Assign x c) = ⊥
IsWithoutFormula (Assume given) = ⊥
IsWithoutFormula Retract = Unit {0}

-- the line of such a statement, where it is printed: that of a choice of a theory is its word, that of taking back the assumptions is {}, and no other has a line
abbrev pub choice_line : Bool → ActionTree → List ℕ
choice_line printed (Choose setting) = if printed then context_text (theory_of setting) ++ newline else []
choice_line printed Empty = []
choice_line printed Ignored = []
choice_line printed Finish = []
choice_line printed (Say c) = []
choice_line printed (Assign x c) = []
choice_line printed (Assume given) = []
choice_line printed Retract = if printed then codes "{}" ++ newline else []

abbrev pub choice_lines : List StatementTree → List ℕ
choice_lines ts = flat_map (λ t. choice_line t.printed t.action) ts

-- under any limit of nodes the script is answered with these lines and no others, and none of them is a refusal
pub record IsAnsweredOnlyWith (script lines : List ℕ) : Type 0 where
  pub answered : (limit : ℕ) → RunOf limit script lines false
  pub only : (limit : ℕ) (others : List ℕ) (refusal : Bool) → RunOf limit script others refusal → (others ≡ lines) × (refusal ≡ false)

-- ---- what is proved

-- a script whose first statement ends it has no line
abbrev pub EndingIsAnswered : Type 0
EndingIsAnswered =
    (script : List ℕ) (start end : ℕ) (t : StatementTree) → IsPiece script 0 start end → Spells (piece_bytes script start end) t → t.action ≡ Finish →
    IsAnsweredOnlyWith script []

-- a script without formulas, up to the statement that ends it, has the lines of its choices
abbrev pub ChoicesAreAnswered : Type 0
ChoicesAreAnswered =
    (script : List ℕ) (ts : List StatementTree) → SpellsFrom script 0 ts → AllByRecursion (λ (t : StatementTree). IsWithoutFormula t.action) ts →
    IsAnsweredOnlyWith script (choice_lines ts)

-- so no run of such a script has a refusal
abbrev pub NoneIsRefused : Type 0
NoneIsRefused = (script lines : List ℕ) → IsAnsweredOnlyWith script lines → (limit : ℕ) → HasNoRefusal limit script

-- one such script
abbrev pub SomeChoiceIsAnswered : Type 0
SomeChoiceIsAnswered = IsAnsweredOnlyWith (codes "rlset pasf; end;") (codes "pasf" ++ newline)
