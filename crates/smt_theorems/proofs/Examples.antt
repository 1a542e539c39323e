-- Examples worked by hand: lines, causes and sentences of small states.
use Rattle.std.proofs.Common.{◌≡◌, ◌++◌, ℕ, List, [], ◌∷◌, pos, negsuc, Some, inr, refl}
use Rattle.std.specs.Fmt.{decimal}
use Rattle.std.specs.Prelude.{codes}
use Rattle.exact_numbers.specs.Frac.{Frac, whole_frac}
use Rattle.logic_meaning.specs.Context.{Fields}
use Rattle.logic_meaning.specs.Formula.{Yes, No, Ex}
use Rattle.smt_language.specs.declared.command.Sort.TheVariants as sort
use Rattle.smt_language.specs.Trees.{Choose, Declare, Check, Values}
use Rattle.smt_language.specs.Levels.{level}
use Rattle.program_meaning.specs.declared.smt_error.SmtError.TheVariants as error
use Rattle.program_meaning.specs.SmtCauses.{IsFirst}
use Rattle.program_meaning.specs.Sentence.{sentence, level_count}
use Rattle.program_meaning.specs.SmtState.{State, first_state}
use Rattle.program_meaning.specs.SmtState as state
use Rattle.program_meaning.specs.Texts.{symbol_text, value_text, pair_text, values_text, refusal_text}

abbrev a : List ℕ
a = codes "a"

abbrev b : List ℕ
b = codes "b"

abbrev half : Frac
half = record { numerator = pos 1; denominator = pos 2 }

-- ---- symbols: in bars only where it has to be

simple_symbol : symbol_text (codes "x.1") ≡ codes "x.1"
simple_symbol = refl

symbol_with_a_space : symbol_text (codes "a b") ≡ codes "|a b|"
symbol_with_a_space = refl

symbol_from_a_digit : symbol_text (codes "1x") ≡ codes "|1x|"
symbol_from_a_digit = refl

-- ---- values

nothing : value_text (whole_frac (pos 0)) ≡ decimal 0
nothing = refl

one_half : value_text half ≡ codes "(/ " ++ decimal 1 ++ codes " " ++ decimal 2 ++ codes ")"
one_half = refl

minus_one : value_text (whole_frac (negsuc 0)) ≡ codes "(- " ++ decimal 1 ++ codes ")"
minus_one = refl

minus_two_thirds : value_text (record { numerator = negsuc 1; denominator = pos 3 }) ≡ codes "(- " ++ (codes "(/ " ++ decimal 2 ++ codes " " ++ decimal 3 ++ codes ")") ++ codes ")"
minus_two_thirds = refl

-- the values stand in the order that is asked for
in_asked_order : values_text (a ∷ b ∷ []) (whole_frac (pos 0) ∷ half ∷ []) (b ∷ a ∷ []) ≡ codes "(" ++ (pair_text b half ++ codes " " ++ pair_text a (whole_frac (pos 0))) ++ codes ")"
in_asked_order = refl

-- ---- refusals

refusal : refusal_text (codes "syntax") 15 ≡ codes "(error \"syntax at " ++ decimal 15 ++ codes "\")"
refusal = refl

-- over the fields, with one name and one formula; the last check-sat said sat, or a command came after it
abbrev after_check : State
after_check = record { logic = Some Fields; declared = a ∷ []; asserted = Yes ∷ []; kept = state.Values (half ∷ []) }

abbrev after_more : State
after_more = record after_check { kept = state.Nothing }

-- nothing is checked before a logic is chosen
check_without_logic : (limit : ℕ) → IsFirst first_state limit error.Mode Check
check_without_logic limit = record { applies = refl; first = tt }

-- a logic is chosen once
second_logic : (limit : ℕ) → IsFirst after_check limit error.Mode (Choose sort.Int)
second_logic limit = record { applies = refl; first = tt }

-- values go once the state has changed
values_gone : (limit : ℕ) → IsFirst after_more limit error.Mode (Values (a ∷ []))
values_gone limit = record { applies = inr refl; first = tt }

-- a name is declared once, whatever its sort
declared_twice : (limit : ℕ) → IsFirst after_check limit error.Declared (Declare (record { name = a; sort = codes "Bool" }))
declared_twice limit = record { applies = refl; first = (λ h. absurd (cc), tt) }

-- ---- sentences

none_asserted : sentence first_state ≡ Yes
none_asserted = refl

-- the names are quantified in their order, one alone stands without a list
two_names : sentence (record after_check { declared = a ∷ b ∷ []; asserted = No ∷ [] }) ≡ Ex (level 0) (Ex (level 1) No)
two_names = refl

levels_needed : level_count (level 2 ∷ level 0 ∷ []) ≡ 3
levels_needed = refl
