-- A script of commands that have no cause of a refusal is answered without one.
use Rattle.std.proofs.Common.{◌≡◌, ◌∙◌, ℕ, ◌+◌, ◌≤◌, Bool, true, false, List, [], ◌∷◌, ◌++◌, length, refl, sym, ap, subst, append-nil, append_assoc, arith, length-append}
use Rattle.std.specs.Prelude.{Option, Some}
use Rattle.program_meaning.specs.Ends.{Ends}
use Rattle.program_meaning.specs.Streams.{Gave, IsAtEnd}
use Rattle.smt_language.specs.declared.token.SmtCut.{SmtCut}
use Rattle.smt_language.specs.Commands.{AreCommands}
use Rattle.program_meaning.specs.SmtRun.{RunTo, begin, answered, refused, RunOfCuts, all, ended, SmtRun}
use Rattle.program_meaning.specs.SmtState.{State}
use Rattle.program_meaning.specs.SmtOutcome.{SmtAnswered, ReadTooMany}
use Rattle.program_meaning.specs.Reading.{smt_limit, IsRead}
use Rattle.program_meaning.specs.SmtUnrefused.{IsSmtUnrefused}
use Rattle.smtlib_front.specs.NoRefusal.{UnrefusedSmtScriptsHaveNoRefusal}

module _ (limit : ℕ) (script : List ℕ) (u : IsSmtUnrefused limit script) where
  one_more : (front rest : List SmtCut) (cut : SmtCut) → AreCommands script ((front ++ cut ∷ []) ++ rest) → AreCommands script (front ++ cut ∷ rest)
  one_more front rest cut are = subst (AreCommands script) (append_assoc front (cut ∷ []) rest) are

  -- none of the commands in front is refused
  front_unrefused : {front : List SmtCut} {s : State} {lines : List ℕ} {refusal : Bool} → RunTo limit script front s lines refusal → (rest : List SmtCut) → AreCommands script (front ++ rest)
      → refusal ≡ false
  front_unrefused begin rest are = refl
  front_unrefused (answered {cuts = cuts} cut r runs other replies) rest are = front_unrefused runs (cut ∷ rest) (one_more cuts rest cut are)
  front_unrefused (refused {cuts = cuts} cut {s = s} {next = next} {lines = lines} cause runs other replies) rest are =
      let before = front_unrefused runs (cut ∷ rest) (one_more cuts rest cut are) in
      absurd (u cuts rest cut s lines (subst (RunTo limit script cuts s lines) before runs) (one_more cuts rest cut are) cause next other replies)

  run_unrefused : {cuts : List SmtCut} {lines : List ℕ} {refusal : Bool} → AreCommands script cuts → RunOfCuts limit script cuts lines refusal → refusal ≡ false
  run_unrefused {cuts = cuts} are (all runs) = front_unrefused runs [] (subst (AreCommands script) (sym (append-nil cuts)) are)
  run_unrefused are (ended e) = front_unrefused e.before (e.last ∷ e.rest) (subst (AreCommands script) e.cut are)

pub unrefused_scripts : UnrefusedSmtScriptsHaveNoRefusal
unrefused_scripts limit script u (lines, run) = let wrong : true ≡ false = run_unrefused limit script u run.are run.answers in absurd (cc)

-- ---- a source that tells its bytes

-- the script that was read is all of them
whole_is : (later : Option (List ℕ)) (whole script : List ℕ) → IsRead (Some whole) later script → whole ≡ script
whole_is later whole script r =
    let none : r.gave.0 ≡ [] = subst IsAtEnd r.gave.2 r.at_end in
    r.gave.1 ∙ ap (λ (rest : List ℕ). script ++ rest) none ∙ append-nil script

-- a refusal has a cause in the script
pub unrefused_source : (limit : ℕ) (before after : Ends) (whole : List ℕ) → before.left ≡ Some whole → IsSmtUnrefused limit whole → ¬ (SmtAnswered limit before after true)
unrefused_source limit before after whole e u a =
    let same = whole_is after.left whole a.script (subst (λ (left : Option (List ℕ)). IsRead left after.left a.script) e a.read) in
    unrefused_scripts limit whole u (a.lines, subst (λ (s : List ℕ). SmtRun limit s a.lines true) (sym same) a.answered)

-- no script within the limit is too long
pub not_too_long : (before after : Ends) (whole : List ℕ) → before.left ≡ Some whole → length whole ≤ smt_limit → ¬ (ReadTooMany before after)
not_too_long before after whole e within r =
    let gave = subst (λ (left : Option (List ℕ)). Gave left after.left r.given.bytes) e r.given.gave in
    let size : length whole ≡ length r.given.bytes + length gave.0 = ap length gave.1 ∙ length-append r.given.bytes gave.0 in
    let past = r.given.past in
    omega (arith, size, past, within)
