-- `clap` takes valid words, and finds the values that they give.
use Rattle.std.proofs.Common.{◌≡◌, ◌∙◌, ℕ, Bool, true, false, ◌&&◌, append-nil, List, [], ◌∷◌, ◌++◌, map, refl, sym, ap, ap₂, subst, ⊎_elim, is_some}
use Rattle.std.specs.Prelude.{None, Some, fold, option_and_then, string_bytes}
use Rattle.std.specs.List.{list_all}
use Rattle.std.specs.declared.alloc.Global.{Global}
use Rattle.std.specs.declared.string.String.{String}
use Rattle.clap.specs.Walk.{Held, Row, Text, Walk, finished, first_of, nothing_held, one_of, reacted, settled, walk_from, walked}
use Rattle.clap.specs.Simple.{built, entered}
use Rattle.clap.specs.Takes.{default_passes, entered_passes, is_valid, react_passes, settle_passes, turn_passes, walk_passes}
use Rattle.clap.specs.Words.{matches_of, takes}
use Rattle.program_meaning.specs.declared.options.Choice.{Choice}
use Rattle.program_meaning.specs.declared.options.Language.TheVariants.{Redlog}
use Rattle.program_meaning.specs.declared.options.Options.{Options}
use Rattle.program_meaning.specs.Value.{value_of}
use Rattle.program_meaning.specs.CommandWords.{name_of, greatest_of, given, with_value, smt_flag, with_smt, Begins, BeginsFlag, SpellsAfter, over, option, flag, Spells}
use Rattle.program_meaning.specs.OptionIds.{id_of, smt_id}
use Rattle.redlog_run.specs.Reading.{app, flag_text}
use Rattle.redlog_run.proofs.Spelling.{InNext, InTail, stands}
use Rattle.redlog_run.proofs.Steps.{shape, built_rule, built_flag, flag_walks, flag_passes, joined_walks, joined_passes, alone_walks, alone_passes, value_walks, value_passes, filled_held, filled_settles, filled_rows}
use Rattle.redlog_run.proofs.Rows.{Rowed, no_row, Says, used_rowed, use_taken, flag_rowed, flag_taken, only_flag, first_stays, flag_found}

-- between two options, what is held is what the options so far give
pub record Holds (before : Options) (h : Held) : Type 0 where
  pub settles : settle_passes shape.rules false h ≡ true
  pub rowed : Rowed before (settled shape.rules h).rows

-- `clap` takes the words, and holds at the end what the options give
pub record Reads (all : Options) (words : List Text) (h : Held) : Type 0 where
  pub end : Held
  pub holds : Holds all end
  pub ends : fold (walked shape.rules []) (walk_from h) words ≡ walk_from end
  pub passes : walk_passes shape [] (walk_from h) words ≡ true

module _ {before : Options} {h : Held} (holds : Holds before h) (choice : Choice) (text : Text) (n : ℕ) (free : given choice before ≡ None) (says : Says choice text n) where
  -- after an option with its value after =
  joined_holds : Holds (with_value choice n before) (reacted shape.rules (built_rule choice) (text ∷ []) h)
  joined_holds = record { settles = refl; rowed = used_rowed holds.rowed choice text free n says }

  -- `clap` takes such a word
  joined_taken : react_passes shape.rules false (built_rule choice) (text ∷ []) h ≡ true
  joined_taken = ap₂ ◌&&◌ holds.settles (use_taken holds.rowed choice text free)

  -- after an option with its value in the next word
  filled_holds : Holds (with_value choice n before) (filled_held choice text h)
  filled_holds = record {
    settles = filled_settles choice text h ∙ use_taken holds.rowed choice text free;
    rowed = subst (Rowed (with_value choice n before)) (sym (filled_rows choice text h)) (used_rowed holds.rowed choice text free n says);
  }

  -- a word with its value after =, and the words that follow
  joined_reads : (all : Options) (words : List Text) → Reads all words (reacted shape.rules (built_rule choice) (text ∷ []) h)
      → Reads all ((name_of choice ++ 61 ∷ text) ∷ words) h
  unfolding walk_passes
  joined_reads all words r = record {
    end = r.end;
    holds = r.holds;
    ends = ap (λ (w : Walk). fold (walked shape.rules []) w words) (joined_walks choice text h) ∙ r.ends;
    passes = ap₂ ◌&&◌ (joined_passes choice text h ∙ joined_taken) (ap (λ (w : Walk). walk_passes shape [] w words) (joined_walks choice text h) ∙ r.passes);
  }

  -- the option alone, its value, and the words that follow
  apart_reads : (all : Options) (words : List Text) → Reads all words (filled_held choice text h) → Reads all (name_of choice ∷ text ∷ words) h
  unfolding walk_passes
  apart_reads all words r =
      let both_words : walked shape.rules [] (walked shape.rules [] (walk_from h) (name_of choice)) text ≡ walk_from (filled_held choice text h) =
      ap (λ (w : Walk). walked shape.rules [] w text) (alone_walks choice h) ∙ value_walks choice h (greatest_of choice) n text says in
      record {
        end = r.end;
        holds = r.holds;
        ends = ap (λ (w : Walk). fold (walked shape.rules []) w words) both_words ∙ r.ends;
        passes = ap₂ ◌&&◌ (alone_passes choice h ∙ holds.settles)
            (ap₂ ◌&&◌ (ap (λ (w : Walk). turn_passes shape [] w text) (alone_walks choice h) ∙ value_passes choice h (greatest_of choice) n text says)
            (ap (λ (w : Walk). walk_passes shape [] w words) both_words ∙ r.passes));
      }

module _ {before : Options} {h : Held} (holds : Holds before h) (free : before.language ≡ Redlog) where
  -- after the flag
  flag_holds : Holds (with_smt before) (reacted shape.rules built_flag [] h)
  flag_holds = record { settles = refl; rowed = flag_rowed holds.rowed free }

  -- the flag, and the words that follow
  flag_reads : (all : Options) (words : List Text) → Reads all words (reacted shape.rules built_flag [] h) → Reads all (smt_flag ∷ words) h
  unfolding walk_passes
  flag_reads all words r = record {
    end = r.end;
    holds = r.holds;
    ends = ap (λ (w : Walk). fold (walked shape.rules []) w words) (flag_walks h) ∙ r.ends;
    passes = ap₂ ◌&&◌ (flag_passes h ∙ ap₂ ◌&&◌ holds.settles (flag_taken holds.rowed free)) (ap (λ (w : Walk). walk_passes shape [] w words) (flag_walks h) ∙ r.passes);
  }

  -- words that begin with the flag, where the words after it are read
  flagged_reads : (all : Options) (words rest : List (String Global)) → BeginsFlag words rest
      → ((k : Held) → Holds (with_smt before) k → Reads all (map string_bytes rest) k) → Reads all (map string_bytes words) h
  flagged_reads all words rest begins more =
      let texts : map string_bytes words ≡ smt_flag ∷ map string_bytes rest =
      ap (map string_bytes) begins.words_are ∙ ap (λ (t : Text). t ∷ map string_bytes rest) begins.word_is in
      subst (λ (ts : List Text). Reads all ts h) (sym texts)
      (flag_reads all (map string_bytes rest) (more (reacted shape.rules built_flag [] h) flag_holds))

module _ {before all : Options} {h : Held} (holds : Holds before h) (choice : Choice) (n : ℕ) (free : given choice before ≡ None) (words rest : List (String Global))
    (begins : Begins choice words n rest) (more : (k : Held) → Holds (with_value choice n before) k → Reads all (map string_bytes rest) k) where
  -- an option with its value in the next word, where the words after it are read
  option_apart : begins.tail ≡ [] → InNext (greatest_of choice) begins.others n rest → Reads all (map string_bytes words) h
  option_apart empty next =
      let name : string_bytes begins.word ≡ name_of choice = begins.word_is ∙ ap (λ (t : Text). name_of choice ++ t) empty ∙ append-nil (name_of choice) in
      let texts : map string_bytes words ≡ name_of choice ∷ string_bytes next.text ∷ map string_bytes rest =
      ap (map string_bytes) (begins.words_are ∙ ap (λ (ws : List (String Global)). begins.word ∷ ws) next.others_are)
      ∙ ap (λ (t : Text). t ∷ string_bytes next.text ∷ map string_bytes rest) name in
      subst (λ (ts : List Text). Reads all ts h) (sym texts)
      (apart_reads holds choice (string_bytes next.text) n free next.value all (map string_bytes rest)
      (more (filled_held choice (string_bytes next.text) h) (filled_holds holds choice (string_bytes next.text) n free next.value)))

  -- an option with its value after =
  option_joined : InTail (greatest_of choice) begins.tail begins.others n rest → Reads all (map string_bytes words) h
  option_joined inside =
      let texts : map string_bytes words ≡ (name_of choice ++ 61 ∷ inside.text) ∷ map string_bytes rest =
      ap (map string_bytes) (begins.words_are ∙ ap (λ (ws : List (String Global)). begins.word ∷ ws) inside.others_are)
      ∙ ap (λ (t : Text). t ∷ map string_bytes rest) (begins.word_is ∙ ap (λ (t : Text). name_of choice ++ t) inside.tail_is) in
      subst (λ (ts : List Text). Reads all ts h) (sym texts)
      (joined_reads holds choice inside.text n free inside.value all (map string_bytes rest)
      (more (reacted shape.rules (built_rule choice) (inside.text ∷ []) h) (joined_holds holds choice inside.text n free inside.value)))

  -- either
  option_reads : Reads all (map string_bytes words) h
  option_reads = ⊎_elim (λ (empty, next). option_apart empty next) option_joined (stands begins.gives)

-- the words after some options are read
reads_on : {before all : Options} {words : List (String Global)} → SpellsAfter before words all → (h : Held) → Holds before h → Reads all (map string_bytes words) h
unfolding walk_passes
reads_on over h holds = record { end = h; holds = holds; ends = refl; passes = refl }
reads_on (option {words = words} {rest = rest} {n = n} choice free begins more) h holds =
    option_reads holds choice n free words rest begins (λ k held. reads_on more k held)
reads_on (flag {all = all} {words = words} {rest = rest} free begins more) h holds =
    flagged_reads holds free all words rest begins (λ k held. reads_on more k held)

-- ---- the whole parse

-- the parse passes, by where its walk over the words ends and whether the words pass
ends_well : Walk → Bool → Bool
ends_well w passes =
    entered_passes (built app) w.stopped
    && (passes
    && (settle_passes shape.rules false w.held && (list_all default_passes shape.rules && is_valid shape (finished shape.rules w.held) (is_some (entered (built app) w.stopped)))))

module _ (words : List (String Global)) (all : Options) (spells : Spells words all) where
  -- all the words are read
  reads : Reads all (map string_bytes words) nothing_held
  reads = reads_on spells.gives nothing_held (record { settles = refl; rowed = no_row })

  -- `clap` takes the words
  pub words_taken : takes app (map string_bytes words) ≡ true
  unfolding ends_well
  words_taken = ap₂ ends_well reads.ends reads.passes ∙ ap (λ b. b && true) reads.holds.settles

  -- and finds the values of the options
  pub values_found : (choice : Choice) → option_and_then (value_of (greatest_of choice)) (first_of (id_of choice) (matches_of app (map string_bytes words))) ≡ given choice all
  values_found choice =
      ap (λ (w : Walk). option_and_then (value_of (greatest_of choice)) (first_of (id_of choice) (finished shape.rules w.held))) reads.ends
      ∙ ap (λ (rs : List Row). option_and_then (value_of (greatest_of choice)) (first_of (id_of choice) rs)) (only_flag (settled shape.rules reads.end).rows)
      ∙ ap (option_and_then (value_of (greatest_of choice))) (first_stays choice (settled shape.rules reads.end).rows)
      ∙ reads.holds.rowed.gives choice

  -- and the language
  pub language_found : one_of smt_id (matches_of app (map string_bytes words)) ≡ Some (flag_text all.language)
  language_found =
      ap (λ (w : Walk). one_of smt_id (finished shape.rules w.held)) reads.ends
      ∙ ap (one_of smt_id) (only_flag (settled shape.rules reads.end).rows)
      ∙ flag_found reads.holds.rowed
