-- What `clap` makes of the words of one option.
use Rattle.std.proofs.Common.{◌≡◌, ℕ, ◌≤◌, Bool, cond, ◌&&◌, true, false, [], ◌∷◌, ◌++◌, length, refl, sym, arith, true≢false, nat_eq, nat_le, ne_eqb}
use borrow.Author.Tests.{leb-true}
use Rattle.std.specs.Prelude.{Some, None, codes}
use Rattle.std.specs.List.{list_all}
use Rattle.clap.specs.Walk.{Held, Rule, Text, Walk, option, reacted, settled, used, walk_from, walked}
use Rattle.clap.proofs.WalkLemmas.{both}
use Rattle.clap.specs.Simple.{Shape, built}
use Rattle.clap.specs.Takes.{react_passes, settle_passes, turn_passes, use_passes}
use Rattle.clap.specs.declared.builder.value_parser.ValueParser.TheVariants as vp
use Rattle.program_meaning.specs.declared.options.Choice.{Choice}
use Rattle.program_meaning.specs.declared.options.Choice.TheVariants.{Nodes, Workers, Generate}
use Rattle.program_meaning.specs.Value.{value_of, are_digits, is_digit, number_after}
use Rattle.redlog_run.specs.Reading.{app, flag_rule, rule_for}
use Rattle.program_meaning.specs.CommandWords.{name_of, smt_flag}
use Rattle.program_meaning.specs.OptionIds.{id_of}

-- `and` with a test that passes
and_true : (b : Bool) → (b && true) ≡ b
and_true true = refl
and_true false = refl

-- the command with what building adds
abbrev pub shape : Shape
shape = (built app).top

-- an option with what building adds: it takes one value, as text
abbrev pub built_rule : Choice → Rule
built_rule choice = record (rule_for choice) { range = Some (record { start_inclusive = 1; end_inclusive = 1 }); parser = Some vp.String }

-- the flag with what building adds: it takes no value, and is false where it does not stand
abbrev pub built_flag : Rule
built_flag = record flag_rule {
  range = Some (record { start_inclusive = 0; end_inclusive = 0 });
  parser = Some vp.Bool;
  defaults = codes "false" ∷ [];
  missing = codes "true" ∷ [];
}

-- ---- the word of the flag

pub flag_walks : (h : Held) → walked shape.rules [] (walk_from h) smt_flag ≡ walk_from (reacted shape.rules built_flag [] h)
unfolding walked
flag_walks h = refl

pub flag_passes : (h : Held) → turn_passes shape [] (walk_from h) smt_flag ≡ react_passes shape.rules false built_flag [] h
flag_passes h = and_true _

-- ---- the words of an option

-- a word with a value after = uses the option at once
pub joined_walks : (choice : Choice) (text : Text) (h : Held)
    → walked shape.rules [] (walk_from h) (name_of choice ++ 61 ∷ text) ≡ walk_from (reacted shape.rules (built_rule choice) (text ∷ []) h)
unfolding walked
joined_walks Nodes text h = refl
joined_walks Workers text h = refl
joined_walks Generate text h = refl

pub joined_passes : (choice : Choice) (text : Text) (h : Held)
    → turn_passes shape [] (walk_from h) (name_of choice ++ 61 ∷ text) ≡ react_passes shape.rules false (built_rule choice) (text ∷ []) h
joined_passes Nodes text h = and_true _
joined_passes Workers text h = and_true _
joined_passes Generate text h = and_true _

-- what is held while an option waits for its value, and when it has it
abbrev pub waiting_held : Choice → Held → Held
waiting_held choice h = record (settled shape.rules h) { pending = Some (id_of choice, []) }

abbrev pub filled_held : Choice → Text → Held → Held
filled_held choice text h = record (settled shape.rules h) { pending = Some (id_of choice, text ∷ []) }

abbrev pub waiting_walk : Choice → Held → Walk
waiting_walk choice h = record (walk_from (waiting_held choice h)) { waiting = option (id_of choice) }

-- a word that is the option alone waits for the value
pub alone_walks : (choice : Choice) (h : Held) → walked shape.rules [] (walk_from h) (name_of choice) ≡ waiting_walk choice h
unfolding walked
alone_walks Nodes h = refl
alone_walks Workers h = refl
alone_walks Generate h = refl

pub alone_passes : (choice : Choice) (h : Held) → turn_passes shape [] (walk_from h) (name_of choice) ≡ settle_passes shape.rules false h
alone_passes Nodes h = and_true _
alone_passes Workers h = and_true _
alone_passes Generate h = and_true _

-- a word that begins with no hyphen is the value of the option that waits, and is taken
value_walks_at : (choice : Choice) (h : Held) (d : ℕ) (ds : Text) → nat_eq d 45 ≡ false
    → walked shape.rules [] (waiting_walk choice h) (d ∷ ds) ≡ walk_from (filled_held choice (d ∷ ds) h)
unfolding walked
value_walks_at Nodes h d ds e = rw e (rw e refl)
value_walks_at Workers h d ds e = rw e (rw e refl)
value_walks_at Generate h d ds e = rw e (rw e refl)

value_passes_at : (choice : Choice) (h : Held) (d : ℕ) (ds : Text) → nat_eq d 45 ≡ false → turn_passes shape [] (waiting_walk choice h) (d ∷ ds) ≡ true
value_passes_at Nodes h d ds e = rw e (rw e refl)
value_passes_at Workers h d ds e = rw e (rw e refl)
value_passes_at Generate h d ds e = rw e (rw e refl)

-- a value is digits
digits_of : (greatest n : ℕ) (text : Text) → value_of greatest text ≡ Some n → are_digits text ≡ true
unfolding value_of
digits_of greatest n text e = go (are_digits text) refl e
  where
    go : (b : Bool) → are_digits text ≡ b
        → cond (b && (nat_le 1 (number_after 0 text) && nat_le (number_after 0 text) greatest)) (Some (number_after 0 text)) None ≡ Some n → are_digits text ≡ true
    go true t h = t
    go false t h = absurd (cc)

-- digits begin with no hyphen
no_hyphen : (d : ℕ) (ds : Text) → are_digits (d ∷ ds) ≡ true → nat_eq d 45 ≡ false
no_hyphen d ds e =
    let all = both (nat_le 1 (length (d ∷ ds)) && nat_le (length (d ∷ ds)) 10) (list_all is_digit (d ∷ ds)) e in
    let first = both (is_digit d) (list_all is_digit ds) all.1 in
    let low = both (nat_le 48 d) (nat_le d 57) first.0 in
    let above : 48 ≤ d = leb-true _ _ low.0 in
    ne_eqb d 45 (λ same. omega arith)

-- and so is a value
module _ (choice : Choice) (h : Held) (greatest n : ℕ) where
  pub value_walks : (text : Text) → value_of greatest text ≡ Some n → walked shape.rules [] (waiting_walk choice h) text ≡ walk_from (filled_held choice text h)
  value_walks [] e = absurd (true≢false (sym (digits_of greatest n [] e)))
  value_walks (d ∷ ds) e = value_walks_at choice h d ds (no_hyphen d ds (digits_of greatest n (d ∷ ds) e))

  pub value_passes : (text : Text) → value_of greatest text ≡ Some n → turn_passes shape [] (waiting_walk choice h) text ≡ true
  value_passes [] e = absurd (true≢false (sym (digits_of greatest n [] e)))
  value_passes (d ∷ ds) e = value_passes_at choice h d ds (no_hyphen d ds (digits_of greatest n (d ∷ ds) e))

-- the value that is held is used like one after =
pub filled_settles : (choice : Choice) (text : Text) (h : Held)
    → settle_passes shape.rules false (filled_held choice text h) ≡ use_passes false (built_rule choice) (text ∷ []) (settled shape.rules h).rows
filled_settles Nodes text h = refl
filled_settles Workers text h = refl
filled_settles Generate text h = refl

pub filled_rows : (choice : Choice) (text : Text) (h : Held)
    → (settled shape.rules (filled_held choice text h)).rows ≡ used (built_rule choice) (text ∷ []) (settled shape.rules h).rows
filled_rows Nodes text h = refl
filled_rows Workers text h = refl
filled_rows Generate text h = refl
