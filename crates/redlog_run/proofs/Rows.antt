-- What `clap` has found when it has read some options.
use Rattle.std.proofs.Common.{◌≡◌, ◌∙◌, ℕ, Bool, List, [], ◌∷◌, ◌++◌, ◌&&◌, ◌||◌, cond, refl, sym, ap, subst, true, false, inl, inr, ◌⊎◌, ⊎_elim, append-nil}
use Rattle.std.specs.Prelude.{Option, Some, None, codes, find, fold, not, option_and_then, slice_get}
use Rattle.std.specs.Option.{option_or}
use Rattle.std.specs.Str.{bytes_eq}
use Rattle.std.proofs.lemmas.List.Folds.{find-append, list_any-append}
use Rattle.clap.specs.Walk.{Row, Text, at_row, first_of, has_row, more_values, one_of, row_text, used, with_default, with_values, without}
use Rattle.clap.specs.Takes.{use_passes, values_pass}
use Rattle.clap.specs.declared.builder.value_parser.Reading.{Reading}
use Rattle.clap.specs.declared.builder.value_parser.Reading.TheVariants as reading
use Rattle.clap.specs.declared.parser.matches.ValueSource.{ValueSource}
use Rattle.clap.specs.declared.parser.matches.ValueSource.TheVariants.{CommandLine, DefaultValue}
use Rattle.program_meaning.specs.declared.options.Choice.{Choice}
use Rattle.program_meaning.specs.declared.options.Choice.TheVariants.{Nodes, Workers, Generate}
use Rattle.program_meaning.specs.declared.options.Language.{Language}
use Rattle.program_meaning.specs.declared.options.Language.TheVariants.{Redlog, SmtLib}
use Rattle.program_meaning.specs.declared.options.Options.{Options}
use Rattle.program_meaning.specs.Value.{value_of}
use Rattle.program_meaning.specs.CommandWords.{greatest_of, given, with_value, with_smt, no_options}
use Rattle.program_meaning.specs.OptionIds.{id_of, smt_id}
use Rattle.redlog_run.specs.Reading.{flag_text}
use Rattle.redlog_run.proofs.Steps.{shape, built_rule, built_flag}

-- a row with one value
abbrev row_from : Text → Reading → ValueSource → Text → Row
row_from id how s text = record { id = id; values = text ∷ []; count = None; source = Some s; reading = how }

-- what is found of an option with this text
abbrev pub row : Choice → Text → Row
row choice text = row_from (id_of choice) reading.AsWritten CommandLine text

-- what is found of the flag, which stands or does not
abbrev flag_row : ValueSource → Language → Row
flag_row s language = row_from smt_id reading.AsWritten s (flag_text language)

-- the text says the value of the option
abbrev pub Says : Choice → Text → ℕ → Type 0
Says choice text n = value_of (greatest_of choice) text ≡ Some n

-- the value that rows give an option
abbrev value_in : Choice → List Row → Option ℕ
value_in choice rows = option_and_then (value_of (greatest_of choice)) (first_of (id_of choice) rows)

-- the rows are those of the options so far
pub record Rowed (all : Options) (rows : List Row) : Type 0 where
  pub gives : (choice : Choice) → value_in choice rows ≡ given choice all
  pub absent : (choice : Choice) → given choice all ≡ None → has_row (id_of choice) rows ≡ false
  pub flagged : all.language ≡ SmtLib → one_of smt_id rows ≡ Some (flag_text SmtLib)
  pub unflagged : all.language ≡ Redlog → has_row smt_id rows ≡ false

pub no_row : Rowed no_options []
no_row = record { gives = gives; absent = λ choice free. refl; flagged = λ smt. absurd (cc); unflagged = λ redlog. refl }
  where
    gives : (choice : Choice) → value_in choice [] ≡ given choice no_options
    gives Nodes = refl
    gives Workers = refl
    gives Generate = refl

-- ---- rows that have none of this option

-- the row is added at the end
added : (id : Text) (change : Row → List Row) (missing rows : List Row) → has_row id rows ≡ false → at_row id change missing rows ≡ rows ++ missing
added id change missing [] none = refl
added id change missing (r ∷ rs) none = go (bytes_eq r.id id) (has_row id rs) none (added id change missing rs)
  where
    go : (b c : Bool) → (b || c) ≡ false → (c ≡ false → at_row id change missing rs ≡ rs ++ missing)
        → cond b (change r ++ rs) (r ∷ at_row id change missing rs) ≡ r ∷ (rs ++ missing)
    go true c e h = absurd (cc)
    go false c e h = ap (λ (xs : List Row). r ∷ xs) (h e)

nothing_found : (id : Text) (rows : List Row) → has_row id rows ≡ false → find (λ (r : Row). bytes_eq r.id id) rows ≡ None
nothing_found id [] none = refl
nothing_found id (r ∷ rs) none = go (bytes_eq r.id id) (has_row id rs) none (nothing_found id rs)
  where
    go : (b c : Bool) → (b || c) ≡ false → (c ≡ false → find (λ (s : Row). bytes_eq s.id id) rs ≡ None)
        → cond b (Some r) (find (λ (s : Row). bytes_eq s.id id) rs) ≡ None
    go true c e h = absurd (cc)
    go false c e h = h e

-- ---- one more row

no_other : (o : Option Row) → option_or o None ≡ o
no_other None = refl
no_other (Some r) = refl

abbrev has_name : Text → Row → Bool
has_name id r = bytes_eq r.id id

found_new : (id : Text) (r : Row) (rows : List Row) → has_row id rows ≡ false → has_name id r ≡ true → find (has_name id) (rows ++ r ∷ []) ≡ Some r
found_new id r rows none same =
    find-append (has_name id) rows (r ∷ [])
    ∙ ap (λ (o : Option Row). option_or o (find (has_name id) (r ∷ []))) (nothing_found id rows none)
    ∙ ap (λ (b : Bool). cond b (Some r) None) same

module _ (id : Text) (r : Row) (rows : List Row) (other : has_name id r ≡ false) where
  found_other : find (has_name id) (rows ++ r ∷ []) ≡ find (has_name id) rows
  found_other =
      find-append (has_name id) rows (r ∷ [])
      ∙ ap (λ (b : Bool). option_or (find (has_name id) rows) (cond b (Some r) None)) other
      ∙ no_other (find (has_name id) rows)

  first_other : first_of id (rows ++ r ∷ []) ≡ first_of id rows
  first_other = ap (option_and_then (λ (s : Row). slice_get s.values 0)) found_other

  one_other : one_of id (rows ++ r ∷ []) ≡ one_of id rows
  one_other = ap (option_and_then row_text) found_other

  absent_other : has_row id rows ≡ false → has_row id (rows ++ r ∷ []) ≡ false
  absent_other none =
      list_any-append (has_name id) rows (r ∷ [])
      ∙ ap (λ (b : Bool). b || (has_name id r || false)) none
      ∙ ap (λ (b : Bool). b || false) other

-- ---- one more option

-- the option is another one, and is read by another name
record Apart (c d : Choice) : Type 0 where
  ids : bytes_eq (id_of c) (id_of d) ≡ false
  keeps : (n : ℕ) (before : Options) → given d (with_value c n before) ≡ given d before

same_or_apart : (c d : Choice) → (c ≡ d) ⊎ Apart c d
same_or_apart Nodes Nodes = inl refl
same_or_apart Nodes Workers = inr (record { ids = refl; keeps = λ n before. refl })
same_or_apart Nodes Generate = inr (record { ids = refl; keeps = λ n before. refl })
same_or_apart Workers Nodes = inr (record { ids = refl; keeps = λ n before. refl })
same_or_apart Workers Workers = inl refl
same_or_apart Workers Generate = inr (record { ids = refl; keeps = λ n before. refl })
same_or_apart Generate Nodes = inr (record { ids = refl; keeps = λ n before. refl })
same_or_apart Generate Workers = inr (record { ids = refl; keeps = λ n before. refl })
same_or_apart Generate Generate = inl refl

same_id : (choice : Choice) → bytes_eq (id_of choice) (id_of choice) ≡ true
same_id Nodes = refl
same_id Workers = refl
same_id Generate = refl

-- the flag is read by another name
no_flag : (choice : Choice) → bytes_eq (id_of choice) smt_id ≡ false
no_flag Nodes = refl
no_flag Workers = refl
no_flag Generate = refl

no_option : (choice : Choice) → bytes_eq smt_id (id_of choice) ≡ false
no_option Nodes = refl
no_option Workers = refl
no_option Generate = refl

gets : (choice : Choice) (n : ℕ) (before : Options) → given choice (with_value choice n before) ≡ Some n
gets Nodes n before = refl
gets Workers n before = refl
gets Generate n before = refl

keeps_language : (choice : Choice) (n : ℕ) (before : Options) → (with_value choice n before).language ≡ before.language
keeps_language Nodes n before = refl
keeps_language Workers n before = refl
keeps_language Generate n before = refl

keeps_value : (choice : Choice) (before : Options) → given choice (with_smt before) ≡ given choice before
keeps_value Nodes before = refl
keeps_value Workers before = refl
keeps_value Generate before = refl

-- the value of a row that is found
abbrev value_at : Choice → Option Row → Option ℕ
value_at choice found = option_and_then (value_of (greatest_of choice)) (option_and_then (λ (r : Row). slice_get r.values 0) found)

-- a use with one text
one_use : (id : Text) (how : Reading) (text : Text) (rows : List Row) → has_row id rows ≡ false
    → with_values id how CommandLine (text ∷ []) (without id rows) ≡ rows ++ row_from id how CommandLine text ∷ []
one_use id how text rows none =
    ap (with_values id how CommandLine (text ∷ [])) (added id (λ _. []) [] rows none ∙ append-nil rows)
    ∙ added id (more_values CommandLine (text ∷ [])) (row_from id how CommandLine text ∷ []) rows none

module _ {before : Options} {rows : List Row} (rowed : Rowed before rows) (choice : Choice) (text : Text) (free : given choice before ≡ None) where
  none_yet : has_row (id_of choice) rows ≡ false
  none_yet = rowed.absent choice free

  used_is : used (built_rule choice) (text ∷ []) rows ≡ rows ++ row choice text ∷ []
  used_is = one_use (id_of choice) reading.AsWritten text rows none_yet

  -- `clap` takes it
  pub use_taken : use_passes false (built_rule choice) (text ∷ []) rows ≡ true
  use_taken = ap (λ (b : Bool). (not b || false) && values_pass (built_rule choice) (text ∷ [])) none_yet

  module _ (n : ℕ) (says : Says choice text n) where
    gives_more : (d : Choice) → value_in d (rows ++ row choice text ∷ []) ≡ given d (with_value choice n before)
    gives_more d =
        ⊎_elim
        (λ (same : choice ≡ d). subst (λ (k : Choice). value_in k (rows ++ row choice text ∷ []) ≡ given k (with_value choice n before)) same
        (ap (value_at choice) (found_new (id_of choice) (row choice text) rows none_yet (same_id choice)) ∙ says ∙ sym (gets choice n before)))
        (λ (apart : Apart choice d). ap (value_at d) (found_other (id_of d) (row choice text) rows apart.ids) ∙ rowed.gives d ∙ sym (apart.keeps n before))
        (same_or_apart choice d)

    absent_more : (d : Choice) → given d (with_value choice n before) ≡ None → has_row (id_of d) (rows ++ row choice text ∷ []) ≡ false
    absent_more d none =
        ⊎_elim
        (λ (same : choice ≡ d). let gone = subst (λ (k : Choice). given k (with_value choice n before) ≡ None) (sym same) none in
        let here = gets choice n before in absurd (cc))
        (λ (apart : Apart choice d). absent_other (id_of d) (row choice text) rows apart.ids (rowed.absent d (sym (apart.keeps n before) ∙ none)))
        (same_or_apart choice d)

    -- one more option adds its row
    pub used_rowed : Rowed (with_value choice n before) (used (built_rule choice) (text ∷ []) rows)
    used_rowed = subst (Rowed (with_value choice n before)) (sym used_is) (record {
      gives = gives_more;
      absent = absent_more;
      flagged = λ smt. one_other smt_id (row choice text) rows (no_flag choice) ∙ rowed.flagged (sym (keeps_language choice n before) ∙ smt);
      unflagged = λ redlog. absent_other smt_id (row choice text) rows (no_flag choice) (rowed.unflagged (sym (keeps_language choice n before) ∙ redlog));
    })

module _ {before : Options} {rows : List Row} (rowed : Rowed before rows) (free : before.language ≡ Redlog) where
  none_flagged : has_row smt_id rows ≡ false
  none_flagged = rowed.unflagged free

  -- `clap` takes the flag
  pub flag_taken : use_passes false built_flag [] rows ≡ true
  flag_taken = ap (λ (b : Bool). (not b || false) && values_pass built_flag (codes "true" ∷ [])) none_flagged

  -- the flag adds its row
  pub flag_rowed : Rowed (with_smt before) (used built_flag [] rows)
  flag_rowed = subst (Rowed (with_smt before)) (sym (one_use smt_id reading.AsWritten (codes "true") rows none_flagged)) (record {
    gives = λ choice. ap (option_and_then (value_of (greatest_of choice))) (first_other (id_of choice) (flag_row CommandLine SmtLib) rows (no_option choice))
        ∙ rowed.gives choice ∙ sym (keeps_value choice before);
    absent = λ choice none. absent_other (id_of choice) (flag_row CommandLine SmtLib) rows (no_option choice) (rowed.absent choice (sym (keeps_value choice before) ∙ none));
    flagged = λ smt. ap (option_and_then row_text) (found_new smt_id (flag_row CommandLine SmtLib) rows none_flagged refl);
    unflagged = λ redlog. absurd (cc);
  })

-- ---- at the end the flag gets its default

either_way : (b : Bool) (rows : List Row) → cond b rows rows ≡ rows
either_way true rows = refl
either_way false rows = refl

stays : (choice : Choice) (rows : List Row) → with_default rows (built_rule choice) ≡ rows
stays choice rows = either_way (has_row (id_of choice) rows) rows

-- and nothing else does
pub only_flag : (rows : List Row) → fold with_default rows shape.rules ≡ with_default rows built_flag
only_flag rows =
    let nodes = with_default rows (built_rule Nodes) in
    ap (λ (rs : List Row). with_default rs built_flag) (stays Generate (with_default nodes (built_rule Workers)) ∙ stays Workers nodes ∙ stays Nodes rows)

-- where no flag stands its row is added
default_added : (rows : List Row) → has_row smt_id rows ≡ false → with_default rows built_flag ≡ rows ++ flag_row DefaultValue Redlog ∷ []
default_added rows none =
    ap (λ (b : Bool). cond b rows (with_values smt_id reading.AsWritten DefaultValue (codes "false" ∷ []) rows)) none
    ∙ added smt_id (more_values DefaultValue (codes "false" ∷ [])) (flag_row DefaultValue Redlog ∷ []) rows none

-- and where it stands none is
default_there : (rows : List Row) → has_row smt_id rows ≡ true → with_default rows built_flag ≡ rows
default_there rows some = ap (λ (b : Bool). cond b rows (with_values smt_id reading.AsWritten DefaultValue (codes "false" ∷ []) rows)) some

-- the value of an option stays
pub first_stays : (choice : Choice) (rows : List Row) → first_of (id_of choice) (with_default rows built_flag) ≡ first_of (id_of choice) rows
first_stays choice rows = go (has_row smt_id rows) refl
  where
    go : (b : Bool) → has_row smt_id rows ≡ b → first_of (id_of choice) (with_default rows built_flag) ≡ first_of (id_of choice) rows
    go true e = ap (first_of (id_of choice)) (default_there rows e)
    go false e = ap (first_of (id_of choice)) (default_added rows e) ∙ first_other (id_of choice) (flag_row DefaultValue Redlog) rows (no_option choice)

-- what is found for the flag tells the language
pub flag_found : {all : Options} {rows : List Row} → Rowed all rows → one_of smt_id (with_default rows built_flag) ≡ Some (flag_text all.language)
flag_found {all = all} {rows = rows} rowed = go all.language refl
  where
    smt : (b : Bool) → has_row smt_id rows ≡ b → one_of smt_id rows ≡ Some (flag_text SmtLib) → one_of smt_id (with_default rows built_flag) ≡ Some (flag_text SmtLib)
    smt true e found = ap (one_of smt_id) (default_there rows e) ∙ found
    smt false e found = let gone = ap (option_and_then row_text) (nothing_found smt_id rows e) in absurd (cc)

    go : (l : Language) → all.language ≡ l → one_of smt_id (with_default rows built_flag) ≡ Some (flag_text l)
    go Redlog e =
        let none = rowed.unflagged e in
        ap (one_of smt_id) (default_added rows none)
        ∙ ap (option_and_then row_text) (found_new smt_id (flag_row DefaultValue Redlog) rows none refl)
    go SmtLib e = smt (has_row smt_id rows) refl (rowed.flagged e)
