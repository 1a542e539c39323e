-- Words give at most one choice of options.
use Rattle.std.proofs.Common.{◌≡◌, ℕ, suc, ◌+◌, ◌-◌, ◌<◌, ◌≤◌, List, [], ◌∷◌, ◌++◌, length, get_or, drop, slice_index_or, refl, sym, ap, ◌∙◌, subst, length-drop, take, inl, inr, ◌⊎◌, ⊎_elim, arith, nat_eq, eq-eqb}
use Rattle.std.proofs.Math.Seq.{take-length}
use Rattle.std.specs.Prelude.{Option, Some, None, MatchOption, is_some, true, false, string_bytes, ◌↔◌}
use Rattle.std.specs.declared.alloc.Global.{Global}
use Rattle.std.specs.declared.string.String.{String}
use Rattle.program_meaning.specs.declared.options.Choice.{Choice}
use Rattle.program_meaning.specs.declared.options.Choice.TheVariants.{Nodes, Workers, Generate}
use Rattle.program_meaning.specs.declared.options.Language.TheVariants.{Redlog, SmtLib}
use Rattle.program_meaning.specs.declared.options.Options.{Options}
use Rattle.redlog_run.specs.declared.options.TheConstants.{CHOICES}
use Rattle.program_meaning.specs.Value.{value_of}
use Rattle.program_meaning.specs.CommandWords.{name_of, greatest_of, given, with_value, smt_flag, with_smt, no_options, Gives, apart, joined, Begins, BeginsFlag, SpellsAfter, over, option, flag, Spells}
use Rattle.program_meaning.specs.OptionIds.{SpellOnce}

pub some_injective : {A : Type 0} (x y : A) → Some x ≡ Some y → x ≡ y
some_injective x y e = cc

pub head_same : {A : Type 0} (x y : A) (xs ys : List A) → x ∷ xs ≡ y ∷ ys → x ≡ y
head_same x y xs ys e = cc

pub tail_same : {A : Type 0} (x y : A) (xs ys : List A) → x ∷ xs ≡ y ∷ ys → xs ≡ ys
tail_same x y xs ys e = cc

-- the word has one of the names, and one tail
record SameName (c d : Choice) (s t : List ℕ) : Type 0 where
  choice : c ≡ d
  tail : s ≡ t

-- the names differ in the third letter
third_letter : {s t : List ℕ} → s ≡ t → get_or s 2 0 ≡ get_or t 2 0
third_letter e = ap (λ (xs : List ℕ). get_or xs 2 0) e

differ : (m n : ℕ) → nat_eq m n ≡ false → m ≡ n → ⊥
differ m n d e = let same : nat_eq m n ≡ true = eq-eqb m n e in absurd (cc)

same_name : (c d : Choice) (s t : List ℕ) → name_of c ++ s ≡ name_of d ++ t → SameName c d s t
same_name Nodes Nodes s t e = record { choice = refl; tail = ap (λ (xs : List ℕ). drop 7 xs) e }
same_name Nodes Workers s t e = absurd (differ 110 119 refl (third_letter e))
same_name Nodes Generate s t e = absurd (differ 110 103 refl (third_letter e))
same_name Workers Nodes s t e = absurd (differ 119 110 refl (third_letter e))
same_name Workers Workers s t e = record { choice = refl; tail = ap (λ (xs : List ℕ). drop 9 xs) e }
same_name Workers Generate s t e = absurd (differ 119 103 refl (third_letter e))
same_name Generate Nodes s t e = absurd (differ 103 110 refl (third_letter e))
same_name Generate Workers s t e = absurd (differ 103 119 refl (third_letter e))
same_name Generate Generate s t e = record { choice = refl; tail = ap (λ (xs : List ℕ). drop 10 xs) e }

-- the flag is none of the names
no_flag : (c : Choice) (t : List ℕ) → ¬ (name_of c ++ t ≡ smt_flag)
no_flag Nodes t e = differ 110 115 refl (third_letter e)
no_flag Workers t e = differ 119 115 refl (third_letter e)
no_flag Generate t e = differ 103 115 refl (third_letter e)

record SameGift (m n : ℕ) (these those : List (String Global)) : Type 0 where
  value : m ≡ n
  rest : these ≡ those

-- what stands after the name has one value
joined_same : (greatest : ℕ) (s t : List ℕ) (m n : ℕ) → 61 ∷ s ≡ 61 ∷ t → value_of greatest s ≡ Some m → value_of greatest t ≡ Some n → m ≡ n
joined_same greatest s t m n e a b = some_injective m n (sym a ∙ ap (value_of greatest) (tail_same 61 61 s t e) ∙ b)

pub record InNext (greatest : ℕ) (others : List (String Global)) (n : ℕ) (rest : List (String Global)) : Type 0 where
  pub text : String Global
  pub others_are : others ≡ text ∷ rest
  pub value : value_of greatest (string_bytes text) ≡ Some n

pub record InTail (greatest : ℕ) (tail : List ℕ) (others : List (String Global)) (n : ℕ) (rest : List (String Global)) : Type 0 where
  pub text : List ℕ
  pub tail_is : tail ≡ 61 ∷ text
  pub others_are : others ≡ rest
  pub value : value_of greatest text ≡ Some n

-- where the value stands
pub stands : {greatest : ℕ} {tail : List ℕ} {others : List (String Global)} {n : ℕ} {rest : List (String Global)} → Gives greatest tail others n rest
    → ((tail ≡ []) × InNext greatest others n rest) ⊎ InTail greatest tail others n rest
stands (apart {text = text} v) = inl (refl, record { text = text; others_are = refl; value = v })
stands (joined {text = text} v) = inr (record { text = text; tail_is = refl; others_are = refl; value = v })

same_gift : {greatest : ℕ} {tail : List ℕ} {others : List (String Global)} {m n : ℕ} {these those : List (String Global)}
    → Gives greatest tail others m these → Gives greatest tail others n those → SameGift m n these those
same_gift {greatest = greatest} {m = m} {n = n} {these = these} {those = those} g h =
    ⊎_elim
    (λ (e, a). ⊎_elim
    (λ (f, b). record {
      value = some_injective m n (sym a.value ∙ ap (λ (w : String Global). value_of greatest (string_bytes w)) (head_same a.text b.text these those (sym a.others_are ∙ b.others_are)) ∙ b.value);
      rest = tail_same a.text b.text these those (sym a.others_are ∙ b.others_are);
    })
    (λ b. let x = sym e ∙ b.tail_is in absurd (cc))
    (stands h))
    (λ a. ⊎_elim
    (λ (f, b). let x = sym f ∙ a.tail_is in absurd (cc))
    (λ b. record { value = joined_same greatest a.text b.text m n (sym a.tail_is ∙ b.tail_is) a.value b.value; rest = sym a.others_are ∙ b.others_are })
    (stands h))
    (stands g)

-- the words begin with one option
pub record SameOption (c d : Choice) (m n : ℕ) (these those : List (String Global)) : Type 0 where
  pub choice : c ≡ d
  pub value : m ≡ n
  pub rest : these ≡ those

pub same_option : (c d : Choice) (words : List (String Global)) (m n : ℕ) (these those : List (String Global)) → Begins c words m these → Begins d words n those → SameOption c d m n these those
same_option c d words m n these those a b =
    let cons = sym a.words_are ∙ b.words_are in
    let word = head_same a.word b.word a.others b.others cons in
    let others = tail_same a.word b.word a.others b.others cons in
    let name = same_name c d a.tail b.tail (sym a.word_is ∙ ap string_bytes word ∙ b.word_is) in
    let here = subst (λ (k : Choice). Gives (greatest_of k) a.tail a.others m these) name.choice a.gives in
    let moved = subst (λ (t : List ℕ). Gives (greatest_of d) t a.others m these) name.tail here in
    let gift = same_gift (subst (λ (os : List (String Global)). Gives (greatest_of d) b.tail os m these) others moved) b.gives in
    record { choice = name.choice; value = gift.value; rest = gift.rest }

-- words that are left begin with an option
pub record Opens (before : Options) (words : List (String Global)) (all : Options) : Type 0 where
  pub choice : Choice
  pub n : ℕ
  pub rest : List (String Global)
  pub free : given choice before ≡ None
  pub begins : Begins choice words n rest
  pub more : SpellsAfter (with_value choice n before) rest all

-- words that are left begin with the flag
pub record OpensFlag (before : Options) (words : List (String Global)) (all : Options) : Type 0 where
  pub rest : List (String Global)
  pub free : before.language ≡ Redlog
  pub begins : BeginsFlag words rest
  pub more : SpellsAfter (with_smt before) rest all

pub opened : {before : Options} {words : List (String Global)} {all : Options} → SpellsAfter before words all
    → ((words ≡ []) × (all ≡ before)) ⊎ (Opens before words all ⊎ OpensFlag before words all)
opened over = inl (refl, refl)
opened (option {rest = rest} {n = n} choice free begins more) = inr (inl (record { choice = choice; n = n; rest = rest; free = free; begins = begins; more = more }))
opened (flag {rest = rest} free begins more) = inr (inr (record { rest = rest; free = free; begins = begins; more = more }))

-- words that begin with an option do not begin with the flag
not_both : (c : Choice) (words : List (String Global)) (n : ℕ) (these those : List (String Global)) → Begins c words n these → ¬ BeginsFlag words those
not_both c words n these those a b =
    let word = head_same a.word b.word a.others those (sym a.words_are ∙ b.words_are) in
    no_flag c a.tail (sym a.word_is ∙ ap string_bytes word ∙ b.word_is)

-- no options stand at words that are not empty and begin with none, nor with the flag
pub none_begins : (before : Options) (words : List (String Global)) → ¬ (words ≡ []) → ((c : Choice) (n : ℕ) (rest : List (String Global)) → ¬ Begins c words n rest)
    → ((rest : List (String Global)) → ¬ BeginsFlag words rest) → (all : Options) → ¬ SpellsAfter before words all
none_begins before words some none unflagged all h =
    ⊎_elim (λ e. some e.0) (λ s. ⊎_elim (λ o. none o.choice o.n o.rest o.begins) (λ o. unflagged o.rest o.begins) s) (opened h)

module _ (before : Options) (words : List (String Global)) (some : ¬ (words ≡ [])) (c : Choice) (n : ℕ) (rest : List (String Global)) (begins : Begins c words n rest) where
  -- an option that was given is not given again
  pub given_twice : is_some (given c before) ≡ true → (all : Options) → ¬ SpellsAfter before words all
  given_twice was all h =
      ⊎_elim (λ e. some e.0) (λ s. ⊎_elim (λ o. let same = same_option o.choice c words o.n n o.rest rest o.begins begins in
      let free = subst (λ (k : Choice). given k before ≡ None) same.choice o.free in let bad : true ≡ false = sym was ∙ ap is_some free in absurd (cc))
      (λ o. not_both c words n rest o.rest begins o.begins) s) (opened h)

  -- what follows the option is spelled after it
  pub follows : (all : Options) → SpellsAfter before words all → SpellsAfter (with_value c n before) rest all
  follows all h =
      ⊎_elim (λ e. absurd (some e.0)) (λ s. ⊎_elim (λ o. let same = same_option o.choice c words o.n n o.rest rest o.begins begins in
      subst (λ (ws : List (String Global)). SpellsAfter (with_value c n before) ws all) same.rest
      (subst (λ (m : ℕ). SpellsAfter (with_value c m before) o.rest all) same.value
      (subst (λ (k : Choice). SpellsAfter (with_value k o.n before) o.rest all) same.choice o.more)))
      (λ o. absurd (not_both c words n rest o.rest begins o.begins)) s) (opened h)

module _ (before : Options) (words : List (String Global)) (rest : List (String Global)) (begins : BeginsFlag words rest) where
  flagged : ¬ (words ≡ [])
  flagged e = let bad = sym e ∙ begins.words_are in absurd (cc)

  -- a flag that was given is not given again
  pub flag_twice : before.language ≡ SmtLib → (all : Options) → ¬ SpellsAfter before words all
  flag_twice was all h =
      ⊎_elim (λ e. flagged e.0) (λ s. ⊎_elim (λ o. not_both o.choice words o.n o.rest rest o.begins begins)
      (λ o. let bad : Redlog ≡ SmtLib = sym o.free ∙ was in absurd (cc)) s) (opened h)

  -- what follows the flag is spelled after it
  pub flag_follows : (all : Options) → SpellsAfter before words all → SpellsAfter (with_smt before) rest all
  flag_follows all h =
      ⊎_elim (λ e. absurd (flagged e.0)) (λ s. ⊎_elim (λ o. absurd (not_both o.choice words o.n o.rest rest o.begins begins))
      (λ o. subst (λ (ws : List (String Global)). SpellsAfter (with_smt before) ws all)
      (tail_same o.begins.word begins.word o.rest rest (sym o.begins.words_are ∙ begins.words_are)) o.more) s) (opened h)

not_empty : (words others : List (String Global)) (word : String Global) → words ≡ word ∷ others → ¬ (words ≡ [])
not_empty words others word e h = let bad = sym h ∙ e in absurd (cc)

spelled_once : {before all : Options} {words : List (String Global)} → SpellsAfter before words all → (other : Options) → SpellsAfter before words other → all ≡ other
spelled_once {words = words} over other h =
    ⊎_elim (λ e. sym e.1) (λ s. ⊎_elim (λ o. absurd (not_empty [] o.begins.others o.begins.word o.begins.words_are refl))
    (λ o. absurd (not_empty [] o.rest o.begins.word o.begins.words_are refl)) s) (opened h)
spelled_once {before = before} (option {words = words} {rest = rest} {n = n} choice free begins more) other h =
    spelled_once more other (follows before words (not_empty words begins.others begins.word begins.words_are) choice n rest begins other h)
spelled_once {before = before} (flag {words = words} {rest = rest} free begins more) other h =
    spelled_once more other (flag_follows before words rest begins other h)

pub words_spell_once : SpellOnce
words_spell_once words one other h k = spelled_once h.gives other k.gives

-- ---- what the functions find

pub in_next : (greatest n : ℕ) (others rest : List (String Global)) (text : String Global) (bytes : List ℕ) → others ≡ text ∷ rest → bytes ≡ string_bytes text
    → value_of greatest bytes ≡ Some n → (1 ≤ length others) × Gives greatest [] others n (drop 1 others)
in_next greatest n others rest text bytes e b v =
    subst (λ (os : List (String Global)). (1 ≤ length os) × Gives greatest [] os n (drop 1 os)) (sym e)
    (omega arith, apart (sym (ap (value_of greatest) b) ∙ v))

pub in_tail : (greatest n sign : ℕ) (others : List (String Global)) (tail text : List ℕ) → tail ≡ sign ∷ text → sign ≡ 61 → value_of greatest text ≡ Some n
    → (0 ≤ length others) × Gives greatest tail others n others
in_tail greatest n sign others tail text e s v =
    (omega arith, subst (λ (t : List ℕ). Gives greatest t others n others) (sym (e ∙ ap (λ (b : ℕ). b ∷ text) s)) (joined v))

add-one-length : (word : String Global) (others : List (String Global)) → length (word ∷ others) ≡ length others + 1
add-one-length word others = omega arith

pub begun : (choice : Choice) (n k : ℕ) (words others : List (String Global)) (word : String Global) (tail : List ℕ) → words ≡ word ∷ others → string_bytes word ≡ name_of choice ++ tail
    → k ≤ length others → Gives (greatest_of choice) tail others n (drop k others)
    → (0 < 1 + k) × (1 + k ≤ length words) × Begins choice words n (drop (1 + k) words)
begun choice n k words others word tail e w h g =
    let long : length words ≡ length others + 1 = ap length e ∙ add-one-length word others in
    let one : 1 + k ≡ suc k = omega arith in
    let left : drop k others ≡ drop (1 + k) words = sym (ap (λ (i : ℕ). drop i words) one ∙ ap (λ (ws : List (String Global)). drop (suc k) ws) e) in (
      omega arith,
      omega arith,
      record {
        word = word;
        others = others;
        tail = tail;
        words_are = e;
        word_is = w;
        gives = subst (λ (ws : List (String Global)). Gives (greatest_of choice) tail others n ws) left g;
      },
    )

-- the words begin with none of the options at the places below this one
abbrev pub BeginsNoneBelow : List (String Global) → ℕ → Type 0
BeginsNoneBelow words i = (k : ℕ) → k < i → (n : ℕ) (rest : List (String Global)) → ¬ Begins (slice_index_or CHOICES k Nodes) words n rest

-- each option has a place
pub none_of_all : (words : List (String Global)) → BeginsNoneBelow words 3 → (choice : Choice) (n : ℕ) (rest : List (String Global)) → ¬ Begins choice words n rest
none_of_all words none Nodes = none 0 (omega arith)
none_of_all words none Workers = none 1 (omega arith)
none_of_all words none Generate = none 2 (omega arith)

-- a range that goes to the end
pub to_end : (i : ℕ) (words : List (String Global)) → take (length words - i) (drop i words) ≡ drop i words
to_end i words = subst (λ (n : ℕ). take n (drop i words) ≡ drop i words) (length-drop i words) (take-length (drop i words))

pub some_left : (i : ℕ) (words : List (String Global)) → i < length words → ¬ (drop i words ≡ [])
some_left i words h e =
    let long : length (drop i words) ≡ length words - i = length-drop i words in
    let none : length (drop i words) ≡ 0 = ap length e in omega arith

pub not_given : (o : Option ℕ) → is_some o ≡ false → o ≡ None
not_given None e = refl
not_given (Some n) e = absurd (cc)

pub some_words : (words : List (String Global)) → 0 < length words → ¬ (words ≡ [])
some_words words h e = let none : length words ≡ 0 = ap length e in omega arith

pub flag_long : (words rest : List (String Global)) → BeginsFlag words rest → 1 ≤ length words
flag_long words rest b =
    let long : length words ≡ length rest + 1 = ap length b.words_are ∙ add-one-length b.word rest in omega arith

-- an answer of none, where nothing is spelled
pub nothing_spelled : {A : Type 0} (P : Options → Type 0) (Q : A → Type 0) (r : Option A) → r ≡ None → ((all : Options) → ¬ P all)
    → MatchOption r ((all : Options) → ¬ P all) Q
nothing_spelled P Q None e h = h
nothing_spelled P Q (Some x) e h = absurd (cc)

-- words that give the flag and a generated script are not of the form
pub excluded : (words : List (String Global)) (o : Options) → SpellsAfter no_options words o → o.language ≡ SmtLib → is_some o.generate ≡ true
    → ¬ ((options : Options) × Spells words options)
excluded words o s smt some (all, spells) =
    let same : o ≡ all = spelled_once s all spells.gives in
    let none = spells.one_script (subst (λ (x : Options). x.language ≡ SmtLib) same smt) in
    let bad : true ≡ false = sym some ∙ ap (λ (x : Options). is_some x.generate) same ∙ ap is_some none in absurd (cc)

pub not_excluded : (words : List (String Global)) (o : Options) → SpellsAfter no_options words o → (o.language ≡ SmtLib → is_some o.generate ≡ false) → Spells words o
not_excluded words o s free = record { gives = s; one_script = λ smt. not_given o.generate (free smt) }

module _ (before next : Options) (words : List (String Global)) (some : ¬ (words ≡ [])) (c : Choice) (n k : ℕ) (begins : Begins c words n (drop k words))
    (next_is : next ≡ with_value c n before) where
  back : is_some (given c before) ≡ false → (all : Options) → SpellsAfter next (drop k words) all → SpellsAfter before words all
  back free all s =
      option c (not_given (given c before) free) begins (subst (λ (o : Options). SpellsAfter o (drop k words) all) next_is s)

  onward : (all : Options) → SpellsAfter before words all → SpellsAfter next (drop k words) all
  onward all s = subst (λ (o : Options). SpellsAfter o (drop k words) all) (sym next_is) (follows before words some c n (drop k words) begins all s)

  -- the words spell what those after the option spell
  pub after_option : is_some (given c before) ≡ false → (all : Options) → SpellsAfter before words all ↔ SpellsAfter next (drop k words) all
  after_option free all = (onward all, back free all)

-- the words spell what those after the flag spell
pub after_flag : (before next : Options) (words rest : List (String Global)) → BeginsFlag words rest → before.language ≡ Redlog → next ≡ with_smt before
    → (all : Options) → SpellsAfter before words all ↔ SpellsAfter next rest all
after_flag before next words rest begins free next_is all = (
  λ s. subst (λ (o : Options). SpellsAfter o rest all) (sym next_is) (flag_follows before words rest begins all s),
  λ s. flag free begins (subst (λ (o : Options). SpellsAfter o rest all) next_is s),
)
