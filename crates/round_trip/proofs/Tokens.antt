-- The text of a tree has the terminals of the tree.
use Rattle.std.proofs.Common.{◌≡◌, ℕ, ◌+◌, ◌^◌, ◌<◌, Bool, true, false, zero, suc, List, [], ◌∷◌, ◌++◌, length, codes, sym, refl, ◌∙◌, subst, arith, append_assoc, decimal, Some}
use Rattle.std.specs.Prelude.{ℤ, pos, negsuc, unsigned_abs, nat_eq, if◌then◌else◌}
use Rattle.std.specs.List.{flat_map, AllByRecursion}
use Rattle.std.specs.Ordering.{int_eq}
use Rattle.logic_meaning.specs.Formula.{Yes, No, One, Not, And, Or, Impl, Repl, Equiv, Ex, All, none, also}
use Rattle.logic_meaning.specs.Form.{Term}
use Rattle.logic_meaning.specs.Atom.{Atom, Compare, Congruent, Relation, Equals, Differs, Below, AtMost, Above, AtLeast}
use Rattle.logic_meaning.specs.Tree.{Tree, Trees}
use Rattle.logic_meaning.specs.Every.{Every, EveryOf, EveryBound, EveryBoundOf}
use Rattle.language_meaning.specs.Names.{IsVariable, is_word}
use Rattle.language_meaning.specs.declared.terminal.Terminal.{Terminal}
use Rattle.language_meaning.specs.declared.terminal.Terminal.TheVariants as terminal
use Rattle.language_meaning.specs.declared.terminal.Mark.TheVariants as mark
use Rattle.language_meaning.specs.declared.terminal.Word.{Word}
use Rattle.language_meaning.specs.declared.terminal.Word.TheVariants as word
use Rattle.language_meaning.specs.declared.token.TokenKind.TheVariants as token
use Rattle.language_meaning.specs.declared.lexer.Front.TheVariants as found
use Rattle.language_meaning.specs.Lexing.{front, signed, worded}
use Rattle.language_meaning.specs.Terminals.{word_of, sign_of}
use Rattle.logic_meaning.specs.Text.{name_at, first_sign, later_sign, multiple_text, later_multiple, later_constant, sum_text, form_text, relation_text, congruence_text, atom_text, is_compound, in_parentheses, tree_text, members_text, more_text}
use Rattle.formula_laws.specs.Within.{AreTermsWithin}
use Rattle.round_trip.specs.Written.{relation_sign}
use Rattle.round_trip.specs.Printed.{Terminals, number, first_mark, later_mark, multiple_terminals, later_terminals, constant_terminals, sum_terminals, congruence_word, atom_terminals, bracketed, tree_terminals, members_terminals, more_terminals}
use Rattle.exact_numbers.specs.Limit.{InLimit}
use Rattle.logic_meaning.specs.Numbers.{AllInLimit}
use Rattle.round_trip.specs.Round.{IsAtomPrintable}
use Rattle.round_trip.proofs.Lexed.{Reads, IsApart, Anything, BeginsName, Adds, nothing_adds, joined, joined_freely, needs_less, reads_token, drop_front, open_adds, close_adds, comma_adds, minus_adds, plus_adds, blank_adds, times_adds, number_adds, name_adds, word_adds}

-- ---- names

pub name_of : (names : List (List ℕ)) (x : ℕ) → AllByRecursion IsVariable names → x < length names → IsVariable (name_at names x)
name_of [] x v h = absurd (omega arith)
name_of (y ∷ ys) zero v h = v.0
name_of (y ∷ ys) (suc x) v h = name_of ys x v.1 (omega arith)

-- what begins with a name
begins : (x rest : List ℕ) → IsVariable x → BeginsName (x ++ rest)
begins [] rest v = let e = v.begins in absurd (cc)
begins (b ∷ bs) rest v = v.begins

-- ---- signs and words with their blanks

first_adds : (z : ℤ) → Adds Anything (first_sign z) (first_mark z)
first_adds (pos n) = nothing_adds Anything
first_adds (negsuc n) = minus_adds

spaced_adds : (b : ℕ) (m : Terminal) → Adds Anything (b ∷ []) (λ ts. m ∷ ts) → Adds Anything (32 ∷ b ∷ 32 ∷ []) (λ ts. m ∷ ts)
spaced_adds b m x =
    joined_freely Anything (codes " ") (b ∷ 32 ∷ []) (λ ts. ts) (λ ts. m ∷ ts) blank_adds
    (joined_freely Anything (b ∷ []) (codes " ") (λ ts. m ∷ ts) (λ ts. ts) x blank_adds)

later_adds : (z : ℤ) → Adds Anything (later_sign z) (later_mark z)
later_adds (pos n) = spaced_adds 43 (terminal.Mark mark.Plus) plus_adds
later_adds (negsuc n) = spaced_adds 45 (terminal.Mark mark.Minus) minus_adds

later_apart : (z : ℤ) (rest : List ℕ) → IsApart (later_sign z ++ rest)
later_apart (pos n) rest = refl
later_apart (negsuc n) rest = refl

-- a word and the blank behind it
blank_behind : (b : ℕ) (bs : List ℕ) (w : Word) → Adds IsApart (b ∷ bs) (λ ts. terminal.Word w ∷ ts) → Adds Anything ((b ∷ bs) ++ codes " ") (λ ts. terminal.Word w ∷ ts)
blank_behind b bs w x = joined IsApart Anything (b ∷ bs) (codes " ") (λ ts. terminal.Word w ∷ ts) (λ ts. ts) (λ rest p. refl) x blank_adds

between : (b : ℕ) (bs : List ℕ) (w : Word) → Adds IsApart (b ∷ bs) (λ ts. terminal.Word w ∷ ts) → Adds Anything (32 ∷ ((b ∷ bs) ++ codes " ")) (λ ts. terminal.Word w ∷ ts)
between b bs w x = joined_freely Anything (codes " ") ((b ∷ bs) ++ codes " ") (λ ts. ts) (λ ts. terminal.Word w ∷ ts) blank_adds (blank_behind b bs w x)

and_adds : Adds Anything (codes " and ") (λ ts. terminal.Word word.And ∷ ts)
unfolding worded is_word word_of
and_adds = between 97 (codes "nd") word.And (word_adds 97 (codes "nd") word.And refl refl refl refl)

or_adds : Adds Anything (codes " or ") (λ ts. terminal.Word word.Or ∷ ts)
unfolding worded is_word word_of
or_adds = between 111 (codes "r") word.Or (word_adds 111 (codes "r") word.Or refl refl refl refl)

impl_adds : Adds Anything (codes " impl ") (λ ts. terminal.Word word.Impl ∷ ts)
unfolding worded is_word word_of
impl_adds = between 105 (codes "mpl") word.Impl (word_adds 105 (codes "mpl") word.Impl refl refl refl refl)

repl_adds : Adds Anything (codes " repl ") (λ ts. terminal.Word word.Repl ∷ ts)
unfolding worded is_word word_of
repl_adds = between 114 (codes "epl") word.Repl (word_adds 114 (codes "epl") word.Repl refl refl refl refl)

equiv_adds : Adds Anything (codes " equiv ") (λ ts. terminal.Word word.Equiv ∷ ts)
unfolding worded is_word word_of
equiv_adds = between 101 (codes "quiv") word.Equiv (word_adds 101 (codes "quiv") word.Equiv refl refl refl refl)

not_adds : Adds Anything (codes "not ") (λ ts. terminal.Word word.Not ∷ ts)
unfolding worded is_word word_of
not_adds = blank_behind 110 (codes "ot") word.Not (word_adds 110 (codes "ot") word.Not refl refl refl refl)

true_adds : Adds IsApart (codes "true") (λ ts. terminal.Word word.True ∷ ts)
unfolding worded is_word word_of
true_adds = word_adds 116 (codes "rue") word.True refl refl refl refl

false_adds : Adds IsApart (codes "false") (λ ts. terminal.Word word.False ∷ ts)
unfolding worded is_word word_of
false_adds = word_adds 102 (codes "alse") word.False refl refl refl refl

-- a word and the bracket behind it
opening : (b : ℕ) (bs : List ℕ) (w : Word) → Adds IsApart (b ∷ bs) (λ ts. terminal.Word w ∷ ts) → Adds Anything ((b ∷ bs) ++ codes "(") (λ ts. terminal.Word w ∷ terminal.Mark mark.Open ∷ ts)
opening b bs w x = joined IsApart Anything (b ∷ bs) (codes "(") (λ ts. terminal.Word w ∷ ts) (λ ts. terminal.Mark mark.Open ∷ ts) (λ rest p. refl) x open_adds

ex_adds : Adds Anything (codes "ex(") (λ ts. terminal.Word word.Ex ∷ terminal.Mark mark.Open ∷ ts)
unfolding worded is_word word_of
ex_adds = opening 101 (codes "x") word.Ex (word_adds 101 (codes "x") word.Ex refl refl refl refl)

all_adds : Adds Anything (codes "all(") (λ ts. terminal.Word word.All ∷ terminal.Mark mark.Open ∷ ts)
unfolding worded is_word word_of
all_adds = opening 97 (codes "ll") word.All (word_adds 97 (codes "ll") word.All refl refl refl refl)

congruence_adds : (b : Bool) → Adds Anything (congruence_text b) (λ ts. terminal.Word (congruence_word b) ∷ terminal.Mark mark.Open ∷ ts)
unfolding worded is_word word_of
congruence_adds true = opening 99 (codes "ong") word.Cong (word_adds 99 (codes "ong") word.Cong refl refl refl refl)
congruence_adds false = opening 110 (codes "cong") word.Ncong (word_adds 110 (codes "cong") word.Ncong refl refl refl refl)

-- ---- sums

module _ (names : List (List ℕ)) (v : AllByRecursion IsVariable names) where
  -- the number of a term and its name
  factor_adds : (n : ℕ) (x : List ℕ) (b : Bool) → n < 2 ^ 127 → IsVariable x
      → Adds IsApart ((if b then [] else decimal n ++ codes "*") ++ x) (λ ts. if b then terminal.Name x ∷ ts else number n ∷ terminal.Mark mark.Times ∷ terminal.Name x ∷ ts)
  factor_adds n x true h k = name_adds x k
  factor_adds n x false h k =
      joined BeginsName IsApart (decimal n ++ codes "*") x (λ ts. number n ∷ terminal.Mark mark.Times ∷ ts) (λ ts. terminal.Name x ∷ ts) (λ rest p. begins x rest k)
      (joined IsApart BeginsName (decimal n) (codes "*") (λ ts. number n ∷ ts) (λ ts. terminal.Mark mark.Times ∷ ts) (λ rest p. refl) (number_adds n h) times_adds) (name_adds x k)

  multiple_adds : (t : Term) → InLimit t.times → t.name < length names → Adds IsApart (multiple_text names t) (multiple_terminals names t)
  multiple_adds t h k = factor_adds (unsigned_abs t.times) (name_at names t.name) (nat_eq (unsigned_abs t.times) 1) h (name_of names t.name v k)

  signed_adds : (t : Term) → InLimit t.times → t.name < length names → Adds IsApart (later_multiple names t) (λ ts. later_mark t.times (multiple_terminals names t ts))
  signed_adds t h k = joined_freely IsApart (later_sign t.times) (multiple_text names t) (later_mark t.times) (multiple_terminals names t) (later_adds t.times) (multiple_adds t h k)

  multiples_apart : (us : List Term) (rest : List ℕ) → IsApart rest → IsApart (flat_map (later_multiple names) us ++ rest)
  multiples_apart [] rest p = p
  multiples_apart (u ∷ us) rest p = go u.times
    where
      go : (z : ℤ) → IsApart (((later_sign z ++ multiple_text names u) ++ flat_map (later_multiple names) us) ++ rest)
      go (pos n) = refl
      go (negsuc n) = refl

  multiples_add : (us : List Term) → AllInLimit us → AreTermsWithin (length names) us → Adds IsApart (flat_map (later_multiple names) us) (later_terminals names us)
  multiples_add [] h k = nothing_adds IsApart
  multiples_add (u ∷ us) h k =
      joined IsApart IsApart (later_multiple names u) (flat_map (later_multiple names) us) (λ ts. later_mark u.times (multiple_terminals names u ts)) (later_terminals names us) (multiples_apart us)
      (signed_adds u h.0 k.0) (multiples_add us h.1 k.1)

  constant_apart : (c : ℤ) (b : Bool) (rest : List ℕ) → IsApart rest → IsApart ((if b then [] else later_sign c ++ decimal (unsigned_abs c)) ++ rest)
  constant_apart c true rest p = p
  constant_apart (pos n) false rest p = refl
  constant_apart (negsuc n) false rest p = refl

  constant_adds : (c : ℤ) (b : Bool) → InLimit c → Adds IsApart (if b then [] else later_sign c ++ decimal (unsigned_abs c)) (λ ts. if b then ts else later_mark c (number (unsigned_abs c) ∷ ts))
  constant_adds c true h = nothing_adds IsApart
  constant_adds c false h = joined_freely IsApart (later_sign c) (decimal (unsigned_abs c)) (later_mark c) (λ ts. number (unsigned_abs c) ∷ ts) (later_adds c) (number_adds (unsigned_abs c) h)

  sum_adds : (us : List Term) (c : ℤ) → InLimit c → AllInLimit us → AreTermsWithin (length names) us → Adds IsApart (sum_text names us c) (sum_terminals names us c)
  sum_adds [] c h m k = joined_freely IsApart (first_sign c) (decimal (unsigned_abs c)) (first_mark c) (λ ts. number (unsigned_abs c) ∷ ts) (first_adds c) (number_adds (unsigned_abs c) h)
  sum_adds (u ∷ us) c h m k =
      joined IsApart IsApart (first_sign u.times ++ multiple_text names u ++ flat_map (later_multiple names) us) (later_constant c)
      (λ ts. first_mark u.times (multiple_terminals names u (later_terminals names us ts))) (constant_terminals c) (constant_apart c (int_eq c (pos 0)))
      (joined IsApart IsApart (first_sign u.times ++ multiple_text names u) (flat_map (later_multiple names) us)
      (λ ts. first_mark u.times (multiple_terminals names u ts)) (later_terminals names us) (multiples_apart us)
      (joined_freely IsApart (first_sign u.times) (multiple_text names u) (first_mark u.times) (multiple_terminals names u) (first_adds u.times) (multiple_adds u m.0 k.0))
      (multiples_add us m.1 k.1))
      (constant_adds c (int_eq c (pos 0)) h)

  -- ---- atoms

  zero_adds : Adds IsApart (codes "0") (λ ts. number 0 ∷ ts)
  unfolding Rattle.std.specs.Fmt.digits
  zero_adds = number_adds 0 (omega arith)

  -- a relation of one or two bytes, with 0
  relates_to_zero : (sign : List ℕ) (m : Terminal) → Adds Anything (codes " ") (λ ts. ts) → Adds Anything (sign ++ codes " ") (λ ts. m ∷ ts) → Adds IsApart (32 ∷ ((sign ++ codes " ") ++ codes "0")) (λ ts. m ∷ number 0 ∷ ts)
  relates_to_zero sign m blank x =
      joined_freely IsApart (codes " ") ((sign ++ codes " ") ++ codes "0") (λ ts. ts) (λ ts. m ∷ number 0 ∷ ts) blank
      (joined_freely IsApart (sign ++ codes " ") (codes "0") (λ ts. m ∷ ts) (λ ts. number 0 ∷ ts) x zero_adds)

  -- a sign before a blank
  before_blank : (b : ℕ) (bs : List ℕ) (m : Terminal) → ((rest : List ℕ) → front b (bs ++ 32 ∷ rest) ≡ found.Token (Some (token.Sign (b ∷ bs))) (1 + length bs)) → sign_of (b ∷ bs) ≡ m → Adds Anything ((b ∷ bs) ++ codes " ") (λ ts. m ∷ ts)
  before_blank b bs m e is = record {
    reads = λ rest ts p r.
        subst (λ w. Reads w (m ∷ ts)) (sym (append_assoc (b ∷ bs) (codes " ") rest))
        (subst (λ t. Reads (b ∷ (bs ++ 32 ∷ rest)) (t ∷ ts)) is
        (reads_token b (bs ++ 32 ∷ rest) (32 ∷ rest) (token.Sign (b ∷ bs)) ts (1 + length bs) (e rest) (drop_front b bs (32 ∷ rest)) (blank_adds.reads rest ts tt r)));
  }

  relation_adds : (r : Relation) → Adds IsApart (relation_text r) (λ ts. terminal.Relation (relation_sign r) ∷ number 0 ∷ ts)
  unfolding front signed sign_of
  relation_adds Equals = relates_to_zero (codes "=") (terminal.Relation (relation_sign Equals)) blank_adds (before_blank 61 [] _ (λ rest. refl) refl)
  relation_adds Differs = relates_to_zero (codes "<>") (terminal.Relation (relation_sign Differs)) blank_adds (before_blank 60 (codes ">") _ (λ rest. refl) refl)
  relation_adds Below = relates_to_zero (codes "<") (terminal.Relation (relation_sign Below)) blank_adds (before_blank 60 [] _ (λ rest. refl) refl)
  relation_adds AtMost = relates_to_zero (codes "<=") (terminal.Relation (relation_sign AtMost)) blank_adds (before_blank 60 (codes "=") _ (λ rest. refl) refl)
  relation_adds Above = relates_to_zero (codes ">") (terminal.Relation (relation_sign Above)) blank_adds (before_blank 62 [] _ (λ rest. refl) refl)
  relation_adds AtLeast = relates_to_zero (codes ">=") (terminal.Relation (relation_sign AtLeast)) blank_adds (before_blank 62 (codes "=") _ (λ rest. refl) refl)

  relation_apart : (r : Relation) (rest : List ℕ) → IsApart rest → IsApart (relation_text r ++ rest)
  relation_apart Equals rest p = refl
  relation_apart Differs rest p = refl
  relation_apart Below rest p = refl
  relation_apart AtMost rest p = refl
  relation_apart Above rest p = refl
  relation_apart AtLeast rest p = refl

  -- ,0,
  zero_between : Adds Anything (codes ",0,") (λ ts. terminal.Mark mark.Comma ∷ number 0 ∷ terminal.Mark mark.Comma ∷ ts)
  zero_between =
      joined_freely Anything (codes ",") (codes "0,") (λ ts. terminal.Mark mark.Comma ∷ ts) (λ ts. number 0 ∷ terminal.Mark mark.Comma ∷ ts) comma_adds
      (joined IsApart Anything (codes "0") (codes ",") (λ ts. number 0 ∷ ts) (λ ts. terminal.Mark mark.Comma ∷ ts) (λ rest p. refl) zero_adds comma_adds)

  pub atom_adds : (a : Atom) → IsAtomPrintable (length names) a → Adds IsApart (atom_text names a) (atom_terminals names a)
  atom_adds (Compare r f) h =
      joined IsApart IsApart (form_text names f) (relation_text r) (sum_terminals names f.terms f.constant) (λ ts. terminal.Relation (relation_sign r) ∷ number 0 ∷ ts) (relation_apart r)
      (sum_adds f.terms f.constant h.1.0 h.1.1 h.0) (relation_adds r)
  atom_adds (Congruent b m f) h =
      let k : Terminals → Terminals = λ ts. terminal.Word (congruence_word b) ∷ terminal.Mark mark.Open ∷ ts in
      let sum : Terminals → Terminals = sum_terminals names f.terms f.constant in
      let zero_and : Terminals → Terminals = λ ts. terminal.Mark mark.Comma ∷ number 0 ∷ terminal.Mark mark.Comma ∷ ts in
      let modulus : Terminals → Terminals = λ ts. number m ∷ ts in
      let close : Terminals → Terminals = λ ts. terminal.Mark mark.Close ∷ ts in
      joined IsApart IsApart (congruence_text b ++ form_text names f ++ codes ",0," ++ decimal m) (codes ")") (λ ts. k (sum (zero_and (modulus ts)))) close (λ rest p. refl)
      (joined_freely IsApart (congruence_text b ++ form_text names f ++ codes ",0,") (decimal m) (λ ts. k (sum (zero_and ts))) modulus
      (joined IsApart Anything (congruence_text b ++ form_text names f) (codes ",0,") (λ ts. k (sum ts)) zero_and (λ rest p. refl)
      (joined_freely IsApart (congruence_text b) (form_text names f) k sum (congruence_adds b) (sum_adds f.terms f.constant h.1.1.0 h.1.1.1 h.0)) zero_between)
      (number_adds m h.1.0)) (needs_less IsApart (codes ")") close close_adds)

  -- ---- formulas

  -- a text in parentheses, or without them
  bracketed_adds : (b : Bool) (text : List ℕ) (k : Terminals → Terminals) → Adds IsApart text k → Adds IsApart (in_parentheses b text) (bracketed b k)
  bracketed_adds true text k x =
      let open_mark : Terminals → Terminals = λ ts. terminal.Mark mark.Open ∷ ts in
      let close : Terminals → Terminals = λ ts. terminal.Mark mark.Close ∷ ts in
      joined IsApart IsApart (codes "(" ++ text) (codes ")") (λ ts. open_mark (k ts)) close (λ rest p. refl)
      (joined_freely IsApart (codes "(") text open_mark k open_adds x) (needs_less IsApart (codes ")") close close_adds)
  bracketed_adds false text k x = x

  -- two formulas with a word between them
  pair_adds : (a b word_text : List ℕ) (k l : Terminals → Terminals) (w : Word) → ((rest : List ℕ) → IsApart (word_text ++ rest)) → Adds Anything word_text (λ ts. terminal.Word w ∷ ts)
      → Adds IsApart a k → Adds IsApart b l → Adds IsApart (a ++ word_text ++ b) (λ ts. k (terminal.Word w ∷ l ts))
  pair_adds a b word_text k l w apart x y z =
      let between : Terminals → Terminals = λ ts. terminal.Word w ∷ ts in
      joined_freely IsApart (a ++ word_text) b (λ ts. k (between ts)) l (joined IsApart Anything a word_text k between (λ rest p. apart rest) y x) z

  -- a quantifier with its name and its formula
  scope_adds : (opening_text x text : List ℕ) (w : Word) (k : Terminals → Terminals) → Adds Anything opening_text (λ ts. terminal.Word w ∷ terminal.Mark mark.Open ∷ ts) → IsVariable x → Adds IsApart text k
      → Adds IsApart (opening_text ++ x ++ codes "," ++ text ++ codes ")") (λ ts. terminal.Word w ∷ terminal.Mark mark.Open ∷ terminal.Name x ∷ terminal.Mark mark.Comma ∷ k (terminal.Mark mark.Close ∷ ts))
  scope_adds opening_text x text w k begun is y =
      let begin : Terminals → Terminals = λ ts. terminal.Word w ∷ terminal.Mark mark.Open ∷ ts in
      let name : Terminals → Terminals = λ ts. terminal.Name x ∷ ts in
      let comma : Terminals → Terminals = λ ts. terminal.Mark mark.Comma ∷ ts in
      let close : Terminals → Terminals = λ ts. terminal.Mark mark.Close ∷ ts in
      joined IsApart IsApart (opening_text ++ x ++ codes "," ++ text) (codes ")") (λ ts. begin (name (comma (k ts)))) close (λ rest p. refl)
      (joined_freely IsApart (opening_text ++ x ++ codes ",") text (λ ts. begin (name (comma ts))) k
      (joined IsApart Anything (opening_text ++ x) (codes ",") (λ ts. begin (name ts)) comma (λ rest p. refl)
      (joined_freely IsApart opening_text x begin name begun (name_adds x is)) comma_adds) y)
      (needs_less IsApart (codes ")") close close_adds)

  more_apart : (word_text : List ℕ) → ((rest : List ℕ) → IsApart (word_text ++ rest)) → (fs : Trees) (rest : List ℕ) → IsApart rest → IsApart (more_text names word_text fs ++ rest)
  more_apart word_text apart none rest p = p
  more_apart word_text apart (also f fs) rest p =
      let text = in_parentheses (is_compound f) (tree_text names f) in
      let more = more_text names word_text fs in
      subst IsApart (sym (append_assoc (word_text ++ text) more rest ∙ append_assoc word_text text (more ++ rest))) (apart (text ++ (more ++ rest)))

  mutual
    pub tree_adds : (f : Tree) → Every (IsAtomPrintable (length names)) f → EveryBound (λ x. x < length names) f → Adds IsApart (tree_text names f) (tree_terminals names f)
    tree_adds Yes h k = true_adds
    tree_adds No h k = false_adds
    tree_adds (One a) h k = atom_adds a h
    tree_adds (Not f) h k = joined_freely IsApart (codes "not ") (in_parentheses (is_compound f) (tree_text names f)) (λ ts. terminal.Word word.Not ∷ ts) (bracketed (is_compound f) (tree_terminals names f)) not_adds (bracketed_adds (is_compound f) (tree_text names f) (tree_terminals names f) (tree_adds f h k))
    tree_adds (And fs) h k = members_add (codes " and ") word.And (λ rest. refl) and_adds fs h k
    tree_adds (Or fs) h k = members_add (codes " or ") word.Or (λ rest. refl) or_adds fs h k
    tree_adds (Impl f g) h k = pair_adds _ _ (codes " impl ") _ _ word.Impl (λ rest. refl) impl_adds (bracketed_adds (is_compound f) (tree_text names f) (tree_terminals names f) (tree_adds f h.0 k.0)) (bracketed_adds (is_compound g) (tree_text names g) (tree_terminals names g) (tree_adds g h.1 k.1))
    tree_adds (Repl f g) h k = pair_adds _ _ (codes " repl ") _ _ word.Repl (λ rest. refl) repl_adds (bracketed_adds (is_compound f) (tree_text names f) (tree_terminals names f) (tree_adds f h.0 k.0)) (bracketed_adds (is_compound g) (tree_text names g) (tree_terminals names g) (tree_adds g h.1 k.1))
    tree_adds (Equiv f g) h k = pair_adds _ _ (codes " equiv ") _ _ word.Equiv (λ rest. refl) equiv_adds (bracketed_adds (is_compound f) (tree_text names f) (tree_terminals names f) (tree_adds f h.0 k.0)) (bracketed_adds (is_compound g) (tree_text names g) (tree_terminals names g) (tree_adds g h.1 k.1))
    tree_adds (Ex x f) h k = scope_adds (codes "ex(") (name_at names x) (tree_text names f) word.Ex (tree_terminals names f) ex_adds (name_of names x v k.0) (tree_adds f h k.1)
    tree_adds (All x f) h k = scope_adds (codes "all(") (name_at names x) (tree_text names f) word.All (tree_terminals names f) all_adds (name_of names x v k.0) (tree_adds f h k.1)

    members_add : (word_text : List ℕ) (w : Word) → ((rest : List ℕ) → IsApart (word_text ++ rest)) → Adds Anything word_text (λ ts. terminal.Word w ∷ ts) → (fs : Trees) → EveryOf (IsAtomPrintable (length names)) fs → EveryBoundOf (λ x. x < length names) fs → Adds IsApart (members_text names word_text fs) (members_terminals names w fs)
    members_add word_text w apart x none h k = nothing_adds IsApart
    members_add word_text w apart x (also f fs) h k =
        joined IsApart IsApart (in_parentheses (is_compound f) (tree_text names f)) (more_text names word_text fs) (bracketed (is_compound f) (tree_terminals names f)) (more_terminals names w fs) (more_apart word_text apart fs)
        (bracketed_adds (is_compound f) (tree_text names f) (tree_terminals names f) (tree_adds f h.0 k.0)) (more_add word_text w apart x fs h.1 k.1)

    more_add : (word_text : List ℕ) (w : Word) → ((rest : List ℕ) → IsApart (word_text ++ rest)) → Adds Anything word_text (λ ts. terminal.Word w ∷ ts) → (fs : Trees) → EveryOf (IsAtomPrintable (length names)) fs → EveryBoundOf (λ x. x < length names) fs → Adds IsApart (more_text names word_text fs) (more_terminals names w fs)
    more_add word_text w apart x none h k = nothing_adds IsApart
    more_add word_text w apart x (also f fs) h k =
        joined IsApart IsApart (word_text ++ in_parentheses (is_compound f) (tree_text names f)) (more_text names word_text fs) (λ ts. terminal.Word w ∷ bracketed (is_compound f) (tree_terminals names f) ts) (more_terminals names w fs) (more_apart word_text apart fs)
        (joined_freely IsApart word_text (in_parentheses (is_compound f) (tree_text names f)) (λ ts. terminal.Word w ∷ ts) (bracketed (is_compound f) (tree_terminals names f)) x (bracketed_adds (is_compound f) (tree_text names f) (tree_terminals names f) (tree_adds f h.0 k.0)))
        (more_add word_text w apart x fs h.1 k.1)
