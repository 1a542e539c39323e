-- No token of a text is deeper than the level of its tree.
use Rattle.std.proofs.Common.{◌≡◌, ⊎_elim, ℕ, suc, ◌+◌, ◌*◌, ◌≤◌, max, Bool, true, false, List, [], ◌∷◌, sym, refl, ap, ◌∙◌, subst, arith}
use Rattle.std.proofs.lemmas.List.Sums.{sum_by-cons}
use Rattle.std.specs.Prelude.{ℤ, pos, negsuc, unsigned_abs, nat_eq, sum_by, if◌then◌else◌}
use Rattle.std.specs.Ordering.{int_eq}
use Rattle.logic_meaning.specs.Formula.{Yes, No, One, Not, And, Or, Impl, Repl, Equiv, Ex, All, none, also}
use Rattle.logic_meaning.specs.Form.{Term}
use Rattle.logic_meaning.specs.Atom.{Atom, Compare, Congruent}
use Rattle.logic_meaning.specs.Tree.{Tree, Trees}
use Rattle.logic_meaning.specs.Sizes.{height, greatest_height}
use Rattle.language_meaning.specs.declared.level.Change.TheVariants as change
use Rattle.language_meaning.specs.declared.level.Group.{Group}
use Rattle.language_meaning.specs.declared.terminal.Terminal.{Terminal}
use Rattle.language_meaning.specs.declared.terminal.Terminal.TheVariants as terminal
use Rattle.language_meaning.specs.declared.terminal.Mark.TheVariants as mark
use Rattle.language_meaning.specs.declared.terminal.Word.{Word}
use Rattle.language_meaning.specs.declared.terminal.Word.TheVariants as word
use Rattle.language_meaning.specs.Levels.{weight, run, run_before, after, change_of, changed, going_on, closing, groups, level, Passes}
use Rattle.logic_meaning.specs.Text.{name_at, is_compound}
use Rattle.round_trip.specs.Written.{relation_sign}
use Rattle.round_trip.specs.Printed.{Terminals, number, first_mark, later_mark, factor_terminals, multiple_terminals, later_terminals, constant_terminals, sum_terminals, congruence_word, atom_terminals, bracketed, tree_terminals, members_terminals, more_terminals, line_terminals}
use Rattle.round_trip.specs.Round.{HeightBoundsLevel}
use Rattle.round_trip.specs.Levels.{atom_level, argument_level, tree_level, members_level}

-- no token of ts passes the limit
abbrev pub Within : ℕ → Terminals → Terminals → Type 0
Within limit before [] = Unit {0}
Within limit before (t ∷ ts) = (level (t ∷ before) ≤ limit) × Within limit (t ∷ before) ts

passes_none : (limit : ℕ) (before ts : Terminals) → Within limit before ts → ¬ (Passes limit before ts)
passes_none limit before [] w p = p
passes_none limit before (t ∷ ts) w p = ⊎_elim (λ h. let k = w.0 in omega arith) (λ h. passes_none limit (t ∷ before) ts w.1 h) p

-- a group in which no / counts
abbrev pub group : ℕ → ℕ → Group
group o a = record { opened = o; arrows = a; slashes = 0 }

-- what all open groups count together
abbrev pub total : ℕ → ℕ → List Group → ℕ
total o a gs = o + a + sum_by weight gs

-- the open groups after these tokens, and the run of not that stands before the next
pub record Stands (before : Terminals) (o a : ℕ) (gs : List Group) (nots : ℕ) : Type 0 where
  pub open_groups : groups before ≡ group o a ∷ gs
  pub run_is : run before ≡ nots
  pub before_is : run_before before ≡ nots

-- a token that changes no group and is no not
pub record IsFlat (t : Terminal) : Type 0 where
  pub inside : change_of t ≡ change.Inside
  pub same : (o a : ℕ) → after t (group o a) ≡ group o a
  pub no_run : (before : Terminals) → run (t ∷ before) ≡ 0

pub groups_step : (t : Terminal) (before : Terminals) (o a : ℕ) (gs : List Group) → IsFlat t → groups before ≡ group o a ∷ gs → groups (t ∷ before) ≡ group o a ∷ gs
unfolding groups
groups_step t before o a gs f e =
    ap (λ c. changed c (run_before before) t (groups before)) f.inside
    ∙ ap (λ hs. going_on t hs) e ∙ ap (λ g. g ∷ gs) (f.same o a)

-- the level of a token behind which these groups are open
pub level_is : (t : Terminal) (before : Terminals) (o a : ℕ) (gs : List Group) (nots : ℕ) → groups (t ∷ before) ≡ group o a ∷ gs → run (t ∷ before) ≡ nots → level (t ∷ before) ≡ total o a gs + nots
level_is t before o a gs nots e r =
    let sum : sum_by weight (groups (t ∷ before)) ≡ o + a + 0 + sum_by weight gs = ap (sum_by weight) e ∙ sum_by-cons weight (group o a) gs in
    omega arith

-- one more group
pub total_inner : (p o a : ℕ) (gs : List Group) → total p 0 (group o a ∷ gs) ≡ p + total o a gs
total_inner p o a gs = let sum : sum_by weight (group o a ∷ gs) ≡ o + a + 0 + sum_by weight gs = sum_by-cons weight (group o a) gs in omega arith

-- what comes next is within the limit wherever these groups are open
abbrev After : ℕ → ℕ → ℕ → List Group → Terminals → Type 0
After limit o a gs rest = (before : Terminals) → groups before ≡ group o a ∷ gs → Within limit before rest

-- some tokens behind which these groups are open, and what comes next is within the limit
pub record Ended (limit o a : ℕ) (gs : List Group) (rest : Terminals) : Type 0 where
  pub before : Terminals
  pub open_groups : groups before ≡ group o a ∷ gs
  pub within : Within limit before rest

-- terminals that change no group: they are within the limit where what comes next is, and only there
pub record Flat (k : Terminals → Terminals) : Type 0 where
  pub passed : (limit o a : ℕ) (gs : List Group) (before rest : Terminals) → groups before ≡ group o a ∷ gs → Within limit before (k rest) → Ended limit o a gs rest
  pub flat : (limit o a : ℕ) (gs : List Group) (rest : Terminals) → total o a gs ≤ limit → After limit o a gs rest → After limit o a gs (k rest)

nothing_flat : Flat (λ ts. ts)
nothing_flat = record { passed = λ limit o a gs before rest e w. record { before = before; open_groups = e; within = w }; flat = λ limit o a gs rest le h. h }

pub flat_token : (t : Terminal) → IsFlat t → Flat (λ ts. t ∷ ts)
flat_token t f = record {
  passed = λ limit o a gs before rest e w. record { before = t ∷ before; open_groups = groups_step t before o a gs f e; within = w.1 };
  flat = λ limit o a gs rest le h before e.
      let next = groups_step t before o a gs f e in
      let here = level_is t before o a gs 0 next (f.no_run before) in
      (omega arith, h (t ∷ before) next);
}

pub flat_both : (k l : Terminals → Terminals) → Flat k → Flat l → Flat (λ ts. k (l ts))
flat_both k l x y = record {
  passed = λ limit o a gs before rest e w. let first = x.passed limit o a gs before (l rest) e w in y.passed limit o a gs first.before rest first.open_groups first.within;
  flat = λ limit o a gs rest le h. x.flat limit o a gs (l rest) le (y.flat limit o a gs rest le h);
}

pub number_flat : (n : ℕ) → Flat (λ ts. number n ∷ ts)
number_flat n = flat_token (number n) (record { inside = refl; same = λ o a. refl; no_run = λ before. refl })

pub name_flat : (x : List ℕ) → Flat (λ ts. terminal.Name x ∷ ts)
name_flat x = flat_token (terminal.Name x) (record { inside = refl; same = λ o a. refl; no_run = λ before. refl })

times_flat : Flat (λ ts. terminal.Mark mark.Times ∷ ts)
times_flat = flat_token (terminal.Mark mark.Times) (record { inside = refl; same = λ o a. refl; no_run = λ before. refl })

plus_flat : Flat (λ ts. terminal.Mark mark.Plus ∷ ts)
plus_flat = flat_token (terminal.Mark mark.Plus) (record { inside = refl; same = λ o a. refl; no_run = λ before. refl })

minus_flat : Flat (λ ts. terminal.Mark mark.Minus ∷ ts)
minus_flat = flat_token (terminal.Mark mark.Minus) (record { inside = refl; same = λ o a. refl; no_run = λ before. refl })

first_flat : (z : ℤ) → Flat (first_mark z)
first_flat (pos n) = nothing_flat
first_flat (negsuc n) = minus_flat

later_flat : (z : ℤ) → Flat (later_mark z)
later_flat (pos n) = plus_flat
later_flat (negsuc n) = minus_flat

factor_flat : (n : ℕ) (x : List ℕ) → Flat (factor_terminals n x)
factor_flat n x = go (nat_eq n 1)
  where
    go : (b : Bool) → Flat (λ ts. if b then terminal.Name x ∷ ts else number n ∷ terminal.Mark mark.Times ∷ terminal.Name x ∷ ts)
    go true = name_flat x
    go false = flat_both (λ ts. number n ∷ ts) (λ ts. terminal.Mark mark.Times ∷ terminal.Name x ∷ ts) (number_flat n) (flat_both (λ ts. terminal.Mark mark.Times ∷ ts) (λ ts. terminal.Name x ∷ ts) times_flat (name_flat x))

constant_flat : (c : ℤ) → Flat (constant_terminals c)
constant_flat c = go (int_eq c (pos 0))
  where
    go : (b : Bool) → Flat (λ ts. if b then ts else later_mark c (number (unsigned_abs c) ∷ ts))
    go true = nothing_flat
    go false = flat_both (later_mark c) (λ ts. number (unsigned_abs c) ∷ ts) (later_flat c) (number_flat (unsigned_abs c))

module _ (names : List (List ℕ)) where
  multiple_flat : (u : Term) → Flat (multiple_terminals names u)
  multiple_flat u = factor_flat (unsigned_abs u.times) (name_at names u.name)

  multiples_flat : (us : List Term) → Flat (later_terminals names us)
  multiples_flat [] = nothing_flat
  multiples_flat (u ∷ us) = flat_both (later_mark u.times) (λ ts. multiple_terminals names u (later_terminals names us ts)) (later_flat u.times) (flat_both (multiple_terminals names u) (later_terminals names us) (multiple_flat u) (multiples_flat us))

  pub sum_flat : (us : List Term) (c : ℤ) → Flat (sum_terminals names us c)
  sum_flat [] c = flat_both (first_mark c) (λ ts. number (unsigned_abs c) ∷ ts) (first_flat c) (number_flat (unsigned_abs c))
  sum_flat (u ∷ us) c =
      flat_both (first_mark u.times) (λ ts. multiple_terminals names u (later_terminals names us (constant_terminals c ts))) (first_flat u.times)
      (flat_both (multiple_terminals names u) (λ ts. later_terminals names us (constant_terminals c ts)) (multiple_flat u)
      (flat_both (later_terminals names us) (constant_terminals c) (multiples_flat us) (constant_flat c)))

-- ---- brackets, commas, connectives

-- the bracket that opens
opens : (limit o a : ℕ) (gs : List Group) (nots : ℕ) (before rest : Terminals) → groups before ≡ group o a ∷ gs → run_before before ≡ nots → total o a gs + suc nots ≤ limit
    → (Stands (terminal.Mark mark.Open ∷ before) (suc nots) 0 (group o a ∷ gs) 0 → Within limit (terminal.Mark mark.Open ∷ before) rest) → Within limit before (terminal.Mark mark.Open ∷ rest)
unfolding groups
opens limit o a gs nots before rest e r le h =
    let next : groups (terminal.Mark mark.Open ∷ before) ≡ group (suc nots) 0 ∷ group o a ∷ gs = ap (λ n. group (suc n) 0 ∷ groups before) r ∙ ap (λ hs. group (suc nots) 0 ∷ hs) e in
    let here = level_is (terminal.Mark mark.Open) before (suc nots) 0 (group o a ∷ gs) 0 next refl in
    let sum = total_inner (suc nots) o a gs in
    (omega arith, h (record { open_groups = next; run_is = refl; before_is = refl }))

-- the bracket that closes
closes : (limit o a p b : ℕ) (gs : List Group) (rest : Terminals) → total o a gs ≤ limit → After limit o a gs rest → After limit p b (group o a ∷ gs) (terminal.Mark mark.Close ∷ rest)
unfolding groups
closes limit o a p b gs rest le h before e =
    let next : groups (terminal.Mark mark.Close ∷ before) ≡ group o a ∷ gs = ap (λ hs. closing hs) e in
    let here = level_is (terminal.Mark mark.Close) before o a gs 0 next refl in
    (omega arith, h (terminal.Mark mark.Close ∷ before) next)

-- a comma begins anew
commas : (limit o a : ℕ) (gs : List Group) (rest : Terminals) → total o a gs ≤ limit
    → ((before : Terminals) → Stands (terminal.Mark mark.Comma ∷ before) o 0 gs 0 → Within limit (terminal.Mark mark.Comma ∷ before) rest) → After limit o a gs (terminal.Mark mark.Comma ∷ rest)
unfolding groups
commas limit o a gs rest le h before e =
    let next : groups (terminal.Mark mark.Comma ∷ before) ≡ group o 0 ∷ gs = ap (λ hs. going_on (terminal.Mark mark.Comma) hs) e in
    let here = level_is (terminal.Mark mark.Comma) before o 0 gs 0 next refl in
    (omega arith, h before (record { open_groups = next; run_is = refl; before_is = refl }))

-- a word between two members
joins : (w : Word) → IsFlat (terminal.Word w) → ((before : Terminals) → run_before (terminal.Word w ∷ before) ≡ 0) → (limit o a : ℕ) (gs : List Group) (rest : Terminals) → total o a gs ≤ limit
    → ((before : Terminals) → Stands (terminal.Word w ∷ before) o a gs 0 → Within limit (terminal.Word w ∷ before) rest) → After limit o a gs (terminal.Word w ∷ rest)
joins w f n limit o a gs rest le h before e =
    let next = groups_step (terminal.Word w) before o a gs f e in
    let here = level_is (terminal.Word w) before o a gs 0 next (f.no_run before) in
    (omega arith, h before (record { open_groups = next; run_is = f.no_run before; before_is = n before }))

-- impl, repl or equiv: one more arrow
pub record IsArrow (w : Word) : Type 0 where
  pub inside : change_of (terminal.Word w) ≡ change.Inside
  pub more : (o a : ℕ) → after (terminal.Word w) (group o a) ≡ group o (suc a)
  pub no_run : (before : Terminals) → run (terminal.Word w ∷ before) ≡ 0
  pub none_before : (before : Terminals) → run_before (terminal.Word w ∷ before) ≡ 0

points : (w : Word) → IsArrow w → (limit o a : ℕ) (gs : List Group) (rest : Terminals) → total o (suc a) gs ≤ limit
    → ((before : Terminals) → Stands (terminal.Word w ∷ before) o (suc a) gs 0 → Within limit (terminal.Word w ∷ before) rest) → After limit o a gs (terminal.Word w ∷ rest)
unfolding groups
points w f limit o a gs rest le h before e =
    let next : groups (terminal.Word w ∷ before) ≡ group o (suc a) ∷ gs =
    ap (λ c. changed c (run_before before) (terminal.Word w) (groups before)) f.inside ∙ ap (λ hs. going_on (terminal.Word w) hs) e ∙ ap (λ g. g ∷ gs) (f.more o a) in
    let here = level_is (terminal.Word w) before o (suc a) gs 0 next (f.no_run before) in
    (omega arith, h before (record { open_groups = next; run_is = f.no_run before; before_is = f.none_before before }))

-- ---- formulas

-- after a formula alone the group may have arrows more
abbrev Ends : ℕ → ℕ → List Group → Terminals → Type 0
Ends limit o gs rest = (a : ℕ) → total o a gs ≤ limit → After limit o a gs rest

-- the terminals are within the limit, as a whole where no not stands before them, and as a member or an argument
record Kept (f : Tree) (k : Terminals → Terminals) : Type 0 where
  whole : (limit o a : ℕ) (gs : List Group) (before rest : Terminals) → Stands before o a gs 0 → total o a gs + tree_level f ≤ limit → Ends limit o gs rest → Within limit before (k rest)
  argument : (limit o a : ℕ) (gs : List Group) (nots : ℕ) (before rest : Terminals) → Stands before o a gs nots → total o a gs + argument_level nots f (tree_level f) ≤ limit → After limit o a gs rest
      → Within limit before (bracketed (is_compound f) k rest)

-- one that stands without parentheses
bare : (f : Tree) (k : Terminals → Terminals) → is_compound f ≡ false → argument_level 0 f (tree_level f) ≡ tree_level f
    → ((limit o a : ℕ) (gs : List Group) (nots : ℕ) (before rest : Terminals) → Stands before o a gs nots → total o a gs + argument_level nots f (tree_level f) ≤ limit → After limit o a gs rest → Within limit before (k rest))
    → Kept f k
bare f k e same n = record {
  whole = λ limit o a gs before rest s le h. n limit o a gs 0 before rest s (omega arith) (h a (omega arith));
  argument = λ limit o a gs nots before rest s le h. subst (λ b. Within limit before (bracketed b k rest)) (sym e) (n limit o a gs nots before rest s le h);
}

-- one that stands in parentheses
compound : (f : Tree) (k : Terminals → Terminals) → is_compound f ≡ true → ((nots : ℕ) → argument_level nots f (tree_level f) ≡ nots + suc (tree_level f))
    → ((limit o a : ℕ) (gs : List Group) (before rest : Terminals) → Stands before o a gs 0 → total o a gs + tree_level f ≤ limit → Ends limit o gs rest → Within limit before (k rest))
    → Kept f k
compound f k e same n = record {
  whole = n;
  argument = λ limit o a gs nots before rest s le h.
      let inner = total_inner (suc nots) o a gs in
      let room = same nots in
      let inside : total (suc nots) 0 (group o a ∷ gs) + tree_level f ≤ limit = omega arith in
      subst (λ b. Within limit before (bracketed b k rest)) (sym e)
      (opens limit o a gs nots before _ s.open_groups s.before_is (omega arith) (λ t.
      n limit (suc nots) 0 (group o a ∷ gs) (terminal.Mark mark.Open ∷ before) (terminal.Mark mark.Close ∷ rest) t inside (λ c l. closes limit o a (suc nots) c gs rest (omega arith) h)));
}

-- a token that changes no group, as a formula of its own
leaf : (f : Tree) (k : Terminals → Terminals) → is_compound f ≡ false → ((nots : ℕ) → argument_level nots f (tree_level f) ≡ tree_level f) → Flat k → Kept f k
leaf f k e same x = bare f k e (same 0) (λ limit o a gs nots before rest s le h. let room = same nots in x.flat limit o a gs rest (omega arith) h before s.open_groups)

pub truth_flat : Flat (λ ts. terminal.Word word.True ∷ ts)
truth_flat = flat_token (terminal.Word word.True) (record { inside = refl; same = λ o a. refl; no_run = λ before. refl })

pub falsity_flat : Flat (λ ts. terminal.Word word.False ∷ ts)
falsity_flat = flat_token (terminal.Word word.False) (record { inside = refl; same = λ o a. refl; no_run = λ before. refl })

pub congruence_is_flat : (b : Bool) → IsFlat (terminal.Word (congruence_word b))
congruence_is_flat true = record { inside = refl; same = λ o a. refl; no_run = λ before. refl }
congruence_is_flat false = record { inside = refl; same = λ o a. refl; no_run = λ before. refl }

pub none_before_congruence : (b : Bool) (before : Terminals) → run_before (terminal.Word (congruence_word b) ∷ before) ≡ 0
none_before_congruence true before = refl
none_before_congruence false before = refl

pub arrow_impl : IsArrow word.Impl
arrow_impl = record { inside = refl; more = λ o a. refl; no_run = λ before. refl; none_before = λ before. refl }

pub arrow_repl : IsArrow word.Repl
arrow_repl = record { inside = refl; more = λ o a. refl; no_run = λ before. refl; none_before = λ before. refl }

pub arrow_equiv : IsArrow word.Equiv
arrow_equiv = record { inside = refl; more = λ o a. refl; no_run = λ before. refl; none_before = λ before. refl }

pub and_flat : IsFlat (terminal.Word word.And)
and_flat = record { inside = refl; same = λ o a. refl; no_run = λ before. refl }

pub or_flat : IsFlat (terminal.Word word.Or)
or_flat = record { inside = refl; same = λ o a. refl; no_run = λ before. refl }

pub ex_flat : IsFlat (terminal.Word word.Ex)
ex_flat = record { inside = refl; same = λ o a. refl; no_run = λ before. refl }

pub all_flat : IsFlat (terminal.Word word.All)
all_flat = record { inside = refl; same = λ o a. refl; no_run = λ before. refl }

module _ (names : List (List ℕ)) where
  atom_kept : (a : Atom) → Kept (One a) (atom_terminals names a)
  atom_kept (Compare r f) = leaf (One (Compare r f)) (atom_terminals names (Compare r f)) refl (λ nots. refl)
      (flat_both (sum_terminals names f.terms f.constant) (λ ts. terminal.Relation (relation_sign r) ∷ number 0 ∷ ts) (sum_flat names f.terms f.constant)
      (flat_both (λ ts. terminal.Relation (relation_sign r) ∷ ts) (λ ts. number 0 ∷ ts) (flat_token (terminal.Relation (relation_sign r)) (record { inside = refl; same = λ o a. refl; no_run = λ before. refl })) (number_flat 0)))
  atom_kept (Congruent b m f) = bare (One (Congruent b m f)) (atom_terminals names (Congruent b m f)) refl refl kept
    where
      kept : (limit o a : ℕ) (gs : List Group) (nots : ℕ) (before rest : Terminals) → Stands before o a gs nots → total o a gs + 1 ≤ limit → After limit o a gs rest → Within limit before (atom_terminals names (Congruent b m f) rest)
      kept limit o a gs nots before rest s le h =
          let inner = total_inner 1 o a gs in
          let room : total 1 0 (group o a ∷ gs) ≤ limit = omega arith in
          let close = closes limit o a 1 0 gs rest (omega arith) h in
          let r1 : Terminals = number m ∷ terminal.Mark mark.Close ∷ rest in
          let r2 : Terminals = number 0 ∷ terminal.Mark mark.Comma ∷ r1 in
          let r3 : Terminals = sum_terminals names f.terms f.constant (terminal.Mark mark.Comma ∷ r2) in
          let modulus = (number_flat m).flat limit 1 0 (group o a ∷ gs) (terminal.Mark mark.Close ∷ rest) room close in
          let second = commas limit 1 0 (group o a ∷ gs) r1 room (λ c t. modulus (terminal.Mark mark.Comma ∷ c) t.open_groups) in
          let zero = (number_flat 0).flat limit 1 0 (group o a ∷ gs) (terminal.Mark mark.Comma ∷ r1) room second in
          let first = commas limit 1 0 (group o a ∷ gs) r2 room (λ c t. zero (terminal.Mark mark.Comma ∷ c) t.open_groups) in
          let sum = (sum_flat names f.terms f.constant).flat limit 1 0 (group o a ∷ gs) (terminal.Mark mark.Comma ∷ r2) room first in
          joins (congruence_word b) (congruence_is_flat b) (none_before_congruence b) limit o a gs (terminal.Mark mark.Open ∷ r3) (omega arith)
          (λ c t. opens limit o a gs 0 (terminal.Word (congruence_word b) ∷ c) r3 t.open_groups t.before_is (omega arith) (λ u. sum (terminal.Mark mark.Open ∷ terminal.Word (congruence_word b) ∷ c) u.open_groups))
          before s.open_groups

-- a quantifier counts the not before its word where its bracket opens
quantified : (w : Word) → IsFlat (terminal.Word w) → ((before : Terminals) → run_before (terminal.Word w ∷ before) ≡ run before) → (f : Tree) (x : List ℕ) (k : Terminals → Terminals) → Kept f k
    → (limit o a : ℕ) (gs : List Group) (nots : ℕ) (before rest : Terminals) → Stands before o a gs nots → total o a gs + (nots + suc (tree_level f)) ≤ limit → After limit o a gs rest
    → Within limit before (terminal.Word w ∷ terminal.Mark mark.Open ∷ terminal.Name x ∷ terminal.Mark mark.Comma ∷ k (terminal.Mark mark.Close ∷ rest))
quantified w flat binds f x k part limit o a gs nots before rest s le h =
    let inner = total_inner (suc nots) o a gs in
    let inside : total (suc nots) 0 (group o a ∷ gs) + tree_level f ≤ limit = omega arith in
    let room : total (suc nots) 0 (group o a ∷ gs) ≤ limit = omega arith in
    let body : Terminals = k (terminal.Mark mark.Close ∷ rest) in
    let next = groups_step (terminal.Word w) before o a gs flat s.open_groups in
    let here = level_is (terminal.Word w) before o a gs 0 next (flat.no_run before) in
    let comma = commas limit (suc nots) 0 (group o a ∷ gs) body room
    (λ c t. part.whole limit (suc nots) 0 (group o a ∷ gs) (terminal.Mark mark.Comma ∷ c) (terminal.Mark mark.Close ∷ rest) t inside (λ d l. closes limit o a (suc nots) d gs rest (omega arith) h)) in
    let name = (name_flat x).flat limit (suc nots) 0 (group o a ∷ gs) (terminal.Mark mark.Comma ∷ body) room comma in (
      omega arith,
      opens limit o a gs nots (terminal.Word w ∷ before) (terminal.Name x ∷ terminal.Mark mark.Comma ∷ body) next (binds before ∙ s.run_is) (omega arith)
          (λ t. name (terminal.Mark mark.Open ∷ terminal.Word w ∷ before) t.open_groups),
    )

-- two formulas with an arrow between them
pointed : (w : Word) → IsArrow w → (f g : Tree) (k l : Terminals → Terminals) → Kept f k → Kept g l
    → (limit o a : ℕ) (gs : List Group) (before rest : Terminals) → Stands before o a gs 0 → total o a gs + max (argument_level 0 f (tree_level f)) (suc (argument_level 0 g (tree_level g))) ≤ limit → Ends limit o gs rest
    → Within limit before (bracketed (is_compound f) k (terminal.Word w ∷ bracketed (is_compound g) l rest))
pointed w arrow f g k l left right limit o a gs before rest s le h =
    left.argument limit o a gs 0 before (terminal.Word w ∷ bracketed (is_compound g) l rest) s (omega arith)
    (points w arrow limit o a gs (bracketed (is_compound g) l rest) (omega arith)
    (λ c t. right.argument limit o (suc a) gs 0 (terminal.Word w ∷ c) rest t (omega arith) (h (suc a) (omega arith))))

-- a not before its argument
negated : (f : Tree) (k : Terminals → Terminals) → Kept f k
    → (limit o a : ℕ) (gs : List Group) (before rest : Terminals) → Stands before o a gs 0 → total o a gs + max 1 (argument_level 1 f (tree_level f)) ≤ limit → Ends limit o gs rest
    → Within limit before (terminal.Word word.Not ∷ bracketed (is_compound f) k rest)
unfolding groups
negated f k part limit o a gs before rest s le h =
    let next : groups (terminal.Word word.Not ∷ before) ≡ group o a ∷ gs = ap (λ hs. going_on (terminal.Word word.Not) hs) s.open_groups in
    let one : run (terminal.Word word.Not ∷ before) ≡ 1 = ap suc s.run_is in
    let here = level_is (terminal.Word word.Not) before o a gs 1 next one in
    (omega arith, part.argument limit o a gs 1 (terminal.Word word.Not ∷ before) rest (record { open_groups = next; run_is = one; before_is = one }) (omega arith) (h a (omega arith)))

module _ (names : List (List ℕ)) where
  abbrev printed : Tree → Terminals → Terminals
  printed f = tree_terminals names f

  mutual
    kept : (f : Tree) → Kept f (printed f)
    kept Yes = leaf Yes (printed Yes) refl (λ nots. refl) truth_flat
    kept No = leaf No (printed No) refl (λ nots. refl) falsity_flat
    kept (One a) = atom_kept names a
    kept (Not f) = let k = kept f in compound (Not f) (printed (Not f)) refl (λ nots. refl) (negated f (printed f) k)
    kept (And fs) = compound (And fs) (printed (And fs)) refl (λ nots. refl) (λ limit o a gs before rest s le h. members_kept word.And and_flat (λ b. refl) fs limit o a gs before rest s le (h a (omega arith)))
    kept (Or fs) = compound (Or fs) (printed (Or fs)) refl (λ nots. refl) (λ limit o a gs before rest s le h. members_kept word.Or or_flat (λ b. refl) fs limit o a gs before rest s le (h a (omega arith)))
    kept (Impl f g) = let k = kept f in let l = kept g in compound (Impl f g) (printed (Impl f g)) refl (λ nots. refl) (pointed word.Impl arrow_impl f g (printed f) (printed g) k l)
    kept (Repl f g) = let k = kept f in let l = kept g in compound (Repl f g) (printed (Repl f g)) refl (λ nots. refl) (pointed word.Repl arrow_repl f g (printed f) (printed g) k l)
    kept (Equiv f g) = let k = kept f in let l = kept g in compound (Equiv f g) (printed (Equiv f g)) refl (λ nots. refl) (pointed word.Equiv arrow_equiv f g (printed f) (printed g) k l)
    kept (Ex x f) = let k = kept f in bare (Ex x f) (printed (Ex x f)) refl (omega arith) (quantified word.Ex ex_flat (λ b. refl) f (name_at names x) (printed f) k)
    kept (All x f) = let k = kept f in bare (All x f) (printed (All x f)) refl (omega arith) (quantified word.All all_flat (λ b. refl) f (name_at names x) (printed f) k)

    members_kept : (w : Word) → IsFlat (terminal.Word w) → ((before : Terminals) → run_before (terminal.Word w ∷ before) ≡ 0) → (fs : Trees) (limit o a : ℕ) (gs : List Group) (before rest : Terminals)
        → Stands before o a gs 0 → total o a gs + members_level fs ≤ limit → After limit o a gs rest → Within limit before (members_terminals names w fs rest)
    members_kept w flat n none limit o a gs before rest s le h = h before s.open_groups
    members_kept w flat n (also f fs) limit o a gs before rest s le h =
        let k = kept f in
        k.argument limit o a gs 0 before (more_terminals names w fs rest) s (omega arith) (more_kept w flat n fs limit o a gs rest (omega arith) h)

    more_kept : (w : Word) → IsFlat (terminal.Word w) → ((before : Terminals) → run_before (terminal.Word w ∷ before) ≡ 0) → (fs : Trees) (limit o a : ℕ) (gs : List Group) (rest : Terminals)
        → total o a gs + members_level fs ≤ limit → After limit o a gs rest → After limit o a gs (more_terminals names w fs rest)
    more_kept w flat n none limit o a gs rest le h = h
    more_kept w flat n (also f fs) limit o a gs rest le h =
        let k = kept f in
        joins w flat n limit o a gs (bracketed (is_compound f) (printed f) (more_terminals names w fs rest)) (omega arith)
        (λ c t. k.argument limit o a gs 0 (terminal.Word w ∷ c) (more_terminals names w fs rest) t (omega arith) (more_kept w flat n fs limit o a gs rest (omega arith) h))

-- ---- the line

pub outermost : Stands [] 0 0 [] 0
unfolding groups
outermost = record { open_groups = refl; run_is = refl; before_is = refl }

semicolon_flat : IsFlat (terminal.Mark mark.Semicolon)
semicolon_flat = record { inside = refl; same = λ o a. refl; no_run = λ before. refl }

line_ends : (limit : ℕ) → Ends limit 0 [] (terminal.Mark mark.Semicolon ∷ [])
line_ends limit a le before e =
    let next = groups_step (terminal.Mark mark.Semicolon) before 0 a [] semicolon_flat e in
    let here = level_is (terminal.Mark mark.Semicolon) before 0 a [] 0 next refl in
    (omega arith, tt)

pub line_shallow : (names : List (List ℕ)) (f : Tree) → tree_level f ≤ 512 → ¬ (Passes 512 [] (line_terminals names f))
line_shallow names f le =
    let k = kept names f in
    let none : sum_by weight [] ≡ 0 = refl in
    passes_none 512 [] (line_terminals names f) (k.whole 512 0 0 [] [] (terminal.Mark mark.Semicolon ∷ []) outermost (omega arith) (line_ends 512))

-- ---- heights

argument_more : (nots : ℕ) (f : Tree) (n : ℕ) → argument_level nots f n ≤ nots + suc n
argument_more nots Yes n = omega arith
argument_more nots No n = omega arith
argument_more nots (One a) n = omega arith
argument_more nots (Not f) n = omega arith
argument_more nots (And fs) n = omega arith
argument_more nots (Or fs) n = omega arith
argument_more nots (Impl f g) n = omega arith
argument_more nots (Repl f g) n = omega arith
argument_more nots (Equiv f g) n = omega arith
argument_more nots (Ex x f) n = omega arith
argument_more nots (All x f) n = omega arith

-- a formula of the height h, whose text alone has the level n
record Low (f : Tree) (n h : ℕ) : Type 0 where
  level : h ≤ 257 → n ≤ 512
  alone : n + 1 ≤ 2 * h
  member : argument_level 0 f n + 1 ≤ 2 * h
  negated_member : argument_level 1 f n ≤ 2 * h

-- it is twice as high as its text is deep, and one more
low : (f : Tree) (n h : ℕ) → n + 2 ≤ 2 * h → Low f n h
low f n h le = record {
  level = λ top. omega arith;
  alone = omega arith;
  member = omega (arith, argument_more 0 f n);
  negated_member = omega (arith, argument_more 1 f n);
}

low_atom : (a : Atom) → Low (One a) (atom_level a) 1
low_atom (Compare r f) = record { level = λ top. omega arith; alone = omega arith; member = omega arith; negated_member = omega arith }
low_atom (Congruent b m f) = record { level = λ top. omega arith; alone = omega arith; member = omega arith; negated_member = omega arith }

low_pair : (f g : Tree) (m n h i : ℕ) → Low f m h → Low g n i → max (argument_level 0 f m) (suc (argument_level 0 g n)) + 2 ≤ 2 * suc (max h i)
low_pair f g m n h i l k = let a = l.member in let b = k.member in omega arith

mutual
  lows : (f : Tree) → Low f (tree_level f) (height f)
  lows Yes = record { level = λ top. omega arith; alone = omega arith; member = omega arith; negated_member = omega arith }
  lows No = record { level = λ top. omega arith; alone = omega arith; member = omega arith; negated_member = omega arith }
  lows (One a) = low_atom a
  lows (Not f) = let l = lows f in let a = l.negated_member in let b = l.alone in low (Not f) (tree_level (Not f)) (height (Not f)) (omega arith)
  lows (And fs) = let l = lows_of fs in low (And fs) (tree_level (And fs)) (height (And fs)) (omega arith)
  lows (Or fs) = let l = lows_of fs in low (Or fs) (tree_level (Or fs)) (height (Or fs)) (omega arith)
  lows (Impl f g) = let l = lows f in let k = lows g in low (Impl f g) (tree_level (Impl f g)) (height (Impl f g)) (low_pair f g _ _ _ _ l k)
  lows (Repl f g) = let l = lows f in let k = lows g in low (Repl f g) (tree_level (Repl f g)) (height (Repl f g)) (low_pair f g _ _ _ _ l k)
  lows (Equiv f g) = let l = lows f in let k = lows g in low (Equiv f g) (tree_level (Equiv f g)) (height (Equiv f g)) (low_pair f g _ _ _ _ l k)
  lows (Ex x f) = let l = lows f in let a = l.alone in low (Ex x f) (tree_level (Ex x f)) (height (Ex x f)) (omega arith)
  lows (All x f) = let l = lows f in let a = l.alone in low (All x f) (tree_level (All x f)) (height (All x f)) (omega arith)

  lows_of : (fs : Trees) → members_level fs ≤ 2 * greatest_height fs
  lows_of none = omega arith
  lows_of (also f fs) = let l = lows f in let k = lows_of fs in let a = l.member in omega arith

pub height_bounds_level : HeightBoundsLevel
height_bounds_level f h = let l = lows f in l.level h
