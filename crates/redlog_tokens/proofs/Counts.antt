-- The levels so far.
use Rattle.std.proofs.Common.{◌≡◌, ℕ, ◌+◌, ◌<◌, ◌≤◌, List, [], ◌∷◌, sym, refl, ap, ◌∙◌, subst, inl, inr, arith, drop, length, get_or, drop-cons, add-one}
use Rattle.std.proofs.Math.ListN.{drop_of_length-le}
use Rattle.std.proofs.lemmas.List.Sums.{sum_by-cons}
use Rattle.std.specs.Prelude.{reverse, sum_by, if◌then◌else◌, ◌⊎◌}
use Rattle.redlog_tokens.specs.declared.level.Levels.{Levels}
use Rattle.language_meaning.specs.declared.terminal.Terminal.{Terminal}
use Rattle.language_meaning.specs.declared.terminal.Terminal.TheVariants as terminal
use Rattle.language_meaning.specs.declared.terminal.Word.TheVariants as word
use Rattle.language_meaning.specs.Levels.{weight, change_of, changed, groups, run, run_before, level, Passes}
use Rattle.redlog_tokens.specs.Counting.{count, stack, IsTotal, IsSmall, AreLevels, is_binder, is_of_run}

run_is : (t : Terminal) (before : List Terminal) (r : ℕ) → r ≡ run before → (if is_of_run t then r + 1 else 0) ≡ run (t ∷ before)
run_is (terminal.Word word.Not) before r e = omega (arith, e)
run_is (terminal.Word word.Nnf) before r e = omega (arith, e)
run_is (terminal.Word word.Pnf) before r e = omega (arith, e)
run_is (terminal.Word word.Dnf) before r e = omega (arith, e)
run_is (terminal.Word word.Cnf) before r e = omega (arith, e)
run_is (terminal.Word word.Simpl) before r e = omega (arith, e)
run_is (terminal.Word word.Qe) before r e = omega (arith, e)
run_is _ before r e = refl

held_is : (t : Terminal) (before : List Terminal) (r : ℕ) → r ≡ run before
    → run_before (t ∷ before) ≡ (if is_of_run t then r + 1 else 0) + (if is_binder t then r else 0)
held_is (terminal.Word word.Ex) before r e = omega (arith, e)
held_is (terminal.Word word.All) before r e = omega (arith, e)
held_is (terminal.Word word.Not) before r e = omega (arith, e)
held_is (terminal.Word word.Nnf) before r e = omega (arith, e)
held_is (terminal.Word word.Pnf) before r e = omega (arith, e)
held_is (terminal.Word word.Dnf) before r e = omega (arith, e)
held_is (terminal.Word word.Cnf) before r e = omega (arith, e)
held_is (terminal.Word word.Simpl) before r e = omega (arith, e)
held_is (terminal.Word word.Qe) before r e = omega (arith, e)
held_is _ before r e = omega arith

module _ (old new : Levels) (t : Terminal) (grouped : stack new ≡ changed (change_of t) (old.run + old.held) t (stack old))
    (run_after : new.run ≡ (if is_of_run t then old.run + 1 else 0)) (held_after : new.held ≡ (if is_binder t then old.run else 0)) where
  -- after one more token
  pub levels_taken : (before : List Terminal) → AreLevels old before → AreLevels new (t ∷ before)
  unfolding groups
  levels_taken before are = record {
    open_groups = ap (λ n. changed (change_of t) n t (groups before)) are.held ∙ ap (changed (change_of t) (old.run + old.held) t) are.open_groups ∙ sym grouped;
    run = run_after ∙ run_is t before old.run are.run;
    held = held_is t before old.run are.run ∙ sym ((λ i. run_after i + held_after i));
  }

level_is : (l : Levels) (before : List Terminal) → AreLevels l before → IsTotal l → level before ≡ count l
level_is l before are total =
    let first : sum_by weight (stack l) ≡ weight l.inmost + sum_by weight (reverse l.around.items) = sum_by-cons weight l.inmost (reverse l.around.items) in
    omega (arith, ap (sum_by weight) are.open_groups, are.run, total, first)

later : (before rest : List Terminal) (t : Terminal) {n : ℕ} → (512 < level (t ∷ before)) ⊎ Passes 512 (t ∷ before) rest → level (t ∷ before) ≡ n → n ≤ 512 → Passes 512 (t ∷ before) rest
later before rest t (inl above) e within = absurd (omega (arith, above, e, within))
later before rest t (inr p) e within = p

-- no level passed the limit before what is left
pub record ShallowSoFar (l : Levels) (all rest : List Terminal) : Type 0 where
  pub before : List Terminal
  pub small : IsSmall l
  pub are : AreLevels l before
  pub onward : Passes 512 [] all → Passes 512 before rest
  pub back : Passes 512 before rest → Passes 512 [] all

pub shallow_start : (l : Levels) (all : List Terminal) → IsSmall l → AreLevels l [] → ShallowSoFar l all all
shallow_start l all small are = record { before = []; small = small; are = are; onward = λ p. p; back = λ p. p }

module _ {old new : Levels} {all left : List Terminal} (rest : List Terminal) (t : Terminal) (so_far : ShallowSoFar old all left) (at : left ≡ t ∷ rest)
    (taken : (before : List Terminal) → AreLevels old before → AreLevels new (t ∷ before)) (total : IsTotal new) where
  next_level : level (t ∷ so_far.before) ≡ count new
  next_level = level_is new (t ∷ so_far.before) (taken so_far.before so_far.are) total

  -- the next level passes the limit
  pub deep : 512 < count new → Passes 512 [] all
  deep above = so_far.back (subst (Passes 512 so_far.before) (sym at) (inl (subst (λ n. 512 < n) (sym next_level) above)))

  -- it does not
  pub shallow_more : count new ≤ 512 → new.held ≤ 512 → ShallowSoFar new all rest
  shallow_more within held = record {
    before = t ∷ so_far.before;
    small = record { total = total; level = within; held = held };
    are = taken so_far.before so_far.are;
    onward = λ p. later so_far.before rest t (subst (Passes 512 so_far.before) at (so_far.onward p)) next_level within;
    back = λ p. so_far.back (subst (Passes 512 so_far.before) (sym at) (inr p));
  }

pub shallow_end : {l : Levels} {all left : List Terminal} → ShallowSoFar l all left → left ≡ [] → Passes 512 [] all → ⊥
shallow_end so_far at p = subst (Passes 512 so_far.before) at (so_far.onward p)

-- the terminal at a place
pub next_terminal : (ts : List Terminal) (i : ℕ) (x : Terminal) → i < length ts → x ≡ get_or ts i x → drop i ts ≡ x ∷ drop (i + 1) ts
next_terminal ts i x inside is = drop-cons ts i x inside ∙ (λ k. sym is k ∷ drop (sym (add-one i) k) ts)

pub no_terminal : (ts : List Terminal) (i : ℕ) → length ts ≤ i → drop i ts ≡ []
no_terminal ts i past = drop_of_length-le ts past
