-- Some token of a text is as deep as the level of its tree.
use Rattle.std.proofs.Common.{◌≡◌, ◌⊎◌, inl, inr, ⊎_elim, ℕ, suc, ◌+◌, ◌<◌, ◌≤◌, max, Bool, true, false, List, [], ◌∷◌, sym, refl, ap, ◌∙◌, subst, arith}
use Rattle.std.proofs.lemmas.Bool.{ltb-true, ltb-false}
use Rattle.std.specs.Prelude.{nat_lt, sum_by}
use Rattle.logic_meaning.specs.Formula.{Yes, No, One, Not, And, Or, Impl, Repl, Equiv, Ex, All, none, also}
use Rattle.logic_meaning.specs.Atom.{Atom, Compare, Congruent}
use Rattle.logic_meaning.specs.Tree.{Tree, Trees}
use Rattle.language_meaning.specs.declared.level.Group.{Group}
use Rattle.language_meaning.specs.declared.terminal.Terminal.{Terminal}
use Rattle.language_meaning.specs.declared.terminal.Terminal.TheVariants as terminal
use Rattle.language_meaning.specs.declared.terminal.Mark.TheVariants as mark
use Rattle.language_meaning.specs.declared.terminal.Word.{Word}
use Rattle.language_meaning.specs.declared.terminal.Word.TheVariants as word
use Rattle.language_meaning.specs.Levels.{weight, run, run_before, changed, going_on, closing, groups, level, Passes}
use Rattle.logic_meaning.specs.Text.{name_at, is_compound}
use Rattle.round_trip.specs.Written.{relation_sign}
use Rattle.round_trip.specs.Printed.{Terminals, number, sum_terminals, congruence_word, atom_terminals, bracketed, tree_terminals, members_terminals, more_terminals, line_terminals}
use Rattle.round_trip.specs.Levels.{argument_level, tree_level, members_level}
use Rattle.round_trip.proofs.Shallow.{Within, group, total, Stands, IsFlat, groups_step, level_is, total_inner, Ended, Flat, flat_token, flat_both, number_flat, name_flat, sum_flat, IsArrow, truth_flat, falsity_flat, congruence_is_flat, none_before_congruence, arrow_impl, arrow_repl, arrow_equiv, and_flat, or_flat, ex_flat, all_flat, outermost}

-- ---- a test of the levels

within_or_passes : (limit : ℕ) (before ts : Terminals) → Within limit before ts ⊎ Passes limit before ts
within_or_passes limit before [] = inl tt
within_or_passes limit before (t ∷ ts) = ⊎_elim (λ l. inr (inl l)) (λ l. ⊎_elim (λ w. inl (l, w)) (λ p. inr (inr p)) (within_or_passes limit (t ∷ before) ts)) (by_order limit (level (t ∷ before)))
  where
    by_order : (m n : ℕ) → (m < n) ⊎ (n ≤ m)
    by_order m n = go (nat_lt m n) refl
      where
        go : (b : Bool) → nat_lt m n ≡ b → (m < n) ⊎ (n ≤ m)
        go true e = inl (ltb-true m n e)
        go false e = inr (ltb-false m n e)

-- ---- brackets, commas, connectives

-- what is known behind a bracket that opens
record Opened (limit o a : ℕ) (gs : List Group) (nots : ℕ) (before rest : Terminals) : Type 0 where
  room : total o a gs + suc nots ≤ limit
  stands : Stands (terminal.Mark mark.Open ∷ before) (suc nots) 0 (group o a ∷ gs) 0
  within : Within limit (terminal.Mark mark.Open ∷ before) rest

opened : (limit o a : ℕ) (gs : List Group) (nots : ℕ) (before rest : Terminals) → groups before ≡ group o a ∷ gs → run_before before ≡ nots → Within limit before (terminal.Mark mark.Open ∷ rest) → Opened limit o a gs nots before rest
unfolding groups
opened limit o a gs nots before rest e r w =
    let next : groups (terminal.Mark mark.Open ∷ before) ≡ group (suc nots) 0 ∷ group o a ∷ gs = ap (λ n. group (suc n) 0 ∷ groups before) r ∙ ap (λ hs. group (suc nots) 0 ∷ hs) e in
    let here = level_is (terminal.Mark mark.Open) before (suc nots) 0 (group o a ∷ gs) 0 next refl in
    let sum = total_inner (suc nots) o a gs in
    let first = w.0 in
    record { room = omega arith; stands = record { open_groups = next; run_is = refl; before_is = refl }; within = w.1 }

-- behind a bracket that closes
closed : (limit o a p b : ℕ) (gs : List Group) (before rest : Terminals) → groups before ≡ group p b ∷ group o a ∷ gs → Within limit before (terminal.Mark mark.Close ∷ rest) → Ended limit o a gs rest
unfolding groups
closed limit o a p b gs before rest e w = record { before = terminal.Mark mark.Close ∷ before; open_groups = ap (λ hs. closing hs) e; within = w.1 }

-- behind a token that no not stands before, where these groups are open
record Behind (limit o a : ℕ) (gs : List Group) (t : Terminal) (before rest : Terminals) : Type 0 where
  room : total o a gs ≤ limit
  stands : Stands (t ∷ before) o a gs 0
  within : Within limit (t ∷ before) rest

behind : (limit o a : ℕ) (gs : List Group) (t : Terminal) (before rest : Terminals) → groups (t ∷ before) ≡ group o a ∷ gs → run (t ∷ before) ≡ 0 → run_before (t ∷ before) ≡ 0 → Within limit before (t ∷ rest) → Behind limit o a gs t before rest
behind limit o a gs t before rest next no_run none_before w =
    let here = level_is t before o a gs 0 next no_run in
    let first = w.0 in
    record { room = omega arith; stands = record { open_groups = next; run_is = no_run; before_is = none_before }; within = w.1 }

comma : (limit o a : ℕ) (gs : List Group) (before rest : Terminals) → groups before ≡ group o a ∷ gs → Within limit before (terminal.Mark mark.Comma ∷ rest) → Behind limit o 0 gs (terminal.Mark mark.Comma) before rest
unfolding groups
comma limit o a gs before rest e w = behind limit o 0 gs (terminal.Mark mark.Comma) before rest (ap (λ hs. going_on (terminal.Mark mark.Comma) hs) e) refl refl w

joins : (w : Word) → IsFlat (terminal.Word w) → ((before : Terminals) → run_before (terminal.Word w ∷ before) ≡ 0) → (limit o a : ℕ) (gs : List Group) (before rest : Terminals) → groups before ≡ group o a ∷ gs
    → Within limit before (terminal.Word w ∷ rest) → Behind limit o a gs (terminal.Word w) before rest
joins w f n limit o a gs before rest e h = behind limit o a gs (terminal.Word w) before rest (groups_step (terminal.Word w) before o a gs f e) (f.no_run before) (n before) h

points : (w : Word) → IsArrow w → (limit o a : ℕ) (gs : List Group) (before rest : Terminals) → groups before ≡ group o a ∷ gs → Within limit before (terminal.Word w ∷ rest) → Behind limit o (suc a) gs (terminal.Word w) before rest
unfolding groups
points w f limit o a gs before rest e h =
    let next : groups (terminal.Word w ∷ before) ≡ group o (suc a) ∷ gs =
    ap (λ c. changed c (run_before before) (terminal.Word w) (groups before)) f.inside ∙ ap (λ hs. going_on (terminal.Word w) hs) e ∙ ap (λ g. g ∷ gs) (f.more o a) in
    behind limit o (suc a) gs (terminal.Word w) before rest next (f.no_run before) (f.none_before before) h

-- ---- formulas

-- the level is within the limit, and some tokens stand behind which what comes next is
record Told (limit o a n : ℕ) (gs : List Group) (rest : Terminals) : Type 0 where
  level : total o a gs + n ≤ limit
  ended : Ended limit o a gs rest

-- the same, where arrows may have been added
record ToldWhole (limit o a n : ℕ) (gs : List Group) (rest : Terminals) : Type 0 where
  level : total o a gs + n ≤ limit
  arrows : ℕ
  ended : Ended limit o arrows gs rest

record Reached (f : Tree) (k : Terminals → Terminals) : Type 0 where
  whole : (limit o a : ℕ) (gs : List Group) (before rest : Terminals) → Stands before o a gs 0 → total o a gs ≤ limit → Within limit before (k rest) → ToldWhole limit o a (tree_level f) gs rest
  argument : (limit o a : ℕ) (gs : List Group) (nots : ℕ) (before rest : Terminals) → Stands before o a gs nots → total o a gs ≤ limit → Within limit before (bracketed (is_compound f) k rest)
      → Told limit o a (argument_level nots f (tree_level f)) gs rest

bare : (f : Tree) (k : Terminals → Terminals) → is_compound f ≡ false → argument_level 0 f (tree_level f) ≡ tree_level f
    → ((limit o a : ℕ) (gs : List Group) (nots : ℕ) (before rest : Terminals) → Stands before o a gs nots → total o a gs ≤ limit → Within limit before (k rest) → Told limit o a (argument_level nots f (tree_level f)) gs rest)
    → Reached f k
bare f k e same n = record {
  whole = λ limit o a gs before rest s le w. let told = n limit o a gs 0 before rest s le w in let l = told.level in record { level = omega arith; arrows = a; ended = told.ended };
  argument = λ limit o a gs nots before rest s le w. n limit o a gs nots before rest s le (subst (λ b. Within limit before (bracketed b k rest)) e w);
}

compound : (f : Tree) (k : Terminals → Terminals) → is_compound f ≡ true → ((nots : ℕ) → argument_level nots f (tree_level f) ≡ nots + suc (tree_level f))
    → ((limit o a : ℕ) (gs : List Group) (before rest : Terminals) → Stands before o a gs 0 → total o a gs ≤ limit → Within limit before (k rest) → ToldWhole limit o a (tree_level f) gs rest)
    → Reached f k
compound f k e same n = record {
  whole = n;
  argument = λ limit o a gs nots before rest s le w.
      let first = opened limit o a gs nots before (k (terminal.Mark mark.Close ∷ rest)) s.open_groups s.before_is (subst (λ b. Within limit before (bracketed b k rest)) e w) in
      let inner = total_inner (suc nots) o a gs in
      let more = first.room in
      let told = n limit (suc nots) 0 (group o a ∷ gs) (terminal.Mark mark.Open ∷ before) (terminal.Mark mark.Close ∷ rest) first.stands (omega arith) first.within in
      let room = same nots in
      let l = told.level in
      record { level = omega arith; ended = closed limit o a (suc nots) told.arrows gs told.ended.before rest told.ended.open_groups told.ended.within };
}

leaf : (f : Tree) (k : Terminals → Terminals) → is_compound f ≡ false → ((nots : ℕ) → argument_level nots f (tree_level f) ≡ 0) → tree_level f ≡ 0 → Flat k → Reached f k
leaf f k e flat zero_level x = bare f k e (flat 0 ∙ sym zero_level) (λ limit o a gs nots before rest s le w. let room = flat nots in record { level = omega arith; ended = x.passed limit o a gs before rest s.open_groups w })

module _ (names : List (List ℕ)) where
  atom_reached : (a : Atom) → Reached (One a) (atom_terminals names a)
  atom_reached (Compare r f) = leaf (One (Compare r f)) (atom_terminals names (Compare r f)) refl (λ nots. refl) refl
      (flat_both (sum_terminals names f.terms f.constant) (λ ts. terminal.Relation (relation_sign r) ∷ number 0 ∷ ts) (sum_flat names f.terms f.constant)
      (flat_both (λ ts. terminal.Relation (relation_sign r) ∷ ts) (λ ts. number 0 ∷ ts) (flat_token (terminal.Relation (relation_sign r)) (record { inside = refl; same = λ o a. refl; no_run = λ before. refl })) (number_flat 0)))
  atom_reached (Congruent b m f) = bare (One (Congruent b m f)) (atom_terminals names (Congruent b m f)) refl refl reached
    where
      reached : (limit o a : ℕ) (gs : List Group) (nots : ℕ) (before rest : Terminals) → Stands before o a gs nots → total o a gs ≤ limit → Within limit before (atom_terminals names (Congruent b m f) rest) → Told limit o a 1 gs rest
      reached limit o a gs nots before rest s le w =
          let hs : List Group = group o a ∷ gs in
          let r1 : Terminals = number m ∷ terminal.Mark mark.Close ∷ rest in
          let r2 : Terminals = number 0 ∷ terminal.Mark mark.Comma ∷ r1 in
          let r3 : Terminals = sum_terminals names f.terms f.constant (terminal.Mark mark.Comma ∷ r2) in
          let named = joins (congruence_word b) (congruence_is_flat b) (none_before_congruence b) limit o a gs before (terminal.Mark mark.Open ∷ r3) s.open_groups w in
          let open_mark = opened limit o a gs 0 (terminal.Word (congruence_word b) ∷ before) r3 named.stands.open_groups named.stands.before_is named.within in
          let sum = (sum_flat names f.terms f.constant).passed limit 1 0 hs (terminal.Mark mark.Open ∷ terminal.Word (congruence_word b) ∷ before) (terminal.Mark mark.Comma ∷ r2) open_mark.stands.open_groups open_mark.within in
          let first = comma limit 1 0 hs sum.before r2 sum.open_groups sum.within in
          let nought = (number_flat 0).passed limit 1 0 hs (terminal.Mark mark.Comma ∷ sum.before) (terminal.Mark mark.Comma ∷ r1) first.stands.open_groups first.within in
          let second = comma limit 1 0 hs nought.before r1 nought.open_groups nought.within in
          let modulus = (number_flat m).passed limit 1 0 hs (terminal.Mark mark.Comma ∷ nought.before) (terminal.Mark mark.Close ∷ rest) second.stands.open_groups second.within in
          let room = open_mark.room in
          record { level = omega arith; ended = closed limit o a 1 0 gs modulus.before rest modulus.open_groups modulus.within }

quantified : (w : Word) → IsFlat (terminal.Word w) → ((before : Terminals) → run_before (terminal.Word w ∷ before) ≡ run before) → (f : Tree) (x : List ℕ) (k : Terminals → Terminals) → Reached f k
    → (limit o a : ℕ) (gs : List Group) (nots : ℕ) (before rest : Terminals) → Stands before o a gs nots → total o a gs ≤ limit
    → Within limit before (terminal.Word w ∷ terminal.Mark mark.Open ∷ terminal.Name x ∷ terminal.Mark mark.Comma ∷ k (terminal.Mark mark.Close ∷ rest)) → Told limit o a (nots + suc (tree_level f)) gs rest
quantified w flat binds f x k part limit o a gs nots before rest s le h =
    let hs : List Group = group o a ∷ gs in
    let next = groups_step (terminal.Word w) before o a gs flat s.open_groups in
    let open_mark = opened limit o a gs nots (terminal.Word w ∷ before) (terminal.Name x ∷ terminal.Mark mark.Comma ∷ k (terminal.Mark mark.Close ∷ rest)) next (binds before ∙ s.run_is) h.1 in
    let name = (name_flat x).passed limit (suc nots) 0 hs (terminal.Mark mark.Open ∷ terminal.Word w ∷ before) (terminal.Mark mark.Comma ∷ k (terminal.Mark mark.Close ∷ rest)) open_mark.stands.open_groups open_mark.within in
    let first = comma limit (suc nots) 0 hs name.before (k (terminal.Mark mark.Close ∷ rest)) name.open_groups name.within in
    let told = part.whole limit (suc nots) 0 hs (terminal.Mark mark.Comma ∷ name.before) (terminal.Mark mark.Close ∷ rest) first.stands first.room first.within in
    let inner = total_inner (suc nots) o a gs in
    let l = told.level in
    record { level = omega arith; ended = closed limit o a (suc nots) told.arrows gs told.ended.before rest told.ended.open_groups told.ended.within }

pointed : (w : Word) → IsArrow w → (f g : Tree) (k l : Terminals → Terminals) → Reached f k → Reached g l
    → (limit o a : ℕ) (gs : List Group) (before rest : Terminals) → Stands before o a gs 0 → total o a gs ≤ limit → Within limit before (bracketed (is_compound f) k (terminal.Word w ∷ bracketed (is_compound g) l rest))
    → ToldWhole limit o a (max (argument_level 0 f (tree_level f)) (suc (argument_level 0 g (tree_level g)))) gs rest
pointed w arrow f g k l left right limit o a gs before rest s le h =
    let first = left.argument limit o a gs 0 before (terminal.Word w ∷ bracketed (is_compound g) l rest) s le h in
    let sign = points w arrow limit o a gs first.ended.before (bracketed (is_compound g) l rest) first.ended.open_groups first.ended.within in
    let second = right.argument limit o (suc a) gs 0 (terminal.Word w ∷ first.ended.before) rest sign.stands sign.room sign.within in
    let m = first.level in
    let n = second.level in
    record { level = omega arith; arrows = suc a; ended = second.ended }

negated : (f : Tree) (k : Terminals → Terminals) → Reached f k
    → (limit o a : ℕ) (gs : List Group) (before rest : Terminals) → Stands before o a gs 0 → total o a gs ≤ limit → Within limit before (terminal.Word word.Not ∷ bracketed (is_compound f) k rest)
    → ToldWhole limit o a (max 1 (argument_level 1 f (tree_level f))) gs rest
unfolding groups
negated f k part limit o a gs before rest s le h =
    let next : groups (terminal.Word word.Not ∷ before) ≡ group o a ∷ gs = ap (λ hs. going_on (terminal.Word word.Not) hs) s.open_groups in
    let one : run (terminal.Word word.Not ∷ before) ≡ 1 = ap suc s.run_is in
    let here = level_is (terminal.Word word.Not) before o a gs 1 next one in
    let first = h.0 in
    let told = part.argument limit o a gs 1 (terminal.Word word.Not ∷ before) rest (record { open_groups = next; run_is = one; before_is = one }) le h.1 in
    let l = told.level in
    record { level = omega arith; arrows = a; ended = told.ended }

as_whole : (limit o a n : ℕ) (gs : List Group) (rest : Terminals) → Told limit o a n gs rest → ToldWhole limit o a n gs rest
as_whole limit o a n gs rest t = record { level = t.level; arrows = a; ended = t.ended }

module _ (names : List (List ℕ)) where
  abbrev printed : Tree → Terminals → Terminals
  printed f = tree_terminals names f

  mutual
    reached : (f : Tree) → Reached f (printed f)
    reached Yes = leaf Yes (printed Yes) refl (λ nots. refl) refl truth_flat
    reached No = leaf No (printed No) refl (λ nots. refl) refl falsity_flat
    reached (One a) = atom_reached names a
    reached (Not f) = let k = reached f in compound (Not f) (printed (Not f)) refl (λ nots. refl) (negated f (printed f) k)
    reached (And fs) = compound (And fs) (printed (And fs)) refl (λ nots. refl) (λ limit o a gs before rest s le w. as_whole limit o a (members_level fs) gs rest (members_reached word.And and_flat (λ b. refl) fs limit o a gs before rest s le w))
    reached (Or fs) = compound (Or fs) (printed (Or fs)) refl (λ nots. refl) (λ limit o a gs before rest s le w. as_whole limit o a (members_level fs) gs rest (members_reached word.Or or_flat (λ b. refl) fs limit o a gs before rest s le w))
    reached (Impl f g) = let k = reached f in let l = reached g in compound (Impl f g) (printed (Impl f g)) refl (λ nots. refl) (pointed word.Impl arrow_impl f g (printed f) (printed g) k l)
    reached (Repl f g) = let k = reached f in let l = reached g in compound (Repl f g) (printed (Repl f g)) refl (λ nots. refl) (pointed word.Repl arrow_repl f g (printed f) (printed g) k l)
    reached (Equiv f g) = let k = reached f in let l = reached g in compound (Equiv f g) (printed (Equiv f g)) refl (λ nots. refl) (pointed word.Equiv arrow_equiv f g (printed f) (printed g) k l)
    reached (Ex x f) = let k = reached f in bare (Ex x f) (printed (Ex x f)) refl (omega arith) (quantified word.Ex ex_flat (λ b. refl) f (name_at names x) (printed f) k)
    reached (All x f) = let k = reached f in bare (All x f) (printed (All x f)) refl (omega arith) (quantified word.All all_flat (λ b. refl) f (name_at names x) (printed f) k)

    members_reached : (w : Word) → IsFlat (terminal.Word w) → ((before : Terminals) → run_before (terminal.Word w ∷ before) ≡ 0) → (fs : Trees) (limit o a : ℕ) (gs : List Group) (before rest : Terminals)
        → Stands before o a gs 0 → total o a gs ≤ limit → Within limit before (members_terminals names w fs rest) → Told limit o a (members_level fs) gs rest
    members_reached w flat n none limit o a gs before rest s le h = record { level = omega arith; ended = record { before = before; open_groups = s.open_groups; within = h } }
    members_reached w flat n (also f fs) limit o a gs before rest s le h =
        let k = reached f in
        let first = k.argument limit o a gs 0 before (more_terminals names w fs rest) s le h in
        let others = more_reached w flat n fs limit o a gs first.ended.before rest first.ended.open_groups le first.ended.within in
        let l = first.level in
        let m = others.level in
        record { level = omega arith; ended = others.ended }

    more_reached : (w : Word) → IsFlat (terminal.Word w) → ((before : Terminals) → run_before (terminal.Word w ∷ before) ≡ 0) → (fs : Trees) (limit o a : ℕ) (gs : List Group) (before rest : Terminals)
        → groups before ≡ group o a ∷ gs → total o a gs ≤ limit → Within limit before (more_terminals names w fs rest) → Told limit o a (members_level fs) gs rest
    more_reached w flat n none limit o a gs before rest e le h = record { level = omega arith; ended = record { before = before; open_groups = e; within = h } }
    more_reached w flat n (also f fs) limit o a gs before rest e le h =
        let k = reached f in
        let sign = joins w flat n limit o a gs before (bracketed (is_compound f) (printed f) (more_terminals names w fs rest)) e h in
        let first = k.argument limit o a gs 0 (terminal.Word w ∷ before) (more_terminals names w fs rest) sign.stands le sign.within in
        let others = more_reached w flat n fs limit o a gs first.ended.before rest first.ended.open_groups le first.ended.within in
        let l = first.level in
        let m = others.level in
        record { level = omega arith; ended = others.ended }

-- a line whose tree has a level past the limit has a token past it
pub line_deep : (names : List (List ℕ)) (f : Tree) → 512 < tree_level f → Passes 512 [] (line_terminals names f)
line_deep names f deep = ⊎_elim shallow (λ p. p) (within_or_passes 512 [] (line_terminals names f))
  where
    shallow : Within 512 [] (line_terminals names f) → Passes 512 [] (line_terminals names f)
    shallow w =
        let k = reached names f in
        let none : sum_by weight [] ≡ 0 = refl in
        let told = k.whole 512 0 0 [] [] (terminal.Mark mark.Semicolon ∷ []) outermost (omega arith) w in
        let l = told.level in
        absurd (omega arith)
