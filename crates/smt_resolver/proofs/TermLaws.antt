-- What is read of terms, from what is read of their parts.
use Rattle.std.proofs.Common.{◌≡◌, ◌<◌, ◌≤◌, ◌+◌, ℕ, suc, Bool, true, false, List, [], ◌∷◌, ◌++◌, map, refl, ap, sym, ◌∙◌, subst, arith, IsTrue}
use Rattle.std.specs.Prelude.{pos}
use Rattle.logic_meaning.specs.Context.{Context}
use Rattle.language_meaning.specs.declared.tree.Literal.{Literal}
use Rattle.language_meaning.specs.declared.tree.Literal.TheVariants.{Fits}
use Rattle.language_meaning.specs.Trees.{TermTree, Number, Named, Sum, Product, Quotient, Negative, terms_of}
use Rattle.language_meaning.specs.Resolving.{variables_of, variables_in}
use Rattle.logic_meaning.specs.Names.{place}
use Rattle.written_atoms.specs.Term.{IsTermRead, IsOpposite, IsOver, IsTimes, IsNoSum, IsSumPlus, IsWholeSum}
use Rattle.written_atoms.specs.declared.term.ReadTerm.{ReadTerm}
use Rattle.written_atoms.specs.declared.term.ReadSum.{ReadSum}
use Rattle.written_atoms.proofs.Readings.{SumLeft, ProductLeft, negative_read, quotient_read, sum_begun, sum_more, sum_whole, product_begins, product_goes_on, product_ends}
use Rattle.smt_language.specs.Levels.{level, levels}
use Rattle.smt_meaning.specs.LevelsBelow.{IsLevelBelow, AreLevelsBelow}
use Rattle.smt_language.specs.Nodes.{term_nodes, terms_nodes}
use Rattle.smt_meaning.proofs.Levels.{all_first, all_second, level_alone}
use Rattle.smt_resolver.specs.declared.sized.Sized.{Sized}
use Rattle.smt_resolver.specs.declared.sized.Sized.TheVariants.{Within, TooLarge}
use Rattle.smt_resolver.specs.Values.{IsLevelTerm, IsTermValue, AreTermValues}
use Rattle.smt_resolver.proofs.Lists.{First, each_first, each_none, each_more}

-- ---- single terms

module _ (c : Context) where
  pub level_numeral : (k : Literal) (r : ReadTerm) → ((number : List ℕ → ℕ) → IsTermRead c number (Number k) r) → IsLevelTerm c (Number k) r
  level_numeral k r h = record { read = λ n b. h (place (levels n)) }

  pub level_variable : (k : ℕ) (r : ReadTerm) → ((number : List ℕ → ℕ) (x : List ℕ) → number x ≡ k → IsTermRead c number (Named x) r) → IsLevelTerm c (Named (level k)) r
  level_variable k r h = record { read = λ n b. h (place (levels n)) (level k) (level_alone n k b) }

  pub level_copy : (t : TermTree) (a r : ReadTerm) → ((number : List ℕ → ℕ) (t : TermTree) → IsTermRead c number t a → IsTermRead c number t r) → IsLevelTerm c t a → IsLevelTerm c t r
  level_copy t a r h l = record { read = λ n b. h (place (levels n)) t (l.read n b) }

  pub level_negative : (t : TermTree) (a r : ReadTerm) → IsLevelTerm c t a → IsOpposite a r → IsLevelTerm c (Negative t) r
  level_negative t a r l o = record { read = λ n b. negative_read c (place (levels n)) t a r (l.read n b) o }

  pub level_quotient : (s t : TermTree) (a b r : ReadTerm) → IsLevelTerm c s a → IsLevelTerm c t b → IsOver c a b r → IsLevelTerm c (Quotient s t) r
  level_quotient s t a b r k l o = record {
    read = λ n h. quotient_read c (place (levels n)) s t a b r (k.read n (all_first (IsLevelBelow n) (variables_of s) (variables_of t) h)) (l.read n (all_second (IsLevelBelow n) (variables_of s) (variables_of t) h)) o;
  }

-- ---- sums

module _ (c : Context) (limit : ℕ) (all : List TermTree) where
  -- what was read of the first members, with the members that are left
  pub record SumState (vs : List (Sized ReadTerm)) (nodes : ℕ) (total : ReadSum) : Type 0 where
    pub rest : List TermTree
    pub values : AreTermValues c limit rest vs
    pub counted : nodes + terms_nodes (terms_of rest) ≡ suc (terms_nodes (terms_of all))
    pub left : (n : ℕ) → AreLevelsBelow n (variables_in (terms_of all)) → SumLeft c (place (levels n)) (terms_of all) (terms_of rest) total.total total.nonlinear total.division
    pub below : (n : ℕ) → AreLevelsBelow n (variables_in (terms_of all)) → AreLevelsBelow n (variables_in (terms_of rest))

  pub sum_state : (vs : List (Sized ReadTerm)) (nodes : ℕ) (total : ReadSum) → AreTermValues c limit all vs → nodes ≡ 1 → IsNoSum total → SumState vs nodes total
  sum_state vs nodes total h e s = record {
    rest = all;
    values = h;
    counted = omega arith;
    left = λ n b. sum_begun c (place (levels n)) (terms_of all) total s;
    below = λ n b. b;
  }

  pub sum_step : (vs : List (Sized ReadTerm)) (nodes next more : ℕ) (total new : ReadSum) (part : ReadTerm) → SumState (Within more part ∷ vs) nodes total → next ≡ nodes + more → IsSumPlus total part new → SumState vs next new
  sum_step vs nodes next more total new part s e p =
      let f : First (IsTermValue c limit) s.rest (Within more part) vs = each_first (IsTermValue c limit) s.rest (Within more part) vs s.values in
      let k : more ≡ term_nodes f.head = f.first.0 in
      let count : nodes + (term_nodes f.head + terms_nodes (terms_of f.tail)) ≡ suc (terms_nodes (terms_of all)) = subst (λ r. nodes + terms_nodes (terms_of r) ≡ suc (terms_nodes (terms_of all))) f.is s.counted in
      let under : (n : ℕ) → AreLevelsBelow n (variables_in (terms_of all)) → AreLevelsBelow n (variables_of f.head ++ variables_in (terms_of f.tail)) = λ n b. subst (λ r. AreLevelsBelow n (variables_in (terms_of r))) f.is (s.below n b) in
      record {
        rest = f.tail;
        values = f.others;
        counted = omega arith;
        left = λ n b. sum_more c (place (levels n)) (terms_of all) (terms_of f.tail) f.head total new part
            (subst (λ r. SumLeft c (place (levels n)) (terms_of all) (terms_of r) total.total total.nonlinear total.division) f.is (s.left n b))
            (f.first.2.read n (all_first (IsLevelBelow n) (variables_of f.head) (variables_in (terms_of f.tail)) (under n b))) p;
        below = λ n b. all_second (IsLevelBelow n) (variables_of f.head) (variables_in (terms_of f.tail)) (under n b);
      }

  pub sum_large : (vs : List (Sized ReadTerm)) (nodes : ℕ) (total : ReadSum) → SumState (TooLarge ∷ vs) nodes total → limit < term_nodes (Sum (terms_of all))
  sum_large vs nodes total s =
      let f : First (IsTermValue c limit) s.rest TooLarge vs = each_first (IsTermValue c limit) s.rest TooLarge vs s.values in
      let k : limit < term_nodes f.head = f.first in
      let count : nodes + (term_nodes f.head + terms_nodes (terms_of f.tail)) ≡ suc (terms_nodes (terms_of all)) = subst (λ r. nodes + terms_nodes (terms_of r) ≡ suc (terms_nodes (terms_of all))) f.is s.counted in
      omega arith

  pub sum_passes : (vs : List (Sized ReadTerm)) (nodes more : ℕ) (total : ReadSum) (part : ReadTerm) → SumState (Within more part ∷ vs) nodes total → limit < nodes + more → limit < term_nodes (Sum (terms_of all))
  sum_passes vs nodes more total part s l =
      let f : First (IsTermValue c limit) s.rest (Within more part) vs = each_first (IsTermValue c limit) s.rest (Within more part) vs s.values in
      let k : more ≡ term_nodes f.head = f.first.0 in
      let count : nodes + (term_nodes f.head + terms_nodes (terms_of f.tail)) ≡ suc (terms_nodes (terms_of all)) = subst (λ r. nodes + terms_nodes (terms_of r) ≡ suc (terms_nodes (terms_of all))) f.is s.counted in
      omega arith

  pub sum_done : (nodes : ℕ) (total : ReadSum) (r : ReadTerm) → SumState [] nodes total → nodes ≤ limit → IsWholeSum total r → IsTermValue c limit (Sum (terms_of all)) (Within nodes r)
  sum_done nodes total r s l w =
      let e : s.rest ≡ [] = each_none (IsTermValue c limit) s.rest s.values in
      let count : nodes + 0 ≡ suc (terms_nodes (terms_of all)) = subst (λ r. nodes + terms_nodes (terms_of r) ≡ suc (terms_nodes (terms_of all))) e s.counted in (
        omega arith,
        l,
        record { read = λ n b. sum_whole c (place (levels n)) (terms_of all) total r (subst (λ r. SumLeft c (place (levels n)) (terms_of all) (terms_of r) total.total total.nonlinear total.division) e (s.left n b)) w },
      )

-- ---- products

no_true : (b : Bool) → (IsTrue b → ⊥) → b ≡ false
no_true true h = absurd (h refl)
no_true false h = refl

module _ (c : Context) (limit : ℕ) (all : List TermTree) where
  -- the same of a product
  pub record ProductState (vs : List (Sized ReadTerm)) (nodes : ℕ) (total : ReadTerm) : Type 0 where
    pub rest : List TermTree
    pub values : AreTermValues c limit rest vs
    pub counted : nodes + terms_nodes (terms_of rest) ≡ suc (terms_nodes (terms_of all))
    pub left : (n : ℕ) → AreLevelsBelow n (variables_in (terms_of all)) → ProductLeft c (place (levels n)) (terms_of all) (terms_of rest) total
    pub below : (n : ℕ) → AreLevelsBelow n (variables_in (terms_of all)) → AreLevelsBelow n (variables_in (terms_of rest))

  pub product_state : (vs : List (Sized ReadTerm)) (nodes : ℕ) (total : ReadTerm) → AreTermValues c limit all vs → nodes ≡ 1 → ((number : List ℕ → ℕ) → IsTermRead c number (Number (Fits (pos 1))) total) → ProductState vs nodes total
  product_state vs nodes total h e s = record {
    rest = all;
    values = h;
    counted = omega arith;
    left = λ n b. let r = s (place (levels n)) in product_begins c (place (levels n)) (terms_of all) total r.form (no_true total.nonlinear r.nonlinear.0) (no_true total.division r.division.0);
    below = λ n b. b;
  }

  pub product_step : (vs : List (Sized ReadTerm)) (nodes next more : ℕ) (total new part : ReadTerm) → ProductState (Within more part ∷ vs) nodes total → next ≡ nodes + more → IsTimes total part new → ProductState vs next new
  product_step vs nodes next more total new part s e p =
      let f : First (IsTermValue c limit) s.rest (Within more part) vs = each_first (IsTermValue c limit) s.rest (Within more part) vs s.values in
      let k : more ≡ term_nodes f.head = f.first.0 in
      let count : nodes + (term_nodes f.head + terms_nodes (terms_of f.tail)) ≡ suc (terms_nodes (terms_of all)) = subst (λ r. nodes + terms_nodes (terms_of r) ≡ suc (terms_nodes (terms_of all))) f.is s.counted in
      let under : (n : ℕ) → AreLevelsBelow n (variables_in (terms_of all)) → AreLevelsBelow n (variables_of f.head ++ variables_in (terms_of f.tail)) = λ n b. subst (λ r. AreLevelsBelow n (variables_in (terms_of r))) f.is (s.below n b) in
      record {
        rest = f.tail;
        values = f.others;
        counted = omega arith;
        left = λ n b. product_goes_on c (place (levels n)) (terms_of all) (terms_of f.tail) f.head total part new
            (subst (λ r. ProductLeft c (place (levels n)) (terms_of all) (terms_of r) total) f.is (s.left n b))
            (f.first.2.read n (all_first (IsLevelBelow n) (variables_of f.head) (variables_in (terms_of f.tail)) (under n b))) p;
        below = λ n b. all_second (IsLevelBelow n) (variables_of f.head) (variables_in (terms_of f.tail)) (under n b);
      }

  pub product_large : (vs : List (Sized ReadTerm)) (nodes : ℕ) (total : ReadTerm) → ProductState (TooLarge ∷ vs) nodes total → limit < term_nodes (Product (terms_of all))
  product_large vs nodes total s =
      let f : First (IsTermValue c limit) s.rest TooLarge vs = each_first (IsTermValue c limit) s.rest TooLarge vs s.values in
      let k : limit < term_nodes f.head = f.first in
      let count : nodes + (term_nodes f.head + terms_nodes (terms_of f.tail)) ≡ suc (terms_nodes (terms_of all)) = subst (λ r. nodes + terms_nodes (terms_of r) ≡ suc (terms_nodes (terms_of all))) f.is s.counted in
      omega arith

  pub product_passes : (vs : List (Sized ReadTerm)) (nodes more : ℕ) (total part : ReadTerm) → ProductState (Within more part ∷ vs) nodes total → limit < nodes + more → limit < term_nodes (Product (terms_of all))
  product_passes vs nodes more total part s l =
      let f : First (IsTermValue c limit) s.rest (Within more part) vs = each_first (IsTermValue c limit) s.rest (Within more part) vs s.values in
      let k : more ≡ term_nodes f.head = f.first.0 in
      let count : nodes + (term_nodes f.head + terms_nodes (terms_of f.tail)) ≡ suc (terms_nodes (terms_of all)) = subst (λ r. nodes + terms_nodes (terms_of r) ≡ suc (terms_nodes (terms_of all))) f.is s.counted in
      omega arith

  pub product_done : (nodes : ℕ) (total : ReadTerm) → ProductState [] nodes total → nodes ≤ limit → IsTermValue c limit (Product (terms_of all)) (Within nodes total)
  product_done nodes total s l =
      let e : s.rest ≡ [] = each_none (IsTermValue c limit) s.rest s.values in
      let count : nodes + 0 ≡ suc (terms_nodes (terms_of all)) = subst (λ r. nodes + terms_nodes (terms_of r) ≡ suc (terms_nodes (terms_of all))) e s.counted in (
        omega arith,
        l,
        record { read = λ n b. product_ends c (place (levels n)) (terms_of all) total (subst (λ r. ProductLeft c (place (levels n)) (terms_of all) (terms_of r) total) e (s.left n b)) },
      )

-- ---- differences

module _ (c : Context) (limit : ℕ) (t : TermTree) (all : List TermTree) where
  -- the members so far, and those that are left
  pub record DifferenceState (terms vs : List (Sized ReadTerm)) : Type 0 where
    pub done : List TermTree
    pub rest : List TermTree
    pub parts : done ++ rest ≡ all
    pub ready : AreTermValues c limit (t ∷ map Negative done) terms
    pub values : AreTermValues c limit rest vs

  map_more : (xs : List TermTree) (x : TermTree) → map Negative (xs ++ x ∷ []) ≡ map Negative xs ++ Negative x ∷ []
  map_more [] x = refl
  map_more (y ∷ ys) x = ap (λ zs. Negative y ∷ zs) (map_more ys x)

  append_one : (xs : List TermTree) (y : TermTree) (ys : List TermTree) → (xs ++ y ∷ []) ++ ys ≡ xs ++ (y ∷ ys)
  append_one [] y ys = refl
  append_one (x ∷ xs) y ys = ap (λ zs. x ∷ zs) (append_one xs y ys)

  append_none : (xs : List TermTree) → xs ++ [] ≡ xs
  append_none [] = refl
  append_none (x ∷ xs) = ap (λ zs. x ∷ zs) (append_none xs)

  pub difference_step : (terms more vs : List (Sized ReadTerm)) (v w : Sized ReadTerm) → DifferenceState terms (v ∷ vs) → ((s : TermTree) → IsTermValue c limit s v → IsTermValue c limit (Negative s) w) → more ≡ terms ++ w ∷ [] → DifferenceState more vs
  difference_step terms more vs v w s h e =
      let f : First (IsTermValue c limit) s.rest v vs = each_first (IsTermValue c limit) s.rest v vs s.values in
      let longer = each_more (IsTermValue c limit) (t ∷ map Negative s.done) (Negative f.head) terms w s.ready (h f.head f.first) in
      record {
        done = s.done ++ f.head ∷ [];
        rest = f.tail;
        parts = append_one s.done f.head f.tail ∙ ap (λ r. s.done ++ r) (sym f.is) ∙ s.parts;
        ready = subst (λ xs. AreTermValues c limit (t ∷ map Negative (s.done ++ f.head ∷ [])) xs) (sym e) (subst (λ ys. AreTermValues c limit (t ∷ ys) (terms ++ w ∷ [])) (sym (map_more s.done f.head)) longer);
        values = f.others;
      }

  pub difference_done : (terms : List (Sized ReadTerm)) → DifferenceState terms [] → AreTermValues c limit (t ∷ map Negative all) terms
  difference_done terms s =
      let e : s.rest ≡ [] = each_none (IsTermValue c limit) s.rest s.values in
      let d : s.done ≡ all = sym (append_none s.done) ∙ ap (λ r. s.done ++ r) (sym e) ∙ s.parts in
      subst (λ ds. AreTermValues c limit (t ∷ map Negative ds) terms) d s.ready
