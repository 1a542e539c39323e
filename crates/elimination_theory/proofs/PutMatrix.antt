-- The matrix of a formula with a point put in, at points that differ from it in the leading names alone.
use Rattle.std.proofs.Common.{◌≡◌, ℕ, ◌*◌, Bool, true, false, List, [], ◌∷◌, refl, sym, ap, ◌∙◌, subst, arith, ◌↔◌, nat_eq, if◌then◌else◌}
use Rattle.std.proofs.Math.IntN.{ℤ, pos, ◌*ℤ◌}
use Rattle.std.specs.Prelude.{◌<ℤ◌}
use Rattle.std.proofs.lemmas.Int.{ints}
use Rattle.exact_numbers.proofs.Ring.{ring}
use Rattle.exact_numbers.proofs.Order.{cancel_positive}
use Rattle.logic_meaning.specs.Context.{Context}
use Rattle.logic_meaning.specs.Point.{Point, Of, move}
use Rattle.logic_meaning.specs.Formula.{Yes, No, One, Not, And, Or, Impl, Repl, Equiv, Ex, All, none, also}
use Rattle.logic_meaning.specs.Every.{Every}
use Rattle.logic_meaning.specs.Shape.{is_in, matrix_of, block_of}
use Rattle.logic_meaning.specs.Plain.{IsAtomic, IsNegationNormal, AreNegationNormal}
use Rattle.logic_meaning.specs.declared.quantifier.Quantifier.{Quantifier}
use Rattle.logic_meaning.specs.declared.quantifier.Quantifier.TheVariants.{Exists, ForAll}
use Rattle.logic_meaning.specs.NegationNormal.{normal_form_of_not, normal_forms}
use Rattle.logic_meaning.specs.Atom.{Atom}
use Rattle.formula_laws.specs.TheoryAtoms.{AtomIn}
use Rattle.logic_meaning.specs.Tree.{Tree, Trees, TrueAt}
use Rattle.formula_laws.specs.Equivalence.{InContext}
use Rattle.formula_laws.proofs.Iff.{both_ways, turn_round, not_iff}
use Rattle.formula_laws.proofs.TreeFiner.{allowed_positive}
use Rattle.formula_laws.proofs.Values.{pos_mul}
use Rattle.logic_meaning.specs.Answers.{Step}
use Rattle.logic_meaning.specs.NormalForm.{normal_atom, negated_normal}
use Rattle.normal_atoms.proofs.NormalLaws.{normal_atomic}
use Rattle.logic_meaning.specs.Reference.{normal_tree, turned}
use Rattle.logic_meaning.specs.Cases.{case_sign}
use Rattle.logic_meaning.specs.PutIn.{atom_put, tree_put, trees_put}
use Rattle.elimination_theory.specs.Sampled.{IsSampled}
use Rattle.elimination_theory.proofs.Turning.{normal_truths}
use Rattle.elimination_theory.proofs.Branches.{step_names}
use Rattle.elimination_theory.proofs.PutIn.{put_true, not_both, turn_equal}

-- ---- constants and atoms

atomic_matrix : (f : Tree) (k : Quantifier) (chain : List ℕ) → IsAtomic f → matrix_of nat_eq f k chain ≡ f
atomic_matrix Yes k chain h = refl
atomic_matrix No k chain h = refl
atomic_matrix (One a) k chain h = refl
atomic_matrix (Not f) k chain h = absurd h
atomic_matrix (And fs) k chain h = absurd h
atomic_matrix (Or fs) k chain h = absurd h
atomic_matrix (Impl f g) k chain h = absurd h
atomic_matrix (Repl f g) k chain h = absurd h
atomic_matrix (Equiv f g) k chain h = absurd h
atomic_matrix (Ex x f) k chain h = absurd h
atomic_matrix (All x f) k chain h = absurd h

pub atomic_block : (f : Tree) (k : Quantifier) (chain : List ℕ) → IsAtomic f → block_of nat_eq f k chain ≡ []
atomic_block Yes k chain h = refl
atomic_block No k chain h = refl
atomic_block (One a) k chain h = refl
atomic_block (Not f) k chain h = absurd h
atomic_block (And fs) k chain h = absurd h
atomic_block (Or fs) k chain h = absurd h
atomic_block (Impl f g) k chain h = absurd h
atomic_block (Repl f g) k chain h = absurd h
atomic_block (Equiv f g) k chain h = absurd h
atomic_block (Ex x f) k chain h = absurd h
atomic_block (All x f) k chain h = absurd h

atomic_shape : (f : Tree) → IsAtomic f → IsNegationNormal f × (case_sign f ≡ true)
atomic_shape Yes h = (tt, refl)
atomic_shape No h = (tt, refl)
atomic_shape (One a) h = (tt, refl)
atomic_shape (Not f) h = absurd h
atomic_shape (And fs) h = absurd h
atomic_shape (Or fs) h = absurd h
atomic_shape (Impl f g) h = absurd h
atomic_shape (Repl f g) h = absurd h
atomic_shape (Equiv f g) h = absurd h
atomic_shape (Ex x f) h = absurd h
atomic_shape (All x f) h = absurd h

-- ---- negation normal form

mutual
  pub normal_stays : (f : Tree) → IsNegationNormal f → normal_tree f ≡ f
  normal_stays Yes h = refl
  normal_stays No h = refl
  normal_stays (One a) h = refl
  normal_stays (Not f) h = absurd h
  normal_stays (And fs) h = ap (λ gs. let g : Tree = And gs in g) (all_normal_stay fs h)
  normal_stays (Or fs) h = ap (λ gs. let g : Tree = Or gs in g) (all_normal_stay fs h)
  normal_stays (Impl f g) h = absurd h
  normal_stays (Repl f g) h = absurd h
  normal_stays (Equiv f g) h = absurd h
  normal_stays (Ex x f) h = ap (Ex x) (normal_stays f h)
  normal_stays (All x f) h = ap (All x) (normal_stays f h)

  all_normal_stay : (fs : Trees) → AreNegationNormal fs → normal_forms negated_normal fs ≡ fs
  all_normal_stay none h = refl
  all_normal_stay (also f fs) h = let i = normal_stays f h.0 in let j = all_normal_stay fs h.1 in subst (λ (g : Tree). also (normal_tree f) (normal_forms negated_normal fs) ≡ also g fs) i (ap (also (normal_tree f)) j)

-- the matrix of the negation is the negation of that behind the other quantifier
pub matrix_turned : (f : Tree) (chain : List ℕ) → IsNegationNormal f → matrix_of nat_eq (normal_form_of_not negated_normal f) Exists chain ≡ normal_form_of_not negated_normal (matrix_of nat_eq f ForAll chain)
matrix_turned Yes chain h = refl
matrix_turned No chain h = refl
matrix_turned (One a) chain h = refl
matrix_turned (Not f) chain h = absurd h
matrix_turned (And fs) chain h = refl
matrix_turned (Or fs) chain h = refl
matrix_turned (Impl f g) chain h = absurd h
matrix_turned (Repl f g) chain h = absurd h
matrix_turned (Equiv f g) chain h = absurd h
matrix_turned (Ex x f) chain h = refl
matrix_turned (All x f) chain h = go (is_in nat_eq x chain) (matrix_turned f (x ∷ chain) h)
  where
    go : (b : Bool) → matrix_of nat_eq (normal_form_of_not negated_normal f) Exists (x ∷ chain) ≡ normal_form_of_not negated_normal (matrix_of nat_eq f ForAll (x ∷ chain)) →
        (if b then Ex x (normal_form_of_not negated_normal f) else matrix_of nat_eq (normal_form_of_not negated_normal f) Exists (x ∷ chain))
        ≡ normal_form_of_not negated_normal (if b then All x f else matrix_of nat_eq f ForAll (x ∷ chain))
    go true e = refl
    go false e = e

pub block_turned : (f : Tree) (chain : List ℕ) → IsNegationNormal f → block_of nat_eq (normal_form_of_not negated_normal f) Exists chain ≡ block_of nat_eq f ForAll chain
block_turned Yes chain h = refl
block_turned No chain h = refl
block_turned (One a) chain h = refl
block_turned (Not f) chain h = absurd h
block_turned (And fs) chain h = refl
block_turned (Or fs) chain h = refl
block_turned (Impl f g) chain h = absurd h
block_turned (Repl f g) chain h = absurd h
block_turned (Equiv f g) chain h = absurd h
block_turned (Ex x f) chain h = refl
block_turned (All x f) chain h = ap (λ ns. if is_in nat_eq x chain then [] else x ∷ ns) (block_turned f (x ∷ chain) h)

pub every_matrix : (P : Atom → Type 0) (f : Tree) (k : Quantifier) (chain : List ℕ) → Every P f → Every P (matrix_of nat_eq f k chain)
every_matrix P Yes k chain h = h
every_matrix P No k chain h = h
every_matrix P (One a) k chain h = h
every_matrix P (Not f) k chain h = h
every_matrix P (And fs) k chain h = h
every_matrix P (Or fs) k chain h = h
every_matrix P (Impl f g) k chain h = h
every_matrix P (Repl f g) k chain h = h
every_matrix P (Equiv f g) k chain h = h
every_matrix P (Ex x f) ForAll chain h = h
every_matrix P (All x f) Exists chain h = h
every_matrix P (Ex x f) Exists chain h = go (is_in nat_eq x chain) (every_matrix P f Exists (x ∷ chain) h)
  where
    go : (b : Bool) → Every P (matrix_of nat_eq f Exists (x ∷ chain)) → Every P (if b then Ex x f else matrix_of nat_eq f Exists (x ∷ chain))
    go true i = h
    go false i = i
every_matrix P (All x f) ForAll chain h = go (is_in nat_eq x chain) (every_matrix P f ForAll (x ∷ chain) h)
  where
    go : (b : Bool) → Every P (matrix_of nat_eq f ForAll (x ∷ chain)) → Every P (if b then All x f else matrix_of nat_eq f ForAll (x ∷ chain))
    go true i = h
    go false i = i

-- ---- lists of names

later : (x y : ℕ) (names : List ℕ) → is_in nat_eq y (x ∷ names) ≡ false → (nat_eq y x ≡ false) × (is_in nat_eq y names ≡ false)
later x y names = go (nat_eq y x) refl
  where
    go : (b : Bool) → nat_eq y x ≡ b → (if b then true else is_in nat_eq y names) ≡ false → (nat_eq y x ≡ false) × (is_in nat_eq y names ≡ false)
    go true e h = absurd (not_both true refl h)
    go false e h = (e, h)

in_neither : (x y : ℕ) (names : List ℕ) → nat_eq y x ≡ false → is_in nat_eq y names ≡ false → is_in nat_eq y (x ∷ names) ≡ false
in_neither x y names e h = ap (λ (b : Bool). if b then true else is_in nat_eq y names) e ∙ h

-- ---- the matrix

module _ (c : Context) (p : Point ℕ) (o : Of c p) where
  mutual
    pub put_shape : (names : List ℕ) (f : Tree) → IsNegationNormal f → IsNegationNormal (tree_put c p names f)
    put_shape names Yes h = tt
    put_shape names No h = tt
    put_shape names (One a) h = (atomic_shape (normal_atom c (atom_put p names a)) (normal_atomic c (atom_put p names a))).0
    put_shape names (Not f) h = absurd h
    put_shape names (And fs) h = all_put_shape names fs h
    put_shape names (Or fs) h = all_put_shape names fs h
    put_shape names (Impl f g) h = absurd h
    put_shape names (Repl f g) h = absurd h
    put_shape names (Equiv f g) h = absurd h
    put_shape names (Ex x f) h = put_shape (x ∷ names) f h
    put_shape names (All x f) h = put_shape (x ∷ names) f h

    all_put_shape : (names : List ℕ) (fs : Trees) → AreNegationNormal fs → AreNegationNormal (trees_put c p names fs)
    all_put_shape names none h = tt
    all_put_shape names (also f fs) h = (put_shape names f h.0, all_put_shape names fs h.1)

  pub put_sign : (names : List ℕ) (f : Tree) → case_sign (tree_put c p names f) ≡ case_sign f
  put_sign names Yes = refl
  put_sign names No = refl
  put_sign names (One a) = (atomic_shape (normal_atom c (atom_put p names a)) (normal_atomic c (atom_put p names a))).1
  put_sign names (Not f) = refl
  put_sign names (And fs) = refl
  put_sign names (Or fs) = refl
  put_sign names (Impl f g) = refl
  put_sign names (Repl f g) = refl
  put_sign names (Equiv f g) = refl
  put_sign names (Ex x f) = refl
  put_sign names (All x f) = refl

  -- q has the value of p at the name
  abbrev pub Same : Point ℕ → ℕ → Type 0
  Same q y = q.at y *ℤ pos p.below ≡ p.at y *ℤ pos q.below

  -- at points that differ from p in the names alone
  stays : (names : List ℕ) (f : Tree) (q : Point ℕ) → InContext c f → Of c q → ((y : ℕ) → is_in nat_eq y names ≡ false → Same q y) → TrueAt c f q ↔ TrueAt c (tree_put c p names f) q
  stays names f q i u h = put_true c p o names f q q i u u (record { inside = λ x e. refl; outside = h })

  going : (x : ℕ) (names block : List ℕ) (q : Point ℕ) (whole inner put_whole put_inner : Tree) (b : Bool) →
      ((y : ℕ) → is_in nat_eq y names ≡ false → is_in nat_eq y (if b then [] else x ∷ block) ≡ false → Same q y) →
      (((y : ℕ) → is_in nat_eq y names ≡ false → Same q y) → TrueAt c whole q ↔ TrueAt c put_whole q) →
      (((y : ℕ) → is_in nat_eq y (x ∷ names) ≡ false → is_in nat_eq y block ≡ false → Same q y) → TrueAt c inner q ↔ TrueAt c put_inner q) →
      TrueAt c (if b then whole else inner) q ↔ TrueAt c (if b then put_whole else put_inner) q
  going x names block q whole inner put_whole put_inner true h k l = k (λ y e. h y e refl)
  going x names block q whole inner put_whole put_inner false h k l = l (λ y e d. let t = later x y names e in h y t.1 (in_neither x y block t.0 d))

  matrix_put : (k : Quantifier) (names chain : List ℕ) (f : Tree) (q : Point ℕ) → InContext c f → Of c q →
      ((y : ℕ) → is_in nat_eq y names ≡ false → is_in nat_eq y (block_of nat_eq (tree_put c p names f) k chain) ≡ false → Same q y) →
      TrueAt c (matrix_of nat_eq f k chain) q ↔ TrueAt c (matrix_of nat_eq (tree_put c p names f) k chain) q
  matrix_put k names chain Yes q i u h = (λ t. t, λ t. t)
  matrix_put k names chain No q i u h = (λ t. t, λ t. t)
  matrix_put k names chain (One a) q i u h =
      let n = normal_atomic c (atom_put p names a) in
      subst (λ (g : Tree). TrueAt c (One a) q ↔ TrueAt c g q) (sym (atomic_matrix (normal_atom c (atom_put p names a)) k chain n))
      (stays names (One a) q i u (λ y e. h y e (ap (is_in nat_eq y) (atomic_block (normal_atom c (atom_put p names a)) k chain n))))
  matrix_put k names chain (Not f) q i u h = stays names (Not f) q i u (λ y e. h y e refl)
  matrix_put k names chain (And fs) q i u h = stays names (And fs) q i u (λ y e. h y e refl)
  matrix_put k names chain (Or fs) q i u h = stays names (Or fs) q i u (λ y e. h y e refl)
  matrix_put k names chain (Impl f g) q i u h = stays names (Impl f g) q i u (λ y e. h y e refl)
  matrix_put k names chain (Repl f g) q i u h = stays names (Repl f g) q i u (λ y e. h y e refl)
  matrix_put k names chain (Equiv f g) q i u h = stays names (Equiv f g) q i u (λ y e. h y e refl)
  matrix_put ForAll names chain (Ex x f) q i u h = stays names (Ex x f) q i u (λ y e. h y e refl)
  matrix_put Exists names chain (All x f) q i u h = stays names (All x f) q i u (λ y e. h y e refl)
  matrix_put Exists names chain (Ex x f) q i u h =
      going x names (block_of nat_eq (tree_put c p (x ∷ names) f) Exists (x ∷ chain)) q (Ex x f) (matrix_of nat_eq f Exists (x ∷ chain)) (Ex x (tree_put c p (x ∷ names) f)) (matrix_of nat_eq (tree_put c p (x ∷ names) f) Exists (x ∷ chain)) (is_in nat_eq x chain) h
      (stays names (Ex x f) q i u) (matrix_put Exists (x ∷ names) (x ∷ chain) f q i u)
  matrix_put ForAll names chain (All x f) q i u h =
      going x names (block_of nat_eq (tree_put c p (x ∷ names) f) ForAll (x ∷ chain)) q (All x f) (matrix_of nat_eq f ForAll (x ∷ chain)) (All x (tree_put c p (x ∷ names) f)) (matrix_of nat_eq (tree_put c p (x ∷ names) f) ForAll (x ∷ chain)) (is_in nat_eq x chain) h
      (stays names (All x f) q i u) (matrix_put ForAll (x ∷ names) (x ∷ chain) f q i u)

  module _ (f : Tree) (shape : IsNegationNormal f) (inside : InContext c f) (put_inside : InContext c (tree_put c p [] f)) where
    -- the formula, or its negation, at the point itself
    pub formula_put : (sign : Bool) → TrueAt c (turned sign f) p ↔ TrueAt c (turned sign (tree_put c p [] f)) p
    formula_put true = stays [] f p inside o (λ y e. refl)
    formula_put false = both_ways (turn_round (normal_truths c f p inside o).1) (both_ways (not_iff (stays [] f p inside o (λ y e. refl))) (normal_truths c (tree_put c p [] f) p put_inside o).1)

    -- and the matrix, at points that differ from it in the leading names alone
    pub matrix_same : (sign : Bool) (q : Point ℕ) → Of c q → ((y : ℕ) → is_in nat_eq y (block_of nat_eq (turned sign (tree_put c p [] f)) Exists []) ≡ false → Same q y) →
        TrueAt c (matrix_of nat_eq (turned sign f) Exists []) q ↔ TrueAt c (matrix_of nat_eq (turned sign (tree_put c p [] f)) Exists []) q
    matrix_same true q u h = matrix_put Exists [] [] f q inside u (λ y e. h y)
    matrix_same false q u h =
        let g = tree_put c p [] f in
        let gs = put_shape [] f shape in
        let m = matrix_put ForAll [] [] f q inside u (λ y e d. h y (ap (is_in nat_eq y) (block_turned g [] gs) ∙ d)) in
        let a = (normal_truths c (matrix_of nat_eq f ForAll []) q (every_matrix (AtomIn c) f ForAll [] inside) u).1 in
        let b = (normal_truths c (matrix_of nat_eq g ForAll []) q (every_matrix (AtomIn c) g ForAll [] put_inside) u).1 in
        subst (λ (t : Tree). TrueAt c t q ↔ TrueAt c (matrix_of nat_eq (normal_form_of_not negated_normal g) Exists []) q) (sym (matrix_turned f [] shape))
        (subst (λ (t : Tree). TrueAt c (normal_form_of_not negated_normal (matrix_of nat_eq f ForAll [])) q ↔ TrueAt c t q) (sym (matrix_turned g [] gs))
        (both_ways (turn_round a) (both_ways (not_iff m) b)))

-- ---- samples change the names of the steps alone

cancel_move : (s t : ℤ) (b d m : ℕ) → pos 0 <ℤ pos m → s *ℤ pos (b * m) ≡ (pos m *ℤ t) *ℤ pos d → s *ℤ pos b ≡ t *ℤ pos d
cancel_move s t b d m h e =
    let k : s *ℤ (pos b *ℤ pos m) ≡ (pos m *ℤ t) *ℤ pos d = sym (ap (λ z. s *ℤ z) (pos_mul b m)) ∙ e in
    let k = simp ring at k in
    let g : pos m *ℤ (s *ℤ pos b) ≡ pos m *ℤ (t *ℤ pos d) = simp ring (omega (arith, ints, k)) in
    cancel_positive (pos m) h g

moved_same : (c : Context) (p q : Point ℕ) (x y : ℕ) (k : ℤ) (m : ℕ) → pos 0 <ℤ pos m → nat_eq x y ≡ false → q.at y *ℤ pos (move nat_eq p x k m).below ≡ (move nat_eq p x k m).at y *ℤ pos q.below → q.at y *ℤ pos p.below ≡ p.at y *ℤ pos q.below
unfolding move
moved_same c p q x y k m h n e =
    cancel_move (q.at y) (p.at y) p.below q.below m h (e ∙ ap (λ (b : Bool). (if b then k else pos m *ℤ p.at y) *ℤ pos q.below) n)

pub samples_same : (c : Context) (steps : List Step) (p q : Point ℕ) → IsSampled c p steps q → (y : ℕ) → is_in nat_eq y (step_names steps) ≡ false → q.at y *ℤ pos p.below ≡ p.at y *ℤ pos q.below
samples_same c [] p q s y e = subst (λ (r : Point ℕ). r.at y *ℤ pos p.below ≡ p.at y *ℤ pos r.below) s refl
samples_same c (s ∷ steps) p q r y e =
    let l = later s.name y (step_names steps) e in
    moved_same c p q s.name y r.0 r.1 (allowed_positive c r.1 r.2) (other s.name y l.0) (samples_same c steps (move nat_eq p s.name r.0 r.1) q r.4 y l.1)
  where
    other : (x y : ℕ) → nat_eq y x ≡ false → nat_eq x y ≡ false
    other x y e = go (nat_eq x y) refl
      where
        go : (b : Bool) → nat_eq x y ≡ b → b ≡ false
        go true d = absurd (not_both (nat_eq y x) (turn_equal x y d) e)
        go false d = refl
