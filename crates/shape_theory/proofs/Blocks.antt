-- The blocks of a formula are as many as blocks_from says, and none but the first is empty; where that one is empty, the other
-- kind has fewer.
use Rattle.std.proofs.Common.{◌≡◌, ◌<◌, ◌⊎◌, inl, inr, ℕ, suc, max, List, [], ◌∷◌, ◌++◌, length, ap, ap₂, sym, ◌∙◌, subst, refl, arith}
use Rattle.logic_meaning.specs.Formula.{Formula, Formulas, Yes, No, One, Not, And, Or, Impl, Repl, Equiv, Ex, All, none, also}
use Rattle.logic_meaning.specs.Shape.{blocks_from, most_blocks}
use Rattle.logic_meaning.specs.declared.quantifier.Quantifier.{Quantifier}
use Rattle.logic_meaning.specs.declared.quantifier.Quantifier.TheVariants.{Exists, ForAll}
use Rattle.logic_meaning.specs.Blocks.{other_kind, in_first, joined_blocks, blocks, blocks_of}

module _ {N : Type 0} where
  abbrev pub IsFilled : List N → Type 0
  IsFilled [] = ⊥
  IsFilled (x ∷ xs) = Unit {0}

  -- no block is empty
  abbrev pub AreFilled : List (List N) → Type 0
  AreFilled [] = Unit {0}
  AreFilled (b ∷ bs) = IsFilled b × AreFilled bs

  -- none but the first is
  abbrev pub LaterFilled : List (List N) → Type 0
  LaterFilled [] = Unit {0}
  LaterFilled (b ∷ bs) = AreFilled bs

  -- the first is not
  abbrev pub BeginsFilled : List (List N) → Type 0
  BeginsFilled [] = Unit {0}
  BeginsFilled (b ∷ bs) = IsFilled b

  pub all_filled : (bs : List (List N)) → BeginsFilled bs → LaterFilled bs → AreFilled bs
  all_filled [] h k = tt
  all_filled (b ∷ bs) h k = (h, k)

  filled_before : (b c : List N) → IsFilled b → IsFilled (b ++ c)
  filled_before (x ∷ b) c h = tt
  filled_before [] c h = absurd h

  filled_behind : (b c : List N) → IsFilled c → IsFilled (b ++ c)
  filled_behind (x ∷ b) c h = tt
  filled_behind [] c h = h

  joined_filled : (bs cs : List (List N)) → AreFilled bs → AreFilled cs → AreFilled (joined_blocks bs cs)
  joined_filled [] cs h k = k
  joined_filled (b ∷ bs) [] h k = h
  joined_filled (b ∷ bs) (c ∷ cs) h k = (filled_before b c h.0, joined_filled bs cs h.1 k.1)

  joined_later : (bs cs : List (List N)) → LaterFilled bs → LaterFilled cs → LaterFilled (joined_blocks bs cs)
  joined_later [] cs h k = k
  joined_later (b ∷ bs) [] h k = h
  joined_later (b ∷ bs) (c ∷ cs) h k = joined_filled bs cs h k

  pub first_filled : (x : N) (bs : List (List N)) → LaterFilled bs → AreFilled (in_first x bs)
  first_filled x [] h = (tt, tt)
  first_filled x (b ∷ bs) h = (tt, h)

  first_later : (x : N) (bs : List (List N)) → LaterFilled bs → LaterFilled (in_first x bs)
  first_later x [] h = tt
  first_later x (b ∷ bs) h = h

  first_begins : (x : N) (bs : List (List N)) → BeginsFilled (in_first x bs)
  first_begins x [] = tt
  first_begins x (b ∷ bs) = tt

  length_first : (x : N) (bs : List (List N)) → length (in_first x bs) ≡ max 1 (length bs)
  length_first x [] = refl
  length_first x (b ∷ bs) = grind arith

  length_joined : (bs cs : List (List N)) → length (joined_blocks bs cs) ≡ max (length bs) (length cs)
  length_joined [] cs = grind arith
  length_joined (b ∷ bs) [] = grind arith
  length_joined (b ∷ bs) (c ∷ cs) = let h = length_joined bs cs in omega (arith, h)

  -- the blocks of two members: where the first is empty, those of the other kind are fewer
  begins_joined : (bs cs : List (List N)) (m n : ℕ) → (length bs ≡ 0 → m ≡ 0) → (length cs ≡ 0 → n ≡ 0) → BeginsFilled bs ⊎ (m < length bs) → BeginsFilled cs ⊎ (n < length cs) →
      BeginsFilled (joined_blocks bs cs) ⊎ (max m n < max (length bs) (length cs))
  begins_joined [] cs m n e g h (inl k) = inl k
  begins_joined [] cs m n e g h (inr k) = let z = e refl in inr (omega arith)
  begins_joined (b ∷ bs) [] m n e g (inl h) k = inl h
  begins_joined (b ∷ bs) [] m n e g (inr h) k = let z = g refl in inr (omega arith)
  begins_joined (b ∷ bs) (c ∷ cs) m n e g (inl h) k = inl (filled_before b c h)
  begins_joined (b ∷ bs) (c ∷ cs) m n e g (inr h) (inl k) = inl (filled_behind b c k)
  begins_joined (b ∷ bs) (c ∷ cs) m n e g (inr h) (inr k) = inr (omega arith)

module _ {A N : Type 0} where
  mutual
    pub later_filled : (f : Formula A N) (q : Quantifier) → LaterFilled (blocks f q)
    later_filled Yes q = tt
    later_filled No q = tt
    later_filled (One a) q = tt
    later_filled (Not f) q = tt
    later_filled (And fs) q = later_filled_of fs q
    later_filled (Or fs) q = later_filled_of fs q
    later_filled (Impl f g) q = tt
    later_filled (Repl f g) q = tt
    later_filled (Equiv f g) q = tt
    later_filled (Ex x f) Exists = first_later x (blocks f Exists) (later_filled f Exists)
    later_filled (Ex x f) ForAll = first_filled x (blocks f Exists) (later_filled f Exists)
    later_filled (All x f) Exists = first_filled x (blocks f ForAll) (later_filled f ForAll)
    later_filled (All x f) ForAll = first_later x (blocks f ForAll) (later_filled f ForAll)

    later_filled_of : (fs : Formulas A N) (q : Quantifier) → LaterFilled (blocks_of fs q)
    later_filled_of none q = tt
    later_filled_of (also f fs) q = joined_later (blocks f q) (blocks_of fs q) (later_filled f q) (later_filled_of fs q)

  mutual
    pub length_blocks : (f : Formula A N) (q : Quantifier) → length (blocks f q) ≡ blocks_from f q
    length_blocks Yes q = refl
    length_blocks No q = refl
    length_blocks (One a) q = refl
    length_blocks (Not f) q = refl
    length_blocks (And fs) q = length_blocks_of fs q
    length_blocks (Or fs) q = length_blocks_of fs q
    length_blocks (Impl f g) q = refl
    length_blocks (Repl f g) q = refl
    length_blocks (Equiv f g) q = refl
    length_blocks (Ex x f) Exists = length_first x (blocks f Exists) ∙ ap (max 1) (length_blocks f Exists)
    length_blocks (Ex x f) ForAll = ap suc (length_first x (blocks f Exists) ∙ ap (max 1) (length_blocks f Exists))
    length_blocks (All x f) Exists = ap suc (length_first x (blocks f ForAll) ∙ ap (max 1) (length_blocks f ForAll))
    length_blocks (All x f) ForAll = length_first x (blocks f ForAll) ∙ ap (max 1) (length_blocks f ForAll)

    pub length_blocks_of : (fs : Formulas A N) (q : Quantifier) → length (blocks_of fs q) ≡ most_blocks fs q
    length_blocks_of none q = refl
    length_blocks_of (also f fs) q = length_joined (blocks f q) (blocks_of fs q) ∙ ap₂ max (length_blocks f q) (length_blocks_of fs q)

  mutual
    -- without blocks of one kind there are none of the other
    no_blocks : (f : Formula A N) (q : Quantifier) → blocks_from f q ≡ 0 → blocks_from f (other_kind q) ≡ 0
    no_blocks Yes q h = refl
    no_blocks No q h = refl
    no_blocks (One a) q h = refl
    no_blocks (Not f) q h = refl
    no_blocks (And fs) q h = no_blocks_of fs q h
    no_blocks (Or fs) q h = no_blocks_of fs q h
    no_blocks (Impl f g) q h = refl
    no_blocks (Repl f g) q h = refl
    no_blocks (Equiv f g) q h = refl
    no_blocks (Ex x f) Exists h = absurd (omega arith)
    no_blocks (Ex x f) ForAll h = absurd (omega arith)
    no_blocks (All x f) Exists h = absurd (omega arith)
    no_blocks (All x f) ForAll h = absurd (omega arith)

    no_blocks_of : (fs : Formulas A N) (q : Quantifier) → most_blocks fs q ≡ 0 → most_blocks fs (other_kind q) ≡ 0
    no_blocks_of none q h = refl
    no_blocks_of (also f fs) q h =
        let i = no_blocks f q (omega arith) in let j = no_blocks_of fs q (omega arith) in
        omega arith

  mutual
    begins : (f : Formula A N) (q : Quantifier) → BeginsFilled (blocks f q) ⊎ (blocks_from f (other_kind q) < length (blocks f q))
    begins Yes q = inl tt
    begins No q = inl tt
    begins (One a) q = inl tt
    begins (Not f) q = inl tt
    begins (And fs) q = begins_of fs q
    begins (Or fs) q = begins_of fs q
    begins (Impl f g) q = inl tt
    begins (Repl f g) q = inl tt
    begins (Equiv f g) q = inl tt
    begins (Ex x f) Exists = inl (first_begins x (blocks f Exists))
    begins (Ex x f) ForAll = let e = length_blocks (Ex x f) ForAll in inr (omega arith)
    begins (All x f) Exists = let e = length_blocks (All x f) Exists in inr (omega arith)
    begins (All x f) ForAll = inl (first_begins x (blocks f ForAll))

    begins_of : (fs : Formulas A N) (q : Quantifier) → BeginsFilled (blocks_of fs q) ⊎ (most_blocks fs (other_kind q) < length (blocks_of fs q))
    begins_of none q = inl tt
    begins_of (also f fs) q =
        let e = length_blocks f q in let g = length_blocks_of fs q in
        subst (λ n. BeginsFilled (joined_blocks (blocks f q) (blocks_of fs q)) ⊎ (max (blocks_from f (other_kind q)) (most_blocks fs (other_kind q)) < n)) (sym (length_joined (blocks f q) (blocks_of fs q)))
        (begins_joined (blocks f q) (blocks_of fs q) (blocks_from f (other_kind q)) (most_blocks fs (other_kind q))
        (λ z. no_blocks f q (sym e ∙ z)) (λ z. no_blocks_of fs q (sym g ∙ z)) (begins f q) (begins_of fs q))

  -- a kind that has no more blocks than the other has no empty one
  pub least_filled : (f : Formula A N) (q : Quantifier) → ¬ (blocks_from f (other_kind q) < blocks_from f q) → AreFilled (blocks f q)
  least_filled f q n = all_filled (blocks f q) (go (begins f q)) (later_filled f q)
    where
      go : BeginsFilled (blocks f q) ⊎ (blocks_from f (other_kind q) < length (blocks f q)) → BeginsFilled (blocks f q)
      go (inl h) = h
      go (inr h) = absurd (n (subst (λ m. blocks_from f (other_kind q) < m) (length_blocks f q) h))
