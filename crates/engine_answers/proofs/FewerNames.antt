-- A block of which fewer names are left: what that is worked on to, the block is worked on to.
use Rattle.std.proofs.Common.{◌≡◌, ℕ, Bool, true, false, not, List, [], ◌∷◌, refl, ap, sym, ◌∙◌, inl, inr, if◌then◌else◌}
use Rattle.std.proofs.Math.IntN.{pos}
use Rattle.std.specs.Ordering.{int_eq}
use Rattle.std.specs.Cmp.{signed_Decides}
use Rattle.logic_meaning.specs.Atom.{Atom, Mentions, form_of}
use Rattle.logic_meaning.specs.AtomKit.{without}
use Rattle.logic_meaning.specs.Contained.{contains}
use Rattle.logic_meaning.specs.Context.{Context}
use Rattle.logic_meaning.specs.Form.{coefficient}
use Rattle.logic_meaning.specs.Some.{Among, EachOf}
use Rattle.logic_meaning.specs.Tree.{Tree, IsFree}
use Rattle.formula_laws.specs.StandsOnce.{StandsOnce}
use Rattle.formula_laws.proofs.Iff.{both_ways, turn_round}
use Rattle.elimination_theory.specs.Theorems.{IsTidy}
use Rattle.elimination_theory.proofs.Branches.{true_is_not_false}
use Rattle.elimination_theory.proofs.SomeListed.{each_among}
use Rattle.shape_theory.specs.Simplifiable.{EquivalentUnder}
use Rattle.case_theory.specs.Block.{ex_all}
use Rattle.case_theory.specs.CaseTree.{without_all}
use Rattle.case_theory.specs.Under.{Lack}
use Rattle.case_theory.specs.Worked.{IsWorked}
use Rattle.case_theory.proofs.Block.{block_somewhere}
use Rattle.case_theory.proofs.Ends.{block_under}
use Rattle.case_theory.proofs.Leading.{free_in_all}
use Rattle.narrowed_blocks.specs.Narrowing.{IsNarrowed}

-- ---- assumptions that have none of the names

not_contained : (a : Atom) (x : ℕ) → ¬ (Mentions a x) → contains a x ≡ false
not_contained a x n = go (int_eq (coefficient x (form_of a)) (pos 0)) refl
  where
    go : (b : Bool) → int_eq (coefficient x (form_of a)) (pos 0) ≡ b → not b ≡ false
    go true e = refl
    go false e = absurd (n (λ z. true_is_not_false (sym ((signed_Decides (coefficient x (form_of a)) (pos 0)).1 z) ∙ e)))

without_same : (x : ℕ) (ks : List Atom) → Lack ks x → without contains x ks ≡ ks
without_same x [] h = refl
without_same x (k ∷ ks) h = ap (λ (b : Bool). if b then without contains x ks else k ∷ without contains x ks) (not_contained k x h.0) ∙ ap (◌∷◌ k) (without_same x ks h.1)

-- without the names they are the same
pub without_all_same : (xs : List ℕ) (ks : List Atom) → EachOf (Lack ks) xs → without_all xs ks ≡ ks
without_all_same [] ks h = refl
without_all_same (x ∷ xs) ks h = ap (without contains x) (without_all_same xs ks h.1) ∙ without_same x ks h.0

each_of : {X : Type 0} (P : X → Type 0) (xs : List X) → ((x : X) → Among xs x → P x) → EachOf P xs
each_of P [] h = tt
each_of P (x ∷ xs) h = (h x (inl refl), each_of P xs (λ y m. h y (inr m)))

-- ---- the block

free_behind : (xs : List ℕ) (f : Tree) (y : ℕ) → IsFree (ex_all xs f) y → IsFree f y × ¬ (Among xs y)
free_behind [] f y u = (u, λ m. m)
free_behind (x ∷ xs) f y u = let k = free_behind xs f y u.1 in (k.0, λ m. elim m [ inl e ↦ u.0 e | inr n ↦ k.1 n ])

module _ (c : Context) (ks : List Atom) (block : List ℕ) where
  -- a block is what is left of itself
  pub narrowed_self : (g : Tree) → IsTidy c g → StandsOnce block → IsNarrowed c ks g block g block
  narrowed_self g t o = record { tidy = t; once = o; of_block = λ y m. m; names = λ y u. (u, λ m. m); same = λ p i a. (λ s. s, λ s. s) }

  module _ (left : List ℕ) (m g : Tree) (n : IsNarrowed c ks m block g left) (lack : EachOf (Lack ks) block) where
    -- the assumptions have none of the names that are left
    pub left_lack : EachOf (Lack ks) left
    left_lack = each_of (Lack ks) left (λ y h. each_among (Lack ks) block y lack (n.of_block y h))

    module _ (f : Tree) (w : IsWorked c ks f m) where
      narrowed_same : EquivalentUnder c ks (ex_all block f) (ex_all left g)
      narrowed_same p o t =
          both_ways (block_under c ks block f m lack w.equivalent p o t)
          (both_ways (block_somewhere c block m p o) (both_ways (n.same p o t) (turn_round (block_somewhere c left g p o))))

      -- where the matrix was worked on, what the block that is left is worked on to is what the block is worked on to
      pub narrowed_worked : (h : Tree) → IsWorked c ks (ex_all left g) h → IsWorked c ks (ex_all block f) h
      narrowed_worked h v = record {
        equivalent = λ p o t. both_ways (narrowed_same p o t) (v.equivalent p o t);
        tidy = v.tidy;
        names = λ y u.
            let k = free_behind left g y (v.names y u) in
            let d = n.names y k.0 in
            free_in_all block f y (w.names y d.0) (λ i. k.1 (d.1 i));
      }
