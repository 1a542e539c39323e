-- Numbers looked up in a list of entries.
use Rattle.std.proofs.Common.{◌≡◌, ℕ, Bool, true, false, cond, List, [], ◌∷◌, Option, Some, Result, Ok, Err, ap, sym, ◌∙◌, refl, arith, nat_eq, nat_cmp, is_eq, if◌then◌else◌}
use Rattle.std.proofs.Math.IntN.{ℤ, pos}
use Rattle.std.specs.Prelude.{unwrap_or, OnOk}
use Rattle.std.specs.Map.{lookup}
use Rattle.std.proofs.lemmas.Bool.Decides.{nat_tests}

same_test : (x k : ℕ) → is_eq (nat_cmp x k) ≡ nat_eq x k
same_test x k = grind (arith, nat_tests)

lookups_agree : (x : ℕ) (es : List (ℕ × ℤ)) → lookup (λ k. is_eq (nat_cmp x k)) es ≡ lookup (nat_eq x) es
lookups_agree x [] = refl
lookups_agree x (e ∷ es) = ap (λ b. cond b (Some e.1) (lookup (λ k. is_eq (nat_cmp x k)) es)) (same_test x e.0) ∙ ap (cond (nat_eq x e.0) (Some e.1)) (lookups_agree x es)

chosen : (b : Bool) (n : ℤ) (o : Option ℤ) → unwrap_or (cond b (Some n) o) (pos 0) ≡ (if b then n else unwrap_or o (pos 0))
chosen true n o = refl
chosen false n o = refl

-- a number put in is looked up, and the others stay
pub put_number : (old new : List (ℕ × ℤ)) (v : ℕ) (n : ℤ) → ((q : ℕ) → lookup (λ k. is_eq (nat_cmp q k)) new ≡ cond (is_eq (nat_cmp v q)) (Some n) (lookup (λ k. is_eq (nat_cmp q k)) old)) → (x : ℕ) → unwrap_or (lookup (nat_eq x) new) (pos 0) ≡ (if nat_eq v x then n else unwrap_or (lookup (nat_eq x) old) (pos 0))
put_number old new v n h x =
    let e = sym (lookups_agree x new) ∙ h x ∙ ap (λ b. cond b (Some n) (lookup (λ k. is_eq (nat_cmp x k)) old)) (same_test v x) ∙ ap (cond (nat_eq v x) (Some n)) (lookups_agree x old) in
    ap (λ o. unwrap_or o (pos 0)) e ∙ chosen (nat_eq v x) n (lookup (nat_eq x) old)

pub on_ok : {X E : Type 0} (r : Result X E) {P : Type 0} → P → OnOk r P
on_ok (Ok x) p = p
on_ok (Err e) p = tt

pub on_ok_err : {X E : Type 0} (r : Result X E) (e : E) (P : Type 0) → r ≡ Err e → OnOk r P
on_ok_err (Ok x) e P h = absurd (cc)
on_ok_err (Err f) e P h = tt
