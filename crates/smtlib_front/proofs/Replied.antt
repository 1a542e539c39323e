-- What a command is answered with, from what becomes of it.
use Rattle.std.proofs.Common.{◌≡◌, ◌⊎◌, inl, inr, ℕ, List, Bool, true, false, Option, Some, None, Result, Ok, Err, refl, sym, ap, subst}
use Rattle.std.specs.Prelude.{is_some, is_none, option_map, ◌&&◌}
use Rattle.logic_meaning.specs.declared.form.VarId.{VarId}
use Rattle.smt_language.specs.Trees.{CommandTree}
use Rattle.smt_language.specs.Spells.{Spells}
use Rattle.program_meaning.specs.SmtState.{State}
use Rattle.program_meaning.specs.Replies.{Replies, refused, answered, out_of_memory}
use Rattle.program_meaning.specs.SmtCauses.{IsFirst}
use Rattle.program_meaning.specs.declared.smt_error.SmtError.{SmtError}
use Rattle.program_meaning.specs.declared.smt_error.SmtError.TheVariants as error
use Rattle.program_meaning.specs.declared.smt_reply.SmtReply.{SmtReply}
use Rattle.smtlib_front.specs.Seen.{Seen}
use Rattle.smtlib_front.specs.Represents.{Represents}
use Rattle.smtlib_front.specs.Steps.{Does}

-- the reply to the bytes that spell the command
pub replied : (s : State) (limit : ℕ) (bytes : List ℕ) (k : CommandTree) (q : Result SmtReply SmtError) (m : Seen) → Spells bytes k → Does s limit k q m → (next : State) × Replies s limit bytes q next × Represents m next
replied s limit bytes k (Ok r) m spelled d = (d.next, answered spelled d.accepted d.answers, d.represents)
replied s limit bytes k (Err e) m spelled d = (s, reply d.cause, d.represents)
  where
    reply : (e ≡ error.Memory) ⊎ IsFirst s limit e k → Replies s limit bytes (Err e) s
    reply (inl i) = subst (λ x. Replies s limit bytes (Err x) s) (sym i) out_of_memory
    reply (inr h) = refused e spelled h

-- ---- what is looked up

pub none_of : {X : Type 0} (o : Option X) → is_some o ≡ false → o ≡ None
none_of None e = refl
none_of (Some x) e = absurd (cc)

pub some_is : {X : Type 0} (o : Option X) → is_some o ≡ true → (x : X) × (o ≡ Some x)
some_is None e = absurd (cc)
some_is (Some x) e = (x, refl)

-- a name that is not found is none
pub none_found : {X : Type 0} (o : Option X) → is_some o ≡ false → is_none o ≡ true
none_found None e = refl
none_found (Some x) e = absurd (cc)

-- and has no place
pub not_placed : (o : Option VarId) (p : Option ℕ) → option_map (λ v. v.number) o ≡ p → is_some o ≡ false → is_some p ≡ false
not_placed None p e h = ap is_some (sym e)
not_placed (Some v) p e h = absurd (cc)

pub first_true : (a b : Bool) → (a && b) ≡ true → a ≡ true
first_true true b e = refl
first_true false b e = e
