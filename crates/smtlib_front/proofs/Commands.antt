-- What one command adds.
use Rattle.std.proofs.Common.{◌≡◌, ℕ, List, [], subst, true, false}
use Rattle.std.specs.Prelude.{◌≢◌, Option, Ok, Err}
use Rattle.std.specs.declared.alloc.Global.{Global}
use Rattle.std.specs.declared.vec.Vec.{Vec}
use Rattle.program_meaning.specs.Ends.{TookFront}
use Rattle.program_meaning.specs.Streams.{Took}
use Rattle.qe_io.proofs.Joined.{took_none}
use Rattle.program_meaning.specs.declared.smt_error.SmtError.{SmtError}
use Rattle.program_meaning.specs.declared.smt_error.SmtError.TheVariants as error
use Rattle.program_meaning.specs.declared.smt_reply.SmtReply.TheVariants as reply
use Rattle.program_meaning.specs.Replies.{Replies}
use Rattle.program_meaning.specs.SmtRun.{line_of}
use Rattle.program_meaning.specs.SmtState.{State}
use Rattle.program_meaning.specs.Texts.{refusal_text}
use Rattle.program_meaning.specs.SmtWords.{word_of}
use Rattle.smtlib_front.specs.Represents.{Represents}
use Rattle.smtlib_front.specs.Seen.{Seen}
use Rattle.smtlib_front.specs.SmtAnswersSteps.{Adds, answered, refused, IsAdded, IsFront}

nothing_goes_on : reply.Nothing ≢ reply.Finished
nothing_goes_on e = cc

printed_goes_on : (text : Vec ℕ Global) → reply.Printed text ≢ reply.Finished
printed_goes_on text e = cc

module _ (s : State) (limit : ℕ) (bytes : List ℕ) (offset : ℕ) (wrote after : Option (List ℕ)) (m : Seen) (next : State) where
  pub adds_nothing : Replies s limit bytes (Ok reply.Nothing) next → Represents m next → IsAdded s limit bytes offset wrote wrote m false
  adds_nothing r represents = record { lines = []; next = next; adds = answered reply.Nothing nothing_goes_on r; took = took_none wrote; represents = represents }

  -- a printed line
  module _ (text : Vec ℕ Global) (line : List ℕ) (r : Replies s limit bytes (Ok (reply.Printed text)) next) (is : line ≡ line_of text.items) where
    adds_printed : Adds s limit bytes offset (line_of text.items) false next
    adds_printed = answered (reply.Printed text) (printed_goes_on text) r

    pub adds_line : Took wrote after line → Represents m next → IsAdded s limit bytes offset wrote after m false
    adds_line took represents = record { lines = line_of text.items; next = next; adds = adds_printed; took = subst (Took wrote after) is took; represents = represents }

    pub front_of_line : TookFront wrote after line → IsFront s limit bytes offset wrote after
    front_of_line took = record { lines = line_of text.items; refusal = false; next = next; adds = adds_printed; took = subst (TookFront wrote after) is took }

  -- the line of a refusal
  module _ (cause : SmtError) (line : List ℕ) (other : cause ≢ error.Memory) (r : Replies s limit bytes (Err cause) next) (is : line ≡ line_of (refusal_text (word_of cause) offset)) where
    adds_cause : Adds s limit bytes offset (line_of (refusal_text (word_of cause) offset)) true next
    adds_cause = refused cause other r

    pub adds_refusal : Took wrote after line → Represents m next → IsAdded s limit bytes offset wrote after m true
    adds_refusal took represents =
        record { lines = line_of (refusal_text (word_of cause) offset); next = next; adds = adds_cause; took = subst (Took wrote after) is took; represents = represents }

    pub front_of_refusal : TookFront wrote after line → IsFront s limit bytes offset wrote after
    front_of_refusal took = record { lines = line_of (refusal_text (word_of cause) offset); refusal = true; next = next; adds = adds_cause; took = subst (TookFront wrote after) is took }
