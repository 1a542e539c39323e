use Rattle.std.proofs.Common.{◌≡◌, ◌+◌, ◌<◌, ◌^◌, Option, Some, None, nat_eq, sym, ap, ◌∙◌, subst}
use Rattle.std.specs.Prelude.{unwrap_or}
use Rattle.std.specs.HashMap.{get}
use Rattle.logic_meaning.specs.declared.side.Side.{Side}
use Rattle.logic_meaning.specs.declared.side.Side.TheVariants.{Lower, Upper}
use Rattle.branch_points.specs.declared.ends.Ends.{Ends}
use Rattle.branch_points.specs.Ends.{towards, HasRoom}
use Rattle.branch_points.proofs.ends.count_term.Goals as goal

-- the value that is read has the room of the entry
read_room : (side : Side) (o : Option Ends) (e : Ends) → e ≡ unwrap_or o (record { lower = 0; upper = 0 }) → HasRoom o → towards side e + 1 < 2 ^ 64
read_room side None e is room = subst (λ (d : Ends). towards side d + 1 < 2 ^ 64) (sym is) (room side)
read_room side (Some f) e is room = subst (λ (d : Ends). towards side d + 1 < 2 ^ 64) (sym is) (room side)

pub raised-requires : goal.raised-requires
raised-requires c =
    let read = c.or_insert-ends.ensures.value ∙ ap (λ (o : Option Ends). unwrap_or o (record { lower = 0; upper = 0 })) c.in_ok-table.ensures.value in
    read_room Lower (get nat_eq c.args.table.now c.args.name.number) c.or_insert-ends.result.now read c.requires

pub raised-requires-2 : goal.raised-requires-2
raised-requires-2 c =
    let read = c.or_insert-ends.ensures.value ∙ ap (λ (o : Option Ends). unwrap_or o (record { lower = 0; upper = 0 })) c.in_ok-table.ensures.value in
    read_room Upper (get nat_eq c.args.table.now c.args.name.number) c.or_insert-ends.result.now read c.requires
