use Rattle.std.proofs.Common.{take}
use Rattle.normal_atoms.specs.Atoms.{context_of}
use Rattle.smt_language.specs.Meaning.{Scope, opened}
use Rattle.smt_resolver.specs.Readings.{IsFrame, HaveFrameIds}
use Rattle.smt_resolver.proofs.reading.opened_frame.Given as goal

abbrev pub invariant-loop-place : goal.invariant-loop-place
invariant-loop-place g l = record {
  state : (m : g.row.M.Denot) (s : Scope) → IsFrame (context_of l.setting.context) l.setting.limit (g.M.Maker.is_id m) (g.M.Maker.tree m) l.frame s (opened l.level (take l.place l.names) s);
  ids : (m : g.row.M.Denot) → HaveFrameIds (g.M.Maker.is_id m) l.frame;
}
