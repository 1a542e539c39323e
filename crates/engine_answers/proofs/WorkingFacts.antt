-- What an elimination is asked under, as work.
use Rattle.branch_rounds.specs.declared.work.Work.{Work}
use Rattle.branch_rounds.specs.Worked.{IsWork}
use Rattle.engine_answers.specs.declared.task.Task.{Task}
use Rattle.engine_answers.specs.Tasks.{IsTask}

-- under the whole theory
abbrev pub whole_work : Task → Work
whole_work t = record { alloc = t.alloc; context = t.context; assumed = t.theory; workers = t.limits.workers }

pub is_whole_work : (t : Task) → IsTask t → IsWork (whole_work t)
is_whole_work t h = record { well_formed = h.well_formed; normal = h.normal; workers = h.workers }
