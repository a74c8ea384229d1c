-- The system that a record stands for. Assumes nothing.
use Rattle.std.specs.Prelude.{List, ℕ}
use Rattle.planning.specs.System.{System}
use Rattle.planning.specs.Task.{system}
use Rattle.task_record.specs.TaskOf.{task_of}

-- The task of the record, as a transition system.
unfoldable pub tower : List ℕ → System (List ℕ)
tower r = system (task_of r)
