-- The stack of the check: the actions under way, each with the outcomes to come, stand for the states that planning's check has pending.
-- Assumes nothing.
use Rattle.std.specs.Prelude.{List, [], ◌∷◌, ◌++◌, ℕ, zero, suc, ◌+◌, ◌-◌, get_or, drop, length}
use Rattle.planning.specs.Task.{apply}
use Rattle.planning.specs.PlanCheck.{Pending}
use Rattle.task_record.specs.Layout.{at_action, in_outcomes}
use Rattle.task_record.specs.Numbers.{outcome_count}
use Rattle.task_record.specs.TaskOf.{cells_at, action_of, values_of}
use Rattle.plan_check.specs.declared.frames.Frame.{Frame}

-- Action m taken in state s after `depth` moves, for which `paid` was paid.
unfoldable pub begun_frame : List ℕ → ℕ → List ℕ → ℕ → ℕ → Frame
begun_frame r m s depth paid = record {
  state = s;
  next = at_action m + in_outcomes;
  paid = paid + (action_of r m).weight;
  depth = depth + 1;
  left = outcome_count r m;
}

-- The same action after its next outcome.
unfoldable pub rest_frame : Frame → Frame
rest_frame f = record { state = f.state; next = f.next + 16; paid = f.paid; depth = f.depth; left = f.left - 1 }

-- A state that the plan has reached by `depth` moves, for which `paid` was paid.
unfoldable pub reached : List ℕ → List ℕ → ℕ → ℕ → Pending (List ℕ)
reached r s depth paid = record { state = values_of r s; moves = depth; paid = paid }

-- The states after n outcomes of an action in s, from the one at offset `next` on.
unfoldable pub awaited_from : List ℕ → List ℕ → ℕ → ℕ → ℕ → ℕ → List (Pending (List ℕ))
awaited_from r s depth paid next zero = []
awaited_from r s depth paid next (suc n) = reached r (apply (cells_at r next) s) depth paid ∷ awaited_from r s depth paid (next + 16) n

unfoldable pub awaited : List ℕ → Frame → List (Pending (List ℕ))
awaited r f = awaited_from r f.state f.depth f.paid f.next f.left

-- The frame at a place of the stack.
unfoldable pub frame_at : List Frame → ℕ → Frame
frame_at frames i = get_or frames i (record { state = []; next = 0; paid = 0; depth = 0; left = 0 })

-- The first n frames of the stack's places, the topmost first.
unfoldable pub topmost_first : List Frame → ℕ → List Frame
topmost_first frames zero = []
topmost_first frames (suc n) = frame_at frames n ∷ topmost_first frames n

-- The stack: the frames in use, the topmost first, and how many there is room for.
pub record Waiting : Type 0 where
  pub frames : List Frame
  pub room : ℕ

abbrev pub waiting : List Frame → ℕ → Waiting
waiting frames used = record { frames = topmost_first frames used; room = length frames }

abbrev pub nothing_waits : ℕ → Waiting
nothing_waits room = record { frames = []; room = room }

abbrev pub waits_first : Frame → Waiting → Waiting
waits_first f w = record { frames = f ∷ w.frames; room = w.room }

abbrev pub first_gone : Waiting → Waiting
first_gone w = record { frames = drop 1 w.frames; room = w.room }

-- What the frames of the stack await, the topmost first.
unfoldable pub waiting_of : List ℕ → List Frame → List (Pending (List ℕ))
waiting_of r [] = []
waiting_of r (f ∷ frames) = awaited r f ++ waiting_of r frames
