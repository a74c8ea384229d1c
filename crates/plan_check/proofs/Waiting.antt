-- Laws of the stack: what its frames await is what planning's check has pending. Assumes nothing.
use Rattle.std.proofs.Common.{◌≡◌, ℕ, zero, suc, ◌+◌, ◌-◌, ◌≤◌, ◌<◌, List, [], ◌∷◌, map, length, set, refl, ap, arith}
use native.Mathlib.Numerals.{add-one}
use lib.Seq.{get_or-set_same, get_or-set_other}
use Rattle.planning.specs.Finite.{tabulate}
use Rattle.planning.specs.Task.{apply}
use Rattle.planning.specs.PlanCheck.{pending_after}
use Rattle.task_record.specs.Layout.{at_action, at_outcome, in_outcomes}
use Rattle.task_record.specs.Numbers.{outcome_count}
use Rattle.task_record.specs.TaskOf.{cells_at, action_of, values_of}
use Rattle.task_record.proofs.States.{outcome_of_values}
use Rattle.plan_check.specs.declared.frames.Frame.{Frame}
use Rattle.plan_check.specs.Tower.{tower}
use Rattle.plan_check.specs.Stack.{begun_frame, rest_frame, reached, awaited_from, awaited, frame_at, topmost_first}
use Rattle.plan_check.proofs.Tower.{tower_successors, tower_weight}

-- An action that begins awaits the states that planning's check puts before the others.
outcomes_awaited : (r s : List ℕ) (m depth paid k n : ℕ) →
    map (λ x. record { state = x; moves = depth; paid = paid }) (map (λ o. apply o (values_of r s)) (tabulate (λ k. cells_at r (at_outcome m k)) k n)) ≡
    awaited_from r s depth paid (at_outcome m k) n
unfolding tabulate awaited_from reached values_of
outcomes_awaited r s m depth paid k zero = refl
outcomes_awaited r s m depth paid k (suc n) =
    let e : at_outcome m k + 16 ≡ at_outcome m (suc k) = omega arith in
    rw (outcome_of_values r s m k, e) (ap (λ l. reached r (apply (cells_at r (at_outcome m k)) s) depth paid ∷ l) (outcomes_awaited r s m depth paid (suc k) n))

pub begun_awaits : (r s : List ℕ) (m depth paid : ℕ) → m < (tower r).actions →
    pending_after (tower r) (reached r s depth paid) m ≡ awaited r (begun_frame r m s depth paid)
unfolding reached awaited begun_frame
begun_awaits r s m depth paid l =
    let e : at_action m + in_outcomes ≡ at_outcome m 0 = omega arith in
    rw (tower_weight r m l, tower_successors r m (values_of r s) l, e, ← add-one depth)
    (outcomes_awaited r s m (depth + 1) (paid + (action_of r m).weight) 0 (outcome_count r m))

-- A frame awaits the state after its next outcome, and then what the rest of it awaits; with no outcome left, nothing.
module _ (r : List ℕ) (f : Frame) where
  pub next_awaited : 1 ≤ f.left → awaited r f ≡ reached r (apply (cells_at r f.next) f.state) f.depth f.paid ∷ awaited r (rest_frame f)
  unfolding awaited awaited_from rest_frame
  next_awaited l = let e : f.left ≡ suc (f.left - 1) = omega arith in ap (awaited_from r f.state f.depth f.paid f.next) e

  pub none_awaited : f.left ≡ 1 → awaited r (rest_frame f) ≡ []
  unfolding awaited awaited_from rest_frame
  none_awaited e = let z : f.left - 1 ≡ 0 = omega arith in ap (awaited_from r f.state f.depth f.paid (f.next + 16)) z

-- The frames in use: a frame that is stored behind them is then the topmost, and the topmost goes first.
module _ (frames : List Frame) where
  pub length-topmost_first : (n : ℕ) → length (topmost_first frames n) ≡ n
  unfolding topmost_first
  length-topmost_first zero = refl
  length-topmost_first (suc n) = ap suc (length-topmost_first n)

  pub topmost_goes : (n : ℕ) → (n ≡ 0 → ⊥) → topmost_first frames n ≡ frame_at frames (n - 1) ∷ topmost_first frames (n - 1)
  unfolding topmost_first
  topmost_goes n f = let e : n ≡ suc (n - 1) = omega (arith, f) in ap (topmost_first frames) e

module _ (frames : List Frame) (i : ℕ) (f : Frame) where
  below_stored : (n : ℕ) → n ≤ i → topmost_first (set frames i f) n ≡ topmost_first frames n
  unfolding topmost_first frame_at
  below_stored zero l = refl
  below_stored (suc n) l = rw (get_or-set_other frames i n f (record { state = []; next = 0; paid = 0; depth = 0; left = 0 }) (λ e. omega arith), below_stored n (omega arith))

  pub top_stored : i < length frames → topmost_first (set frames i f) (i + 1) ≡ f ∷ topmost_first frames i
  unfolding topmost_first frame_at
  top_stored l = rw (add-one i, get_or-set_same frames i f (record { state = []; next = 0; paid = 0; depth = 0; left = 0 }) l, below_stored i (omega arith))
