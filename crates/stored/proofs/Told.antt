-- What the call answers and leaves, in each of its cases. Assumes nothing.
use Rattle.std.proofs.Common.{◌≡◌, ℕ, ◌<◌, ◌≤◌, ◌++◌, List, length, drop, refl, le-ltb, lt-ltb, Result, Ok, Err}
use Rattle.task_record.specs.Layout.{record_size}
use Rattle.task_record.specs.Refusals.{after}
use Rattle.task_record.specs.declared.refusal.Refusal.{Refusal}
use Rattle.task_record.specs.declared.refusal.Refusal.TheVariants.{ShortRecord}
use Rattle.stored.specs.FirstRecord.{first_check}
use Rattle.stored.specs.Upgrade.{upgraded, target_check, upgrade_answer, upgrade_leaves}

-- What answers after the first lines, the first lines do not refuse.
pub answered_after : (x : Result Unit Refusal) (next : Unit {0} → Result Unit Refusal) → after x next ≡ Ok tt → x ≡ Ok tt
answered_after (Ok u) next h = refl
answered_after (Err e) next h = h

module _ (stored target : List ℕ) where
  pub old_refuses : (e : Refusal) → first_check stored ≡ Err e → (Err e ≡ upgrade_answer stored (length target)) × (target ≡ upgrade_leaves stored target)
  unfolding upgrade_answer upgrade_leaves
  old_refuses e h = (rw h, rw h)

  module _ (passed : first_check stored ≡ Ok tt) where
    pub target_refuses : length target < record_size → (Err (ShortRecord (length target)) ≡ upgrade_answer stored (length target)) × (target ≡ upgrade_leaves stored target)
    unfolding upgrade_answer upgrade_leaves target_check
    target_refuses l = (rw (passed, lt-ltb (length target) record_size l), rw (passed, lt-ltb (length target) record_size l))

    pub is_upgraded : record_size ≤ length target → (Ok tt ≡ upgrade_answer stored (length target)) × (upgraded stored ++ drop record_size target ≡ upgrade_leaves stored target)
    unfolding upgrade_answer upgrade_leaves target_check
    is_upgraded l = (rw (passed, le-ltb (length target) record_size l), rw (passed, le-ltb (length target) record_size l))
