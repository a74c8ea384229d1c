-- A step of writing: what it keeps, and the plan that it writes. Assumes nothing.
use Rattle.std.specs.Prelude.{◌≡◌, ℕ, length}
use Rattle.search.specs.Written.{Writes}
use Rattle.search.specs.declared.write.Writer.{Writer}

-- The writer went from old to new: instance, memory, slots and buffer are the same ones, as long as they were, and the plan of state s with depth d was
-- written from `at` to `end`.
pub record Goes (s d at : ℕ) (old new : Writer) (end : ℕ) : Type 0 where
  pub same_instance : new.instance ≡ old.instance
  pub same_memory : new.memory.ghost_name ≡ old.memory.ghost_name
  pub same_written : new.written.ghost_name ≡ old.written.ghost_name
  pub same_plan : new.plan.ghost_name ≡ old.plan.ghost_name
  pub long : length new.plan.now ≡ length old.plan.now
  pub writes : Writes old.instance.now d s at new.memory.now new.written.now old.plan.now new.plan.now end
