-- What a build of a pattern's table rests on holds of a sound record, for each of its patterns, and what it builds is the definition's table.
-- Assumes nothing.
use Rattle.std.proofs.Common.{◌≡◌, ℕ, not, List, ap}
use Rattle.planning.specs.Table.{state_count}
use Rattle.task_record.specs.Layout.{at_pattern}
use Rattle.task_record.specs.Numbers.{variable_count, action_count}
use Rattle.task_record.specs.Record.{Sound}
use Rattle.task_record.specs.TaskOf.{cells_at}
use Rattle.patterns.proofs.Sizes.{sizes_taken}
use Rattle.packed_task.specs.Packed.{pack_by, picking}
use Rattle.planning.specs.Sets.{set_from}
use Rattle.packed_task.specs.Within.{idles}
use Rattle.tables.specs.Patterned.{Ready, Chosen, PatternOf}
use Rattle.packed_task.proofs.SoundPacked.{sound_readable}
use Rattle.tables.proofs.Standing.{sound_walkable}
use Rattle.tables.proofs.TableChain.{pattern_bounded, built_is_table}

module _ {r task sizes : List ℕ} {p : ℕ} (sound : Sound r) (c : Chosen r task sizes p)
    {actions n mask effective : ℕ} {picked : List ℕ} (a : actions ≡ action_count r) (v : n ≡ variable_count r) (q : picked ≡ cells_at r (at_pattern p)) where
  pub sound_ready : mask ≡ pack_by picking picked → effective ≡ set_from (λ m. not (idles task mask m)) 0 actions →
      Ready (record { task = task; actions = actions; variables = n; sizes = sizes; picked = picked; mask = mask; effective = effective })
  sound_ready m l = record {
    readable = rw (c.task_is, a) (sound_readable r sound);
    walkable = rw (m, c.task_is, a, v, q) (sound_walkable r sound p c.known sizes c.sixteen c.few);
    bounded = rw (v, q) (pattern_bounded r sound sizes c.sixteen (cells_at r (at_pattern p)) c.few);
    masked = m;
    effective_is = l;
  }

  pub sound_pattern : PatternOf r p (record { task = task; actions = actions; variables = n; sizes = sizes; picked = picked; mask = mask; effective = effective })
  sound_pattern = record {
    states = rw (v, q) (ap (λ z. state_count z (cells_at r (at_pattern p))) (sizes_taken r sound sizes c.sixteen));
    table_is = λ entries b. built_is_table r sound sizes c.sixteen (cells_at r (at_pattern p)) c.few entries (rw (c.task_is, a, v, q) at b);
  }
