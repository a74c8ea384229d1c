-- The parts of a build together: words of the states, weights, mask, and entries that were settled give the table. Assumes nothing.
use Rattle.std.proofs.Common.{◌≡◌, ℕ, ◌-◌, ◌<◌, false, not, List, ◌++◌, length, get_or, take, replicate, sym, ap, ◌∙◌, arith}
use Rattle.planning.specs.Task.{Task}
use Rattle.planning.specs.Table.{index, state_count, state_at}
use Rattle.planning.proofs.Finite.{length-tabulate}
use Rattle.planning.specs.Sets.{set_from}
use Rattle.packed_task.specs.Packed.{pack_by, low, picking, compiled}
use Rattle.packed_task.specs.Packable.{Packable}
use Rattle.tables.specs.Steps.{weights_from, Space, space, none, started, Settled}
use Rattle.packed_task.specs.Within.{idles}
use Rattle.tables.specs.Built.{Built}
use Rattle.tables.proofs.Spacing.{weigh-index, weigh_padded}
use Rattle.tables.proofs.Settled.{Stands, steps_length, settled_is_table}
use Rattle.packed_task.proofs.SetWords.{left_all, none_left}
use Rattle.task_record.proofs.Sixteens.{zeros}
use Rattle.task_record.proofs.Tests.{false_true}

-- Where every action may leave each state as it is, the start is the table.
pub settled_idle : (x : Space) (t : List ℕ) (effective : ℕ) → effective ≡ set_from (λ m. not (idles x.task x.mask m)) 0 x.actions → effective ≡ 0 → Settled x t t
settled_idle x t effective e z = record { steps = none; stable = record { low = λ m i l b q h. false_true (sym (rw q at (idle m l))) } }
  where
    idle : (m : ℕ) → m < x.actions → not (idles x.task x.mask m) ≡ false
    idle m l = none_left (λ m. not (idles x.task x.mask m)) 0 x.actions effective (left_all (λ m. not (idles x.task x.mask m)) x.actions effective e) z m (omega arith) l

-- Where every entry is 0 none can fall.
pub settled_free : (x : Space) (t : List ℕ) (n : ℕ) → t ≡ replicate n 0 → Settled x t t
settled_free x t n z = record { steps = none; stable = record { low = λ m i l b q h. let e : get_or t i 0 ≡ 0 = rw z (zeros n i) in omega (arith, e) } }

module _ (a : List ℕ) (actions n mask : ℕ) (sizes p weights states new : List ℕ)
    (m : mask ≡ pack_by picking p) (w : weights ≡ weights_from 1 (take n sizes) p ++ replicate (16 - n) 0)
    (s : (i : ℕ) → i < state_count (take n sizes) p → get_or states i 0 ≡ pack_by low (state_at (take n sizes) p i)) where
  stands : (t : Task) → Packable t → take n sizes ≡ t.sizes → a ≡ compiled t → actions ≡ length t.actions → Stands t p (space a mask weights states actions)
  unfolding index
  stands t k z c b = record {
    task_is = c;
    mask_is = m;
    weights_are = λ y o. rw (w, weigh_padded (weights_from 1 (take n sizes) p) (16 - n) (pack_by low y), z) (weigh-index 1 t.sizes p y k.values_few o.0);
    states_are = rw z at s;
    actions_are = b;
  }

  pub parts_settled : (first : List ℕ) → first ≡ started a mask states (state_count (take n sizes) p) → Settled (space a mask weights states actions) first new → Built a actions n sizes p new
  unfolding started
  parts_settled first f e = record {
    is_table = λ t v k z c b small. let l = steps_length e.steps ∙ ap length f ∙ length-tabulate _ 0 (state_count (take n sizes) p) in
        settled_is_table t v k p (space a mask weights states actions) (stands t k z c b) new (rw z at l) (rw (f, z) at e.steps) e.stable small;
  }
