-- Laws of what is decided without examining another state. Assumes nothing.
use Rattle.std.proofs.Common.{◌≡◌, ℕ, ◌+◌, ◌-◌, ◌<◌, ◌≤◌, false, List, Option, Some, None, sym, ap, ◌∙◌, add-one, arith}
use Rattle.planning.specs.System.{Invariant}
use Rattle.planning.specs.Plan.{arrived}
use Rattle.planning.specs.Search.{succeeded, failed}
use Rattle.packed_task.specs.Packed.{packed_system}
use Rattle.search.specs.declared.examine.Opening.{Opening}
use Rattle.search.specs.declared.examine.Ending.{Ending}
use Rattle.search.specs.declared.examine.Ending.TheVariants.{Stopped, Failed, Succeeded}
use Rattle.search.specs.declared.instance.Instance.{Instance}
use Rattle.search.specs.Examination.{plan_size, plan_head}
use Rattle.search.specs.Memory.{stored, Stores}
use Rattle.search.specs.Packed.{instance_examination, instance_opening}
use Rattle.search.specs.Cycle.{Examinable, Openable, Examines, Glanced}
use Rattle.search.proofs.Openings.{packed_invariant, spent_stops, arrived_succeeds, cut_fails, opened_below, arrived_not_spent, cut_not_spent, expand_facts}
use Rattle.search.proofs.Carrying.{opened_within, opened_exact}
use Rattle.search.proofs.Trying.{not_zero}
use Rattle.search.proofs.Endings.{ends_success, ends_failure, ends_stop, arrived_size, arrived_head}
use Rattle.search.specs.declared.memory.Slot.{Slot}

module _ {instance : Instance} {memory : List Slot} {s value d c : ℕ} (x : Examinable instance memory s value d c) where
  abbrev Seen : Option Ending → Type 0
  Seen g = Glanced instance d s c memory g

  sound : Invariant (packed_system instance.task.now instance.constants.actions) (λ s. Unit {0})
  sound = packed_invariant instance.task.now instance.constants.actions instance.matching.ready.weights

  pub looked_spent : instance_opening instance d s c ≡ Opening.Spent → Seen (Some (Stopped c))
  looked_spent o = ends_stop plan_size plan_head x.remembers (omega arith) x.within (spent_stops _ sound _ _ _ _ _ o)

  pub looked_cut : instance_opening instance d s c ≡ Opening.Cut → Seen (Some (Failed (c + 1)))
  looked_cut o = let b = opened_below _ sound _ _ _ _ _ o cut_not_spent x.within in
      ends_failure plan_size plan_head x.remembers (omega arith) (omega arith) (cut_fails _ sound _ _ _ _ _ o ∙ ap failed (sym (add-one c)))

  pub looked_arrived : instance_opening instance d s c ≡ Opening.Arrived → Seen (Some (Succeeded (c + 1) 1 254))
  looked_arrived o = let b = opened_below _ sound _ _ _ _ _ o arrived_not_spent x.within in
      ends_success plan_size plan_head x.remembers (omega arith) (omega arith) arrived 1 254 (arrived_succeeds _ sound _ _ _ _ _ o ∙ ap (succeeded arrived) (sym (add-one c))) arrived_size arrived_head (omega arith)

  pub looked_failed : (k n b : ℕ) → Stores memory (stored s d k n b) → k ≤ instance.constants.budget - c → n ≡ 0 → Seen (Some (Failed (c + k)))
  looked_failed k n b h l z = let w = x.within in ends_failure plan_size plan_head x.remembers (omega arith) (omega arith) ((x.remembers.correct _ h).fails z c (omega arith))

  pub looked_won : (k n b : ℕ) → Stores memory (stored s d k n b) → k ≤ instance.constants.budget - c → (n ≡ 0 → ⊥) → Seen (Some (Succeeded (c + k) n b))
  looked_won k n b h l z = let w = x.within in let v = (x.remembers.correct _ h).wins (not_zero n z) in
      ends_success plan_size plan_head x.remembers (omega arith) (omega arith) v.plan n b (v.succeeds c (omega arith)) v.sized v.headed (omega (arith, v.short))

  pub looked_open : instance_opening instance d s c ≡ Opening.Expand → Seen None
  looked_open o = o

  -- A state that opens: the facts that the loop over its actions goes by.
  module _ (o : instance_opening instance d s c ≡ Opening.Expand) where
    pub opened_facts : (c < instance.constants.budget) × ((packed_system instance.task.now instance.constants.actions).goal s ≡ false) × (1 ≤ d)
    opened_facts = expand_facts _ sound _ _ _ _ _ o x.within

    pub opened_value : value < 256
    opened_value = let v = opened_within _ sound _ _ _ _ _ o value (opened_exact _ sound _ _ _ _ _ o value x.valued (omega (arith, x.shallow))) in omega (arith, v, x.shallow)

  -- What was seen, by the code's word for it: an ending, or that the state opens.
  module _ {g : Option Ending} (h : Seen g) where
    pub seen_decided : (a : Ending) → g ≡ Some a → Examines plan_size plan_head (instance_examination instance) instance.constants.budget (instance_examination instance d s c) c memory a
    seen_decided a e = rw e at h

    pub seen_open : g ≡ None → Openable instance memory s value d c
    seen_open e = record { examinable = x; opens = rw e at h }
