-- Laws of the two loops that examine, in the code's numbers: over the actions of a state that opens, and over the outcomes of an action.
-- Assumes nothing.
use Rattle.std.proofs.Common.{◌≡◌, ℕ, ◌+◌, ◌-◌, ◌/◌, ◌%◌, ◌<◌, ◌≤◌, List, ◌∷◌, get_or, leb, sym, refl, ◌∙◌, arith}
use lib.Bits.{bit_and, bit_or}
use lib.Count.{count_trailing_zeros}
use Rattle.planning.specs.Finite.{tabulate}
use Rattle.planning.specs.Plan.{Plan, Plans, done}
use Rattle.planning.specs.Sets.{set_from}
use Rattle.planning.proofs.Sets.{set_meet}
use Rattle.planning.specs.Search.{Result}
use Rattle.packed_task.specs.Packed.{outcome_count, action_weight, need_met, keep_mask, set_value, packed_system}
use Rattle.packed_task.specs.Sets.{met_bytes, meet_from}
use Rattle.search.specs.declared.examine.Ending.{Ending}
use Rattle.search.specs.declared.instance.Instance.{Instance}
use Rattle.search.specs.declared.examine.Ending.TheVariants.{Stopped, Failed, Succeeded}
use Rattle.search.specs.Examination.{plan_size, plan_head, plans_size, plans_head}
use Rattle.search.specs.Memory.{stored, Remembers, Noted}
use Rattle.search.specs.Packed.{instance_examination, instance_outcomes, instance_value, instance_rest, instance_sum}
use Rattle.search.specs.Cycle.{Examinable, Openable, Examines}
use Rattle.search.proofs.Openings.{expand_tries_all}
use Rattle.search.proofs.Carrying.{carried}
use Rattle.search.proofs.Trying.{worth, Trying, trying_begins, trying_within, trying_affords, trying_stops, trying_wins, trying_goes_on, trying_ends}
use Rattle.search.proofs.Endings.{Success, success_of_ending, failure_of_ending, stop_of_ending, ends_success, ends_failure, ends_stop, act_size, act_head, Resumes, row_begins, row_next, row_over, row_stops, row_fails, row_goes_on, row_ends}
use Rattle.search.proofs.Remembering.{failure_remembered, success_remembered}
use Rattle.search.proofs.Looking.{opened_facts, opened_value}
use Rattle.search.specs.declared.memory.Slot.{Slot}

-- In the middle of the loop over the actions of state s: those left in the set, from the count c, make the whole examination.
pub record Examining (instance : Instance) (s d count set c : ℕ) (memory : List Slot) : Type 0 where
  pub trying : Trying instance.task.now instance.constants.actions (instance_value instance) instance.constants.budget (instance_examination instance) d s (instance_examination instance d s count) set c
  pub counted : count + 1 ≤ c
  pub within : c ≤ instance.constants.budget
  pub remembers : Remembers (instance_examination instance) instance.constants.budget memory

module _ {instance : Instance} {memory : List Slot} {s value d count : ℕ} (p : Openable instance memory s value d count) where
  abbrev r : ℕ → ℕ → ℕ → Result Plan
  r = instance_examination instance

  -- What applies and the depth affords, met.
  set_met : {set : ℕ} → set ≡ bit_and (meet_from instance.sets.now 0 (met_bytes ((instance.constants.variables + 1) / 2)) s) (get_or instance.affordable.now (d % 256) 0) →
      set ≡ set_from (worth instance.task.now instance.constants.actions (instance_value instance) instance.constants.budget r d s) 0 instance.constants.actions
  set_met f = let l = p.examinable.shallow in let z : d % 256 ≡ d = omega arith in f ∙ rw (z, instance.matching.applying.set_is s, instance.matching.affords.set_is d l)
      (set_meet (λ m. need_met instance.task.now m s) (λ m. leb (action_weight instance.task.now m) d) 0 instance.constants.actions)

  pub examining_begins : {set : ℕ} → set ≡ bit_and (meet_from instance.sets.now 0 (met_bytes ((instance.constants.variables + 1) / 2)) s) (get_or instance.affordable.now (d % 256) 0) → Examining instance s d count set (count + 1) memory
  examining_begins {set} f = let x = p.examinable in record {
    trying = trying_begins instance.task.now instance.constants.actions (instance_value instance) instance.constants.budget r d s (r d s count) set (count + 1) (set_met f)
        (expand_tries_all instance.task.now instance.constants.actions (instance_value instance) instance.constants.budget d s count instance.matching.ready.weights p.opens);
    counted = omega arith;
    within = omega (arith, (opened_facts x p.opens).0);
    remembers = x.remembers;
  }

  -- The next action is the lowest of the set. Its outcomes may be examined, and what they end with ends the whole or leaves the actions after it.
  module _ {set c m : ℕ} {later : List Slot} (i : Examining instance s d count set c later) (some : set ≡ 0 → ⊥) (e : m ≡ count_trailing_zeros 64 set) where
    pub action_known : m < instance.constants.actions
    action_known = trying_within instance.task.now instance.constants.actions (instance_value instance) instance.constants.budget r d s (r d s count) set c m instance.matching.ready.few_actions i.trying some e

    action_afforded : action_weight instance.task.now m ≤ d
    action_afforded = trying_affords instance.task.now instance.constants.actions (instance_value instance) instance.constants.budget r d s (r d s count) set c m instance.matching.ready.few_actions i.trying some e

    pub action_asks : Examinable instance later s value d c × (m < instance.constants.actions) × (value < 256) × (action_weight instance.task.now m ≤ d)
    action_asks = let x = p.examinable in (record { remembers = i.remembers; within = i.within; shallow = x.shallow; valued = x.valued }, action_known, opened_value x p.opens, action_afforded)

    module _ {after : List Slot} {a : Ending} (h : Examines plans_size plans_head r instance.constants.budget (instance_outcomes instance d s m c) c after a) where
      pub action_stops : (k : ℕ) → a ≡ Stopped k → Examines plan_size plan_head r instance.constants.budget (r d s count) count after (Stopped k)
      action_stops k f = let t = stop_of_ending (instance_outcomes instance d s m c) k (rw f at h) in
          ends_stop plan_size plan_head h.remembers (omega (arith, i.counted, t.1)) t.2
          (trying_stops instance.task.now instance.constants.actions (instance_value instance) instance.constants.budget r d s (r d s count) set c m instance.matching.ready.few_actions i.trying some e (opened_facts p.examinable p.opens).1 k t.0)

      pub action_fails : {left : ℕ} (k : ℕ) → a ≡ Failed k → left ≡ bit_and set (set - 1) → Examining instance s d count left k after
      action_fails k f g = let t = failure_of_ending (instance_outcomes instance d s m c) k (rw f at h) in rw g (record {
        trying = trying_goes_on instance.task.now instance.constants.actions (instance_value instance) instance.constants.budget r d s (r d s count) set c m instance.matching.ready.few_actions i.trying some e (opened_facts p.examinable p.opens).1 k t.0;
        counted = omega (arith, i.counted, t.1);
        within = t.2;
        remembers = h.remembers;
      })

      module _ (k n b : ℕ) (f : a ≡ Succeeded k n b) where
        won : Success plans_size plans_head (instance_outcomes instance d s m c) c instance.constants.budget k n b
        won = success_of_ending (instance_outcomes instance d s m c) k n b (rw f at h)

        pub win_counted : (count ≤ k) × (n + 1 ≤ k - count) × (k ≤ 1000000)
        win_counted = let x = instance.matching.ready.small_budget in (omega (arith, i.counted, won.counted), omega (arith, i.counted, won.counted, won.short), omega (arith, won.budgeted, x))

        pub action_wins : {first : ℕ} {new : List Slot} → first ≡ m → Noted after new (stored s d (k - count) (n + 1) first) → Examines plan_size plan_head r instance.constants.budget (r d s count) count new (Succeeded k (n + 1) first)
        action_wins {first} {new} g o =
            let w = trying_wins instance.task.now instance.constants.actions (instance_value instance) instance.constants.budget r d s (r d s count) set c m instance.matching.ready.few_actions i.trying some e (opened_facts p.examinable p.opens).1 k won.found won.is in
            let u = act_size m won.found n won.sized in
            let v = act_head m won.found ∙ sym g in
            ends_success plan_size plan_head
            (success_remembered (packed_system instance.task.now instance.constants.actions) (instance_value instance) instance.constants.budget d s count k after new h.remembers win_counted.0 _ (n + 1) first o w u v (omega arith) win_counted.1)
            win_counted.0 won.budgeted _ (n + 1) first w u v win_counted.1

  -- No action is left: the state fails, which is noted.
  pub examining_ends : {set c : ℕ} {later new : List Slot} → Examining instance s d count set c later → set ≡ 0 → Noted later new (stored s d (c - count) 0 0) → Examines plan_size plan_head r instance.constants.budget (r d s count) count new (Failed c)
  examining_ends {set} {c} {later} {new} i z o = let l = i.counted in let w = trying_ends instance.task.now instance.constants.actions (instance_value instance) instance.constants.budget r d s (r d s count) set c i.trying z in
      ends_failure plan_size plan_head (failure_remembered (packed_system instance.task.now instance.constants.actions) (instance_value instance) instance.constants.budget d s count c later new i.remembers (omega arith) o w) (omega arith) i.within w

-- In the middle of the loop over the outcomes of action m, of which k are passed with n bytes of plans: the others make the result of the whole row.
pub record Following (instance : Instance) (s d m count left end k c n : ℕ) (memory : List Slot) : Type 0 where
  pub resumes : Resumes (instance_examination instance left) (tabulate (λ j. bit_or (bit_and s (keep_mask instance.task.now m j)) (set_value instance.task.now m j)) k (end - k)) (instance_outcomes instance d s m count) c n
  pub reached : k ≤ end
  pub counted : count ≤ c
  pub within : c ≤ instance.constants.budget
  pub short : n ≤ c - count
  pub remembers : Remembers (instance_examination instance) instance.constants.budget memory

module _ {instance : Instance} {memory : List Slot} {s value d count m : ℕ} (p : Examinable instance memory s value d count × (m < instance.constants.actions) × (value < 256) × (action_weight instance.task.now m ≤ d)) where
  abbrev whole : Result Plans
  whole = instance_outcomes instance d s m count

  module _ {left end : ℕ} (g : left ≡ d - action_weight instance.task.now m) (e : end ≡ outcome_count instance.task.now m) where
    pub following_begins : Following instance s d m count left end 0 count 0 memory
    following_begins = let x = p.0 in record {
      resumes = row_begins instance.task.now instance.constants.actions d m s end (instance_examination instance) count left p.3 g e;
      reached = omega arith;
      counted = omega arith;
      within = x.within;
      short = omega arith;
      remembers = x.remembers;
    }

    -- The next outcome: the state after it may be examined, and what it ends with ends the whole or leaves the outcomes after it.
    module _ {k c n x : ℕ} {later : List Slot} (i : Following instance s d m count left end k c n later) (t : k < end) (u : x ≡ bit_or (bit_and s (keep_mask instance.task.now m k)) (set_value instance.task.now m k)) where
      pub outcome_examinable : {rest w : ℕ} → rest ≡ instance_rest instance s m value →
          w ≡ instance_sum instance x m rest → Examinable instance later x w left c
      outcome_examinable {rest} {w} y z = let v = p.0 in record {
        remembers = i.remembers;
        within = i.within;
        shallow = omega (arith, v.shallow, g);
        valued = carried instance.task.now instance.weights.now instance.constants.offsets instance.tables.now instance.constants.owners instance.constants.actions instance.constants.patterns instance.matching.owned s m k x (get_or instance.constants.owners m 0) p.1 (omega (arith, t, e)) u refl value rest w (v.valued.exact (omega (arith, p.2))) y z;
      }

      next : Resumes (instance_examination instance left) (x ∷ tabulate (λ j. bit_or (bit_and s (keep_mask instance.task.now m j)) (set_value instance.task.now m j)) (k + 1) (end - (k + 1))) whole c n
      next = row_next (λ j. bit_or (bit_and s (keep_mask instance.task.now m j)) (set_value instance.task.now m j)) k end x t u i.resumes

      module _ {after : List Slot} {a : Ending} (h : Examines plan_size plan_head (instance_examination instance) instance.constants.budget (instance_examination instance left x c) c after a) where
        pub outcome_stops : (j : ℕ) → a ≡ Stopped j → Examines plans_size plans_head (instance_examination instance) instance.constants.budget whole count after (Stopped j)
        outcome_stops j f = let o = stop_of_ending (instance_examination instance left x c) j (rw f at h) in ends_stop plans_size plans_head h.remembers (omega (arith, i.counted, o.1)) o.2 (row_stops next o.0)

        pub outcome_fails : (j : ℕ) → a ≡ Failed j → Examines plans_size plans_head (instance_examination instance) instance.constants.budget whole count after (Failed j)
        outcome_fails j f = let o = failure_of_ending (instance_examination instance left x c) j (rw f at h) in ends_failure plans_size plans_head h.remembers (omega (arith, i.counted, o.1)) o.2 (row_fails next o.0)

        module _ (j z b : ℕ) (f : a ≡ Succeeded j z b) where
          won_so : Success plan_size plan_head (instance_examination instance left x c) c instance.constants.budget j z b
          won_so = success_of_ending (instance_examination instance left x c) j z b (rw f at h)

          pub outcome_small : n + z ≤ 1000000
          outcome_small = omega (arith, i.short, won_so.short, won_so.budgeted, won_so.counted, instance.matching.ready.small_budget)

          pub outcome_succeeds : Following instance s d m count left end (k + 1) j (n + z) after
          outcome_succeeds = record {
            resumes = row_goes_on next won_so.found z won_so.is won_so.sized;
            reached = omega arith;
            counted = omega (arith, i.counted, won_so.counted);
            within = won_so.budgeted;
            short = omega (arith, i.counted, i.short, won_so.counted, won_so.short);
            remembers = h.remembers;
          }

-- No outcome is left: the row succeeds.
pub following_ends : {instance : Instance} {s d m count left end k c n : ℕ} {later : List Slot} → Following instance s d m count left end k c n later → end ≤ k →
    Examines plans_size plans_head (instance_examination instance) instance.constants.budget (instance_outcomes instance d s m count) count later (Succeeded c n 0)
following_ends {instance} {s = s} {m = m} {end = end} {k = k} {n = n} i l = let v = row_over (λ j. bit_or (bit_and s (keep_mask instance.task.now m j)) (set_value instance.task.now m j)) k end l i.resumes in
    ends_success plans_size plans_head i.remembers i.counted i.within (v.join done) n 0 (row_ends v).0 (row_ends v).1 refl i.short
