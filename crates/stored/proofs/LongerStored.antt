-- A stored record that is longer than it need be is judged and upgraded by its first 9,464 bytes. Assumes nothing.
use Rattle.std.proofs.Common.{◌≡◌, ℕ, ◌+◌, ◌-◌, ◌*◌, ◌/◌, ◌%◌, ◌<◌, ◌≤◌, cond, ltb, List, length, get_or, take, sym, ap, zero-add, arith, length-take-le, get_or-take, take_all, le-ltb}
use Rattle.planning.specs.Finite.{tabulate}
use Rattle.task_record.specs.Refusals.{after}
use Rattle.task_record.proofs.Scanning.{first_same}
use Rattle.stored.specs.FirstLayout.{first_size, first_budget}
use Rattle.stored.specs.FirstRecord.{first_head_ok, first_size_ok, first_assignment_ok, first_start_ok, first_pattern_ok, first_count_ok, first_action_ok, first_cell_ok, first_wrong, first_check}
use Rattle.stored.specs.Upgrade.{added_cost, added_costs, upgraded, target_check, upgrade_answer, upgrade_leaves}

-- Two records with the same 9,464 bytes.
module _ (r e : List ℕ) (same : (k : ℕ) → k < first_size → get_or e k 0 ≡ get_or r k 0) where
  same_first : (k : ℕ) → k < first_size → first_cell_ok e k ≡ first_cell_ok r k
  unfolding first_cell_ok first_head_ok first_budget first_size_ok first_assignment_ok first_start_ok first_pattern_ok first_action_ok first_count_ok
  same_first k l =
      let c = (k - 184) % 145 in
      rw (
        same k l,
        same 0 (omega arith),
        same 1 (omega arith),
        same 2 (omega arith),
        same 3 (omega arith),
        same 4 (omega arith),
        same 5 (omega arith),
        same 6 (omega arith),
        same 7 (omega arith),
        same (8 + (k - 24)) (omega arith),
        same (8 + (k - 40)) (omega arith),
        same (184 + 145 * ((k - 184) / 145)) (omega arith),
        same (8 + (c - 1)) (omega arith),
        same (8 + (c - 17) % 16) (omega arith),
      )

  same_check : first_size ≤ length r → first_size ≤ length e → first_check e ≡ first_check r
  unfolding first_check first_wrong
  same_check long longer =
      let f = first_same (first_cell_ok e) (first_cell_ok r) 0 first_size (λ i l. rw zero-add (same_first i l)) in
      rw (le-ltb (length r) first_size long, le-ltb (length e) first_size longer, f)

  same_costs : added_costs e ≡ added_costs r
  unfolding added_costs added_cost
  same_costs = ap (λ n. tabulate (λ m. cond (ltb m n) 1 0) 0 64) (same 1 (omega arith))

module _ (r : List ℕ) (long : first_size ≤ length r) where
  abbrev front : List ℕ
  front = take first_size r

  front_whole : length front ≡ first_size
  front_whole = length-take-le first_size r long

  front_byte : (k : ℕ) → k < first_size → get_or r k 0 ≡ get_or front k 0
  front_byte k l = sym (get_or-take first_size r k 0 l)

  -- The old 5 and 6 of a longer record are those of its front,
  pub check_by_front : first_check r ≡ first_check front
  check_by_front = let w = front_whole in same_check front r front_byte (omega arith) long

  pub upgraded_by_front : upgraded r ≡ upgraded front
  unfolding upgraded
  upgraded_by_front = let w = front_whole in rw (take_all first_size front (omega arith), same_costs front r front_byte)

  -- and so are the answer and what the target holds.
  pub answer_by_front : (n : ℕ) → upgrade_answer r n ≡ upgrade_answer front n
  unfolding upgrade_answer
  answer_by_front n = ap (λ x. after x (λ u. target_check n)) check_by_front

  pub leaves_by_front : (target : List ℕ) → upgrade_leaves r target ≡ upgrade_leaves front target
  unfolding upgrade_leaves
  leaves_by_front target = rw (answer_by_front (length target), upgraded_by_front)
