-- A compiled task within a mask: its goal, its preconditions, and the states after its outcomes, of the digits of some variables alone. Assumes nothing.
use Rattle.std.specs.Prelude.{ℕ, Bool, List, ◌==◌, bit_and, bit_or, nat_eq}
use Rattle.planning.specs.Finite.{any_from}
use Rattle.packed_task.specs.Packed.{pre_mask, pre_value, outcome_count, keep_mask, set_value, goal_mask, goal_value}

-- Goal and precondition within the pattern, and the state after outcome k of action m.
unfoldable pub is_goal : List ℕ → ℕ → ℕ → Bool
is_goal a k s = bit_and s (bit_and (goal_mask a) k) == bit_and (goal_value a) k

unfoldable pub permitted : List ℕ → ℕ → ℕ → ℕ → Bool
permitted a k m s = bit_and s (bit_and (pre_mask a m) k) == bit_and (pre_value a m) k

unfoldable pub after : List ℕ → ℕ → ℕ → ℕ → ℕ → ℕ
after a k m o s = bit_and (bit_or (bit_and s (keep_mask a m o)) (set_value a m o)) k

-- An outcome of action m names no variable of the pattern, so that it leads from each abstract state to itself.
unfoldable pub idles : List ℕ → ℕ → ℕ → Bool
idles a k m = any_from 0 (outcome_count a m) (λ o. nat_eq (bit_and (keep_mask a m o) k) k)
