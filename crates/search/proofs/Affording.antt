-- Laws of filling the sets of the actions that a depth affords: each action in the set of its weight, then in each set also those of the one below.
-- Assumes nothing.
use Rattle.std.proofs.Common.{◌≡◌, ℕ, zero, suc, ◌+◌, ◌-◌, ◌*◌, ◌%◌, ◌^◌, ◌<◌, ◌≤◌, ◌||◌, eqb, leb, List, length, get_or, set, sym, refl, ap, ◌∙◌, ap₂, arith, length-set, get_or-set_other, get_or-set_same, eq-eqb, ne_eqb, le-leb}
use native.Mathlib.Nat.{pow-le-pow_right}
use native.Mathlib.Decide.{ℕ_discrete, dec_lt}
use borrow.Author.Tests.{lt-leb}
use lib.Bits.{bit_or}
use Rattle.planning.specs.Sets.{set_from}
use Rattle.planning.proofs.Sets.{set_same, set_join}
use Rattle.packed_task.specs.Packed.{action_weight}
use Rattle.packed_task.proofs.SetWords.{set_more}
use Rattle.search.specs.Examination.{Affordable}

-- Actions below k are entered, each in the set of its weight.
pub record Entering (task sets : List ℕ) (k : ℕ) : Type 0 where
  pub long : length sets ≡ 256
  pub word : (d : ℕ) → d < 256 → get_or sets d 0 ≡ set_from (λ m. eqb (action_weight task m) d) 0 k

pub entering_starts : (task sets : List ℕ) → length sets ≡ 256 → ((i : ℕ) → get_or sets i 0 ≡ 0) → Entering task sets 0
unfolding set_from
entering_starts task sets l z = record { long = l; word = λ d b. z d }

module _ {task sets : List ℕ} {k : ℕ} (e : Entering task sets k) (few : k < 64) (w : ℕ) (at : w ≡ action_weight task k) (small : w < 256)
    (y : ℕ) (joined : y ≡ bit_or (get_or sets w 0) (1 * 2 ^ k % 18446744073709551616)) where
  joined_bit : y ≡ bit_or (get_or sets w 0) (2 ^ k)
  joined_bit = let l : k ≤ 63 = omega arith in let p = pow-le-pow_right {n = 2} (omega arith) l in let one : 1 * 2 ^ k % 18446744073709551616 ≡ 2 ^ k = omega arith in rw one at joined

  word_after : (d : ℕ) → Dec (d ≡ w) → d < 256 → get_or (set sets w y) d 0 ≡ set_from (λ m. eqb (action_weight task m) d) 0 (k + 1)
  word_after d (yes q) b = let s = rw (eq-eqb (action_weight task k) w (sym at)) at (set_more (λ m. eqb (action_weight task m) w) k) in
      rw q (get_or-set_same sets w y 0 (omega (arith, e.long)) ∙ joined_bit ∙ ap (λ z. bit_or z (2 ^ k)) (e.word w small) ∙ sym s)
  word_after d (no q) b = let s = rw (ne_eqb (action_weight task k) d (λ z. q (sym z ∙ sym at))) at (set_more (λ m. eqb (action_weight task m) d) k) in
      get_or-set_other sets w d y 0 (λ z. q (omega arith)) ∙ e.word d b ∙ sym s

  pub entering_next : Entering task (set sets w y) (k + 1)
  entering_next = record { long = length-set sets w y ∙ e.long; word = λ d. word_after d (ℕ_discrete d w) }

-- The sets below d also hold what weighs less, and those from d on hold what weighs exactly as much.
pub record Joining (task sets : List ℕ) (actions d : ℕ) : Type 0 where
  pub long : length sets ≡ 256
  pub begun : 1 ≤ d
  pub below : (j : ℕ) → j < d → j < 256 → get_or sets j 0 ≡ set_from (λ m. leb (action_weight task m) j) 0 actions
  pub above : (j : ℕ) → d ≤ j → j < 256 → get_or sets j 0 ≡ set_from (λ m. eqb (action_weight task m) j) 0 actions

weighs_nothing : (a : ℕ) → eqb a 0 ≡ leb a 0
weighs_nothing zero = refl
weighs_nothing (suc a) = ne_eqb (suc a) 0 (λ z. omega arith) ∙ sym (lt-leb (suc a) 0 (omega arith))

-- What weighs d or at most d - 1 weighs at most d.
weighs_most : (a d : ℕ) → 1 ≤ d → Dec (a ≡ d) → Dec (a < d) → (eqb a d || leb a (d - 1)) ≡ leb a d
weighs_most a d o (yes q) l = rw (eq-eqb a d q, le-leb a d (omega arith))
weighs_most a d o (no q) (yes l) = rw (ne_eqb a d q, le-leb a (d - 1) (omega arith), le-leb a d (omega arith))
weighs_most a d o (no q) (no l) = rw (ne_eqb a d q, lt-leb a (d - 1) (omega arith), lt-leb a d (above_it (dec_lt d a)))
  where
    above_it : Dec (d < a) → d < a
    above_it (yes g) = g
    above_it (no g) = absurd (q (omega arith))

pub joining_starts : {task sets : List ℕ} {k : ℕ} (actions : ℕ) → Entering task sets k → k ≡ actions → Joining task sets actions 1
joining_starts {task} {sets} {k} actions e q = record { long = e.long; begun = omega arith; below = first; above = λ j l b. rw q at (e.word j b) }
  where
    first : (j : ℕ) → j < 1 → j < 256 → get_or sets j 0 ≡ set_from (λ m. leb (action_weight task m) j) 0 actions
    first zero l b = rw q at (e.word 0 b) ∙ set_same (λ m. eqb (action_weight task m) 0) (λ m. leb (action_weight task m) 0) 0 actions (λ m g h. weighs_nothing (action_weight task m))
    first (suc j) l b = absurd (omega arith)

module _ {task sets : List ℕ} {actions d : ℕ} (i : Joining task sets actions d) (small : d < 256) (y : ℕ) (joined : y ≡ bit_or (get_or sets d 0) (get_or sets (d - 1) 0)) where
  below_after : (j : ℕ) → Dec (j ≡ d) → j < d + 1 → j < 256 → get_or (set sets d y) j 0 ≡ set_from (λ m. leb (action_weight task m) j) 0 actions
  below_after j (yes q) l b = rw q (get_or-set_same sets d y 0 (omega (arith, i.long)) ∙ joined ∙ ap₂ (λ u v. bit_or u v) (i.above d (omega arith) small) (i.below (d - 1) (omega (arith, i.begun)) (omega arith))
      ∙ set_join (λ m. eqb (action_weight task m) d) (λ m. leb (action_weight task m) (d - 1)) 0 actions
      ∙ set_same (λ m. eqb (action_weight task m) d || leb (action_weight task m) (d - 1)) (λ m. leb (action_weight task m) d) 0 actions
      (λ m g h. weighs_most (action_weight task m) d i.begun (ℕ_discrete (action_weight task m) d) (dec_lt (action_weight task m) d)))
  below_after j (no q) l b = get_or-set_other sets d j y 0 (λ z. q (omega arith)) ∙ i.below j (below_it (dec_lt j d)) b
    where
      below_it : Dec (j < d) → j < d
      below_it (yes g) = g
      below_it (no g) = absurd (q (omega arith))

  pub joining_next : Joining task (set sets d y) actions (d + 1)
  joining_next = record {
    long = length-set sets d y ∙ i.long;
    begun = omega arith;
    below = λ j. below_after j (ℕ_discrete j d);
    above = λ j l b. get_or-set_other sets d j y 0 (λ z. absurd (omega arith)) ∙ i.above j (omega arith) b;
  }

pub joining_ends : {task sets : List ℕ} {actions d : ℕ} → Joining task sets actions d → 256 ≤ d → Affordable task sets actions
joining_ends i l = record { set_is = λ j b. i.below j (omega arith) b }
