-- The words of an edge lead back along its outcome: no state before a state is missed. Assumes nothing.
use Rattle.std.proofs.Common.{◌≡◌, ℕ, zero, suc, ◌+◌, ◌-◌, ◌*◌, ◌/◌, ◌%◌, ◌^◌, ◌<◌, ◌≤◌, true, eqb, List, get_or, sym, ap, ◌∙◌, subst, ⊎_elim, arith, eqb-true}
use native.Mathlib.Decide.{dec_lt}
use lib.Bits.{bit_and}
use Rattle.planning.proofs.Test.{by_test}
use Rattle.packed_task.specs.Packed.{pre_mask, pre_value, outcome_count, keep_mask, set_value}
use Rattle.tables.specs.Steps.{weigh, Space, permitted_at}
use Rattle.packed_task.specs.Within.{after, permitted}
use Rattle.tables.specs.Waiting.{index_after}
use Rattle.tables.specs.Edges.{edge_mask, edge_back, edge_free, edge_lanes, lane_weight, lane_values, lane_digit, lane_value, lane_sum, lane_after, way_back, Before, Choices, StandsFor, named, freed, digit, PlainMask, Regular}
use Rattle.tables.specs.Made.{LaneAt, LaneOf, one, none, Same, back_of, EdgeIs, Served}
use Rattle.tables.specs.declared.worklist.edge.Edge.{Edge}
use Rattle.tables.proofs.Digits.{Fits, changed, changed_same, weigh_before, weigh-least, word_test, test_plain, freed_mod, freed_div, further_digit, place_is, digit_without, weigh_without}

-- A lane: its weight, place and number of values; what the free digits add is what it adds and what the rest does.
lane_word : (lane w u z : ℕ) → lane ≡ w + 65536 * (4 * u) + 16777216 * z → w < 65536 → u < 16 → z < 256 → (lane_weight lane ≡ w) × (lane / 65536 % 64 ≡ 4 * u) × (lane_values lane ≡ z) × (lane < 4294967296)
lane_word lane w u z e a b c = (omega arith, omega arith, omega arith, omega arith)

module _ {ws sizes : List ℕ} {free lane rest : ℕ} where
  lane_parts : (u : ℕ) → LaneAt ws sizes free lane rest u → (lane_weight lane ≡ get_or ws u 0) × (lane / 65536 % 64 ≡ 4 * u) × (lane_values lane ≡ get_or sizes u 0) × (lane < 4294967296)
  lane_parts u a = lane_word lane (get_or ws u 0) u (get_or sizes u 0) a.is a.light a.near a.small

  lane_digit_lem : (u s : ℕ) → LaneAt ws sizes free lane rest u → lane_digit lane s ≡ digit s u
  unfolding lane_digit
  lane_digit_lem u s a = rw ((lane_parts u a).1, place_is u)

  pub lane_small : LaneOf ws sizes free lane rest → lane < 4294967296
  lane_small (one u a) = (lane_parts u a).3
  lane_small (none e f) = omega (arith, e)

  pub lane_sum_lem : (s : ℕ) → LaneOf ws sizes free lane rest → weigh ws (bit_and s free) ≡ lane_sum lane s + weigh ws (bit_and s rest)
  unfolding lane_sum
  lane_sum_lem s (one u a) = rw (lane_digit_lem u s a, (lane_parts u a).0, a.others) (weigh_without ws u s free a.free_there)
  lane_sum_lem s (none e f) = let z : lane_weight lane ≡ 0 = omega (arith, e) in rw (z, f) (omega arith)

  module _ (states : List ℕ) (n : ℕ) (h : Choices states sizes n 0 free) where
    lane_below : (i u : ℕ) → i < n → LaneAt ws sizes free lane rest u → digit (get_or states i 0) u < get_or sizes u 0
    lane_below i u l a = let z : 0 + u ≡ u = omega arith in rw z at (h.bound u i l (λ q. omega (arith, a.free_there, q)))

    pub lane_value_lem : (i : ℕ) → i < n → LaneOf ws sizes free lane rest → lane_value lane (get_or states i 0) < lane_values lane
    unfolding lane_value
    lane_value_lem i l (one u a) = let b = lane_below i u l a in by_test (eqb (lane_weight lane) 0)
        (λ t. rw (t, (lane_parts u a).2) (omega (arith, b)))
        (λ t. rw (t, (lane_parts u a).2, lane_digit_lem u (get_or states i 0) a) b)
    lane_value_lem i l (none e f) = let z : lane_weight lane ≡ 0 = omega (arith, e) in let y : lane_values lane ≡ 1 = ap (λ t. t / 16777216 % 256) e in rw (z, y) (omega arith)

    pub choices_rest : LaneOf ws sizes free lane rest → Choices states sizes n 0 rest
    choices_rest (one u a) = record { bound = λ v i l f. h.bound v i l (λ q. f (ap (λ y. digit y v) a.others ∙ digit_without v u free a.free_there q)) }
    choices_rest (none e f) = rw f h

-- Two lanes in a word.
module _ (lanes a b : ℕ) (e : lanes ≡ a + 4294967296 * b) where
  first_weight : lane_weight lanes ≡ lane_weight a
  first_weight = omega (arith, e)

  first_place : lanes / 65536 % 64 ≡ a / 65536 % 64
  first_place = omega (arith, e)

  first_values : lane_values lanes ≡ lane_values a
  first_values = omega (arith, e)

  first_digit : (s : ℕ) → lane_digit lanes s ≡ lane_digit a s
  unfolding lane_digit
  first_digit s = rw first_place

  first_sum : (s : ℕ) → lane_sum lanes s ≡ lane_sum a s
  unfolding lane_sum
  first_sum s = rw (first_weight, first_digit s)

  first_value : (s : ℕ) → lane_value lanes s ≡ lane_value a s
  unfolding lane_value
  first_value s = rw (first_weight, first_digit s)

  second_is : a < 4294967296 → lane_after lanes ≡ b
  second_is l = omega (arith, e)

-- A digit that is free is one of the mask.
free_none : (k keeps need : ℕ) → k ≡ 0 → freed k keeps need ≡ 0
unfolding freed named
free_none k keeps need e = omega arith

free_digit_lem : (u k keeps need : ℕ) → digit k u ≡ 0 → digit (freed k keeps need) u ≡ 0
free_digit_lem zero k keeps need e = let z : k / 16 ^ 0 ≡ k = omega arith in let y : freed k keeps need / 16 ^ 0 ≡ freed k keeps need = omega arith in
    ap (λ a. a % 16) y ∙ freed_mod k keeps need ∙ free_none (k % 16) (keeps % 16) (need % 16) (sym (ap (λ a. a % 16) z) ∙ e)
free_digit_lem (suc u) k keeps need e = let q : u + 1 ≡ suc u = omega arith in
    sym (rw q at (further_digit (freed k keeps need) u)) ∙ rw (freed_div k keeps need) (free_digit_lem u (k / 16) (keeps / 16) (need / 16) (rw q at (further_digit k u) ∙ e))

-- The way back, where what is lost is part of the index after: modulo 65,536 nothing of a small index is lost.
back_small : (i j gain loss add : ℕ) → i < 4096 → j < 4096 → i + loss ≡ j + gain + add → loss ≤ j → (j + (gain + 65536 - loss) % 65536) % 65536 ≡ i - add
back_small i j gain loss add a b e l = either (dec_lt gain loss)
  where
    either : Dec (gain < loss) → (j + (gain + 65536 - loss) % 65536) % 65536 ≡ i - add
    either (yes d) = let p : (gain + 65536 - loss) % 65536 ≡ gain + 65536 - loss = omega arith in rw p (omega arith)
    either (no d) = let p : (gain + 65536 - loss) % 65536 ≡ gain - loss = omega arith in rw p (omega arith)

back_less : (gain loss : ℕ) → back_of gain loss < 65536
unfolding back_of
back_less gain loss = omega arith

back_sum : (i j gain loss add : ℕ) → i < 4096 → j < 4096 → i + loss ≡ j + gain + add → loss ≤ j → i ≡ (j + back_of gain loss) % 65536 + add
unfolding back_of
back_sum i j gain loss add a b e l = let p : gain % 65536 ≡ gain = omega arith in let q : loss % 65536 ≡ loss = omega arith in
    let h : (j + (gain + 65536 - loss) % 65536) % 65536 ≡ i - add = back_small i j gain loss add a b e l in rw (p, q, h) (omega arith)

module _ {x : Space} {sizes : List ℕ} {n : ℕ} (r : Regular x sizes n) where
  module _ (m o : ℕ) (l : m < x.actions) (b : o < outcome_count x.task m) where
    fits_of : (i : ℕ) → i < n → permitted_at x m i ≡ true → Fits x.mask (keep_mask x.task m o) (pre_mask x.task m) (pre_value x.task m) (set_value x.task m o) (get_or x.states i 0)
    unfolding permitted_at permitted
    fits_of i d p = record {
      plain_mask = r.mask_plain;
      plain_need = r.need_plain m l;
      plain_out = r.out_plain m o l b;
      inside = λ u. r.inside i u d;
      met = eqb-true (bit_and (get_or x.states i 0) (bit_and (pre_mask x.task m) x.mask)) (bit_and (pre_value x.task m) x.mask) p;
    }

    choices_of : Choices x.states sizes n 0 (freed x.mask (keep_mask x.task m o) (pre_mask x.task m))
    choices_of = record { bound = λ u i d f. let z : 0 + u ≡ u = omega arith in rw z (r.below i u d (⊎_elim (λ q. absurd (f (free_digit_lem u x.mask (keep_mask x.task m o) (pre_mask x.task m) q))) (λ q. q) (r.mask_plain u))) }

    module _ (es : List Edge) (e : ℕ) (h : EdgeIs x.task x.mask x.weights sizes es e m o) where
      choices_between : Choices x.states sizes n 0 h.rest
      choices_between = choices_rest x.states n choices_of h.first

      pub edge_free_lem : Choices x.states sizes n 0 (edge_free es e)
      edge_free_lem = choices_rest x.states n choices_between h.second

      second_lane : lane_after (edge_lanes es e) ≡ h.lane₂
      second_lane = second_is (edge_lanes es e) h.lane₁ h.lane₂ h.lanes (lane_small h.first)

      pub edge_plain : PlainMask (edge_mask es e)
      edge_plain = λ u. let g = test_plain u x.mask (keep_mask x.task m o) (pre_mask x.task m) (pre_value x.task m) (set_value x.task m o) r.mask_plain (r.out_plain m o l b) (r.need_plain m l) in rw h.mask g

      pub edge_back_small : edge_back es e < 65536
      edge_back_small = rw h.back (back_less _ _)

      edge_back_lem : (i : ℕ) → i < n → permitted_at x m i ≡ true → Before x es e i (index_after x m i o)
      unfolding index_after after way_back
      edge_back_lem i d p = let s = get_or x.states i 0 in let f = fits_of i d p in
          let k = x.mask in let keeps = keep_mask x.task m o in let need = pre_mask x.task m in let value = pre_value x.task m in let sets = set_value x.task m o in
          let w = changed k keeps sets s in let few = r.states_few in
          let c = r.closed m o i l b d p in
          let j = weigh x.weights w in
          let near : j < n = c.0 in
          let there : get_or x.states j 0 ≡ w = c.1 in
          let gain = weigh x.weights (bit_and value (named k keeps)) in let loss = weigh x.weights (bit_and sets k) in let add = weigh x.weights (bit_and s (freed k keeps need)) in
          let sum = back_sum i j gain loss add (omega (arith, d, few)) (omega (arith, near, few)) (ap (λ y. y + loss) (sym (r.index_is i d)) ∙ weigh_before x.weights k keeps need value sets s f) (weigh-least x.weights k keeps need value sets s f) in
          record {
            near = omega (arith, near, few);
            passes = rw (h.mask, h.value, there) (word_test 16 k keeps need value sets s r.room f);
            sum = rw (h.back, first_sum (edge_lanes es e) h.lane₁ h.lane₂ h.lanes s, second_lane) (omega (arith, sum, lane_sum_lem s h.first, lane_sum_lem s h.second));
            first = rw (first_values (edge_lanes es e) h.lane₁ h.lane₂ h.lanes, first_value (edge_lanes es e) h.lane₁ h.lane₂ h.lanes s) (lane_value_lem x.states n choices_of i d h.first);
            second = rw second_lane (lane_value_lem x.states n choices_between i d h.second);
          }

  -- The edge of an outcome stands for all outcomes that do the same.
  same_after : (m p o i : ℕ) → Same x.task x.mask m p o → index_after x m i p ≡ index_after x m i o
  unfolding index_after after
  same_after m p o i g = ap (weigh x.weights) (changed_same 16 x.mask (keep_mask x.task m p) (set_value x.task m p) (keep_mask x.task m o) (set_value x.task m o) (get_or x.states i 0) r.room r.mask_plain g.keeps g.sets)

  pub served_edge : (es : List Edge) (f m o : ℕ) → m < x.actions → Served x.task x.mask x.weights sizes es f m (outcome_count x.task m) o → StandsFor x n es f m o
  served_edge es f m o l g = record {
    action = g.is.action;
    back = λ i d p. subst (λ j. Before x es f i j) (same_after m g.outcome o i g.same) (edge_back_lem m g.outcome l g.known es f g.is i d p);
  }
