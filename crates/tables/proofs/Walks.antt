-- Laws of going back along an edge: over the values of two lanes, then over those of the other free digits. Assumes nothing.
use Rattle.std.proofs.Common.{◌≡◌, ℕ, zero, suc, ◌+◌, ◌*◌, ◌/◌, ◌%◌, ◌^◌, ◌<◌, ◌≤◌, true, false, ltb, ◌⊎◌, Bool, List, length, get_or, drop, sym, ap, ◌∙◌, ⊎_elim, pow-suc, arith, ltb-false, ltb-true, lt-ltb, eq-eqb, ne_eqb}
use native.Mathlib.Nat.{div-div-eq-div-mul}
use native.Mathlib.Decide.{dec_lt, ℕ_discrete}
use lib.Bits.{bit_and, and_zero_r}
use Rattle.planning.proofs.Test.{T_true, and_l, and_r}
use Rattle.planning.specs.Table.{infinite_entry}
use Rattle.packed_task.specs.Packed.{outcome_count, action_weight}
use Rattle.tables.specs.Steps.{Space, weigh, worst, outcome_entry, bellman_value, bellman_value_at, permitted_at}
use Rattle.tables.specs.Waiting.{Heard, low, Leads}
use Rattle.tables.specs.Queue.{Queue}
use Rattle.tables.specs.Edges.{edge_action, edge_lanes, edge_free, lane_weight, lane_values, lane_value, lane_sum, lane_after, way_back, Plain, Single, Before, Choices}
use Rattle.tables.specs.Visits.{above, Going, Laned, Freed, Passed}
use Rattle.tables.specs.declared.worklist.edge.Edge.{Edge}
use Rattle.tables.proofs.Settled.{inside}
use Rattle.tables.proofs.Stepping.{weigh_step}
use Rattle.tables.proofs.Bitwise.{further, deeper, and_mod, and_div}
use Rattle.tables.proofs.Digits.{sixteens_next}
use Rattle.tables.proofs.Law.{raised-least}
use Rattle.tables.proofs.Visiting.{going_none, going_then}
use Rattle.tables.proofs.Asking.{weigh-over, weigh_apart, lane_none, single_before, entry_met}

-- Where the entry is at most the action's weight and the entry of j, the action need not be asked.
heard_enough : (x : Space) (t : List ℕ) (marks : List Bool) (m i j : ℕ) → j < length t → get_or t i 0 ≤ infinite_entry → get_or t i 0 ≤ action_weight x.task m + get_or t j 0 → Leads x m i j → Heard x t marks m i
unfolding bellman_value_at bellman_value
heard_enough x t marks m i j b c l a =
    let w = worst (outcome_entry x.task x.mask x.weights t m (get_or x.states i 0)) 0 (outcome_count x.task m) in
    let h : get_or t j infinite_entry ≤ w = entry_met x t m i a.outcome j a.known a.there in
    let e : get_or t j infinite_entry ≡ get_or t j 0 = inside t j infinite_entry 0 b in
    low (raised-least (get_or t i 0) (action_weight x.task m) w c (omega (arith, l, h, e)))

-- That an entry is not above the entry of j and the edge's weight is enough.
pub heard_not_above : (x : Space) (t : List ℕ) (marks : List Bool) (m i j e w value : ℕ) → w ≡ action_weight x.task m → value ≡ e + w → j < length t → i < length t → get_or t j 0 ≡ e → above t i value ≡ false → get_or t i 0 ≤ infinite_entry →
    Leads x m i j → Heard x t marks m i
unfolding above
heard_not_above x t marks m i j e w value p q b l k n c a = let h = ltb-false value (get_or t i 0) (rw (lt-ltb i (length t) l) at n) in
    heard_enough x t marks m i j b c (omega (arith, h, p, q, k)) a

pub above_less : (t : List ℕ) (i value : ℕ) → above t i value ≡ true → value < get_or t i 0
unfolding above
above_less t i value e = ltb-true value (get_or t i 0) (T_true (ltb value (get_or t i 0)) (and_r (ltb i (length t)) (ltb value (get_or t i 0)) (rw e tt)))

pub above_inside : (t : List ℕ) (i value : ℕ) → above t i value ≡ true → i < length t
unfolding above
above_inside t i value e = ltb-true i (length t) (T_true (ltb i (length t)) (and_l (ltb i (length t)) (ltb value (get_or t i 0)) (rw e tt)))

-- A lane adds its value times its weight.
lane_sum-value : (lane s : ℕ) → lane_sum lane s ≡ lane_value lane s * lane_weight lane
unfolding lane_sum lane_value
lane_sum-value lane s = either (ℕ_discrete (lane_weight lane) 0)
  where
    either : Dec (lane_weight lane ≡ 0) → lane_sum lane s ≡ lane_value lane s * lane_weight lane
    either (yes e) = rw (eq-eqb (lane_weight lane) 0 e, e) (omega arith)
    either (no e) = rw (ne_eqb (lane_weight lane) 0 e)

lane_value_none : (lane s : ℕ) → lane_weight lane ≡ 0 → lane_value lane s ≡ 0
unfolding lane_value
lane_value_none lane s e = rw (eq-eqb (lane_weight lane) 0 e)

-- The values of the lanes' digits in the word of state i.
abbrev one : Space → List Edge → ℕ → ℕ → ℕ
one x es e i = lane_value (edge_lanes es e) (get_or x.states i 0)

abbrev two : Space → List Edge → ℕ → ℕ → ℕ
two x es e i = lane_value (lane_after (edge_lanes es e)) (get_or x.states i 0)

-- The values of the second lane below y were gone through; and with its value y those of the first below z.
pub record Rows (x : Space) (es : List Edge) (e j at y : ℕ) (t : List ℕ) (marks : List Bool) (c : ℕ) (new : List ℕ) (marks₁ : List Bool) (d : ℕ) : Type 0 where
  pub going : Going x j t marks c new marks₁ d
  pub heard : (i : ℕ) → i < length new → permitted_at x (edge_action es e) i ≡ true → Leads x (edge_action es e) i j → Before x es e i j → two x es e i < y →
      i ≡ at + lane_sum (edge_lanes es e) (get_or x.states i 0) + lane_sum (lane_after (edge_lanes es e)) (get_or x.states i 0) → Heard x new marks₁ (edge_action es e) i

pub record Cells (x : Space) (es : List Edge) (e j at y z : ℕ) (t : List ℕ) (marks : List Bool) (c : ℕ) (new : List ℕ) (marks₁ : List Bool) (d : ℕ) : Type 0 where
  pub going : Going x j t marks c new marks₁ d
  pub heard : (i : ℕ) → i < length new → permitted_at x (edge_action es e) i ≡ true → Leads x (edge_action es e) i j → Before x es e i j → one x es e i < z → two x es e i ≡ y →
      i ≡ at + lane_sum (edge_lanes es e) (get_or x.states i 0) + lane_sum (lane_after (edge_lanes es e)) (get_or x.states i 0) → Heard x new marks₁ (edge_action es e) i

pub rows_start : {x : Space} {es : List Edge} {e j at : ℕ} {t : List ℕ} {marks : List Bool} {c : ℕ} → Queue (length t) marks c → Rows x es e j at 0 t marks c t marks c
rows_start k = record { going = going_none k; heard = λ i b f g s l. absurd (omega arith) }

pub cells_start : {x : Space} {es : List Edge} {e j at y : ℕ} {t : List ℕ} {marks : List Bool} {c : ℕ} → Queue (length t) marks c → Cells x es e j at y 0 t marks c t marks c
cells_start k = record { going = going_none k; heard = λ i b f g s l. absurd (omega arith) }

module _ {x : Space} {es : List Edge} {e j at y z : ℕ} {t : List ℕ} {marks : List Bool} {u : List ℕ} {b : List Bool} {c k : ℕ} (w : Cells x es e j at y z t marks c u b k) where
  same : (i i₀ : ℕ) → i₀ ≡ at + y * lane_weight (lane_after (edge_lanes es e)) + z * lane_weight (edge_lanes es e) → one x es e i ≡ z → two x es e i ≡ y →
      i ≡ at + lane_sum (edge_lanes es e) (get_or x.states i 0) + lane_sum (lane_after (edge_lanes es e)) (get_or x.states i 0) → i ≡ i₀
  same i i₀ s f g r = let a = rw f at (lane_sum-value (edge_lanes es e) (get_or x.states i 0)) in
      let d = rw g at (lane_sum-value (lane_after (edge_lanes es e)) (get_or x.states i 0)) in omega (arith, s, r, a, d)

  -- The state of the next value of the first lane was asked about, or need not be.
  pub cells_next : {new : List ℕ} {d : List Bool} {l : ℕ} (i₀ : ℕ) → i₀ ≡ at + y * lane_weight (lane_after (edge_lanes es e)) + z * lane_weight (edge_lanes es e) → Going x j u b k new d l →
      (i₀ < length new → permitted_at x (edge_action es e) i₀ ≡ true → Leads x (edge_action es e) i₀ j → Before x es e i₀ j → Heard x new d (edge_action es e) i₀) → Cells x es e j at y (z + 1) t marks c new d l
  cells_next {new} {d} i₀ s a n = record { going = going_then w.going a; heard = λ i b f g u l m r. either i b f g u l m r (dec_lt (one x es e i) z) }
    where
      either : (i : ℕ) → i < length new → permitted_at x (edge_action es e) i ≡ true → Leads x (edge_action es e) i j → Before x es e i j → one x es e i < z + 1 → two x es e i ≡ y →
          i ≡ at + lane_sum (edge_lanes es e) (get_or x.states i 0) + lane_sum (lane_after (edge_lanes es e)) (get_or x.states i 0) → Dec (one x es e i < z) → Heard x new d (edge_action es e) i
      either i b₁ f g u₁ l m r (yes o) = a.moved.keeps (edge_action es e) i (w.heard i (omega (arith, b₁, a.moved.long)) f g u₁ o m r)
      either i b₁ f g u₁ l m r (no o) = let v = same i i₀ s (omega arith) m r in rw v (n (rw v at b₁) (rw v at f) (rw v at g) (rw v at u₁))

module _ {x : Space} {es : List Edge} {e j at y : ℕ} {t : List ℕ} {marks : List Bool} {u : List ℕ} {b : List Bool} {c k : ℕ} (w : Rows x es e j at y t marks c u b k) where
  pub rows_next : {z : ℕ} {new : List ℕ} {d : List Bool} {l : ℕ} → Cells x es e j at y z u b k new d l → lane_values (edge_lanes es e) ≤ z → Rows x es e j at (y + 1) t marks c new d l
  rows_next {z} {new} {d} a n = record { going = going_then w.going a.going; heard = λ i b f g s m r. either i b f g s m r (dec_lt (two x es e i) y) }
    where
      either : (i : ℕ) → i < length new → permitted_at x (edge_action es e) i ≡ true → Leads x (edge_action es e) i j → Before x es e i j → two x es e i < y + 1 →
          i ≡ at + lane_sum (edge_lanes es e) (get_or x.states i 0) + lane_sum (lane_after (edge_lanes es e)) (get_or x.states i 0) → Dec (two x es e i < y) → Heard x new d (edge_action es e) i
      either i b₁ f g s m r (yes o) = a.going.moved.keeps (edge_action es e) i (w.heard i (omega (arith, b₁, a.going.moved.long)) f g s o r)
      either i b₁ f g s m r (no o) = a.heard i b₁ f g s (omega (arith, s.first, n)) (omega arith) r

  pub rows_end : lane_values (lane_after (edge_lanes es e)) ≤ y → Laned x es e j at t marks c u b k
  rows_end n = record { going = w.going; heard = λ i b f g s r. w.heard i b f g s (omega (arith, s.second, n)) r }

pub choices_as : {states sizes : List ℕ} {n k v free : ℕ} → n ≡ k → Choices states sizes n v free → Choices states sizes k v free
choices_as e c = rw e at c

-- The free digits from v on.
pub choices_next : {states sizes : List ℕ} {n v free : ℕ} → Choices states sizes n v free → Choices states sizes n (v + 1) (free / 16)
choices_next {states} {sizes} {n} {v} {free} c = record { bound = λ u i l e. let z : v + (u + 1) ≡ v + 1 + u = omega arith in rw z at (c.bound (u + 1) i l (λ q. e (sym (ap (λ y. y % 16) (further₁ u)) ∙ q))) }
  where
    further₁ : (u : ℕ) → free / 16 ^ (u + 1) ≡ free / 16 / 16 ^ u
    further₁ u = sym (div-div-eq-div-mul free 16 (16 ^ u) ∙ (let e : u + 1 ≡ suc u = omega arith in let p = pow-suc 16 u in let q : 16 * 16 ^ u ≡ 16 ^ (u + 1) = rw e (omega (arith, p)) in rw q))

-- The same where digits that are not free were skipped.
pub choices_skip : {states sizes : List ℕ} {n : ℕ} (k v free : ℕ) → Choices states sizes n v free → Choices states sizes n (v + k) (free / 16 ^ k)
choices_skip zero v free c = let z : v + 0 ≡ v = omega arith in let y : free / 16 ^ 0 ≡ free = omega arith in rw (z, y) c
choices_skip (suc k) v free c = let z : v + suc k ≡ v + 1 + k = omega arith in rw (z, sym (deeper free k)) (choices_skip k (v + 1) (free / 16) (choices_next c))

module _ (x : Space) (v free i : ℕ) where
  abbrev rest : ℕ
  rest = get_or x.states i 0 / 16 ^ v

  abbrev pub of_free : ℕ
  of_free = weigh (drop v x.weights) (bit_and rest free)

  abbrev of_next : ℕ
  of_next = weigh (drop (v + 1) x.weights) (bit_and (get_or x.states i 0 / 16 ^ (v + 1)) (free / 16))

  free_step : of_free ≡ bit_and (rest % 16) (free % 16) * get_or x.weights v 0 + of_next
  free_step = weigh_step x.weights v (bit_and rest free) ∙ rw (and_mod rest free, and_div rest free, further (get_or x.states i 0) v)

  free_none : (free ≡ 0) ⊎ (length x.weights ≤ v) → of_free ≡ 0
  free_none = ⊎_elim (weigh_apart (drop v x.weights) rest free) (weigh-over x.weights v (bit_and rest free))

  abbrev pub choice : ℕ
  choice = bit_and (rest % 16) (free % 16)

  choice_low : choice ≤ rest % 16
  choice_low = lib.Bits.and_le_l (rest % 16) (free % 16)

module _ {x : Space} {es : List Edge} {e j v free at : ℕ} {t : List ℕ} {marks : List Bool} {new : List ℕ} {d : List Bool} {c k : ℕ} where
  pub freed_none : (free ≡ 0) ⊎ (length x.weights ≤ v) → Laned x es e j at t marks c new d k → Freed x es e j v free at t marks c new d k
  freed_none n a = record { going = a.going; heard = λ i b f g s r. let z = free_none x v free i n in a.heard i b f g s (omega (arith, r, z)) }

  freed_step : free % 16 ≡ 0 → Freed x es e j (v + 1) (free / 16) at t marks c new d k → Freed x es e j v free at t marks c new d k
  freed_step z a = record { going = a.going; heard = λ i b f g s r. let n : choice x v free i ≡ 0 = rw z (and_zero_r (get_or x.states i 0 / 16 ^ v % 16)) in let s₁ = rw n at (free_step x v free i) in a.heard i b f g s (omega (arith, r, s₁)) }

-- The same of digits that are not free.
pub freed_skip : {x : Space} {es : List Edge} {e j at : ℕ} {t : List ℕ} {marks : List Bool} {new : List ℕ} {d : List Bool} {c l : ℕ} (k v free a : ℕ) → free ≡ a * 16 ^ k →
    Freed x es e j (v + k) (free / 16 ^ k) at t marks c new d l → Freed x es e j v free at t marks c new d l
freed_skip zero v free a s w = let z : v + 0 ≡ v = omega arith in let y : free / 16 ^ 0 ≡ free = omega arith in rw (z, y) at w
freed_skip (suc k) v free a s w = let z : v + suc k ≡ v + 1 + k = omega arith in let n = sixteens_next free k a s in freed_step n.0 (freed_skip k (v + 1) (free / 16) a n.1 (rw (z, sym (deeper free k)) at w))

-- The values of digit v below z were gone through.
pub record Choosing (x : Space) (es : List Edge) (e j v free at z : ℕ) (t : List ℕ) (marks : List Bool) (c : ℕ) (new : List ℕ) (marks₁ : List Bool) (d : ℕ) : Type 0 where
  pub going : Going x j t marks c new marks₁ d
  pub heard : (i : ℕ) → i < length new → permitted_at x (edge_action es e) i ≡ true → Leads x (edge_action es e) i j → Before x es e i j → choice x v free i < z →
      i ≡ at + lane_sum (edge_lanes es e) (get_or x.states i 0) + lane_sum (lane_after (edge_lanes es e)) (get_or x.states i 0) + of_free x v free i → Heard x new marks₁ (edge_action es e) i

pub choosing_start : {x : Space} {es : List Edge} {e j v free at : ℕ} {t : List ℕ} {marks : List Bool} {c : ℕ} → Queue (length t) marks c → Choosing x es e j v free at 0 t marks c t marks c
choosing_start k = record { going = going_none k; heard = λ i b f g s l. absurd (omega arith) }

module _ {x : Space} {es : List Edge} {e j v free at z : ℕ} {t : List ℕ} {marks : List Bool} {u : List ℕ} {b : List Bool} {c k : ℕ} (w : Choosing x es e j v free at z t marks c u b k) where
  pub choosing_next : {new : List ℕ} {d : List Bool} {l : ℕ} (y : ℕ) → y ≡ at + z * get_or x.weights v 0 → Freed x es e j (v + 1) (free / 16) y u b k new d l → Choosing x es e j v free at (z + 1) t marks c new d l
  choosing_next {new} {d} y s a = record { going = going_then w.going a.going; heard = λ i b f g m l r. either i b f g m l r (dec_lt (choice x v free i) z) }
    where
      either : (i : ℕ) → i < length new → permitted_at x (edge_action es e) i ≡ true → Leads x (edge_action es e) i j → Before x es e i j → choice x v free i < z + 1 →
          i ≡ at + lane_sum (edge_lanes es e) (get_or x.states i 0) + lane_sum (lane_after (edge_lanes es e)) (get_or x.states i 0) + of_free x v free i → Dec (choice x v free i < z) → Heard x new d (edge_action es e) i
      either i b₁ f g m l r (yes o) = a.going.moved.keeps (edge_action es e) i (w.heard i (omega (arith, a.going.moved.long)) f g m o r)
      either i b₁ f g m l r (no o) = let n₁ : choice x v free i ≡ z = omega arith in
          let r₁ = rw n₁ at (free_step x v free i) in a.heard i b₁ f g m (omega (arith, r, s, r₁))

  choosing_end : (sizes : List ℕ) → (free % 16 ≡ 0 → ⊥) → Choices x.states sizes (length t) v free → ((d : ℕ) → d < 16 → d < get_or sizes v 0 → d < z) → Freed x es e j v free at t marks c u b k
  choosing_end sizes f o g = record { going = w.going; heard = λ i b₁ f₁ g₁ m r. w.heard i b₁ f₁ g₁ m (g (choice x v free i) (small i) (below i (omega (arith, w.going.moved.long, b₁)))) r }
    where
      small : (i : ℕ) → choice x v free i < 16
      small i = omega (arith, choice_low x v free i)

      below : (i : ℕ) → i < length t → choice x v free i < get_or sizes v 0
      below i l = let z₁ : v + 0 ≡ v = omega arith in let y : free / 16 ^ 0 ≡ free = omega arith in
          let d : rest x v free i % 16 < get_or sizes v 0 = rw z₁ at (o.bound 0 i l (λ q. f (sym (ap (λ y. y % 16) y) ∙ q))) in omega (arith, d, choice_low x v free i)

  -- A digit that is not free has the value 0.
  choosing_skip : free % 16 ≡ 0 → 1 ≤ z → Freed x es e j v free at t marks c u b k
  choosing_skip f g = record { going = w.going; heard = λ i b₁ f₁ g₁ m r. let y : choice x v free i ≡ 0 = rw f (and_zero_r (rest x v free i % 16)) in w.heard i b₁ f₁ g₁ m (omega (arith, y, g)) r }

  pub choosing_over : (sizes : List ℕ) → (free % 16 ≡ 0 → 1 ≤ z) → (1 ≤ free % 16 → (d : ℕ) → d < 16 → d < get_or sizes v 0 → d < z) → Choices x.states sizes (length t) v free → Freed x es e j v free at t marks c u b k
  choosing_over sizes f g o = either (ℕ_discrete (free % 16) 0)
    where
      either : Dec (free % 16 ≡ 0) → Freed x es e j v free at t marks c u b k
      either (yes q) = choosing_skip q (f q)
      either (no q) = choosing_end sizes q o (g (omega (arith, q)))

-- One edge.
module _ {x : Space} {es : List Edge} {e j at : ℕ} {t : List ℕ} {marks : List Bool} {new : List ℕ} {d : List Bool} {c k : ℕ} (a : at ≡ way_back es e j) where
  pub passed-freed : Freed x es e j 0 (edge_free es e) at t marks c new d k → Passed x es e j t marks c new d k
  passed-freed w = record { going = w.going; heard = λ i b f g s. w.heard i b f g s (from i s) }
    where
      from : (i : ℕ) → Before x es e i j → i ≡ at + lane_sum (edge_lanes es e) (get_or x.states i 0) + lane_sum (lane_after (edge_lanes es e)) (get_or x.states i 0) + of_free x 0 (edge_free es e) i
      from i s = let z : get_or x.states i 0 / 16 ^ 0 ≡ get_or x.states i 0 = omega arith in
          let y : of_free x 0 (edge_free es e) i ≡ weigh x.weights (bit_and (get_or x.states i 0) (edge_free es e)) = rw z in omega (arith, s.sum, a, y)

  module _ (none : edge_free es e ≡ 0) where
    pub passed_laned : Laned x es e j at t marks c new d k → Passed x es e j t marks c new d k
    passed_laned w = record {
      going = w.going;
      heard = λ i b f g s. w.heard i b f g s
          (let z = weigh_apart x.weights (get_or x.states i 0) (edge_free es e) none in omega (arith, s.sum, a, z));
    }

  -- The first lane alone is free.
  pub passed_single : {z : ℕ} → Single es e → lane_values (edge_lanes es e) ≤ z → Cells x es e j at 0 z t marks c new d k → Passed x es e j t marks c new d k
  passed_single p n w = record {
    going = w.going;
    heard = λ i b f g s. let v = lane_value_none (lane_after (edge_lanes es e)) (get_or x.states i 0) p.two in let y = lane_none (lane_after (edge_lanes es e)) (get_or x.states i 0) p.two in
        w.heard i b f g s (omega (arith, s.first, n)) v (let r = single_before x es e i j p s in omega (arith, r, a, y));
  }

  -- No digit is free: one state is before j.
  pub passed_plain : Plain es e → Going x j t marks c new d k →
      (at < length new → permitted_at x (edge_action es e) at ≡ true → Leads x (edge_action es e) at j → Heard x new d (edge_action es e) at) → Passed x es e j t marks c new d k
  passed_plain n g f = record { going = g; heard = λ i b p l s. let v = from i s in rw v (f (rw v at b) (rw v at p) (rw v at l)) }
    where
      from : (i : ℕ) → Before x es e i j → i ≡ at
      from i s = let z = weigh_apart x.weights (get_or x.states i 0) (edge_free es e) n.free in
          let y = lane_none (edge_lanes es e) (get_or x.states i 0) n.one in let r = lane_none (lane_after (edge_lanes es e)) (get_or x.states i 0) n.two in omega (arith, s.sum, a, z, y, r)
