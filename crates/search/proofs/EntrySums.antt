-- Laws of the estimate: one pattern more. Assumes nothing.
use Rattle.std.proofs.Common.{◌≡◌, ℕ, zero, suc, ◌+◌, ◌-◌, ◌<◌, ◌≤◌, List, [], get_or, refl, ap, ◌∙◌, add-zero, zero-add, arith, eq-eqb, ne_eqb}
use Rattle.planning.specs.Extended.{ℕ∞, fin, inf, add∞}
use Rattle.planning.specs.Table.{infinite_entry, cost_of}
use Rattle.tables.specs.Steps.{weigh}
use Rattle.search.specs.Value.{pattern_entry, pattern_sum}

-- One more of n is left at k.
pub one_more : (n k : ℕ) → k < n → n - k ≡ suc (n - (k + 1))
one_more n k h = omega arith

module _ (weights : List (List ℕ)) (offsets tables : List ℕ) (s : ℕ) where
  pub sum_step : (p n : ℕ) → p < n → pattern_sum weights offsets tables s p (n - p) ≡ add∞ (cost_of (pattern_entry weights offsets tables s p)) (pattern_sum weights offsets tables s (p + 1) (n - (p + 1)))
  unfolding pattern_sum
  sum_step p n h = rw (one_more n p h)

  pub sum_end : (p n : ℕ) → n ≤ p → pattern_sum weights offsets tables s p (n - p) ≡ fin 0
  unfolding pattern_sum
  sum_end p n h = let z : n - p ≡ zero = omega arith in rw z

-- A finite entry joins the sum so far; an infinite one makes it infinite.
pub finite_joins : (a e : ℕ) (x : ℕ∞) → (e ≡ infinite_entry → ⊥) → add∞ (fin a) (add∞ (cost_of e) x) ≡ add∞ (fin (a + e)) x
unfolding cost_of add∞
finite_joins a e (fin b) n = rw (ne_eqb e infinite_entry n) (ap fin (omega arith))
finite_joins a e inf n = rw (ne_eqb e infinite_entry n)

pub infinite_joins : (a e : ℕ) (x : ℕ∞) → e ≡ infinite_entry → add∞ (fin a) (add∞ (cost_of e) x) ≡ inf
unfolding cost_of add∞
infinite_joins a e x q = rw (eq-eqb e infinite_entry q)

pub nothing_joins : (x : ℕ∞) → add∞ (fin 0) x ≡ x
unfolding add∞
nothing_joins (fin b) = ap fin (zero-add b)
nothing_joins inf = refl

pub sum_ends : (a : ℕ) → add∞ (fin a) (fin 0) ≡ fin a
unfolding add∞
sum_ends a = ap fin (add-zero a)

-- One turn over the patterns, and its end.
module _ (weights : List (List ℕ)) (offsets tables : List ℕ) (s p n e : ℕ) where
  module _ (a : ℕ) (whole : ℕ∞) (so_far : whole ≡ add∞ (fin a) (pattern_sum weights offsets tables s p (n - p))) where
    pub value_grows : p < n → e ≡ pattern_entry weights offsets tables s p → (e ≡ infinite_entry → ⊥) → whole ≡ add∞ (fin (a + e)) (pattern_sum weights offsets tables s (p + 1) (n - (p + 1)))
    value_grows h q k = so_far ∙ rw (sum_step weights offsets tables s p n h, ← q) (finite_joins a e _ k)

    pub value_infinite : p < n → e ≡ pattern_entry weights offsets tables s p → e ≡ infinite_entry → whole ≡ inf
    value_infinite h q k = so_far ∙ rw (sum_step weights offsets tables s p n h, ← q) (infinite_joins a e _ k)

    pub value_whole : n ≤ p → whole ≡ fin a
    value_whole h = so_far ∙ rw (sum_end weights offsets tables s p n h) (sum_ends a)

-- The entry that is read at the state's index.
pub entry_found : (weights : List (List ℕ)) (offsets tables : List ℕ) (s p i e : ℕ) → i ≡ weigh (get_or weights p []) s → e ≡ get_or tables (get_or offsets p 0 + i) infinite_entry → e ≡ pattern_entry weights offsets tables s p
unfolding pattern_entry
entry_found weights offsets tables s p i e q h = h ∙ ap (λ (j : ℕ). get_or tables (get_or offsets p 0 + j) infinite_entry) q
