-- Weights give planning's index and value: of a word that stands for a state, the index in each pattern's table, and the sum of the entries
-- from any tables. Assumes nothing.
use Rattle.std.proofs.Common.{◌≡◌, ℕ, suc, ◌+◌, ◌-◌, ◌<◌, ◌≤◌, List, [], ◌∷◌, length, get_or, take, drop, sym, refl, ◌∙◌, ap₂, add-zero, zero-add, arith, get_or-drop, drop-drop}
use Rattle.planning.specs.Extended.{add∞}
use Rattle.planning.specs.Task.{Task}
use Rattle.planning.specs.Table.{index, state_count, infinite_entry, cost_of, value}
use Rattle.packed_task.specs.Packed.{cells_of}
use Rattle.packed_task.specs.Packable.{Packable}
use Rattle.patterns.specs.Space.{entries_needed}
use Rattle.tables.specs.Steps.{weigh, weights_from}
use Rattle.tables.proofs.Spacing.{weigh-index, weigh_padded}
use Rattle.packed_task.proofs.Packing.{pack_cells}
use Rattle.packed_task.proofs.Simulating.{PackedState}
use Rattle.search.specs.Value.{pattern_entry, pattern_sum, packed_value}
use Rattle.search.specs.Weights.{WeightsOf}

module _ (t : Task) (k : Packable t) (ps weights : List (List ℕ)) (offsets : List ℕ) (f : WeightsOf t.sizes ps weights offsets) where
  -- The index of a word in the table of pattern number p is its weight by that pattern's weights,
  pub index_weight : (s p : ℕ) → p < length ps → weigh (get_or weights p []) s ≡ weigh (weights_from 1 t.sizes (get_or ps p [])) s
  index_weight s p l = rw (f.weigh p l) (weigh_padded (weights_from 1 t.sizes (get_or ps p [])) (16 - length t.sizes) s)

  -- and the index of the state that the word stands for.
  pub packed_index : (s p : ℕ) → PackedState t s → p < length ps → weigh (get_or weights p []) s ≡ index t.sizes (get_or ps p [])
      (cells_of (length t.sizes) s)
  unfolding index
  packed_index s p o l = index_weight s p l ∙ rw (pack_cells (length t.sizes) s o.1) at
      (weigh-index 1 t.sizes (get_or ps p []) (cells_of (length t.sizes) s) k.values_few o.0)

  module _ (tabs : List ℕ) (s : ℕ) (o : PackedState t s) where
    -- The patterns from number p on, which are the list qs and whose tables begin at b.
    sum_value : (qs : List (List ℕ)) (p b : ℕ) → ((i : ℕ) → i < length qs → get_or qs i [] ≡ get_or ps (p + i) []) →
        ((i : ℕ) → i < length qs → get_or offsets (p + i) 0 ≡ b + entries_needed t.sizes (take i qs)) → p + length qs ≤ length ps →
        pattern_sum weights offsets tabs s p (length qs) ≡ value t.sizes qs (drop b tabs) (cells_of (length t.sizes) s)
    unfolding pattern_sum pattern_entry value entries_needed
    sum_value [] p b g h l = refl
    sum_value (q ∷ qs) p b g h l =
        let e : p + 0 ≡ p = omega arith in
        let a : get_or offsets p 0 ≡ b + 0 = rw e at (h 0 (omega arith)) in
        let d : q ≡ get_or ps p [] = rw e at (g 0 (omega arith)) in
        ap₂ (λ x y. add∞ (cost_of x) y)
        (rw (a, add-zero b, packed_index s p o (omega arith), ← d)
        (sym (get_or-drop b tabs (index t.sizes q (cells_of (length t.sizes) s)) infinite_entry)))
        (rw (drop-drop (state_count t.sizes q) b tabs) (sum_value qs (p + 1) (b + state_count t.sizes q)
        (λ i m. let n : p + 1 + i ≡ p + suc i = omega arith in rw n (g (suc i) (omega arith)))
        (λ i m. let n : p + 1 + i ≡ p + suc i = omega arith in rw n (h (suc i) (omega arith) ∙ omega arith))
        (omega arith)))

    -- The value of a word from weights is the value that the tables say of its state.
    pub packed_value_lem : packed_value weights offsets tabs (length ps) s ≡ value t.sizes ps tabs (cells_of (length t.sizes) s)
    unfolding packed_value
    packed_value_lem = sum_value ps 0 0 (λ i l. rw (zero-add i)) (λ i l. rw (zero-add i, zero-add) (f.offset i l)) (omega arith)
