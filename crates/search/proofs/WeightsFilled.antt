-- Laws of filling the weights: the variables of a pattern, and the patterns, one after the other. Assumes nothing.
use Rattle.std.proofs.Common.{◌≡◌, ℕ, zero, suc, ◌+◌, ◌-◌, ◌*◌, ◌<◌, ◌≤◌, true, false, cond, eqb, List, [], ◌∷◌, length, get_or, take, set, replicate, sym, refl, ap, ◌∙◌, add-zero, arith, length-set, length-take-le, get_or-append-add, get_or-set_other, get_or-set_same}
use Rattle.std.proofs.lemmas.List.{get_or-replicate, set-get_or}
use native.Mathlib.Decide.{ℕ_discrete}
use Rattle.planning.specs.Table.{state_count, Small}
use Rattle.planning.proofs.Finite.{all_at}
use Rattle.task_record.specs.Layout.{at_pattern}
use Rattle.task_record.specs.Numbers.{variable_count, pattern_count, size_of}
use Rattle.task_record.specs.Record.{Sound}
use Rattle.task_record.specs.TaskOf.{cells_at, task_of, patterns_of}
use Rattle.task_record.proofs.SoundTask.{sizes_length}
use Rattle.patterns.specs.Space.{all_sizes, entries_needed}
use Rattle.patterns.proofs.Reading.{patterns_length, pattern_at}
use Rattle.patterns.proofs.Sizes.{sixteen_sizes, sizes_taken}
use Rattle.tables.specs.Steps.{weights_from, Bounded}
use Rattle.tables.proofs.Spacing.{length_weights, Weighing, weighing_step, weighing_end, weighing_small}
use Rattle.tables.proofs.TableChain.{pattern_bounded}
use Rattle.search.specs.Weights.{pattern_weights, WeightsOf}

-- Below a place and the next one, but not that place.
pub earlier : (i n : ℕ) → i < n + 1 → (i ≡ n → ⊥) → i < n
earlier i n l k = omega arith

-- The sizes of a sound record's task, as the code reads them, and what its patterns keep.
module _ (r : List ℕ) (sound : Sound r) where
  pub sizes_number : length (task_of r).sizes ≡ variable_count r
  unfolding task_of
  sizes_number = sizes_length r sound

  module _ (small : Small (task_of r) (patterns_of r)) (p : ℕ) (l : p < pattern_count r) where
    pub pattern_small : state_count (task_of r).sizes (cells_at r (at_pattern p)) ≤ 4096
    unfolding Small
    pattern_small = rw (pattern_at r p l) at
        (all_at (λ q. state_count (task_of r).sizes q ≤ 4096) (patterns_of r) [] small p (rw (patterns_length r) l))

    sized_here : Bounded (all_sizes r) (cells_at r (at_pattern p)) (variable_count r)
    sized_here = pattern_bounded r sound (all_sizes r) (sixteen_sizes r (all_sizes r) refl) (cells_at r (at_pattern p)) pattern_small

    -- Variables below v have their weights, and w is the weight of the next one in the pattern.
    abbrev pub Filling : List ℕ → ℕ → ℕ → Type 0
    Filling ws w v = Weighing (all_sizes r) (cells_at r (at_pattern p)) (variable_count r) ws w v

    pub filling_begins : Filling (replicate 16 0) 1 0
    unfolding weights_from state_count
    filling_begins = record { at = omega arith; long = (sixteen_sizes r (all_sizes r) refl).whole; count = refl; weights = refl }

    module _ {ws : List ℕ} {w v : ℕ} (f : Filling ws w v) where
      module _ (b : v < variable_count r) where
        next : Filling (set ws v (cond (eqb (get_or (cells_at r (at_pattern p)) v 0) 1) w 0)) (cond (eqb (get_or (cells_at r (at_pattern p)) v 0) 1) (w * get_or (all_sizes r) v 0) w) (v + 1)
        next = weighing_step (all_sizes r) (cells_at r (at_pattern p)) (variable_count r) ws w v sized_here b f

        pub filling_in : eqb (get_or (cells_at r (at_pattern p)) v 0) 1 ≡ true → Filling (set ws v w) (w * size_of r v) (v + 1)
        filling_in e = let n = sized_here.variables_few in rw (e, (sixteen_sizes r (all_sizes r) refl).cell v (omega arith)) at next

        nothing_yet : get_or ws v 0 ≡ 0
        nothing_yet = let n = sized_here.variables_few in
            let e : length (weights_from 1 (take v (all_sizes r)) (cells_at r (at_pattern p))) ≡ v =
            length_weights 1 (take v (all_sizes r)) (cells_at r (at_pattern p)) ∙ length-take-le v (all_sizes r) (omega (arith, f.long)) in
            rw (e, add-zero v) at (ap (λ l. get_or l (length (weights_from 1 (take v (all_sizes r)) (cells_at r (at_pattern p))) + 0) 0) f.weights
            ∙ get_or-append-add (weights_from 1 (take v (all_sizes r)) (cells_at r (at_pattern p))) (replicate (16 - v) 0) 0 0)
            ∙ get_or-replicate (16 - v) 0 0 0 (omega arith)

        pub filling_out : eqb (get_or (cells_at r (at_pattern p)) v 0) 1 ≡ false → Filling ws w (v + 1)
        filling_out e = let g : set ws v 0 ≡ ws = ap (λ x. set ws v x) (sym nothing_yet) ∙ set-get_or ws v 0 in rw g at (rw e at next)

      pub weight_small : w ≤ 4096
      weight_small = weighing_small (all_sizes r) (cells_at r (at_pattern p)) (variable_count r) ws w v sized_here f

      module _ (e : variable_count r ≤ v) where
        pub filling_ends : ws ≡ pattern_weights (task_of r).sizes (cells_at r (at_pattern p))
        filling_ends = rw (sizes_number, ← (sizes_taken r sound (all_sizes r) (sixteen_sizes r (all_sizes r) refl)))
            (weighing_end (all_sizes r) (cells_at r (at_pattern p)) (variable_count r) ws w v e f)

        pub states_counted : w ≡ state_count (task_of r).sizes (cells_at r (at_pattern p))
        states_counted = let k : v ≡ variable_count r = omega (arith, f.at) in
            rw (← (sizes_taken r sound (all_sizes r) (sixteen_sizes r (all_sizes r) refl))) (rw k at f.count)

-- One pattern more.
pub needed_after : (zs : List ℕ) (ps : List (List ℕ)) (p : ℕ) → p < length ps →
    entries_needed zs (take (p + 1) ps) ≡ entries_needed zs (take p ps) + state_count zs (get_or ps p [])
unfolding entries_needed
needed_after zs [] p h = absurd (omega arith)
needed_after zs (q ∷ ps) zero h = omega arith
needed_after zs (q ∷ ps) (suc p) h = let k = needed_after zs ps p (omega arith) in let e : suc p + 1 ≡ suc (p + 1) = omega arith in
    rw (e, k) (omega arith)

-- Patterns below p have their weights and offsets, and the next table begins at `begin`.
pub record FillingAll (zs : List ℕ) (ps weights : List (List ℕ)) (offsets : List ℕ) (begin p : ℕ) : Type 0 where
  pub passed : p ≤ length ps
  pub long : length offsets ≡ 8
  pub wide : length weights ≡ 8
  pub begun : begin ≡ entries_needed zs (take p ps)
  pub bounded : begin ≤ 4096 * p
  pub weigh : (q : ℕ) → q < p → get_or weights q [] ≡ pattern_weights zs (get_or ps q [])
  pub offset : (q : ℕ) → q < p → get_or offsets q 0 ≡ entries_needed zs (take q ps)

module _ (zs : List ℕ) (ps : List (List ℕ)) where
  pub all_begin : (weights : List (List ℕ)) (offsets : List ℕ) → length weights ≡ 8 → length offsets ≡ 8 → FillingAll zs ps weights offsets 0 0
  unfolding entries_needed
  all_begin weights offsets k l = record {
    passed = omega arith;
    long = l;
    wide = k;
    begun = refl;
    bounded = omega arith;
    weigh = λ q h. absurd (omega arith);
    offset = λ q h. absurd (omega arith);
  }

  module _ {weights : List (List ℕ)} {offsets : List ℕ} {begin p : ℕ} (f : FillingAll zs ps weights offsets begin p) where
    module _ (l : p < length ps) (few : p < 8) {own : List ℕ} {n : ℕ} (g : own ≡ pattern_weights zs (get_or ps p [])) (c : n ≡ state_count zs (get_or ps p [])) where
      weigh_next : (q : ℕ) → Dec (q ≡ p) → q < p + 1 → get_or (set weights p own) q [] ≡ pattern_weights zs (get_or ps q [])
      weigh_next q (yes e) h = rw e (get_or-set_same weights p own [] (omega (arith, f.wide)) ∙ g)
      weigh_next q (no k) h = get_or-set_other weights p q own [] k ∙ f.weigh q (earlier q p h k)

      offset_next : (q : ℕ) → Dec (q ≡ p) → q < p + 1 → get_or (set offsets p begin) q 0 ≡ entries_needed zs (take q ps)
      offset_next q (yes e) h = rw e (get_or-set_same offsets p begin 0 (omega (arith, f.long)) ∙ f.begun)
      offset_next q (no k) h = get_or-set_other offsets p q begin 0 k ∙ f.offset q (earlier q p h k)

      pub all-go_on : n ≤ 4096 → FillingAll zs ps (set weights p own) (set offsets p begin) (begin + n) (p + 1)
      all-go_on s = record {
        passed = omega arith;
        long = length-set offsets p begin ∙ f.long;
        wide = length-set weights p own ∙ f.wide;
        begun = omega (arith, f.begun, c, needed_after zs ps p l);
        bounded = omega (arith, f.bounded);
        weigh = λ q. weigh_next q (ℕ_discrete q p);
        offset = λ q. offset_next q (ℕ_discrete q p);
      }

    pub all_end : length ps ≤ p → WeightsOf zs ps weights offsets
    all_end l = record { weigh = λ q h. f.weigh q (omega arith); offset = λ q h. f.offset q (omega arith) }
