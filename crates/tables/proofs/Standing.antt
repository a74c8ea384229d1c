-- The space of a pattern of a well-formed task is regular: what the edges ask holds of it, and so it does of a sound record. Assumes nothing.
use Rattle.std.proofs.Common.{◌≡◌, ℕ, zero, suc, ◌+◌, ◌-◌, ◌*◌, ◌/◌, ◌%◌, ◌<◌, ◌≤◌, Bool, true, false, cond, ◌&&◌, ◌||◌, T, eqb, ltb, ◌⊎◌, List, [], ◌∷◌, ◌++◌, length, get_or, take, replicate, sym, refl, ap, ◌∙◌, inl, inr, mod-lt, ⊎_elim, arith, eqb→eq, length-append, le-ltb, get_or-take, lt-ltb, ltb→lt}
use native.Mathlib.Nat.{pow-le-pow_right}
use native.Mathlib.Decide.{dec_lt}
use lib.ListN.{length-replicate, get_or-eq_default}
use Rattle.planning.specs.Finite.{All}
use Rattle.planning.specs.Task.{Task, apply, action_at, in_sizes, fits_sizes, WellFormed}
use Rattle.planning.specs.Pattern.{keep, mask, counted, AbstractState}
use Rattle.planning.specs.Table.{index, state_count, state_at}
use Rattle.planning.proofs.Test.{by_test, and_l, and_r, and_in}
use Rattle.planning.proofs.Finite.{all_at}
use Rattle.planning.proofs.Pattern.{mask_fits, mask_stays_abstract, counted_fits}
use Rattle.planning.proofs.Table.{index_below, index_at_state, state_at-index, state_at_abstract}
use Rattle.planning.proofs.Task.{apply_keeps_sizes, action_well_formed}
use Rattle.task_record.specs.Layout.{at_pattern}
use Rattle.task_record.specs.Numbers.{variable_count, action_count, pattern_count, size_of}
use Rattle.task_record.specs.Record.{pattern_ok, Sound}
use Rattle.task_record.specs.TaskOf.{cells_at, task_of}
use Rattle.task_record.specs.Window.{Sixteen}
use Rattle.task_record.proofs.Offsets.{pattern_at}
use Rattle.task_record.proofs.Soundness.{sound_cell}
use Rattle.task_record.proofs.SoundTask.{patterns_right, cell_of_part, sizes_length, sound_well_formed}
use Rattle.patterns.proofs.Reading.{actions_length}
use Rattle.patterns.proofs.Sizes.{sizes_taken, pattern_whole}
use Rattle.packed_task.specs.Packed.{pack_by, picking, low, naming, leaving, setting, cells_of, outcome_count, compiled}
use Rattle.packed_task.specs.Packable.{all_cells_fit, Packable}
use Rattle.tables.specs.Steps.{weigh, weights_from, Space, space}
use Rattle.packed_task.specs.Within.{after}
use Rattle.packed_task.proofs.Packing.{low_digit, naming-digit, leaving-digit, setting-digit, pack-below, pack_cells}
use Rattle.tables.proofs.Digits.{lowest, next_digit}
use Rattle.tables.proofs.GoalWords.{word_below}
use Rattle.packed_task.proofs.Compiled.{goal_mask_is, goal_value_is, pre_mask_is, pre_value_is, outcome_count_is, keep_mask_is, set_value_is}
use Rattle.packed_task.proofs.Simulating.{packable_action}
use Rattle.packed_task.proofs.Abstracted.{after_is}
use Rattle.tables.proofs.Spacing.{weigh-index, length_weights, weigh_padded}
use Rattle.packed_task.proofs.SoundPacked.{sound_packable}
use Rattle.tables.proofs.Settled.{Stands}
use Rattle.task_record.proofs.Tests.{false_true}
use Rattle.tables.specs.Incoming.{Parted}
use Rattle.tables.specs.Waiting.{index_after}
use Rattle.tables.specs.Edges.{digit, Regular, Walkable}
use Rattle.tables.proofs.PackedDigits.{pack-digit, picking-digit, plain_mask}

-- A state has 0 outside the pattern, and values below the sizes in it.
state_outside : (zs p : List ℕ) (i u : ℕ) → eqb (get_or p u 0) 1 ≡ false → get_or (state_at zs p i) u 0 ≡ 0
unfolding state_at
state_outside [] p i u e = refl
state_outside (z ∷ zs) [] i zero e = refl
state_outside (z ∷ zs) [] i (suc u) e = state_outside zs [] i u e
state_outside (z ∷ zs) (b ∷ p) i zero e = rw e
state_outside (z ∷ zs) (b ∷ p) i (suc u) e = state_outside zs p _ u e

state_below : (zs p : List ℕ) (i u : ℕ) → All (λ z. 1 ≤ z) zs → u < length zs → get_or (state_at zs p i) u 0 < get_or zs u 0
unfolding state_at
state_below [] p i u h l = absurd (omega arith)
state_below (z ∷ zs) [] i zero h l = omega (arith, h.0)
state_below (z ∷ zs) [] i (suc u) h l = state_below zs [] i u h.1 (omega arith)
state_below (z ∷ zs) (b ∷ p) i zero h l = by_test (eqb b 1) (λ e. rw e (mod-lt i h.0)) (λ e. rw e (omega (arith, h.0)))
state_below (z ∷ zs) (b ∷ p) i (suc u) h l = state_below zs p _ u h.1 (omega arith)

take_get : (n : ℕ) (l : List ℕ) (u : ℕ) → get_or (take n l) u 0 ≤ get_or l u 0
take_get zero l u = omega arith
take_get (suc n) [] u = omega arith
take_get (suc n) (x ∷ l) zero = omega arith
take_get (suc n) (x ∷ l) (suc u) = take_get n l u

take_short : (n : ℕ) (l : List ℕ) → length (take n l) ≤ n
take_short zero l = omega arith
take_short (suc n) [] = omega arith
take_short (suc n) (x ∷ l) = omega (arith, take_short n l)

-- The cells of a word.
cells_in : (zs : List ℕ) (s : ℕ) → ((u : ℕ) → u < length zs → digit s u < get_or zs u 0) → T (in_sizes zs (cells_of (length zs) s))
unfolding in_sizes cells_of
cells_in [] s f = tt
cells_in (z ∷ zs) s f = and_in (ltb (s % 16) z) _ (rw (lt-ltb (s % 16) z (let h = f 0 (omega arith) in omega (arith, h, lowest s))) tt) (cells_in zs (s / 16) (λ u l. rw (next_digit s u) at (f (suc u) (omega arith))))

cells_kept : (m : ℕ) (p : List ℕ) (s : ℕ) → ((u : ℕ) → eqb (get_or p u 0) 1 ≡ false → digit s u ≡ 0) → keep 0 p (cells_of m s) ≡ cells_of m s
unfolding keep cells_of
cells_kept zero p s f = refl
cells_kept (suc m) [] s f = let z : s % 16 ≡ 0 = lowest s ∙ f 0 refl in rw (z, cells_kept m [] (s / 16) (λ u e. sym (next_digit s u) ∙ f (suc u) e))
cells_kept (suc m) (b ∷ p) s f = rw (cells_kept m p (s / 16) (λ u e. sym (next_digit s u) ∙ f (suc u) e)) (by_test (eqb b 1) (λ e. rw e) (λ e. let z : s % 16 ≡ 0 = lowest s ∙ f 0 e in rw (e, z)))

-- A value that is named is below its size.
named_below : (u : ℕ) (zs c : List ℕ) → T (all_cells_fit zs c) → u < length zs → naming (get_or c u 255) ≡ 15 → setting (get_or c u 255) < get_or zs u 0
unfolding all_cells_fit
named_below u [] c h l e = absurd (omega arith)
named_below u (z ∷ zs) [] h l e = let f : ◌≡◌ {A = ℕ} 0 15 = e in absurd (omega arith)
named_below zero (z ∷ zs) (y ∷ c) h l e = by_test (eqb y 255) (λ q. let f : ◌≡◌ {A = ℕ} 0 15 = rw q at e in absurd (omega arith))
    (λ q. let b : y < z = ltb→lt y z (rw q at (and_l (eqb y 255 || ltb y z) _ h)) in rw q (omega (arith, b)))
named_below (suc u) (z ∷ zs) (y ∷ c) h l e = named_below u zs c (and_r (eqb y 255 || ltb y z) _ h) (omega arith) e

module _ (t : Task) (w : WellFormed t) (k : Packable t) (p : List ℕ) (x : Space) (r : Stands t p x) (sizes : List ℕ) (n : ℕ)
    (sized : take n sizes ≡ t.sizes) (short : length p ≤ 16) (few : state_count t.sizes p ≤ 4096) (only : (u : ℕ) → length t.sizes ≤ u → eqb (get_or p u 0) 1 ≡ false) where
  abbrev state_of : ℕ → List ℕ
  state_of i = state_at t.sizes p i

  abbrev states : ℕ
  states = state_count t.sizes p

  mask-digit : (u : ℕ) → digit x.mask u ≡ picking (get_or p u 0)
  mask-digit u = ap (λ a. digit a u) r.mask_is ∙ pack-digit picking 0 refl picking-digit p u

  state_digit : (i u : ℕ) → i < states → digit (get_or x.states i 0) u ≡ get_or (state_of i) u 0 % 16
  state_digit i u l = ap (λ a. digit a u) (r.states_are i l) ∙ pack-digit low 0 refl low_digit (state_of i) u

  inside : (i u : ℕ) → i < states → digit x.mask u ≡ 0 → digit (get_or x.states i 0) u ≡ 0
  inside i u l e = state_digit i u l ∙ ap (λ a. a % 16) (state_outside t.sizes p i u (off (eqb (get_or p u 0) 1) (sym (mask-digit u) ∙ e)))
    where
      off : (b : Bool) → ◌≡◌ {A = ℕ} (cond b 15 0) 0 → b ≡ false
      off true h = absurd (omega arith)
      off false h = refl

  in_sizes_lem : (u : ℕ) → digit x.mask u ≡ 15 → u < length t.sizes
  in_sizes_lem u e = either (dec_lt u (length t.sizes))
    where
      either : Dec (u < length t.sizes) → u < length t.sizes
      either (yes l) = l
      either (no l) = let z : ◌≡◌ {A = ℕ} 15 0 = sym e ∙ mask-digit u ∙ rw (only u (omega arith)) in absurd (omega arith)

  below : (i u : ℕ) → i < states → digit x.mask u ≡ 15 → digit (get_or x.states i 0) u < get_or sizes u 0
  below i u l e = let b = state_below t.sizes p i u w.sizes_positive (in_sizes_lem u e) in let g = rw sized at (take_get n sizes u) in let d = state_digit i u l in omega (arith, b, g, d)

  module _ (m o : ℕ) (l : m < length t.actions) (b : o < length (action_at t m).outcomes) where
    -- What counts of the outcome leads from abstract states to abstract states, whether they permit the action or not.
    abbrev outcome : List ℕ
    outcome = counted (action_at t m).precondition (get_or (action_at t m).outcomes o [])

    after_abstract : (i : ℕ) → AbstractState t p (apply (mask p outcome) (state_of i))
    after_abstract i = (
      apply_keeps_sizes t.sizes (mask p outcome) (state_of i)
          (mask_fits p t.sizes outcome (counted_fits t.sizes (action_at t m).precondition _
          (all_at (λ c. T (fits_sizes t.sizes c)) (action_at t m).outcomes [] (action_well_formed t w m l).outcomes_fit o b)))
          (state_at_abstract t w p i).0,
      mask_stays_abstract p outcome (state_of i) (state_at_abstract t w p i).1,
    )

    closed : (i : ℕ) → i < states → (index_after x m i o < states) × (get_or x.states (index_after x m i o) 0 ≡ after x.task x.mask m o (get_or x.states i 0))
    unfolding index_after
    closed i d = let y = apply (mask p outcome) (state_of i) in let v = after_abstract i in
        let a : after x.task x.mask m o (get_or x.states i 0) ≡ pack_by low y = rw (r.task_is, r.mask_is, r.states_are i d) (after_is t k p (λ a. a.weight) m l o b (state_of i) (state_at_abstract t w p i)) in
        let j = index t.sizes p y in
        let b = index_below t.sizes p y v.0 in
        rw (a, r.weights_are y v) (b, r.states_are j b ∙ ap (pack_by low) (state_at-index t.sizes p y v.0 ∙ v.1))

  -- Each word that has 0 outside the mask and values below the sizes is that of a state.
  there : (s : ℕ) → ((u : ℕ) → digit x.mask u ≡ 0 → digit s u ≡ 0) → ((u : ℕ) → digit x.mask u ≡ 15 → digit s u < get_or sizes u 0) → (weigh x.weights s < states) × (get_or x.states (weigh x.weights s) 0 ≡ s)
  unfolding index
  there s f g = let zs = t.sizes in let m = length zs in let y = cells_of m s in
      let a : pack_by low y ≡ s = pack_cells m s (word_below m s (λ u l. f u (mask-digit u ∙ rw (only u l)))) in
      let v : AbstractState t p y = (cells_in zs s (λ u l. size u l), cells_kept m p s (λ u e. f u (mask-digit u ∙ rw e))) in
      let j = index zs p y in let b = index_below zs p y v.0 in
      let e : weigh x.weights s ≡ j = ap (weigh x.weights) (sym a) ∙ r.weights_are y v in
      rw e (b, r.states_are j b ∙ ap (pack_by low) (state_at-index zs p y v.0 ∙ v.1) ∙ a)
    where
      plain : (u : ℕ) → (digit x.mask u ≡ 0) ⊎ (digit x.mask u ≡ 15)
      plain u = rw r.mask_is (plain_mask p u)

      taken : (u : ℕ) → u < length t.sizes → get_or t.sizes u 0 ≡ get_or sizes u 0
      taken u l = rw (← sized) (get_or-take n sizes u 0 (let k = take_short n sizes in let q : length (take n sizes) ≡ length t.sizes = ap length sized in omega (arith, k, q, l)))

      size : (u : ℕ) → u < length t.sizes → digit s u < get_or t.sizes u 0
      size u l = ⊎_elim (λ e. let z = f u e in let b = state_below t.sizes p 0 u w.sizes_positive l in omega (arith, z, b)) (λ e. rw (taken u l) (g u e)) (plain u)

  need_pair : (y : ℕ) → ((naming y ≡ 0) × (setting y ≡ 0)) ⊎ (naming y ≡ 15)
  need_pair y = by_test (eqb y 255) (λ e. inl (rw e, rw e)) (λ e. inr (rw e))

  out_pair : (y : ℕ) → ((leaving y ≡ 15) × (setting y ≡ 0)) ⊎ (leaving y ≡ 0)
  out_pair y = by_test (eqb y 255) (λ e. inl (rw e, rw e)) (λ e. inr (rw e))

  action_of_lem : (m : ℕ) → m < x.actions → m < length t.actions
  action_of_lem m l = rw r.actions_are at l

  outcome_of : (m o : ℕ) (l : m < length t.actions) → o < outcome_count x.task m → o < length (action_at t m).outcomes
  outcome_of m o l b = let e : outcome_count x.task m ≡ length (action_at t m).outcomes = rw r.task_is (outcome_count_is t k.actions_few m l) in omega (arith, e)

  stands_regular : Regular x sizes states
  stands_regular = record {
    states_few = few;
    room = let a = pack-below picking picking-digit p in let b = pow-le-pow_right {n = 16} (omega arith) short in rw r.mask_is (omega (arith, a, b));
    mask_plain = rw r.mask_is (plain_mask p);
    need_plain = λ m l u. let h = action_of_lem m l in let c = (action_at t m).precondition in
        rw (r.task_is, pre_mask_is t k.actions_few m h, pre_value_is t k.actions_few m h, pack-digit naming 255 refl naming-digit c u, pack-digit setting 255 refl setting-digit c u) (need_pair (get_or c u 255));
    out_plain = λ m o l b u. let h = action_of_lem m l in let d = outcome_of m o h b in let c = counted (action_at t m).precondition (get_or (action_at t m).outcomes o []) in let f = (packable_action t k m h).outcomes_few in
        rw (r.task_is, keep_mask_is t k.actions_few m h f o d, set_value_is t k.actions_few m h f o d, pack-digit leaving 0 refl leaving-digit c u, pack-digit setting 0 refl setting-digit c u) (out_pair (get_or c u 0));
    index_is = λ i l. rw (r.states_are i l) (r.weights_are (state_of i) (state_at_abstract t w p i) ∙ index_at_state t.sizes p w.sizes_positive i l);
    inside = inside;
    below = below;
    closed = λ m o i l b d q. let h = action_of_lem m l in closed m o h (outcome_of m o h b) i d;
    goal_plain = λ u. rw (r.task_is, goal_mask_is t k.actions_few, goal_value_is t k.actions_few, pack-digit naming 255 refl naming-digit t.goal u, pack-digit setting 255 refl setting-digit t.goal u) (need_pair (get_or t.goal u 255));
    goal_below = λ u e f. let l = in_sizes_lem u e in let b = named_below u t.sizes t.goal k.goal_fits l (rw (r.task_is, goal_mask_is t k.actions_few, pack-digit naming 255 refl naming-digit t.goal u) at f) in
        let g = rw sized at (take_get n sizes u) in rw (r.task_is, goal_value_is t k.actions_few, pack-digit setting 255 refl setting-digit t.goal u) (omega (arith, b, g));
    there = there;
  }

pub parted_as : {states : List ℕ} {n l lower low high : ℕ} → n ≡ l → Parted states n lower low high → Parted states l lower low high
parted_as e g = rw e at g

pub weights_short : (weights sizes p : List ℕ) (n : ℕ) → n ≤ 16 → weights ≡ weights_from 1 (take n sizes) p ++ replicate (16 - n) 0 → length weights ≤ 16
weights_short weights sizes p n l e = let a = length-append (weights_from 1 (take n sizes) p) (replicate (16 - n) 0) in let b = length_weights 1 (take n sizes) p in
    let d = length-replicate {A = ℕ} (16 - n) 0 in rw e (omega (arith, a, b, d, take_short n sizes))

-- What a build asks of a task beside what it reads holds of one that is well formed.
task_walkable : (t : Task) → WellFormed t → Packable t → (p : List ℕ) (sizes : List ℕ) (n : ℕ) → take n sizes ≡ t.sizes → length p ≤ 16 → state_count t.sizes p ≤ 4096 → ((u : ℕ) → length t.sizes ≤ u → eqb (get_or p u 0) 1 ≡ false) →
    Walkable (compiled t) (pack_by picking p) (length t.actions) n sizes p
unfolding index
task_walkable t w k p sizes n sized short few only = record {
  regular = λ weights states e s. rw sized (stands_regular t w k p (space (compiled t) (pack_by picking p) weights states (length t.actions)) (record {
    task_is = refl;
    mask_is = refl;
    weights_are = λ y o. rw (e, weigh_padded (weights_from 1 (take n sizes) p) (16 - n) (pack_by low y), sized) (weigh-index 1 t.sizes p y k.values_few o.0);
    states_are = rw sized at s;
    actions_are = refl;
  }) sizes n sized short few only);
}

-- A cell of a sound record's pattern beyond the variables is not 1.
module _ (r : List ℕ) (sound : Sound r) (p : ℕ) (known : p < pattern_count r) where
  cell_ok_lem : (u : ℕ) → u < 16 → pattern_ok r p u (get_or (cells_at r (at_pattern p)) u 0) ≡ true
  cell_ok_lem u l = let k = patterns_right r sound in
      let a : at_pattern p + u ≡ at_pattern 0 + (16 * p + u) = omega arith in
      let q : (16 * p + u) / 16 ≡ p = omega arith in
      let w : (16 * p + u) % 16 ≡ u = omega arith in
      rw (cell_of_part r 16 (at_pattern p) u l, a) (rw (q, w) at (sym (pattern_at r (16 * p + u) (omega arith)) ∙ sound_cell r sound (at_pattern 0 + (16 * p + u)) (omega arith)))

  cell_beyond : (u : ℕ) → variable_count r ≤ u → Dec (u < 16) → get_or (cells_at r (at_pattern p)) u 0 ≡ 0
  unfolding pattern_ok
  cell_beyond u l (yes b) = let x = get_or (cells_at r (at_pattern p)) u 0 in zero_or x (ltb p (pattern_count r)) (eqb x 1) (rw (le-ltb u (variable_count r) l) at (cell_ok_lem u b))
    where
      off : (b e : Bool) → (b && false && e) ≡ true → ⊥
      off true true h = false_true h
      off true false h = false_true h
      off false true h = false_true h
      off false false h = false_true h

      zero_or : (x : ℕ) (b e : Bool) → (eqb x 0 || (b && false && e)) ≡ true → x ≡ 0
      zero_or x b e h = by_test (eqb x 0) (λ q. eqb→eq x 0 (rw q tt)) (λ q. absurd (off b e (rw q at h)))
  cell_beyond u l (no b) = get_or-eq_default (cells_at r (at_pattern p)) 0 (let n = pattern_whole r sound p known in omega (arith, n))

  -- What a build asks of a task holds of that of a sound record.
  pub sound_walkable : (sizes : List ℕ) → Sixteen (size_of r) sizes → state_count (task_of r).sizes (cells_at r (at_pattern p)) ≤ 4096 →
      Walkable (compiled (task_of r)) (pack_by picking (cells_at r (at_pattern p))) (action_count r) (variable_count r) sizes (cells_at r (at_pattern p))
  unfolding task_of
  sound_walkable sizes sixteen few = rw (actions_length r) at (task_walkable (task_of r) (sound_well_formed r sound) (sound_packable r sound) (cells_at r (at_pattern p)) sizes (variable_count r)
      (sizes_taken r sound sizes sixteen) (let n = pattern_whole r sound p known in omega (arith, n)) few
      (λ u l. let z : get_or (cells_at r (at_pattern p)) u 0 ≡ 0 = cell_beyond u (let n = sizes_length r sound in omega (arith, n, l)) (dec_lt u 16) in rw z))
