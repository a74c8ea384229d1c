-- The system of a compiled task over packed states does as the task does over lists. Assumes nothing.
use Rattle.std.proofs.Common.{◌≡◌, ℕ, suc, ◌+◌, ◌^◌, ◌<◌, ◌||◌, T, eqb, ltb, List, [], ◌∷◌, map, length, get_or, refl, ap, ◌∙◌, ap₂, zero-add, arith}
use lib.Bits.{bit_and, bit_or}
use Rattle.planning.specs.Finite.{All, tabulate}
use Rattle.planning.specs.Task.{Task, meets, apply, permits, action_at, no_action, system, in_sizes, State, WellFormed}
use Rattle.planning.specs.Pattern.{counted_cell, counted}
use Rattle.planning.specs.System.{applies}
use Rattle.planning.proofs.Test.{and_in, and_l, and_r, by_test}
use Rattle.planning.proofs.Pattern.{length_counted, counted_leads}
use Rattle.planning.proofs.Finite.{all_at, all_imp, all_map, map-map}
use Rattle.planning.proofs.Task.{apply_keeps_sizes, action_well_formed}
use Rattle.planning.proofs.Simulation.{Simulates}
use Rattle.packed_task.specs.Packed.{pack_by, low, naming, leaving, setting, cells_of, need_met, packed_system, compiled}
use Rattle.packed_task.specs.Packable.{all_cells_fit, PackableOutcome, PackableAction, Packable}
use Rattle.packed_task.proofs.Packing.{mask_test, mask_change, pack_cells, cells_pack, pack-below, low_digit}
use Rattle.packed_task.proofs.Compiled.{goal_mask_is, goal_value_is, pre_mask_is, pre_value_is, outcome_count_is, action_weight_is, keep_mask_is, set_value_is}

-- A list given by places is a list mapped, where the places agree.
pub tabulate-map : {A B : Type 0} (f : A → B) (g : ℕ → B) (xs : List A) (d : A) (j : ℕ) → ((k : ℕ) → k < length xs → g (j + k) ≡ f (get_or xs k d)) → tabulate g j (length xs) ≡ map f xs
unfolding tabulate
tabulate-map f g [] d j h = refl
tabulate-map f g (x ∷ xs) d j h = ap₂ (λ y ys. y ∷ ys) (let e : j + 0 ≡ j = omega arith in rw e at (h 0 (omega arith)))
    (tabulate-map f g xs d (suc j) (λ k l. let e : j + suc k ≡ suc j + k = omega arith in rw e at (h (suc k) (omega arith))))

pub map_same : {A B : Type 0} (f g : A → B) (xs : List A) → All (λ x. f x ≡ g x) xs → map f xs ≡ map g xs
map_same f g [] h = refl
map_same f g (x ∷ xs) h = ap₂ (λ y ys. y ∷ ys) h.0 (map_same f g xs h.1)

pub in_sizes-length : (zs s : List ℕ) → T (in_sizes zs s) → length s ≡ length zs
unfolding in_sizes
in_sizes-length [] [] o = refl
in_sizes-length [] (x ∷ s) o = absurd o
in_sizes-length (z ∷ zs) [] o = absurd o
in_sizes-length (z ∷ zs) (x ∷ s) o = ap suc (in_sizes-length zs s (and_r (ltb x z) _ o))

-- The words that stand for states of t.
abbrev pub PackedState : Task → ℕ → Type 0
PackedState t r = State t (cells_of (length t.sizes) r) × (r < 16 ^ length t.sizes)

pub packable_action : (t : Task) → Packable t → (m : ℕ) → m < length t.actions → PackableAction t.sizes (action_at t m)
packable_action t k m l = all_at (PackableAction t.sizes) t.actions no_action k.actions_fit_lem m l

-- What counts of a packable outcome is packable.
counted_cell_fits : (n y z : ℕ) → T (eqb y 255 || ltb y z) → T (eqb (counted_cell n y) 255 || ltb (counted_cell n y) z)
counted_cell_fits n y z t = by_test (eqb y n) (λ e. rw e tt) (λ e. rw e t)

counted_cell_beyond : (n y : ℕ) → T (eqb y 255) → T (eqb (counted_cell n y) 255)
counted_cell_beyond n y t = by_test (eqb y n) (λ e. rw e tt) (λ e. rw e t)

counted_cells_fit : (zs n o : List ℕ) → T (all_cells_fit zs o) → T (all_cells_fit zs (counted n o))
unfolding all_cells_fit counted
counted_cells_fit zs n [] t = tt
counted_cells_fit zs [] (y ∷ o) t = t
counted_cells_fit [] (n ∷ need) (y ∷ o) t = and_in (eqb (counted_cell n y) 255) _ (counted_cell_beyond n y (and_l (eqb y 255) _ t)) (counted_cells_fit [] need o (and_r (eqb y 255) _ t))
counted_cells_fit (z ∷ zs) (n ∷ need) (y ∷ o) t = and_in (eqb (counted_cell n y) 255 || ltb (counted_cell n y) z) _
    (counted_cell_fits n y z (and_l (eqb y 255 || ltb y z) _ t)) (counted_cells_fit zs need o (and_r (eqb y 255 || ltb y z) _ t))

pub counted_packable : (zs n o : List ℕ) → PackableOutcome zs o → PackableOutcome zs (counted n o)
counted_packable zs n o f = record { cells_fit = counted_cells_fit zs n o f.cells_fit; whole = let e = length_counted n o in omega (arith, f.whole, e) }

module _ (t : Task) (w : WellFormed t) (k : Packable t) where
  -- A state as a word.
  pub packed_state : (s : List ℕ) → State t s → PackedState t (pack_by low s)
  packed_state s o = (rw (cells_pack t.sizes s k.values_few o) o, rw (in_sizes-length t.sizes s o) at (pack-below low low_digit s))

  word_test : (c : List ℕ) → T (all_cells_fit t.sizes c) → (r : ℕ) → PackedState t r → eqb (bit_and r (pack_by naming c)) (pack_by setting c) ≡ meets c (cells_of (length t.sizes) r)
  word_test c f r o = rw (pack_cells (length t.sizes) r o.1) at (mask_test t.sizes c (cells_of (length t.sizes) r) k.values_few f o.0)

  word_change : (o : List ℕ) → PackableOutcome t.sizes o → (r : ℕ) → PackedState t r → bit_or (bit_and r (pack_by leaving o)) (pack_by setting o) ≡ pack_by low (apply o (cells_of (length t.sizes) r))
  word_change o f r h = rw (pack_cells (length t.sizes) r h.1) at (mask_change t.sizes o (cells_of (length t.sizes) r) k.values_few f.cells_fit f.whole h.0)

  module _ (m : ℕ) (l : m < length t.actions) where
    word_enabled : (r : ℕ) → PackedState t r → (packed_system (compiled t) (length t.actions)).enabled m r ≡ permits (action_at t m) (cells_of (length t.sizes) r)
    unfolding packed_system permits need_met
    word_enabled r o = rw (pre_mask_is t k.actions_few m l, pre_value_is t k.actions_few m l) (word_test (action_at t m).precondition (packable_action t k m l).precondition_fits r o)

    word_permits : (r : ℕ) → PackedState t r → T (applies (packed_system (compiled t) (length t.actions)) m r) → T (permits (action_at t m) (cells_of (length t.sizes) r))
    unfolding applies
    word_permits r o a = rw (word_enabled r o) at (and_l ((packed_system (compiled t) (length t.actions)).enabled m r) _ a)

    -- Where the action applies, the words of what counts lead to the states of the task.
    word_successors : (r : ℕ) → PackedState t r → T (permits (action_at t m) (cells_of (length t.sizes) r)) → (packed_system (compiled t) (length t.actions)).successors m r ≡ map (λ o. pack_by low (apply o (cells_of (length t.sizes) r))) (action_at t m).outcomes
    unfolding packed_system
    word_successors r o a = rw (outcome_count_is t k.actions_few m l) (tabulate-map (λ o. pack_by low (apply o (cells_of (length t.sizes) r))) _ (action_at t m).outcomes [] 0
        (λ i b. rw (zero-add i, keep_mask_is t k.actions_few m l (packable_action t k m l).outcomes_few i b, set_value_is t k.actions_few m l (packable_action t k m l).outcomes_few i b)
        (word_change (counted (action_at t m).precondition (get_or (action_at t m).outcomes i []))
        (counted_packable t.sizes (action_at t m).precondition _ (all_at (PackableOutcome t.sizes) (action_at t m).outcomes [] (packable_action t k m l).outcomes_fit i b)) r o
        ∙ ap (pack_by low) (counted_leads (action_at t m) (get_or (action_at t m).outcomes i []) (cells_of (length t.sizes) r) a))))

    after_state_lem : (s : List ℕ) → State t s → All (λ o. State t (apply o s)) (action_at t m).outcomes
    after_state_lem s h = all_imp (λ o f. apply_keeps_sizes t.sizes o s f h) (action_at t m).outcomes (action_well_formed t w m l).outcomes_fit

  -- The packed system does as the task.
  pub packed_simulates : Simulates (packed_system (compiled t) (length t.actions)) (system t) (cells_of (length t.sizes)) (PackedState t)
  unfolding packed_system need_met system permits
  packed_simulates = record {
    same_actions = refl;
    same_weight = λ m l. action_weight_is t k.actions_few m l;
    same_goal = λ r o. rw (goal_mask_is t k.actions_few, goal_value_is t k.actions_few) (word_test t.goal k.goal_fits r o);
    same_enabled = λ m r l o. word_enabled m l r o;
    same_successors = λ m r l o a. ap (map (cells_of (length t.sizes))) (word_successors m l r o (word_permits m l r o a))
        ∙ map-map (λ o. pack_by low (apply o (cells_of (length t.sizes) r))) (cells_of (length t.sizes)) (action_at t m).outcomes
        ∙ map_same _ _ (action_at t m).outcomes (all_imp (λ o u. cells_pack t.sizes (apply o (cells_of (length t.sizes) r)) k.values_few u) (action_at t m).outcomes (after_state_lem m l _ o.0));
    closed = λ m r l o a. rw (word_successors m l r o (word_permits m l r o a)) (all_map (PackedState t) (λ o. pack_by low (apply o (cells_of (length t.sizes) r))) (action_at t m).outcomes
        (all_imp (λ o u. packed_state (apply o (cells_of (length t.sizes) r)) u) (action_at t m).outcomes (after_state_lem m l _ o.0)));
  }
