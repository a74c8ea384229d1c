-- Tests and changes of packed words within a pattern's mask are those of the task's abstraction. Assumes nothing.
use Rattle.std.proofs.Common.{◌≡◌, ℕ, ◌<◌, Bool, true, false, cond, not, ◌&&◌, ◌||◌, T, eqb, ltb, List, [], ◌∷◌, length, get_or, sym, refl, ap, ◌∙◌, arith}
use lib.Bits.{bit_and, and_block}
use Rattle.planning.specs.Task.{Action, Task, meets, apply, permits, action_at, system, State}
use Rattle.planning.specs.Pattern.{keep, mask, mask_action, abstraction, AbstractState, counted, affects}
use Rattle.planning.proofs.Test.{and_in, and_l, and_r, by_test}
use Rattle.planning.proofs.Finite.{all_at}
use Rattle.planning.proofs.Pattern.{project-apply, action_masked, unaffected_outcome, masked_leads}
use Rattle.packed_task.specs.Packed.{pack_by, picking, low, naming, leaving, setting, keep_mask, compiled}
use Rattle.packed_task.specs.Packable.{all_cells_fit, PackableOutcome, Packable}
use Rattle.packed_task.specs.Within.{is_goal, permitted, after}
use Rattle.packed_task.proofs.Packing.{mask_test, mask_change, pack-keep, low_digit, naming-digit, setting-digit, leaving-digit}
use Rattle.packed_task.proofs.Compiled.{goal_mask_is, goal_value_is, pre_mask_is, pre_value_is, keep_mask_is, set_value_is}
use Rattle.packed_task.proofs.Simulating.{packable_action, counted_packable}

-- A masked assignment names values below the sizes.
mask-cell-fits : (b : Bool) (y z : ℕ) → T (eqb y 255 || ltb y z) → T (eqb (cond b y 255) 255 || ltb (cond b y 255) z)
mask-cell-fits true y z t = t
mask-cell-fits false y z t = tt

mask-cell_beyond : (b : Bool) (y : ℕ) → T (eqb y 255) → T (eqb (cond b y 255) 255)
mask-cell_beyond true y t = t
mask-cell_beyond false y t = tt

pub mask-cells_fit : (p zs o : List ℕ) → T (all_cells_fit zs o) → T (all_cells_fit zs (mask p o))
unfolding all_cells_fit keep
mask-cells_fit p zs [] t = tt
mask-cells_fit [] [] (y ∷ o) t = mask-cells_fit [] [] o (and_r (eqb y 255) _ t)
mask-cells_fit (b ∷ p) [] (y ∷ o) t = and_in (eqb (cond (eqb b 1) y 255) 255) _ (mask-cell_beyond (eqb b 1) y (and_l (eqb y 255) _ t)) (mask-cells_fit p [] o (and_r (eqb y 255) _ t))
mask-cells_fit [] (z ∷ zs) (y ∷ o) t = mask-cells_fit [] zs o (and_r (eqb y 255 || ltb y z) _ t)
mask-cells_fit (b ∷ p) (z ∷ zs) (y ∷ o) t = and_in (eqb (cond (eqb b 1) y 255) 255 || ltb (cond (eqb b 1) y 255) z) _
    (mask-cell-fits (eqb b 1) y z (and_l (eqb y 255 || ltb y z) _ t)) (mask-cells_fit p zs o (and_r (eqb y 255 || ltb y z) _ t))

-- A kept digit of the pattern is not named.
kept_cell : (b y : ℕ) → bit_and (leaving y) (picking b) ≡ picking b → (eqb b 1 && not (eqb y 255)) ≡ false
kept_cell b y h = by_test (eqb b 1)
    (λ e. by_test (eqb y 255) (λ f. rw (e, f)) (λ f. let z : ◌≡◌ {A = ℕ} 0 15 = rw (e, f) at h in absurd (omega arith)))
    (λ e. rw e)

-- An outcome that keeps the pattern's digits does not affect the pattern.
pub kept_unaffected : (p o : List ℕ) → bit_and (pack_by leaving o) (pack_by picking p) ≡ pack_by picking p → affects p o ≡ false
unfolding pack_by affects
kept_unaffected p [] h = refl
kept_unaffected [] (y ∷ o) h = kept_unaffected_none o
  where
    kept_unaffected_none : (o : List ℕ) → affects [] o ≡ false
    kept_unaffected_none [] = refl
    kept_unaffected_none (y ∷ o) = kept_unaffected_none o
kept_unaffected (b ∷ p) (y ∷ o) h =
    let d = cond_below (eqb b 1) in
    let l = leaving-digit y in
    let e = sym (and_block 4 (pack_by leaving o) (pack_by picking p) (leaving y) (picking b) l d) ∙ h in
    let r = and_small (leaving y) (picking b) l in
    let u : bit_and (pack_by leaving o) (pack_by picking p) ≡ pack_by picking p = omega arith in
    let v : bit_and (leaving y) (picking b) ≡ picking b = omega arith in
    rw (kept_cell b y v) (kept_unaffected p o u)
  where
    cond_below : (t : Bool) → cond t 15 0 < 16
    cond_below true = omega arith
    cond_below false = omega arith

    and_small : (x y : ℕ) → x < 16 → bit_and x y < 16
    and_small x y l = omega (arith, lib.Bits.and_le_l x y)

module _ (t : Task) (k : Packable t) (p : List ℕ) (q : Action → ℕ) where
  masked_test : (c s : List ℕ) → T (all_cells_fit t.sizes c) → State t s → eqb (bit_and (pack_by low s) (bit_and (pack_by naming c) (pack_by picking p))) (bit_and (pack_by setting c) (pack_by picking p)) ≡ meets (mask p c) s
  masked_test c s f o = rw (pack-keep naming naming-digit 255 refl p c, pack-keep setting setting-digit 255 refl p c) (mask_test t.sizes (mask p c) s k.values_few (mask-cells_fit p t.sizes c f) o)

  pub goal_is : (s : List ℕ) → State t s → is_goal (compiled t) (pack_by picking p) (pack_by low s) ≡ (system (abstraction p q t)).goal s
  unfolding is_goal system abstraction
  goal_is s o = rw (goal_mask_is t k.actions_few, goal_value_is t k.actions_few) (masked_test t.goal s k.goal_fits o)

  module _ (m : ℕ) (l : m < length t.actions) where
    pub permitted_is : (s : List ℕ) → State t s → permitted (compiled t) (pack_by picking p) m (pack_by low s) ≡ (system (abstraction p q t)).enabled m s
    unfolding permitted system permits mask_action
    permitted_is s o = rw (pre_mask_is t k.actions_few m l, pre_value_is t k.actions_few m l, action_masked p q t m l) (masked_test (action_at t m).precondition s (packable_action t k m l).precondition_fits o)

    module _ (i : ℕ) (b : i < length (action_at t m).outcomes) where
      -- What counts of the outcome.
      abbrev pub counted_outcome : List ℕ
      counted_outcome = counted (action_at t m).precondition (get_or (action_at t m).outcomes i [])

      outcome_packable : PackableOutcome t.sizes counted_outcome
      outcome_packable = counted_packable t.sizes (action_at t m).precondition _ (all_at (PackableOutcome t.sizes) (action_at t m).outcomes [] (packable_action t k m l).outcomes_fit i b)

      pub after_is : (s : List ℕ) → AbstractState t p s → after (compiled t) (pack_by picking p) m i (pack_by low s) ≡ pack_by low (apply (mask p counted_outcome) s)
      unfolding after
      after_is s o = rw (
        keep_mask_is t k.actions_few m l (packable_action t k m l).outcomes_few i b,
        set_value_is t k.actions_few m l (packable_action t k m l).outcomes_few i b,
        mask_change t.sizes counted_outcome s k.values_few outcome_packable.cells_fit outcome_packable.whole o.0,
        pack-keep low low_digit 0 refl p (apply counted_outcome s),
        project-apply p counted_outcome s,
        o.1,
      )

      -- In an abstract state that permits the action this is the state after the outcome.
      outcome_leads : (s : List ℕ) → T ((system (abstraction p q t)).enabled m s) → apply (mask p counted_outcome) s ≡ apply (mask p (get_or (action_at t m).outcomes i [])) s
      unfolding system permits mask_action
      outcome_leads s a = masked_leads p (action_at t m) (get_or (action_at t m).outcomes i []) s (rw (action_masked p q t m l) at a)

      pub after_permitted : (s : List ℕ) → AbstractState t p s → T ((system (abstraction p q t)).enabled m s) → after (compiled t) (pack_by picking p) m i (pack_by low s) ≡ pack_by low (apply (mask p (get_or (action_at t m).outcomes i [])) s)
      after_permitted s o a = after_is s o ∙ ap (pack_by low) (outcome_leads s a)

      -- An outcome that keeps the digits of the pattern leaves the abstract states as they are that permit the action.
      pub idle_outcome : (s : List ℕ) → AbstractState t p s → T ((system (abstraction p q t)).enabled m s) → bit_and (keep_mask (compiled t) m i) (pack_by picking p) ≡ pack_by picking p → apply (mask p (get_or (action_at t m).outcomes i [])) s ≡ s
      idle_outcome s o v e = let a = counted_outcome in
          let h : bit_and (pack_by leaving a) (pack_by picking p) ≡ pack_by picking p = rw (keep_mask_is t k.actions_few m l (packable_action t k m l).outcomes_few i b) at e in
          let n : T (not (affects p a)) = rw (kept_unaffected p a h) tt in
          (let f = unaffected_outcome p a s n in let g = project-apply p a s in sym (outcome_leads s v) ∙ rw o.1 at (sym g ∙ f))
