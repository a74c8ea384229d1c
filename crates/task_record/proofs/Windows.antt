-- The window (specs/Window.antt) of each kind of cell: a byte fits it exactly if the cell's rule allows the byte. Assumes nothing.
use Rattle.std.proofs.Common.{◌≡◌, ℕ, ◌+◌, ◌-◌, ◌%◌, ◌<◌, ◌≤◌, Bool, true, false, cond, ◌&&◌, ◌||◌, eqb, ltb, leb, List, sym, ◌∙◌, arith, ltb-true, lt-ltb, eq-eqb, eqb-true, le-leb, leb-true}
use mathlib.Core.Bool.{or-false}
use borrow.Author.Tests.{eqb-false}
use Rattle.task_record.specs.Numbers.{variable_count, pattern_count, size_of}
use Rattle.task_record.specs.Window.{fits}
use Rattle.task_record.specs.Record.{size_ok, value_ok, assignment_ok, state_ok, pattern_ok}
use Rattle.planning.proofs.Test.{by_test}
use Rattle.task_record.proofs.Tests.{same_test, both, both_left, both_right, either, one_of}

fits_same : (x shift top : ℕ) (q : Bool) → ((x + shift) % 256 ≤ top → q ≡ true) → (q ≡ true → (x + shift) % 256 ≤ top) → fits x shift top ≡ q
unfolding fits
fits_same x shift top q f g = same_test _ q (λ h. f (leb-true ((x + shift) % 256) top h)) (λ h. le-leb ((x + shift) % 256) top (g h))

module _ (x : ℕ) (byte : x < 256) where
  window_2_16 : fits x 254 14 ≡ (leb 2 x && leb x 16)
  window_2_16 =
      fits_same x 254 14 _ (λ q. both (leb 2 x) (leb x 16) (le-leb 2 x (omega arith)) (le-leb x 16 (omega arith)))
      (λ h. let p = leb-true 2 x (both_left _ _ h) in let q = leb-true x 16 (both_right (leb 2 x) _ h) in omega arith)

  window_0 : fits x 0 0 ≡ eqb x 0
  window_0 = fits_same x 0 0 _ (λ q. eq-eqb x 0 (omega arith)) (λ h. let q = eqb-true x 0 h in omega arith)

  window_0_1 : fits x 0 1 ≡ (eqb x 0 || eqb x 1)
  window_0_1 =
      fits_same x 0 1 _ (λ q. either (eqb x 0) (eqb x 1) (λ p. let n = eqb-false x 0 p in eq-eqb x 1 (omega (arith, n))))
      (λ h. one_of (eqb x 0) (eqb x 1) h (λ p. let q = eqb-true x 0 p in omega arith) (λ p. let q = eqb-true x 1 p in omega arith))

  window_255 : fits x 1 0 ≡ eqb x 255
  window_255 = fits_same x 1 0 _ (λ q. eq-eqb x 255 (omega arith)) (λ h. let q = eqb-true x 255 h in omega arith)

  window_255_or_below : (z : ℕ) → fits x 1 z ≡ (eqb x 255 || ltb x z)
  window_255_or_below z =
      fits_same x 1 z _ (λ q. either (eqb x 255) (ltb x z) (λ p. let n = eqb-false x 255 p in lt-ltb x z (omega (arith, n))))
      (λ h. one_of (eqb x 255) (ltb x z) h (λ p. let q = eqb-true x 255 p in omega arith) (λ p. let q = ltb-true x z p in omega arith))

  window_below : (z : ℕ) → 1 ≤ z → fits x 0 (z - 1) ≡ ltb x z
  window_below z l = fits_same x 0 (z - 1) _ (λ q. lt-ltb x z (omega arith)) (λ h. let q = ltb-true x z h in omega arith)

  module _ (r : List ℕ) (v : ℕ) where
    pub size_window : fits x (cond (ltb v (variable_count r)) 254 0) (cond (ltb v (variable_count r)) 14 0) ≡ size_ok r v x
    unfolding size_ok
    size_window = by_test (ltb v (variable_count r)) (λ t. rw t window_2_16) (λ t. rw t window_0)

    pub pattern_window : (p : ℕ) → ltb p (pattern_count r) ≡ true → fits x 0 (cond (ltb v (variable_count r)) 1 0) ≡ pattern_ok r p v x
    unfolding pattern_ok
    pattern_window p u = by_test (ltb v (variable_count r)) (λ t. rw (t, u) window_0_1) (λ t. rw (t, u) (window_0 ∙ sym (or-false (eqb x 0))))

    pub unused_pattern_window : (p : ℕ) → ltb p (pattern_count r) ≡ false → fits x 0 0 ≡ pattern_ok r p v x
    unfolding pattern_ok
    unused_pattern_window p u = rw u (window_0 ∙ sym (or-false (eqb x 0)))

    pub unused_assignment_window : fits x 1 0 ≡ assignment_ok r false v x
    unfolding assignment_ok
    unused_assignment_window = window_255 ∙ sym (or-false (eqb x 255))

    -- Where the size of the variable is right: 0 for a variable that is not used.
    module _ (right : size_ok r v (size_of r v) ≡ true) where
      pub assignment_window : fits x 1 (size_of r v) ≡ assignment_ok r true v x
      unfolding assignment_ok value_ok size_ok
      assignment_window =
          by_test (ltb v (variable_count r))
          (λ t. rw t (window_255_or_below (size_of r v)))
          (λ t. let z = eqb-true (size_of r v) 0 (rw t at right) in rw (t, z) (window_255 ∙ sym (or-false (eqb x 255))))

      pub state_window : fits x (cond (ltb v (variable_count r)) 0 1) (size_of r v - 1) ≡ state_ok r v x
      unfolding state_ok size_ok
      state_window =
          by_test (ltb v (variable_count r))
          (λ t. let z = leb-true 2 (size_of r v) (both_left _ _ (rw t at right)) in rw t (window_below (size_of r v) (omega arith)))
          (λ t. let z = eqb-true (size_of r v) 0 (rw t at right) in rw (t, z) window_255)
