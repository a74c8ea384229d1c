-- Sets of patterns, gone through from the first pattern on, and the patterns that a variable brings in. Assumes nothing.
use mathlib.Core.Path.{◌≡◌, refl, sym, ◌∙◌}
use mathlib.Core.Bool.{Bool, true, false, not, ◌&&◌, cond}
use Prim.Native.Nat.{ℕ, zero, suc, ◌+◌, ◌*◌, ◌-◌, ◌/◌, ◌%◌, ◌≤◌, ◌<◌}
use native.Mathlib.Nat.{pow-le-pow_right}
use native.Mathlib.Omega.{arith}
use lib.Dec.{eqb}
use Rattle.planning.proofs.Test.{by_test}
use Rattle.planning.specs.Sets.{set_from}
use Rattle.planning.proofs.Sets.{set_same, digit_small, set_none, set_below}

pub set_small : (f : ℕ → Bool) (k n : ℕ) → n ≤ 7 → set_from f k n ≤ 127
set_small f k n h = let l = set_below f k n in let p = pow-le-pow_right {n = 2} (omega arith) {i = n} {j = 7} h in omega arith

-- A set and its first pattern.
module _ (f : ℕ → Bool) (k n : ℕ) (l : k < n) where
  pub set_step : set_from f k (n - k) ≡ set_from f (k + 1) (n - (k + 1)) * 2 + cond (f k) 1 0
  unfolding set_from
  set_step = let e : n - k ≡ suc (n - (k + 1)) = omega arith in rw e

  pub set_half : set_from f k (n - k) / 2 ≡ set_from f (k + 1) (n - (k + 1))
  set_half = let d = digit_small (f k) in let e = set_step in omega arith

  pub set_odd : set_from f k (n - k) % 2 ≡ 1 → f k ≡ true
  set_odd h = by_test (f k) (λ t. t) (λ t. let e : set_from f k (n - k) ≡ set_from f (k + 1) (n - (k + 1)) * 2 + 0 = rw t at set_step in absurd (omega arith))

  pub set_even : (set_from f k (n - k) % 2 ≡ 1 → ⊥) → f k ≡ false
  set_even h = by_test (f k) (λ t. let e : set_from f k (n - k) ≡ set_from f (k + 1) (n - (k + 1)) * 2 + 1 = rw t at set_step in absurd (h (omega arith))) (λ t. t)

pub set_empty : (f : ℕ → Bool) (n : ℕ) → set_from f n (n - n) ≡ 0
unfolding set_from
set_empty f n = let e : n - n ≡ zero = omega arith in rw e

-- A variable that an outcome names brings in the patterns that it is in; one that it does not name brings none.
pub set-named : (f : ℕ → Bool) (y n : ℕ) → cond (eqb y 255) 0 (set_from f 0 n) ≡ set_from (λ p. f p && not (eqb y 255)) 0 n
set-named f y n = by_test (eqb y 255)
    (λ e. rw e (sym (set_same (λ p. f p && false) (λ p. false) 0 n (λ i z l. and_false (f i)) ∙ set_none 0 n)))
    (λ e. rw e (sym (set_same (λ p. f p && true) f 0 n (λ i z l. and-true (f i)))))
  where
    and_false : (a : Bool) → (a && false) ≡ false
    and_false true = refl
    and_false false = refl

    and-true : (a : Bool) → (a && true) ≡ a
    and-true true = refl
    and-true false = refl
