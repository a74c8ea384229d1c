-- Laws of a test over a run of numbers, number by number. Assumes nothing.
use mathlib.Core.Path.{◌≡◌}
use mathlib.Core.Bool.{Bool, false, ◌||◌}
use Prim.Native.Nat.{ℕ, zero, suc, ◌+◌, ◌-◌, ◌≤◌, ◌<◌}
use native.Mathlib.Numerals.{add-one}
use native.Mathlib.Omega.{arith}
use Rattle.planning.specs.Finite.{some_of, tabulate}

module _ {A : Type 0} (f : A → Bool) (g : ℕ → A) (k n : ℕ) where
  pub some_none_left : n ≤ k → some_of f (tabulate g k (n - k)) ≡ false
  unfolding tabulate
  some_none_left l = let e : n - k ≡ zero = omega arith in rw e

  pub some_step : k < n → some_of f (tabulate g k (n - k)) ≡ (f (g k) || some_of f (tabulate g (k + 1) (n - (k + 1))))
  unfolding tabulate
  some_step l = let e : n - k ≡ suc (n - (k + 1)) = omega arith in rw (e, add-one k)
