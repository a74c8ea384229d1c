-- Sets that are gathered one number at a time. Assumes nothing.
use Rattle.std.proofs.Common.{◌≡◌, ℕ, suc, ◌+◌, ◌-◌, ◌*◌, ◌%◌, ◌<◌, ◌≤◌, Bool, refl, ◌∙◌, arith}
use native.Mathlib.Nat.{pow-le-pow_right}
use lib.Bits.{bit_or, or_zero_r, or_block}
use mir.Val.{bool_byte}
use Rattle.planning.proofs.Test.{by_test}
use Rattle.planning.specs.Sets.{set_from}
use Rattle.planning.proofs.Sets.{set_below}

-- No number yet.
pub set_of_none : (f : ℕ → Bool) (m : ℕ) → 0 ≡ set_from f m 0
unfolding set_from
set_of_none f m = refl

-- A 1 in the place that a shift leaves free.
or_one : (a : ℕ) → bit_or (a * 2) 1 ≡ a * 2 + 1
or_one a = let o = or_block 1 a 0 0 1 (omega arith) (omega arith) in let z : a * 2 + 0 ≡ a * 2 = omega arith in rw (z, or_zero_r a) at o

-- One number more at the lower end.
pub set_joins : (f : ℕ → Bool) (q n set : ℕ) (b : Bool) → 0 < q → q ≤ n → n ≤ 64 → b ≡ f (q - 1) → set ≡ set_from f q (n - q) → bit_or (set * 2 % 18446744073709551616) (bool_byte b) ≡ set_from f (q - 1) (n - (q - 1))
unfolding set_from
set_joins f q n set b some l few e h = let k : n - (q - 1) ≡ suc (n - q) = omega arith in let m : q - 1 + 1 ≡ q = omega arith in
    let p = pow-le-pow_right {n = 2} (omega arith) (let z : n - q ≤ 63 = omega arith in z) in let w = set_below f q (n - q) in let v : set * 2 % 18446744073709551616 ≡ set * 2 = omega arith in
    rw (k, m, ← h, ← e, v) (by_test b (λ t. rw t (or_one set)) (λ t. rw t (or_zero_r (set * 2) ∙ omega arith)))
