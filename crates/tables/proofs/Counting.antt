-- The outcomes of the actions that leave no state as it is, counted action by action. Assumes nothing.
use Rattle.std.proofs.Common.{◌≡◌, ℕ, zero, suc, ◌+◌, ◌-◌, ◌*◌, ◌<◌, ◌≤◌, Bool, true, false, not, List, sym, refl, ◌∙◌, arith}
use lib.Bits.{bit_and}
use lib.Count.{count_trailing_zeros}
use Rattle.packed_task.specs.Packed.{outcome_count}
use Rattle.planning.specs.Sets.{set_from}
use Rattle.packed_task.specs.Within.{idles}
use Rattle.tables.specs.Edges.{outcomes_from}
use Rattle.packed_task.proofs.SetWords.{Left, left_all, Next, next_left, none_left}
use Rattle.task_record.proofs.Tests.{false_true}

-- The outcomes that are left to count: those of the next action that does not idle and of the actions after it.
outcomes_skip : (a : List ℕ) (k from d n : ℕ) → ((j : ℕ) → from ≤ j → j < from + d → idles a k j ≡ true) → outcomes_from a k from (d + n) ≡ outcomes_from a k (from + d) n
unfolding outcomes_from
outcomes_skip a k from zero n h = let z : 0 + n ≡ n = omega arith in let y : from + 0 ≡ from = omega arith in rw (z, y)
outcomes_skip a k from (suc d) n h = let z : suc d + n ≡ suc (d + n) = omega arith in let y : from + suc d ≡ suc from + d = omega arith in
    let r = outcomes_skip a k (suc from) d n (λ j l b. h j (omega arith) (omega arith)) in rw (z, y, h from (omega arith) (omega arith)) (omega (arith, r))

outcomes_here : (a : List ℕ) (k m n : ℕ) → idles a k m ≡ false → outcomes_from a k m (suc n) ≡ outcome_count a m + outcomes_from a k (m + 1) n
unfolding outcomes_from
outcomes_here a k m n h = let z : m + 1 ≡ suc m = omega arith in rw (h, z)

not-false : (t : Bool) → not t ≡ false → t ≡ true
not-false true e = refl
not-false false e = false_true (sym e)

not-true : (t : Bool) → not t ≡ true → t ≡ false
not-true true e = false_true e
not-true false e = refl

module _ (a : List ℕ) (k n from rest : ℕ) (few : n ≤ 64) (left : Left (λ m. not (idles a k m)) from n rest) where
  pub next_of : (rest ≡ 0 → ⊥) → Next (λ m. not (idles a k m)) from n rest
  next_of some = next_left (λ m. not (idles a k m)) from n rest few left some

  pub outcomes_next : (rest ≡ 0 → ⊥) → outcomes_from a k from (n - from) ≡ outcome_count a (count_trailing_zeros 64 rest) + outcomes_from a k (count_trailing_zeros 64 rest + 1) (n - (count_trailing_zeros 64 rest + 1))
  outcomes_next some = let x = next_of some in let m = count_trailing_zeros 64 rest in
      let e : n - from ≡ m - from + suc (n - (m + 1)) = omega (arith, x.passed, x.within) in let y : from + (m - from) ≡ m = omega (arith, x.passed) in
      rw e (outcomes_skip a k from (m - from) (suc (n - (m + 1))) (λ j l b. not-false (idles a k j) (x.first j l (omega arith))) ∙ rw y (outcomes_here a k m (n - (m + 1)) (not-true (idles a k m) x.passes)))

  pub outcomes_over : rest ≡ 0 → from ≤ n → outcomes_from a k from (n - from) ≡ 0
  unfolding outcomes_from
  outcomes_over z l = let e : n - from ≡ n - from + 0 = omega arith in
      rw e (outcomes_skip a k from (n - from) 0 (λ j b d. not-false (idles a k j) (none_left (λ m. not (idles a k m)) from n rest left z j b (omega arith))))

-- The outcomes of the actions of a set, so far.
pub record Counting (a : List ℕ) (k n rest c : ℕ) : Type 0 where
  pub from : ℕ
  pub left : Left (λ m. not (idles a k m)) from n rest
  pub bound : from ≤ n
  pub few : c ≤ 8 * from
  pub sum : c + outcomes_from a k from (n - from) ≡ outcomes_from a k 0 n

pub counting_start : (a : List ℕ) (k n effective : ℕ) → effective ≡ set_from (λ m. not (idles a k m)) 0 n → Counting a k n effective 0
counting_start a k n effective e = record { from = 0; left = left_all (λ m. not (idles a k m)) n effective e; bound = omega arith; few = omega arith; sum = let z : n - 0 ≡ n = omega arith in rw z (omega arith) }

module _ {a : List ℕ} {k n rest c : ℕ} (few : n ≤ 64) (v : Counting a k n rest c) where
  pub counting_known : (rest ≡ 0 → ⊥) → (count_trailing_zeros 64 rest < n) × (c ≤ 8 * count_trailing_zeros 64 rest)
  counting_known some = let x = next_of a k n v.from rest few v.left some in (x.within, omega (arith, v.few, x.passed))

  pub counting_next : (rest ≡ 0 → ⊥) → outcome_count a (count_trailing_zeros 64 rest) ≤ 8 → Counting a k n (bit_and rest (rest - 1)) (c + outcome_count a (count_trailing_zeros 64 rest))
  counting_next some eight = let x = next_of a k n v.from rest few v.left some in record {
    from = count_trailing_zeros 64 rest + 1;
    left = x.left;
    bound = omega (arith, x.within);
    few = omega (arith, (counting_known some).1);
    sum = omega (arith, v.sum, outcomes_next a k n v.from rest few v.left some);
  }

  pub counting_end : rest ≡ 0 → (c ≡ outcomes_from a k 0 n) × (c ≤ 512)
  counting_end z = (omega (arith, v.sum, outcomes_over a k n v.from rest few v.left z v.bound), omega (arith, v.few, v.bound))
