-- Sets as words: one number more, and the loop that takes out the lowest number of a set until none is left.
-- Assumes nothing.
use Rattle.std.proofs.Common.{◌≡◌, ℕ, zero, suc, ◌+◌, ◌-◌, ◌*◌, ◌/◌, ◌%◌, ◌^◌, ◌<◌, ◌≤◌, Bool, true, false, cond, sym, refl, ap, ◌∙◌, ap₂, add-zero, mod-eq_of_lt, mul_assoc, suc-mul, mul_comm, add-mul, one-mul, pow-suc, zero-mul, arith, pow_pos, pow-add}
use Rattle.std.proofs.Math.Nat.{zero-div}
use native.Mathlib.Nat.{pow-le-pow_right, div-div-eq-div-mul}
use lib.Bits.{bit_and, bit_or, and_block, and_self, and_shifted, or_shifted_r, and_mask}
use lib.Count.{count_trailing_zeros}
use Rattle.planning.proofs.Test.{by_test}
use Rattle.planning.specs.Sets.{set_from}
use Rattle.planning.proofs.Sets.{digit_small, set_below}

-- A set of at most 64 numbers is not changed by a meet with the word of all.
pub set_whole : (f : ℕ → Bool) (m n : ℕ) → n ≤ 64 → bit_and (set_from f m n) 18446744073709551615 ≡ set_from f m n
set_whole f m n l = let p = pow-le-pow_right {n = 2} (omega arith) l in let b = set_below f m n in let s : set_from f m n < 2 ^ 64 = omega arith in and_mask (set_from f m n) 64 ∙ mod-eq_of_lt s

-- One number more at the upper end.
set_adds : (f : ℕ → Bool) (m n : ℕ) → set_from f m (suc n) ≡ set_from f m n + cond (f (m + n)) (2 ^ n) 0
unfolding set_from
set_adds f m zero = rw (add-zero m) (by_test (f m) (λ e. rw e) (λ e. rw e))
set_adds f m (suc n) = let e : m + suc n ≡ m + 1 + n = omega arith in let p = pow-suc 2 n in
    rw e (ap (λ a. a * 2 + cond (f m) 1 0) (set_adds f (m + 1) n) ∙ by_test (f (m + 1 + n)) (λ t. rw t (omega arith)) (λ t. rw t (omega arith)))

pub set_more : (f : ℕ → Bool) (n : ℕ) → set_from f 0 (n + 1) ≡ cond (f n) (bit_or (set_from f 0 n) (2 ^ n)) (set_from f 0 n)
set_more f n = let e : n + 1 ≡ suc n = omega arith in let z : 0 + n ≡ n = omega arith in
    rw e (rw z at (set_adds f 0 n) ∙ by_test (f n)
    (λ t. rw t (let o = or_shifted_r 1 n (set_from f 0 n) (set_below f 0 n) in let u : 1 * 2 ^ n ≡ 2 ^ n = omega arith in let v = rw u at o in omega arith))
    (λ t. rw t (omega arith)))

-- The lowest number of a set that is not empty, and the set above it.
pub record Lowest (f : ℕ → Bool) (m n w : ℕ) : Type 0 where
  pub at : ℕ
  pub within : at < n
  pub passes : f (m + at) ≡ true
  pub first : (j : ℕ) → j < at → f (m + j) ≡ false
  pub word : w ≡ (set_from f (m + at + 1) (n - (at + 1)) * 2 + 1) * 2 ^ at

first_later : (f : ℕ → Bool) (m at : ℕ) → f m ≡ false → ((j : ℕ) → j < at → f (m + 1 + j) ≡ false) → (j : ℕ) → j < suc at → f (m + j) ≡ false
first_later f m at t h zero l = rw (add-zero m) t
first_later f m at t h (suc j) l = let e : m + 1 + j ≡ m + suc j = omega arith in rw e at (h j (omega arith))

lowest_of : (f : ℕ → Bool) (m n : ℕ) → (set_from f m n ≡ 0 → ⊥) → Lowest f m n (set_from f m n)
unfolding set_from
lowest_of f m zero h = absurd (h refl)
lowest_of f m (suc n) h = by_test (f m)
    (λ t. let e : m + 0 ≡ m = omega arith in let d : suc n - (0 + 1) ≡ n = omega arith in record {
      at = 0;
      within = omega arith;
      passes = rw e t;
      first = λ j l. absurd (omega arith);
      word = rw (t, e, d) (omega arith);
    })
    (λ t. let i = lowest_of f (m + 1) n (λ z. h (rw (t, z))) in let e : m + 1 + i.at ≡ m + suc i.at = omega arith in let p = pow-suc 2 i.at in
    let d : n - (i.at + 1) ≡ suc n - (suc i.at + 1) = omega arith in record {
      at = suc i.at;
      within = omega (arith, i.within);
      passes = rw e at i.passes;
      first = first_later f m i.at t i.first;
      word = rw t (ap (λ a. a * 2 + 0) i.word ∙ rw (e, d, p) (add-zero _ ∙ mul_assoc _ (2 ^ i.at) 2));
    })

-- The zeros below an odd number's lowest digit, and what is left without that digit.
trailing_odd : (a k n : ℕ) → k < n → count_trailing_zeros n ((a * 2 + 1) * 2 ^ k) ≡ k
unfolding count_trailing_zeros
trailing_odd a k zero l = absurd (omega arith)
trailing_odd a zero (suc n) l = let e : ((a * 2 + 1) * 1) % 2 ≡ 1 = omega arith in rw e
trailing_odd a (suc k) (suc n) l = let p = pow-suc 2 k in let q : (a * 2 + 1) * 2 ^ suc k ≡ ((a * 2 + 1) * 2 ^ k) * 2 = rw p (sym (mul_assoc (a * 2 + 1) (2 ^ k) 2)) in
    let e : ((a * 2 + 1) * 2 ^ k) * 2 % 2 ≡ 0 = omega arith in let h : ((a * 2 + 1) * 2 ^ k) * 2 / 2 ≡ (a * 2 + 1) * 2 ^ k = omega arith in
    rw (q, e, h) (ap suc (trailing_odd a k n (omega arith)))

without_lowest_lem : (a k : ℕ) → bit_and ((a * 2 + 1) * 2 ^ k) ((a * 2 + 1) * 2 ^ k - 1) ≡ a * 2 ^ (k + 1)
without_lowest_lem a k = let s : k + 1 ≡ suc k = omega arith in let p = pow-suc 2 k in let o : 0 < 2 ^ k = pow_pos k in
    let x : (a * 2 + 1) * 2 ^ k ≡ a * 2 ^ suc k + 2 ^ k = rw p (add-mul (a * 2) 1 (2 ^ k) ∙ ap₂ (λ m n. m + n) (mul_assoc a 2 (2 ^ k) ∙ ap (λ n. a * n) (mul_comm 2 (2 ^ k))) (one-mul (2 ^ k))) in
    let y : a * 2 ^ suc k + 2 ^ k - 1 ≡ a * 2 ^ suc k + (2 ^ k - 1) = omega arith in
    let z : bit_and (2 ^ k) (2 ^ k - 1) ≡ 0 = rw (one-mul (2 ^ k)) at (and_shifted 1 k (2 ^ k - 1) (omega arith)) in
    rw (s, x, y) (and_block (suc k) a a (2 ^ k) (2 ^ k - 1) (omega arith) (omega arith) ∙ rw (and_self a, z) (add-zero _))

trailing_word : (w a m : ℕ) → w ≡ (a * 2 + 1) * 2 ^ m → m < 64 → count_trailing_zeros 64 w ≡ m
trailing_word w a m e l = rw e (trailing_odd a m 64 l)

word_without : (w a m : ℕ) → w ≡ (a * 2 + 1) * 2 ^ m → bit_and w (w - 1) ≡ a * 2 ^ (m + 1)
word_without w a m e = rw e (without_lowest_lem a m)

product-zero : (a b : ℕ) → 0 < b → a * b ≡ 0 → a ≡ 0
product-zero zero b h e = refl
product-zero (suc a) b h e = absurd (let q : suc a * b ≡ a * b + b = suc-mul a b in omega arith)

-- What is left of the set of the numbers below n that pass f: those from k on.
abbrev pub Left : (ℕ → Bool) → ℕ → ℕ → ℕ → Type 0
Left f k n w = w ≡ set_from f k (n - k) * 2 ^ k

pub left_all : (f : ℕ → Bool) (n w : ℕ) → w ≡ set_from f 0 n → Left f 0 n w
left_all f n w e = e ∙ (let z : n - 0 ≡ n = omega arith in rw z (omega arith))

-- The set without the numbers below k.
set_above : (f : ℕ → Bool) (k m n : ℕ) → set_from f m n / 2 ^ k ≡ set_from f (m + k) (n - k)
unfolding set_from
set_above f zero m n = let z : m + 0 ≡ m = omega arith in let y : n - 0 ≡ n = omega arith in rw (z, y) (omega arith)
set_above f (suc k) m zero = let y : 0 - suc k ≡ 0 = omega arith in rw y (zero-div (2 ^ suc k))
set_above f (suc k) m (suc n) = let z : m + suc k ≡ m + 1 + k = omega arith in let y : suc n - suc k ≡ n - k = omega arith in let b = digit_small (f m) in
    let d : set_from f m (suc n) / 2 ≡ set_from f (m + 1) n = omega (arith, b) in let p = pow-suc 2 k in let q : 2 * 2 ^ k ≡ 2 ^ suc k = omega arith in
    rw (z, y) (ap (λ c. set_from f m (suc n) / c) (sym q) ∙ sym (div-div-eq-div-mul (set_from f m (suc n)) 2 (2 ^ k)) ∙ rw d (set_above f k (m + 1) n))

pub left_above : (f : ℕ → Bool) (k n w v : ℕ) → w ≡ set_from f 0 n → v ≡ w / 2 ^ k * 2 ^ k → Left f k n v
left_above f k n w v e g = let z : 0 + k ≡ k = omega arith in g ∙ rw (e, set_above f k 0 n, z) refl

-- The lowest number of what is left.
pub record Next (f : ℕ → Bool) (k n w : ℕ) : Type 0 where
  pub passed : k ≤ count_trailing_zeros 64 w
  pub within : count_trailing_zeros 64 w < n
  pub passes : f (count_trailing_zeros 64 w) ≡ true
  pub first : (j : ℕ) → k ≤ j → j < count_trailing_zeros 64 w → f j ≡ false
  pub left : Left f (count_trailing_zeros 64 w + 1) n (bit_and w (w - 1))

next_at : (f : ℕ → Bool) (k n w m : ℕ) → count_trailing_zeros 64 w ≡ m → k ≤ m → m < n → f m ≡ true → ((j : ℕ) → k ≤ j → j < m → f j ≡ false) → Left f (m + 1) n (bit_and w (w - 1)) → Next f k n w
next_at f k n w m e a b c d l = record { passed = rw e a; within = rw e b; passes = rw e c; first = λ j. rw e (d j); left = rw e l }

pub next_left : (f : ℕ → Bool) (k n w : ℕ) → n ≤ 64 → Left f k n w → (w ≡ 0 → ⊥) → Next f k n w
next_left f k n w few e some =
    let i = lowest_of f k (n - k) (λ z. some (e ∙ rw z (zero-mul (2 ^ k)))) in
    let a = set_from f (k + i.at + 1) (n - k - (i.at + 1)) in
    let d : n - k - (i.at + 1) ≡ n - (k + i.at + 1) = omega arith in
    let whole : w ≡ (a * 2 + 1) * 2 ^ (k + i.at) = e ∙ ap (λ x. x * 2 ^ k) i.word ∙ mul_assoc (a * 2 + 1) (2 ^ i.at) (2 ^ k) ∙ ap (λ x. (a * 2 + 1) * x) (mul_comm (2 ^ i.at) (2 ^ k) ∙ sym (pow-add 2 k i.at)) in
    let b = i.within in
    next_at f k n w (k + i.at) (trailing_word w a (k + i.at) whole (omega arith)) (omega arith) (omega arith) i.passes
    (λ j g l. let q : k + (j - k) ≡ j = omega arith in rw q at (i.first (j - k) (omega arith)))
    (rw d at (word_without w a (k + i.at) whole))

-- An empty set: none is left that passes.
none_in : (f : ℕ → Bool) (m n : ℕ) → set_from f m n ≡ 0 → (j : ℕ) → j < n → f (m + j) ≡ false
unfolding set_from
none_in f m zero z j l = absurd (omega arith)
none_in f m (suc n) z zero l = rw (add-zero m) (by_test (f m) (λ t. absurd (let y : set_from f (m + 1) n * 2 + 1 ≡ 0 = rw t at z in omega arith)) (λ t. t))
none_in f m (suc n) z (suc j) l = let e : m + 1 + j ≡ m + suc j = omega arith in rw e at (none_in f (m + 1) n (omega arith) j (omega arith))

pub none_left : (f : ℕ → Bool) (k n w : ℕ) → Left f k n w → w ≡ 0 → (j : ℕ) → k ≤ j → j < n → f j ≡ false
none_left f k n w e z j a b = let p : 0 < 2 ^ k = pow_pos k in
    let q : k + (j - k) ≡ j = omega arith in rw q at (none_in f k (n - k) (product-zero (set_from f k (n - k)) (2 ^ k) p (sym e ∙ z)) (j - k) (omega arith))
