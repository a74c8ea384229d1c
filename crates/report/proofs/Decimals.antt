-- The digits of a number without fuel: a digit is itself, and more is the digits before the last and the last. Assumes nothing.
use mathlib.Core.Path.{◌≡◌, ◌∙◌, ap}
use mathlib.Core.List.{List, [], ◌∷◌, ◌++◌}
use Prim.Native.Nat.{ℕ, zero, suc, ◌+◌, ◌*◌, ◌/◌, ◌%◌, ◌<◌, ◌≤◌}
use native.Mathlib.Decide.{dec_lt}
use native.Mathlib.Omega.{arith}
use borrow.Author.Tests.{lt-ltb, le-ltb}
use lib.Dec.{ltb}
use lib.ListN.{length, length-append}
use Rattle.std.specs.Fmt as library
use Rattle.std.proofs.lemmas.Fmt.{decimal_by_steps}
use Rattle.planning.specs.Finite.{choose}
use Rattle.report.specs.Decimal.{digits_of, decimal}

-- any fuel above n is enough
digits_enough : (f g n : ℕ) → n < f → n < g → digits_of f n ≡ digits_of g n
unfolding digits_of choose
digits_enough zero g n h k = absurd (omega arith)
digits_enough (suc f) zero n h k = absurd (omega arith)
digits_enough (suc f) (suc g) n h k = go (dec_lt n 10) (digits_enough f g (n / 10))
  where
    go : Dec (n < 10) → (n / 10 < f → n / 10 < g → digits_of f (n / 10) ≡ digits_of g (n / 10)) →
        choose (ltb n 10) (λ u. (48 + n) ∷ []) (λ u. digits_of f (n / 10) ++ ((48 + n % 10) ∷ [])) ≡
        choose (ltb n 10) (λ u. (48 + n) ∷ []) (λ u. digits_of g (n / 10) ++ ((48 + n % 10) ∷ []))
    go (yes l) r = rw (lt-ltb n 10 l)
    go (no l) r = rw (le-ltb n 10 (omega arith)) (ap (λ (d : List ℕ). d ++ ((48 + n % 10) ∷ [])) (r (omega arith) (omega arith)))

pub decimal_of_digit : (n : ℕ) → n < 10 → decimal n ≡ (48 + n) ∷ []
unfolding decimal digits_of choose
decimal_of_digit n l = rw (lt-ltb n 10 l)

pub decimal_of_more : (n : ℕ) → 10 ≤ n → decimal n ≡ decimal (n / 10) ++ ((48 + n % 10) ∷ [])
unfolding decimal digits_of choose
decimal_of_more n l = rw (le-ltb n 10 l) (ap (λ (d : List ℕ). d ++ ((48 + n % 10) ∷ [])) (digits_enough n (suc (n / 10)) (n / 10) (omega arith) (omega arith)))

-- the library's digits are these
pub decimal_by_library : (n : ℕ) → n < 18446744073709551616 → decimal n ≡ library.decimal n
decimal_by_library =
    decimal_by_steps (λ n ds. decimal n ≡ ds) decimal_of_digit (λ n ds l e. decimal_of_more n l ∙ ap (λ (d : List ℕ). d ++ ((48 + n % 10) ∷ [])) e)

-- the powers of ten
unfoldable pub tens : ℕ → ℕ
tens zero = 1
tens (suc k) = tens k * 10

-- A number below a power of ten has at most as many digits.
pub decimal-length : (k n : ℕ) → n < tens (suc k) → length (decimal n) ≤ suc k
unfolding tens
decimal-length zero n h = rw (decimal_of_digit n (omega arith)) (omega arith)
decimal-length (suc k) n h = go (dec_lt n 10) (decimal-length k (n / 10))
  where
    go : Dec (n < 10) → (n / 10 < tens k * 10 → length (decimal (n / 10)) ≤ suc k) → length (decimal n) ≤ suc (suc k)
    go (yes l) r = rw (decimal_of_digit n l) (omega arith)
    go (no l) r = rw (decimal_of_more n (omega arith)) (omega (arith, length-append (decimal (n / 10)) ((48 + n % 10) ∷ []), r (omega arith)))

-- what a machine word and a byte can hold
pub word_length : (n : ℕ) → n < 18446744073709551616 → length (decimal n) ≤ 20
unfolding tens
word_length n h = decimal-length 19 n (omega arith)

pub byte-length : (n : ℕ) → n < 256 → length (decimal n) ≤ 3
unfolding tens
byte-length n h = decimal-length 2 n (omega arith)
