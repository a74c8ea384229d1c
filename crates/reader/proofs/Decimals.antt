-- Digits and their value from an index on, and what a well_formed_lem number is known for.
-- Assumes nothing.
use mathlib.Core.Path.{◌≡◌, refl}
use mathlib.Core.Bool.{Bool, true, false, not, ◌&&◌, ◌||◌, false≢true}
use mathlib.Core.List.{List}
use Prim.Native.Nat.{ℕ, ◌+◌, ◌-◌, ◌*◌, ◌^◌, ◌≤◌, ◌<◌}
use native.Mathlib.Nat.{pow-suc, pow-le-pow_right}
use native.Mathlib.Numerals.{add-one}
use native.Mathlib.Omega.{arith}
use lib.Dec.{leb, eqb}
use lib.ListN.{length, drop, get_or, drop_of_length-le}
use borrow.Author.Tests.{leb-true}
use Rattle.reader.specs.Text.{digit, digits, value, well_formed}
use Rattle.task_record.proofs.Rest.{drop_step}

pub digits_step : (s : List ℕ) (i : ℕ) → i < length s → digits (drop i s) ≡ (digit (get_or s i 0) && digits (drop (i + 1) s))
unfolding digits
digits_step s i h = rw (drop_step s i h)

pub value_step : (s : List ℕ) (i v : ℕ) → i < length s → value v (drop i s) ≡ value (v * 10 + (get_or s i 0 - 48)) (drop (i + 1) s)
unfolding value
value_step s i v h = rw (drop_step s i h)

pub digits_end : (s : List ℕ) (i : ℕ) → length s ≤ i → digits (drop i s) ≡ true
unfolding digits
digits_end s i h = rw (drop_of_length-le s h)

pub value_end : (s : List ℕ) (i v : ℕ) → length s ≤ i → value v (drop i s) ≡ v
unfolding value
value_end s i v h = rw (drop_of_length-le s h)

and_left : (a b : Bool) → (a && b) ≡ true → a ≡ true
and_left true b e = refl
and_left false b e = e

and_right : (a b : Bool) → (a && b) ≡ true → b ≡ true
and_right true b e = e
and_right false b e = absurd (false≢true e)

-- a number has 1 to 7 bytes, and where it is well formed each is a digit
module _ (s : List ℕ) where
  abbrev count : Bool
  count = leb 1 (length s) && leb (length s) 7

  abbrev lead : Bool
  lead = leb (length s) 1 || not (eqb (get_or s 0 0) 48)

  pub framed_short : (count && lead) ≡ true → length s ≤ 7
  framed_short e = leb-true (length s) 7 (and_right (leb 1 (length s)) (leb (length s) 7) (and_left count lead e))

  pub formed_some : well_formed s ≡ true → 1 ≤ length s
  unfolding well_formed
  formed_some e = leb-true 1 (length s) (and_left (leb 1 (length s)) (leb (length s) 7) (and_left count lead (and_left (count && lead) (digits s) e)))

  pub formed_digits : well_formed s ≡ true → digits s ≡ true
  unfolding well_formed
  formed_digits e = and_right (count && lead) (digits s) e

-- a bound for one digit more
pub ten_step : (i : ℕ) → 10 ^ (i + 1) ≡ 10 ^ i * 10
ten_step i = rw (add-one, pow-suc)

pub ten_small : (i : ℕ) → i ≤ 6 → 10 ^ i ≤ 1000000
ten_small i h = pow-le-pow_right {n = 10} (omega arith) h
