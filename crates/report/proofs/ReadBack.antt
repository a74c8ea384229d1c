-- A printed number says the number, and the reader reads it back: one form of number in and out. Assumes nothing.
use mathlib.Core.Path.{◌≡◌, refl, ap, ◌∙◌}
use mathlib.Core.Bool.{Bool, true, false, not, ◌&&◌, ◌||◌}
use mathlib.Core.List.{List, [], ◌∷◌, ◌++◌}
use Prim.Native.Nat.{ℕ, zero, suc, ◌+◌, ◌-◌, ◌*◌, ◌/◌, ◌%◌, ◌<◌, ◌≤◌}
use native.Mathlib.Decide.{dec_lt}
use native.Mathlib.Nat.{div-add-mod'}
use native.Mathlib.Omega.{arith}
use borrow.Author.Tests.{le-leb, ne_eqb}
use lib.Dec.{leb, eqb}
use lib.ListN.{length, get_or, length-append, get_or-append}
use Rattle.reader.specs.Text.{digit, digits, value, well_formed, number_of}
use Rattle.std.proofs.Common.{Some}
use Rattle.task_record.proofs.Tests.{both_left, both_right}
use Rattle.report.specs.Decimal.{decimal}
use Rattle.report.proofs.Decimals.{decimal_of_digit, decimal_of_more, decimal-length, tens}

-- A law of numbers by their decimal form: a digit, and more from the digits before the last.
by_digits : (P : ℕ → Type 0) → ((n : ℕ) → n < 10 → P n) → ((n : ℕ) → 10 ≤ n → P (n / 10) → P n) → (f n : ℕ) → n < f → P n
by_digits P one more zero n l = absurd (omega arith)
by_digits P one more (suc f) n l = go (dec_lt n 10) (by_digits P one more f (n / 10))
  where
    go : Dec (n < 10) → (n / 10 < f → P (n / 10)) → P n
    go (yes d) r = one n d
    go (no d) r = more n (omega arith) (r (omega arith))

-- one digit more
value-more : (n : ℕ) (u : List ℕ) (x : ℕ) → value n (u ++ (x ∷ [])) ≡ value n u * 10 + (x - 48)
unfolding value
value-more n [] x = refl
value-more n (y ∷ u) x = value-more (n * 10 + (y - 48)) u x

-- What is printed for n says n.
pub decimal_says : (n : ℕ) → value 0 (decimal n) ≡ n
unfolding value
decimal_says n =
    by_digits (λ k. value 0 (decimal k) ≡ k)
    (λ k l. ap (value 0) (decimal_of_digit k l) ∙ one k)
    (λ k l h. ap (value 0) (decimal_of_more k l) ∙ value-more 0 (decimal (k / 10)) (48 + k % 10) ∙ ap (λ (m : ℕ). m * 10 + (48 + k % 10 - 48)) h ∙ last k)
    (suc n) n (omega arith)
  where
    one : (k : ℕ) → 0 * 10 + (48 + k - 48) ≡ k
    one k = omega arith

    last : (k : ℕ) → k / 10 * 10 + (48 + k % 10 - 48) ≡ k
    last k = omega (arith, div-add-mod' k 10)

-- Two tests that pass; one of two.
both : (a b : Bool) → a ≡ true → b ≡ true → (a && b) ≡ true
both a b p q = rw (p, q)

either : (a b : Bool) → b ≡ true → (a || b) ≡ true
either true b q = refl
either false b q = q

-- It is digits alone.
digit_right : (d : ℕ) → d < 10 → digit (48 + d) ≡ true
digit_right d l = both (leb 48 (48 + d)) (leb (48 + d) 57) (le-leb 48 (48 + d) (omega arith)) (le-leb (48 + d) 57 (omega arith))

digits_more : (u : List ℕ) (x : ℕ) → digits u ≡ true → digit x ≡ true → digits (u ++ (x ∷ [])) ≡ true
unfolding digits
digits_more [] x p q = both (digit x) true q refl
digits_more (y ∷ u) x p q = both (digit y) (digits (u ++ (x ∷ []))) (both_left (digit y) (digits u) p) (digits_more u x (both_right (digit y) (digits u) p) q)

pub decimal-digits : (n : ℕ) → digits (decimal n) ≡ true
unfolding digits
decimal-digits n =
    by_digits (λ k. digits (decimal k) ≡ true)
    (λ k l. ap digits (decimal_of_digit k l) ∙ both (digit (48 + k)) true (digit_right k l) refl)
    (λ k l h. ap digits (decimal_of_more k l) ∙ digits_more (decimal (k / 10)) (48 + k % 10) h (digit_right (k % 10) (omega arith)))
    (suc n) n (omega arith)

-- There is a first digit, and it is not 0 where the number is not.
decimal_some : (n : ℕ) → 1 ≤ length (decimal n)
decimal_some n =
    by_digits (λ k. 1 ≤ length (decimal k))
    (λ k l. rw (decimal_of_digit k l) (omega arith))
    (λ k l h. rw (decimal_of_more k l) (omega (arith, length-append (decimal (k / 10)) ((48 + k % 10) ∷ []))))
    (suc n) n (omega arith)

first_not_zero : (n : ℕ) → 1 ≤ n → eqb (get_or (decimal n) 0 0) 48 ≡ false
first_not_zero n =
    by_digits (λ k. 1 ≤ k → eqb (get_or (decimal k) 0 0) 48 ≡ false)
    (λ k l p. ap first (decimal_of_digit k l) ∙ ne_eqb (48 + k) 48 (λ e. omega arith))
    (λ k l h p.
    ap first (decimal_of_more k l) ∙ ap (λ (x : ℕ). eqb x 48) (get_or-append (decimal (k / 10)) ((48 + k % 10) ∷ []) 0 0 (decimal_some (k / 10))) ∙ h (omega arith))
    (suc n) n (omega arith)
  where
    first : List ℕ → Bool
    first u = eqb (get_or u 0 0) 48

-- The reader reads what was printed: "1 to 7 decimal digits, without a leading zero except 0 itself".
well_formed_lem : (n : ℕ) → n < 10000000 → well_formed (decimal n) ≡ true
unfolding well_formed tens
well_formed_lem n l =
    both _ _
    (both _ _
    (both (leb 1 (length (decimal n))) (leb (length (decimal n)) 7) (le-leb 1 (length (decimal n)) (decimal_some n)) (le-leb (length (decimal n)) 7 (decimal-length 6 n (omega arith))))
    (lead (dec_lt n 10)))
    (decimal-digits n)
  where
    lead : Dec (n < 10) → (leb (length (decimal n)) 1 || not (eqb (get_or (decimal n) 0 0) 48)) ≡ true
    lead (yes d) = rw (decimal_of_digit n d)
    lead (no d) = either (leb (length (decimal n)) 1) _ (rw (first_not_zero n (omega arith)))

pub decimal_reads_back : (n : ℕ) → n < 10000000 → number_of (decimal n) ≡ Some n
unfolding number_of
decimal_reads_back n l = rw (well_formed_lem n l, decimal_says n)
