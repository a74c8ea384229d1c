-- A number's digits, written and read back. Assumes nothing.
use mathlib.Core.Path.{◌≡◌, refl, sym, ◌∙◌}
use mathlib.Core.Bool.{true, not, ◌&&◌, ◌||◌}
use mathlib.Core.List.{List, [], ◌∷◌, ◌++◌}
use Prim.Native.Nat.{ℕ, zero, suc, ◌+◌, ◌-◌, ◌*◌, ◌/◌, ◌%◌, ◌^◌, ◌≤◌, ◌<◌}
use native.Mathlib.Nat.{pow-suc}
use native.Mathlib.Omega.{arith}
use lib.Dec.{ltb, leb, eqb}
use lib.ListN.{length, get_or, length-append, get_or-append}
use borrow.Author.Tests.{ltb-true, ltb-false, le-leb, ne_eqb}
use Rattle.std.proofs.Common.{Some}
use Rattle.reader.specs.Text.{digit, digits, value, well_formed, number_of}
use Rattle.reader.specs.Written.{digits_of, decimal}
use Rattle.planning.proofs.Test.{by_test}
use Rattle.task_record.proofs.Tests.{both, both_left, both_right, either}

-- digits after digits
pub value_append : (xs ys : List ℕ) (n : ℕ) → value n (xs ++ ys) ≡ value (value n xs) ys
unfolding value
value_append [] ys n = refl
value_append (x ∷ xs) ys n = value_append xs ys (n * 10 + (x - 48))

pub digits_append : (xs ys : List ℕ) → digits xs ≡ true → digits ys ≡ true → digits (xs ++ ys) ≡ true
unfolding digits
digits_append [] ys h k = k
digits_append (x ∷ xs) ys h k =
    both (digit x) (digits (xs ++ ys)) (both_left (digit x) (digits xs) h) (digits_append xs ys (both_right (digit x) (digits xs) h) k)

-- What the digits s of n are: k + 1 of them at the most, the first of them not 0 unless it is the only one.
pub record Says (n k : ℕ) (s : List ℕ) : Type 0 where
  pub says : value 0 s ≡ n
  pub all : digits s ≡ true
  pub some : 1 ≤ length s
  pub few : length s ≤ suc k
  pub short : n < 10 → length s ≤ 1
  pub lead : 1 ≤ n → get_or s 0 0 ≡ 48 → ⊥

one-digit : (n k : ℕ) → n < 10 → Says n k ((48 + n) ∷ [])
unfolding value digits
one-digit n k l =
    record {
      says = omega arith;
      all =
          both (leb 48 (48 + n) && leb (48 + n) 57) true
          (both (leb 48 (48 + n)) (leb (48 + n) 57) (le-leb 48 (48 + n) (omega arith)) (le-leb (48 + n) 57 (omega arith))) refl;
      some = omega arith;
      few = omega arith;
      short = λ h. omega arith;
      lead = λ h e. omega arith;
    }

digit-more : (n k : ℕ) (s : List ℕ) → 10 ≤ n → Says (n / 10) k s → Says n (suc k) (s ++ ((48 + n % 10) ∷ []))
unfolding value
digit-more n k s l h =
    let d = one-digit (n % 10) 0 (omega arith) in
    let c = length-append s ((48 + n % 10) ∷ []) in
    let some = h.some in
    let few = h.few in
    record {
      says = value_append s ((48 + n % 10) ∷ []) 0 ∙ rw h.says (omega arith);
      all = digits_append s ((48 + n % 10) ∷ []) h.all d.all;
      some = omega arith;
      few = omega arith;
      short = λ q. absurd (omega arith);
      lead = λ q e. h.lead (omega arith) (sym (get_or-append s ((48 + n % 10) ∷ []) 0 0 (omega arith)) ∙ e);
    }

pub digits_say : (k n : ℕ) → n < 10 ^ suc k → Says n k (digits_of k n)
unfolding digits_of
digits_say zero n l = one-digit n zero (omega arith)
digits_say (suc k) n l =
    let p = pow-suc 10 (suc k) in
    by_test (ltb n 10)
    (λ t. rw t (one-digit n (suc k) (ltb-true n 10 t)))
    (λ t. let g = ltb-false n 10 t in rw t (digit-more n k (digits_of k (n / 10)) g (digits_say k (n / 10) (omega arith))))

pub decimal_says : (n : ℕ) → n ≤ 1000000 → Says n 6 (decimal n)
unfolding decimal
decimal_says n l = digits_say 6 n (omega arith)

-- A number that was written is read back.
pub number_read : (n : ℕ) → n ≤ 1000000 → number_of (decimal n) ≡ Some n
unfolding number_of well_formed
number_read n l =
    let h = decimal_says n l in
    let s = decimal n in
    let lead : (leb (length s) 1 || not (eqb (get_or s 0 0) 48)) ≡ true =
    by_test (ltb n 10)
    (λ t. rw (le-leb (length s) 1 (h.short (ltb-true n 10 t))))
    (λ t. let g = ltb-false n 10 t in either (leb (length s) 1) (not (eqb (get_or s 0 0) 48))
    (λ f. rw (ne_eqb (get_or s 0 0) 48 (h.lead (omega arith))))) in
    rw (le-leb 1 (length s) h.some, le-leb (length s) 7 h.few, lead, h.all, h.says)
