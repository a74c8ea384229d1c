-- Numbers of one, two or three digits, by their bytes; and what the items of a list say by them. Assumes nothing.
use mathlib.Core.Path.{◌≡◌, sym, ap, ap₂, subst, ◌∙◌}
use mathlib.Core.List.{List, [], ◌∷◌, ◌++◌, append_assoc}
use Prim.Native.Nat.{ℕ, ◌+◌, ◌-◌, ◌*◌, ◌/◌, ◌%◌, ◌≤◌, ◌<◌}
use native.Mathlib.Omega.{arith}
use lib.ListN.{length, drop, get_or, length-append}
use borrow.Author.Tests.{lt-ltb, le-ltb}
use Rattle.reader.specs.Text.{colon}
use Rattle.reader.specs.Lists.{item_of, pair_from}
use Rattle.reader.specs.Written.{digits_of, decimal, item_text}
use Rattle.reader.specs.Quick.{ItemAt}
use Rattle.std.proofs.Common.{Option, Some}
use Rattle.reader.specs.declared.lists.Kind.TheVariants.{Pairs, Values, Members}
use Rattle.task_record.proofs.Rest.{drop_step}
use Rattle.reader.proofs.WrittenNumbers.{number_read}
use Rattle.reader.proofs.WrittenPieces.{pair_read}

one_written : (n : ℕ) → n < 10 → decimal n ≡ (48 + n) ∷ []
unfolding decimal digits_of
one_written n h = rw (lt-ltb n 10 h)

two_written : (n : ℕ) → 10 ≤ n → n < 100 → decimal n ≡ (48 + n / 10) ∷ (48 + n % 10) ∷ []
unfolding decimal digits_of
two_written n l h = rw (le-ltb n 10 l, lt-ltb (n / 10) 10 (omega arith))

three_written : (n : ℕ) → 100 ≤ n → n < 1000 → decimal n ≡ (48 + n / 100) ∷ (48 + n / 10 % 10) ∷ (48 + n % 10) ∷ []
unfolding decimal digits_of
three_written n l h =
    let e : n / 10 / 10 ≡ n / 100 = omega arith in
    rw (le-ltb n 10 (omega arith), le-ltb (n / 10) 10 (omega arith), lt-ltb (n / 10 / 10) 10 (omega arith), e)

-- a text and its first byte
pub first_byte : (s : List ℕ) → 0 < length s → s ≡ get_or s 0 0 ∷ drop 1 s
first_byte s h = drop_step s 0 h

-- what stands behind a part of a text is no longer than the text
pub split_shorter : (s p rest : List ℕ) → s ≡ p ++ rest → length rest ≤ length s
split_shorter s p rest e = let n = ap length e ∙ length-append p rest in omega arith

-- one digit stands in front, or two or three of which the first is not 0
module _ (s : List ℕ) (a : ℕ) (first : get_or s 0 0 ≡ a) (low : 48 ≤ a) (high : a < 58) where
  pub one-digit : 0 < length s → s ≡ decimal (a - 48) ++ drop 1 s
  one-digit h =
      let e : get_or s 0 0 ≡ 48 + (a - 48) = omega arith in
      first_byte s h ∙ ap (λ (x : ℕ). x ∷ drop 1 s) e ∙ ap (λ (z : List ℕ). z ++ drop 1 s) (sym (one_written (a - 48) (omega arith)))

  pub two_digits : (b : ℕ) → get_or s 1 0 ≡ b → 48 ≤ b → b < 58 → (a ≡ 48 → ⊥) → 1 < length s
      → s ≡ decimal (10 * (a - 48) + (b - 48)) ++ drop 2 s
  two_digits b second l k lead h =
      let n = 10 * (a - 48) + (b - 48) in
      let e : get_or s 0 0 ≡ 48 + n / 10 = omega arith in
      let f : get_or s 1 0 ≡ 48 + n % 10 = omega arith in
      first_byte s (omega arith)
      ∙ ap (λ (z : List ℕ). get_or s 0 0 ∷ z) (drop_step s 1 h)
      ∙ ap₂ (λ (x y : ℕ). x ∷ (y ∷ drop 2 s)) e f
      ∙ ap (λ (z : List ℕ). z ++ drop 2 s) (sym (two_written n (omega arith) (omega arith)))

  pub three_digits : (b c : ℕ) → get_or s 1 0 ≡ b → 48 ≤ b → b < 58 → get_or s 2 0 ≡ c → 48 ≤ c → c < 58 → (a ≡ 48 → ⊥) → 2 < length s
      → s ≡ decimal (10 * (10 * (a - 48) + (b - 48)) + (c - 48)) ++ drop 3 s
  three_digits b c second l k third l' k' lead h =
      let n = 10 * (10 * (a - 48) + (b - 48)) + (c - 48) in
      let e : get_or s 0 0 ≡ 48 + n / 100 = omega arith in
      let f : get_or s 1 0 ≡ 48 + n / 10 % 10 = omega arith in
      let g : get_or s 2 0 ≡ 48 + n % 10 = omega arith in
      first_byte s (omega arith)
      ∙ ap (λ (z : List ℕ). get_or s 0 0 ∷ z) (drop_step s 1 (omega arith))
      ∙ ap (λ (z : List ℕ). get_or s 0 0 ∷ (get_or s 1 0 ∷ z)) (drop_step s 2 h)
      ∙ ap (λ (x : ℕ). x ∷ (get_or s 1 0 ∷ (get_or s 2 0 ∷ drop 3 s))) e
      ∙ ap₂ (λ (x y : ℕ). (48 + n / 100) ∷ (x ∷ (y ∷ drop 3 s))) f g
      ∙ ap (λ (z : List ℕ). z ++ drop 3 s) (sym (three_written n (omega arith) (omega arith)))

-- two of which the first is 1
pub teen_digits : (s : List ℕ) (b : ℕ) → get_or s 0 0 ≡ 49 → get_or s 1 0 ≡ b → 48 ≤ b → b < 58 → 1 < length s → s ≡ decimal (10 + (b - 48)) ++ drop 2 s
teen_digits s b first second l k h =
    let e : 10 * (49 - 48) + (b - 48) ≡ 10 + (b - 48) = omega arith in
    subst (λ (n : ℕ). s ≡ decimal n ++ drop 2 s) e (two_digits s 49 first (omega arith) (omega arith) b second l k (λ z. omega arith) h)

-- a pair, a value of the variable that comes next, a member
module _ (s rest : List ℕ) where
  pub pair_at : (next v x : ℕ) (m : List ℕ) → v < 100 → x < 100 → s ≡ decimal v ++ m → 0 < length m → get_or m 0 0 ≡ colon
      → drop 1 m ≡ decimal x ++ rest → ItemAt s Pairs next v x rest
  unfolding item_text item_of
  pair_at next v x m a b front h mark second =
      record {
        stands =
            front ∙ ap (λ (z : List ℕ). decimal v ++ z) (first_byte m h ∙ ap (λ (c : ℕ). c ∷ drop 1 m) mark ∙ ap (λ (z : List ℕ). colon ∷ z) second)
            ∙ sym (append_assoc (decimal v) (colon ∷ decimal x) rest);
        says = pair_read v x (omega arith) (omega arith);
        small = (omega arith, omega arith);
      }

  pub value_at : (next x : ℕ) → next < 256 → x < 100 → s ≡ decimal x ++ rest → ItemAt s Values next next x rest
  unfolding item_text item_of
  value_at next x a b h =
      record { stands = h; says = ap (λ (d : Option ℕ). pair_from (Some next) d) (number_read x (omega arith)); small = (a, omega arith) }

  pub member_at : (next v : ℕ) → v < 100 → s ≡ decimal v ++ rest → ItemAt s Members next v 1 rest
  unfolding item_text item_of
  member_at next v a h =
      record { stands = h; says = ap (λ (d : Option ℕ). pair_from d (Some 1)) (number_read v (omega arith)); small = (omega arith, omega arith) }
