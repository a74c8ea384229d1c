-- The index by bytes is the index: bytes that the pattern does not have add nothing, and each of the others adds what its two digits do.
-- Assumes nothing.
use Rattle.std.proofs.Common.{◌≡◌, ℕ, zero, suc, ◌+◌, ◌-◌, ◌*◌, ◌/◌, ◌%◌, ◌^◌, ◌<◌, ◌≤◌, List, [], ◌∷◌, get_or, drop, sym, refl, ◌∙◌, add-zero, div-one, arith, pow-add, get_or-drop}
use native.Mathlib.Nat.{pow-succ', div-div-eq-div-mul}
use Rattle.tables.specs.Steps.{weigh}
use Rattle.packed_task.proofs.ApplyingSets.{upper_digit}
use Rattle.tables.proofs.Stepping.{weigh_step}
use Rattle.search.specs.ByteRows.{block_sum, SpanAt}

-- Digits whose weights are 0 add nothing, and are passed over.
weigh_nothing : (ws : List ℕ) (s : ℕ) → ((u : ℕ) → get_or ws u 0 ≡ 0) → weigh ws s ≡ 0
unfolding weigh
weigh_nothing [] s h = refl
weigh_nothing (w ∷ ws) s h = let e : w ≡ 0 = h 0 in rw (e, weigh_nothing ws (s / 16) (λ u. h (suc u))) (omega arith)

nothing_left : (ws : List ℕ) (v s : ℕ) → ((u : ℕ) → v ≤ u → get_or ws u 0 ≡ 0) → weigh (drop v ws) s ≡ 0
nothing_left ws v s h = weigh_nothing (drop v ws) s (λ u. get_or-drop v ws u 0 ∙ h (v + u) (omega arith))

digits_skipped : (ws : List ℕ) (v k s : ℕ) → ((u : ℕ) → u < v + k → get_or ws u 0 ≡ 0) → weigh (drop v ws) s ≡ weigh (drop (v + k) ws) (s / 16 ^ k)
digits_skipped ws v zero s h = let c : s / 1 ≡ s = div-one s in rw (add-zero v, c)
digits_skipped ws v (suc k) s h = let b : v + suc k ≡ v + 1 + k = omega arith in
    let next = digits_skipped ws (v + 1) k (s / 16) (λ u l. h u (omega arith)) in
    rw (b, weigh_step ws v s, h v (omega arith), pow-succ' 16 k, ← div-div-eq-div-mul s 16 (16 ^ k)) (omega (arith, next))

-- A shift by bytes is a division by digits.
shift_bytes : (b : ℕ) → 2 ^ (8 * b) ≡ 16 ^ (2 * b)
shift_bytes zero = refl
shift_bytes (suc b) = let e : 8 * suc b ≡ 8 + 8 * b = omega arith in let f : 2 * suc b ≡ 2 + 2 * b = omega arith in
    rw (e, f, pow-add 2 8 (8 * b), pow-add 16 2 (2 * b), shift_bytes b)

-- One block more, and the end of the blocks.
pub blocks_add : (sums : List ℕ) (at j n i w s whole : ℕ) → j < n → w ≡ get_or sums (at + 256 * j + s % 256) 0 →
    whole ≡ i + block_sum sums (at + 256 * j) (n - j) s → whole ≡ i + w + block_sum sums (at + 256 * (j + 1)) (n - (j + 1)) (s / 256)
unfolding block_sum
blocks_add sums at j n i w s whole l e q = let m : n - j ≡ suc (n - (j + 1)) = omega arith in let a : at + 256 * (j + 1) ≡ at + 256 * j + 256 = omega arith in
    q ∙ rw (m, a, e) (omega arith)

pub blocks_whole : (sums : List ℕ) (at j n i s whole : ℕ) → n ≤ j → whole ≡ i + block_sum sums (at + 256 * j) (n - j) s → i ≡ whole
unfolding block_sum
blocks_whole sums at j n i s whole l q = let m : n - j ≡ zero = omega arith in let r : whole ≡ i + 0 = rw m at q in omega arith

-- The blocks of a span give the index.
module _ (ws sums : List ℕ) (first count at : ℕ) (g : SpanAt ws sums first count at) where
  span_sum : (j n s : ℕ) → j + n ≡ count → weigh (drop (2 * (first + j)) ws) s ≡ block_sum sums (at + 256 * j) n s
  unfolding block_sum
  span_sum j zero s e = nothing_left ws (2 * (first + j)) s (λ u m. g.above u (omega arith))
  span_sum j (suc n) s e =
      let v : 2 * (first + j) + 1 + 1 ≡ 2 * (first + (j + 1)) = omega arith in let a : at + 256 * j + 256 ≡ at + 256 * (j + 1) = omega arith in
      let q : s / 16 / 16 ≡ s / 256 = omega arith in let d : s % 256 % 16 ≡ s % 16 = omega arith in
      rw (weigh_step ws (2 * (first + j)) s, weigh_step ws (2 * (first + j) + 1) (s / 16), v, q, a, (g.blocks j (omega arith)).block (s % 256) (omega arith), d, upper_digit s)
      (omega (arith, span_sum (j + 1) n (s / 256) (omega arith)))

  pub span_index : (s : ℕ) → block_sum sums at count (s / 2 ^ (8 * first)) ≡ weigh ws s
  span_index s = let a : first + 0 ≡ first = omega arith in let b : at + 256 * 0 ≡ at = omega arith in let z : 0 + 2 * first ≡ 2 * first = omega arith in
      let skipped = rw z at (digits_skipped ws 0 (2 * first) s (λ u l. g.below u (omega arith))) in
      let summed = rw (a, b) at (span_sum 0 count (s / 16 ^ (2 * first)) (omega arith)) in
      rw (shift_bytes first) (sym (skipped ∙ summed))

pub blocks_start : (sums : List ℕ) (at n s w : ℕ) → 1 ≤ n → w ≡ get_or sums (at + s % 256) 0 → block_sum sums at n s ≡ w + block_sum sums (at + 256 * 1) (n - 1) (s / 256)
unfolding block_sum
blocks_start sums at zero s w l e = absurd (omega arith)
blocks_start sums at (suc n) s w l e = let m : suc n - 1 ≡ n = omega arith in rw (m, e) refl
