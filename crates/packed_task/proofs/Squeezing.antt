-- Laws of squeezing: low and high digits of the bytes of a word are the cells packed by two rules, from which the others follow.
-- Assumes nothing.
use Rattle.std.proofs.Common.{◌≡◌, ℕ, suc, ◌+◌, ◌-◌, ◌*◌, ◌/◌, ◌%◌, ◌<◌, ◌≤◌, true, eqb, List, [], ◌∷◌, length, get_or, take, drop, sym, refl, ap, ◌∙◌, arith, length-drop, take_all, drop-cons, ltb-true, ne_eqb, eqb-true}
use borrow.Author.Tests.{eqb-false}
use lib.Bits.{bit_and, and_block, and_mask}
use Rattle.task_record.specs.Scan.{all_below}
use Rattle.task_record.proofs.Scanning.{all_at}
use Rattle.task_record.proofs.SoundTask.{cell_of_part, length_of_part}
use Rattle.planning.proofs.Test.{by_test}
use Rattle.packed_task.specs.Packed.{pack_by, low, leaving, setting}
use Rattle.packed_task.specs.Squeezed.{bytes_of, plain_cell, squeezed}

-- A mask of digits that stand 16 bits apart takes the low digit of every second byte.
mask_step : (x q : ℕ) → bit_and x (q * 65536 + 15) ≡ bit_and (x / 256 / 256) q * 65536 + x % 16
mask_step x q =
    let e : x ≡ (x / 256 / 256) * 65536 + x % 65536 = omega arith in
    let d : x % 65536 % 16 ≡ x % 16 = omega arith in
    ap (λ t. bit_and t (q * 65536 + 15)) e ∙ and_block 16 (x / 256 / 256) q (x % 65536) 15 (omega arith) (omega arith)
    ∙ ap (λ t. bit_and (x / 256 / 256) q * 65536 + t) (and_mask (x % 65536) 4 ∙ d)

pub every_second : (x : ℕ) → bit_and x 4222189076152335 ≡
    (((x / 256 / 256 / 256 / 256 / 256 / 256) % 16 * 65536 + x / 256 / 256 / 256 / 256 % 16) * 65536 + x / 256 / 256 % 16) * 65536 + x % 16
every_second x = mask_step x 64425492495
    ∙ ap (λ t. t * 65536 + x % 16) (mask_step (x / 256 / 256) 983055
    ∙ ap (λ t. t * 65536 + x / 256 / 256 % 16) (mask_step (x / 256 / 256 / 256 / 256) 15
    ∙ ap (λ t. t * 65536 + x / 256 / 256 / 256 / 256 % 16) (and_mask (x / 256 / 256 / 256 / 256 / 256 / 256) 4)))

-- The low digits of a word's bytes are the low digits of its cells; those of a word shifted by a digit, the high ones.
pub squeezed-low : (c : List ℕ) → ((i : ℕ) → i < length c → get_or c i 0 < 256) → squeezed (length c) (bytes_of c) ≡ pack_by low c
unfolding bytes_of squeezed pack_by
squeezed-low [] b = refl
squeezed-low (x ∷ c) b = let l : x < 256 = b 0 (omega arith) in
    let q : (bytes_of c * 256 + x) / 256 ≡ bytes_of c = omega arith in
    let m : (bytes_of c * 256 + x) % 16 ≡ x % 16 = omega arith in
    rw (q, m, squeezed-low c (λ i k. b (suc i) (omega arith)))

pub squeezed_high : (c : List ℕ) → ((i : ℕ) → i < length c → get_or c i 0 < 256) → squeezed (length c) (bytes_of c / 16) ≡ pack_by (λ x. x / 16) c
unfolding bytes_of squeezed pack_by
squeezed_high [] b = refl
squeezed_high (x ∷ c) b = let l : x < 256 = b 0 (omega arith) in
    let q : (bytes_of c * 256 + x) / 16 / 256 ≡ bytes_of c / 16 = omega arith in
    let m : (bytes_of c * 256 + x) / 16 % 16 ≡ x / 16 = omega arith in
    rw (q, m, squeezed_high c (λ i k. b (suc i) (omega arith)))

-- Cells that are values or 255: the high digit is 15 where the cell names nothing.
pub high_leaving : (c : List ℕ) → ((i : ℕ) → i < length c → (get_or c i 0 ≡ 255 → ⊥) → get_or c i 0 < 16) → pack_by (λ x. x / 16) c ≡ pack_by leaving c
unfolding pack_by
high_leaving [] f = refl
high_leaving (x ∷ c) f = by_test (eqb x 255)
    (λ t. let e = eqb-true x 255 t in rw (t, e, high_leaving c (λ i k. f (suc i) (omega arith))))
    (λ t. let l = f 0 (omega arith) (eqb-false x 255 t) in let z : x / 16 ≡ 0 = omega arith in rw (t, z, high_leaving c (λ i k. f (suc i) (omega arith))))

-- What a cell sets and what it leaves make its low digit.
pub setting_and_leaving : (c : List ℕ) → pack_by setting c + pack_by leaving c ≡ pack_by low c
unfolding pack_by
setting_and_leaving [] = refl
setting_and_leaving (x ∷ c) = let k = setting_and_leaving c in by_test (eqb x 255)
    (λ t. let e = eqb-true x 255 t in rw (t, e) (omega arith))
    (λ t. rw t (omega arith))

-- The bytes of a part of a list, one by one.
part_step : (c : List ℕ) (n at : ℕ) → at < length c → bytes_of (take (suc n) (drop at c)) ≡ bytes_of (take n (drop (suc at) c)) * 256 + get_or c at 0
unfolding bytes_of
part_step c n at l = rw (drop-cons c at 0 l)

pub four_bytes : (c : List ℕ) (at : ℕ) → at + 4 ≤ length c →
    bytes_of (take 4 (drop at c)) ≡ get_or c at 0 + 256 * get_or c (at + 1) 0 + 65536 * get_or c (at + 2) 0 + 16777216 * get_or c (at + 3) 0
unfolding bytes_of
four_bytes c at l =
    let s1 : get_or c (suc at) 0 ≡ get_or c (at + 1) 0 = ap (λ t. get_or c t 0) (omega arith) in
    let s2 : get_or c (suc (suc at)) 0 ≡ get_or c (at + 2) 0 = ap (λ t. get_or c t 0) (omega arith) in
    let s3 : get_or c (suc (suc (suc at))) 0 ≡ get_or c (at + 3) 0 = ap (λ t. get_or c t 0) (omega arith) in
    let z : bytes_of (take 0 (drop (suc (suc (suc (suc at)))) c)) ≡ 0 = refl in
    let a = part_step c 3 at (omega arith) in
    let b = part_step c 2 (suc at) (omega arith) in
    let d = part_step c 1 (suc (suc at)) (omega arith) in
    let e = part_step c 0 (suc (suc (suc at))) (omega arith) in
    omega (arith, a, b, d, e)

-- A number's lowest 16 bits, and the others.
lowest : (p q y : ℕ) → y ≡ q * 65536 + p → p < 65536 → (y % 65536 ≡ p) × (y / 65536 ≡ q)
lowest p q y e l = (omega arith, omega arith)

next_part : (y : ℕ) → y / 4294967296 ≡ y / 65536 / 65536
next_part y = omega arith

-- Eight digits in four pairs that stand 16 bits apart: each pair is brought beside the one before it, and then the two upper pairs to the lower ones.
pairs_by : (d0 d1 d2 d3 d4 d5 d6 d7 y z : ℕ) → d0 < 16 → d1 < 16 → d2 < 16 → d3 < 16 → d4 < 16 → d5 < 16 → d6 < 16 → d7 < 16 →
    y ≡ ((d6 * 65536 + d4) * 65536 + d2) * 65536 + d0 + 16 * (((d7 * 65536 + d5) * 65536 + d3) * 65536 + d1) → z ≡ y + y / 256 →
    z % 65536 + 65536 * (z / 4294967296 % 65536) ≡ (((((((0 * 16 + d7) * 16 + d6) * 16 + d5) * 16 + d4) * 16 + d3) * 16 + d2) * 16 + d1) * 16 + d0
pairs_by d0 d1 d2 d3 d4 d5 d6 d7 y z l0 l1 l2 l3 l4 l5 l6 l7 e f =
    let p0 = d0 + 16 * d1 in
    let p1 = d2 + 16 * d3 in
    let p2 = d4 + 16 * d5 in
    let p3 = d6 + 16 * d7 in
    let q = p3 * 65536 + p2 in
    let r = q * 65536 + p1 in
    let g : y ≡ r * 65536 + p0 = omega arith in
    let h : y / 256 ≡ r * 256 = omega (arith, g) in
    let a = lowest (p0 + 256 * p1) (p1 + 256 * q + 65536 * q) z (omega (arith, f, g, h)) (omega arith) in
    let b = lowest (p1 + 256 * p2) (256 * p3 + q) (z / 65536) (omega (arith, a.1)) (omega arith) in
    let c = lowest (p2 + 256 * p3) p3 (z / 65536 / 65536) (omega (arith, b.1)) (omega arith) in
    rw (next_part z, a.0, c.0) (omega arith)

-- Both masks of a word, and the four pairs of digits that they make.
pub pairs_small : (x : ℕ) → bit_and x 4222189076152335 ≤ 4222189076152335
pairs_small x = rw (every_second x) (omega arith)

pub pairs_squeezed : (x y z : ℕ) → y ≡ bit_and x 4222189076152335 + 16 * bit_and (x / 256) 4222189076152335 → z ≡ y + y / 256 → z % 65536 + 65536 * (z / 4294967296 % 65536) ≡ squeezed 8 x
unfolding squeezed
pairs_squeezed x y z e f =
    let d0 = x % 16 in
    let d1 = x / 256 % 16 in
    let d2 = x / 256 / 256 % 16 in
    let d3 = x / 256 / 256 / 256 % 16 in
    let d4 = x / 256 / 256 / 256 / 256 % 16 in
    let d5 = x / 256 / 256 / 256 / 256 / 256 % 16 in
    let d6 = x / 256 / 256 / 256 / 256 / 256 / 256 % 16 in
    let d7 = x / 256 / 256 / 256 / 256 / 256 / 256 / 256 % 16 in
    pairs_by d0 d1 d2 d3 d4 d5 d6 d7 y z (omega arith) (omega arith) (omega arith) (omega arith) (omega arith) (omega arith) (omega arith) (omega arith)
    (e ∙ rw (every_second x, every_second (x / 256))) f

pub squeezed_small : (x : ℕ) → squeezed 8 x < 4294967296
unfolding squeezed
squeezed_small x = omega arith

no_bytes : bytes_of [] ≡ 0
unfolding bytes_of
no_bytes = refl

-- Eight bytes are four and four; sixteen cells are packed as eight and eight.
pub eight_bytes : (c : List ℕ) (at : ℕ) → at + 8 ≤ length c → bytes_of (take 8 (drop at c)) ≡ bytes_of (take 4 (drop at c)) + 4294967296 * bytes_of (take 4 (drop (at + 4) c))
eight_bytes c at l =
    let s : suc (suc (suc (suc at))) ≡ at + 4 = omega arith in
    let e : bytes_of (take 4 (drop (suc (suc (suc (suc at)))) c)) ≡ bytes_of (take 4 (drop (at + 4) c)) = ap (λ t. bytes_of (take 4 (drop t c))) s in
    let a = part_step c 7 at (omega arith) in
    let b = part_step c 6 (suc at) (omega arith) in
    let d = part_step c 5 (suc (suc at)) (omega arith) in
    let f = part_step c 4 (suc (suc (suc at))) (omega arith) in
    let g = part_step c 3 at (omega arith) in
    let h = part_step c 2 (suc at) (omega arith) in
    let i = part_step c 1 (suc (suc at)) (omega arith) in
    let j = part_step c 0 (suc (suc (suc at))) (omega arith) in
    let z : bytes_of (take 0 (drop (suc (suc (suc (suc at)))) c)) ≡ 0 = no_bytes in
    omega (arith, a, b, d, f, g, h, i, j, e, z)

pack_halves : (g : ℕ → ℕ) (c : List ℕ) → 8 ≤ length c → pack_by g c ≡ pack_by g (take 8 c) + 4294967296 * pack_by g (drop 8 c)
unfolding pack_by
pack_halves g (a ∷ b ∷ d ∷ e ∷ f ∷ h ∷ i ∷ j ∷ c) l = omega arith
pack_halves g (a ∷ b ∷ d ∷ e ∷ f ∷ h ∷ i ∷ []) l = absurd (omega arith)
pack_halves g (a ∷ b ∷ d ∷ e ∷ f ∷ h ∷ []) l = absurd (omega arith)
pack_halves g (a ∷ b ∷ d ∷ e ∷ f ∷ []) l = absurd (omega arith)
pack_halves g (a ∷ b ∷ d ∷ e ∷ []) l = absurd (omega arith)
pack_halves g (a ∷ b ∷ d ∷ []) l = absurd (omega arith)
pack_halves g (a ∷ b ∷ []) l = absurd (omega arith)
pack_halves g (a ∷ []) l = absurd (omega arith)
pack_halves g [] l = absurd (omega arith)

-- Sixteen cells that are values or 255, by their low and by their high digits.
module _ (c : List ℕ) (whole : length c ≡ 16) (plain : (i : ℕ) → i < 16 → (get_or c i 0 ≡ 255 → ⊥) → get_or c i 0 < 16) where
  small : (i : ℕ) → i < 16 → get_or c i 0 < 256
  small i l = by_test (eqb (get_or c i 0) 255)
      (λ t. let e = eqb-true (get_or c i 0) 255 t in omega arith)
      (λ t. let k = plain i l (eqb-false (get_or c i 0) 255 t) in omega arith)

  part_small : (k i : ℕ) → k + 8 ≤ 16 → i < length (take 8 (drop k c)) → get_or (take 8 (drop k c)) i 0 < 256
  part_small k i l h = let n = length_of_part c 8 k (omega arith) in rw (cell_of_part c 8 k i (omega arith)) (small (k + i) (omega arith))

  last_eight : drop 8 c ≡ take 8 (drop 8 c)
  last_eight = let n = length-drop 8 c in sym (take_all 8 (drop 8 c) (omega arith))

  pub words_low : squeezed 8 (bytes_of (take 8 (drop 0 c))) + 4294967296 * squeezed 8 (bytes_of (take 8 (drop 8 c))) ≡ pack_by low c
  words_low =
      let n = length_of_part c 8 0 (omega arith) in
      let m = length_of_part c 8 8 (omega arith) in
      let a = rw n at (squeezed-low (take 8 (drop 0 c)) (λ i h. part_small 0 i (omega arith) h)) in
      let b = rw m at (squeezed-low (take 8 (drop 8 c)) (λ i h. part_small 8 i (omega arith) h)) in
      rw (a, b) (sym (pack_halves low c (omega arith) ∙ ap (λ l. pack_by low (take 8 c) + 4294967296 * pack_by low l) last_eight))

  pub words_high : squeezed 8 (bytes_of (take 8 (drop 0 c)) / 16) + 4294967296 * squeezed 8 (bytes_of (take 8 (drop 8 c)) / 16) ≡ pack_by leaving c
  words_high =
      let n = length_of_part c 8 0 (omega arith) in
      let m = length_of_part c 8 8 (omega arith) in
      let a = rw n at (squeezed_high (take 8 (drop 0 c)) (λ i h. part_small 0 i (omega arith) h)) in
      let b = rw m at (squeezed_high (take 8 (drop 8 c)) (λ i h. part_small 8 i (omega arith) h)) in
      rw (a, b) (sym (pack_halves (λ x. x / 16) c (omega arith) ∙ ap (λ l. pack_by (λ x. x / 16) (take 8 c) + 4294967296 * pack_by (λ x. x / 16) l) last_eight))
      ∙ high_leaving c (λ i h. plain i (omega arith))

-- So the high digits are what the cells keep, and the low ones less these what they set.
pub plain_words : (c : List ℕ) → length c ≡ 16 → all_below (λ i. plain_cell (get_or c i 0)) 16 ≡ true → (keep all : ℕ) →
    keep ≡ squeezed 8 (bytes_of (take 8 (drop 0 c)) / 16) + 4294967296 * squeezed 8 (bytes_of (take 8 (drop 8 c)) / 16) →
    all ≡ squeezed 8 (bytes_of (take 8 (drop 0 c))) + 4294967296 * squeezed 8 (bytes_of (take 8 (drop 8 c))) →
    (keep ≤ all) × (keep ≡ pack_by leaving c) × (all - keep ≡ pack_by setting c)
unfolding plain_cell
plain_words c whole ok keep all k a =
    let plain : (i : ℕ) → i < 16 → (get_or c i 0 ≡ 255 → ⊥) → get_or c i 0 < 16 =
    (λ i l n. ltb-true (get_or c i 0) 16 (rw (ne_eqb (get_or c i 0) 255 n) at (all_at (λ i. plain_cell (get_or c i 0)) 16 i ok l))) in
    let h = words_high c whole plain in
    let l = words_low c whole plain in
    let s = setting_and_leaving c in
    (omega arith, k ∙ h, omega arith)
