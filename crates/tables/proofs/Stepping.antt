-- Laws for the loops over digits, outcomes and entries from which a step is made: one turn and the end of each. Assumes nothing.
use Rattle.std.proofs.Common.{◌≡◌, ℕ, zero, suc, ◌+◌, ◌-◌, ◌*◌, ◌/◌, ◌%◌, ◌^◌, ◌<◌, ◌≤◌, true, false, eqb, ltb, List, [], ◌∷◌, length, get_or, drop, set, sym, refl, ◌∙◌, pow-suc, add-one, arith, drop_of_length-le, drop-cons, eq-eqb, ne_eqb}
use native.Mathlib.Decide.{dec_lt}
use lib.Bits.{bit_and}
use lib.ListN.{get_or-eq_default}
use Rattle.planning.specs.Finite.{any_from, total}
use Rattle.planning.proofs.Test.{by_test}
use Rattle.planning.specs.Table.{infinite_entry}
use Rattle.packed_task.specs.Packed.{outcome_count, keep_mask}
use Rattle.tables.specs.Steps.{weigh, raised}
use Rattle.packed_task.specs.Within.{idles}

-- The index of a word, digit by digit.
pub weigh-zero : (w : List ℕ) → weigh w 0 ≡ 0
unfolding weigh
weigh-zero [] = refl
weigh-zero (x ∷ w) = rw (weigh-zero w) (omega arith)

inside_step : (w : List ℕ) (v s : ℕ) → v < length w → weigh (drop v w) s ≡ s % 16 * get_or w v 0 + weigh (drop (v + 1) w) (s / 16)
unfolding weigh
inside_step w v s l = rw (add-one, drop-cons w v 0 l)

beyond_step : (w : List ℕ) (v s : ℕ) → length w ≤ v → weigh (drop v w) s ≡ s % 16 * get_or w v 0 + weigh (drop (v + 1) w) (s / 16)
unfolding weigh
beyond_step w v s l = let m : length w ≤ v + 1 = omega arith in rw (drop_of_length-le w l, drop_of_length-le w m, get_or-eq_default w 0 l) (omega arith)

pub weigh_step : (w : List ℕ) (v s : ℕ) → weigh (drop v w) s ≡ s % 16 * get_or w v 0 + weigh (drop (v + 1) w) (s / 16)
weigh_step w v s = either (dec_lt v (length w))
  where
    either : Dec (v < length w) → weigh (drop v w) s ≡ s % 16 * get_or w v 0 + weigh (drop (v + 1) w) (s / 16)
    either (yes l) = inside_step w v s l
    either (no l) = beyond_step w v s (omega arith)

pub weigh_four : (w : List ℕ) (v s : ℕ) → weigh (drop v w) s
    ≡ s % 16 * get_or w v 0 + s / 16 % 16 * get_or w (v + 1) 0 + s / 256 % 16 * get_or w (v + 2) 0 + s / 4096 % 16 * get_or w (v + 3) 0 + weigh (drop (v + 4) w) (s / 65536)
weigh_four w v s =
    let a : v + 1 + 1 ≡ v + 2 = omega arith in let b : v + 2 + 1 ≡ v + 3 = omega arith in let c : v + 3 + 1 ≡ v + 4 = omega arith in
    let x : s / 16 / 16 ≡ s / 256 = omega arith in let y : s / 256 / 16 ≡ s / 4096 = omega arith in let z : s / 4096 / 16 ≡ s / 65536 = omega arith in
    let first = weigh_step w v s in let second = rw (a, x) at (weigh_step w (v + 1) (s / 16)) in
    let third = rw (b, y) at (weigh_step w (v + 2) (s / 256)) in let fourth = rw (c, z) at (weigh_step w (v + 3) (s / 4096)) in omega arith

-- A word of at most 16 digits has none left after the fourth four.
pub digits_left : (g rest : ℕ) → g < 4 → rest < 65536 ^ (4 - g) → rest / 65536 < 65536 ^ (4 - (g + 1))
digits_left g rest l h = let e : 4 - g ≡ suc (4 - (g + 1)) = omega arith in let p = pow-suc 65536 (4 - (g + 1)) in let k = rw e at h in omega arith

pub digits-over : (g rest : ℕ) → 4 ≤ g → rest < 65536 ^ (4 - g) → rest ≡ 0
digits-over g rest l h = let e : 4 - g ≡ 0 = omega arith in let k : rest < 1 = rw e at h in omega arith

-- The outcomes of an action, one by one: is there one that keeps the pattern's digits?
abbrev pub Idling : List ℕ → ℕ → ℕ → ℕ → ℕ → Type 0
Idling a k m n o = idles a k m ≡ any_from o (n - o) (λ j. eqb (bit_and (keep_mask a m j) k) k)

pub idling_start : (a : List ℕ) (k m : ℕ) → Idling a k m (outcome_count a m) 0
unfolding idles
idling_start a k m = let e : outcome_count a m - 0 ≡ outcome_count a m = omega arith in rw e

pub idling_hit : (a : List ℕ) (k m n o : ℕ) → o < n → bit_and (keep_mask a m o) k ≡ k → Idling a k m n o → true ≡ idles a k m
idling_hit a k m n o l h v = let e : n - o ≡ suc (n - (o + 1)) = omega arith in sym (v ∙ rw (e, eq-eqb (bit_and (keep_mask a m o) k) k h))

pub idling_miss : (a : List ℕ) (k m n o : ℕ) → o < n → (bit_and (keep_mask a m o) k ≡ k → ⊥) → Idling a k m n o → Idling a k m n (o + 1)
idling_miss a k m n o l h v = let e : n - o ≡ suc (n - (o + 1)) = omega arith in let f : o + 1 ≡ suc o = add-one o in v ∙ rw (e, ne_eqb (bit_and (keep_mask a m o) k) k h, f)

pub idling_end : (a : List ℕ) (k m n o : ℕ) → n ≤ o → Idling a k m n o → false ≡ idles a k m
idling_end a k m n o l v = let e : n - o ≡ 0 = omega arith in sym (v ∙ rw e)

pub raised_high : (limit w v : ℕ) → limit ≤ infinite_entry → limit ≤ v → limit ≤ raised w v
unfolding raised
raised_high limit w v b h = by_test (ltb (w + v) infinite_entry) (λ e. rw e (omega arith)) (λ e. rw e b)

-- The sum of the entries falls with every step.
pub total-set : (t : List ℕ) (i v : ℕ) → i < length t → total (set t i v) + get_or t i 0 ≡ total t + v
total-set [] i v l = absurd (omega arith)
total-set (x ∷ t) zero v l = omega arith
total-set (x ∷ t) (suc i) v l = let h = total-set t i v (omega arith) in omega arith
