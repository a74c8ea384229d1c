-- The index in two parts: the lower variables' digits of state j are those of state j % lower, the upper variables' those of state
-- j / lower * lower. Assumes nothing.
use Rattle.std.proofs.Common.{◌≡◌, ℕ, zero, suc, ◌+◌, ◌-◌, ◌*◌, ◌/◌, ◌%◌, ◌^◌, ◌<◌, ◌≤◌, cond, eqb, List, [], ◌∷◌, get_or, take, sym, refl, ap, ◌∙◌, mod-lt, pow-suc, div-one, mul-div_cancel, arith}
use native.Mathlib.Nat.{mod_def, div-add-mod, mod-one, div-div-eq-div-mul}
use lib.Arith.{digits_div, digits_mod}
use Rattle.planning.specs.Finite.{All}
use Rattle.planning.specs.Pattern.{keep}
use Rattle.planning.specs.Table.{state_count, state_at}
use Rattle.planning.proofs.Test.{by_test}
use Rattle.packed_task.specs.Packed.{pack_by, picking, low}
use Rattle.packed_task.proofs.Packing.{pack-keep, low_digit}
use Rattle.tables.proofs.PackedDigits.{picking-digit, plain_mask}
use Rattle.tables.specs.Steps.{Bounded}
use Rattle.tables.proofs.Spacing.{count_positive, count_fewer, size_at, sizes_fewer, Weighed}
use Rattle.tables.specs.Incoming.{Parted, upper_part, Split}

-- A remainder by a product.
rest_of : (j s z : ℕ) → 1 ≤ z → j % (s * z) ≡ j / z % s * z + j % z
rest_of j s z l = let a = j / z in let e = div-add-mod j z in let f = ap (λ y. z * y) (div-add-mod a s) in let g = mod_def j (s * z) in
    let q : j / (s * z) ≡ a / s = (let k : s * z ≡ z * s = omega arith in rw k (sym (div-div-eq-div-mul j z s))) in
    let h : j % (s * z) ≡ j - s * z * (a / s) = g ∙ ap (λ y. j - s * z * y) q in omega (arith, e, f, h)

keep_none : (zs p : List ℕ) (i k : ℕ) → keep 0 [] (state_at zs p i) ≡ keep 0 [] (state_at zs p k)
unfolding keep state_at
keep_none [] p i k = refl
keep_none (z ∷ zs) [] i k = ap (λ l. 0 ∷ l) (keep_none zs [] i k)
keep_none (z ∷ zs) (b ∷ p) i k = ap (λ l. 0 ∷ l) (keep_none zs p _ _)

low_same : (v : ℕ) (zs p : List ℕ) (j : ℕ) → All (λ z. 1 ≤ z) zs → keep 0 (take v p) (state_at zs p (j % state_count zs (take v p))) ≡ keep 0 (take v p) (state_at zs p j)
unfolding keep state_at state_count
low_same zero zs p j h = keep_none zs p _ _
low_same (suc v) [] p j h = refl
low_same (suc v) (z ∷ zs) [] j h = keep_none (z ∷ zs) [] _ _
low_same (suc v) (z ∷ zs) (b ∷ p) j h = by_test (eqb b 1)
    (λ e. let s = state_count zs (take v p) in let r = rest_of j s z h.0 in let l = mod-lt j h.0 in
    let m : j % (s * z) % z ≡ j % z = rw r (digits_mod (j / z % s) l) in let d : j % (s * z) / z ≡ j / z % s = rw r (digits_div (j / z % s) l) in
    rw (e, m, d) (ap (λ y. j % z ∷ y) (low_same v zs p (j / z) h.1)))
    (λ e. rw e (ap (λ y. 0 ∷ y) (low_same v zs p j h.1)))

count_none : (zs : List ℕ) → state_count zs [] ≡ 1
unfolding state_count
count_none [] = refl
count_none (z ∷ zs) = count_none zs

high_same : (v : ℕ) (zs p : List ℕ) (j : ℕ) → All (λ z. 1 ≤ z) zs → keep 0 (upper_part v p) (state_at zs p (j / state_count zs (take v p) * state_count zs (take v p))) ≡ keep 0 (upper_part v p) (state_at zs p j)
unfolding keep state_at state_count upper_part
high_same zero zs p j h = let e : j / state_count zs [] * state_count zs [] ≡ j = rw (count_none zs, div-one j) (omega arith) in rw e
high_same (suc v) [] p j h = refl
high_same (suc v) (z ∷ zs) [] j h = keep_none (z ∷ zs) [] _ _
high_same (suc v) (z ∷ zs) (b ∷ p) j h = by_test (eqb b 1)
    (λ e. let s = state_count zs (take v p) in
    let q : j / (s * z) ≡ j / z / s = (let k : s * z ≡ z * s = omega arith in rw k (sym (div-div-eq-div-mul j z s))) in
    let m : j / z / s * (s * z) ≡ j / z / s * s * z = omega arith in
    let d : j / (s * z) * (s * z) / z ≡ j / z / s * s = rw (q, m) (mul-div_cancel (j / z / s * s) h.0) in
    rw (e, d) (ap (λ y. 0 ∷ y) (high_same v zs p (j / z) h.1)))
    (λ e. rw e (ap (λ y. 0 ∷ y) (high_same v zs p j h.1)))

-- The words of the states, parted after v variables.
states_parted : (v : ℕ) (zs p states : List ℕ) → All (λ z. 1 ≤ z) zs → ((i : ℕ) → i < state_count zs p → get_or states i 0 ≡ pack_by low (state_at zs p i)) →
    state_count zs (take v p) ≤ 64 → Parted states (state_count zs p) (state_count zs (take v p)) (pack_by picking (take v p)) (pack_by picking (upper_part v p))
states_parted v zs p states h s few = let l = count_positive zs (take v p) h in record {
  lower_some = l;
  lower_few = few;
  low_plain = plain_mask (take v p);
  high_plain = plain_mask (upper_part v p);
  below = λ j b. let i = j % state_count zs (take v p) in rw (s j b, s i (omega (arith, native.Mathlib.Nat.mod-le j (state_count zs (take v p)), b)), pack-keep low low_digit 0 refl (take v p) (state_at zs p i), pack-keep low low_digit 0 refl (take v p) (state_at zs p j))
      (ap (pack_by low) (low_same v zs p j h));
  above = λ j b. let i = j / state_count zs (take v p) * state_count zs (take v p) in rw (s j b, s i (omega (arith, native.Mathlib.Nat.div-mul-le_self j (state_count zs (take v p)), b)), pack-keep low low_digit 0 refl (upper_part v p) (state_at zs p i), pack-keep low low_digit 0 refl (upper_part v p) (state_at zs p j))
      (ap (pack_by low) (high_same v zs p j h));
}

-- The first v variables of the first n, and the others.
count_first : (v n : ℕ) (sizes p : List ℕ) → v ≤ n → state_count (take n sizes) (take v p) ≡ state_count (take v sizes) p
unfolding state_count
count_first zero n sizes p l = count_none (take n sizes)
count_first (suc v) zero sizes p l = absurd (omega arith)
count_first (suc v) (suc n) [] p l = refl
count_first (suc v) (suc n) (z ∷ sizes) [] l = count_none (take n sizes) ∙ sym (count_none (take v sizes))
count_first (suc v) (suc n) (z ∷ sizes) (b ∷ p) l = by_test (eqb b 1) (λ e. rw (e, count_first v n sizes p (omega arith))) (λ e. rw (e, count_first v n sizes p (omega arith)))

count_parts : (v : ℕ) (zs p : List ℕ) → state_count zs p ≡ state_count zs (upper_part v p) * state_count zs (take v p)
unfolding state_count upper_part
count_parts zero zs p = rw (count_none zs) (omega arith)
count_parts (suc v) [] p = refl
count_parts (suc v) (z ∷ zs) [] = rw (count_none zs)
count_parts (suc v) (z ∷ zs) (b ∷ p) = let h = count_parts v zs p in by_test (eqb b 1) (λ e. rw e (omega (arith, ap (λ y. y * z) h))) (λ e. rw e h)

pack_first : (v : ℕ) (p : List ℕ) → pack_by picking p % 16 ^ v ≡ pack_by picking (take v p)
unfolding pack_by
pack_first zero p = mod-one (pack_by picking p)
pack_first (suc v) [] = native.Mathlib.Nat.zero-mod (16 ^ suc v)
pack_first (suc v) (b ∷ p) = let d = picking-digit b in let e = native.Mathlib.Nat.pow-suc 16 v in let a = pack_by picking p in
    let q : (a * 16 + picking b) / 16 ≡ a = digits_div a d in let r : (a * 16 + picking b) % 16 ≡ picking b = digits_mod a d in
    rw e (rest_of (a * 16 + picking b) (16 ^ v) 16 (omega arith) ∙ rw (q, r, pack_first v p))

pack_others : (v : ℕ) (p : List ℕ) → pack_by picking p ≡ pack_by picking (take v p) + pack_by picking (upper_part v p)
unfolding pack_by upper_part
pack_others zero p = omega arith
pack_others (suc v) [] = refl
pack_others (suc v) (b ∷ p) = let h = pack_others v p in omega (arith, h)

pub bounded_fewer : {sizes p : List ℕ} {n : ℕ} (v : ℕ) → v ≤ n → Bounded sizes p n → Bounded sizes p v
bounded_fewer {sizes} {p} {n} v l h = record {
  variables_few = omega (arith, h.variables_few);
  values_some = sizes_fewer sizes (λ z. 1 ≤ z) n v l h.values_some;
  values_few = sizes_fewer sizes (λ z. z ≤ 16) n v l h.values_few;
  states_few = let c = count_fewer sizes p v n l h.values_some in omega (arith, c, h.states_few);
}

-- The index is split after v variables.
pub split_at : (sizes p : List ℕ) (n v lower mask low₁ : ℕ) → Bounded sizes p n → v ≤ n → mask ≡ pack_by picking p → lower ≡ state_count (take v sizes) p → low₁ ≡ mask % 16 ^ v →
    state_count (take v sizes) p ≤ 64 → 5 * state_count (take n sizes) p ≤ (state_count (take n sizes) p + 5) * state_count (take v sizes) p → Split sizes p n mask lower low₁
split_at sizes p n v lower mask low₁ z l m e k few wide =
    let c : lower ≡ state_count (take n sizes) (take v p) = e ∙ sym (count_first v n sizes p l) in
    let a : low₁ ≡ pack_by picking (take v p) = k ∙ rw m (pack_first v p) in
    let b : mask - low₁ ≡ pack_by picking (upper_part v p) = omega (arith, a, m, pack_others v p) in
    let one : 1 ≤ lower = rw c (count_positive (take n sizes) (take v p) z.values_some) in
    let d : state_count (take n sizes) p ≡ state_count (take n sizes) (upper_part v p) * lower = count_parts v (take n sizes) p ∙ ap (λ y. state_count (take n sizes) (upper_part v p) * y) (sym c) in
    let f : state_count (take n sizes) p / lower ≡ state_count (take n sizes) (upper_part v p) = ap (λ y. y / lower) d ∙ mul-div_cancel (state_count (take n sizes) (upper_part v p)) one in record {
      lower_some = one;
      lower_few = rw e few;
      inside = omega (arith, a, m, pack_others v p);
      whole = ap (λ y. y * lower) f ∙ sym d;
      upper_few = (let g : 5 * state_count (take n sizes) (upper_part v p) * lower ≤ (state_count (take n sizes) p + 5) * lower = omega (arith, d, rw (← e) at wide) in rw f (native.Mathlib.Nat.le_of_mul-le-mul_right g one));
      parted = λ states s. rw (b, a, c) (states_parted v (take n sizes) p states z.values_some s (rw (← c, e) few));
    }

-- The lower variables end where one more would make too many states, or with the last.
pub lower_stops : (sizes p : List ℕ) (n w v next : ℕ) → Bounded sizes p n → Weighed sizes p n w v → v < n → w ≤ 64 → next ≡ cond (eqb (get_or p v 0) 1) (w * get_or sizes v 0) w → 64 < next →
    (v ≤ n) × (state_count (take v sizes) p ≤ 64) × (5 * state_count (take n sizes) p ≤ (state_count (take n sizes) p + 5) * state_count (take v sizes) p)
lower_stops sizes p n w v next s h l few e large = (omega arith, omega (arith, h.count), rw (← h.count) wide)
  where
    sixteen : get_or sizes v 0 ≤ 16
    sixteen = size_at sizes (λ z. z ≤ 16) n v s.values_few l (omega (arith, h.long, s.variables_few))

    grown : w * get_or sizes v 0 ≤ w * 16
    grown = native.Mathlib.Nat.mul-le-mul_left w sixteen

    five : 5 ≤ w
    five = by_test (eqb (get_or p v 0) 1) (λ q. let i : next ≡ w * get_or sizes v 0 = rw q at e in omega (arith, grown)) (λ q. let i : next ≡ w = rw q at e in absurd (omega arith))

    wide : 5 * state_count (take n sizes) p ≤ (state_count (take n sizes) p + 5) * w
    wide = omega (arith, native.Mathlib.Nat.mul-le-mul_left (state_count (take n sizes) p + 5) five)

pub lower_whole : (sizes p : List ℕ) (n w v : ℕ) → Weighed sizes p n w v → n ≤ v → w ≤ 64 → (v ≤ n) × (state_count (take v sizes) p ≤ 64) × (5 * state_count (take n sizes) p ≤ (state_count (take n sizes) p + 5) * state_count (take v sizes) p)
lower_whole sizes p n w v h l few = let e : v ≡ n = omega (arith, h.at) in let k = h.count in (h.at, omega arith, rw e (native.Mathlib.Nat.mul-le-mul_right (state_count (take n sizes) p) (omega arith)))
