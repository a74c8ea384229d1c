-- The weights of a pattern's variables and the words of its abstract states, variable by variable. Assumes nothing.
use Rattle.std.proofs.Common.{◌≡◌, ℕ, zero, suc, ◌+◌, ◌-◌, ◌*◌, ◌/◌, ◌%◌, ◌^◌, ◌<◌, ◌≤◌, Bool, true, false, cond, T, eqb, ltb, List, [], ◌∷◌, ◌++◌, length, get_or, take, set, replicate, sym, refl, ap, ◌∙◌, append_assoc, mul-le-mul_right, mod-eq_of_lt, div-lt_iff_lt-mul, mul-le-mul, pow-suc, mul-one, div-one, add-one, arith, length-append, length-set, length-take-le, get_or-set_other, take-suc, get_or-set_same, ltb→lt}
use native.Mathlib.Nat.{div-eq_of_lt, div-div-eq-div-mul, add-mul-div_right, add-mul-mod_self_right, add-div_right, pow-le-pow_right}
use native.Mathlib.Decide.{dec_lt}
use lib.Arith.{digits_div, digits_mod}
use lib.Seq.{set_at}
use Rattle.planning.specs.Finite.{All}
use Rattle.planning.specs.Task.{in_sizes}
use Rattle.planning.specs.Table.{index_from, state_count, state_at}
use Rattle.planning.proofs.Test.{and_l, and_r, by_test}
use Rattle.packed_task.specs.Packed.{pack_by, low}
use Rattle.tables.specs.Steps.{weigh, weights_from, Bounded, Extended}
use Rattle.packed_task.proofs.Packing.{pack_snoc, pack-fits, low_digit}

-- One variable more, at the end.
abbrev in_pattern : List ℕ → ℕ → Bool
in_pattern p v = eqb (get_or p v 0) 1

pub count_snoc : (zs : List ℕ) (z : ℕ) (p : List ℕ) → state_count (zs ++ (z ∷ [])) p ≡ cond (in_pattern p (length zs)) (state_count zs p * z) (state_count zs p)
unfolding state_count
count_snoc [] z [] = refl
count_snoc [] z (b ∷ p) = refl
count_snoc (y ∷ zs) z [] = count_snoc zs z []
count_snoc (y ∷ zs) z (b ∷ p) = let h = count_snoc zs z p in by_test (eqb b 1)
    (λ e. rw (e, h) (by_test (in_pattern p (length zs)) (λ f. rw f (omega arith)) (λ f. rw f)))
    (λ e. rw (e, h))

pub weights_snoc : (w : ℕ) (zs : List ℕ) (z : ℕ) (p : List ℕ) → weights_from w (zs ++ (z ∷ [])) p ≡ weights_from w zs p ++ (cond (in_pattern p (length zs)) (w * state_count zs p) 0 ∷ [])
unfolding weights_from state_count
weights_snoc w [] z [] = refl
weights_snoc w [] z (b ∷ p) = rw (mul-one w)
weights_snoc w (y ∷ zs) z [] = ap (λ l. 0 ∷ l) (weights_snoc w zs z [])
weights_snoc w (y ∷ zs) z (b ∷ p) = by_test (eqb b 1)
    (λ e. rw (e, weights_snoc (w * y) zs z p) (let q : w * y * state_count zs p ≡ w * (state_count zs p * y) = omega arith in rw q))
    (λ e. rw (e, weights_snoc w zs z p))

pub state_snoc : (zs : List ℕ) (z : ℕ) (p : List ℕ) (i : ℕ) → state_at (zs ++ (z ∷ [])) p i ≡ state_at zs p i ++ (cond (in_pattern p (length zs)) ((i / state_count zs p) % z) 0 ∷ [])
unfolding state_at state_count
state_snoc [] z [] i = refl
state_snoc [] z (b ∷ p) i = rw (div-one i)
state_snoc (y ∷ zs) z [] i = ap (λ l. 0 ∷ l) (state_snoc zs z [] i)
state_snoc (y ∷ zs) z (b ∷ p) i = by_test (eqb b 1)
    (λ e. rw (e, state_snoc zs z p (i / y), div-div-eq-div-mul i y (state_count zs p)) (let q : y * state_count zs p ≡ state_count zs p * y = omega arith in rw q))
    (λ e. rw (e, state_snoc zs z p i))

pub length_weights : (w : ℕ) (zs p : List ℕ) → length (weights_from w zs p) ≡ length zs
unfolding weights_from
length_weights w [] p = refl
length_weights w (z ∷ zs) [] = ap suc (length_weights w zs [])
length_weights w (z ∷ zs) (b ∷ p) = ap suc (length_weights (cond (eqb b 1) (w * z) w) zs p)

pub length_state : (zs p : List ℕ) (i : ℕ) → length (state_at zs p i) ≡ length zs
unfolding state_at
length_state [] p i = refl
length_state (z ∷ zs) [] i = ap suc (length_state zs [] i)
length_state (z ∷ zs) (b ∷ p) i = ap suc (length_state zs p _)

-- As many states further, the lower variables are the same.
pub state_periodic : (zs p : List ℕ) → All (λ z. 1 ≤ z) zs → (i : ℕ) → state_at zs p (i + state_count zs p) ≡ state_at zs p i
unfolding state_at state_count
state_periodic [] p h i = refl
state_periodic (z ∷ zs) [] h i = ap (λ l. 0 ∷ l) (state_periodic zs [] h.1 i)
state_periodic (z ∷ zs) (b ∷ p) h i = by_test (eqb b 1)
    (λ e. rw (e, add-mul-mod_self_right i (state_count zs p) z, add-mul-div_right i (state_count zs p) h.0, state_periodic zs p h.1 (i / z)))
    (λ e. rw (e, state_periodic zs p h.1 i))

pub count_positive : (zs p : List ℕ) → All (λ z. 1 ≤ z) zs → 1 ≤ state_count zs p
unfolding state_count
count_positive [] p h = omega arith
count_positive (z ∷ zs) [] h = count_positive zs [] h.1
count_positive (z ∷ zs) (b ∷ p) h = let k = count_positive zs p h.1 in by_test (eqb b 1)
    (λ e. rw e (let m = mul-le-mul k h.0 in omega arith))
    (λ e. rw e k)

-- Fewer variables have no more states.
pub count_fewer : (zs p : List ℕ) (v n : ℕ) → v ≤ n → All (λ z. 1 ≤ z) (take n zs) → state_count (take v zs) p ≤ state_count (take n zs) p
unfolding state_count
count_fewer zs p zero n l h = count_positive (take n zs) p h
count_fewer zs p (suc v) zero l h = absurd (omega arith)
count_fewer [] p (suc v) (suc n) l h = omega arith
count_fewer (z ∷ zs) [] (suc v) (suc n) l h = count_fewer zs [] v n (omega arith) h.1
count_fewer (z ∷ zs) (b ∷ p) (suc v) (suc n) l h = let k = count_fewer zs p v n (omega arith) h.1 in by_test (eqb b 1)
    (λ e. rw e (mul-le-mul_right z k))
    (λ e. rw e k)

-- The weights up to variable v.
pub record Weighing (sizes p : List ℕ) (n : ℕ) (r : List ℕ) (w v : ℕ) : Type 0 where
  pub at : v ≤ n
  pub long : length sizes ≡ 16
  pub count : w ≡ state_count (take v sizes) p
  pub weights : r ≡ weights_from 1 (take v sizes) p ++ replicate (16 - v) 0

take_more : (sizes : List ℕ) (v : ℕ) → v < length sizes → take (v + 1) sizes ≡ take v sizes ++ (get_or sizes v 0 ∷ [])
take_more sizes v l = rw (add-one, take-suc sizes v 0 l)

count_more : (sizes p : List ℕ) (v : ℕ) → v < length sizes → state_count (take (v + 1) sizes) p ≡ cond (in_pattern p v) (state_count (take v sizes) p * get_or sizes v 0) (state_count (take v sizes) p)
count_more sizes p v l = let e : length (take v sizes) ≡ v = length-take-le v sizes (omega arith) in rw (take_more sizes v l, count_snoc (take v sizes) (get_or sizes v 0) p, e)

set_seam : (a : List ℕ) (v x : ℕ) → length a ≡ v → v < 16 → set (a ++ replicate (16 - v) 0) v x ≡ (a ++ (x ∷ [])) ++ replicate (16 - (v + 1)) 0
set_seam a v x e l = let n : 16 - v ≡ suc (16 - (v + 1)) = omega arith in rw n (set_at a 0 (replicate (16 - (v + 1)) 0) x v e ∙ sym (append_assoc a (x ∷ []) (replicate (16 - (v + 1)) 0)))

pub weighing_step : (sizes p : List ℕ) (n : ℕ) (r : List ℕ) (w v : ℕ) → Bounded sizes p n → v < n → Weighing sizes p n r w v
    → Weighing sizes p n (set r v (cond (in_pattern p v) w 0)) (cond (in_pattern p v) (w * get_or sizes v 0) w) (v + 1)
weighing_step sizes p n r w v s l h = let b : v < length sizes = omega (arith, h.long, s.variables_few) in let e : length (take v sizes) ≡ v = length-take-le v sizes (omega arith) in record {
  at = omega arith;
  long = h.long;
  count = rw h.count (sym (count_more sizes p v b));
  weights = rw (
    h.weights,
    set_seam (weights_from 1 (take v sizes) p) v (cond (in_pattern p v) w 0) (length_weights 1 (take v sizes) p ∙ e) (omega (arith, s.variables_few)),
    take_more sizes v b,
    weights_snoc 1 (take v sizes) (get_or sizes v 0) p,
    e,
    h.count,
  )
      (let q : 1 * state_count (take v sizes) p ≡ state_count (take v sizes) p = omega arith in rw q);
}

pub weighing_end : (sizes p : List ℕ) (n : ℕ) (r : List ℕ) (w v : ℕ) → n ≤ v → Weighing sizes p n r w v → r ≡ weights_from 1 (take n sizes) p ++ replicate (16 - n) 0
weighing_end sizes p n r w v l h = let e : v ≡ n = omega (arith, h.at) in rw e at h.weights

pub weighing_small : (sizes p : List ℕ) (n : ℕ) (r : List ℕ) (w v : ℕ) → Bounded sizes p n → Weighing sizes p n r w v → w ≤ 4096
weighing_small sizes p n r w v s h = omega (arith, h.count, s.states_few, count_fewer sizes p v n h.at s.values_some)

-- The same without the weights: w is the number of abstract states of the variables below v.
pub record Weighed (sizes p : List ℕ) (n w v : ℕ) : Type 0 where
  pub at : v ≤ n
  pub long : length sizes ≡ 16
  pub count : w ≡ state_count (take v sizes) p

pub weighed_start : (sizes p : List ℕ) (n : ℕ) → length sizes ≡ 16 → Weighed sizes p n 1 0
unfolding state_count
weighed_start sizes p n h = record { at = omega arith; long = h; count = refl }

pub weighed_step : (sizes p : List ℕ) (n w v : ℕ) → Bounded sizes p n → v < n → Weighed sizes p n w v → Weighed sizes p n (cond (in_pattern p v) (w * get_or sizes v 0) w) (v + 1)
weighed_step sizes p n w v s l h = let b : v < length sizes = omega (arith, h.long, s.variables_few) in record {
  at = omega arith;
  long = h.long;
  count = rw h.count (sym (count_more sizes p v b));
}

pub weighed_end : (sizes p : List ℕ) (n w v : ℕ) → n ≤ v → Weighed sizes p n w v → w ≡ state_count (take n sizes) p
weighed_end sizes p n w v l h = let e : v ≡ n = omega (arith, h.at) in rw e at h.count

pub weighed_small : (sizes p : List ℕ) (n w v : ℕ) → Bounded sizes p n → Weighed sizes p n w v → w ≤ 4096
weighed_small sizes p n w v s h = omega (arith, h.count, s.states_few, count_fewer sizes p v n h.at s.values_some)

-- Weights of 0 do not count.
weigh_none : (j s : ℕ) → weigh (replicate j 0) s ≡ 0
unfolding weigh
weigh_none zero s = refl
weigh_none (suc j) s = rw (weigh_none j (s / 16)) (omega arith)

pub weigh_padded : (w : List ℕ) (j s : ℕ) → weigh (w ++ replicate j 0) s ≡ weigh w s
unfolding weigh
weigh_padded [] j s = weigh_none j s
weigh_padded (x ∷ w) j s = ap (λ n. s % 16 * x + n) (weigh_padded w j (s / 16))

-- The weights give the index.
pub weigh-index : (w : ℕ) (zs p s : List ℕ) → All (λ z. z ≤ 16) zs → T (in_sizes zs s) → weigh (weights_from w zs p) (pack_by low s) ≡ index_from w zs p s
unfolding weigh weights_from pack_by index_from in_sizes
weigh-index w [] p s b o = refl
weigh-index w (z ∷ zs) p [] b o = absurd o
weigh-index w (z ∷ zs) [] (x ∷ s) b o = let d : x % 16 < 16 = omega arith in
    rw (digits_mod (pack_by low s) d, digits_div (pack_by low s) d, weigh-index w zs [] s b.1 (and_r (ltb x z) _ o)) (omega arith)
weigh-index w (z ∷ zs) (q ∷ p) (x ∷ s) b o = let d : x % 16 < 16 = omega arith in let l : x < z = ltb→lt x z (and_l (ltb x z) _ o) in let m : x < 16 = omega (arith, b.0) in
    rw (digits_mod (pack_by low s) d, digits_div (pack_by low s) d, mod-eq_of_lt m) (by_test (eqb q 1)
    (λ e. rw (e, weigh-index (w * z) zs p s b.1 (and_r (ltb x z) _ o)))
    (λ e. rw (e, weigh-index w zs p s b.1 (and_r (ltb x z) _ o)) (omega arith)))

-- The words that were made w at a time.
pub extended_start : (old : List ℕ) (w place : ℕ) → Extended old old w w place
extended_start old w place = record { long = refl; words = λ f first grows fits b k l. first k l }

pub extended_step : (old new : List ℕ) (w k place v : ℕ) → 1 ≤ w → w ≤ k → k < length new → v ≡ (get_or new (k - w) 0 + place) % 18446744073709551616 → Extended old new w k place → Extended old (set new k v) w (k + 1) place
extended_step old new w k place v p b l e h = record {
  long = length-set new k v ∙ h.long;
  words = λ f first grows fits c j u. here f first grows fits j (dec_lt j k) u;
}
  where
    here : (f : ℕ → ℕ) → ((j : ℕ) → j < w → get_or old j 0 ≡ f j) → ((j : ℕ) → j + w < k + 1 → f (j + w) ≡ f j + place) → ((j : ℕ) → f j < 18446744073709551616) → (j : ℕ) → Dec (j < k) → j < k + 1 → get_or (set new k v) j 0 ≡ f j
    here f first grows fits j (yes q) u = get_or-set_other new k j v 0 (λ z. omega arith) ∙ h.words f first (λ i x. grows i (omega arith)) fits b j q
    here f first grows fits j (no q) u =
        let z : j ≡ k = omega arith in
        let i : (k - w) + w ≡ k = omega arith in
        let g : f k ≡ f (k - w) + place = rw i at (grows (k - w) (omega arith)) in
        let o = h.words f first (λ i x. grows i (omega arith)) fits b (k - w) (omega arith) in
        let m = fits k in
        rw z (get_or-set_same new k v 0 l ∙ e ∙ rw (o, ← g) (mod-eq_of_lt m))

pub extended_end : (old new : List ℕ) (w k end place : ℕ) → (w ≤ end → k ≤ end) → end ≤ k → Extended old new w k place → Extended old new w end place
extended_end old new w k end place b l h = record { long = h.long; words = λ f first grows fits c j u. let z : k ≡ end = omega (arith, b c) in h.words f first (rw (← z) at grows) fits (omega arith) j (omega arith) }

-- The word of a state with one variable more.
word_more : (zs : List ℕ) (z : ℕ) (p : List ℕ) (k : ℕ) → pack_by low (state_at (zs ++ (z ∷ [])) p k) ≡ pack_by low (state_at zs p k) + low (cond (in_pattern p (length zs)) ((k / state_count zs p) % z) 0) * 16 ^ length zs
word_more zs z p k = rw (state_snoc zs z p k, pack_snoc low (state_at zs p k) (cond (in_pattern p (length zs)) ((k / state_count zs p) % z) 0), length_state zs p k)

word_outside : (zs : List ℕ) (z : ℕ) (p : List ℕ) (k : ℕ) → in_pattern p (length zs) ≡ false → pack_by low (state_at (zs ++ (z ∷ [])) p k) ≡ pack_by low (state_at zs p k)
word_outside zs z p k e = word_more zs z p k ∙ rw e (omega arith)

word_inside : (zs : List ℕ) (z : ℕ) (p : List ℕ) (k : ℕ) → in_pattern p (length zs) ≡ true → 1 ≤ state_count zs p → z ≤ 16 → k < z * state_count zs p
    → pack_by low (state_at (zs ++ (z ∷ [])) p k) ≡ pack_by low (state_at zs p k) + (k / state_count zs p) * 16 ^ length zs
word_inside zs z p k e c b l = let d : k / state_count zs p < z = (div-lt_iff_lt-mul c).1 l in let d₁ : k / state_count zs p < 16 = omega arith in
    word_more zs z p k ∙ rw (e, mod-eq_of_lt d, mod-eq_of_lt d₁)

word_first : (zs : List ℕ) (z : ℕ) (p : List ℕ) (k : ℕ) → k < state_count zs p → pack_by low (state_at (zs ++ (z ∷ [])) p k) ≡ pack_by low (state_at zs p k)
word_first zs z p k l = by_test (in_pattern p (length zs))
    (λ e. word_more zs z p k ∙ rw (e, div-eq_of_lt l) (first z))
    (λ e. word_outside zs z p k e)
  where
    first : (z : ℕ) → pack_by low (state_at zs p k) + low (0 % z) * 16 ^ length zs ≡ pack_by low (state_at zs p k)
    first z = let q : 0 % z ≡ 0 = native.Mathlib.Nat.zero-mod z in rw q (omega arith)

word_grows : (zs : List ℕ) (z : ℕ) (p : List ℕ) (k : ℕ) → in_pattern p (length zs) ≡ true → All (λ y. 1 ≤ y) zs → z ≤ 16 → k + state_count zs p < state_count zs p * z
    → pack_by low (state_at (zs ++ (z ∷ [])) p (k + state_count zs p)) ≡ pack_by low (state_at (zs ++ (z ∷ [])) p k) + 16 ^ length zs
word_grows zs z p k e h b l = let c = count_positive zs p h in
    word_inside zs z p (k + state_count zs p) e c b (omega arith)
    ∙ rw (state_periodic zs p h k, add-div_right k c, word_inside zs z p k e c b (omega arith)) (omega arith)

-- The words up to variable v.
pub record Filling (sizes p : List ℕ) (n : ℕ) (states : List ℕ) (w place v : ℕ) : Type 0 where
  pub at : v ≤ n
  pub long : length sizes ≡ 16
  pub count : w ≡ state_count (take v sizes) p
  pub place_is : v < 16 → place ≡ 16 ^ v
  pub room : state_count (take n sizes) p ≤ length states
  pub words : (i : ℕ) → i < w → get_or states i 0 ≡ pack_by low (state_at (take v sizes) p i)

pub filling_start : (sizes p : List ℕ) (n : ℕ) (states : List ℕ) → length sizes ≡ 16 → state_count (take n sizes) p ≤ length states → get_or states 0 0 ≡ 0 → Filling sizes p n states 1 1 0
unfolding state_count state_at pack_by
filling_start sizes p n states l r z = record { at = omega arith; long = l; count = refl; place_is = λ h. refl; room = r; words = λ i h. let e : i ≡ 0 = omega arith in rw (e, z) }

next_place : (v place : ℕ) → v + 1 < 16 → place ≡ 16 ^ v → place % 1152921504606846976 * 16 ≡ 16 ^ (v + 1)
next_place v place l e = let q : v ≤ 14 = omega arith in let p = pow-le-pow_right {n = 16} (omega arith) q in let s : place < 1152921504606846976 = omega arith in
    rw (add-one v, pow-suc 16 v, mod-eq_of_lt s, e)

pub size_at : (sizes : List ℕ) (P : ℕ → Type 0) (n v : ℕ) → All P (take n sizes) → v < n → v < length sizes → P (get_or sizes v 0)
size_at [] P n v h l b = absurd (omega arith)
size_at (z ∷ sizes) P zero v h l b = absurd (omega arith)
size_at (z ∷ sizes) P (suc n) zero h l b = h.0
size_at (z ∷ sizes) P (suc n) (suc v) h l b = size_at sizes P n v h.1 (omega arith) (omega arith)

pub sizes_fewer : (sizes : List ℕ) (P : ℕ → Type 0) (n v : ℕ) → v ≤ n → All P (take n sizes) → All P (take v sizes)
sizes_fewer sizes P n zero l h = tt
sizes_fewer [] P n (suc v) l h = tt
sizes_fewer (z ∷ sizes) P zero (suc v) l h = absurd (omega arith)
sizes_fewer (z ∷ sizes) P (suc n) (suc v) l h = (h.0, sizes_fewer sizes P n v (omega arith) h.1)

module _ (sizes p : List ℕ) (n : ℕ) (states : List ℕ) (w place v : ℕ) (s : Bounded sizes p n) (l : v < n) (h : Filling sizes p n states w place v) where
  below_sixteen : v < length sizes
  below_sixteen = omega (arith, h.long, s.variables_few)

  taken-length : length (take v sizes) ≡ v
  taken-length = length-take-le v sizes (omega (arith, below_sixteen))

  z_some : 1 ≤ get_or sizes v 0
  z_some = size_at sizes (λ z. 1 ≤ z) n v s.values_some l below_sixteen

  z_few : get_or sizes v 0 ≤ 16
  z_few = size_at sizes (λ z. z ≤ 16) n v s.values_few l below_sixteen

  positive : All (λ z. 1 ≤ z) (take v sizes)
  positive = sizes_fewer sizes (λ z. 1 ≤ z) n v (omega arith) s.values_some

  pub filling_small : w ≤ 4096
  filling_small = omega (arith, h.count, s.states_few, count_fewer sizes p v n h.at s.values_some)

  pub filling_positive : 1 ≤ w
  filling_positive = omega (arith, h.count, count_positive (take v sizes) p positive)

  abbrev next_count : ℕ
  next_count = cond (in_pattern p v) (w * get_or sizes v 0) w

  next_count_lem : next_count ≡ state_count (take (v + 1) sizes) p
  next_count_lem = rw h.count (sym (count_more sizes p v below_sixteen))

  pub filling_room : next_count ≤ length states
  filling_room = omega (arith, next_count_lem, h.room, count_fewer sizes p (v + 1) n (omega arith) s.values_some)

  count_larger : w ≤ next_count
  count_larger = by_test (in_pattern p v) (λ e. rw e (let m = mul-le-mul {n₁ = w} {m₁ = 1} (native.Mathlib.Nat.le_refl w) z_some in omega arith)) (λ e. rw e (omega arith))

  abbrev word_of : ℕ → ℕ
  word_of k = pack_by low (state_at (take v sizes ++ (get_or sizes v 0 ∷ [])) p k)

  words_grow : (k : ℕ) → k + w < next_count → word_of (k + w) ≡ word_of k + place
  words_grow k q = by_test (in_pattern p v)
      (λ e. let c : k + state_count (take v sizes) p < state_count (take v sizes) p * get_or sizes v 0 = rw (← h.count) (rw e at q) in
      rw (h.count, h.place_is (omega (arith, s.variables_few))) (rw taken-length at (word_grows (take v sizes) (get_or sizes v 0) p k (rw taken-length e) positive z_few c)))
      (λ e. let c : k + w < w = rw e at q in absurd (omega arith))

  words_fit : (k : ℕ) → word_of k < 18446744073709551616
  words_fit k = pack-fits low low_digit (state_at (take v sizes ++ (get_or sizes v 0 ∷ [])) p k) (rw (length_state (take v sizes ++ (get_or sizes v 0 ∷ [])) p k, length-append, taken-length) (omega (arith, s.variables_few)))

  pub filling_step : (new : List ℕ) → Extended states new w next_count place → Filling sizes p n new next_count (place % 1152921504606846976 * 16) (v + 1)
  filling_step new x = record {
    at = omega arith;
    long = h.long;
    count = next_count_lem;
    place_is = λ b. next_place v place b (h.place_is (omega arith));
    room = omega (arith, x.long, h.room);
    words = λ i b. rw (take_more sizes v below_sixteen) (x.words word_of (λ k c. h.words k c ∙ sym (word_first (take v sizes) (get_or sizes v 0) p k (rw (← h.count) c))) words_grow words_fit count_larger i b);
  }

pub filling_end : (sizes p : List ℕ) (n : ℕ) (states : List ℕ) (w place v : ℕ) → n ≤ v → Filling sizes p n states w place v → (i : ℕ) → i < state_count (take n sizes) p → get_or states i 0 ≡ pack_by low (state_at (take n sizes) p i)
filling_end sizes p n states w place v l h i b = let e : v ≡ n = omega (arith, h.at) in rw (← e) (h.words i (rw (h.count, e) b))
