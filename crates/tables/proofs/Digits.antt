-- An outcome backwards, digit by digit: what the state after it has, and how the index of the state before it comes from it. Assumes nothing.
use Rattle.std.proofs.Common.{◌≡◌, ℕ, zero, suc, ◌+◌, ◌-◌, ◌*◌, ◌/◌, ◌%◌, ◌^◌, ◌<◌, ◌≤◌, ◌⊎◌, List, [], ◌∷◌, length, get_or, sym, refl, ap, ◌∙◌, inl, inr, ⊎_elim, mul-le-mul_right, mul_assoc, pow-suc, arith, pow_pos, pow-add}
use native.Mathlib.Decide.{ℕ_discrete}
use lib.Count.{count_trailing_zeros}
use native.Mathlib.Nat.{pow-le-pow_right}
use lib.ListN.{get_or-eq_default}
use lib.Bits.{bit_and, bit_or, or_block, and_zero_l, and_zero_r, or_zero_l, or_zero_r, and_le_l, and_le_r, or_add_and}
use Rattle.tables.specs.Steps.{weigh}
use Rattle.tables.specs.Edges.{named, freed, test_mask, test_value, digit, PlainMask, PlainNeed, PlainOut}
use Rattle.tables.proofs.Bitwise.{deeper, and_mod, and_div, and_all}

or_digits : (a b : ℕ) → bit_or a b ≡ bit_or (a / 16) (b / 16) * 16 + bit_or (a % 16) (b % 16)
or_digits a b = let p : a ≡ a / 16 * 16 + a % 16 = omega arith in let q : b ≡ b / 16 * 16 + b % 16 = omega arith in
    ap (λ y. bit_or y b) p ∙ ap (λ y. bit_or (a / 16 * 16 + a % 16) y) q ∙ or_block 4 (a / 16) (b / 16) (a % 16) (b % 16) (omega arith) (omega arith)

or_small : (a b : ℕ) → a < 16 → b < 16 → bit_or a b < 16
or_small a b k l = lib.Bits.or_lt 4 a b k l

or_mod : (a b : ℕ) → bit_or a b % 16 ≡ bit_or (a % 16) (b % 16)
or_mod a b = let h = or_digits a b in let l = or_small (a % 16) (b % 16) (omega arith) (omega arith) in omega arith

or_div : (a b : ℕ) → bit_or a b / 16 ≡ bit_or (a / 16) (b / 16)
or_div a b = let h = or_digits a b in let l = or_small (a % 16) (b % 16) (omega arith) (omega arith) in omega arith

pub further_digit : (x u : ℕ) → x / 16 / 16 ^ u % 16 ≡ x / 16 ^ (u + 1) % 16
further_digit x u = let e : suc u ≡ u + 1 = omega arith in ap (λ y. y % 16) (deeper x u ∙ rw e)

pub lowest : (x : ℕ) → x % 16 ≡ digit x 0
lowest x = let z : x / 16 ^ 0 ≡ x = omega arith in sym (ap (λ y. y % 16) z)

-- The state after an outcome.
abbrev pub changed : ℕ → ℕ → ℕ → ℕ → ℕ
changed k keeps sets s = bit_and (bit_or (bit_and s keeps) sets) k

-- What is shown of each digit, and then of the words.
record Facts (k keeps need value sets s : ℕ) : Type 0 where
  sum : s + bit_and sets k ≡ changed k keeps sets s + bit_and value (named k keeps) + bit_and s (freed k keeps need)
  least : bit_and sets k ≤ changed k keeps sets s
  test : bit_and (changed k keeps sets s) (test_mask k keeps need) ≡ test_value k keeps value sets

facts_outside : (k keeps need value sets s : ℕ) → k ≡ 0 → s ≡ 0 → Facts k keeps need value sets s
unfolding named freed test_mask test_value
facts_outside k keeps need value sets s e f = let a = and_le_r sets k in let b = and_le_r (bit_or (bit_and s keeps) sets) k in let d = and_le_r value (k - bit_and keeps k) in
    let g = and_le_l s (k - bit_and keeps k - bit_and need (k - bit_and keeps k)) in
    let h = and_le_l (changed k keeps sets s) (test_mask k keeps need) in let i = and_le_r value (bit_and keeps k) in let j = and_le_r keeps k in
    let o = or_add_and (bit_and sets k) (bit_and value (bit_and keeps k)) in
    record { sum = omega arith; least = omega arith; test = omega arith }

facts_kept : (need value s : ℕ) → s < 16 → need < 16 → value < 16 → bit_and s need ≡ value → Facts 15 15 need value 0 s
unfolding named freed test_mask test_value
facts_kept need value s l n v e = let a = and_all s l in let b = and_all need n in let d = and_all value v in record {
  sum = simp (and_zero_l, and_zero_r, or_zero_r, a) (omega arith);
  least = rw (and_zero_l 15) (omega arith);
  test = simp (or_zero_l, or_zero_r, a, b, d, e);
}

facts_set : (sets s : ℕ) → s < 16 → sets < 16 → Facts 15 0 15 s sets s
unfolding named freed test_mask test_value
facts_set sets s l n = let a = and_all s l in let b = and_all sets n in record {
  sum = simp (and_zero_l, and_zero_r, or_zero_l, a, b) (omega arith);
  least = rw (and_zero_r s, or_zero_l sets) (omega arith);
  test = simp (and_zero_l, and_zero_r, or_zero_l, or_zero_r, b);
}

facts_free : (sets s : ℕ) → s < 16 → sets < 16 → Facts 15 0 0 0 sets s
unfolding named freed test_mask test_value
facts_free sets s l n = let a = and_all s l in let b = and_all sets n in record {
  sum = simp (and_zero_l, and_zero_r, or_zero_l, a, b) (omega arith);
  least = rw (and_zero_r s, or_zero_l sets) (omega arith);
  test = simp (and_zero_l, and_zero_r, or_zero_l, or_zero_r, b);
}

-- Words whose digits are as the compiled task has them: the mask's are 0 or 15; the precondition names a digit or not; the outcome keeps a
-- digit or sets it; the state has 0 outside the mask, and meets the precondition.
pub record Fits (k keeps need value sets s : ℕ) : Type 0 where
  pub plain_mask : PlainMask k
  pub plain_need : PlainNeed need value
  pub plain_out : PlainOut keeps sets
  pub inside : (u : ℕ) → digit k u ≡ 0 → digit s u ≡ 0
  pub met : bit_and s (bit_and need k) ≡ bit_and value k

fits_next : {k keeps need value sets s : ℕ} → Fits k keeps need value sets s → Fits (k / 16) (keeps / 16) (need / 16) (value / 16) (sets / 16) (s / 16)
fits_next {k} {keeps} {need} {value} {sets} {s} f = record {
  plain_mask = λ u. let h = f.plain_mask (u + 1) in rw (further_digit k u) h;
  plain_need = λ u. let h = f.plain_need (u + 1) in rw (further_digit need u, further_digit value u) h;
  plain_out = λ u. let h = f.plain_out (u + 1) in rw (further_digit keeps u, further_digit sets u) h;
  inside = λ u e. further_digit s u ∙ f.inside (u + 1) (sym (further_digit k u) ∙ e);
  met = let a = and_div s (bit_and need k) in let b = and_div need k in let d = and_div value k in let e = ap (λ y. y / 16) f.met in sym (rw b at a) ∙ e ∙ d;
}

fits-lowest : {k keeps need value sets s : ℕ} → Fits k keeps need value sets s → Facts (k % 16) (keeps % 16) (need % 16) (value % 16) (sets % 16) (s % 16)
fits-lowest {k} {keeps} {need} {value} {sets} {s} f = ⊎_elim
    (λ e. facts_outside (k % 16) (keeps % 16) (need % 16) (value % 16) (sets % 16) (s % 16) (lowest k ∙ e) (lowest s ∙ f.inside 0 e))
    (λ e. let ke = lowest k ∙ e in ⊎_elim
    (λ g. kept ke (lowest keeps ∙ g.0) (lowest sets ∙ g.1) (met_kept ke))
    (λ g. ⊎_elim
    (λ h. free ke (lowest keeps ∙ g) (lowest need ∙ h.0) (lowest value ∙ h.1))
    (λ h. fixed ke (lowest keeps ∙ g) (lowest need ∙ h) (met_kept ke)) (f.plain_need 0)) (f.plain_out 0)) (f.plain_mask 0)
  where
    met_kept : k % 16 ≡ 15 → bit_and (s % 16) (need % 16) ≡ value % 16
    met_kept e = let a = and_mod s (bit_and need k) in let b = and_mod need k in let d = and_mod value k in let g = ap (λ y. y % 16) f.met in
        let b₁ : bit_and need k % 16 ≡ need % 16 = b ∙ rw e (and_all (need % 16) (omega arith)) in
        let d₁ : bit_and value k % 16 ≡ value % 16 = d ∙ rw e (and_all (value % 16) (omega arith)) in sym (rw b₁ at a) ∙ g ∙ d₁

    kept : k % 16 ≡ 15 → keeps % 16 ≡ 15 → sets % 16 ≡ 0 → bit_and (s % 16) (need % 16) ≡ value % 16 → Facts (k % 16) (keeps % 16) (need % 16) (value % 16) (sets % 16) (s % 16)
    kept a b d e = rw (a, b, d) (facts_kept (need % 16) (value % 16) (s % 16) (omega arith) (omega arith) (omega arith) e)

    free : k % 16 ≡ 15 → keeps % 16 ≡ 0 → need % 16 ≡ 0 → value % 16 ≡ 0 → Facts (k % 16) (keeps % 16) (need % 16) (value % 16) (sets % 16) (s % 16)
    free a b d e = rw (a, b, d, e) (facts_free (sets % 16) (s % 16) (omega arith) (omega arith))

    fixed : k % 16 ≡ 15 → keeps % 16 ≡ 0 → need % 16 ≡ 15 → bit_and (s % 16) (need % 16) ≡ value % 16 → Facts (k % 16) (keeps % 16) (need % 16) (value % 16) (sets % 16) (s % 16)
    fixed a b d e = let v : value % 16 ≡ s % 16 = sym e ∙ rw d (and_all (s % 16) (omega arith)) in rw (a, b, d, v) (facts_set (sets % 16) (s % 16) (omega arith) (omega arith))

-- The parts of the words, digit by digit.
pub sub_mod : (a b : ℕ) → a % 16 ≤ b % 16 → a / 16 ≤ b / 16 → (b - a) % 16 ≡ b % 16 - a % 16
sub_mod a b h l = omega arith

pub sub_div : (a b : ℕ) → a % 16 ≤ b % 16 → a / 16 ≤ b / 16 → (b - a) / 16 ≡ b / 16 - a / 16
sub_div a b h l = omega arith

module _ (k keeps : ℕ) where
  named-low : bit_and keeps k % 16 ≤ k % 16
  named-low = rw (and_mod keeps k) (and_le_r (keeps % 16) (k % 16))

  named_high : bit_and keeps k / 16 ≤ k / 16
  named_high = rw (and_div keeps k) (and_le_r (keeps / 16) (k / 16))

  named_mod : named k keeps % 16 ≡ named (k % 16) (keeps % 16)
  unfolding named
  named_mod = sub_mod (bit_and keeps k) k named-low named_high ∙ rw (and_mod keeps k)

  named_div : named k keeps / 16 ≡ named (k / 16) (keeps / 16)
  unfolding named
  named_div = sub_div (bit_and keeps k) k named-low named_high ∙ rw (and_div keeps k)

  module _ (need : ℕ) where
    freed-low : bit_and need (named k keeps) % 16 ≤ named k keeps % 16
    freed-low = rw (and_mod need (named k keeps)) (and_le_r (need % 16) (named k keeps % 16))

    freed_high : bit_and need (named k keeps) / 16 ≤ named k keeps / 16
    freed_high = rw (and_div need (named k keeps)) (and_le_r (need / 16) (named k keeps / 16))

    pub freed_mod : freed k keeps need % 16 ≡ freed (k % 16) (keeps % 16) (need % 16)
    unfolding freed
    freed_mod = sub_mod (bit_and need (named k keeps)) (named k keeps) freed-low freed_high ∙ rw (and_mod need (named k keeps), named_mod)

    pub freed_div : freed k keeps need / 16 ≡ freed (k / 16) (keeps / 16) (need / 16)
    unfolding freed
    freed_div = sub_div (bit_and need (named k keeps)) (named k keeps) freed-low freed_high ∙ rw (and_div need (named k keeps), named_div)

changed_mod : (k keeps sets s : ℕ) → changed k keeps sets s % 16 ≡ changed (k % 16) (keeps % 16) (sets % 16) (s % 16)
changed_mod k keeps sets s = and_mod (bit_or (bit_and s keeps) sets) k ∙ rw (or_mod (bit_and s keeps) sets, and_mod s keeps)

changed_div : (k keeps sets s : ℕ) → changed k keeps sets s / 16 ≡ changed (k / 16) (keeps / 16) (sets / 16) (s / 16)
changed_div k keeps sets s = and_div (bit_or (bit_and s keeps) sets) k ∙ rw (or_div (bit_and s keeps) sets, and_div s keeps)

test_mask_mod : (k keeps need : ℕ) → test_mask k keeps need % 16 ≡ test_mask (k % 16) (keeps % 16) (need % 16)
unfolding test_mask
test_mask_mod k keeps need = or_mod (named k keeps) (bit_and need (bit_and keeps k)) ∙ rw (named_mod k keeps, and_mod need (bit_and keeps k), and_mod keeps k)

test_mask_div : (k keeps need : ℕ) → test_mask k keeps need / 16 ≡ test_mask (k / 16) (keeps / 16) (need / 16)
unfolding test_mask
test_mask_div k keeps need = or_div (named k keeps) (bit_and need (bit_and keeps k)) ∙ rw (named_div k keeps, and_div need (bit_and keeps k), and_div keeps k)

test_value_mod : (k keeps value sets : ℕ) → test_value k keeps value sets % 16 ≡ test_value (k % 16) (keeps % 16) (value % 16) (sets % 16)
unfolding test_value
test_value_mod k keeps value sets = or_mod (bit_and sets k) (bit_and value (bit_and keeps k)) ∙ rw (and_mod sets k, and_mod value (bit_and keeps k), and_mod keeps k)

test_value_div : (k keeps value sets : ℕ) → test_value k keeps value sets / 16 ≡ test_value (k / 16) (keeps / 16) (value / 16) (sets / 16)
unfolding test_value
test_value_div k keeps value sets = or_div (bit_and sets k) (bit_and value (bit_and keeps k)) ∙ rw (and_div sets k, and_div value (bit_and keeps k), and_div keeps k)

digits_same : (a b : ℕ) → a % 16 ≡ b % 16 → a / 16 ≡ b / 16 → a ≡ b
digits_same a b h g = omega arith

-- The index before an outcome, from the index after it.
pub weigh_before : (ws : List ℕ) (k keeps need value sets s : ℕ) → Fits k keeps need value sets s →
    weigh ws s + weigh ws (bit_and sets k) ≡ weigh ws (changed k keeps sets s) + weigh ws (bit_and value (named k keeps)) + weigh ws (bit_and s (freed k keeps need))
unfolding weigh
weigh_before [] k keeps need value sets s f = omega arith
weigh_before (w ∷ ws) k keeps need value sets s f =
    let h = ap (λ y. y * w) (fits-lowest f).sum in let r = weigh_before ws (k / 16) (keeps / 16) (need / 16) (value / 16) (sets / 16) (s / 16) (fits_next f) in
    rw (
      and_mod sets k,
      and_div sets k,
      changed_mod k keeps sets s,
      changed_div k keeps sets s,
      and_mod value (named k keeps),
      and_div value (named k keeps),
      named_mod k keeps,
      named_div k keeps,
      and_mod s (freed k keeps need),
      and_div s (freed k keeps need),
      freed_mod k keeps need,
      freed_div k keeps need,
    ) (omega (arith, h, r))

pub weigh-least : (ws : List ℕ) (k keeps need value sets s : ℕ) → Fits k keeps need value sets s → weigh ws (bit_and sets k) ≤ weigh ws (changed k keeps sets s)
unfolding weigh
weigh-least [] k keeps need value sets s f = omega arith
weigh-least (w ∷ ws) k keeps need value sets s f =
    let h = mul-le-mul_right w (fits-lowest f).least in let r = weigh-least ws (k / 16) (keeps / 16) (need / 16) (value / 16) (sets / 16) (s / 16) (fits_next f) in
    rw (and_mod sets k, and_div sets k, changed_mod k keeps sets s, changed_div k keeps sets s) (omega (arith, h, r))

-- The state after an outcome passes its test.
pub word_test : (n k keeps need value sets s : ℕ) → k < 16 ^ n → Fits k keeps need value sets s → bit_and (changed k keeps sets s) (test_mask k keeps need) ≡ test_value k keeps value sets
unfolding test_value
word_test zero k keeps need value sets s l f = let b = and_le_r (bit_or (bit_and s keeps) sets) k in let h = and_le_l (changed k keeps sets s) (test_mask k keeps need) in
    let i = and_le_r value (bit_and keeps k) in let j = and_le_r keeps k in let a = and_le_r sets k in let o = or_add_and (bit_and sets k) (bit_and value (bit_and keeps k)) in
    let z : k ≡ 0 = let l₁ : k < 1 = l in omega arith in omega arith
word_test (suc n) k keeps need value sets s l f = let p = pow-suc 16 n in
    let r = word_test n (k / 16) (keeps / 16) (need / 16) (value / 16) (sets / 16) (s / 16) (omega arith) (fits_next f) in let h = (fits-lowest f).test in
    let a = and_mod (changed k keeps sets s) (test_mask k keeps need) in let b = and_div (changed k keeps sets s) (test_mask k keeps need) in
    let a₁ : bit_and (changed k keeps sets s) (test_mask k keeps need) % 16 ≡ test_value k keeps value sets % 16 = a ∙ rw (changed_mod k keeps sets s, test_mask_mod k keeps need) (h ∙ sym (test_value_mod k keeps value sets)) in
    let b₁ : bit_and (changed k keeps sets s) (test_mask k keeps need) / 16 ≡ test_value k keeps value sets / 16 = b ∙ rw (changed_div k keeps sets s, test_mask_div k keeps need) (r ∙ sym (test_value_div k keeps value sets)) in
    digits_same (bit_and (changed k keeps sets s) (test_mask k keeps need)) (test_value k keeps value sets) a₁ b₁

-- The state after an outcome depends on what is kept and set within the mask alone.
mask_next : (k : ℕ) → PlainMask k → PlainMask (k / 16)
mask_next k h = λ u. let g = h (u + 1) in rw (further_digit k u) g

within_all : (k a b : ℕ) → k % 16 ≡ 15 → bit_and a k ≡ bit_and b k → a % 16 ≡ b % 16
within_all k a b e h = let p = ap (λ y. y % 16) h in let q = and_mod a k in let r = and_mod b k in
    sym (q ∙ rw e (and_all (a % 16) (omega arith))) ∙ p ∙ r ∙ rw e (and_all (b % 16) (omega arith))

within_next : (k a b : ℕ) → bit_and a k ≡ bit_and b k → bit_and (a / 16) (k / 16) ≡ bit_and (b / 16) (k / 16)
within_next k a b h = sym (and_div a k) ∙ ap (λ y. y / 16) h ∙ and_div b k

changed_lowest : (k keeps sets keeps₁ sets₁ s : ℕ) → (k % 16 ≡ 0) ⊎ (k % 16 ≡ 15) → bit_and keeps k ≡ bit_and keeps₁ k → bit_and sets k ≡ bit_and sets₁ k →
    changed (k % 16) (keeps % 16) (sets % 16) (s % 16) ≡ changed (k % 16) (keeps₁ % 16) (sets₁ % 16) (s % 16)
changed_lowest k keeps sets keeps₁ sets₁ s (inl e) h g = let a = and_le_r (bit_or (bit_and (s % 16) (keeps % 16)) (sets % 16)) (k % 16) in
    let b = and_le_r (bit_or (bit_and (s % 16) (keeps₁ % 16)) (sets₁ % 16)) (k % 16) in omega (arith, a, b, e)
changed_lowest k keeps sets keeps₁ sets₁ s (inr e) h g = rw (within_all k keeps keeps₁ e h, within_all k sets sets₁ e g)

pub changed_same : (n k keeps sets keeps₁ sets₁ s : ℕ) → k < 16 ^ n → PlainMask k → bit_and keeps k ≡ bit_and keeps₁ k → bit_and sets k ≡ bit_and sets₁ k → changed k keeps sets s ≡ changed k keeps₁ sets₁ s
changed_same zero k keeps sets keeps₁ sets₁ s l p h g = let a = and_le_r (bit_or (bit_and s keeps) sets) k in let b = and_le_r (bit_or (bit_and s keeps₁) sets₁) k in
    let z : k ≡ 0 = let l₁ : k < 1 = l in omega arith in omega (arith, a, b, z)
changed_same (suc n) k keeps sets keeps₁ sets₁ s l p h g = let q = pow-suc 16 n in
    let r = changed_same n (k / 16) (keeps / 16) (sets / 16) (keeps₁ / 16) (sets₁ / 16) (s / 16) (omega arith) (mask_next k p) (within_next k keeps keeps₁ h) (within_next k sets sets₁ g) in
    let b = changed_lowest k keeps sets keeps₁ sets₁ s (⊎_elim (λ e. inl (lowest k ∙ e)) (λ e. inr (lowest k ∙ e)) (p 0)) h g in
    digits_same (changed k keeps sets s) (changed k keeps₁ sets₁ s) (changed_mod k keeps sets s ∙ b ∙ sym (changed_mod k keeps₁ sets₁ s)) (changed_div k keeps sets s ∙ r ∙ sym (changed_div k keeps₁ sets₁ s))

-- The mask of a test is plain.
test_none : (k keeps need : ℕ) → k ≡ 0 → test_mask k keeps need ≡ 0
unfolding test_mask named
test_none k keeps need e = let a = and_le_r keeps k in let b = and_le_r need (bit_and keeps k) in let d = or_add_and (k - bit_and keeps k) (bit_and need (bit_and keeps k)) in omega arith

test_lowest : (k keeps need : ℕ) → (k ≡ 0) ⊎ (k ≡ 15) → (keeps ≡ 0) ⊎ (keeps ≡ 15) → (need ≡ 0) ⊎ (need ≡ 15) → (test_mask k keeps need ≡ 0) ⊎ (test_mask k keeps need ≡ 15)
unfolding test_mask named
test_lowest k keeps need (inl a) b d = inl (test_none k keeps need a)
test_lowest k keeps need (inr a) (inl b) (inl d) = inr (rw (a, b, d))
test_lowest k keeps need (inr a) (inl b) (inr d) = inr (rw (a, b, d))
test_lowest k keeps need (inr a) (inr b) (inl d) = inl (rw (a, b, d))
test_lowest k keeps need (inr a) (inr b) (inr d) = inr (rw (a, b, d))

pub test_plain : (u k keeps need value sets : ℕ) → PlainMask k → PlainOut keeps sets → PlainNeed need value → (digit (test_mask k keeps need) u ≡ 0) ⊎ (digit (test_mask k keeps need) u ≡ 15)
test_plain zero k keeps need value sets p q r = let e = sym (lowest (test_mask k keeps need)) ∙ test_mask_mod k keeps need in
    ⊎_elim (λ h. inl (e ∙ h)) (λ h. inr (e ∙ h)) (test_lowest (k % 16) (keeps % 16) (need % 16) (⊎_elim (λ h. inl (lowest k ∙ h)) (λ h. inr (lowest k ∙ h)) (p 0))
    (⊎_elim (λ h. inr (lowest keeps ∙ h.0)) (λ h. inl (lowest keeps ∙ h)) (q 0)) (⊎_elim (λ h. inl (lowest need ∙ h.0)) (λ h. inr (lowest need ∙ h)) (r 0)))
test_plain (suc u) k keeps need value sets p q r = let z : u + 1 ≡ suc u = omega arith in
    let e : digit (test_mask k keeps need) (suc u) ≡ digit (test_mask (k / 16) (keeps / 16) (need / 16)) u = sym (rw z at (further_digit (test_mask k keeps need) u)) ∙ rw (test_mask_div k keeps need) in
    ⊎_elim (λ h. inl (e ∙ h)) (λ h. inr (e ∙ h)) (test_plain u (k / 16) (keeps / 16) (need / 16) (value / 16) (sets / 16) (mask_next k p)
    (λ v. let g = q (v + 1) in rw (further_digit keeps v, further_digit sets v) g) (λ v. let g = r (v + 1) in rw (further_digit need v, further_digit value v) g))

-- The place of a digit in a word.
pub place_is : (u : ℕ) → 2 ^ (4 * u) ≡ 16 ^ u
place_is zero = refl
place_is (suc u) = let e : 4 * suc u ≡ 4 * u + 4 = omega arith in rw e (pow-add 2 (4 * u) 4 ∙ ap (λ y. y * 16) (place_is u) ∙ sym (pow-suc 16 u))

pub place_small : (u : ℕ) → u < 16 → (16 ^ u ≤ 1152921504606846976) × (1 ≤ 16 ^ u)
place_small u l = let p = pow-le-pow_right {n = 16} (omega arith) {i = u} {j = 15} (omega arith) in let q = pow_pos (4 * u) in (omega (arith, p), omega (arith, q, place_is u))

pub place_word : (u : ℕ) → u < 16 → 1 * 2 ^ (4 * u) % 18446744073709551616 ≡ 16 ^ u
place_word u l = let p = (place_small u l).0 in let e : 1 * 2 ^ (4 * u) ≡ 16 ^ u = omega (arith, place_is u) in rw e (omega (arith, p))

-- A word is a multiple of the power of 2 that its lowest ones stand above, and so of that of 16.
trailing_times : (k n : ℕ) → (a : ℕ) × (n ≡ a * 2 ^ count_trailing_zeros k n)
unfolding count_trailing_zeros
trailing_times zero n = (n, omega arith)
trailing_times (suc k) n = either (trailing_times k (n / 2)) (ℕ_discrete (n % 2) 0)
  where
    either : (a : ℕ) × (n / 2 ≡ a * 2 ^ count_trailing_zeros k (n / 2)) → Dec (n % 2 ≡ 0) → (a : ℕ) × (n ≡ a * 2 ^ count_trailing_zeros (suc k) n)
    either h (yes e) = let z = count_trailing_zeros k (n / 2) in let m = mul_assoc h.0 (2 ^ z) 2 in rw e (h.0, rw (pow-suc 2 z) (omega (arith, e, h.1, m)))
    either h (no e) = let o : n % 2 ≡ 1 = omega arith in rw o (n, omega arith)

pub trailing_sixteens : (n u : ℕ) → u * 4 ≤ count_trailing_zeros 64 n → (a : ℕ) × (n ≡ a * 16 ^ u)
trailing_sixteens n u l = let h = trailing_times 64 n in let z = count_trailing_zeros 64 n in let e : z ≡ z - 4 * u + 4 * u = omega (arith, l) in
    (h.0 * 2 ^ (z - 4 * u), h.1 ∙ ap (λ y. h.0 * 2 ^ y) e ∙ ap (λ y. h.0 * y) (pow-add 2 (z - 4 * u) (4 * u)) ∙ rw (place_is u) (sym (mul_assoc h.0 (2 ^ (z - 4 * u)) (16 ^ u))))

-- Its lowest digit is 0 then, and the others are a multiple of the power below.
pub sixteens_next : (n u a : ℕ) → n ≡ a * 16 ^ suc u → (n % 16 ≡ 0) × (n / 16 ≡ a * 16 ^ u)
sixteens_next n u a e = let h : n ≡ a * 16 ^ u * 16 = e ∙ ap (λ y. a * y) (pow-suc 16 u) ∙ sym (mul_assoc a (16 ^ u) 16) in (omega (arith, h), omega (arith, h))

-- Free digits without digit u, which is free.
pub next_digit : (x u : ℕ) → digit x (suc u) ≡ digit (x / 16) u
next_digit x u = let z : u + 1 ≡ suc u = omega arith in sym (rw z at (further_digit x u))

pub digit-least : (u f : ℕ) → digit f u ≡ 15 → 15 * 16 ^ u ≤ f
digit-least zero f e = let h = lowest f ∙ e in omega (arith, h)
digit-least (suc u) f e = let h = digit-least u (f / 16) (sym (next_digit f u) ∙ e) in let p = pow-suc 16 u in omega (arith, h, p)

without_div : (u f : ℕ) → (f - 15 * 16 ^ suc u) / 16 ≡ f / 16 - 15 * 16 ^ u
without_div u f = let p = pow-suc 16 u in omega (arith, p)

rest_mod : (f p : ℕ) → 15 * p ≤ f / 16 → (f - 15 * (p * 16)) % 16 ≡ f % 16
rest_mod f p h = let d : f - 15 * (p * 16) ≡ (f / 16 - 15 * p) * 16 + f % 16 = omega (arith, h) in rw d (omega arith)

without_mod : (u f : ℕ) → digit f (suc u) ≡ 15 → (f - 15 * 16 ^ suc u) % 16 ≡ f % 16
without_mod u f e = rw (pow-suc 16 u) (rest_mod f (16 ^ u) (digit-least u (f / 16) (sym (next_digit f u) ∙ e)))

without_first : (f : ℕ) → digit f 0 ≡ 15 → ((f - 15 * 16 ^ 0) / 16 ≡ f / 16) × ((f - 15 * 16 ^ 0) % 16 ≡ 0)
without_first f e = let h = lowest f ∙ e in (omega (arith, h), omega (arith, h))

pub digit_without : (v u f : ℕ) → digit f u ≡ 15 → digit f v ≡ 0 → digit (f - 15 * 16 ^ u) v ≡ 0
digit_without zero zero f e g = absurd (omega (arith, e, g))
digit_without zero (suc u) f e g = sym (lowest (f - 15 * 16 ^ suc u)) ∙ without_mod u f e ∙ lowest f ∙ g
digit_without (suc v) zero f e g = next_digit (f - 15 * 16 ^ 0) v ∙ ap (λ y. digit y v) (without_first f e).0 ∙ sym (next_digit f v) ∙ g
digit_without (suc v) (suc u) f e g = next_digit (f - 15 * 16 ^ suc u) v ∙ ap (λ y. digit y v) (without_div u f) ∙ digit_without v u (f / 16) (sym (next_digit f u) ∙ e) (sym (next_digit f v) ∙ g)

and_none : (a b : ℕ) → b ≡ 0 → bit_and a b ≡ 0
and_none a b e = omega (arith, and_le_r a b, e)

none_there : (ws : List ℕ) (u : ℕ) → length ws ≡ 0 → get_or ws u 0 ≡ 0
none_there ws u e = get_or-eq_default ws 0 (omega (arith, e))

-- What the free digits add is what digit u adds and what the others do.
pub weigh_without : (ws : List ℕ) (u w f : ℕ) → digit f u ≡ 15 → weigh ws (bit_and w f) ≡ digit w u * get_or ws u 0 + weigh ws (bit_and w (f - 15 * 16 ^ u))
unfolding weigh
weigh_without [] u w f e = rw (none_there [] u refl) (omega arith)
weigh_without (x ∷ ws) zero w f e = let r = f - 15 * 16 ^ 0 in let h = without_first f e in
    let a : bit_and w f % 16 ≡ digit w 0 = and_mod w f ∙ rw (lowest f ∙ e) (and_all (w % 16) (omega arith)) ∙ lowest w in
    let b : bit_and w r % 16 ≡ 0 = and_mod w r ∙ and_none (w % 16) (r % 16) h.1 in
    let d : bit_and w r / 16 ≡ bit_and w f / 16 = and_div w r ∙ ap (λ y. bit_and (w / 16) y) h.0 ∙ sym (and_div w f) in
    rw (a, b, d) (omega arith)
weigh_without (x ∷ ws) (suc u) w f e = let r = f - 15 * 16 ^ suc u in let i = weigh_without ws u (w / 16) (f / 16) (sym (next_digit f u) ∙ e) in
    let a : bit_and w r % 16 ≡ bit_and w f % 16 = and_mod w r ∙ ap (λ y. bit_and (w % 16) y) (without_mod u f e) ∙ sym (and_mod w f) in
    let d : bit_and w r / 16 ≡ bit_and (w / 16) (f / 16 - 15 * 16 ^ u) = and_div w r ∙ ap (λ y. bit_and (w / 16) y) (without_div u f) in
    rw (a, d, and_div w f, next_digit w u) (omega (arith, i))

-- A digit of a word, taken out of it.
less_mod : (s d : ℕ) → d ≤ s / 16 → (s - d * 16) % 16 ≡ s % 16
less_mod s d h = let e : s - d * 16 ≡ (s / 16 - d) * 16 + s % 16 = omega (arith, h) in rw e (omega arith)

less_div : (s d : ℕ) → d ≤ s / 16 → (s - d * 16) / 16 ≡ s / 16 - d
less_div s d h = omega (arith, h)

digit_under : (u x : ℕ) → digit x u * 16 ^ u ≤ x
digit_under zero x = let h = lowest x in omega (arith, h)
digit_under (suc u) x = let h = digit_under u (x / 16) in rw (next_digit x u, pow-suc 16 u) (omega (arith, h))

pub weigh_less : (ws : List ℕ) (u s : ℕ) → weigh ws s ≡ digit s u * get_or ws u 0 + weigh ws (s - digit s u * 16 ^ u)
unfolding weigh
weigh_less [] u s = rw (none_there [] u refl) (omega arith)
weigh_less (w ∷ ws) zero s = let r = s - digit s 0 * 16 ^ 0 in let h = lowest s in let a : r % 16 ≡ 0 = omega (arith, h) in let b : r / 16 ≡ s / 16 = omega (arith, h) in
    rw (a, b) (omega (arith, ap (λ y. y * w) h))
weigh_less (w ∷ ws) (suc u) s = let r = s - digit s (suc u) * 16 ^ suc u in let d = digit (s / 16) u * 16 ^ u in
    let e : digit s (suc u) * 16 ^ suc u ≡ d * 16 = rw (next_digit s u, pow-suc 16 u) (omega arith) in let h : d ≤ s / 16 = digit_under u (s / 16) in
    let a : r % 16 ≡ s % 16 = rw e (less_mod s d h) in let b : r / 16 ≡ s / 16 - d = rw e (less_div s d h) in let i = weigh_less ws u (s / 16) in
    rw (a, b, next_digit s u) (omega (arith, i))
