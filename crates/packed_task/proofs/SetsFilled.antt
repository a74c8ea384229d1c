-- Filling the sets of the actions that the bytes of a state permit: actions are entered by what they need of each digit, and each set is
-- the meet of what two digits permit. Assumes nothing.
use Rattle.std.proofs.Common.{◌≡◌, ℕ, suc, ◌+◌, ◌*◌, ◌/◌, ◌%◌, ◌^◌, ◌<◌, ◌≤◌, false, cond, eqb, ltb, leb, List, length, get_or, set, sym, refl, ap, ◌∙◌, ap₂, add-zero, zero-add, arith, le→leb, leb→le, length-set, get_or-set_other, get_or-set_same, ext_get_or, ltb-false, ltb-true, le-ltb, lt-ltb, eq-eqb, ne_eqb}
use native.Mathlib.Nat.{pow-le-pow_right}
use native.Mathlib.Decide.{ℕ_discrete, dec_lt}
use lib.Bits.{bit_and, bit_or}
use Rattle.planning.specs.Finite.{tabulate}
use Rattle.planning.specs.Sets.{set_from}
use Rattle.planning.proofs.Finite.{length-tabulate, get_or_tabulate}
use Rattle.planning.proofs.Sets.{set_meet, set_join}
use Rattle.planning.proofs.Test.{T_true, not_T_false, by_test}
use Rattle.packed_task.specs.Packed.{pre_mask, pre_value}
use Rattle.packed_task.specs.Sets.{lowest_need, need_at, action_need, suits, byte_suits, SetsOf, met_bytes, word_of_sets, sets_filled, meet_from, slot_after, entered, SlotsOf, slot_meet, RowFilled, RowsFilled}
use Rattle.packed_task.proofs.SetWords.{set_more}

-- An action is being entered: digits below v are done, and the rest of the words tells what is needed of those from v on.
pub record Entering (old new : List ℕ) (need value bit v n x : ℕ) : Type 0 where
  pub long : length new ≡ 272
  pub done : (u k : ℕ) → u < v → k < 17 → get_or new (17 * u + k) 0 ≡ cond (eqb k (need_at need value u)) (bit_or (get_or old (17 * u + k) 0) bit) (get_or old (17 * u + k) 0)
  pub later : (u k : ℕ) → v ≤ u → k < 17 → get_or new (17 * u + k) 0 ≡ get_or old (17 * u + k) 0
  pub rest : (u : ℕ) → need_at n x u ≡ need_at need value (v + u)

pub entering_starts : (old : List ℕ) (need value bit : ℕ) → length old ≡ 272 → Entering old old need value bit 0 need value
entering_starts old need value bit l = record { long = l; done = λ u k h. absurd (omega arith); later = λ u k h g. refl; rest = λ u. rw (zero-add u) }

module _ {old new : List ℕ} {need value bit v n x : ℕ} (e : Entering old new need value bit v n x) (few : v < 16) where
  need_here : lowest_need n x ≡ need_at need value v
  unfolding need_at
  need_here = rw (add-zero v) at (e.rest 0)

  rest_after : (u : ℕ) → need_at (n / 16) (x / 16) u ≡ need_at need value (v + 1 + u)
  unfolding need_at
  rest_after u = let q : v + suc u ≡ v + 1 + u = omega arith in rw q at (e.rest (suc u))

  module _ (a : ℕ) (at : a ≡ lowest_need n x) (small : a < 17) (y : ℕ) (joined : y ≡ bit_or (get_or new (17 * v + a) 0) bit) where
    slot_hit : (k : ℕ) → Dec (k ≡ a) → k < 17 → get_or (set new (17 * v + a) y) (17 * v + k) 0 ≡ cond (eqb k (need_at need value v)) (bit_or (get_or old (17 * v + k) 0) bit) (get_or old (17 * v + k) 0)
    slot_hit k (yes q) h = rw (q, eq-eqb a (need_at need value v) (at ∙ need_here)) (get_or-set_same new (17 * v + a) y 0 (omega (arith, e.long)) ∙ joined ∙ ap (λ z. bit_or z bit) (e.later v a (omega arith) small))
    slot_hit k (no q) h = rw (ne_eqb k (need_at need value v) (λ z. q (z ∙ sym (at ∙ need_here)))) (get_or-set_other new (17 * v + a) (17 * v + k) y 0 (λ z. q (omega arith)) ∙ e.later v k (omega arith) h)

    done-after : (u k : ℕ) → Dec (u ≡ v) → u < v + 1 → k < 17 → get_or (set new (17 * v + a) y) (17 * u + k) 0 ≡ cond (eqb k (need_at need value u)) (bit_or (get_or old (17 * u + k) 0) bit) (get_or old (17 * u + k) 0)
    done-after u k (yes q) h g = rw q (slot_hit k (ℕ_discrete k a) g)
    done-after u k (no q) h g = get_or-set_other new (17 * v + a) (17 * u + k) y 0 (λ z. q (omega arith)) ∙ e.done u k (omega arith) g

    pub entering_goes_on : Entering old (set new (17 * v + a) y) need value bit (v + 1) (n / 16) (x / 16)
    entering_goes_on = record {
      long = length-set new (17 * v + a) y ∙ e.long;
      done = λ u k. done-after u k (ℕ_discrete u v);
      later = λ u k h g. get_or-set_other new (17 * v + a) (17 * u + k) y 0 (λ z. absurd (omega arith)) ∙ e.later u k (omega arith) g;
      rest = rest_after;
    }

pub entering_ends : {old new : List ℕ} {need value bit v n x : ℕ} (digits : ℕ) → Entering old new need value bit v n x → v ≡ digits → new ≡ entered old need value bit digits
unfolding entered slot_after
entering_ends {old} {new} {need} {value} {bit} {v} digits e l = ext_get_or 0 new _ (e.long ∙ sym (length-tabulate (slot_after old need value bit digits) 0 272))
    (λ i b. slot i (dec_lt i (17 * digits)) ∙ sym (get_or_tabulate (slot_after old need value bit digits) 0 272 i 0 (omega (arith, b, e.long)) ∙ ap (slot_after old need value bit digits) (zero-add i)))
  where
    slot : (i : ℕ) → Dec (i < 17 * digits) → get_or new i 0 ≡ slot_after old need value bit digits i
    slot i (yes b) = let q : 17 * (i / 17) + i % 17 ≡ i = omega arith in let h : i / 17 < v = omega arith in let k : i % 17 < 17 = omega arith in rw (lt-ltb i (17 * digits) b) (rw q at (e.done (i / 17) (i % 17) h k))
    slot i (no b) = let q : 17 * (i / 17) + i % 17 ≡ i = omega arith in let h : v ≤ i / 17 = omega arith in let k : i % 17 < 17 = omega arith in rw (le-ltb i (17 * digits) (omega arith)) (rw q at (e.later (i / 17) (i % 17) h k))

-- A slot after an action was entered.
entered_at : (old : List ℕ) (need value bit digits v k : ℕ) → digits ≤ 16 → v < digits → k < 17
    → get_or (entered old need value bit digits) (17 * v + k) 0 ≡ cond (eqb k (need_at need value v)) (bit_or (get_or old (17 * v + k) 0) bit) (get_or old (17 * v + k) 0)
unfolding entered slot_after
entered_at old need value bit digits v k few h l =
    let q : (17 * v + k) / 17 ≡ v = omega arith in let r : (17 * v + k) % 17 ≡ k = omega arith in let b : 17 * v + k < 17 * digits = omega arith in
    get_or_tabulate (slot_after old need value bit digits) 0 272 (17 * v + k) 0 (omega arith) ∙ rw (zero-add, lt-ltb (17 * v + k) (17 * digits) b, q, r)

-- How many bytes are looked at.
pub met_bytes_two : (bytes : ℕ) → bytes ≤ 2 → 2 ≡ met_bytes bytes
unfolding met_bytes
met_bytes_two bytes h = rw (T_true (leb bytes 2) (le→leb bytes 2 h))

pub met_bytes_four : (bytes : ℕ) → 2 < bytes → bytes ≤ 4 → 4 ≡ met_bytes bytes
unfolding met_bytes
met_bytes_four bytes k h = rw (not_T_false (leb bytes 2) (λ t. let l = leb→le bytes 2 t in omega arith), T_true (leb bytes 4) (le→leb bytes 4 h))

pub met_bytes_eight : (bytes : ℕ) → 4 < bytes → 8 ≡ met_bytes bytes
unfolding met_bytes
met_bytes_eight bytes h = rw (not_T_false (leb bytes 2) (λ t. let l = leb→le bytes 2 t in omega arith), not_T_false (leb bytes 4) (λ t. let l = leb→le bytes 4 t in omega arith))

met_bytes_most : (bytes : ℕ) → met_bytes bytes ≤ 8
unfolding met_bytes
met_bytes_most bytes = by_test (leb bytes 2) (λ e. rw e (omega arith)) (λ e. by_test (leb bytes 4) (λ f. rw (e, f) (omega arith)) (λ f. rw (e, f) (omega arith)))

-- Numbers below m are entered.
pub record Slotting (needs : ℕ → ℕ → ℕ) (digits : ℕ) (slots : List ℕ) (m : ℕ) : Type 0 where
  pub slot_at : (v k : ℕ) → v < digits → k < 17 → get_or slots (17 * v + k) 0 ≡ set_from (λ j. eqb k (needs j v)) 0 m

module _ (needs : ℕ → ℕ → ℕ) (digits : ℕ) where
  pub slotting_starts : (slots : List ℕ) → ((i : ℕ) → get_or slots i 0 ≡ 0) → Slotting needs digits slots 0
  unfolding set_from
  slotting_starts slots z = record { slot_at = λ v k h g. z (17 * v + k) }

  pub slotting_next : {slots new : List ℕ} {m : ℕ} (few : m < 64) → Slotting needs digits slots m
      → (need value : ℕ) (of : (v : ℕ) → needs m v ≡ need_at need value v) → digits ≤ 16 → new ≡ entered slots need value (1 * 2 ^ m % 18446744073709551616) digits → Slotting needs digits new (m + 1)
  slotting_next {slots} {new} {m} few s need value of most g = let l : m ≤ 63 = omega arith in let p = pow-le-pow_right {n = 2} (omega arith) l in let one : 1 * 2 ^ m % 18446744073709551616 ≡ 2 ^ m = omega arith in record {
    slot_at = λ v k h i. ap (λ x. get_or x (17 * v + k) 0) (rw one at g) ∙ entered_at slots need value (2 ^ m) digits v k most h i ∙ rw (s.slot_at v k h i, ← of v) (sym (set_more (λ j. eqb k (needs j v)) m));
  }

pub slotted : {needs : ℕ → ℕ → ℕ} {slots : List ℕ} {digits m : ℕ} (n : ℕ) → Slotting needs digits slots m → m ≤ n → n ≤ m → SlotsOf needs n digits slots
slotted {m = m} n s l h = let e : m ≡ n = omega arith in record { slot_at = rw e at s.slot_at }

-- What action m needs is in two words.
pub action_needs : (task : List ℕ) (mask m v : ℕ) → action_need task mask m v ≡ need_at (bit_and (pre_mask task m) mask) (bit_and (pre_value task m) mask) v
unfolding action_need
action_needs task mask m v = refl

-- Row q is being filled, as far as l; rows below q are filled.
pub record FillingRow (slots old new : List ℕ) (q l : ℕ) : Type 0 where
  pub long : length new ≡ 2048
  pub row : (k : ℕ) → k < l → get_or new (16 * q + k) 0 ≡ slot_meet slots (q / 16) (q % 16) k
  pub kept : (i : ℕ) → i < 16 * q → get_or new i 0 ≡ get_or old i 0
  pub rest : (i : ℕ) → 16 * q + 16 ≤ i → get_or new i 0 ≡ get_or old i 0

pub row_starts : (slots old : List ℕ) (q : ℕ) → length old ≡ 2048 → FillingRow slots old old q 0
row_starts slots old q h = record { long = h; row = λ k l. absurd (omega arith); kept = λ i l. refl; rest = λ i l. refl }

module _ {slots old new : List ℕ} {q l : ℕ} (f : FillingRow slots old new q l) (x : ℕ) where
  row_after : x ≡ slot_meet slots (q / 16) (q % 16) l → 16 * q + l < 2048 → (k : ℕ) → Dec (k ≡ l) → k < l + 1 → get_or (set new (16 * q + l) x) (16 * q + k) 0 ≡ slot_meet slots (q / 16) (q % 16) k
  row_after e b k (yes i) h = rw i (get_or-set_same new (16 * q + l) x 0 (omega (arith, f.long)) ∙ e)
  row_after e b k (no i) h = get_or-set_other new (16 * q + l) (16 * q + k) x 0 (λ z. i (omega arith)) ∙ f.row k (omega arith)

  pub row_goes_on : x ≡ slot_meet slots (q / 16) (q % 16) l → 16 * q + l < 2048 → l < 16 → FillingRow slots old (set new (16 * q + l) x) q (l + 1)
  row_goes_on e b small = record {
    long = length-set new (16 * q + l) x ∙ f.long;
    row = λ k. row_after e b k (ℕ_discrete k l);
    kept = λ i h. get_or-set_other new (16 * q + l) i x 0 (λ z. absurd (omega arith)) ∙ f.kept i h;
    rest = λ i h. get_or-set_other new (16 * q + l) i x 0 (λ z. absurd (omega arith)) ∙ f.rest i h;
  }

  pub row_ends : 16 ≤ l → RowFilled slots old new q
  row_ends h = record { row = λ k i. f.row k (omega arith); kept = f.kept; rest = f.rest }

-- Rows below q are filled, and the words after them are as they were.
pub record FillingRows (slots old sets : List ℕ) (q : ℕ) : Type 0 where
  pub rows : (p l : ℕ) → p < q → l < 16 → get_or sets (16 * p + l) 0 ≡ slot_meet slots (p / 16) (p % 16) l
  pub rest : (i : ℕ) → 16 * q ≤ i → get_or sets i 0 ≡ get_or old i 0

pub rows_start : (slots sets : List ℕ) → FillingRows slots sets sets 0
rows_start slots sets = record { rows = λ p l h. absurd (omega arith); rest = λ i l. refl }

module _ {slots old sets : List ℕ} {q : ℕ} (f : FillingRows slots old sets q) where
  rows-after : {new : List ℕ} → RowFilled slots sets new q → (p l : ℕ) → Dec (p ≡ q) → p < q + 1 → l < 16 → get_or new (16 * p + l) 0 ≡ slot_meet slots (p / 16) (p % 16) l
  rows-after g p l (yes e) h i = rw e (g.row l i)
  rows-after g p l (no n) h i = let k : p < q = omega arith in g.kept (16 * p + l) (omega arith) ∙ f.rows p l k i

  pub rows-go_on : {new : List ℕ} → RowFilled slots sets new q → FillingRows slots old new (q + 1)
  rows-go_on g = record { rows = λ p l. rows-after g p l (ℕ_discrete p q); rest = λ i h. g.rest i (omega arith) ∙ f.rest i (omega arith) }

  row_of_byte : (bytes b x : ℕ) → 16 * bytes ≤ q → b < bytes → x < 256 → get_or sets (256 * b + x) 0 ≡ slot_meet slots b (x / 16) (x % 16)
  row_of_byte bytes b x l h i = let e : 16 * (16 * b + x / 16) + x % 16 ≡ 256 * b + x = omega arith in let d : (16 * b + x / 16) / 16 ≡ b = omega arith in
      let m : (16 * b + x / 16) % 16 ≡ x / 16 = omega arith in rw (e, d, m) at (f.rows (16 * b + x / 16) (x % 16) (omega arith) (omega arith))

  pub rows_end : (bytes : ℕ) → q ≤ 16 * bytes → 16 * bytes ≤ q → length sets ≡ 2048 → RowsFilled slots old sets bytes
  rows_end bytes l h n = record { long = n; rows = λ b x. row_of_byte bytes b x h; rest = λ i k. f.rest i (omega arith) }

-- The rows are the sets.
pub sets_filled_lem : (task slots sets : List ℕ) (mask actions bytes : ℕ) → SlotsOf (action_need task mask) actions (2 * bytes) slots →
    ((b x : ℕ) → b < bytes → x < 256 → get_or sets (256 * b + x) 0 ≡ slot_meet slots b (x / 16) (x % 16)) → SetsOf task mask actions bytes sets
unfolding slot_meet suits byte_suits
sets_filled_lem task slots sets mask actions bytes s f = record {
  set_at = λ b x h i.
      let j : 34 * b + x % 16 ≡ 17 * (2 * b) + x % 16 = omega arith in let k : 34 * b + 16 ≡ 17 * (2 * b) + 16 = omega arith in
      let m : 34 * b + 17 + x / 16 ≡ 17 * (2 * b + 1) + x / 16 = omega arith in let n : 34 * b + 33 ≡ 17 * (2 * b + 1) + 16 = omega arith in
      f b x h i ∙ rw (j, k, m, n, s.slot_at (2 * b) (x % 16) (omega arith) (omega arith), s.slot_at (2 * b) 16 (omega arith) (omega arith), s.slot_at (2 * b + 1) (x / 16) (omega arith) (omega arith), s.slot_at (2 * b + 1) 16 (omega arith) (omega arith))
      (ap₂ bit_and (set_join (λ m. eqb (x % 16) (action_need task mask m (2 * b))) (λ m. eqb 16 (action_need task mask m (2 * b))) 0 actions)
      (set_join (λ m. eqb (x / 16) (action_need task mask m (2 * b + 1))) (λ m. eqb 16 (action_need task mask m (2 * b + 1))) 0 actions)
      ∙ set_meet (suits task mask (2 * b) (x % 16)) (suits task mask (2 * b + 1) (x / 16)) 0 actions);
}

-- The words of a byte's values, whatever was there before.
word_of_byte : (task old : List ℕ) (mask actions bytes b x : ℕ) → b < bytes → x < 256 → word_of_sets task mask actions bytes old (256 * b + x) ≡ set_from (byte_suits task mask b x) 0 actions
unfolding word_of_sets
word_of_byte task old mask actions bytes b x h i = let d : (256 * b + x) / 256 ≡ b = omega arith in let m : (256 * b + x) % 256 ≡ x = omega arith in
    rw (lt-ltb (256 * b + x) (256 * bytes) (omega arith), d, m)

word_beyond : (task old : List ℕ) (mask actions bytes i : ℕ) → ltb i (256 * bytes) ≡ false → word_of_sets task mask actions bytes old i ≡ get_or old i 0
unfolding word_of_sets
word_beyond task old mask actions bytes i t = rw t

-- What the code fills is what the definition says.
pub filled_as_defined : (task slots old sets : List ℕ) (mask actions bytes : ℕ) → actions ≤ 64 → SlotsOf (action_need task mask) actions (2 * met_bytes bytes) slots → RowsFilled slots old sets (met_bytes bytes) →
    sets ≡ sets_filled task mask actions bytes old
unfolding sets_filled
filled_as_defined task slots old sets mask actions bytes few s f = rw (T_true (leb actions 64) (le→leb actions 64 few))
    (ext_get_or 0 sets (tabulate (word_of_sets task mask actions (met_bytes bytes) old) 0 2048) (f.long ∙ sym (length-tabulate (word_of_sets task mask actions (met_bytes bytes) old) 0 2048))
    (λ i l. word i ∙ sym (get_or_tabulate (word_of_sets task mask actions (met_bytes bytes) old) 0 2048 i 0 (omega (arith, l, f.long)) ∙ rw (zero-add i))))
  where
    o : SetsOf task mask actions (met_bytes bytes) sets
    o = sets_filled_lem task slots sets mask actions (met_bytes bytes) s f.rows

    word : (i : ℕ) → get_or sets i 0 ≡ word_of_sets task mask actions (met_bytes bytes) old i
    word i = by_test (ltb i (256 * met_bytes bytes))
        (λ t. let l = ltb-true i (256 * met_bytes bytes) t in let e : 256 * (i / 256) + i % 256 ≡ i = omega arith in
        rw e at (o.set_at (i / 256) (i % 256) (omega arith) (omega arith) ∙ sym (word_of_byte task old mask actions (met_bytes bytes) (i / 256) (i % 256) (omega arith) (omega arith))))
        (λ t. f.rest i (ltb-false i (256 * met_bytes bytes) t) ∙ sym (word_beyond task old mask actions (met_bytes bytes) i t))

-- The words that are filled are the sets of every byte that is looked at.
pub filled-sets : (task old : List ℕ) (mask actions bytes : ℕ) → actions ≤ 64 → SetsOf task mask actions (met_bytes bytes) (sets_filled task mask actions bytes old)
unfolding sets_filled
filled-sets task old mask actions bytes few = rw (T_true (leb actions 64) (le→leb actions 64 few)) (record {
  set_at = λ b x h i. get_or_tabulate (word_of_sets task mask actions (met_bytes bytes) old) 0 2048 (256 * b + x) 0 (omega (arith, h, i, met_bytes_most bytes))
      ∙ rw (zero-add (256 * b + x)) (word_of_byte task old mask actions (met_bytes bytes) b x h i);
})

-- The sets of two bytes more are met.
pub meet_two : (sets : List ℕ) (b n s t rest r : ℕ) → t ≡ s / 65536 → rest ≡ meet_from sets (b + 2) n t →
    r ≡ bit_and (get_or sets (256 * b + s % 256) 0) (bit_and (get_or sets (256 * (b + 1) + s / 256 % 256) 0) rest) → r ≡ meet_from sets b (suc (suc n)) s
unfolding meet_from
meet_two sets b n s t rest r e q h = let d : s / 256 / 256 ≡ t = omega arith in let k : b + 1 + 1 ≡ b + 2 = omega arith in h ∙ rw (k, d, ← q)

pub meet_none : (sets : List ℕ) (b t : ℕ) → 18446744073709551615 ≡ meet_from sets b 0 t
unfolding meet_from
meet_none sets b t = refl
