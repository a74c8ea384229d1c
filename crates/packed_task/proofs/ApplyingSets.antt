-- The sets that are looked up by bytes meet in the set of the actions that apply. Assumes nothing.
use Rattle.std.proofs.Common.{◌≡◌, ℕ, zero, suc, ◌+◌, ◌*◌, ◌/◌, ◌%◌, ◌^◌, ◌<◌, ◌≤◌, Bool, true, false, cond, ◌&&◌, ◌||◌, T, eqb, ltb, leb, List, [], ◌∷◌, length, sym, refl, ap, ◌∙◌, ap₂, mod-eq_of_lt, pow-suc, arith, leb→le, eq-eqb, eqb-true}
use mathlib.Core.Bool.{and-true, and_assoc, or-true, or-false}
use lib.Bits.{bit_and, and_block, and_mask, and_zero_r}
use Rattle.planning.specs.Sets.{set_from}
use Rattle.planning.specs.Task.{Task, action_at}
use Rattle.planning.specs.Pattern.{mask}
use Rattle.planning.proofs.Sets.{set_same, set_meet}
use Rattle.planning.proofs.Test.{bool_iff, by_test, T_true, and_r, not_equal}
use Rattle.packed_task.specs.Packed.{pack_by, naming, setting, pre_mask, pre_value, need_met, compiled}
use Rattle.packed_task.specs.Packable.{all_cells_fit, Packable}
use Rattle.packed_task.specs.Within.{permitted}
use Rattle.packed_task.specs.Sets.{lowest_need, need_at, action_need, suits, byte_suits, SetsOf, met_bytes, meet_from}
use Rattle.packed_task.proofs.Packing.{digits_equal, beyond_naming}
use Rattle.packed_task.proofs.Compiled.{pre_mask_is, pre_value_is}
use Rattle.packed_task.proofs.Simulating.{packable_action}
use Rattle.packed_task.proofs.SetWords.{set_whole}

-- A precondition as two words whose digits are whole: 15 where it names a variable, and 0 in both words where it does not.
pub data Whole : ℕ → ℕ → ℕ → Type 0 where
  none : Whole 0 0 0
  free : {n need value : ℕ} → Whole n need value → Whole (suc n) (need * 16 + 0) (value * 16 + 0)
  named : {n need value : ℕ} (x : ℕ) → x < 16 → Whole n need value → Whole (suc n) (need * 16 + 15) (value * 16 + x)

-- The digits of s from v on, n of them, are what is needed.
unfoldable pub suit_all : ℕ → ℕ → ℕ → ℕ → ℕ → Bool
suit_all need value v zero s = true
suit_all need value v (suc n) s = (eqb (s % 16) (need_at need value v) || eqb 16 (need_at need value v)) && suit_all need value (v + 1) n (s / 16)

suit_later : (need value v n s : ℕ) → suit_all need value (v + 1) n s ≡ suit_all (need / 16) (value / 16) v n s
unfolding suit_all need_at
suit_later need value v zero s = refl
suit_later need value v (suc n) s = let e : v + 1 ≡ suc v = omega arith in
    ap₂ (λ a b. a && b) (ap (λ u. eqb (s % 16) (need_at need value u) || eqb 16 (need_at need value u)) e) (suit_later need value (v + 1) n (s / 16))

eqb_swap : (a b : ℕ) → eqb a b ≡ eqb b a
eqb_swap a b = bool_iff (eqb a b) (eqb b a) (λ t. rw (eq-eqb b a (sym (eqb-true a b (T_true (eqb a b) t)))) tt) (λ t. rw (eq-eqb a b (sym (eqb-true b a (T_true (eqb b a) t)))) tt)

-- A mask test is a test of each digit.
pub whole_suits : {n need value : ℕ} → Whole n need value → (s : ℕ) → eqb (bit_and s need) value ≡ suit_all need value 0 n s
unfolding suit_all need_at lowest_need
whole_suits none s = rw (and_zero_r s)
whole_suits (free {n} {need} {value} w) s =
    let e : s / 16 * 16 + s % 16 ≡ s = omega arith in let a : (need * 16 + 0) % 16 ≡ 0 = omega arith in
    let d : (need * 16 + 0) / 16 ≡ need = omega arith in let f : (value * 16 + 0) / 16 ≡ value = omega arith in
    let l = rw e at (and_block 4 (s / 16) need (s % 16) 0 (omega arith) (omega arith)) in
    rw (l, and_zero_r (s % 16), digits_equal (bit_and (s / 16) need) value 0 0 (omega arith) (omega arith), a, or-true, suit_later (need * 16 + 0) (value * 16 + 0) 0 n (s / 16), d, f) (whole_suits w (s / 16))
whole_suits (named {n} {need} {value} x h w) s =
    let e : s / 16 * 16 + s % 16 ≡ s = omega arith in let a : (need * 16 + 15) % 16 ≡ 15 = omega arith in let b : (value * 16 + x) % 16 ≡ x = omega arith in
    let d : (need * 16 + 15) / 16 ≡ need = omega arith in let f : (value * 16 + x) / 16 ≡ value = omega arith in
    let l = rw e at (and_block 4 (s / 16) need (s % 16) 15 (omega arith) (omega arith)) in
    let q : s % 16 < 16 = omega arith in let k : bit_and (s % 16) 15 ≡ s % 16 = and_mask (s % 16) 4 ∙ mod-eq_of_lt q in
    rw (l, k, digits_equal (bit_and (s / 16) need) value (s % 16) x (omega arith) h, a, b, not_equal 16 x (λ q. absurd (omega arith)), or-false (eqb (s % 16) x), suit_later (need * 16 + 15) (value * 16 + x) 0 n (s / 16), d, f)
    (ap₂ (λ u v. u && v) (eqb_swap x (s % 16)) (whole_suits w (s / 16)))

-- The upper digit of a word's lowest byte is the word's second digit.
pub upper_digit : (s : ℕ) → s % 256 / 16 ≡ s / 16 % 16
upper_digit s = let h : s / 16 ≡ 16 * (s / 256) + s % 256 / 16 = omega arith in let g : s % 256 / 16 < 16 = omega arith in omega arith

-- The sets of a state's bytes meet in the set of the actions that its digits suit.
module _ (task : List ℕ) (mask actions bytes : ℕ) (sets : List ℕ) (few : actions ≤ 64) (f : SetsOf task mask actions bytes sets) where
  abbrev pub digits_suit : ℕ → ℕ → ℕ → ℕ → Bool
  digits_suit v n s m = suit_all (bit_and (pre_mask task m) mask) (bit_and (pre_value task m) mask) v n s

  byte_more : (b n s m : ℕ) → (byte_suits task mask b (s % 256) m && digits_suit (2 * (b + 1)) (2 * n) (s / 256) m) ≡ digits_suit (2 * b) (2 * suc n) s m
  unfolding byte_suits suits action_need suit_all
  byte_more b n s m = let k : 2 * suc n ≡ suc (suc (2 * n)) = omega arith in let i : 2 * (b + 1) ≡ 2 * b + 1 + 1 = omega arith in
      let d : s % 256 % 16 ≡ s % 16 = omega arith in let e = upper_digit s in let q : s / 256 ≡ s / 16 / 16 = omega arith in
      rw (k, i, d, e, q) (and_assoc (suits task mask (2 * b) (s % 16) m) (suits task mask (2 * b + 1) (s / 16 % 16) m) (digits_suit (2 * b + 1 + 1) (2 * n) (s / 16 / 16) m))

  meet_suits : (g : ℕ → Bool) (b n s : ℕ) → b + n ≤ bytes → bit_and (set_from g 0 actions) (meet_from sets b n s) ≡ set_from (λ m. g m && digits_suit (2 * b) (2 * n) s m) 0 actions
  unfolding meet_from suit_all
  meet_suits g b zero s l = set_whole g 0 actions few ∙ set_same g (λ m. g m && true) 0 actions (λ j h k. sym (and-true (g j)))
  meet_suits g b (suc n) s l = rw (f.set_at b (s % 256) (omega arith) (omega arith), meet_suits (byte_suits task mask b (s % 256)) (b + 1) n (s / 256) (omega arith))
      (set_meet g _ 0 actions ∙ set_same _ _ 0 actions (λ j h k. ap (λ t. g j && t) (byte_more b n s j)))

  pub sets_meet : (n s : ℕ) → n < bytes → meet_from sets 0 (suc n) s ≡ set_from (digits_suit 0 (2 * suc n) s) 0 actions
  unfolding meet_from
  sets_meet n s l = rw (f.set_at 0 (s % 256) (omega arith) (omega arith)) (meet_suits (byte_suits task mask 0 (s % 256)) 1 n (s / 256) (omega arith) ∙ set_same _ _ 0 actions (λ j h k. byte_more 0 n s j))

-- Within the mask every precondition of a compiled task is whole, over n digits.
pub record Parted (task : List ℕ) (mask actions n : ℕ) : Type 0 where
  pub whole : (m : ℕ) → m < actions → Whole n (bit_and (pre_mask task m) mask) (bit_and (pre_value task m) mask)

met_bytes_some : (bytes : ℕ) → (n : ℕ) × (met_bytes bytes ≡ suc n)
unfolding met_bytes
met_bytes_some bytes = by_test (leb bytes 2) (λ e. rw e (1, refl)) (λ e. rw e (by_test (leb bytes 4) (λ g. rw g (3, refl)) (λ g. rw g (7, refl))))

-- The actions that apply within the mask.
pub applying-permitted : (task : List ℕ) (mask actions bytes : ℕ) (sets : List ℕ) → actions ≤ 64 → SetsOf task mask actions (met_bytes bytes) sets → Parted task mask actions (2 * met_bytes bytes) →
    (s : ℕ) → meet_from sets 0 (met_bytes bytes) s ≡ set_from (λ m. permitted task mask m s) 0 actions
unfolding permitted
applying-permitted task mask actions bytes sets few f w s = let k = met_bytes_some bytes in
    rw k.1 (sets_meet task mask actions (met_bytes bytes) sets few f k.0 s (omega (arith, k.1)) ∙ set_same _ _ 0 actions (λ j h l. rw k.1 at (sym (whole_suits (w.whole j (omega arith)) s))))

-- Nothing is needed of digits that both words lack.
whole_zero : (n : ℕ) → Whole n 0 0
whole_zero zero = none
whole_zero (suc n) = free (whole_zero n)

-- The words of cells that fit are whole.
whole_cell : (t : Bool) (n need value y : ℕ) → Whole n need value → Whole (suc n) (need * 16 + cond t 0 15) (value * 16 + cond t 0 (y % 16))
whole_cell true n need value y w = free w
whole_cell false n need value y w = named (y % 16) (omega arith) w

whole_cells : (zs c : List ℕ) (n : ℕ) → T (all_cells_fit zs c) → length zs ≤ n → Whole n (pack_by naming c) (pack_by setting c)
unfolding pack_by all_cells_fit
whole_cells zs [] n f l = whole_zero n
whole_cells [] (y ∷ c) n f l = let k = beyond_naming (y ∷ c) f in rw (k.0, k.1) (whole_zero n)
whole_cells (z ∷ zs) (y ∷ c) zero f l = absurd (omega arith)
whole_cells (z ∷ zs) (y ∷ c) (suc n) f l = whole_cell (eqb y 255) n (pack_by naming c) (pack_by setting c) y (whole_cells zs c n (and_r (eqb y 255 || ltb y z) _ f) (omega arith))

-- Whole words have no more digits than they are whole over.
whole_below : {n need value : ℕ} → Whole n need value → (need < 16 ^ n) × (value < 16 ^ n)
whole_below none = (omega arith, omega arith)
whole_below (free {n} w) = let h = whole_below w in let p = pow-suc 16 n in (omega (arith, h.0), omega (arith, h.1))
whole_below (named {n} x l w) = let h = whole_below w in let p = pow-suc 16 n in (omega (arith, h.0), omega (arith, h.1))

all_kept : (x : ℕ) → x < 18446744073709551616 → bit_and x 18446744073709551615 ≡ x
all_kept x l = and_mask x 64 ∙ mod-eq_of_lt l

-- The compiled task: whole with every digit.
module _ (t : Task) (k : Packable t) (n : ℕ) (wide : length t.sizes ≤ n) where
  all_digits : (c : List ℕ) → T (all_cells_fit t.sizes c) → Whole n (bit_and (pack_by naming c) 18446744073709551615) (bit_and (pack_by setting c) 18446744073709551615)
  all_digits c f = let h = whole_below (whole_cells t.sizes c 16 f k.variables_few) in rw (all_kept (pack_by naming c) h.0, all_kept (pack_by setting c) h.1) (whole_cells t.sizes c n f wide)

  pub compiled_parted : Parted (compiled t) 18446744073709551615 (length t.actions) n
  compiled_parted = record { whole = λ m l. rw (pre_mask_is t k.actions_few m l, pre_value_is t k.actions_few m l) (all_digits (action_at t m).precondition (packable_action t k m l).precondition_fits) }

  -- Every digit counts: the actions that are enabled.
  pub applying_enabled : (bytes : ℕ) (sets : List ℕ) → n ≡ 2 * met_bytes bytes → SetsOf (compiled t) 18446744073709551615 (length t.actions) (met_bytes bytes) sets →
      (s : ℕ) → meet_from sets 0 (met_bytes bytes) s ≡ set_from (λ m. need_met (compiled t) m s) 0 (length t.actions)
  unfolding need_met permitted
  applying_enabled bytes sets e f s = applying-permitted (compiled t) 18446744073709551615 (length t.actions) bytes sets k.actions_few f (rw e at compiled_parted) s
      ∙ set_same _ _ 0 (length t.actions) (λ m h b. let l : m < length t.actions = omega arith in let w = whole_below (whole_cells t.sizes (action_at t m).precondition 16 (packable_action t k m l).precondition_fits k.variables_few) in
      rw (pre_mask_is t k.actions_few m l, pre_value_is t k.actions_few m l, all_kept (pack_by naming (action_at t m).precondition) w.0, all_kept (pack_by setting (action_at t m).precondition) w.1))

-- The bytes of the variables are among those that are looked at.
pub met_bytes-wide : (bytes variables : ℕ) → variables ≤ 2 * bytes → variables ≤ 16 → variables ≤ 2 * met_bytes bytes
unfolding met_bytes
met_bytes-wide bytes variables h l = by_test (leb bytes 2) (λ e. let b = leb→le bytes 2 (rw e tt) in rw e (omega arith))
    (λ e. rw e (by_test (leb bytes 4) (λ g. let b = leb→le bytes 4 (rw g tt) in rw g (omega arith)) (λ g. rw g (omega arith))))
