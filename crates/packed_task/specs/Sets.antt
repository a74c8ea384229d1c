-- The sets of the actions that the bytes of a packed state permit. A byte holds the digits of two variables, so a state's actions are the meet of one
-- set for each byte. Assumes nothing.
use Rattle.std.specs.Prelude.{◌≡◌, ℕ, zero, suc, ◌+◌, ◌-◌, ◌*◌, ◌/◌, ◌%◌, ◌<◌, ◌≤◌, Bool, cond, MatchOption, ◌≢◌, ◌&&◌, ◌||◌, List, length, ◌==◌, bit_and, bit_or, nat_eq, nat_le, nat_lt, slice_index}
use Rattle.std.specs.declared.option.Option.{Option}
use Rattle.std.specs.Int.Count.{count_trailing_zeros}
use Rattle.planning.specs.Finite.{tabulate}
use Rattle.planning.specs.Sets.{set_from}
use Rattle.packed_task.specs.Packed.{pre_mask, pre_value}

-- The lowest number is taken out of a set; of an empty one there is none.
abbrev pub TakesLowest : ℕ → Option ℕ → ℕ → Type 0
TakesLowest set next left = MatchOption next (set ≡ 0) (λ m. (set ≢ 0) × (m ≡ count_trailing_zeros 64 set) × (left ≡ bit_and set (set - 1)))

-- What is needed of the lowest digit: its value, and 16 for none. Then the same of digit v.
unfoldable pub lowest_need : ℕ → ℕ → ℕ
lowest_need need value = cond (need % 16 == 0) 16 (value % 16)

unfoldable pub need_at : ℕ → ℕ → ℕ → ℕ
need_at need value zero = lowest_need need value
need_at need value (suc v) = need_at (need / 16) (value / 16) v

-- What action m needs of digit v within the mask.
unfoldable pub action_need : List ℕ → ℕ → ℕ → ℕ → ℕ
action_need task mask m v = need_at (bit_and (pre_mask task m) mask) (bit_and (pre_value task m) mask) v

-- Value x of digit v is what action m needs, if it needs any; the two digits of byte b are.
unfoldable pub suits : List ℕ → ℕ → ℕ → ℕ → ℕ → Bool
suits task mask v x m = x == action_need task mask m v || 16 == action_need task mask m v

unfoldable pub byte_suits : List ℕ → ℕ → ℕ → ℕ → ℕ → Bool
byte_suits task mask b x m = suits task mask (2 * b) (x % 16) m && suits task mask (2 * b + 1) (x / 16) m

-- For each byte and each of its 256 values the actions that need nothing else of its digits.
pub record SetsOf (task : List ℕ) (mask actions bytes : ℕ) (sets : List ℕ) : Type 0 where
  pub set_at : (b x : ℕ) → b < bytes → x < 256 → slice_index sets (256 * b + x) ≡ set_from (byte_suits task mask b x) 0 actions

-- How many bytes are looked at: 2, 4 or 8.
unfoldable pub met_bytes : ℕ → ℕ
met_bytes bytes = cond (nat_le bytes 2) 2 (cond (nat_le bytes 4) 4 8)

-- 2,048 words with the sets of the bytes that are looked at; the words after them are as they were. More than 64 actions have no sets.
unfoldable pub word_of_sets : List ℕ → ℕ → ℕ → ℕ → List ℕ → ℕ → ℕ
word_of_sets task mask actions bytes old i = cond (nat_lt i (256 * bytes)) (set_from (byte_suits task mask (i / 256) (i % 256)) 0 actions) (slice_index old i)

unfoldable pub sets_filled : List ℕ → ℕ → ℕ → ℕ → List ℕ → List ℕ
sets_filled task mask actions bytes old = cond (nat_le actions 64) (tabulate (word_of_sets task mask actions (met_bytes bytes) old) 0 2048) old

-- The sets of n bytes of a state from number b on, met.
unfoldable pub meet_from : List ℕ → ℕ → ℕ → ℕ → ℕ
meet_from sets b zero s = 18446744073709551615
meet_from sets b (suc n) s = bit_and (slice_index sets (256 * b + s % 256)) (meet_from sets (b + 1) n (s / 256))

-- 272 slots, 17 for each of sixteen digits, after one action was entered: in slot k of each digit of which it needs k. The slots after so many digits
-- are as they were.
unfoldable pub slot_after : List ℕ → ℕ → ℕ → ℕ → ℕ → ℕ → ℕ
slot_after old need value bit digits i = cond (nat_lt i (17 * digits) && i % 17 == need_at need value (i / 17)) (bit_or (slice_index old i) bit) (slice_index old i)

unfoldable pub entered : List ℕ → ℕ → ℕ → ℕ → ℕ → List ℕ
entered old need value bit digits = tabulate (slot_after old need value bit digits) 0 272

-- The numbers below n were entered, of which number m needs `needs m v` of digit v.
pub record SlotsOf (needs : ℕ → ℕ → ℕ) (n digits : ℕ) (slots : List ℕ) : Type 0 where
  pub slot_at : (v k : ℕ) → v < digits → k < 17 → slice_index slots (17 * v + k) ≡ set_from (λ m. nat_eq k (needs m v)) 0 n

-- The set for value x of byte b from the slots of its digits, and sixteen such sets in their places: those of row q, 16 rows for each byte.
unfoldable pub slot_meet : List ℕ → ℕ → ℕ → ℕ → ℕ
slot_meet slots b h l = bit_and (bit_or (slice_index slots (34 * b + l)) (slice_index slots (34 * b + 16))) (bit_or (slice_index slots (34 * b + 17 + h)) (slice_index slots (34 * b + 33)))

pub record RowFilled (slots old new : List ℕ) (q : ℕ) : Type 0 where
  pub row : (l : ℕ) → l < 16 → slice_index new (16 * q + l) ≡ slot_meet slots (q / 16) (q % 16) l
  pub kept : (i : ℕ) → i < 16 * q → slice_index new i ≡ slice_index old i
  pub rest : (i : ℕ) → 16 * q + 16 ≤ i → slice_index new i ≡ slice_index old i

-- The rows of so many bytes are filled, and nothing after them is changed.
pub record RowsFilled (slots old new : List ℕ) (bytes : ℕ) : Type 0 where
  pub long : length new ≡ 2048
  pub rows : (b x : ℕ) → b < bytes → x < 256 → slice_index new (256 * b + x) ≡ slot_meet slots b (x / 16) (x % 16)
  pub rest : (i : ℕ) → 256 * bytes ≤ i → slice_index new i ≡ slice_index old i
