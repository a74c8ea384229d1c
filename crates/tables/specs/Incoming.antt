-- Which edges lead into a state: the index is split into a lower and an upper part, for each part and each 64 edges there is one set, and the
-- meet of two is a set that misses no edge. Assumes nothing.
use Rattle.std.specs.Prelude.{◌≡◌, ℕ, zero, suc, ◌+◌, ◌-◌, ◌*◌, ◌/◌, ◌%◌, ◌<◌, ◌≤◌, Bool, true, false, cond, ◌&&◌, ◌||◌, List, [], ◌∷◌, length, take, ◌==◌, ◌≢◌, bit_and, bit_or, slice_index}
use Rattle.planning.specs.Table.{state_count, state_at}
use Rattle.packed_task.specs.Packed.{pack_by, low}
use Rattle.planning.specs.Sets.{set_from}
use Rattle.packed_task.specs.Sets.{need_at}
use Rattle.tables.specs.Edges.{edge_mask, edge_value, digit, PlainMask}
use Rattle.tables.specs.declared.worklist.edge.Edge.{Edge}

-- A set of the edges 64 * c, .., of k, that misses none whose test the word w passes.
pub record Row (es : List Edge) (w k c set : ℕ) : Type 0 where
  pub chosen : ℕ → Bool
  pub count : ℕ
  pub few : count ≤ 64
  pub inside : 64 * c + count ≤ k
  pub whole : (q : ℕ) → q < 64 → 64 * c + q < k → q < count
  pub is : set ≡ set_from chosen 0 count
  pub missed : (q : ℕ) → q < count → chosen q ≡ false → bit_and w (edge_mask es (64 * c + q)) ≢ edge_value es (64 * c + q)

-- The masks of the tests are plain.
pub record Tests (es : List Edge) (k : ℕ) : Type 0 where
  pub few : k ≤ 512
  pub room : k ≤ length es
  pub plain : (e : ℕ) → e < k → PlainMask (edge_mask es e)

-- The pattern without its first v variables.
unfoldable pub upper_part : ℕ → List ℕ → List ℕ
upper_part zero p = p
upper_part (suc v) [] = []
upper_part (suc v) (b ∷ p) = 0 ∷ upper_part v p

-- The digits of a part of the index are those of state j % lower, and of the other part those of state j / lower * lower.
pub record Parted (states : List ℕ) (n lower low high : ℕ) : Type 0 where
  pub lower_some : 1 ≤ lower
  pub lower_few : lower ≤ 64
  pub low_plain : PlainMask low
  pub high_plain : PlainMask high
  pub below : (j : ℕ) → j < n → bit_and (slice_index states (j % lower)) low ≡ bit_and (slice_index states j) low
  pub above : (j : ℕ) → j < n → bit_and (slice_index states (j / lower * lower)) high ≡ bit_and (slice_index states j) high

-- The index is split so for `lower` states of one part and `upper` of the other, and each has its word.
pub record Halved (states : List ℕ) (lower upper low high : ℕ) : Type 0 where
  pub parted : Parted states (upper * lower) lower low high
  pub long : upper * lower ≤ length states
  pub upper_few : upper ≤ 1024

-- How the index of a pattern is split: `lower` states of the variables with the digits `low`, and of the others at most a fifth of all states, and one more.
pub record Split (sizes p : List ℕ) (n mask lower low : ℕ) : Type 0 where
  pub lower_some : 1 ≤ lower
  pub lower_few : lower ≤ 64
  pub inside : low ≤ mask
  pub whole : state_count (take n sizes) p / lower * lower ≡ state_count (take n sizes) p
  pub upper_few : 5 * (state_count (take n sizes) p / lower) ≤ state_count (take n sizes) p + 5
  pub parted : (states : List ℕ) → ((i : ℕ) → i < state_count (take n sizes) p → slice_index states i ≡ pack_by Rattle.packed_task.specs.Packed.low (state_at (take n sizes) p i)) →
      Parted states (state_count (take n sizes) p) lower low (mask - low)

-- What edge `first` + q needs of digit v.
unfoldable pub edge_need : List Edge → ℕ → ℕ → ℕ → ℕ
edge_need es first q v = need_at (edge_mask es (first + q)) (edge_value es (first + q)) v

-- A set met with the slots of digit v of a word, if that digit is in the part; then with those of the digits v, .., n of them.
unfoldable pub digit_meet : List ℕ → ℕ → ℕ → ℕ → ℕ → ℕ
digit_meet slots part word set v = cond (digit part v == 0) set (bit_and set (bit_or (slice_index slots (17 * v + digit word v)) (slice_index slots (17 * v + 16))))

unfoldable pub digits_meet : List ℕ → ℕ → ℕ → ℕ → ℕ → ℕ → ℕ
digits_meet slots part word set v zero = set
digits_meet slots part word set v (suc n) = digits_meet slots part word (digit_meet slots part word set v) (v + 1) n

-- Digit v of a word is what is needed, if it is in the part and something is needed; then the digits v, .., n of them.
unfoldable pub digit_suits : (ℕ → ℕ) → ℕ → ℕ → ℕ → Bool
digit_suits need part word v = digit part v == 0 || (digit word v == need v || 16 == need v)

unfoldable pub part_suits : (ℕ → ℕ) → ℕ → ℕ → ℕ → ℕ → Bool
part_suits need part word v zero = true
part_suits need part word v (suc n) = digit_suits need part word v && part_suits need part word (v + 1) n

-- The sets of a part, for states `step` apart.
pub record PartFilled (states slots : List ℕ) (all part step : ℕ) (sets : List ℕ) : Type 0 where
  pub here : (h : ℕ) → h < length sets → slice_index sets h ≡ digits_meet slots part (slice_index states (h * step)) all 0 16

-- The row of the edges from `first` on, `count` of them: the sets of the lower part, then those of the upper part.
pub record EdgeRow (states : List ℕ) (es : List Edge) (row : List ℕ) (low high lower upper first count : ℕ) : Type 0 where
  pub lows : (l : ℕ) → l < lower → slice_index row l ≡ set_from (λ q. part_suits (edge_need es first q) low (slice_index states l) 0 16) 0 count
  pub highs : (h : ℕ) → h < upper → slice_index row (lower + h) ≡ set_from (λ q. part_suits (edge_need es first q) high (slice_index states (h * lower)) 0 16) 0 count

-- The sets of every state, if there are any: a row for each 64 edges, the sets of the lower part and behind them those of the upper part.
pub record Incoming (states : List ℕ) (es : List Edge) (n k lower upper : ℕ) (sets : List ℕ) : Type 0 where
  pub lower_some : 1 ≤ lower
  pub upper_whole : n ≤ upper * lower
  pub room : 1 ≤ length sets → (c : ℕ) → 64 * c < k → (lower + upper) * c + lower + upper ≤ length sets
  pub row : 1 ≤ length sets → (j c : ℕ) → j < n → 64 * c < k →
      Row es (slice_index states j) k c (bit_and (slice_index sets ((lower + upper) * c + j % lower)) (slice_index sets ((lower + upper) * c + lower + j / lower)))

-- There are no sets, or there is room for every row of so many edges, however the index is split.
pub record SetsRoom (n edges length : ℕ) : Type 0 where
  pub rows : 1 ≤ length → (lower c : ℕ) → 1 ≤ lower → lower ≤ 64 → 5 * (n / lower) ≤ n + 5 → 64 * c < edges → (lower + n / lower) * c + lower + n / lower ≤ length
