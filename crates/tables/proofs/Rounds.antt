-- The edges of a set are gone through one by one, and the sets of a state row by row: no edge into the state is missed. Assumes nothing.
use Rattle.std.proofs.Common.{◌≡◌, ℕ, ◌+◌, ◌-◌, ◌*◌, ◌/◌, ◌^◌, ◌<◌, ◌≤◌, Bool, true, false, List, length, get_or, sym, arith}
use native.Mathlib.Decide.{dec_lt}
use lib.Bits.{bit_and}
use lib.Count.{count_trailing_zeros}
use Rattle.tables.specs.Steps.{Space, permitted_at}
use Rattle.tables.specs.Waiting.{Heard, Leads, Asks}
use Rattle.tables.specs.Queue.{Queue}
use Rattle.tables.specs.Edges.{edge_mask, edge_value, edge_action, Before, StandsFor, EdgesOf}
use Rattle.tables.specs.Incoming.{Row, Incoming}
use Rattle.tables.specs.Visits.{Going, Passed, RowDone, Visited}
use Rattle.tables.specs.declared.worklist.edge.Edge.{Edge}
use Rattle.packed_task.proofs.SetWords.{Left, left_above, Next, next_left, none_left}
use Rattle.tables.proofs.Visiting.{going_none, going_then}

-- The edges of a set from number `first` on, so far.
pub record RowGoing (x : Space) (es : List Edge) (w k j c first rest : ℕ) (t : List ℕ) (marks : List Bool) (a : ℕ) (new : List ℕ) (marks₁ : List Bool) (d : ℕ) : Type 0 where
  pub chosen : ℕ → Bool
  pub count : ℕ
  pub few : count ≤ 64
  pub inside : 64 * c + count ≤ k
  pub whole : (q : ℕ) → q < 64 → 64 * c + q < k → q < count
  pub missed : (q : ℕ) → q < count → chosen q ≡ false → bit_and w (edge_mask es (64 * c + q)) ≡ edge_value es (64 * c + q) → ⊥
  pub from : ℕ
  pub left : Left chosen from count rest
  pub going : Going x j t marks a new marks₁ d
  pub heard : (q i : ℕ) → first ≤ q → q < from → q < count → i < length new → permitted_at x (edge_action es (64 * c + q)) i ≡ true → Leads x (edge_action es (64 * c + q)) i j → Before x es (64 * c + q) i j → Heard x new marks₁ (edge_action es (64 * c + q)) i

pub row_start : {x : Space} {es : List Edge} {w k j c set rest : ℕ} {t : List ℕ} {marks : List Bool} {a : ℕ} (first : ℕ) → Row es w k c set → rest ≡ set / 2 ^ first * 2 ^ first → Queue (length t) marks a →
    RowGoing x es w k j c first rest t marks a t marks a
row_start {set = set} {rest = rest} first r e v = record { chosen = r.chosen; count = r.count; few = r.few; inside = r.inside; whole = r.whole; missed = r.missed; from = first; left = left_above r.chosen first r.count set rest r.is e; going = going_none v; heard = λ q i f l. absurd (omega arith) }

module _ {x : Space} {es : List Edge} {w k j c first rest : ℕ} {t : List ℕ} {marks : List Bool} {u : List ℕ} {b : List Bool} {a l : ℕ} (same : w ≡ get_or x.states j 0) (v : RowGoing x es w k j c first rest t marks a u b l) where
  next_row : (rest ≡ 0 → ⊥) → Next v.chosen v.from v.count rest
  next_row some = next_left v.chosen v.from v.count rest v.few v.left some

  pub row_known : (rest ≡ 0 → ⊥) → (count_trailing_zeros 64 rest < 64) × (64 * c + count_trailing_zeros 64 rest < k)
  row_known some = let g = (next_row some).within in (omega (arith, g, v.few), omega (arith, g, v.inside))

  pub row_next : {new : List ℕ} {d : List Bool} {n : ℕ} → (rest ≡ 0 → ⊥) → Passed x es (64 * c + count_trailing_zeros 64 rest) j u b l new d n → RowGoing x es w k j c first (bit_and rest (rest - 1)) t marks a new d n
  row_next {new} {d} some g = record {
    chosen = v.chosen;
    count = v.count;
    few = v.few;
    inside = v.inside;
    whole = v.whole;
    missed = v.missed;
    from = count_trailing_zeros 64 rest + 1;
    left = (next_row some).left;
    going = going_then v.going g.going;
    heard = λ q₁ i g₁ o y e f r s. either q₁ i g₁ o y e f r s (dec_lt q₁ v.from) (dec_lt q₁ (count_trailing_zeros 64 rest));
  }
    where
      either : (q₁ i : ℕ) → first ≤ q₁ → q₁ < count_trailing_zeros 64 rest + 1 → q₁ < v.count → i < length new → permitted_at x (edge_action es (64 * c + q₁)) i ≡ true → Leads x (edge_action es (64 * c + q₁)) i j → Before x es (64 * c + q₁) i j → Dec (q₁ < v.from) → Dec (q₁ < count_trailing_zeros 64 rest) → Heard x new d (edge_action es (64 * c + q₁)) i
      either q₁ i g₁ o y e f r s (yes z) n = g.going.moved.keeps (edge_action es (64 * c + q₁)) i (v.heard q₁ i g₁ z y (omega (arith, g.going.moved.long)) f r s)
      either q₁ i g₁ o y e f r s (no z) (yes n) = absurd (v.missed q₁ y ((next_row some).first q₁ (omega arith) n) (rw same s.passes))
      either q₁ i g₁ o y e f r s (no z) (no n) = let m : q₁ ≡ count_trailing_zeros 64 rest = omega arith in rw m (g.heard i e (rw m at f) (rw m at r) (rw m at s))

  -- The rest of them, from the next one on.
  pub row_rest : {new : List ℕ} {d : List Bool} {n : ℕ} → (rest ≡ 0 → ⊥) → RowDone x es k j c (count_trailing_zeros 64 rest) u b l new d n → RowDone x es k j c first t marks a new d n
  row_rest {new} {d} some g = record { going = going_then v.going g.going; heard = λ q₁ i g₁ o y e f r s. either q₁ i g₁ o y e f r s (dec_lt q₁ v.from) (dec_lt q₁ (count_trailing_zeros 64 rest)) }
    where
      either : (q₁ i : ℕ) → first ≤ q₁ → q₁ < 64 → 64 * c + q₁ < k → i < length new → permitted_at x (edge_action es (64 * c + q₁)) i ≡ true → Leads x (edge_action es (64 * c + q₁)) i j → Before x es (64 * c + q₁) i j → Dec (q₁ < v.from) → Dec (q₁ < count_trailing_zeros 64 rest) → Heard x new d (edge_action es (64 * c + q₁)) i
      either q₁ i g₁ o y e f r s (yes z) n = g.going.moved.keeps (edge_action es (64 * c + q₁)) i (v.heard q₁ i g₁ z (v.whole q₁ o y) (omega (arith, g.going.moved.long)) f r s)
      either q₁ i g₁ o y e f r s (no z) (yes n) = absurd (v.missed q₁ (v.whole q₁ o y) ((next_row some).first q₁ (omega arith) n) (rw same s.passes))
      either q₁ i g₁ o y e f r s (no z) (no n) = g.heard q₁ i (omega arith) o y e f r s

  pub row_end : rest ≡ 0 → RowDone x es k j c first t marks a u b l
  row_end z = record { going = v.going; heard = λ q i g o y e f r s. either q i g (v.whole q o y) e f r s (dec_lt q v.from) }
    where
      either : (q i : ℕ) → first ≤ q → q < v.count → i < length u → permitted_at x (edge_action es (64 * c + q)) i ≡ true → Leads x (edge_action es (64 * c + q)) i j → Before x es (64 * c + q) i j → Dec (q < v.from) → Heard x u b (edge_action es (64 * c + q)) i
      either q i g y e f r s (yes n) = v.heard q i g n y e f r s
      either q i g y e f r s (no n) = absurd (v.missed q y (none_left v.chosen v.from v.count rest v.left z q (omega arith) y) (rw same s.passes))

-- The rows below c.
pub record RowsGoing (x : Space) (es : List Edge) (k j c : ℕ) (t : List ℕ) (marks : List Bool) (a : ℕ) (new : List ℕ) (marks₁ : List Bool) (d : ℕ) : Type 0 where
  pub going : Going x j t marks a new marks₁ d
  pub heard : (f i : ℕ) → f < 64 * c → f < k → i < length new → permitted_at x (edge_action es f) i ≡ true → Leads x (edge_action es f) i j → Before x es f i j → Heard x new marks₁ (edge_action es f) i

pub rows_start : {x : Space} {es : List Edge} {k j : ℕ} {t : List ℕ} {marks : List Bool} {a : ℕ} → Queue (length t) marks a → RowsGoing x es k j 0 t marks a t marks a
rows_start v = record { going = going_none v; heard = λ f i l. absurd (omega arith) }

module _ {x : Space} {es : List Edge} {k j c : ℕ} {t : List ℕ} {marks : List Bool} {u : List ℕ} {b : List Bool} {a l : ℕ} (v : RowsGoing x es k j c t marks a u b l) where
  pub rows_next : {new : List ℕ} {d : List Bool} {n : ℕ} → RowDone x es k j c 0 u b l new d n → RowsGoing x es k j (c + 1) t marks a new d n
  rows_next {new} {d} g = record { going = going_then v.going g.going; heard = λ f i o y e r s z. either f i o y e r s z (dec_lt f (64 * c)) }
    where
      either : (f i : ℕ) → f < 64 * (c + 1) → f < k → i < length new → permitted_at x (edge_action es f) i ≡ true → Leads x (edge_action es f) i j → Before x es f i j → Dec (f < 64 * c) → Heard x new d (edge_action es f) i
      either f i o y e r s z (yes n) = g.going.moved.keeps (edge_action es f) i (v.heard f i n y (omega (arith, g.going.moved.long)) r s z)
      either f i o y e r s z (no n) = let m : 64 * c + (f - 64 * c) ≡ f = omega arith in rw m at (g.heard (f - 64 * c) i (omega arith) (omega arith) (omega arith) e (rw (sym m) at r) (rw (sym m) at s) (rw (sym m) at z))

  pub rows_end : {sizes : List ℕ} → EdgesOf x sizes (length t) es k → k ≤ 64 * c → Visited x j t marks a u b l
  rows_end {sizes} o y = record { going = v.going; heard = λ m i e f g. from m i e f g (o.covers m g.outcome e.known e.moves g.known) }
    where
      from : (m i : ℕ) → Asks x m i → i < length u → (g : Leads x m i j) → (f : ℕ) × (f < k) × StandsFor x (length t) es f m g.outcome → Heard x u b m i
      from m i e f g d = let q = d.2.action in
          let s = rw g.there at (d.2.back i (omega (arith, v.going.moved.long)) e.enabled) in
          rw q at (v.heard d.0 i (omega (arith, d.1)) d.1 f (rw (sym q) at e.enabled) (rw (sym q) at g) s)

-- The same sets and queue, of as many entries as there were.
pub rows_as : {states : List ℕ} {es : List Edge} {sets : List ℕ} {n l k lower upper : ℕ} → n ≡ l → Incoming states es n k lower upper sets → Incoming states es l k lower upper sets
rows_as e g = rw e at g

pub queue_as : {n l c : ℕ} {marks : List Bool} → n ≡ l → Queue n marks c → Queue l marks c
queue_as e g = rw e at g
