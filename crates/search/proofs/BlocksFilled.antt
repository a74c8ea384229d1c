-- Filling the blocks: a block, the blocks of a pattern, and those of every pattern. Assumes nothing.
use Rattle.std.proofs.Common.{◌≡◌, ℕ, ◌+◌, ◌-◌, ◌*◌, ◌/◌, ◌%◌, ◌<◌, ◌≤◌, ◌⊎◌, List, [], Option, Some, None, length, get_or, set, reverse, sym, ◌∙◌, arith, get_or-set_other, get_or-set_same}
use Rattle.std.proofs.lemmas.List.{length-reverse, get_or-reverse, get_or_past}
use Rattle.std.specs.List.{AllWithin, HoldsAt}
use Rattle.std.specs.Option.{MatchOption, unwrap_or}
use native.Mathlib.Decide.{ℕ_discrete, dec_lt}
use Rattle.search.specs.declared.byte_rows.Blocks.{Blocks}
use Rattle.search.specs.declared.byte_rows.Span.{Span}
use Rattle.search.specs.ByteRows.{BlockAt, SpanAt, PatternPlaced}

-- Sums below x of a block are written.
pub record Blocking (low high : ℕ) (old new : List ℕ) (at x : ℕ) : Type 0 where
  pub long : length new ≡ 4096
  pub sums : (y : ℕ) → y < x → get_or new (at + y) 0 ≡ y % 16 * low + y / 16 * high
  pub kept : (i : ℕ) → (i < at) ⊎ (at + 256 ≤ i) → get_or new i 0 ≡ get_or old i 0

-- The variables before the first that has a weight, if one has, and those after the last.
pub unused_first : (ws : List ℕ) (r : Option ℕ) → length ws ≡ 16 →
    MatchOption r (AllWithin (λ w. w ≡ 0) ws 0 (length ws)) (λ i. (i < length ws) × HoldsAt (λ w. Unit {0}) ws i × AllWithin (λ w. w ≡ 0) ws 0 i) →
    (unwrap_or r 16 ≤ 16) × ((v : ℕ) → v < unwrap_or r 16 → get_or ws v 0 ≡ 0)
unused_first ws None n h = (omega arith, λ v l. h v 0 (omega arith) (omega arith))
unused_first ws (Some i) n h = (omega (arith, h.0), λ v l. h.2 v 0 (omega arith) l)

pub unused_last : (ws : List ℕ) (r : Option ℕ) → length ws ≡ 16 →
    MatchOption r (AllWithin (λ w. w ≡ 0) (reverse ws) 0 (length (reverse ws))) (λ i. (i < length (reverse ws)) × HoldsAt (λ w. Unit {0}) (reverse ws) i × AllWithin (λ w. w ≡ 0) (reverse ws) 0 i) →
    (v : ℕ) → 16 - unwrap_or r 16 ≤ v → get_or ws v 0 ≡ 0
unused_last ws r n h v l = here v l (unused_first (reverse ws) r (length-reverse ws ∙ n) h).1 (dec_lt v 16)
  where
    here : (v : ℕ) → 16 - unwrap_or r 16 ≤ v → ((u : ℕ) → u < unwrap_or r 16 → get_or (reverse ws) u 0 ≡ 0) → Dec (v < 16) → get_or ws v 0 ≡ 0
    here v l g (yes b) = let e : length ws - 1 - (15 - v) ≡ v = omega arith in rw e at (sym (get_or-reverse ws (15 - v) 0 (omega arith))) ∙ g (15 - v) (omega arith)
    here v l g (no b) = get_or_past ws v 0 (omega arith)

-- Blocks below j of a span are written.
pub record Spanning (ws : List ℕ) (first count : ℕ) (old new : List ℕ) (at j : ℕ) : Type 0 where
  pub long : length new ≡ 4096
  pub blocks : (k : ℕ) → k < j → BlockAt (get_or ws (2 * (first + k)) 0) (get_or ws (2 * (first + k) + 1) 0) new (at + 256 * k)
  pub kept : (i : ℕ) → (i < at) ⊎ (at + 256 * count ≤ i) → get_or new i 0 ≡ get_or old i 0

-- Patterns below p have their blocks, all below `at`.
pub record Placing (weights : List (List ℕ)) (blocks : Blocks) (at p : ℕ) : Type 0 where
  pub spans : (q : ℕ) → q < p → (w : Span) → get_or blocks.spans q None ≡ Some w → SpanAt (get_or weights q []) blocks.sums w.first w.count w.at × (w.at + 256 * w.count ≤ at)
  pub room : at ≤ 4096

-- Blocks that are kept stay the blocks of their pattern.
span_stays : {ws old new : List ℕ} {first count at : ℕ} (end : ℕ) → SpanAt ws old first count at → at + 256 * count ≤ end → ((i : ℕ) → i < end → get_or new i 0 ≡ get_or old i 0) →
    SpanAt ws new first count at
span_stays end s l k = record {
  some = s.some;
  within = s.within;
  room = s.room;
  below = s.below;
  above = s.above;
  blocks = λ j h. record { block = λ x i. k _ (omega arith) ∙ (s.blocks j h).block x i };
}

module _ {weights : List (List ℕ)} {new : List ℕ} {at end p : ℕ} {blocks : Blocks} {r : Option Span} (f : Placing weights blocks at p) (g : PatternPlaced (get_or weights p []) blocks.sums new at r end) (l : p < length blocks.spans) where
  spans_after : (q : ℕ) → Dec (q ≡ p) → q < p + 1 → (w : Span) → get_or (set blocks.spans p r) q None ≡ Some w → SpanAt (get_or weights q []) new w.first w.count w.at × (w.at + 256 * w.count ≤ end)
  spans_after q (yes e) h w t = rw e (g.span w (sym (get_or-set_same blocks.spans p r None l) ∙ rw e at t))
  spans_after q (no n) h w t = let z = f.spans q (omega arith) w (sym (get_or-set_other blocks.spans p q r None n) ∙ t) in let m = g.grows in (span_stays at z.0 z.1 g.kept, omega (arith, z.1))

  pub placing_goes_on : Placing weights (record { sums = new; spans = set blocks.spans p r }) end (p + 1)
  placing_goes_on = record { spans = λ q. spans_after q (ℕ_discrete q p); room = g.room }
