-- Sets of edges by the digits of a part of the index: what the slots say, that the meet of two sets misses no edge, and how they are filled.
-- Assumes nothing.
use Rattle.std.proofs.Common.{◌≡◌, ℕ, zero, suc, ◌+◌, ◌-◌, ◌*◌, ◌/◌, ◌%◌, ◌^◌, ◌<◌, ◌≤◌, min, Bool, true, false, cond, ◌&&◌, ◌||◌, eqb, List, ◌++◌, length, take, drop, get_or, set, sym, refl, ap, ◌∙◌, ⊎_elim, mod-lt, div-lt_iff_lt-mul, mul-le-mul, mul-le-mul_left, div-mul-le_self, arith, add_assoc, length-append, length-drop, length-take-le, get_or-set_other, get_or-set_same, eq-eqb}
use mathlib.Core.Bool.{and-true, and_assoc, or-true}
use native.Mathlib.Nat.{div-add-mod}
use lib.Arith.{digits_div}
use native.Mathlib.Decide.{dec_lt}
use Rattle.std.proofs.lemmas.List.{get_or_append_left, get_or-append-add, get_or-drop, get_or-take}
use lib.Bits.{bit_and, bit_or}
use Rattle.planning.proofs.Test.{by_test}
use Rattle.planning.specs.Sets.{set_from}
use Rattle.packed_task.specs.Sets.{lowest_need, need_at, SlotsOf}
use Rattle.tables.specs.Edges.{edge_mask, edge_value, digit, PlainMask}
use Rattle.tables.specs.Incoming.{Row, Tests, Parted, Incoming, edge_need, digit_meet, digits_meet, digit_suits, part_suits, PartFilled, EdgeRow}
use Rattle.tables.specs.declared.worklist.edge.Edge.{Edge}
use Rattle.planning.proofs.Sets.{set_same, set_meet, set_join}
use Rattle.tables.proofs.Bitwise.{further, deeper, and_digit, and_all}

-- What is needed of digit v, and digit v of a meet.
need_digit : (need value v : ℕ) → need_at need value v ≡ cond (eqb (digit need v) 0) 16 (digit value v)
unfolding need_at lowest_need
need_digit need value zero = let a : need / 16 ^ 0 ≡ need = omega arith in let b : value / 16 ^ 0 ≡ value = omega arith in rw (a, b)
need_digit need value (suc v) = need_digit (need / 16) (value / 16) v ∙ rw (deeper need v, deeper value v)

all_of_digit : (a b u : ℕ) → digit b u ≡ 15 → digit (bit_and a b) u ≡ digit a u
all_of_digit a b u e = and_digit a b u ∙ rw e (and_all (digit a u) (omega arith))

-- A word that agrees within a part with one that passes a test suits it at each digit of the part.
module _ (mask value part s w : ℕ) (plain : PlainMask mask) (inside : PlainMask part) (passes : bit_and w mask ≡ value) (same : bit_and s part ≡ bit_and w part) where
  need_none : (v : ℕ) → digit mask v ≡ 0 → need_at mask value v ≡ 16
  need_none v e = need_digit mask value v ∙ rw (eq-eqb (digit mask v) 0 e)

  need_some : (v : ℕ) → digit part v ≡ 15 → digit mask v ≡ 15 → need_at mask value v ≡ digit s v
  need_some v e f = need_digit mask value v ∙ rw f (ap (λ y. digit y v) (sym passes) ∙ all_of_digit w mask v f ∙ sym (all_of_digit w part v e) ∙ ap (λ y. digit y v) (sym same) ∙ all_of_digit s part v e)

  digit_suits_lem : (v : ℕ) → digit_suits (need_at mask value) part s v ≡ true
  unfolding digit_suits
  digit_suits_lem v = ⊎_elim
      (λ e. rw (eq-eqb (digit part v) 0 e))
      (λ e. ⊎_elim
      (λ f. rw (need_none v f, or-true (eqb (digit s v) 16), or-true (eqb (digit part v) 0)))
      (λ f. rw (eq-eqb (digit s v) (need_at mask value v) (sym (need_some v e f)), or-true (eqb (digit part v) 0))) (plain v)) (inside v)

  part_suits_lem : (v n : ℕ) → part_suits (need_at mask value) part s v n ≡ true
  unfolding part_suits
  part_suits_lem v zero = refl
  part_suits_lem v (suc n) = rw (digit_suits_lem v, part_suits_lem (v + 1) n)

edge_suits : (es : List Edge) (first q part s w : ℕ) → PlainMask (edge_mask es (first + q)) → PlainMask part → bit_and w (edge_mask es (first + q)) ≡ edge_value es (first + q) → bit_and s part ≡ bit_and w part →
    part_suits (edge_need es first q) part s 0 16 ≡ true
unfolding edge_need
edge_suits es first q part s w a b p e = part_suits_lem (edge_mask es (first + q)) (edge_value es (first + q)) part s w a b p e 0 16

pub edge_needs : (es : List Edge) (first q v : ℕ) → edge_need es first q v ≡ need_at (edge_mask es (first + q)) (edge_value es (first + q)) v
unfolding edge_need
edge_needs es first q v = refl

-- The slots met are the set of the edges that the word suits.
module _ {needs : ℕ → ℕ → ℕ} {count : ℕ} {slots : List ℕ} (s : SlotsOf needs count 16 slots) (part word : ℕ) where
  meet_digit : (g : ℕ → Bool) (v : ℕ) → v < 16 → digit_meet slots part word (set_from g 0 count) v ≡ set_from (λ q. g q && digit_suits (needs q) part word v) 0 count
  unfolding digit_meet digit_suits
  meet_digit g v l = by_test (eqb (digit part v) 0)
      (λ e. rw e (set_same g _ 0 count (λ j h k. sym (and-true (g j)))))
      (λ e. rw (e, s.slot_at v (digit word v) l (omega arith), s.slot_at v 16 l (omega arith), set_join (λ q. eqb (digit word v) (needs q v)) (λ q. eqb 16 (needs q v)) 0 count)
      (set_meet g (λ q. eqb (digit word v) (needs q v) || eqb 16 (needs q v)) 0 count))

  meet_digits_lem : (n v : ℕ) (g : ℕ → Bool) → v + n ≤ 16 → digits_meet slots part word (set_from g 0 count) v n ≡ set_from (λ q. g q && part_suits (needs q) part word v n) 0 count
  unfolding digits_meet part_suits
  meet_digits_lem zero v g l = set_same g _ 0 count (λ j h k. sym (and-true (g j)))
  meet_digits_lem (suc n) v g l = rw (meet_digit g v (omega arith)) (meet_digits_lem n (v + 1) (λ q. g q && digit_suits (needs q) part word v) (omega arith)
      ∙ set_same _ _ 0 count (λ j h k. and_assoc (g j) (digit_suits (needs j) part word v) (part_suits (needs j) part word (v + 1) n)))

  met : (all : ℕ) → all ≡ set_from (λ q. true) 0 count → digits_meet slots part word all 0 16 ≡ set_from (λ q. part_suits (needs q) part word 0 16) 0 count
  met all e = rw e (meet_digits_lem 16 0 (λ q. true) (omega arith))

-- The digits below v are met.
pub record Meeting (slots : List ℕ) (part word all set rest w v : ℕ) : Type 0 where
  pub rest_is : rest ≡ part / 16 ^ v
  pub word_is : w ≡ word / 16 ^ v
  pub within : v ≤ 16
  pub goes : digits_meet slots part word all 0 16 ≡ digits_meet slots part word set v (16 - v)

pub meeting_starts : {slots : List ℕ} {part word all : ℕ} → Meeting slots part word all all part word 0
meeting_starts = record { rest_is = omega arith; word_is = omega arith; within = omega arith; goes = refl }

module _ {slots : List ℕ} {part word all set rest w v : ℕ} (m : Meeting slots part word all set rest w v) where
  pub meeting_goes_on : (new : ℕ) → v < 16 → new ≡ digit_meet slots part word set v → Meeting slots part word all new (rest / 16) (w / 16) (v + 1)
  unfolding digits_meet
  meeting_goes_on new l e = record {
    rest_is = ap (λ y. y / 16) m.rest_is ∙ further part v;
    word_is = ap (λ y. y / 16) m.word_is ∙ further word v;
    within = omega arith;
    goes = m.goes ∙ (let k : 16 - v ≡ suc (16 - (v + 1)) = omega arith in rw (k, e));
  }

  pub digit_out : rest % 16 ≡ 0 → set ≡ digit_meet slots part word set v
  unfolding digit_meet
  digit_out e = let r = m.rest_is in rw (eq-eqb (digit part v) 0 (rw r at e))

  pub digit_in : (rest % 16 ≡ 0 → ⊥) → bit_and set (bit_or (get_or slots (17 * v + w % 16) 0) (get_or slots (17 * v + 16) 0)) ≡ digit_meet slots part word set v
  unfolding digit_meet
  digit_in n = let r = m.rest_is in let x = m.word_is in rw (borrow.Author.Tests.ne_eqb (digit part v) 0 (λ e. n (rw r e)), ← x)

  pub meeting_ends : 16 ≤ v → set ≡ digits_meet slots part word all 0 16
  unfolding digits_meet
  meeting_ends l = let k : 16 - v ≡ 0 = omega arith in sym (rw k at m.goes)

-- Where nothing is left of a part, nothing more is met.
meet_none : (slots : List ℕ) (part word set n v : ℕ) → part / 16 ^ v ≡ 0 → digits_meet slots part word set v n ≡ set
unfolding digits_meet digit_meet
meet_none slots part word set zero v e = refl
meet_none slots part word set (suc n) v e = rw (eq-eqb (digit part v) 0 (ap (λ y. y % 16) e)) (meet_none slots part word set n (v + 1) (sym (further part v) ∙ ap (λ y. y / 16) e))

pub meeting_early : {slots : List ℕ} {part word all set rest w v : ℕ} → Meeting slots part word all set rest w v → rest ≡ 0 → set ≡ digits_meet slots part word all 0 16
meeting_early {slots} {part} {word} {all} {set} {rest} {w} {v} m e = sym (m.goes ∙ meet_none slots part word set (16 - v) v (sym m.rest_is ∙ e))

-- A part, filled below h.
pub record PartTo (states slots : List ℕ) (all part step : ℕ) (sets : List ℕ) (h : ℕ) : Type 0 where
  pub here : (j : ℕ) → j < h → get_or sets j 0 ≡ digits_meet slots part (get_or states (j * step) 0) all 0 16

pub part_to_start : {states slots sets : List ℕ} {all part step : ℕ} → PartTo states slots all part step sets 0
part_to_start = record { here = λ j l. absurd (omega arith) }

pub part_to_next : {states slots sets : List ℕ} {all part step h : ℕ} (r : ℕ) → h < length sets → r ≡ digits_meet slots part (get_or states (h * step) 0) all 0 16 →
    PartTo states slots all part step sets h → PartTo states slots all part step (set sets h r) (h + 1)
part_to_next {states} {slots} {sets} {all} {part} {step} {h} r l e v = record { here = λ j d. either j d (dec_lt j h) }
  where
    either : (j : ℕ) → j < h + 1 → Dec (j < h) → get_or (set sets h r) j 0 ≡ digits_meet slots part (get_or states (j * step) 0) all 0 16
    either j d (yes y) = get_or-set_other sets h j r 0 (λ z. omega arith) ∙ v.here j y
    either j d (no y) = let z : j ≡ h = omega arith in rw z (get_or-set_same sets h r 0 l ∙ e)

pub part_to_end : {states slots sets : List ℕ} {all part step h : ℕ} → length sets ≤ h → PartTo states slots all part step sets h → PartFilled states slots all part step sets
part_to_end l v = record { here = λ j b. v.here j (omega arith) }

-- Two parts make a row.
pub row_made : {states : List ℕ} {es : List Edge} {slots lows highs : List ℕ} {all low high lower upper first count : ℕ} → SlotsOf (edge_need es first) count 16 slots → all ≡ set_from (λ q. true) 0 count → length lows ≡ lower → length highs ≡ upper →
    PartFilled states slots all low 1 lows → PartFilled states slots all high lower highs → EdgeRow states es (lows ++ highs) low high lower upper first count
row_made {states} {es} {slots} {lows} {highs} {all} {low} {high} {lower} {upper} {first} {count} s e m n f g = record {
  lows = λ l b. let z : l * 1 ≡ l = omega arith in get_or_append_left lows highs 0 l (omega (arith, m)) ∙ f.here l (omega (arith, m)) ∙ rw z (met s low (get_or states l 0) all e);
  highs = λ h b. rw m at (get_or-append-add lows highs h 0) ∙ g.here h (omega (arith, n)) ∙ met s high (get_or states (h * lower) 0) all e;
}

-- The rows below c.
pub record RowsTo (states : List ℕ) (es : List Edge) (old new : List ℕ) (k low high lower upper c : ℕ) : Type 0 where
  pub within : c ≤ 8
  pub long : length new ≡ length old
  pub rows : (d : ℕ) → d < c → 64 * d < k → EdgeRow states es (drop ((lower + upper) * d) new) low high lower upper (64 * d) (min 64 (k - 64 * d))

row_same : {states : List ℕ} {es : List Edge} {row new : List ℕ} {low high lower upper first count : ℕ} → EdgeRow states es row low high lower upper first count → ((i : ℕ) → i < lower + upper → get_or new i 0 ≡ get_or row i 0) →
    EdgeRow states es new low high lower upper first count
row_same {lower = lower} r g = record { lows = λ l b. g l (omega arith) ∙ r.lows l b; highs = λ h b. g (lower + h) (omega arith) ∙ r.highs h b }

-- A row that was lent comes back with other words.
abbrev row_put : List ℕ → List ℕ → ℕ → ℕ → List ℕ
row_put old row base width = take base old ++ (row ++ drop width (drop base old))

module _ (old row : List ℕ) (base width : ℕ) (long : length row ≡ width) (room : base + width ≤ length old) where
  front : length (take base old) ≡ base
  front = length-take-le base old (omega arith)

  row_long : length (row_put old row base width) ≡ length old
  row_long = simp (length-append, length-drop, front, long) (omega (arith, room))

  row_before : (i : ℕ) → i < base → get_or (row_put old row base width) i 0 ≡ get_or old i 0
  row_before i b = get_or_append_left (take base old) (row ++ drop width (drop base old)) 0 i (omega (arith, front)) ∙ get_or-take base old i 0 b

  row_within : (i : ℕ) → i < width → get_or (row_put old row base width) (base + i) 0 ≡ get_or row i 0
  row_within i b = rw front at (get_or-append-add (take base old) (row ++ drop width (drop base old)) i 0) ∙ get_or_append_left row (drop width (drop base old)) 0 i (omega (arith, long))

pub rows_to_next : {states : List ℕ} {es : List Edge} {old u row : List ℕ} {k low high lower upper c count : ℕ} → c < 8 → count ≡ min 64 (k - 64 * c) → RowsTo states es old u k low high lower upper c →
    EdgeRow states es row low high lower upper (64 * c) count → length row ≡ lower + upper → (lower + upper) * c + (lower + upper) ≤ length u →
    RowsTo states es old (row_put u row ((lower + upper) * c) (lower + upper)) k low high lower upper (c + 1)
rows_to_next {states} {es} {old} {u} {row} {k} {low} {high} {lower} {upper} {c} {count} few e v r long room = record {
  within = omega arith;
  long = row_long u row base width long room ∙ v.long;
  rows = λ d o y. either d o y (dec_lt d c);
}
  where
    width : ℕ
    width = lower + upper

    base : ℕ
    base = width * c

    either : (d : ℕ) → d < c + 1 → 64 * d < k → Dec (d < c) → EdgeRow states es (drop (width * d) (row_put u row base width)) low high lower upper (64 * d) (min 64 (k - 64 * d))
    either d o y (yes x) = row_same (v.rows d x y) (λ i b. get_or-drop (width * d) (row_put u row base width) i 0 ∙ row_before u row base width long room (width * d + i) (let f : d + 1 ≤ c = omega arith in let g = mul-le-mul_left width f in omega (arith, g)) ∙ sym (get_or-drop (width * d) u i 0))
    either d o y (no x) = let f : d ≡ c = omega arith in rw (f, ← e) (row_same r (λ i b. get_or-drop base (row_put u row base width) i 0 ∙ row_within u row base width long room i b))

-- The meet of the two sets of a row misses no edge.
both_true : (a b : Bool) → (a && b) ≡ false → a ≡ true → b ≡ true → ⊥
both_true a b e f g = let z : true ≡ false = sym (rw (f, g)) ∙ e in Rattle.task_record.proofs.Tests.false_true (sym z)

row_of : {states : List ℕ} {es : List Edge} (sets : List ℕ) {n k low high lower upper c : ℕ} (base : ℕ) → Tests es k → Parted states n lower low high → n ≡ upper * lower → EdgeRow states es (drop base sets) low high lower upper (64 * c) (min 64 (k - 64 * c)) →
    (j : ℕ) → j < n → 64 * c < k → Row es (get_or states j 0) k c (bit_and (get_or sets (base + j % lower) 0) (get_or sets (base + lower + j / lower) 0))
row_of {states} {es} sets {n} {k} {low} {high} {lower} {upper} {c} base t p e r j l b = record {
  chosen = λ q. lows q && highs q;
  count = min 64 (k - 64 * c);
  few = omega arith;
  inside = omega arith;
  whole = λ q d g. omega arith;
  is = rw (sym (get_or-drop base sets (j % lower) 0), add_assoc base lower (j / lower), sym (get_or-drop base sets (lower + j / lower) 0), r.lows (j % lower) (mod-lt j p.lower_some), r.highs (j / lower) ((div-lt_iff_lt-mul p.lower_some).1 (omega (arith, l, e)))) (set_meet lows highs 0 (min 64 (k - 64 * c)));
  missed = λ q d f g. let o : 64 * c + q < k = omega arith in both_true (lows q) (highs q) f
      (edge_suits es (64 * c) q low (get_or states (j % lower) 0) (get_or states j 0) (t.plain (64 * c + q) o) p.low_plain g (p.below j l))
      (edge_suits es (64 * c) q high (get_or states (j / lower * lower) 0) (get_or states j 0) (t.plain (64 * c + q) o) p.high_plain g (p.above j l));
}
  where
    lows : ℕ → Bool
    lows q = part_suits (edge_need es (64 * c) q) low (get_or states (j % lower) 0) 0 16

    highs : ℕ → Bool
    highs q = part_suits (edge_need es (64 * c) q) high (get_or states (j / lower * lower) 0) 0 16

pub incoming_of : {states : List ℕ} {es : List Edge} {old sets : List ℕ} {n k low high lower upper c : ℕ} → Tests es k → Parted states n lower low high → n ≡ upper * lower →
    (1 ≤ length old → (d : ℕ) → 64 * d < k → (lower + upper) * d + lower + upper ≤ length old) → RowsTo states es old sets k low high lower upper c → k ≤ 64 * c → Incoming states es n k lower upper sets
incoming_of {sets = sets} {lower = lower} {upper = upper} t p e room v l = record {
  lower_some = p.lower_some;
  upper_whole = omega (arith, e);
  room = λ a d b. rw v.long (room (rw (← v.long) a) d b);
  row = λ a j d b y. row_of sets ((lower + upper) * d) t p e (v.rows d (omega arith) y) j b y;
}

-- Edges that were tested one by one.
pub row_tested : (es : List Edge) (word k c count r : ℕ) → count ≡ min 64 (k - 64 * c) → 64 * c < k → r ≡ set_from (λ q. eqb (bit_and word (edge_mask es (64 * c + q))) (edge_value es (64 * c + q))) 0 count → Row es word k c r
row_tested es word k c count r e l h = record {
  chosen = λ q. eqb (bit_and word (edge_mask es (64 * c + q))) (edge_value es (64 * c + q));
  count = count;
  few = omega arith;
  inside = omega arith;
  whole = λ q d g. omega arith;
  is = h;
  missed = λ q d f g. Rattle.task_record.proofs.Tests.false_true (sym f ∙ eq-eqb (bit_and word (edge_mask es (64 * c + q))) (edge_value es (64 * c + q)) g);
}

-- There are sets.
pub filled : (sets : List ℕ) → eqb (length sets) 0 ≡ false → length sets ≡ 0 → ⊥
filled sets e z = Rattle.task_record.proofs.Tests.false_true (sym e ∙ eq-eqb (length sets) 0 z)

-- The upper part of an index, and where its sets are.
pub upper_is : (j lower h : ℕ) → h * lower ≤ j → j - h * lower < lower → h ≡ j / lower
upper_is j lower h a b = let e : j ≡ h * lower + (j - h * lower) = omega arith in sym (ap (λ y. y / lower) e ∙ digits_div h b)

pub upper_fits : (j lower inverse : ℕ) → j < 65536 → lower ≤ 64 → inverse < 4294967296 → (j * inverse ≤ 281474976710656) × (j * inverse / 1048576 * lower ≤ 17179869184)
upper_fits j lower inverse a b d = let e : j ≤ 65536 = omega arith in let f : inverse ≤ 4294967296 = omega arith in let g = mul-le-mul e f in
    let h : j * inverse / 1048576 ≤ 268435456 = omega (arith, g) in let i = mul-le-mul h b in (omega (arith, g), omega (arith, i))

module _ {states : List ℕ} {es : List Edge} {sets : List ℕ} {n k lower upper : ℕ} (t : Tests es k) (v : Incoming states es n k lower upper sets) (j h c : ℕ) (some : length sets ≡ 0 → ⊥) (l : j < n) (e : h ≡ j / lower) (b : 64 * c < k) where
  rest_there : j - h * lower ≡ j % lower
  rest_there = rw e (let d = div-add-mod j lower in omega (arith, d))

  pub row_offsets : (h * lower ≤ j) × (j - h * lower < lower) × (h < upper) × (c ≤ 8) × ((lower + upper) * c + lower + upper ≤ length sets)
  row_offsets = (rw e (div-mul-le_self j lower), rw rest_there (mod-lt j v.lower_some), rw e ((div-lt_iff_lt-mul v.lower_some).1 (omega (arith, l, v.upper_whole))), omega (arith, t.few), v.room (omega arith) c b)

  pub row_there : Row es (get_or states j 0) k c (bit_and (get_or sets ((lower + upper) * c + (j - h * lower)) 0) (get_or sets ((lower + upper) * c + lower + h) 0))
  row_there = rw (rest_there, e) (v.row (omega arith) j c l b)
