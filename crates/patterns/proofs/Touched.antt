-- The patterns that an action touches by a need, gathered variable by variable: a variable to which some outcome gives a value that counts brings in the patterns that it is in.
-- Assumes nothing.
use mathlib.Core.Path.{◌≡◌, refl, sym, ap, ap₂, ◌∙◌}
use mathlib.Core.Bool.{Bool, true, false, not, ◌&&◌, ◌||◌, cond}
use mathlib.Core.List.{List}
use Prim.Native.Nat.{ℕ, zero, suc, ◌+◌, ◌-◌, ◌≤◌, ◌<◌}
use native.Mathlib.Nat.{sub-zero}
use native.Mathlib.Omega.{arith}
use lib.Bits.{bit_or}
use lib.Dec.{eqb}
use lib.ListN.{length, get_or}
use Rattle.std.proofs.Common.{eq-eqb}
use borrow.Author.Tests.{eqb-true, eqb-false, ne_eqb}
use native.Mathlib.Decide.{ℕ_discrete, dec_lt}
use Rattle.planning.specs.Finite.{some_of, tabulate}
use Rattle.planning.specs.Pattern.{counted, affects}
use Rattle.planning.proofs.Test.{by_test}
use Rattle.task_record.specs.Layout.{at_pattern, at_outcome}
use Rattle.task_record.specs.Numbers.{pattern_count, outcome_count}
use Rattle.task_record.specs.TaskOf.{cells_at, action_of}
use Rattle.task_record.specs.Scan.{all_below}
use Rattle.task_record.proofs.Scanning.{all_at, all_none}
use Rattle.task_record.proofs.Tests.{same_test, both_left, both_right, false_true}
use Rattle.task_record.proofs.Sixteens.{any_default}
use Rattle.task_record.proofs.Cellwise.{spares, affects_cells}
use Rattle.task_record.specs.Cells.{spares_cell}
use Rattle.planning.specs.Sets.{set_from}
use Rattle.planning.proofs.Sets.{set_same, set_join, set_none}
use Rattle.patterns.specs.Sets.{touched_set, member_set}
use Rattle.patterns.proofs.Gathering.{set-named}
use Rattle.patterns.proofs.Runs.{some_none_left, some_step}

-- By a need: the assignments of an outcome that count, the outcomes' cells of a variable, and whether the action touches pattern p.
abbrev pub remaining : List ℕ → List ℕ → ℕ → ℕ → List ℕ
remaining need r m k = counted need (cells_at r (at_outcome m k))

abbrev cell_at : List ℕ → List ℕ → ℕ → ℕ → ℕ → ℕ
cell_at need r m v k = get_or (remaining need r m k) v 0

abbrev pub touches_at : List ℕ → List ℕ → ℕ → ℕ → Bool
touches_at need r m p = some_of (λ o. affects (cells_at r (at_pattern p)) (counted need o)) (action_of r m).outcomes

-- The set has every pattern with a variable below v to which an outcome gives a value that counts, and none that the action does not touch.
pub record Seen (need r : List ℕ) (m v set : ℕ) : Type 0 where
  pub seen : ℕ → Bool
  pub made : set ≡ set_from seen 0 (pattern_count r)
  pub holds : (p k w : ℕ) → p < pattern_count r → k < outcome_count r m → w < v → eqb (get_or (cells_at r (at_pattern p)) w 0) 1 ≡ true → eqb (cell_at need r m w k) 255 ≡ false → seen p ≡ true
  pub only : (p : ℕ) → p < pattern_count r → seen p ≡ true → touches_at need r m p ≡ true

pub seen_start : (need r : List ℕ) (m : ℕ) → Seen need r m 0 0
seen_start need r m = record { seen = λ p. false; made = sym (set_none 0 (pattern_count r)); holds = λ p k w a b l. absurd (omega arith); only = λ p a e. false_true e }

-- What the outcomes have in common at variable v, as far as they count: 255 exactly where none names it. Rows that are not used name nothing.
pub record Common (need r : List ℕ) (m v low : ℕ) : Type 0 where
  pub under : (k : ℕ) → k < outcome_count r m → low ≤ cell_at need r m v k
  pub bytes : (k : ℕ) → k < outcome_count r m → cell_at need r m v k ≤ 255
  pub unnamed : ((k : ℕ) → k < 8 → cell_at need r m v k ≡ 255) → low ≡ 255
  pub unused : (k : ℕ) → outcome_count r m ≤ k → k < 8 → cell_at need r m v k ≡ 255

-- An outcome that does not affect a pattern names none of its variables, and one that names none of them does not affect it.
spared_cell : (p o : List ℕ) → affects p o ≡ false → (w : ℕ) → w < length o → eqb (get_or p w 0) 1 ≡ true → eqb (get_or o w 0) 255 ≡ true
unfolding spares_cell
spared_cell p o e w l t =
    let all = by_test (all_below (spares p o) (length o)) (λ y. y) (λ n. false_true (sym e ∙ affects_cells p o ∙ ap not n)) in
    let one = all_at (spares p o) (length o) w all l in
    by_test (eqb (get_or o w 0) 255) (λ y. y) (λ n. false_true (rw (any_default o w 255 0 l, t, n) at one))

spared_all : (p o : List ℕ) → ((w : ℕ) → w < length o → eqb (get_or p w 0) 1 ≡ true → eqb (get_or o w 0) 255 ≡ true) → affects p o ≡ false
unfolding spares_cell
spared_all p o each =
    affects_cells p o
    ∙ ap not (all_none (spares p o) (length o) (λ w l.
    by_test (eqb (get_or p w 0) 1)
    (λ t. rw (any_default o w 255 0 l, t, each w l t))
    (λ t. rw t)))

none_of : {A : Type 0} (f : A → Bool) (g : ℕ → A) (n d k : ℕ) → k + d ≡ n → ((i : ℕ) → i < n → f (g i) ≡ false) → some_of f (tabulate g k (n - k)) ≡ false
none_of f g n zero k e each = some_none_left f g k n (omega arith)
none_of f g n (suc d) k e each = some_step f g k n (omega arith) ∙ rw (each k (omega arith)) (none_of f g n d (k + 1) (omega arith) each)

or_false_l : (a b : Bool) → (a || b) ≡ false → a ≡ false
or_false_l true b e = e
or_false_l false b e = refl

or_false_r : (a b : Bool) → (a || b) ≡ false → b ≡ false
or_false_r true b e = false_true (sym e)
or_false_r false b e = e

here_or_later : (h : ℕ → Bool) (k i : ℕ) → Dec (k ≡ i) → h k ≡ false → ((k ≡ i → ⊥) → h i ≡ false) → h i ≡ false
here_or_later h k i (yes q) e later = rw (← q) e
here_or_later h k i (no q) e later = later q

each_of : {A : Type 0} (f : A → Bool) (g : ℕ → A) (n d k : ℕ) → k + d ≡ n → some_of f (tabulate g k (n - k)) ≡ false → (i : ℕ) → k ≤ i → i < n → f (g i) ≡ false
each_of f g n zero k e s i a b = absurd (omega arith)
each_of f g n (suc d) k e s i a b = let step = sym (some_step f g k n (omega arith)) ∙ s in
    here_or_later (λ j. f (g j)) k i (ℕ_discrete k i) (or_false_l _ _ step) (λ q. each_of f g n d (k + 1) (omega arith) (or_false_r _ _ step) i (omega (arith, q)) b)

-- An action that does not touch a pattern spares it with every outcome, and one that spares it with every outcome does not touch it.
unaffected_cell : (need r : List ℕ) (m p : ℕ) → touches_at need r m p ≡ false → (k : ℕ) → k < outcome_count r m → length (remaining need r m k) ≡ 16 → (w : ℕ) → w < 16 →
    eqb (get_or (cells_at r (at_pattern p)) w 0) 1 ≡ true → eqb (cell_at need r m w k) 255 ≡ true
unfolding action_of
unaffected_cell need r m p e k b n w l t =
    spared_cell (cells_at r (at_pattern p)) (remaining need r m k) (each_of (λ o. affects (cells_at r (at_pattern p)) (counted need o)) (λ i. cells_at r (at_outcome m i)) (outcome_count r m) (outcome_count r m) 0 (omega arith) (rw sub-zero e) k (omega arith) b) w (rw n l) t

unaffected : (need r : List ℕ) (m p : ℕ) → ((k : ℕ) → k < outcome_count r m → affects (cells_at r (at_pattern p)) (remaining need r m k) ≡ false) → touches_at need r m p ≡ false
unfolding action_of
unaffected need r m p each = rw sub-zero at (none_of (λ o. affects (cells_at r (at_pattern p)) (counted need o)) (λ i. cells_at r (at_outcome m i)) (outcome_count r m) (outcome_count r m) 0 (omega arith) each)

either_true : (a b : Bool) → b ≡ true → (a || b) ≡ true
either_true true b e = refl
either_true false b e = e

first_true : (a b : Bool) → a ≡ true → (a || b) ≡ true
first_true a b e = rw e

module _ (need r : List ℕ) (m v set low : ℕ) (inside : v < 16) (whole : (k : ℕ) → k < outcome_count r m → length (remaining need r m k) ≡ 16) (c : Common need r m v low) (s : Seen need r m v set) where
  abbrev member : ℕ → Bool
  member p = eqb (get_or (cells_at r (at_pattern p)) v 0) 1

  abbrev more : ℕ → Bool
  more p = member p && not (eqb low 255)

  -- A pattern that v brings in is touched: if it were not, no outcome would name v.
  more_affected : (p : ℕ) → more p ≡ true → touches_at need r m p ≡ true
  more_affected p e = by_test (touches_at need r m p) (λ y. y) (λ n.
      let z : eqb low 255 ≡ true = eq-eqb low 255 (c.unnamed (λ k h. named k h n (dec_lt k (outcome_count r m)))) in
      false_true (rw z at (both_right (member p) (not (eqb low 255)) e)))
    where
      named : (k : ℕ) → k < 8 → touches_at need r m p ≡ false → Dec (k < outcome_count r m) → cell_at need r m v k ≡ 255
      named k h n (yes b) = eqb-true (cell_at need r m v k) 255 (unaffected_cell need r m p n k b (whole k b) v inside (both_left (member p) (not (eqb low 255)) e))
      named k h n (no b) = c.unused k (omega arith) h

  pub seen_next : Seen need r m (v + 1) (bit_or set (cond (eqb low 255) 0 (member_set r v)))
  unfolding member_set
  seen_next = record {
    seen = λ p. s.seen p || more p;
    made = ap₂ bit_or s.made (set-named member low (pattern_count r)) ∙ set_join s.seen more 0 (pattern_count r);
    holds = λ p k w a b l e f.
        by_test (eqb w v)
        (λ t.
        let q = eqb-true w v t in
        let n = eqb-false (cell_at need r m v k) 255 (rw q at f) in
        let z : eqb low 255 ≡ false = ne_eqb low 255 (λ y. n (omega (arith, c.under k b, c.bytes k b))) in
        either_true (s.seen p) (more p) (rw (rw q at e, z)))
        (λ t. let q = eqb-false w v t in first_true (s.seen p) (more p) (s.holds p k w a b (omega (arith, q)) e f));
    only = λ p a e. by_test (s.seen p) (λ y. s.only p a y) (λ n. more_affected p (rw n at e));
  }

-- After the last variable the set is that of the patterns that the action touches.
pub seen_all : (need r : List ℕ) (m set : ℕ) → ((k : ℕ) → k < outcome_count r m → length (remaining need r m k) ≡ 16) → Seen need r m 16 set → set ≡ touched_set need r m
unfolding touched_set
seen_all need r m set whole s = s.made ∙ set_same s.seen (touches_at need r m) 0 (pattern_count r) (λ p z l. same_test (s.seen p) (touches_at need r m p) (s.only p (omega arith)) (covered p (omega arith)))
  where
    covered : (p : ℕ) → p < pattern_count r → touches_at need r m p ≡ true → s.seen p ≡ true
    covered p l e = by_test (s.seen p) (λ y. y) (λ t. false_true (sym (unaffected need r m p (λ k b. spared_all (cells_at r (at_pattern p)) (remaining need r m k) (λ w g h.
        let n = whole k b in
        by_test (eqb (cell_at need r m w k) 255) (λ y. y) (λ y. false_true (sym t ∙ s.holds p k w l b (omega arith) h y))))) ∙ e))
