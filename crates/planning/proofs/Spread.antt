-- Laws of the spread of a table: it grows by one count with each entry, its counts add up to the number of entries, and a count is the number
-- of states that have the cost. Assumes nothing.
use mathlib.Core.Path.{◌≡◌, refl, sym, ap, ◌∙◌}
use mathlib.Core.Logic.{◌↔◌, inl, inr}
use mathlib.Core.Bool.{false, cond}
use mathlib.Core.List.{List, [], ◌∷◌, ◌++◌}
use Prim.Native.Nat.{ℕ, zero, suc, ◌+◌, ◌≤◌, ◌<◌}
use native.Mathlib.Nat.{zero-add}
use native.Mathlib.Omega.{arith}
use borrow.Author.Tests.{eqb-true, eqb-false}
use lib.Dec.{T, eqb, leb, eqb→eq, eqb_refl, leb→le, le→leb, nleb→lt}
use lib.ListN.{length, get_or, take, set, replicate, length-append, length-set, length-replicate, get_or-replicate, get_or-append}
use lib.Seq.{ext_get_or, take-suc, take-length, get_or-append_seam, get_or-set_same, get_or-set_other}
use Rattle.planning.specs.Finite.{tabulate, total, HowMany}
use Rattle.planning.specs.Extended.{ℕ∞, fin, inf}
use Rattle.planning.specs.Table.{EntriesBelow, most_cost}
use Rattle.planning.specs.Spread.{same_cost, states_with, row_size, spread, place_of}
use Rattle.planning.proofs.Test.{T_true, not_T_false, false_not_T, by_test}
use Rattle.planning.proofs.Finite.{length-tabulate, get_or_tabulate}

same_cost_lem : (a b : ℕ∞) → T (same_cost a b) → a ≡ b
unfolding same_cost
same_cost_lem (fin a) (fin b) t = ap fin (eqb→eq a b t)
same_cost_lem (fin a) inf t = absurd t
same_cost_lem inf (fin b) t = absurd t
same_cost_lem inf inf t = refl

same_cost_refl : (a : ℕ∞) → T (same_cost a a)
unfolding same_cost
same_cost_refl (fin a) = eqb_refl a
same_cost_refl inf = tt

other_cost : (a b : ℕ∞) → (a ≡ b → ⊥) → same_cost a b ≡ false
other_cost a b f = not_T_false (same_cost a b) (λ t. f (same_cost_lem a b t))

-- The cost that a place counts.
unfoldable counted_at : ℕ → ℕ∞
counted_at i = cond (leb i most_cost) (fin i) inf

place_counted : (c : ℕ∞) → ((k : ℕ) → c ≡ fin k → k < suc most_cost) → counted_at (place_of c) ≡ c
unfolding place_of counted_at
place_counted (fin v) h = let l : v ≤ most_cost = (let k = h v refl in omega arith) in rw (T_true (leb v most_cost) (le→leb v most_cost l))
place_counted inf h = refl

pub place_inside : (c : ℕ∞) → ((k : ℕ) → c ≡ fin k → k < suc most_cost) → place_of c < row_size
unfolding place_of row_size
place_inside (fin v) h = let k = h v refl in omega arith
place_inside inf h = omega arith

counted_placed : (i : ℕ) → i < row_size → place_of (counted_at i) ≡ i
unfolding place_of counted_at row_size
counted_placed i l = by_test (leb i most_cost)
    (λ e. rw e)
    (λ e. let h = nleb→lt i most_cost (rw e tt) in rw e (omega arith))

-- A row by its places.
module _ (tab : List ℕ∞) where
  finite_length : length (tabulate (λ v. states_with (fin v) tab) 0 (suc most_cost)) ≡ suc most_cost
  finite_length = length-tabulate (λ v. states_with (fin v) tab) 0 (suc most_cost)

  pub spread-length : length (spread tab) ≡ row_size
  unfolding spread row_size
  spread-length = length-append (tabulate (λ v. states_with (fin v) tab) 0 (suc most_cost)) (states_with inf tab ∷ []) ∙ rw finite_length

  pub finite_count : (v : ℕ) → v ≤ most_cost → get_or (spread tab) v 0 ≡ states_with (fin v) tab
  unfolding spread
  finite_count v l = let row = tabulate (λ v. states_with (fin v) tab) 0 (suc most_cost) in
      get_or-append row (states_with inf tab ∷ []) 0 v (rw finite_length (omega arith))
      ∙ get_or_tabulate (λ v. states_with (fin v) tab) 0 (suc most_cost) v 0 (omega arith) ∙ ap (λ k. states_with (fin k) tab) (zero-add v)

  pub infinite_count : get_or (spread tab) (suc most_cost) 0 ≡ states_with inf tab
  unfolding spread
  infinite_count = let row = tabulate (λ v. states_with (fin v) tab) 0 (suc most_cost) in
      ap (λ i. get_or (row ++ (states_with inf tab ∷ [])) i 0) (sym finite_length) ∙ get_or-append_seam row (states_with inf tab) [] 0

  spread_at : (i : ℕ) → i < row_size → get_or (spread tab) i 0 ≡ states_with (counted_at i) tab
  unfolding counted_at row_size
  spread_at i l = by_test (leb i most_cost)
      (λ e. rw e (finite_count i (leb→le i most_cost (rw e tt))))
      (λ e. let h = nleb→lt i most_cost (rw e tt) in let k : i ≡ suc most_cost = omega arith in rw e (ap (λ j. get_or (spread tab) j 0) k ∙ infinite_count))

pub spread_of_none : spread [] ≡ replicate row_size 0
unfolding states_with
spread_of_none = ext_get_or 0 (spread []) (replicate row_size 0) (spread-length [] ∙ sym (length-replicate {A = ℕ} row_size 0))
    (λ i l. let k : i < row_size = rw (spread-length []) at l in spread_at [] i k ∙ sym (get_or-replicate row_size i 0 0 k))

-- One entry more adds one to its count.
states_with-more : (c x : ℕ∞) (tab : List ℕ∞) → states_with c (tab ++ (x ∷ [])) ≡ cond (same_cost x c) (suc (states_with c tab)) (states_with c tab)
unfolding states_with
states_with-more c x [] = refl
states_with-more c x (y ∷ tab) = rw (states_with-more c x tab) (by_test (same_cost y c)
    (λ e. by_test (same_cost x c) (λ f. rw (e, f)) (λ f. rw (e, f)))
    (λ e. by_test (same_cost x c) (λ f. rw (e, f)) (λ f. rw (e, f))))

pub states_few : (c : ℕ∞) (tab : List ℕ∞) → states_with c tab ≤ length tab
unfolding states_with
states_few c [] = omega arith
states_few c (x ∷ tab) = let l = states_few c tab in by_test (same_cost x c) (λ e. rw e (omega arith)) (λ e. rw e (omega arith))

pub counts_few : (tab : List ℕ∞) (i : ℕ) → i < row_size → get_or (spread tab) i 0 ≤ length tab
counts_few tab i l = rw (spread_at tab i l) (states_few (counted_at i) tab)

-- A row with one more at a place.
abbrev pub raised_at : List ℕ → ℕ → List ℕ
raised_at row k = set row k (get_or row k 0 + 1)

total_zeros : (n : ℕ) → total (replicate n 0) ≡ 0
total_zeros zero = refl
total_zeros (suc n) = let h = total_zeros n in omega arith

total-raised : (row : List ℕ) (k : ℕ) → k < length row → total (raised_at row k) ≡ suc (total row)
total-raised [] k l = absurd (omega arith)
total-raised (x ∷ row) zero l = omega arith
total-raised (x ∷ row) (suc k) l = rw (total-raised row k (omega arith)) (omega arith)

module _ (tab : List ℕ∞) (bounded : EntriesBelow (suc most_cost) tab) where
  module _ (i : ℕ) (l : i < length tab) where
    abbrev next : ℕ∞
    next = get_or tab i inf

    abbrev before : List ℕ∞
    before = take i tab

    counts_next : (j : ℕ) → j < row_size → get_or (spread (before ++ (next ∷ []))) j 0 ≡ get_or (raised_at (spread before) (place_of next)) j 0
    counts_next j k = by_test (eqb j (place_of next))
        (λ e. let p : j ≡ place_of next = eqb-true j (place_of next) e in
        let q : counted_at j ≡ next = ap counted_at p ∙ place_counted next (bounded i) in
        let u = place_inside next (bounded i) in
        spread_at (before ++ (next ∷ [])) j k ∙ states_with-more (counted_at j) next before
        ∙ rw (q, T_true (same_cost next next) (same_cost_refl next), p, get_or-set_same (spread before) (place_of next) (get_or (spread before) (place_of next) 0 + 1) 0 (rw (spread-length before) u), spread_at before (place_of next) u, place_counted next (bounded i)) (omega arith))
        (λ e. let p : (j ≡ place_of next → ⊥) = eqb-false j (place_of next) e in
        let q : (next ≡ counted_at j → ⊥) = (λ h. p (sym (counted_placed j k) ∙ ap place_of (sym h))) in
        spread_at (before ++ (next ∷ [])) j k ∙ states_with-more (counted_at j) next before
        ∙ rw (other_cost next (counted_at j) q, get_or-set_other (spread before) (place_of next) j (get_or (spread before) (place_of next) 0 + 1) 0 p) (sym (spread_at before j k)))

    pub spread_next : spread (take (suc i) tab) ≡ raised_at (spread before) (place_of next)
    spread_next = rw (take-suc tab i inf l) (ext_get_or 0 (spread (before ++ (next ∷ []))) (raised_at (spread before) (place_of next))
        (spread-length (before ++ (next ∷ [])) ∙ sym (length-set (spread before) (place_of next) (get_or (spread before) (place_of next) 0 + 1) ∙ spread-length before))
        (λ j k. counts_next j (rw (spread-length (before ++ (next ∷ []))) at k)))

  counts_so_far : (i : ℕ) → i ≤ length tab → total (spread (take i tab)) ≡ i
  counts_so_far zero l = rw spread_of_none (total_zeros row_size)
  counts_so_far (suc i) l = rw (spread_next i l, total-raised (spread (take i tab)) (place_of (get_or tab i inf)) (rw (spread-length (take i tab)) (place_inside (get_or tab i inf) (bounded i))), counts_so_far i (omega arith))

  -- "The counts add up to the pattern's number of states."
  pub counts_add_up : total (spread tab) ≡ length tab
  counts_add_up = ap (λ t. total (spread t)) (sym (take-length tab)) ∙ counts_so_far (length tab) (omega arith)

-- Where each entry is the cost of its state, a count is the number of states that have the cost, whatever says what a cost is.
pub how_many : (R : ℕ → ℕ∞ → Type 0) → ((i : ℕ) (a b : ℕ∞) → R i a → R i b → a ≡ b) → (c : ℕ∞) (k : ℕ) (tab : List ℕ∞) →
    ((i : ℕ) → i < length tab → R (k + i) (get_or tab i inf)) → HowMany (λ i. R i c) k (length tab) (states_with c tab)
unfolding states_with
how_many R unique c k [] h = refl
how_many R unique c k (x ∷ tab) h =
    let first : R k x = (let e : k + 0 ≡ k = omega arith in rw e at (h 0 (omega arith))) in
    let more = how_many R unique c (suc k) tab (λ i l. let e : k + suc i ≡ suc k + i = omega arith in rw e at (h (suc i) (omega arith))) in
    by_test (same_cost x c)
    (λ e. rw e (inl ((rw (same_cost_lem x c (rw e tt)) at first), states_with c tab, refl, more)))
    (λ e. rw e (inr ((λ r. false_not_T e (rw (unique k x c first r) (same_cost_refl c))), more)))

pub how_many_iff : (P Q : ℕ → Type 0) → ((i : ℕ) → P i ↔ Q i) → (k n c : ℕ) → HowMany P k n c → HowMany Q k n c
how_many_iff P Q f k zero c h = h
how_many_iff P Q f k (suc n) c (inl h) = inl ((f k).0 h.0, h.1, h.2, how_many_iff P Q f (suc k) n h.1 h.3)
how_many_iff P Q f k (suc n) c (inr h) = inr ((λ q. h.0 ((f k).1 q)), how_many_iff P Q f (suc k) n c h.1)
