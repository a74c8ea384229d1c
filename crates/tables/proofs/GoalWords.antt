-- The words of the goals: the values that the goal names, and any of the digits that it leaves free. Their indices are those that are entered.
-- Assumes nothing.
use Rattle.std.proofs.Common.{◌≡◌, ℕ, zero, suc, ◌+◌, ◌-◌, ◌/◌, ◌%◌, ◌^◌, ◌<◌, ◌≤◌, true, cond, ◌⊎◌, List, [], ◌∷◌, ◌++◌, length, get_or, take, replicate, sym, refl, ap, ◌∙◌, inl, inr, ⊎_elim, pow-suc, arith, eqb-true, eq-eqb}
use native.Mathlib.Nat.{pow-le-pow_right, div-eq_of_lt}
use native.Mathlib.Decide.{dec_lt}
use lib.Bits.{bit_and, and_zero_l, and_zero_r, and_le_l, and_le_r}
use lib.ListN.{length-replicate, get_or-replicate}
use Rattle.std.proofs.lemmas.List.{ext_get_or}
use Rattle.planning.specs.Finite.{tabulate}
use Rattle.planning.specs.Table.{state_count, state_at, infinite_entry}
use Rattle.planning.proofs.Finite.{get_or_tabulate, length-tabulate}
use Rattle.planning.proofs.Test.{by_test}
use Rattle.packed_task.specs.Packed.{pack_by, low, goal_mask, goal_value}
use Rattle.tables.specs.Steps.{weigh, weights_from, Space, space, started, Bounded}
use Rattle.packed_task.specs.Within.{is_goal}
use Rattle.tables.specs.Edges.{digit, PlainMask, PlainNeed, Regular, Walkable}
use Rattle.tables.specs.Goals.{Reached, Entered}
use Rattle.tables.specs.Listed.{WordsOf}
use Rattle.tables.specs.Patterned.{Patterned, Ready, states_of, TableOf}
use Rattle.tables.proofs.Bitwise.{and_mod, and_div, and_digit, and_all}
use Rattle.tables.proofs.Digits.{lowest, next_digit, sub_mod, sub_div}
use Rattle.tables.proofs.PackedDigits.{digit_none}
use Rattle.task_record.proofs.Tests.{false_true}
use Rattle.tables.proofs.Spacing.{count_positive}
use Rattle.tables.proofs.Building.{settled_idle, settled_free, parts_settled}

-- Words are the same if their digits are.
power_more : (y d : ℕ) → y < 16 ^ (y + d)
power_more zero d = let p = native.Mathlib.Nat.pow-le-pow_right {n = 16} (omega arith) {i = 0} {j = d} (omega arith) in let z : 0 + d ≡ d = omega arith in rw z (omega (arith, p))
power_more (suc y) d = let h = power_more y d in let p = pow-suc 16 (y + d) in let e : suc y + d ≡ suc (y + d) = omega arith in rw e (omega (arith, h, p))

same_within : (f a b : ℕ) → a < 16 ^ f → b < 16 ^ f → ((u : ℕ) → digit a u ≡ digit b u) → a ≡ b
same_within zero a b l k h = let l₁ : a < 1 = l in let k₁ : b < 1 = k in omega arith
same_within (suc f) a b l k h = let p = pow-suc 16 f in
    let r = same_within f (a / 16) (b / 16) (omega arith) (omega arith) (λ u. sym (next_digit a u) ∙ h (suc u) ∙ next_digit b u) in
    let m : a % 16 ≡ b % 16 = lowest a ∙ h 0 ∙ sym (lowest b) in omega arith

words_same : (a b : ℕ) → ((u : ℕ) → digit a u ≡ digit b u) → a ≡ b
words_same a b h = let e : b + a ≡ a + b = omega arith in same_within (a + b) a b (power_more a b) (rw e at (power_more b a)) h

-- A word without digits from n on is below 16 ^ n.
pub word_below : (n s : ℕ) → ((u : ℕ) → n ≤ u → digit s u ≡ 0) → s < 16 ^ n
word_below zero s f = let z : s ≡ 0 = words_same s 0 (λ u. f u (omega arith) ∙ sym (digit_none u)) in let l : s < 1 = omega arith in l
word_below (suc n) s f = let h = word_below n (s / 16) (λ u l. sym (next_digit s u) ∙ f (suc u) (omega arith)) in let p = pow-suc 16 n in omega (arith, h, p)

digit_beyond : (x u : ℕ) → x < 16 ^ 16 → 16 ≤ u → digit x u ≡ 0
digit_beyond x u l b = let p = pow-le-pow_right {n = 16} (omega arith) b in ap (λ y. y % 16) (div-eq_of_lt (omega (arith, l, p)))

-- The digits that the goal leaves free.
abbrev pub free_of : ℕ → ℕ → ℕ
free_of k need = k - bit_and need k

free_digit : (u k need : ℕ) → digit (free_of k need) u ≡ free_of (digit k u) (digit need u)
free_digit zero k need = sym (lowest (free_of k need)) ∙ sub_mod (bit_and need k) k (rw (and_mod need k) (and_le_r (need % 16) (k % 16))) (rw (and_div need k) (and_le_r (need / 16) (k / 16)))
    ∙ rw (and_mod need k, lowest k, lowest need)
free_digit (suc u) k need = next_digit (free_of k need) u ∙ ap (λ x. digit x u) (sub_div (bit_and need k) k (rw (and_mod need k) (and_le_r (need % 16) (k % 16))) (rw (and_div need k) (and_le_r (need / 16) (k / 16))) ∙ rw (and_div need k))
    ∙ free_digit u (k / 16) (need / 16) ∙ rw (next_digit k u, next_digit need u)

free_outside : (k need : ℕ) → k ≡ 0 → free_of k need ≡ 0
free_outside k need e = omega arith

-- Two words of which one has 0 at each digit: their sum has the digits of both, and the sum of their indices.
abbrev Apart : ℕ → ℕ → Type 0
Apart a b = (u : ℕ) → (digit a u ≡ 0) ⊎ (digit b u ≡ 0)

apart_lowest : (a b : ℕ) → Apart a b → ((a + b) % 16 ≡ a % 16 + b % 16) × ((a + b) / 16 ≡ a / 16 + b / 16)
apart_lowest a b h = ⊎_elim (λ e. let z : a % 16 ≡ 0 = lowest a ∙ e in (omega arith, omega arith)) (λ e. let z : b % 16 ≡ 0 = lowest b ∙ e in (omega arith, omega arith)) (h 0)

apart_next : (a b : ℕ) → Apart a b → Apart (a / 16) (b / 16)
apart_next a b h = λ u. ⊎_elim (λ e. inl (sym (next_digit a u) ∙ e)) (λ e. inr (sym (next_digit b u) ∙ e)) (h (suc u))

digit_sum : (u a b : ℕ) → Apart a b → digit (a + b) u ≡ digit a u + digit b u
digit_sum zero a b h = sym (lowest (a + b)) ∙ (apart_lowest a b h).0 ∙ rw (lowest a, lowest b)
digit_sum (suc u) a b h = next_digit (a + b) u ∙ ap (λ x. digit x u) (apart_lowest a b h).1 ∙ digit_sum u (a / 16) (b / 16) (apart_next a b h) ∙ rw (next_digit a u, next_digit b u)

weigh_sum : (ws : List ℕ) (a b : ℕ) → Apart a b → weigh ws (a + b) ≡ weigh ws a + weigh ws b
unfolding weigh
weigh_sum [] a b h = refl
weigh_sum (w ∷ ws) a b h = let e = apart_lowest a b h in let r = weigh_sum ws (a / 16) (b / 16) (apart_next a b h) in rw (e.0, e.1) (omega (arith, r))

-- What the mask and the goal say of a digit.
data Digit (k need value : ℕ) : Type 0 where
  outside : k ≡ 0 → Digit k need value
  spare : k ≡ 15 → need ≡ 0 → value ≡ 0 → Digit k need value
  named : k ≡ 15 → need ≡ 15 → Digit k need value

module _ (k need value : ℕ) (p : PlainMask k) (n : PlainNeed need value) where
  abbrev given : ℕ
  given = bit_and value k

  abbrev free : ℕ
  free = free_of k need

  digit_is : (u : ℕ) → Digit (digit k u) (digit need u) (digit value u)
  digit_is u = ⊎_elim outside (λ e. ⊎_elim (λ g. spare e g.0 g.1) (named e) (n u)) (p u)

  given_digit : (u : ℕ) → digit given u ≡ bit_and (digit value u) (digit k u)
  given_digit u = and_digit value k u

  -- A word of the goal: y has what is free.
  module _ (y : ℕ) (f : (u : ℕ) → digit free u ≡ 0 → digit y u ≡ 0) where
    apart : Apart given y
    apart u = either (digit_is u)
      where
        either : Digit (digit k u) (digit need u) (digit value u) → (digit given u ≡ 0) ⊎ (digit y u ≡ 0)
        either (outside e) = inl (given_digit u ∙ rw e (and_zero_r (digit value u)))
        either (spare e g h) = inl (given_digit u ∙ rw h (and_zero_l (digit k u)))
        either (named e g) = inr (f u (free_digit u k need ∙ rw (e, g)))

    sum_digit : (u : ℕ) → digit (given + y) u ≡ bit_and (digit value u) (digit k u) + digit y u
    sum_digit u = digit_sum u given y apart ∙ rw (given_digit u)

    sum_outside : (u : ℕ) → digit k u ≡ 0 → digit (given + y) u ≡ 0
    sum_outside u e = sum_digit u ∙ rw (e, f u (free_digit u k need ∙ free_outside _ _ e), and_zero_r (digit value u))

    sum_met : bit_and (given + y) (bit_and need k) ≡ given
    sum_met = words_same (bit_and (given + y) (bit_and need k)) given (λ u. and_digit (given + y) (bit_and need k) u ∙ rw (and_digit need k u, sum_digit u, given_digit u) (either u (digit_is u)))
      where
        either : (u : ℕ) → Digit (digit k u) (digit need u) (digit value u) → bit_and (bit_and (digit value u) (digit k u) + digit y u) (bit_and (digit need u) (digit k u)) ≡ bit_and (digit value u) (digit k u)
        either u (outside e) = rw (e, and_zero_r (digit need u), and_zero_r (digit value u)) (and_zero_r (0 + digit y u))
        either u (spare e g h) = rw (g, h) (and_zero_r (0 + digit y u))
        either u (named e g) = let z = f u (free_digit u k need ∙ rw (e, g)) in let a = and_all (digit value u) (omega arith) in rw (z, e, g, a) (let b : digit value u + 0 ≡ digit value u = omega arith in rw b a)

    sum_below : (sizes : List ℕ) → ((u : ℕ) → digit k u ≡ 15 → digit need u ≡ 15 → digit value u < get_or sizes u 0) → ((u : ℕ) → (digit free u ≡ 0 → ⊥) → digit k u ≡ 15 → digit y u < get_or sizes u 0) →
        (u : ℕ) → digit k u ≡ 15 → digit (given + y) u < get_or sizes u 0
    sum_below sizes g h u e = rw (sum_digit u) (either (digit_is u))
      where
        either : Digit (digit k u) (digit need u) (digit value u) → bit_and (digit value u) (digit k u) + digit y u < get_or sizes u 0
        either (outside o) = absurd (omega (arith, o, e))
        either (spare o q r) = let b = h u (λ z. let w : free_of (digit k u) (digit need u) ≡ 0 = sym (free_digit u k need) ∙ z in let v : ◌≡◌ {A = ℕ} 15 0 = rw (o, q) at w in absurd (omega arith)) e in
            let a = and_le_l (digit value u) (digit k u) in omega (arith, a, r, b)
        either (named o q) = let b = g u e q in let z = f u (free_digit u k need ∙ rw (o, q)) in let a = and_le_l (digit value u) (digit k u) in omega (arith, a, b, z)

  -- A word that meets the goal is what it names and what it has of the free digits.
  module _ (s : ℕ) (f : (u : ℕ) → digit k u ≡ 0 → digit s u ≡ 0) (m : bit_and s (bit_and need k) ≡ given) where
    left_fixed : (u : ℕ) → digit free u ≡ 0 → digit (bit_and s free) u ≡ 0
    left_fixed u e = and_digit s free u ∙ rw e (and_zero_r (digit s u))

    left_least : (u : ℕ) → digit (bit_and s free) u ≤ digit s u
    left_least u = rw (and_digit s free u) (and_le_l (digit s u) (digit free u))

    met_digit : (u : ℕ) → bit_and (digit s u) (bit_and (digit need u) (digit k u)) ≡ bit_and (digit value u) (digit k u)
    met_digit u = sym (and_digit s (bit_and need k) u ∙ rw (and_digit need k u)) ∙ ap (λ x. digit x u) m ∙ given_digit u

    word_is : s ≡ given + bit_and s free
    word_is = words_same s (given + bit_and s free) (λ u. sym (sum_digit (bit_and s free) left_fixed u ∙ rw (and_digit s free u, free_digit u k need) (either u (digit_is u))))
      where
        either : (u : ℕ) → Digit (digit k u) (digit need u) (digit value u) → bit_and (digit value u) (digit k u) + bit_and (digit s u) (free_of (digit k u) (digit need u)) ≡ digit s u
        either u (outside e) = rw (e, f u e, and_zero_r (digit value u))
        either u (spare e g h) = let a = and_all (digit s u) (omega arith) in rw (h, e, g) (omega (arith, a))
        either u (named e g) = let a = and_all (digit s u) (omega arith) in let b : digit s u ≡ bit_and (digit value u) 15 = sym a ∙ rw (e, g) at (met_digit u) in let z = and_zero_r (digit s u) in rw (e, g) (omega (arith, b, z))

-- Entries that are 0 at the goals and infinite elsewhere are those of the start.
pub started_is : (a : List ℕ) (k : ℕ) (states new : List ℕ) (n : ℕ) → length new ≡ n → ((i : ℕ) → i < n → get_or new i 0 ≡ cond (is_goal a k (get_or states i 0)) 0 infinite_entry) → new ≡ started a k states n
unfolding started
started_is a k states new n long entry = let f : ℕ → ℕ = λ i. cond (is_goal a k (get_or states i 0)) 0 infinite_entry in
    ext_get_or 0 new _ (long ∙ sym (length-tabulate f 0 n)) (λ i l. let b : i < n = omega (arith, l, long) in let z : 0 + i ≡ i = omega arith in entry i b ∙ sym (get_or_tabulate f 0 n i 0 b ∙ ap f z))

-- The entries are 0 at the goals, and infinite elsewhere.
module _ {x : Space} {sizes : List ℕ} {n : ℕ} (r : Regular x sizes n) where
  abbrev needed : ℕ
  needed = goal_mask x.task

  abbrev named_value : ℕ
  named_value = goal_value x.task

  pub first_small : 1 ≤ n → weigh x.weights (bit_and named_value x.mask) ≤ 4096
  first_small l = let b = (r.there (bit_and named_value x.mask + 0) (sum_outside x.mask needed named_value r.mask_plain r.goal_plain 0 (λ u e. digit_none u))
      (sum_below x.mask needed named_value r.mask_plain r.goal_plain 0 (λ u e. digit_none u) sizes r.goal_below (λ u f e. let b = r.below 0 u l e in rw (digit_none u) (omega (arith, b))))).0 in
      let z : bit_and named_value x.mask + 0 ≡ bit_and named_value x.mask = omega arith in let c = rw z at b in omega (arith, c, r.states_few)

  reached_goal : (i : ℕ) → i < n → Reached x.weights sizes 0 (free_of x.mask needed) (weigh x.weights (bit_and named_value x.mask)) i → is_goal x.task x.mask (get_or x.states i 0) ≡ true
  unfolding is_goal
  reached_goal i l g = let y = g.values in let f = g.are.fixed in let s = bit_and named_value x.mask + y in
      let h = r.there s (sum_outside x.mask needed named_value r.mask_plain r.goal_plain y f) (sum_below x.mask needed named_value r.mask_plain r.goal_plain y f sizes r.goal_below (λ u q e. let z : 0 + u ≡ u = omega arith in rw z at (g.are.below u (rw z (small u e)) q))) in
      let e : i ≡ weigh x.weights s = g.sum ∙ sym (weigh_sum x.weights (bit_and named_value x.mask) y (apart x.mask needed named_value r.mask_plain r.goal_plain y f)) in
      rw (e, h.1) (eq-eqb _ _ (sum_met x.mask needed named_value r.mask_plain r.goal_plain y f))
    where
      small : (u : ℕ) → digit x.mask u ≡ 15 → u < 16
      small u e = either (dec_lt u 16)
        where
          either : Dec (u < 16) → u < 16
          either (yes l) = l
          either (no l) = let z = digit_beyond x.mask u r.room (omega arith) in absurd (omega (arith, z, e))

  goal_reached : (i : ℕ) → i < n → is_goal x.task x.mask (get_or x.states i 0) ≡ true → Reached x.weights sizes 0 (free_of x.mask needed) (weigh x.weights (bit_and named_value x.mask)) i
  unfolding is_goal
  goal_reached i l g = let s = get_or x.states i 0 in let y = bit_and s (free_of x.mask needed) in
      let m = eqb-true (bit_and s (bit_and needed x.mask)) (bit_and named_value x.mask) g in
      let f = left_fixed x.mask needed named_value r.mask_plain r.goal_plain s (λ u. r.inside i u l) m in
      let w = word_is x.mask needed named_value r.mask_plain r.goal_plain s (λ u. r.inside i u l) m in record {
        values = y;
        are = record { fixed = f; below = λ u b q. let z : 0 + u ≡ u = omega arith in rw z (below u q) };
        sum = sym (r.index_is i l) ∙ ap (weigh x.weights) w ∙ weigh_sum x.weights (bit_and named_value x.mask) y (apart x.mask needed named_value r.mask_plain r.goal_plain y f);
      }
    where
      below : (u : ℕ) → (digit (free_of x.mask needed) u ≡ 0 → ⊥) → digit (bit_and (get_or x.states i 0) (free_of x.mask needed)) u < get_or sizes u 0
      below u q = let s = get_or x.states i 0 in ⊎_elim (λ e. absurd (q (free_digit u x.mask needed ∙ free_outside _ _ e)))
          (λ e. let b = r.below i u l e in let a = and_le_l (digit s u) (digit (free_of x.mask needed) u) in rw (and_digit s (free_of x.mask needed) u) (omega (arith, a, b))) (r.mask_plain u)

  -- A goal that names no variable of the pattern is met by every word.
  free_goal : bit_and needed x.mask ≡ 0 → (s : ℕ) → is_goal x.task x.mask s ≡ true
  unfolding is_goal
  free_goal z s = let e = rw (z, and_zero_r (bit_and named_value x.mask + 0)) at (sum_met x.mask needed named_value r.mask_plain r.goal_plain 0 (λ u q. digit_none u)) in
      rw (z, and_zero_r s, sym e) (eq-eqb 0 0 refl)

  pub free_started : bit_and needed x.mask ≡ 0 → replicate n 0 ≡ started x.task x.mask x.states n
  free_started z = started_is x.task x.mask x.states (replicate n 0) n (length-replicate {A = ℕ} n 0)
      (λ i l. let g = free_goal z (get_or x.states i 0) in get_or-replicate n i 0 0 l ∙ rw g)

  pub entered_started : (new : List ℕ) → Entered x.weights sizes 0 (free_of x.mask needed) (weigh x.weights (bit_and named_value x.mask)) (replicate n infinite_entry) new → new ≡ started x.task x.mask x.states n
  entered_started new w = started_is x.task x.mask x.states new n long entry
    where
      long : length new ≡ n
      long = w.long ∙ length-replicate {A = ℕ} n infinite_entry

      entry : (i : ℕ) → i < n → get_or new i 0 ≡ cond (is_goal x.task x.mask (get_or x.states i 0)) 0 infinite_entry
      entry i l = by_test (is_goal x.task x.mask (get_or x.states i 0))
          (λ g. rw g (w.reached i (rw (length-replicate {A = ℕ} n infinite_entry) l) (goal_reached i l g)))
          (λ g. rw g (⊎_elim (λ e. e ∙ get_or-replicate n i infinite_entry 0 l) (λ h. false_true (sym g ∙ reached_goal i l h)) (w.others i)))

-- The words of a pattern's states as a list.
abbrev listed : List ℕ → List ℕ → List ℕ
listed zs p = tabulate (λ i. pack_by low (state_at zs p i)) 0 (state_count zs p)

listed_at : (zs p : List ℕ) (i : ℕ) → i < state_count zs p → get_or (listed zs p) i 0 ≡ pack_by low (state_at zs p i)
listed_at zs p i l = let f : ℕ → ℕ = λ i. pack_by low (state_at zs p i) in let z : 0 + i ≡ i = omega arith in get_or_tabulate f 0 (state_count zs p) i 0 l ∙ ap f z

-- The same of a pattern, and of any list of the words of its states.
module _ {task sizes p : List ℕ} {mask actions n : ℕ} (k : Walkable task mask actions n sizes p) (z : Bounded sizes p n) (weights : List ℕ) (e : weights ≡ weights_from 1 (take n sizes) p ++ replicate (16 - n) 0) where
  pub first_near : weigh weights (bit_and (goal_value task) mask) ≤ 4096
  first_near = first_small (k.regular weights (listed (take n sizes) p) e (listed_at (take n sizes) p)) (count_positive (take n sizes) p z.values_some)

  pub goals_started : (words new t : List ℕ) → ((i : ℕ) → i < state_count (take n sizes) p → get_or words i 0 ≡ pack_by low (state_at (take n sizes) p i)) → t ≡ replicate (state_count (take n sizes) p) infinite_entry →
      Entered weights sizes 0 (free_of mask (goal_mask task)) (weigh weights (bit_and (goal_value task) mask)) t new → new ≡ started task mask words (state_count (take n sizes) p)
  goals_started words new t s f w = entered_started (k.regular weights words e s) new (rw f at w)

-- Where no action counts they are the table.
pub goals_table : (p : Patterned) (new : List ℕ) → Ready p → p.effective ≡ 0 → ((words : List ℕ) → WordsOf p words → new ≡ started p.task p.mask words (states_of p)) → TableOf p new
goals_table p new k z s = let ws = weights_from 1 (take p.variables p.sizes) p.picked ++ replicate (16 - p.variables) 0 in let words = listed (take p.variables p.sizes) p.picked in
    let h = listed_at (take p.variables p.sizes) p.picked in
    parts_settled p.task p.actions p.variables p.mask p.sizes p.picked ws words new k.masked refl h new (s words h) (settled_idle (space p.task p.mask ws words p.actions) new p.effective k.effective_is z)

-- Where the goal names no variable of the pattern the table has 0 alone.
pub free_table : (p : Patterned) (new : List ℕ) → Ready p → bit_and (goal_mask p.task) p.mask ≡ 0 → new ≡ replicate (states_of p) 0 → TableOf p new
free_table p new k z s = let ws = weights_from 1 (take p.variables p.sizes) p.picked ++ replicate (16 - p.variables) 0 in let words = listed (take p.variables p.sizes) p.picked in
    let h = listed_at (take p.variables p.sizes) p.picked in
    parts_settled p.task p.actions p.variables p.mask p.sizes p.picked ws words new k.masked refl h new (s ∙ free_started (k.walkable.regular ws words refl h) z) (settled_free (space p.task p.mask ws words p.actions) new (states_of p) s)
