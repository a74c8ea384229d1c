-- The law of the worklist: what it keeps holds at the start with all goals waiting, when an entry is lowered and its state waits, and when
-- a state is taken out once every action that leads to it was heard. When nothing waits, or nothing that waits can lower an entry, the
-- entries are settled. Assumes nothing.
use Rattle.std.proofs.Common.{◌≡◌, ℕ, zero, suc, ◌+◌, ◌<◌, ◌≤◌, true, cond, eqb, ltb, Bool, List, length, get_or, set, refl, ap, ◌∙◌, inl, inr, ⊎_elim, zero-add, arith, get_or-set_other, get_or-set_same}
use native.Mathlib.Decide.{ℕ_discrete, dec_lt}
use lib.ListN.{get_or-eq_default}
use Rattle.planning.specs.Finite.{any_from}
use Rattle.planning.proofs.Test.{by_test}
use Rattle.planning.proofs.Finite.{any_out, any_in, get_or_tabulate, length-tabulate}
use Rattle.planning.specs.Table.{infinite_entry}
use Rattle.packed_task.specs.Packed.{outcome_count, action_weight}
use Rattle.tables.specs.Steps.{weigh, Space, worst, raised, outcome_entry, bellman_value, bellman_value_at, none, started, Settled}
use Rattle.packed_task.specs.Within.{is_goal, after}
use Rattle.tables.proofs.Settled.{inside, then}
use Rattle.tables.proofs.Stepping.{raised_high}
use Rattle.tables.specs.Waiting.{index_after, Waits, Heard, low, later, Leads, Asks, Kept, Moved}
use Rattle.tables.specs.Visits.{Weighing, Level}

-- The largest of some numbers is at least each, and depends on them alone.
pub worst_at : (f : ℕ → ℕ) (j n o : ℕ) → o < n → f (j + o) ≤ worst f j n
unfolding worst
worst_at f j zero o l = absurd (omega arith)
worst_at f j (suc n) zero l = let e : j + 0 ≡ j = omega arith in rw e (omega arith)
worst_at f j (suc n) (suc o) l = let e : j + suc o ≡ suc j + o = omega arith in rw e (omega (arith, worst_at f (suc j) n o (omega arith)))

worst_same : (f g : ℕ → ℕ) (j n : ℕ) → ((o : ℕ) → o < n → f (j + o) ≡ g (j + o)) → worst f j n ≡ worst g j n
unfolding worst
worst_same f g j zero h = refl
worst_same f g j (suc n) h = let e : j + 0 ≡ j = omega arith in
    let a : f j ≡ g j = rw e at (h 0 (omega arith)) in
    let b = worst_same f g (suc j) n (λ o l. let q : j + suc o ≡ suc j + o = omega arith in rw q at (h (suc o) (omega arith))) in rw (a, b)

pub outcome_bound : (x : Space) (t : List ℕ) (m i o e : ℕ) → o < outcome_count x.task m → e ≤ infinite_entry → e ≤ get_or t (index_after x m i o) infinite_entry → e ≤ bellman_value_at x t m i
unfolding bellman_value_at bellman_value outcome_entry index_after
outcome_bound x t m i o e l b h = let s = get_or x.states i 0 in
    let w = worst_at (outcome_entry x.task x.mask x.weights t m s) 0 (outcome_count x.task m) o l in
    let q : 0 + o ≡ o = zero-add o in
    raised_high e (action_weight x.task m) (worst (outcome_entry x.task x.mask x.weights t m s) 0 (outcome_count x.task m)) b (let v = rw q at w in omega (arith, v, h))

-- The Bellman value of an action none of whose outcomes is state j does not depend on entry j.
bellman_value_same : (x : Space) (t : List ℕ) (m i j v : ℕ) → ((o : ℕ) → o < outcome_count x.task m → index_after x m i o ≡ j → ⊥) → bellman_value_at x (set t j v) m i ≡ bellman_value_at x t m i
unfolding bellman_value_at bellman_value outcome_entry index_after
bellman_value_same x t m i j v h = let s = get_or x.states i 0 in
    ap (raised (action_weight x.task m)) (worst_same (outcome_entry x.task x.mask x.weights (set t j v) m s) (outcome_entry x.task x.mask x.weights t m s) 0 (outcome_count x.task m)
    (λ o l. let q : 0 + o ≡ o = zero-add o in rw q (get_or-set_other t j (weigh x.weights (after x.task x.mask m o s)) v infinite_entry (h o l))))

-- Whether an outcome of action m leads from i to j.
leads_or : {C : Type 0} (x : Space) (m i j : ℕ) → (Leads x m i j → C) → (((o : ℕ) → o < outcome_count x.task m → index_after x m i o ≡ j → ⊥) → C) → C
leads_or x m i j f g = by_test (any_from 0 (outcome_count x.task m) (λ o. eqb (index_after x m i o) j))
    (λ e. let a = any_out 0 (outcome_count x.task m) (λ o. eqb (index_after x m i o) j) (rw e tt) in
    f (record { outcome = a.0; known = omega (arith, a.1); there = lib.Dec.eqb→eq (index_after x m i a.0) j a.2 }))
    (λ e. g (λ o l q. rw e at (any_in 0 (outcome_count x.task m) (λ o. eqb (index_after x m i o) j) o (omega arith) (omega arith) (rw (borrow.Author.Tests.eq-eqb (index_after x m i o) j q) tt))))

leads_later : (x : Space) (t : List ℕ) (marks : List Bool) (m i j : ℕ) → Waits marks j → Leads x m i j → Heard x t marks m i
leads_later x t marks m i j w a = later a.outcome a.known (rw a.there w)

set_lower : (u : List ℕ) (i j v : ℕ) → i < length u → v ≤ get_or u i 0 → Dec (j ≡ i) → get_or (set u i v) j 0 ≤ get_or u j 0
set_lower u i j v l h (yes e) = rw (e, get_or-set_same u i v 0 l) (omega arith)
set_lower u i j v l h (no n) = rw (get_or-set_other u i j v 0 n) (omega arith)

-- An entry is lowered, and its state waits.
module _ (x : Space) (t : List ℕ) (marks marks₁ : List Bool) (m i v : ℕ) (l : i < length t) (less : v ≤ get_or t i 0) (still : (j : ℕ) → Waits marks j → Waits marks₁ j) (here : Waits marks₁ i) where
  pub heard_lowered : (n j : ℕ) → Heard x t marks n j → Heard x (set t i v) marks₁ n j
  heard_lowered n j (later o b w) = later o b (still (index_after x n j o) w)
  heard_lowered n j (low h) = leads_or x n j i (leads_later x (set t i v) marks₁ n j i here)
      (λ f. low (omega (arith, bellman_value_same x t n j i v f, set_lower t i j v l less (ℕ_discrete j i))))

  pub heard_here : v ≡ bellman_value_at x t m i → Heard x (set t i v) marks₁ m i
  heard_here e = leads_or x m i i (leads_later x (set t i v) marks₁ m i i here)
      (λ f. low (omega (arith, bellman_value_same x t m i i v f, get_or-set_same t i v 0 l)))

-- The start, with every goal waiting.
module _ (x : Space) (n : ℕ) (marks : List Bool) (acting : (m : ℕ) → m < x.actions → 1 ≤ outcome_count x.task m) (goals : (j : ℕ) → j < n → is_goal x.task x.mask (get_or x.states j 0) ≡ true → Waits marks j) where
  abbrev first : List ℕ
  first = started x.task x.mask x.states n

  first_at : (j d : ℕ) → j < n → get_or first j d ≡ cond (is_goal x.task x.mask (get_or x.states j 0)) 0 infinite_entry
  unfolding started
  first_at j d l = get_or_tabulate _ 0 n j d l ∙ rw (zero-add j)

  first_heard : (m i : ℕ) → m < x.actions → i < n → (j : ℕ) → index_after x m i 0 ≡ j → Dec (j < n) → Heard x first marks m i
  unfolding started
  first_heard m i l b j e (no g) = let s = acting m l in let q = first_at i 0 b in
      let z : get_or first j infinite_entry ≡ infinite_entry = get_or-eq_default first infinite_entry (let k : length first ≡ n = length-tabulate _ 0 n in omega (arith, k)) in
      low (outcome_bound x first m i 0 (get_or first i 0) s (by_test (is_goal x.task x.mask (get_or x.states i 0)) (λ u. rw (q, u) (omega arith)) (λ u. rw (q, u) (omega arith)))
      (rw (e, z) (by_test (is_goal x.task x.mask (get_or x.states i 0)) (λ u. rw (q, u) (omega arith)) (λ u. rw (q, u) (omega arith)))))
  first_heard m i l b j e (yes g) = let s = acting m l in let q = first_at i 0 b in by_test (is_goal x.task x.mask (get_or x.states j 0))
      (λ u. later 0 s (rw e (goals j g u)))
      (λ u. let z : get_or first j infinite_entry ≡ infinite_entry = first_at j infinite_entry g ∙ rw u in
      low (outcome_bound x first m i 0 (get_or first i 0) s (by_test (is_goal x.task x.mask (get_or x.states i 0)) (λ u. rw (q, u) (omega arith)) (λ u. rw (q, u) (omega arith)))
      (rw (e, z) (by_test (is_goal x.task x.mask (get_or x.states i 0)) (λ u. rw (q, u) (omega arith)) (λ u. rw (q, u) (omega arith))))))

  pub kept_start : Kept x first first marks
  unfolding started
  kept_start = record { steps = none; heard = λ m i a l. first_heard m i a.known (let k : length first ≡ n = length-tabulate _ 0 n in omega (arith, k)) (index_after x m i 0) refl (dec_lt (index_after x m i 0) n) }

-- When nothing waits, the entries are settled.
pub kept_settled : (x : Space) (first t : List ℕ) (marks : List Bool) → ((j : ℕ) → Waits marks j → ⊥) → Kept x first t marks → Settled x first t
kept_settled x begun t marks quiet k = record { steps = k.steps; stable = record { low = λ m i l b q p. from m i (k.heard m i (record { known = l; moves = q; enabled = p }) b) } }
  where
    from : (m i : ℕ) → Heard x t marks m i → get_or t i 0 ≤ bellman_value_at x t m i
    from m i (low h) = h
    from m i (later o b w) = absurd (quiet (index_after x m i o) w)

-- An early end: where no entry is above one that waits by more than an action weighs, nothing can fall any more.
pub raised-least : (e w v : ℕ) → e ≤ infinite_entry → e ≤ w + v → e ≤ raised w v
unfolding raised
raised-least e w v b l = by_test (ltb (w + v) infinite_entry) (λ h. rw h l) (λ h. rw h b)

pub kept_level : (x : Space) (first t : List ℕ) (marks : List Bool) (w : ℕ) → Weighing x w → ((j : ℕ) → Waits marks j → j < length t) →
    Level t marks w → Kept x first t marks → Settled x first t
unfolding bellman_value_at bellman_value outcome_entry index_after
kept_level x first t marks least light known v k =
    record { steps = k.steps; stable = record { low = λ m i l c q p. from m i (light m l q) c (k.heard m i (record { known = l; moves = q; enabled = p }) c) } }
  where
    from : (m i : ℕ) → least ≤ action_weight x.task m → i < length t → Heard x t marks m i → get_or t i 0 ≤ bellman_value_at x t m i
    from m i l c (low h) = h
    from m i l c (later o d w) = let s = get_or x.states i 0 in let j = index_after x m i o in
        let f = outcome_entry x.task x.mask x.weights t m s in
        let a = worst_at f 0 (outcome_count x.task m) o d in
        let z : get_or t j 0 ≡ f o = inside t j 0 infinite_entry (known j w) in
        let q : 0 + o ≡ o = zero-add o in let a₁ : f o ≤ worst f 0 (outcome_count x.task m) = rw q at a in
        raised-least (get_or t i 0) (action_weight x.task m) (worst f 0 (outcome_count x.task m)) (v.small i c) (omega (arith, v.near i j c w (known j w), l, z, a₁))

-- Changes one after the other.
pub moved_none : (x : Space) (t : List ℕ) (marks : List Bool) (c : ℕ) → Moved x t marks c t marks c
moved_none x t marks c = record { long = refl; steps = none; keeps = λ m i h. h; lowered = λ j. inl refl; still = λ j w. w; falls = omega arith }

pub moved_then : {x : Space} {t u v : List ℕ} {a b d : List Bool} {k l n : ℕ} → Moved x t a k u b l → Moved x u b l v d n → Moved x t a k v d n
moved_then p q = record {
  long = q.long ∙ p.long;
  steps = then p.steps q.steps;
  keeps = λ m i h. q.keeps m i (p.keeps m i h);
  lowered = λ j. ⊎_elim (λ e. ⊎_elim (λ f. inl (e ∙ f)) (λ w. inr (q.still j w)) (p.lowered j)) inr (q.lowered j);
  still = λ j w. q.still j (p.still j w);
  falls = omega (arith, p.falls, q.falls);
}

-- A state was taken out, and then every action that leads to it was heard: what the worklist keeps is kept.
pub kept_visited : {x : Space} {first t : List ℕ} {marks marks₁ : List Bool} {new : List ℕ} {marks₂ : List Bool} {c d : ℕ} (j : ℕ) → ((k : ℕ) → (k ≡ j → ⊥) → Waits marks k → Waits marks₁ k) → Moved x t marks₁ c new marks₂ d →
    ((m i : ℕ) → Asks x m i → i < length new → Leads x m i j → Heard x new marks₂ m i) → Kept x first t marks → Kept x first new marks₂
kept_visited {x} {first} {t} {marks} {marks₁} {new} {marks₂} j h p f k = record {
  steps = then k.steps p.steps;
  heard = λ m i a l. either m i a l (k.heard m i a (rw p.long at l));
}
  where
    either : (m i : ℕ) → Asks x m i → i < length new → Heard x t marks m i → Heard x new marks₂ m i
    either m i a l (low q) = p.keeps m i (low q)
    either m i a l (later o b w) = by (ℕ_discrete (index_after x m i o) j)
      where
        by : Dec (index_after x m i o ≡ j) → Heard x new marks₂ m i
        by (yes e) = f m i a l (record { outcome = o; known = b; there = e })
        by (no n) = p.keeps m i (later o b (h (index_after x m i o) n w))
