-- Laws of the Bellman value of an action along its edges, and of asking the action about one state. Assumes nothing.
use Rattle.std.proofs.Common.{◌≡◌, ℕ, zero, suc, ◌+◌, ◌*◌, ◌/◌, ◌%◌, ◌<◌, ◌≤◌, max, true, false, ◌⊎◌, Bool, List, [], ◌∷◌, length, get_or, drop, set, sym, refl, ap, ◌∙◌, inl, inr, mul-le-mul, zero-add, arith, length-set, drop_of_length-le, get_or-set_other, ◌^◌, lt-ltb}
use Rattle.planning.specs.Table.{infinite_entry}
use native.Mathlib.Decide.{ℕ_discrete, dec_lt}
use lib.Bits.{bit_and, and_zero_r}
use lib.ListN.{get_or-eq_default}
use Rattle.packed_task.specs.Packed.{outcome_count, action_weight}
use Rattle.tables.specs.Steps.{Space, weigh, worst, raised, outcome_entry, bellman_value, bellman_value_at, permitted_at, none, more}
use Rattle.tables.specs.Waiting.{index_after, Waits, Heard, low, later}
use Rattle.tables.specs.Queue.{Queue, Put}
use Rattle.tables.specs.Edges.{edge_back, edge_action, edge_weight, edge_lanes, edge_free, edge_first, edge_end, lane_weight, lane_sum, lane_after, way_back, Plain, Single, Before, EdgesOf}
use Rattle.tables.specs.Visits.{way_forward, BellmanValue, Lowers, Only, Asked, AskedFrom}
use Rattle.tables.specs.declared.worklist.edge.Edge.{Edge}
use Rattle.tables.proofs.Settled.{inside}
use Rattle.task_record.proofs.Tests.{false_true}
use Rattle.tables.proofs.Stepping.{weigh-zero, weigh_step, total-set}
use Rattle.tables.proofs.Bitwise.{deeper}
use Rattle.tables.proofs.Digits.{sixteens_next}
use Rattle.tables.proofs.Law.{worst_at, outcome_bound, heard_lowered, heard_here}
use Rattle.tables.proofs.Visiting.{going_none}

-- The index of no digits, and of those that a word without a digit leaves.
pub weigh-over : (w : List ℕ) (v s : ℕ) → length w ≤ v → weigh (drop v w) s ≡ 0
unfolding weigh
weigh-over w v s l = rw (drop_of_length-le w l)

-- Digits that are 0 add nothing.
pub weigh_skip : (w : List ℕ) (k v s a : ℕ) → s ≡ a * 16 ^ k → weigh (drop v w) s ≡ weigh (drop (v + k) w) (s / 16 ^ k)
weigh_skip w zero v s a e = let z : v + 0 ≡ v = omega arith in let y : s / 16 ^ 0 ≡ s = omega arith in rw (z, y) refl
weigh_skip w (suc k) v s a e = let z : v + suc k ≡ v + 1 + k = omega arith in let n = sixteens_next s k a e in let f = rw n.0 at (weigh_step w v s) in
    rw (z, sym (deeper s k)) (omega (arith, f) ∙ weigh_skip w k (v + 1) (s / 16) a n.1)

pub weigh_apart : (w : List ℕ) (s free : ℕ) → free ≡ 0 → weigh w (bit_and s free) ≡ 0
weigh_apart w s free e = rw (e, and_zero_r s) (weigh-zero w)

pub lane_low : (digit weight : ℕ) → digit < 16 → weight < 65536 → digit * weight ≤ 983025
lane_low digit weight l b = let x : digit ≤ 15 = omega arith in let y : weight ≤ 65535 = omega arith in let p = mul-le-mul x y in omega (arith, p)

-- The index of a word of small weights.
pub weigh_few : (ws : List ℕ) (s : ℕ) → ((i : ℕ) → get_or ws i 0 < 65536) → weigh ws s ≤ 983025 * length ws
unfolding weigh
weigh_few [] s h = omega arith
weigh_few (w ∷ ws) s h = let r = weigh_few ws (s / 16) (λ i. h (suc i)) in let b : w < 65536 = h 0 in let m = lane_low (s % 16) w (omega arith) b in omega (arith, r, m)

-- A lane without weight adds nothing.
pub lane_none : (lane s : ℕ) → lane_weight lane ≡ 0 → lane_sum lane s ≡ 0
unfolding lane_sum
lane_none lane s e = rw e (omega arith)

-- The way back, gone forward, leads where the edge does.
pub way_on : (x : Space) (es : List Edge) (f i j : ℕ) → i ≤ 4096 → edge_back es f < 65536 → Before x es f i j → way_forward es x.weights f i (get_or x.states i 0) ≡ j
unfolding way_forward way_back
way_on x es f i j l c b = omega (arith, l, c, b.near, b.sum)

finite_inside : (t : List ℕ) (j : ℕ) → get_or t j infinite_entry < infinite_entry → j < length t
finite_inside t j l = either (dec_lt j (length t))
  where
    either : Dec (j < length t) → j < length t
    either (yes b) = b
    either (no b) = let z : get_or t j infinite_entry ≡ infinite_entry = get_or-eq_default t infinite_entry (let n : length t ≤ j = omega arith in n) in absurd (omega (arith, z, l))

worst-least : (f : ℕ → ℕ) (b j n : ℕ) → ((o : ℕ) → o < n → f (j + o) ≤ b) → worst f j n ≤ b
unfolding worst
worst-least f b j zero h = omega arith
worst-least f b j (suc n) h = let e : j + 0 ≡ j = omega arith in let a : f j ≤ b = rw e at (h 0 (omega arith)) in
    let r = worst-least f b (suc j) n (λ o l. let q : j + suc o ≡ suc j + o = omega arith in rw q at (h (suc o) (omega arith))) in omega (arith, a, r)

-- Where edge g leads from state i.
abbrev pub onward : Space → List Edge → ℕ → ℕ → ℕ
onward x es i g = way_forward es x.weights g i (get_or x.states i 0)

-- The action of edge e, edge by edge: f is the next one, and `most` the largest entry so far, none infinite.
pub record Largest (x : Space) (es : List Edge) (t : List ℕ) (e i f most : ℕ) : Type 0 where
  pub begun : edge_first es e ≤ f
  pub finite : most < infinite_entry
  pub over : (g : ℕ) → edge_first es e ≤ g → g < f → get_or t (onward x es i g) infinite_entry ≤ most
  pub met : most ≤ worst (outcome_entry x.task x.mask x.weights t (edge_action es e) (get_or x.states i 0)) 0 (outcome_count x.task (edge_action es e))

pub largest_start : (x : Space) (es : List Edge) (t : List ℕ) (e i : ℕ) → Largest x es t e i (edge_first es e) 0
largest_start x es t e i = record { begun = omega arith; finite = omega arith; over = λ g l b. absurd (omega arith); met = omega arith }

-- An outcome's entry is at most the largest.
pub entry_met : (x : Space) (t : List ℕ) (m i n j : ℕ) → n < outcome_count x.task m → index_after x m i n ≡ j →
    get_or t j infinite_entry ≤ worst (outcome_entry x.task x.mask x.weights t m (get_or x.states i 0)) 0 (outcome_count x.task m)
unfolding outcome_entry index_after
entry_met x t m i n j l e = let f = outcome_entry x.task x.mask x.weights t m (get_or x.states i 0) in
    let h : f n ≤ worst f 0 (outcome_count x.task m) = rw (zero-add n) at (worst_at f 0 (outcome_count x.task m) n l) in
    let q : f n ≡ get_or t j infinite_entry = ap (λ y. get_or t y infinite_entry) e in omega (arith, h, q)

module _ {x : Space} {sizes : List ℕ} {es : List Edge} {t : List ℕ} {k e i f most : ℕ} (o : EdgesOf x sizes (length t) es k) (l : e < k) (b : i < length t) (few : length t ≤ 4096)
    (p : permitted_at x (edge_action es e) i ≡ true) (w : Largest x es t e i f most) where
  -- An outcome that edge f stands for.
  here : f < edge_end es e → (n : ℕ) × (n < outcome_count x.task (edge_action es e)) × (index_after x (edge_action es e) i n ≡ onward x es i f)
  here d = let a = o.each e f l (record { after = w.begun; before = d }) in (a.0, a.1, sym (way_on x es f i _ (omega (arith, b, few)) (o.back f (omega (arith, o.span e l, d))) (a.2.back i b p)))

  module _ (j v : ℕ) (at : j ≡ onward x es i f) (is : v ≡ get_or t j infinite_entry) (d : f < edge_end es e) where
    pub largest_inside : v ≤ infinite_entry → (v ≡ infinite_entry → ⊥) → j < length t
    largest_inside u n = finite_inside t j (omega (arith, u, n, is))

    now_over : (m g : ℕ) → m ≡ max most v → edge_first es e ≤ g → g < f + 1 → Dec (g < f) → get_or t (onward x es i g) infinite_entry ≤ m
    now_over m g q y z (yes r) = let h = w.over g y r in omega (arith, h, q)
    now_over m g q y z (no r) = let s : g ≡ f = omega arith in rw (s, sym at, sym is) (omega (arith, q))

    pub largest_next : (m : ℕ) → m ≡ max most v → v ≤ infinite_entry → (v ≡ infinite_entry → ⊥) → Largest x es t e i (f + 1) m
    largest_next m q u n = let a = here d in let h = entry_met x t (edge_action es e) i a.0 j a.1 (a.2 ∙ sym at) in record {
      begun = omega (arith, w.begun);
      finite = omega (arith, w.finite, q, u, n);
      over = λ g y z. now_over m g q y z (dec_lt g f);
      met = omega (arith, h, w.met, q, is);
    }

    -- An entry is infinite, or its state waits.
    pub value_infinite : {marks : List Bool} {r : ℕ} → r ≡ infinite_entry → get_or t i 0 ≤ infinite_entry → v ≡ infinite_entry → BellmanValue x t marks (edge_action es e) i r
    value_infinite q c z = let a = here d in let y : get_or t (index_after x (edge_action es e) i a.0) infinite_entry ≡ infinite_entry = rw (a.2, sym at) (sym is ∙ z) in
        record { finite = λ h. absurd (omega (arith, h, q)); infinite = λ h. low (outcome_bound x t (edge_action es e) i a.0 (get_or t i 0) a.1 c (omega (arith, y, c))) }

    pub value_waits : {marks : List Bool} {r : ℕ} → r ≡ infinite_entry → Waits marks j → BellmanValue x t marks (edge_action es e) i r
    value_waits q z = let a = here d in record { finite = λ h. absurd (omega (arith, h, q)); infinite = λ h. later a.0 a.1 (rw (a.2, sym at) z) }

  -- Every outcome has an edge, so the largest entry of the edges is that of the outcomes.
  all_over : edge_end es e ≤ f → worst (outcome_entry x.task x.mask x.weights t (edge_action es e) (get_or x.states i 0)) 0 (outcome_count x.task (edge_action es e)) ≤ most
  unfolding outcome_entry index_after
  all_over d = worst-least _ most 0 _ (λ n q. let a = o.all e n l q in let z = zero-add n in
      let s = way_on x es a.0 i (index_after x (edge_action es e) i n) (omega (arith, b, few)) (o.back a.0 (omega (arith, o.span e l, a.1.before))) (a.2.back i b p) in
      let h = rw s at (w.over a.0 a.1.after (omega (arith, a.1.before, d))) in rw z h)

  pub value_end : {marks : List Bool} {r : ℕ} → edge_end es e ≤ f → get_or t i 0 ≤ infinite_entry → r ≡ raised (edge_weight es e) most → BellmanValue x t marks (edge_action es e) i r
  unfolding bellman_value_at bellman_value
  value_end d c q = let z : most ≡ worst (outcome_entry x.task x.mask x.weights t (edge_action es e) (get_or x.states i 0)) 0 (outcome_count x.task (edge_action es e)) = omega (arith, w.met, all_over d) in
      let y = q ∙ ap (λ w. raised w most) (o.weight e l) ∙ ap (raised (action_weight x.task (edge_action es e))) z in
      record { finite = λ h. y; infinite = λ h. low (omega (arith, y, h, c)) }

-- An edge whose first lane alone is free leads to j from the states that the lane's values give, and no others.
pub single_on : (x : Space) (es : List Edge) (e i j : ℕ) → edge_back es e < 65536 → j < 65536 → Single es e → i ≡ way_back es e j + lane_sum (edge_lanes es e) (get_or x.states i 0) → onward x es i e ≡ j
unfolding way_forward way_back
single_on x es e i j c d p a = let s = get_or x.states i 0 in rw (lane_none (lane_after (edge_lanes es e)) s p.two, weigh_apart x.weights s (edge_free es e) p.free) (omega (arith, a, c, d))

pub single_before : (x : Space) (es : List Edge) (e i j : ℕ) → Single es e → Before x es e i j → i ≡ way_back es e j + lane_sum (edge_lanes es e) (get_or x.states i 0)
single_before x es e i j p b = let s = get_or x.states i 0 in let y = lane_none (lane_after (edge_lanes es e)) s p.two in let z = weigh_apart x.weights s (edge_free es e) p.free in omega (arith, b.sum, y, z)

-- One that leaves no digit free leads from the state before j to j.
pub plain_on : (x : Space) (es : List Edge) (e i j : ℕ) → edge_back es e < 65536 → j < 65536 → Plain es e → i ≡ way_back es e j → onward x es i e ≡ j
plain_on x es e i j c d p a = let n = lane_none (edge_lanes es e) (get_or x.states i 0) p.one in single_on x es e i j c d (record { two = p.two; free = p.free }) (omega (arith, a, n))

raised_less : (w v value : ℕ) → value ≡ v + w → value < infinite_entry → value ≡ raised w v
unfolding raised
raised_less w v value e l = let s : w + v < infinite_entry = omega arith in rw (lt-ltb (w + v) infinite_entry s) (omega (arith, e))

-- Along the only edge of an action the Bellman value is the entry that it leads to and its weight.
value_only : {x : Space} {sizes : List ℕ} {es : List Edge} {t : List ℕ} {marks : List Bool} {k e i value : ℕ} → EdgesOf x sizes (length t) es k → e < k → i < length t → length t ≤ 4096 → permitted_at x (edge_action es e) i ≡ true →
    Only x es t e i value → BellmanValue x t marks (edge_action es e) i value
value_only {x} {sizes} {es} {t} {marks} {k} {e} {i} {value} o l b few p s =
    value_end o l b few p (largest_next o l b few p (largest_start x es t e i) s.after (get_or t s.after 0) first (inside t s.after 0 infinite_entry s.lowers.near) near (get_or t s.after 0) (omega arith) small finite) (omega (arith, s.alone)) s.lowers.small
    (raised_less (edge_weight es e) (get_or t s.after 0) value s.lowers.value_is (omega (arith, s.lowers.less, s.lowers.small)))
  where
    near : edge_first es e < edge_end es e
    near = omega (arith, s.alone)

    small : get_or t s.after 0 ≤ infinite_entry
    small = omega (arith, s.lowers.value_is, s.lowers.less, s.lowers.small)

    finite : get_or t s.after 0 ≡ infinite_entry → ⊥
    finite z = omega (arith, z, s.lowers.value_is, s.lowers.less, s.lowers.small)

    first : s.after ≡ onward x es i (edge_first es e)
    first = let w = o.own e l in let z : edge_first es e ≡ e = omega (arith, w.after, w.before, s.alone) in rw z (sym s.there)

-- The action is asked about one state.
module _ {x : Space} {m i : ℕ} {t : List ℕ} {marks : List Bool} {c : ℕ} (l : i < length t) (k : Queue (length t) marks c) where
  pub asked_never : permitted_at x m i ≡ false → Asked x m i t marks c t marks c
  asked_never e = record { going = λ j n. going_none k; heard = λ p. false_true (sym e ∙ p) }

  pub asked_miss : (v : ℕ) → BellmanValue x t marks m i v → get_or t i 0 ≤ v → Asked x m i t marks c t marks c
  asked_miss v o b = record { going = λ j n. going_none k; heard = λ p. either (dec_lt v infinite_entry) }
    where
      either : Dec (v < infinite_entry) → Heard x t marks m i
      either (yes a) = low (omega (arith, o.finite a, b))
      either (no a) = o.infinite (omega arith)

  hit : {marks₁ : List Bool} {d : ℕ} → m < x.actions → permitted_at x m i ≡ true → bellman_value_at x t m i < get_or t i 0 → Put (length t) marks c i marks₁ d → Asked x m i t marks c (set t i (bellman_value_at x t m i)) marks₁ d
  hit {marks₁} {d} a e f p = let w = bellman_value_at x t m i in let n = total-set t i w l in let b : w ≤ get_or t i 0 = omega (arith, f) in record {
    going = λ j o. record {
      moved = record {
        long = length-set t i w;
        steps = more m i a l e f none;
        keeps = heard_lowered x t marks marks₁ m i w l b p.still p.here;
        lowered = λ j. changed w p.here j (ℕ_discrete j i);
        still = p.still;
        falls = omega (arith, f, p.few, n);
      };
      queue = rw (length-set t i w) p.queue;
      stays = get_or-set_other t i j w 0 o;
    };
    heard = λ a. heard_here x t marks marks₁ m i w l b p.still p.here refl;
  }
    where
      changed : (w : ℕ) → Waits marks₁ i → (j : ℕ) → Dec (j ≡ i) → (get_or (set t i w) j 0 ≡ get_or t j 0) ⊎ Waits marks₁ j
      changed w z j (yes g) = inr (rw g z)
      changed w z j (no g) = inl (get_or-set_other t i j w 0 g)

  pub asked_hit : {u : List ℕ} {marks₁ : List Bool} {n d : ℕ} (v : ℕ) → m < x.actions → permitted_at x m i ≡ true → get_or t i 0 ≤ infinite_entry → BellmanValue x t marks m i v → v < get_or t i 0 → u ≡ set t i v → n ≡ length t →
      Put n marks c i marks₁ d → Asked x m i t marks c u marks₁ d
  asked_hit v a e b o f g y p = let z = o.finite (omega (arith, b, f)) in let g₁ = rw z at g in rw g₁ (hit a e (omega (arith, z, f)) (rw y at p))

-- The only edge of its action.
pub asked_only : {x : Space} {sizes : List ℕ} {es : List Edge} {t u : List ℕ} {marks marks₁ : List Bool} {k e i value c n d : ℕ} → EdgesOf x sizes (length t) es k → e < k → i < length t → length t ≤ 4096 → Queue (length t) marks c →
    permitted_at x (edge_action es e) i ≡ true → Only x es t e i value → u ≡ set t i value → n ≡ length t → Put n marks c i marks₁ d → Asked x (edge_action es e) i t marks c u marks₁ d
asked_only {value = value} o l b few k p s g y z = asked_hit b k value (o.known _ l) p s.lowers.small (value_only o l b few p s) s.lowers.less g y z

-- The entry that an edge lowers is not the one that it leads to.
pub less_other : (t : List ℕ) (i j w value : ℕ) → value ≡ get_or t j 0 + w → value < get_or t i 0 → j ≡ i → ⊥
less_other t i j w value s l e = let f = rw e at s in omega (arith, f, l)

module _ {x : Space} {es : List Edge} {t : List ℕ} {marks : List Bool} {e i j value c : ℕ} (s : Lowers es t e i j value) where
  pub asked_from : {u : List ℕ} {marks₁ : List Bool} {d : ℕ} → Asked x (edge_action es e) i t marks c u marks₁ d → AskedFrom x es e j i t marks c u marks₁ d
  asked_from a = record { going = a.going j (less_other t i j (edge_weight es e) value s.value_is s.less); heard = λ p n. a.heard p }

  pub asked_elsewhere : Queue (length t) marks c → (Before x es e i j → ⊥) → AskedFrom x es e j i t marks c t marks c
  asked_elsewhere k f = record { going = going_none k; heard = λ p n. absurd (f n) }
