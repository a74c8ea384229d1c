-- Laws of the loops over waiting states: the start, at which every state whose entry is 0 waits, the look at all entries, and the taking of one
-- state after the other. Assumes nothing.
use Rattle.std.proofs.Common.{◌≡◌, ℕ, zero, suc, ◌+◌, ◌-◌, ◌<◌, ◌≤◌, false, cond, Bool, List, length, get_or, replicate, sym, refl, ◌∙◌, zero-add, arith}
use native.Mathlib.Decide.{dec_lt}
use lib.ListN.{length-replicate}
use Rattle.planning.proofs.Finite.{get_or_tabulate, length-tabulate}
use Rattle.planning.specs.Table.{infinite_entry}
use Rattle.packed_task.specs.Packed.{outcome_count, action_weight}
use Rattle.tables.specs.Steps.{Space, started, Settled}
use Rattle.packed_task.specs.Within.{is_goal}
use Rattle.tables.specs.Waiting.{Waits, Kept}
use Rattle.tables.specs.Queue.{waiting, Queue, Taken}
use Rattle.tables.specs.Edges.{edge_action, edge_weight, EdgesOf}
use Rattle.tables.specs.declared.worklist.edge.Edge.{Edge}
use Rattle.tables.specs.Visits.{Visited, GoalsWait, Weighing, Level}
use Rattle.task_record.proofs.Tests.{false_true}
use Rattle.tables.proofs.Law.{kept_start, kept_visited, kept_settled, kept_level}
use Rattle.tables.proofs.Queue.{none_waits, count_few}

-- Where no state is marked none waits.
none_marked : (n : ℕ) → waiting (replicate n false) ≡ 0
unfolding waiting
none_marked zero = refl
none_marked (suc n) = omega (arith, none_marked n)

not_marked : (n j : ℕ) → get_or (replicate n false) j false ≡ false
not_marked zero j = refl
not_marked (suc n) zero = refl
not_marked (suc n) (suc j) = not_marked n j

pub queue_empty : (n b : ℕ) → n ≤ b → n ≤ 4096 → Queue n (replicate b false) 0
queue_empty n b l few = record {
  room = rw (length-replicate b false) l;
  states_few = few;
  inside = λ j w. false_true (sym (not_marked b j) ∙ w);
  counted = none_marked b;
}

-- The start is kept.
pub start_kept : (x : Space) (t : List ℕ) (marks : List Bool) (n c : ℕ) → ((m : ℕ) → m < x.actions → 1 ≤ outcome_count x.task m) → t ≡ started x.task x.mask x.states n → GoalsWait t marks c → Kept x t t marks
unfolding started
start_kept x t marks n c some e g = rw e (kept_start x n marks some (λ j l u. g.zeros j (rw e (rw (length-tabulate {A = ℕ} (λ i. cond (is_goal x.task x.mask (get_or x.states i 0)) 0 infinite_entry) 0 n) l)) (rw e (get_or_tabulate _ 0 n j 0 l ∙ rw (zero-add j, u)))))

-- None of the first i edges weighs less than w.
pub record Lightest (es : List Edge) (w i : ℕ) : Type 0 where
  pub least : (e : ℕ) → e < i → w ≤ edge_weight es e

pub lightest_next : {es : List Edge} {w w₁ i : ℕ} → Lightest es w i → w₁ ≤ w → w₁ ≤ edge_weight es i → Lightest es w₁ (i + 1)
lightest_next {es} {w} {w₁} {i} v a b = record { least = λ e l. either e l (dec_lt e i) }
  where
    either : (e : ℕ) → e < i + 1 → Dec (e < i) → w₁ ≤ edge_weight es e
    either e l (yes p) = omega (arith, v.least e p, a)
    either e l (no p) = let q : e ≡ i = omega arith in rw q b

-- Each action that is asked has an edge, which has its weight.
pub lightest_action : {x : Space} {sizes : List ℕ} {n : ℕ} {es : List Edge} {k : ℕ} (w : ℕ) → EdgesOf x sizes n es k → ((m : ℕ) → m < x.actions → 1 ≤ outcome_count x.task m) → ((e : ℕ) → e < k → w ≤ edge_weight es e) → Weighing x w
lightest_action {x} {sizes} {n} {es} {k} w o some v m l q = let a = o.covers m 0 l q (some m l) in
    let h : w ≤ action_weight x.task (edge_action es a.0) = omega (arith, v a.0 a.1, o.weight a.0 a.1) in rw a.2.action at h

-- The states below i were looked at: no entry is above `most`, and none that waits below `least`.
pub record Seen (t : List ℕ) (marks : List Bool) (most least i : ℕ) : Type 0 where
  pub few : least ≤ infinite_entry
  pub small : most ≤ infinite_entry
  pub up : (j : ℕ) → j < i → get_or t j 0 ≤ most
  pub down : (j : ℕ) → j < i → Waits marks j → least ≤ get_or t j 0

pub seen_none : (t : List ℕ) (marks : List Bool) → Seen t marks 0 infinite_entry 0
seen_none t marks = record { few = omega arith; small = omega arith; up = λ j l. absurd (omega arith); down = λ j l. absurd (omega arith) }

pub seen_next : {t : List ℕ} {marks : List Bool} {most least most₁ least₁ i : ℕ} → Seen t marks most least i → most ≤ most₁ → get_or t i 0 ≤ most₁ → most₁ ≤ infinite_entry → least₁ ≤ least → (Waits marks i → least₁ ≤ get_or t i 0) → Seen t marks most₁ least₁ (i + 1)
seen_next {t} {marks} {most} {least} {most₁} {least₁} {i} v a b s d e = record { few = omega (arith, v.few); small = s; up = λ j l. above j l (dec_lt j i); down = λ j l w. below j l w (dec_lt j i) }
  where
    above : (j : ℕ) → j < i + 1 → Dec (j < i) → get_or t j 0 ≤ most₁
    above j l (yes p) = omega (arith, v.up j p)
    above j l (no p) = let q : j ≡ i = omega arith in rw q b

    below : (j : ℕ) → j < i + 1 → Waits marks j → Dec (j < i) → least₁ ≤ get_or t j 0
    below j l w (yes p) = omega (arith, v.down j p w)
    below j l w (no p) = let q : j ≡ i = omega arith in rw q (e (rw q at w))

pub seen_level : {t : List ℕ} {marks : List Bool} {most least i w : ℕ} → Seen t marks most least i → length t ≤ i → most ≤ least + w → Level t marks w
seen_level v l h = record { small = λ i b. omega (arith, v.up i (omega arith), v.small); near = λ i j b w c. omega (arith, v.up i (omega arith), v.down j (omega arith) w) }

-- The loop: some states wait, and what the worklist keeps is kept.
pub record Running (x : Space) (first : List ℕ) (n : ℕ) (t : List ℕ) (marks : List Bool) (c since : ℕ) : Type 0 where
  pub size : n ≡ length t
  pub long : length t ≡ length first
  pub kept : Kept x first t marks
  pub queue : Queue n marks c
  pub recent : since + c ≤ n

pub running_start : {x : Space} {t : List ℕ} {marks : List Bool} {c : ℕ} → Queue (length t) marks c → Kept x t t marks → Running x t (length t) t marks c 0
running_start v k = record { size = refl; long = refl; kept = k; queue = v; recent = omega (arith, count_few v) }

module _ {x : Space} {first : List ℕ} {n : ℕ} {t : List ℕ} {marks : List Bool} {c since : ℕ} (v : Running x first n t marks c since) where
  -- The count of states since the last look, as long as all are not reached.
  pub running_since : {taken : ℕ} → taken + c ≤ n → Running x first n t marks c taken
  running_since l = record { size = v.size; long = v.long; kept = v.kept; queue = v.queue; recent = l }

  -- One state was taken, and the states before it were visited.
  pub running_next : {marks₁ : List Bool} {new : List ℕ} {marks₂ : List Bool} {j d : ℕ} → Taken n marks c marks₁ j → Visited x j t marks₁ (c - 1) new marks₂ d → Running x first n new marks₂ d 0
  running_next {marks₁} {new} {marks₂} {j} {d} k w = let l = w.going.moved.long in let z : n ≡ length new = v.size ∙ sym l in let u : Queue n marks₂ d = rw z w.going.queue in record {
    size = z;
    long = l ∙ v.long;
    kept = kept_visited j k.others w.going.moved w.heard v.kept;
    queue = u;
    recent = omega (arith, count_few u);
  }

  pub running_end : c ≤ 0 → Settled x first t
  running_end z = kept_settled x first t marks (none_waits v.queue z) v.kept

  pub running_level : {w : ℕ} → Weighing x w → Level t marks w → Settled x first t
  running_level light l = kept_level x first t marks _ light (λ j w. omega (arith, v.queue.inside j w, v.size)) l v.kept
