-- Laws of writing the plan that an examination found: what a success tells of its first action and of the outcomes, and the bytes of a row of
-- plans, one after the other. Assumes nothing.
use Rattle.std.proofs.Common.{◌≡◌, ℕ, zero, suc, ◌+◌, ◌-◌, ◌<◌, ◌≤◌, Bool, true, false, ◌&&◌, eqb, leb, List, [], ◌∷◌, length, set, sym, refl, ap, ◌∙◌, arith, length-append, length-set, leb-true}
use native.Mathlib.Nat.{sub-zero}
use native.Mathlib.Decide.{ℕ_discrete}
use lib.Bits.{bit_and, bit_or}
use Rattle.planning.specs.Finite.{choose, tabulate}
use Rattle.planning.specs.Extended.{ℕ∞}
use Rattle.planning.specs.System.{System, applies}
use Rattle.planning.specs.Plan.{Plan, arrived, act, Plans, done, ◌then◌, encode, encodes}
use Rattle.planning.specs.Search.{Result, succeeded, failed, stopped, and_then, or_else, examine_outcomes, try_actions, try_action, examination}
use Rattle.planning.proofs.Budget.{count_of, outcomes_grow, count_grows}
use Rattle.planning.proofs.Shift.{succeeded_anywhere}
use Rattle.packed_task.specs.Packed.{action_weight, outcome_count, keep_mask, set_value, goal_mask, goal_value, packed_system}
use Rattle.search.specs.declared.examine.Opening.{Opening}
use Rattle.search.specs.declared.examine.Ending.{Ending}
use Rattle.search.specs.declared.instance.Instance.{Instance}
use Rattle.search.specs.declared.examine.Ending.TheVariants.{Stopped, Failed, Succeeded}
use Rattle.search.specs.Buffer.{Keeps, Holds}
use Rattle.search.specs.Examination.{plan_size, plan_head, plans_size}
use Rattle.search.specs.Memory.{stored, Stores, Noted, Remembers}
use Rattle.search.specs.Packed.{instance_examination, instance_opening, instance_value}
use Rattle.search.specs.Value.{Estimated}
use Rattle.search.specs.Cycle.{Examinable, Examines}
use Rattle.search.specs.Written.{Stands, Succeeding, Starts, Writable, Written, Writes}
use Rattle.search.proofs.Bytes.{keeps_itself, keeps_trans, keeps_stored, holds_stored, holds_nothing, holds_joined}
use Rattle.search.proofs.Openings.{packed_invariant, spent_stops, arrived_succeeds, cut_fails, expand_facts, opened_below, packed_goal, arrived_not_spent, expand_tries_all, successors_step, successors_end}
use Rattle.search.proofs.Endings.{Success, success_of_ending, failure_of_ending, stop_of_ending, arrived_size, arrived_head}
use Rattle.search.proofs.Trying.{not_zero}
use Rattle.search.proofs.Standing.{same_plan, stands_stored, stands_noted}
use Rattle.search.specs.declared.memory.Slot.{Slot}

stop_no_success : {x : Result Plan} {p : Plan} {i j : ℕ} → x ≡ stopped i → x ≡ succeeded p j → ⊥
stop_no_success a b = let z : ◌≡◌ {A = ℕ} 0 1 = cc in omega arith

failure_no_success : {x : Result Plan} {p : Plan} {i j : ℕ} → x ≡ failed i → x ≡ succeeded p j → ⊥
failure_no_success a b = let z : ◌≡◌ {A = ℕ} 0 1 = cc in omega arith

plan_begins : {x : Result Plan} {budget c e n b k : ℕ} {p : Plan} → Success plan_size plan_head x c budget e n b → x ≡ succeeded p k → (plan_size p ≡ n) × (plan_head p ≡ b) × (k ≤ budget)
plan_begins {e = e} {k = k} {p = p} q f = let g = sym q.is ∙ f in let z : q.found ≡ p = cc in let i : e ≡ k = cc in rw (← z) (q.sized, q.headed, omega (arith, q.budgeted, i))

-- A row of actions that succeeds: one of them does.
record Winner (t : ℕ → ℕ → Result Plan) (bound : ℕ) (p : Plan) (e : ℕ) : Type 0 where
  action : ℕ
  below : action < bound
  count : ℕ
  wins : t action count ≡ succeeded p e

winner : (t : ℕ → ℕ → Result Plan) (k n c : ℕ) (p : Plan) (e : ℕ) → try_actions t k n c ≡ succeeded p e → Winner t (k + n) p e
unfolding try_actions or_else
winner t k zero c p e h = let z : ◌≡◌ {A = ℕ} 0 1 = cc in absurd (omega arith)
winner t k (suc n) c p e h = first (t k c) refl (λ i f. winner t (suc k) n i p e f) h
  where
    first : (x : Result Plan) → t k c ≡ x → ((i : ℕ) → try_actions t (suc k) n i ≡ succeeded p e → Winner t (suc k + n) p e) → or_else x (λ c₁. try_actions t (suc k) n c₁) ≡ succeeded p e → Winner t (k + suc n) p e
    first (succeeded q i) g v f = record { action = k; below = omega arith; count = c; wins = g ∙ f }
    first (failed i) g v f = let w = v i f in record { action = w.action; below = omega (arith, w.below); count = w.count; wins = w.wins }
    first (stopped i) g v f = let z : ◌≡◌ {A = ℕ} 0 1 = cc in absurd (omega arith)

then_acts : (x : Result Plans) (j m : ℕ) (ps : Plans) (e : ℕ) → and_then x (λ qs c. succeeded (act j qs) c) ≡ succeeded (act m ps) e → (j ≡ m) × (x ≡ succeeded ps e)
unfolding and_then
then_acts (succeeded qs i) j m ps e h = (cc, cc)
then_acts (failed i) j m ps e h = let z : ◌≡◌ {A = ℕ} 0 1 = cc in absurd (omega arith)
then_acts (stopped i) j m ps e h = let z : ◌≡◌ {A = ℕ} 0 1 = cc in absurd (omega arith)

chosen_acts : (a b : Bool) (x : Result Plans) (j m c : ℕ) (ps : Plans) (e : ℕ) → choose (a && b) (λ u. and_then x (λ qs c. succeeded (act j qs) c)) (λ u. failed c) ≡ succeeded (act m ps) e → (j ≡ m) × (b ≡ true) × (x ≡ succeeded ps e)
unfolding choose
chosen_acts true true x j m c ps e h = let t = then_acts x j m ps e h in (t.0, refl, t.1)
chosen_acts true false x j m c ps e h = let z : ◌≡◌ {A = ℕ} 0 1 = cc in absurd (omega arith)
chosen_acts false b x j m c ps e h = let z : ◌≡◌ {A = ℕ} 0 1 = cc in absurd (omega arith)

-- What a success with action m tells: the action is one of the task's and within the depth, and its outcomes succeed from some count.
pub record Acts (instance : Instance) (d s m : ℕ) (p : Plan) : Type 0 where
  pub rest : Plans
  pub is : p ≡ act m rest
  pub within : m < instance.constants.actions
  pub light : action_weight instance.task.now m ≤ d
  pub from : ℕ
  pub to : ℕ
  pub succeeds : examine_outcomes (instance_examination instance (d - action_weight instance.task.now m)) ((packed_system instance.task.now instance.constants.actions).successors m s) from ≡ succeeded rest to
  pub budgeted : to ≤ instance.constants.budget

acting : {instance : Instance} {d s : ℕ} (j from m : ℕ) (ps : Plans) (e : ℕ) → e ≤ instance.constants.budget → j < instance.constants.actions →
    (j ≡ m) × (leb (action_weight instance.task.now j) d ≡ true) × (examine_outcomes (instance_examination instance (d - action_weight instance.task.now j)) ((packed_system instance.task.now instance.constants.actions).successors j s) from ≡ succeeded ps e) → Acts instance d s m (act m ps)
acting {instance} {d = d} j from m ps e l b t = rw (← t.0) (record { rest = ps; is = refl; within = b; light = leb-true (action_weight instance.task.now j) d t.1; from = from; to = e; succeeds = t.2; budgeted = l })

module _ {instance : Instance} {memory : List Slot} {s d : ℕ} (x : Succeeding instance memory s d) where
  opens : (m : ℕ) (ps : Plans) (e : ℕ) (o : Opening) → instance_opening instance d s 0 ≡ o → instance_examination instance d s 0 ≡ succeeded (act m ps) e → instance_opening instance d s 0 ≡ Opening.Expand
  opens m ps e Opening.Spent o h = let q = sym h ∙ spent_stops _ (packed_invariant instance.task.now instance.constants.actions instance.matching.ready.weights) _ _ _ _ _ o in let z : ◌≡◌ {A = ℕ} 0 1 = cc in absurd (omega arith)
  opens m ps e Opening.Arrived o h = let q = sym h ∙ arrived_succeeds _ (packed_invariant instance.task.now instance.constants.actions instance.matching.ready.weights) _ _ _ _ _ o in let z : ◌≡◌ {A = ℕ} 0 1 = cc in absurd (omega arith)
  opens m ps e Opening.Cut o h = let q = sym h ∙ cut_fails _ (packed_invariant instance.task.now instance.constants.actions instance.matching.ready.weights) _ _ _ _ _ o in let z : ◌≡◌ {A = ℕ} 0 1 = cc in absurd (omega arith)
  opens m ps e Opening.Expand o h = o

  acts_so : (m : ℕ) (ps : Plans) (e : ℕ) → instance_examination instance d s 0 ≡ succeeded (act m ps) e → e ≤ instance.constants.budget → Acts instance d s m (act m ps)
  unfolding try_action packed_system
  acts_so m ps e h l =
      let o = opens m ps e (instance_opening instance d s 0) refl h in
      let w = winner _ _ _ _ _ _ (sym (expand_tries_all instance.task.now instance.constants.actions _ _ _ _ _ instance.matching.ready.weights o) ∙ h) in
      acting w.action w.count m ps e l (omega (arith, w.below))
      (chosen_acts (applies (packed_system instance.task.now instance.constants.actions) w.action s) (leb (action_weight instance.task.now w.action) d) (examine_outcomes (instance_examination instance (d - action_weight instance.task.now w.action)) ((packed_system instance.task.now instance.constants.actions).successors w.action s) w.count) w.action m w.count ps e w.wins)

  -- A goal's plan is one byte.
  goal_begins : (packed_system instance.task.now instance.constants.actions).goal s ≡ true → (o : Opening) → instance_opening instance d s 0 ≡ o → (p : Plan) (k : ℕ) → instance_examination instance d s 0 ≡ succeeded p k → (plan_size p ≡ 1) × (plan_head p ≡ 254) × (k ≤ instance.constants.budget)
  goal_begins g Opening.Spent o p k h = absurd (stop_no_success (spent_stops _ (packed_invariant instance.task.now instance.constants.actions instance.matching.ready.weights) _ _ _ _ _ o) h)
  goal_begins g Opening.Cut o p k h = absurd (failure_no_success (cut_fails _ (packed_invariant instance.task.now instance.constants.actions instance.matching.ready.weights) _ _ _ _ _ o) h)
  goal_begins g Opening.Expand o p k h = let n = (expand_facts _ (packed_invariant instance.task.now instance.constants.actions instance.matching.ready.weights) _ _ _ _ _ o (omega arith)).1 in let z : ◌≡◌ {A = ℕ} 0 1 = cc in absurd (omega arith)
  goal_begins g Opening.Arrived o p k h = let I = packed_invariant instance.task.now instance.constants.actions instance.matching.ready.weights in let q = sym (arrived_succeeds _ I _ _ _ _ _ o) ∙ h in let e : arrived ≡ p = cc in let n : suc 0 ≡ k = cc in
      let b = opened_below _ I _ _ _ _ _ o arrived_not_spent (omega arith) in rw (← e) (arrived_size, arrived_head, omega arith)

  pub goal_starts : {b : Bool} → b ≡ eqb (bit_and s (goal_mask instance.task.now)) (goal_value instance.task.now) → b ≡ true → Starts (instance_examination instance) instance.constants.budget d s memory 1 254
  goal_starts e t = record { begins = λ p k h. goal_begins (packed_goal instance.task.now instance.constants.actions s e ∙ t) (instance_opening instance d s 0) refl p k h; remembers = x.remembers }

  -- What the slot of the state says of its plan.
  pub recalled_starts : {k n b : ℕ} → Stores memory (stored s d k n b) → k ≤ instance.constants.budget → Starts (instance_examination instance) instance.constants.budget d s memory n b
  recalled_starts {k} {n} {b} h l = record { begins = λ p j f. by_size p j f (ℕ_discrete n 0); remembers = x.remembers }
    where
      by_size : (p : Plan) (j : ℕ) → instance_examination instance d s 0 ≡ succeeded p j → Dec (n ≡ 0) → (plan_size p ≡ n) × (plan_head p ≡ b) × (j ≤ instance.constants.budget)
      by_size p j f (yes z) = absurd (failure_no_success ((x.remembers.correct _ h).fails z 0 (omega arith)) f)
      by_size p j f (no z) = let w = (x.remembers.correct _ h).wins (not_zero n z) in let q = sym (w.succeeds 0 (omega arith)) ∙ f in let e : w.plan ≡ p = cc in let i : 0 + k ≡ j = cc in
          rw (← e) (w.sized, w.headed, omega arith)

  -- It may be examined, with any number that stands for its value.
  pub again_examinable : {value : ℕ} → Estimated (instance_value instance s) value → Examinable instance memory s value d 0
  again_examinable e = record { remembers = x.remembers; within = omega arith; shallow = x.shallow; valued = e }

  -- What examining it again answers.
  module _ {later : List Slot} {a : Ending} (h : Examines plan_size plan_head (instance_examination instance) instance.constants.budget (instance_examination instance d s 0) 0 later a) where
    pub never_stops : {e : ℕ} → a ≡ Stopped e → ⊥
    never_stops {e} f = stop_no_success (stop_of_ending (instance_examination instance d s 0) e (rw f at h)).0 x.is

    pub never_fails : {e : ℕ} → a ≡ Failed e → ⊥
    never_fails {e} f = failure_no_success (failure_of_ending (instance_examination instance d s 0) e (rw f at h)).0 x.is

    pub examined_starts : {e n b : ℕ} → a ≡ Succeeded e n b → Starts (instance_examination instance) instance.constants.budget d s later n b
    examined_starts {e} {n} {b} f = record { begins = λ p k g. plan_begins (success_of_ending (instance_examination instance d s 0) e n b (rw f at h)) g; remembers = h.remembers }

  acts_by : (p : Plan) (e b m : ℕ) → instance_examination instance d s 0 ≡ succeeded p e → e ≤ instance.constants.budget → plan_head p ≡ b → m ≡ b → (b ≡ 254 → ⊥) → Acts instance d s m p
  unfolding plan_head
  acts_by arrived e b m h l k f n = absurd (n (sym k))
  acts_by (act j ps) e b m h l k f n = rw (f ∙ sym k) (acts_so j ps e h l)

  small_by : (p : Plan) (e b : ℕ) → instance_examination instance d s 0 ≡ succeeded p e → e ≤ instance.constants.budget → plan_head p ≡ b → b < 256
  unfolding plan_head
  small_by arrived e b h l k = omega arith
  small_by (act j ps) e b h l k = let a = acts_so j ps e h l in omega (arith, k, a.within, instance.matching.ready.few_actions)

  arrived_by : (p : Plan) (e b byte at : ℕ) (later written : List Slot) (old new : List ℕ) → instance_examination instance d s 0 ≡ succeeded p e → e ≤ instance.constants.budget → plan_head p ≡ b → b ≡ 254 → new ≡ set old at byte → byte ≡ b →
      Remembers (instance_examination instance) instance.constants.budget later → Stands (instance_examination instance) written old at → Written (instance_examination instance) instance.constants.budget p at later written old new (at + 1)
  unfolding plan_head encode
  arrived_by arrived e b byte at later written old new h l k n u v m t = rw (u, v, n) (record { after = refl; keeps = keeps_stored at 254 old; holds = holds_stored at 254 old; remembers = m; stands = stands_stored _ t _ _ refl })
  arrived_by (act j ps) e b byte at later written old new h l k n u v m t = let a = acts_so j ps e h l in absurd (omega (arith, k, n, a.within, instance.matching.ready.few_actions))

  -- The plan by its start: its first byte is a byte, and its action one of the task's.
  module _ {later : List Slot} {n b : ℕ} (t : Starts (instance_examination instance) instance.constants.budget d s later n b) where
    start : (plan_size x.found ≡ n) × (plan_head x.found ≡ b) × (x.made ≤ instance.constants.budget)
    start = t.begins x.found x.made x.is

    pub first_small : b < 256
    first_small = small_by x.found x.made b x.is start.2 start.1

    pub acts : {m : ℕ} → m ≡ b → (b ≡ 254 → ⊥) → Acts instance d s m x.found
    acts {m} f o = acts_by x.found x.made b m x.is start.2 start.1 f o

    pub arrived-written : {byte at : ℕ} {written : List Slot} {old new : List ℕ} → b ≡ 254 → new ≡ set old at byte → byte ≡ b → Stands (instance_examination instance) written old at → Writes instance d s at later written old new (at + 1)
    arrived-written {byte} {at} {written} {old} {new} o u v q = λ p k f. let i = t.begins p k f in arrived_by p k b byte at later written old new f i.2 i.1 o u v t.remembers q

-- In the middle of a row of plans, whose outcomes xs are left: they succeed, and their bytes from `end` on make the whole plan p at `at`.
pub record Writing (r : ℕ → ℕ → Result Plan) (budget : ℕ) (xs : List ℕ) (p : Plan) (at end : ℕ) (old plan : List ℕ) : Type 0 where
  pub left : Plans
  pub from : ℕ
  pub to : ℕ
  pub succeeds : examine_outcomes r xs from ≡ succeeded left to
  pub budgeted : to ≤ budget
  pub place : end + plans_size left ≡ at + plan_size p
  pub past : at ≤ end
  pub near : at + plan_size p ≤ 1000000
  pub fits : at + plan_size p ≤ length plan
  pub same_length : length plan ≡ length old
  pub keeps : Keeps at old plan
  pub finish : (new : List ℕ) → length new ≡ length plan → Keeps end plan new → Holds (encodes left) end new → Holds (encode p) at new

writing_begins : (instance : Instance) (d s m b byte n l at : ℕ) (p : Plan) (old mid : List ℕ) → Acts instance d s m p → at + plan_size p ≤ 1000000 → at + plan_size p ≤ length old → m ≡ b → l ≡ d - action_weight instance.task.now m → n ≡ outcome_count instance.task.now m → mid ≡ set old at byte → byte ≡ b →
    Writing (instance_examination instance l) instance.constants.budget (tabulate (λ k. bit_or (bit_and s (keep_mask instance.task.now m k)) (set_value instance.task.now m k)) 0 (n - 0)) p at (at + 1) mid mid
unfolding encode packed_system
writing_begins instance d s m b byte n l at p old mid a y z f w e u v = rw (sub-zero, e, w, a.is, u, v, ← f) (record {
  left = a.rest;
  from = a.from;
  to = a.to;
  succeeds = a.succeeds;
  budgeted = a.budgeted;
  place = omega arith;
  past = omega arith;
  near = rw a.is at y;
  fits = omega (arith, rw a.is at z, length-set old at m);
  same_length = refl;
  keeps = keeps_itself at (set old at m);
  finish = λ new q k h. holds_joined at (at + 1) (set old at m) new (m ∷ []) (encodes a.rest) q refl (holds_stored at m old) k h;
})

-- The next outcome of a row that succeeds: its state succeeds at the count 0 too.
record Next (r : ℕ → ℕ → Result Plan) (budget x : ℕ) (xs : List ℕ) (ps : Plans) (to : ℕ) : Type 0 where
  pub plan : Plan
  pub rest : Plans
  pub made : ℕ
  pub from : ℕ
  pub is : ps ≡ plan then rest
  pub succeeds : r x 0 ≡ succeeded plan made
  pub goes_on : examine_outcomes r xs from ≡ succeeded rest to

row_succeeds : (x : Result Plans) (p : Plan) (ps : Plans) (e : ℕ) → and_then x (λ qs c. succeeded (p then qs) c) ≡ succeeded ps e → (qs : Plans) × (ps ≡ p then qs) × (x ≡ succeeded qs e)
unfolding and_then
row_succeeds (succeeded qs i) p ps e h = (qs, cc, cc)
row_succeeds (failed i) p ps e h = let z : ◌≡◌ {A = ℕ} 0 1 = cc in absurd (omega arith)
row_succeeds (stopped i) p ps e h = let z : ◌≡◌ {A = ℕ} 0 1 = cc in absurd (omega arith)

module _ (Y : System ℕ) (h : ℕ → ℕ∞) (budget d : ℕ) where
  grows : (x c : ℕ) → c ≤ count_of (examination Y h budget d x c)
  unfolding examination
  grows x c = count_grows Y h budget (suc d) d x c

  next_outcome : (x : ℕ) (xs : List ℕ) (c e : ℕ) (ps : Plans) → e ≤ budget → examine_outcomes (examination Y h budget d) (x ∷ xs) c ≡ succeeded ps e → Next (examination Y h budget d) budget x xs ps e
  unfolding examine_outcomes and_then
  next_outcome x xs c e ps l q = first (examination Y h budget d x c) refl q
    where
      first : (y : Result Plan) → examination Y h budget d x c ≡ y → and_then y (λ p c₁. and_then (examine_outcomes (examination Y h budget d) xs c₁) (λ qs c₂. succeeded (p then qs) c₂)) ≡ succeeded ps e → Next (examination Y h budget d) budget x xs ps e
      first (succeeded p i) g f = let t = row_succeeds (examine_outcomes (examination Y h budget d) xs i) p ps e f in
          let a : c ≤ i = rw g at (grows x c) in
          let b : i ≤ e = rw t.2 at (outcomes_grow (examination Y h budget d) grows xs i) in
          let z : i ≡ c + (i - c) = omega arith in
          record { plan = p; rest = t.0; made = 0 + (i - c); from = i; is = t.1; succeeds = succeeded_anywhere Y h budget d x p c (i - c) 0 (g ∙ ap (succeeded p) z) (omega arith); goes_on = t.2 }
      first (failed i) g f = let z : ◌≡◌ {A = ℕ} 0 1 = cc in absurd (omega arith)
      first (stopped i) g f = let z : ◌≡◌ {A = ℕ} 0 1 = cc in absurd (omega arith)

  module _ (f : ℕ → ℕ) (k n x : ℕ) (p : Plan) (at end : ℕ) (old plan : List ℕ) (l : k < n) (e : x ≡ f k) (v : Writing (examination Y h budget d) budget (tabulate f k (n - k)) p at end old plan) where
    writing_next : Next (examination Y h budget d) budget x (tabulate f (k + 1) (n - (k + 1))) v.left v.to
    writing_next = next_outcome x _ v.from v.to v.left v.budgeted (rw e (rw (successors_step f k n l) at v.succeeds))

    next_fits : end + plan_size writing_next.plan ≤ at + plan_size p
    unfolding encodes
    next_fits = let a = v.place in let b = ap (λ (ps : Plans). plans_size ps) writing_next.is in let z = length-append (encode writing_next.plan) (encodes writing_next.rest) in omega (arith, a, b, z)

    writing_goes_on : (r : ℕ → ℕ → ℕ → Result Plan) (b after : ℕ) (memory written : List Slot) (new : List ℕ) → length new ≡ length plan → Written r b writing_next.plan end memory written plan new after → Writing (examination Y h budget d) budget (tabulate f (k + 1) (n - (k + 1))) p at after old new
    unfolding encodes
    writing_goes_on r b after memory written new q w =
        let a = v.place in let i = writing_next.is in let t = ap (λ (ps : Plans). plans_size ps) i in let z = length-append (encode writing_next.plan) (encodes writing_next.rest) in
        record {
          left = writing_next.rest;
          from = writing_next.from;
          to = v.to;
          succeeds = writing_next.goes_on;
          budgeted = v.budgeted;
          place = omega (arith, a, t, z, w.after);
          past = omega (arith, v.past, w.after);
          near = v.near;
          fits = omega (arith, v.fits, q);
          same_length = q ∙ v.same_length;
          keeps = keeps_trans at end old plan new v.past v.keeps w.keeps;
          finish = λ last m s u. v.finish last (m ∙ q) (keeps_trans end after plan new last (omega (arith, w.after)) w.keeps s)
              (rw i (holds_joined end after new last (encode writing_next.plan) (encodes writing_next.rest) m w.after w.holds s u));
        }

-- The row is written: so is the plan, which may be noted.
writing_ends : (f : ℕ → ℕ) (k n byte : ℕ) {r : ℕ → ℕ → Result Plan} {budget b : ℕ} {p : Plan} {at end : ℕ} {old mid plan : List ℕ} {memory written : List Slot} (g : ℕ → ℕ → ℕ → Result Plan) → n ≤ k → Writing r budget (tabulate f k (n - k)) p at end mid plan → mid ≡ set old at byte → Remembers g b memory → Stands g written plan end → Written g b p at memory written old plan end
unfolding examine_outcomes encodes
writing_ends f k n byte {at = at} {end = end} {old = old} {plan = plan} g l v u m t =
    let e = rw (successors_end f k n l) at v.succeeds in let q : done ≡ v.left = cc in let z = ap (λ (ps : Plans). plans_size ps) q in
    record { after = omega (arith, v.place, z); keeps = keeps_trans at at old (set old at byte) plan (omega arith) (keeps_stored at byte old) (rw u at v.keeps); holds = v.finish plan refl (keeps_itself end plan) (rw (← q) (holds_nothing end plan)); remembers = m; stands = t }

written_noted : {g : ℕ → ℕ → ℕ → Result Plan} {b : ℕ} {p : Plan} {at end : ℕ} {old plan : List ℕ} {memory written : List Slot} (later : List Slot) (s d k n : ℕ) → Written g b p at memory written old plan end → Noted written later (stored s d n at 0) → g d s 0 ≡ succeeded p k → plan_size p ≡ n → Written g b p at memory later old plan end
written_noted {g} {p = p} {at = at} later s d k n w t e q = let a = w.after in record { after = a; keeps = w.keeps; holds = w.holds; remembers = w.remembers; stands = stands_noted g w.stands later s d n at 0 k p t e q (omega arith) w.holds }

written_same : {g : ℕ → ℕ → ℕ → Result Plan} {b : ℕ} {p q : Plan} {at end : ℕ} {old plan : List ℕ} {memory written : List Slot} → p ≡ q → Written g b p at memory written old plan end → Written g b q at memory written old plan end
written_same e w = rw (← e) w

-- In the middle of the loop over the outcomes of the plan's action m, of which k are written: the plan, of n bytes in all, and what is known besides.
pub record Underway (instance : Instance) (s d m left end k at to n : ℕ) (memory written : List Slot) (old plan : List ℕ) : Type 0 where
  pub found : Plan
  pub made : ℕ
  pub is : instance_examination instance d s 0 ≡ succeeded found made
  pub sized : plan_size found ≡ n
  pub writing : Writing (instance_examination instance left) instance.constants.budget (tabulate (λ j. bit_or (bit_and s (keep_mask instance.task.now m j)) (set_value instance.task.now m j)) k (end - k)) found at to old plan
  pub reached : k ≤ end
  pub remembers : Remembers (instance_examination instance) instance.constants.budget memory
  pub stands : Stands (instance_examination instance) written plan to

pub underway_begins : {instance : Instance} {memory written : List Slot} {plan : List ℕ} {later : List Slot} {mid : List ℕ} {s d at n b m left end byte : ℕ} (w : Writable instance memory written plan s d at) →
    Starts (instance_examination instance) instance.constants.budget d s later n b → m ≡ b → (b ≡ 254 → ⊥) → left ≡ d - action_weight instance.task.now m → end ≡ outcome_count instance.task.now m → mid ≡ set plan at byte → byte ≡ b →
    Underway instance s d m left end 0 at (at + 1) n later written mid mid
underway_begins {instance} {plan = plan} {mid = mid} {s = s} {d = d} {at = at} {b = b} {m = m} {left = left} {end = end} {byte = byte} w t f o g e u v = let x = w.succeeding in record {
  found = x.found;
  made = x.made;
  is = x.is;
  sized = (t.begins x.found x.made x.is).0;
  writing = writing_begins instance d s m b byte end left at x.found plan mid (acts x t f o) w.near w.fits f g e u v;
  reached = omega arith;
  remembers = t.remembers;
  stands = stands_stored _ w.stands mid byte u;
}

module _ {instance : Instance} {memory written : List Slot} {old plan : List ℕ} {s d m left end k at to n : ℕ} (i : Underway instance s d m left end k at to n memory written old plan) where
  -- The next outcome: the plan of the state after it may be written.
  module _ {x : ℕ} (l : k < end) (e : x ≡ bit_or (bit_and s (keep_mask instance.task.now m k)) (set_value instance.task.now m k)) where
    abbrev next : Next (instance_examination instance left) instance.constants.budget x (tabulate (λ j. bit_or (bit_and s (keep_mask instance.task.now m j)) (set_value instance.task.now m j)) (k + 1) (end - (k + 1))) i.writing.left i.writing.to
    next = writing_next (packed_system instance.task.now instance.constants.actions) (instance_value instance) instance.constants.budget left (λ j. bit_or (bit_and s (keep_mask instance.task.now m j)) (set_value instance.task.now m j)) k end x i.found at to old plan l e i.writing

    next_within : to + plan_size next.plan ≤ at + plan_size i.found
    next_within = next_fits (packed_system instance.task.now instance.constants.actions) (instance_value instance) instance.constants.budget left (λ j. bit_or (bit_and s (keep_mask instance.task.now m j)) (set_value instance.task.now m j)) k end x i.found at to old plan l e i.writing

    pub next_writable : left < 256 → Writable instance memory written plan x left to
    next_writable h = record {
      succeeding = record { remembers = i.remembers; shallow = h; found = next.plan; made = next.made; is = next.succeeds };
      fits = omega (arith, next_within, i.writing.fits);
      near = omega (arith, next_within, i.writing.near);
      stands = i.stands;
    }

    pub underway_goes_on : {after : ℕ} {memory₁ written₁ : List Slot} {new : List ℕ} → length new ≡ length plan → Writes instance left x to memory₁ written₁ plan new after → Underway instance s d m left end (k + 1) at after n memory₁ written₁ old new
    underway_goes_on {after} {memory₁} {written₁} {new} q h = let w = h next.plan next.made next.succeeds in record {
      found = i.found;
      made = i.made;
      is = i.is;
      sized = i.sized;
      writing = writing_goes_on (packed_system instance.task.now instance.constants.actions) (instance_value instance) instance.constants.budget left (λ j. bit_or (bit_and s (keep_mask instance.task.now m j)) (set_value instance.task.now m j)) k end x i.found at to old plan l e i.writing (instance_examination instance) instance.constants.budget after memory₁ written₁ new q w;
      reached = omega arith;
      remembers = w.remembers;
      stands = w.stands;
    }

  -- The plan is noted, which has room: no outcome is left.
  pub underway_near : at + n ≤ 1000000
  underway_near = omega (arith, i.sized, i.writing.near)

  pub underway_ends : {first : List ℕ} {later : List Slot} (byte : ℕ) → end ≤ k → old ≡ set first at byte → Noted written later (stored s d n at 0) → Writes instance d s at memory later first plan to
  underway_ends {first} {later} byte l u t = λ p j f. written_same (same_plan i.is f)
      (written_noted later s d i.made n (writing_ends (λ j. bit_or (bit_and s (keep_mask instance.task.now m j)) (set_value instance.task.now m j)) k end byte (instance_examination instance) l i.writing u i.remembers i.stands) t i.is i.sized)
