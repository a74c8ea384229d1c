-- Laws of how examinations end: an ending tells the definition's result, a result its ending; what is left of a row of outcomes.
-- Assumes nothing.
use Rattle.std.proofs.Common.{◌≡◌, ℕ, ◌+◌, ◌-◌, ◌<◌, ◌≤◌, leb, List, [], ◌∷◌, refl, ap, ◌∙◌, arith, length-append, le-leb}
use native.Mathlib.Nat.{sub-zero}
use lib.Bits.{bit_and, bit_or}
use Rattle.planning.specs.Finite.{choose, tabulate}
use Rattle.planning.specs.Plan.{Plan, arrived, act, Plans, done, ◌then◌, encode, encodes}
use Rattle.planning.specs.Search.{Result, succeeded, failed, stopped, and_then, examine_outcomes}
use Rattle.packed_task.specs.Packed.{outcome_count, action_weight, keep_mask, set_value, packed_system}
use Rattle.search.specs.declared.examine.Ending.TheVariants.{Stopped, Failed, Succeeded}
use Rattle.search.specs.Examination.{plan_size, plan_head, plans_size, visit_count, size_by, ending_of}
use Rattle.search.specs.Memory.{Remembers}
use Rattle.search.specs.Cycle.{Examines}
use Rattle.search.proofs.Openings.{successors_step, successors_end}
use Rattle.search.specs.declared.memory.Slot.{Slot}

-- What each ending says of the result: the result itself, and the range of its numbers.
pub record Success {A : Type 0} (size head : A → ℕ) (x : Result A) (c budget e n b : ℕ) : Type 0 where
  pub found : A
  pub is : x ≡ succeeded found e
  pub sized : size found ≡ n
  pub headed : head found ≡ b
  pub counted : c ≤ e
  pub budgeted : e ≤ budget
  pub short : n ≤ e - c

module _ {A : Type 0} {size head : A → ℕ} {r : ℕ → ℕ → ℕ → Result Plan} {budget c : ℕ} {memory : List Slot} where
  pub success_of_ending : (x : Result A) (e n b : ℕ) → Examines size head r budget x c memory (Succeeded e n b) → Success size head x c budget e n b
  unfolding ending_of visit_count size_by
  success_of_ending (succeeded a i) e n b h =
      let q = h.ending in
      let u : i ≡ e = cc in
      let v : size a ≡ n = cc in
      let w : head a ≡ b = cc in
      record { found = a; is = ap (succeeded a) u; sized = v; headed = w; counted = omega (arith, h.counted); budgeted = omega (arith, h.budgeted); short = omega (arith, h.short) }
  success_of_ending (failed i) e n b h = let q = h.ending in let z : ◌≡◌ {A = ℕ} 0 1 = cc in absurd (omega arith)
  success_of_ending (stopped i) e n b h = let q = h.ending in let z : ◌≡◌ {A = ℕ} 0 1 = cc in absurd (omega arith)

  pub failure_of_ending : (x : Result A) (e : ℕ) → Examines size head r budget x c memory (Failed e) → (x ≡ failed e) × (c ≤ e) × (e ≤ budget)
  unfolding ending_of visit_count
  failure_of_ending (succeeded a i) e h = let q = h.ending in let z : ◌≡◌ {A = ℕ} 0 1 = cc in absurd (omega arith)
  failure_of_ending (failed i) e h = let q = h.ending in let u : i ≡ e = cc in (ap failed u, omega (arith, h.counted), omega (arith, h.budgeted))
  failure_of_ending (stopped i) e h = let q = h.ending in let z : ◌≡◌ {A = ℕ} 0 1 = cc in absurd (omega arith)

  pub stop_of_ending : (x : Result A) (e : ℕ) → Examines size head r budget x c memory (Stopped e) → (x ≡ stopped e) × (c ≤ e) × (e ≤ budget)
  unfolding ending_of visit_count
  stop_of_ending (succeeded a i) e h = let q = h.ending in let z : ◌≡◌ {A = ℕ} 0 1 = cc in absurd (omega arith)
  stop_of_ending (failed i) e h = let q = h.ending in let z : ◌≡◌ {A = ℕ} 0 1 = cc in absurd (omega arith)
  stop_of_ending (stopped i) e h = let q = h.ending in let u : i ≡ e = cc in (ap stopped u, omega (arith, h.counted), omega (arith, h.budgeted))

-- The other way.
module _ {A : Type 0} (size head : A → ℕ) {r : ℕ → ℕ → ℕ → Result Plan} {budget c e : ℕ} {memory : List Slot} {x : Result A} (m : Remembers r budget memory) (l : c ≤ e) (k : e ≤ budget) where
  pub ends_success : (a : A) (n b : ℕ) → x ≡ succeeded a e → size a ≡ n → head a ≡ b → n ≤ e - c → Examines size head r budget x c memory (Succeeded e n b)
  unfolding ending_of visit_count size_by
  ends_success a n b q s h t = rw (q, ← s, ← h) (record { ending = refl; counted = l; budgeted = k; short = omega arith; remembers = m })

  pub ends_failure : x ≡ failed e → Examines size head r budget x c memory (Failed e)
  unfolding ending_of visit_count size_by
  ends_failure q = rw q (record { ending = refl; counted = l; budgeted = k; short = omega arith; remembers = m })

  pub ends_stop : x ≡ stopped e → Examines size head r budget x c memory (Stopped e)
  unfolding ending_of visit_count size_by
  ends_stop q = rw q (record { ending = refl; counted = l; budgeted = k; short = omega arith; remembers = m })

-- In the middle of a row of outcomes, with n bytes of plans so far: the result of those left, xs, from the count c makes the whole.
pub record Resumes (r : ℕ → ℕ → Result Plan) (xs : List ℕ) (whole : Result Plans) (c n : ℕ) : Type 0 where
  pub join : Plans → Plans
  pub rest : whole ≡ and_then (examine_outcomes r xs c) (λ ps c₁. succeeded (join ps) c₁)
  pub longer : (ps : Plans) → plans_size (join ps) ≡ n + plans_size ps

then_itself : (x : Result Plans) → x ≡ and_then x (λ ps c. succeeded ps c)
unfolding and_then
then_itself (succeeded ps c) = refl
then_itself (failed c) = refl
then_itself (stopped c) = refl

then_joined : (x : Result Plans) (p : Plan) (f : Plans → Plans) → and_then (and_then x (λ ps c. succeeded (p then ps) c)) (λ ps c. succeeded (f ps) c) ≡ and_then x (λ ps c. succeeded (f (p then ps)) c)
unfolding and_then
then_joined (succeeded ps c) p f = refl
then_joined (failed c) p f = refl
then_joined (stopped c) p f = refl

module _ {r : ℕ → ℕ → Result Plan} {x : ℕ} {xs : List ℕ} {whole : Result Plans} {c n e : ℕ} (v : Resumes r (x ∷ xs) whole c n) where
  pub row_stops : r x c ≡ stopped e → whole ≡ stopped e
  unfolding examine_outcomes and_then
  row_stops q = v.rest ∙ rw q

  pub row_fails : r x c ≡ failed e → whole ≡ failed e
  unfolding examine_outcomes and_then
  row_fails q = v.rest ∙ rw q

  pub row_goes_on : (p : Plan) (k : ℕ) → r x c ≡ succeeded p e → plan_size p ≡ k → Resumes r xs whole e (n + k)
  unfolding examine_outcomes and_then encodes
  row_goes_on p k q s = record {
    join = λ ps. v.join (p then ps);
    rest = v.rest ∙ rw q (then_joined (examine_outcomes r xs e) p v.join);
    longer = λ ps. v.longer (p then ps) ∙ omega (arith, s, length-append (encode p) (encodes ps));
  }

pub row_ends : {r : ℕ → ℕ → Result Plan} {whole : Result Plans} {c n : ℕ} → (v : Resumes r [] whole c n) → (whole ≡ succeeded (v.join done) c) × (plans_size (v.join done) ≡ n)
unfolding examine_outcomes and_then encodes
row_ends v = (v.rest, v.longer done ∙ omega arith)

-- The row of an action's outcomes: as a whole, with its next outcome in front, and at its end.
pub row_begins : (task : List ℕ) (actions d m s n : ℕ) (r : ℕ → ℕ → ℕ → Result Plan) (c left : ℕ) → action_weight task m ≤ d → left ≡ d - action_weight task m → n ≡ outcome_count task m →
    Resumes (r left) (tabulate (λ k. bit_or (bit_and s (keep_mask task m k)) (set_value task m k)) 0 (n - 0))
    (choose (leb (action_weight task m) d) (λ u. examine_outcomes (r (d - action_weight task m)) ((packed_system task actions).successors m s) c) (λ u. failed c)) c 0
unfolding packed_system choose
row_begins task actions d m s n r c left b w e = rw (sub-zero, e, w, le-leb (action_weight task m) d b) (record { join = λ ps. ps; rest = then_itself _; longer = λ ps. omega arith })

pub row_next : (f : ℕ → ℕ) (k n x : ℕ) {r : ℕ → ℕ → Result Plan} {whole : Result Plans} {c z : ℕ} → k < n → x ≡ f k →
    Resumes r (tabulate f k (n - k)) whole c z → Resumes r (x ∷ tabulate f (k + 1) (n - (k + 1))) whole c z
row_next f k n x l e v = rw e (rw (successors_step f k n l) at v)

pub row_over : (f : ℕ → ℕ) (k n : ℕ) {r : ℕ → ℕ → Result Plan} {whole : Result Plans} {c z : ℕ} → n ≤ k →
    Resumes r (tabulate f k (n - k)) whole c z → Resumes r [] whole c z
row_over f k n l v = rw (successors_end f k n l) at v

pub act_size : (m : ℕ) (ps : Plans) (n : ℕ) → plans_size ps ≡ n → plan_size (act m ps) ≡ n + 1
unfolding encode
act_size m ps n e = omega (arith, e)

pub act_head : (m : ℕ) (ps : Plans) → plan_head (act m ps) ≡ m
unfolding plan_head
act_head m ps = refl

pub arrived_size : plan_size arrived ≡ 1
unfolding encode
arrived_size = refl

pub arrived_head : plan_head arrived ≡ 254
unfolding plan_head
arrived_head = refl
