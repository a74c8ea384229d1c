-- Laws of a memory of results: an empty one says nothing, what it says may be gone by, and a result that was seen may be added: it is true at
-- every count. Assumes nothing.
use Rattle.std.proofs.Common.{◌≡◌, ℕ, ◌+◌, ◌-◌, ◌*◌, ◌/◌, ◌%◌, ◌<◌, ◌≤◌, ◌⊎◌, List, length, get_or, set, replicate, sym, ap, ◌∙◌, inl, inr, ⊎_elim, arith, length-set, get_or-set_other, get_or-set_same}
use native.Mathlib.Decide.{ℕ_discrete}
use lib.Bits.{bit_and, and_le_r}
use lib.ListN.{length-replicate, get_or-replicate}
use Rattle.planning.specs.Extended.{ℕ∞}
use Rattle.planning.specs.Plan.{Plan}
use Rattle.planning.specs.System.{System}
use Rattle.planning.specs.Search.{Result, succeeded, failed, examination}
use Rattle.planning.proofs.Shift.{failed_anywhere, succeeded_anywhere}
use Rattle.search.specs.Examination.{plan_size, plan_head}
use Rattle.search.specs.declared.memory.Slot.{Slot}
use Rattle.search.specs.Memory.{Stored, stored, empty, stored_by, result_word, Stores, Correct, Remembers, Noted}

-- What is cut out of a word by a slot's mask names a slot.
pub and_below : (x n : ℕ) → 1 ≤ n → bit_and x (n - 1) < n
and_below x n l = let h = and_le_r x (n - 1) in omega (arith, h)

-- Empty slots say nothing.
pub nothing_stored : (n : ℕ) (w : Stored) → Stores (replicate n empty) w → ⊥
unfolding stored_by
nothing_stored n w h = let k : h.slot < n = omega (arith, h.inside, length-replicate {A = Slot} n empty) in
    let q : 0 ≡ w.made = rw (get_or-replicate {A = Slot} n h.slot empty empty k) at (ap (λ (v : Stored). v.made) h.stores) in omega (arith, h.some, q)

pub nothing_remembered : (r : ℕ → ℕ → ℕ → Result Plan) (budget n : ℕ) → 1 ≤ n → Remembers r budget (replicate n empty)
nothing_remembered r budget n l = record { long = omega (arith, length-replicate {A = Slot} n empty); correct = λ w h. absurd (nothing_stored n w h) }

-- The word of a slot, taken apart.
module _ (s d k n b : ℕ) (l : d < 256) (m : k < 1048576) (t : n < 1048576) (f : b < 256) where
  word_stored : stored_by (record { state = s; word = result_word d k n b }) ≡ stored s d k n b
  unfolding stored_by result_word
  word_stored = let w = d + 256 * k + 268435456 * n + 281474976710656 * b in
      let p : w % 256 ≡ d = omega arith in
      let q : w / 256 ≡ k + 1048576 * (n + 1048576 * b) = omega arith in
      let u : (k + 1048576 * (n + 1048576 * b)) % 1048576 ≡ k = omega arith in
      let v : w / 268435456 ≡ n + 1048576 * b = omega arith in
      let x : (n + 1048576 * b) % 1048576 ≡ n = omega arith in
      let y : w / 281474976710656 ≡ b = omega arith in
      let z : b % 256 ≡ b = omega arith in
      rw (p, q, u, v, x, y, z)

-- Slot j is given what x says.
module _ (old : List Slot) (j : ℕ) (x : Slot) (i : j < length old) where
  stored_before : (v : Stored) (h : Stores (set old j x) v) → Dec (h.slot ≡ j) → Stores old v ⊎ (v ≡ stored_by x)
  stored_before v h (yes e) = inr (sym h.stores ∙ ap stored_by (ap (λ (k : ℕ). get_or (set old j x) k empty) e ∙ get_or-set_same old j x empty i))
  stored_before v h (no e) = inl (record { slot = h.slot; inside = omega (arith, h.inside, length-set old j x); stores = ap stored_by (sym (get_or-set_other old j h.slot x empty (λ q. e (omega arith)))) ∙ h.stores; some = h.some })

pub slot_noted : (old : List Slot) (j s d k n b word : ℕ) → j < length old → d < 256 → k < 1048576 → n < 1048576 → b < 256 → word ≡ result_word d k n b →
    Noted old (set old j (record { state = s; word = word })) (stored s d k n b)
slot_noted old j s d k n b word l p q t f e = record {
  long = length-set old j _;
  besides = λ v h. rw (e, word_stored s d k n b p q t f) at (stored_before old j (record { state = s; word = word }) l v h (ℕ_discrete h.slot j));
}

-- A memory stays true that was made to say something that is so.
pub noted_remembers : (r : ℕ → ℕ → ℕ → Result Plan) (budget : ℕ) (old new : List Slot) (w : Stored) → Remembers r budget old → Noted old new w → Correct r budget w → Remembers r budget new
noted_remembers r budget old new w m n h = record { long = omega (arith, n.long, m.long); correct = λ v t. ⊎_elim (λ a. m.correct v a) (λ e. rw e h) (n.besides v t) }

-- An examination that ended at one count ends so at every count, after as many examinations.
module _ (Y : System ℕ) (h : ℕ → ℕ∞) (budget d s count c : ℕ) (old new : List Slot) (m : Remembers (examination Y h budget) budget old) (g : count ≤ c) where
  pub failure_remembered : Noted old new (stored s d (c - count) 0 0) → examination Y h budget d s count ≡ failed c → Remembers (examination Y h budget) budget new
  failure_remembered n e = let z : c ≡ count + (c - count) = omega arith in
      noted_remembers (examination Y h budget) budget old new _ m n (record { fails = λ q c' b. failed_anywhere Y h budget d s count (c - count) c' (e ∙ ap failed z) b; wins = λ q. absurd (omega arith) })

  pub success_remembered : (p : Plan) (k b : ℕ) → Noted old new (stored s d (c - count) k b) → examination Y h budget d s count ≡ succeeded p c → plan_size p ≡ k → plan_head p ≡ b → 1 ≤ k → k ≤ c - count → Remembers (examination Y h budget) budget new
  success_remembered p k b n e u v l t = let z : c ≡ count + (c - count) = omega arith in
      noted_remembers (examination Y h budget) budget old new _ m n (record { fails = λ q. absurd (omega arith); wins = λ q. record { plan = p; succeeds = λ c' x. succeeded_anywhere Y h budget d s p count (c - count) c' (e ∙ ap (succeeded p) z) x; sized = u; headed = v; short = t } })
