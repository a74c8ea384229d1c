-- Runs of stores, one store after the other, and the blank record as the stores that make it.
-- Assumes nothing.
use mathlib.Core.Path.{◌≡◌, refl, sym, ap, ◌∙◌}
use mathlib.Core.List.{List, [], ◌∷◌, ◌++◌, append_assoc, append-nil}
use Prim.Native.Nat.{ℕ, zero, suc, ◌+◌, ◌-◌, ◌≤◌, ◌<◌}
use native.Mathlib.Omega.{arith}
use lib.ListN.{length, take, drop, set, replicate, drop_of_length-le, length-replicate, length-set}
use lib.Seq.{sets, sets-eq, set_out, drop-drop}
use Rattle.task_record.specs.Layout.{record_size, at_goal, at_pattern, at_action, at_cost}
use Rattle.reader.specs.Grammar.{unused_action, unused_actions, blank}
use Rattle.reader.specs.Stores.{all_unnamed, clear_actions}

-- a part of a list put back as the values that are stored there
pub part_stored : (r vs : List ℕ) (at n : ℕ) → length vs ≡ n → at + n ≤ length r → take at r ++ (vs ++ drop (at + n - at) (drop at r)) ≡ sets r at vs
part_stored r vs at n e h =
    let f : at + n - at ≡ length vs = omega arith in
    rw (f, drop-drop (length vs) at r) (sym (append_assoc (take at r) vs (drop (at + length vs) r)) ∙ sym (sets-eq vs r at (omega arith)))

-- past the end nothing is stored
pub sets_out : (vs r : List ℕ) (at : ℕ) → length r ≤ at → sets r at vs ≡ r
sets_out [] r at h = refl
sets_out (v ∷ vs) r at h = rw (set_out r at v h) (sets_out vs r (suc at) (omega arith))

-- a run is stored whole where its front reaches the end of the cells
pub sets_fit : (vs r : List ℕ) (at n : ℕ) → (n < length vs → length r ≤ at + n) → sets r at (take n vs) ≡ sets r at vs
sets_fit [] r at zero h = refl
sets_fit [] r at (suc n) h = refl
sets_fit (v ∷ vs) r at zero h = sym (sets_out (v ∷ vs) r at (let k = h (omega arith) in omega arith))
sets_fit (v ∷ vs) r at (suc n) h = sets_fit vs (set r at v) (suc at) n (λ l. let k = h (omega arith) in let m = length-set r at v in omega arith)

-- a whole list stored from the start
pub sets_front : (out vs : List ℕ) (n : ℕ) → length vs ≡ n → n ≤ length out → sets out 0 vs ≡ vs ++ drop n out
sets_front out vs n e h =
    let f : 0 + length vs ≡ n = omega arith in
    sets-eq vs out 0 (omega arith) ∙ ap (λ (k : ℕ). vs ++ drop k out) f

-- every cell of a record stored over
pub fill_whole : (r : List ℕ) → length r ≡ record_size → sets r 0 (replicate record_size 255) ≡ all_unnamed
unfolding all_unnamed
fill_whole r e = sets_front r (replicate record_size 255) record_size (length-replicate {A = ℕ} record_size 255) (omega arith) ∙
    ap (λ (t : List ℕ). replicate record_size 255 ++ t) (drop_of_length-le r {i = record_size} (omega arith)) ∙ append-nil (replicate record_size 255)

-- one action more is cleared
pub clear_step : (m : ℕ) (r : List ℕ) → set (clear_actions m r) (at_action m) 0 ≡ clear_actions (m + 1) r
unfolding clear_actions
clear_step m r =
    let e : suc m ≡ m + 1 = omega arith in
    ap (λ (k : ℕ). clear_actions k r) e

pub clear_none : (r : List ℕ) → clear_actions 0 r ≡ r
unfolding clear_actions
clear_none r = refl

-- header and sizes, patterns, costs, and the outcome numbers of all actions cleared: the blank record
pub blank_by_stores : clear_actions 64 (sets (sets (sets all_unnamed 0 (replicate at_goal 0)) (at_pattern 0) (replicate (at_action 0 - at_pattern 0) 0)) (at_cost 0) (replicate (record_size - at_cost 0) 0)) ≡ blank
unfolding clear_actions all_unnamed blank unused_actions unused_action
blank_by_stores = refl
