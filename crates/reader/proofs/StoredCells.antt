-- What each cell holds after a run of stores, and in the blank record. Assumes nothing.
use mathlib.Core.Path.{◌≡◌, refl, ◌∙◌}
use mathlib.Core.List.{List, [], ◌∷◌, ◌++◌}
use Prim.Native.Nat.{ℕ, zero, suc, ◌+◌, ◌*◌, ◌≤◌, ◌<◌}
use native.Mathlib.Omega.{arith}
use lib.Dec.{ltb}
use lib.ListN.{length, get_or, set, replicate, length-set, get_or-replicate, get_or-append}
use lib.Seq.{sets, get_or-set_same, get_or-set_other, get_or-append-add}
use borrow.Author.Tests.{ltb-true, ltb-false}
use Rattle.task_record.specs.Layout.{record_size, at_goal, at_pattern, at_action, at_cost}
use Rattle.task_record.specs.Numbers.{byte}
use Rattle.reader.specs.Grammar.{unused_action, unused_actions, blank}
use Rattle.planning.proofs.Test.{by_test}

-- a cell of n from an offset on, or any other
pub inside_or_outside : {A : Type 0} (at n k : ℕ) → (at ≤ k → k < at + n → A) → ((at ≤ k → at + n ≤ k) → A) → A
inside_or_outside at n k inside outside =
    by_test (ltb k at)
    (λ t. let h = ltb-true k at t in outside (λ l. absurd (omega arith)))
    (λ t. let h = ltb-false k at t in
    by_test (ltb k (at + n))
    (λ u. inside h (ltb-true k (at + n) u))
    (λ u. outside (λ l. ltb-false k (at + n) u)))

-- a cell outside of a run of stores is as it was
pub outside_sets : (vs r : List ℕ) (at k : ℕ) → (at ≤ k → at + length vs ≤ k) → byte (sets r at vs) k ≡ byte r k
outside_sets [] r at k out = refl
outside_sets (v ∷ vs) r at k out =
    outside_sets vs (set r at v) (suc at) k (λ l. let o = out (omega arith) in omega arith)
    ∙ get_or-set_other r at k v 0 (λ e. let o = out (omega arith) in absurd (omega arith))

-- a cell inside of it has its value
pub inside_sets : (vs r : List ℕ) (at j : ℕ) → j < length vs → at + length vs ≤ length r → byte (sets r at vs) (at + j) ≡ get_or vs j 0
inside_sets [] r at j l h = absurd (omega arith)
inside_sets (v ∷ vs) r at zero l h =
    let e : at + 0 ≡ at = omega arith in
    rw e (outside_sets vs (set r at v) (suc at) at (λ q. absurd (omega arith)) ∙ get_or-set_same r at v 0 (omega arith))
inside_sets (v ∷ vs) r at (suc j) l h =
    let e : at + suc j ≡ suc at + j = omega arith in
    let n = length-set r at v in
    rw e (inside_sets vs (set r at v) (suc at) j (omega arith) (omega arith))

-- The blank record: header and sizes are 0, goal and start 255, patterns 0; then its actions and their costs.
abbrev blank_tail : List ℕ
blank_tail = unused_actions 64 ++ replicate 64 0

pub blank_whole : length blank ≡ record_size
unfolding blank unused_actions unused_action
blank_whole = refl

-- its header and its sizes
pub blank_front : (k : ℕ) → k < at_goal → byte blank k ≡ 0
unfolding blank
blank_front k l =
    get_or-append (replicate at_goal 0) (replicate 32 255 ++ (replicate 128 0 ++ blank_tail)) 0 k l
    ∙ get_or-replicate at_goal k 0 0 l

-- its goal and its start
pub blank_states : (k : ℕ) → k < 32 → byte blank (at_goal + k) ≡ 255
unfolding blank
blank_states k l =
    get_or-append-add (replicate at_goal 0) (replicate 32 255 ++ (replicate 128 0 ++ blank_tail)) k 0
    ∙ get_or-append (replicate 32 255) (replicate 128 0 ++ blank_tail) 0 k l
    ∙ get_or-replicate 32 k 255 0 l

-- its patterns
pub blank_patterns : (k : ℕ) → k < 128 → byte blank (at_pattern 0 + k) ≡ 0
unfolding blank
blank_patterns k l =
    let e : at_pattern 0 + k ≡ 24 + (32 + k) = omega arith in
    rw e (get_or-append-add (replicate at_goal 0) (replicate 32 255 ++ (replicate 128 0 ++ blank_tail)) (32 + k) 0
    ∙ get_or-append-add (replicate 32 255) (replicate 128 0 ++ blank_tail) k 0
    ∙ get_or-append (replicate 128 0) blank_tail 0 k l
    ∙ get_or-replicate 128 k 0 0 l)

-- An action that is not used has no outcome, and names nothing.
pub unused_cell : (n m c : ℕ) → m < n → c < 145 → get_or (unused_actions n) (145 * m + c) 0 ≡ get_or unused_action c 0
unfolding unused_actions unused_action
unused_cell zero m c h l = absurd (omega arith)
unused_cell (suc n) zero c h l =
    let e : 145 * 0 + c ≡ c = omega arith in
    rw e (get_or-append (0 ∷ replicate 144 255) (unused_actions n) 0 c l)
unused_cell (suc n) (suc m) c h l =
    let e : 145 * suc m + c ≡ 145 + (145 * m + c) = omega arith in
    rw e (get_or-append-add (0 ∷ replicate 144 255) (unused_actions n) (145 * m + c) 0 ∙ unused_cell n m c (omega arith) l)

unused_whole : length (unused_actions 64) ≡ 9280
unfolding unused_actions unused_action
unused_whole = refl

-- each of its 64 actions is one that is not used
pub blank_actions : (m c : ℕ) → m < 64 → c < 145 → byte blank (at_action m + c) ≡ get_or unused_action c 0
unfolding blank
blank_actions m c h l =
    let e : at_action m + c ≡ 24 + (32 + (128 + (145 * m + c))) = omega arith in
    rw e (get_or-append-add (replicate at_goal 0) (replicate 32 255 ++ (replicate 128 0 ++ blank_tail)) (32 + (128 + (145 * m + c))) 0
    ∙ get_or-append-add (replicate 32 255) (replicate 128 0 ++ blank_tail) (128 + (145 * m + c)) 0
    ∙ get_or-append-add (replicate 128 0) blank_tail (145 * m + c) 0
    ∙ get_or-append (unused_actions 64) (replicate 64 0) 0 (145 * m + c) (let n = unused_whole in omega arith)
    ∙ unused_cell 64 m c h l)

-- its actions have no outcome
pub blank_count : (m : ℕ) → m < 64 → byte blank (at_action m) ≡ 0
unfolding unused_action
blank_count m h = let e : at_action m + 0 ≡ at_action m = omega arith in rw e at (blank_actions m 0 h (omega arith))

-- and name nothing
pub blank_block : (m c : ℕ) → m < 64 → c < 144 → byte blank (at_action m + suc c) ≡ 255
unfolding unused_action
blank_block m c h l = blank_actions m (suc c) h (omega arith) ∙ get_or-replicate 144 c 255 0 l

-- and cost 0
pub blank_cost : (m : ℕ) → m < 64 → byte blank (at_cost m) ≡ 0
unfolding blank
blank_cost m h =
    let n = unused_whole in
    let e : at_cost m ≡ 24 + (32 + (128 + (length (unused_actions 64) + m))) = omega arith in
    rw e (get_or-append-add (replicate at_goal 0) (replicate 32 255 ++ (replicate 128 0 ++ blank_tail)) (32 + (128 + (length (unused_actions 64) + m))) 0
    ∙ get_or-append-add (replicate 32 255) (replicate 128 0 ++ blank_tail) (128 + (length (unused_actions 64) + m)) 0
    ∙ get_or-append-add (replicate 128 0) blank_tail (length (unused_actions 64) + m) 0
    ∙ get_or-append-add (unused_actions 64) (replicate 64 0) m 0
    ∙ get_or-replicate 64 m 0 0 h)
