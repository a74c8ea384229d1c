-- The bytes of an upgraded record: those of the stored one, then the costs; and how the code writes them. Assumes nothing.
use Rattle.std.proofs.Common.{◌≡◌, ℕ, ◌+◌, ◌-◌, ◌<◌, ◌≤◌, ltb, List, ◌++◌, length, get_or, take, drop, replicate, length-append, length-drop, get_or-drop, ltb-true, ltb-false, lt-ltb, le-ltb, sym, ap, ◌∙◌, zero-add, arith, ext_get_or, length-take-le, get_or-take}
use lib.Seq.{take_at, drop_at, drop-drop}
use mathlib.Core.List.{append_assoc}
use Rattle.std.proofs.lemmas.List.{get_or_append_left, get_or-append_right, get_or-replicate, length-replicate}
use Rattle.planning.proofs.Test.{by_test}
use Rattle.planning.proofs.Finite.{length-tabulate, get_or_tabulate}
use Rattle.task_record.specs.Layout.{record_size, at_cost}
use Rattle.task_record.proofs.Sixteens.{zeros}
use Rattle.stored.specs.FirstLayout.{first_size, first_action_count}
use Rattle.stored.specs.Upgrade.{added_cost, added_costs, upgraded}

pub added_length : (r : List ℕ) → length (added_costs r) ≡ 64
unfolding added_costs
added_length r = length-tabulate (added_cost r) 0 64

pub cost_there : (r : List ℕ) (m : ℕ) → m < 64 → get_or (added_costs r) m 0 ≡ added_cost r m
unfolding added_costs
cost_there r m l = get_or_tabulate (added_cost r) 0 64 m 0 l ∙ ap (added_cost r) (zero-add m)

used_one : (r : List ℕ) (m : ℕ) → m < first_action_count r → added_cost r m ≡ 1
unfolding added_cost
used_one r m l = rw (lt-ltb m (first_action_count r) l)

unused_zero : (r : List ℕ) (m : ℕ) → first_action_count r ≤ m → added_cost r m ≡ 0
unfolding added_cost
unused_zero r m l = rw (le-ltb m (first_action_count r) l)

-- As many ones as there are used actions, then zeros.
pub ones_first : (r : List ℕ) → first_action_count r ≤ 64 → replicate (first_action_count r) 1 ++ drop (first_action_count r) (replicate 64 0) ≡ added_costs r
ones_first r few =
    let u = first_action_count r in
    let l = replicate {A = ℕ} u 1 ++ drop u (replicate 64 0) in
    let n = length-replicate {A = ℕ} u 1 in
    let z = length-replicate {A = ℕ} 64 0 in
    let d = length-drop u (replicate {A = ℕ} 64 0) in
    let a = length-append (replicate {A = ℕ} u 1) (drop u (replicate 64 0)) in
    let b = added_length r in
    ext_get_or 0 l (added_costs r) (omega arith)
    (λ m h. by_test (ltb m u)
    (λ t. let s = ltb-true m u t in get_or_append_left (replicate u 1) (drop u (replicate 64 0)) 0 m (omega arith) ∙ get_or-replicate u m 1 0 s ∙ sym (cost_there r m (omega arith) ∙ used_one r m s))
    (λ t. let s = ltb-false m u t in let e : u + (m - u) ≡ m = omega arith in
    get_or-append_right (replicate u 1) (drop u (replicate 64 0)) u m 0 n s ∙ get_or-drop u (replicate 64 0) (m - u) 0 ∙ rw e (zeros 64 m) ∙ sym (cost_there r m (omega arith) ∙ unused_zero r m s)))

-- The code fills the first of 64 zeros with ones.
pub ones_filled : (r out : List ℕ) (n : ℕ) → first_action_count r ≤ 64 → n ≡ first_action_count r → out ≡ replicate (length (take n (replicate {A = ℕ} 64 0))) 1
    → out ++ drop n (replicate 64 0) ≡ added_costs r
ones_filled r out n few same filled =
    let z = length-replicate {A = ℕ} 64 0 in
    let e : length (take n (replicate {A = ℕ} 64 0)) ≡ first_action_count r = length-take-le n (replicate {A = ℕ} 64 0) (omega arith) ∙ same in
    rw (filled, e, same) (ones_first r few)

module _ (r rest : List ℕ) (long : first_size ≤ length r) where
  front_length : length (take first_size r) ≡ first_size
  front_length = length-take-le first_size r long

  pub upgraded_length : length (upgraded r) ≡ record_size
  unfolding upgraded
  upgraded_length = let e = length-append (take first_size r) (added_costs r) in let f = front_length in let a = added_length r in omega arith

  pub stored_byte : (k : ℕ) → k < first_size → get_or (upgraded r ++ rest) k 0 ≡ get_or r k 0
  unfolding upgraded
  stored_byte k l =
      let u = upgraded_length in let f = front_length in
      get_or_append_left (upgraded r) rest 0 k (omega arith)
      ∙ get_or_append_left (take first_size r) (added_costs r) 0 k (omega arith)
      ∙ get_or-take first_size r k 0 l

  pub cost_byte : (m : ℕ) → m < 64 → get_or (upgraded r ++ rest) (at_cost m) 0 ≡ added_cost r m
  unfolding upgraded
  cost_byte m l =
      let u = upgraded_length in let f = front_length in let e : at_cost m - first_size ≡ m = omega arith in
      get_or_append_left (upgraded r) rest 0 (at_cost m) (omega arith)
      ∙ get_or-append_right (take first_size r) (added_costs r) first_size (at_cost m) 0 f (omega arith)
      ∙ ap (λ (k : ℕ). get_or (added_costs r) k 0) e ∙ cost_there r m l

-- The code writes the stored bytes into a record, then the costs behind them.
pub overlaid : (r target a b : List ℕ) → first_size ≤ length r → a ≡ take first_size r → b ≡ added_costs r
    → take first_size (a ++ drop first_size target) ++ (b ++ drop 64 (drop first_size (a ++ drop first_size target))) ≡ upgraded r ++ drop record_size target
unfolding upgraded
overlaid r target a b long front costs =
    let d = drop first_size target in
    let e : length a ≡ first_size = ap length front ∙ length-take-le first_size r long in
    rw (take_at a d first_size e, drop_at a d first_size e, drop-drop 64 first_size target, front, costs) (sym (append_assoc (take first_size r) (added_costs r) (drop record_size target)))
