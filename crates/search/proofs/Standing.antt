-- Laws of plans that stand in the buffer: none do at first, bytes written behind them leave them, one may be noted, and a copy of one is that plan
-- written. Assumes nothing.
use Rattle.std.proofs.Common.{◌≡◌, ℕ, ◌+◌, ◌-◌, ◌<◌, ◌≤◌, List, length, get_or, set, replicate, ap, ◌∙◌, ⊎_elim, arith, length-set}
use lib.ListN.{length-replicate}
use Rattle.planning.specs.Plan.{Plan, encode}
use Rattle.planning.specs.Search.{Result, succeeded}
use Rattle.search.specs.Buffer.{Keeps, Holds}
use Rattle.search.specs.Examination.{plan_size}
use Rattle.search.specs.Memory.{stored, empty, Stores, Noted, Remembers}
use Rattle.search.proofs.Remembering.{nothing_stored}
use Rattle.search.specs.Written.{Stands, Copied, Written}
use Rattle.search.proofs.Bytes.{keeps_stored}
use Rattle.search.specs.declared.memory.Slot.{Slot}

pub same_plan : {x : Result Plan} {p q : Plan} {i j : ℕ} → x ≡ succeeded p i → x ≡ succeeded q j → p ≡ q
same_plan a b = cc

-- Bytes that were copied, as the library says it.
pub copied_within : (old new : List ℕ) (from to n : ℕ) → ((k d : ℕ) → to ≤ k → k < to + (from + n - from) → get_or new k d ≡ get_or old (from + (k - to)) d) →
    ((k d : ℕ) → k < to → get_or new k d ≡ get_or old k d) → Copied from to n old new
unfolding Keeps
copied_within old new from to n e s = record {
  keeps = λ i h. s i 0 h;
  copies = λ i h. let z : from + (to + i - to) ≡ from + i = omega arith in e (to + i) 0 (omega arith) (omega arith) ∙ ap (λ (j : ℕ). get_or old j 0) z;
}

module _ (r : ℕ → ℕ → ℕ → Result Plan) where
  -- Empty slots speak of no plan.
  pub nothing_stands : (n : ℕ) (plan : List ℕ) → 1 ≤ n → Stands r (replicate n empty) plan 0
  nothing_stands n plan l = record {
    long = omega (arith, length-replicate {A = Slot} n empty);
    before = λ w h. absurd (nothing_stored n w h);
    sized = λ w h. absurd (nothing_stored n w h);
    holds = λ w h. absurd (nothing_stored n w h);
  }

  module _ {written : List Slot} {plan : List ℕ} {at : ℕ} (v : Stands r written plan at) where
    -- Bytes written from `at` on leave those before.
    pub still_stands : (new : List ℕ) (end : ℕ) → Keeps at plan new → length new ≡ length plan → at ≤ end → Stands r written new end
    unfolding Keeps Holds
    still_stands new end k q l = record {
      long = v.long;
      before = λ w h. let b = v.before w h in omega arith;
      sized = v.sized;
      holds = λ w h p i e j u t. let b = v.before w h in let n = v.sized w h p i e in k (w.size + j) (omega arith) ∙ v.holds w h p i e j u (omega arith);
    }

    pub stands_stored : (new : List ℕ) (byte : ℕ) → new ≡ set plan at byte → Stands r written new (at + 1)
    stands_stored new byte e = rw e (still_stands (set plan at byte) (at + 1) (keeps_stored at byte plan) (length-set plan at byte) (omega arith))

    -- The plan p of a state with a depth was written from `from` on, and noted.
    pub stands_noted : (later : List Slot) (s d n from b k : ℕ) (p : Plan) → Noted written later (stored s d n from b) → r d s 0 ≡ succeeded p k → plan_size p ≡ n → from + n ≤ at → Holds (encode p) from plan → Stands r later plan at
    stands_noted later s d n from b k p t e z l f = record {
      long = omega (arith, t.long, v.long);
      before = λ w h. ⊎_elim (λ a. v.before w a) (λ i. rw i l) (t.besides w h);
      sized = λ w h q j g. ⊎_elim (λ a. v.sized w a q j g) (λ i. rw i (rw (← same_plan e (rw i at g)) z)) (t.besides w h);
      holds = λ w h q j g. ⊎_elim (λ a. v.holds w a q j g) (λ i. rw i (rw (← same_plan e (rw i at g)) f)) (t.besides w h);
    }

    -- A plan that stands is copied to `at`.
    module _ (s d n from b k : ℕ) (p : Plan) (h : Stores written (stored s d n from b)) (e : r d s 0 ≡ succeeded p k) where
      pub stands_before : from + n ≤ at
      stands_before = v.before _ h

      pub stands_sized : plan_size p ≡ n
      stands_sized = v.sized _ h p k e

      pub copy_written : (budget : ℕ) (memory : List Slot) (new : List ℕ) → Remembers r budget memory → Copied from at n plan new → length new ≡ length plan → Written r budget p at memory written plan new (at + n)
      unfolding Holds
      copy_written budget memory new m t q = let z = stands_sized in let l = stands_before in record {
        after = omega arith;
        keeps = t.keeps;
        holds = λ i u w. t.copies i (omega arith) ∙ v.holds _ h p k e i u (omega arith);
        remembers = m;
        stands = still_stands new (at + n) t.keeps q (omega arith);
      }
