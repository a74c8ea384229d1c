-- The sixteen cells that a list's text gives: pairs and members name only what the record allows, values name every variable that they count.
-- Assumes nothing.
use mathlib.Core.Path.{◌≡◌, refl, ◌∙◌}
use mathlib.Core.Bool.{true, false, ◌&&◌, ◌||◌}
use mathlib.Core.List.{List, [], ◌∷◌}
use Prim.Native.Nat.{ℕ, ◌+◌, ◌≤◌, ◌<◌}
use native.Mathlib.Omega.{arith}
use lib.Dec.{ltb, leb, eqb}
use lib.ListN.{length, get_or, set, length-set, length-replicate, get_or-replicate}
use lib.Seq.{get_or-set_same, get_or-set_other}
use borrow.Author.Tests.{eqb-true, eqb-false}
use Rattle.task_record.specs.Numbers.{variable_count, size_of}
use Rattle.task_record.specs.Record.{value_ok, assignment_ok}
use Rattle.reader.specs.Text.{number_of}
use Rattle.reader.specs.Lists.{pair_from, pair_of, item_of, pair_fits, pair_step, list_from, listed, no_items, list_of}
use Rattle.std.proofs.Common.{Option, Some, None}
use Rattle.reader.specs.declared.lists.Gathered.{Gathered}
use Rattle.reader.specs.declared.lists.Pair.{Pair}
use Rattle.reader.specs.declared.lists.Kind.{Kind}
use Rattle.reader.specs.declared.lists.Kind.TheVariants.{Pairs, Values, Members}
use Rattle.planning.proofs.Test.{by_test}
use Rattle.task_record.proofs.Tests.{both, both_left, both_right, either}
use Rattle.task_record.proofs.SoundTask.{Assigns}

-- What every piece keeps, the list keeps.
pub list_keeps : (r : List ℕ) (kind : Kind) (P : Gathered → Type 0) → ((g : Gathered) (p : List ℕ) → P g → P (pair_step r g (item_of kind g.next p)))
    → (ps : List (List ℕ)) (g : Gathered) → P g → P (list_from r kind g ps)
unfolding list_from
list_keeps r kind P step [] g h = h
list_keeps r kind P step (p ∷ ps) g h = list_keeps r kind P step ps (pair_step r g (item_of kind g.next p)) (step g p h)

-- A pair that keeps the list's rules names a value of a variable.
pub pair_fits-value : (r : List ℕ) (next v x : ℕ) → pair_fits r next v x ≡ true → value_ok r v x ≡ true
unfolding pair_fits value_ok
pair_fits-value r next v x h =
    both (ltb v (variable_count r)) (ltb x (size_of r v)) (both_right (leb next v) _ (both_left (leb next v && ltb v (variable_count r)) _ h)) (both_right (leb next v && ltb v (variable_count r)) _ h)

-- A cell after one store: the one stored, or another.
pub stored_cell : (P : ℕ → ℕ → Type 0) (c : List ℕ) (v x w : ℕ) → w < length c → P v x → P w (get_or c w 0) → P w (get_or (set c v x) w 0)
stored_cell P c v x w l new old =
    by_test (eqb w v)
    (λ t. let e = eqb-true w v t in rw e (rw (get_or-set_same c v x 0 (rw e at l)) new))
    (λ t. rw (get_or-set_other c v w x 0 (eqb-false w v t)) old)

-- Pairs.
pub stored_assigns : (r c : List ℕ) (v x : ℕ) → value_ok r v x ≡ true → Assigns r c → Assigns r (set c v x)
unfolding assignment_ok
stored_assigns r c v x h a =
    record {
      whole = length-set c v x ∙ a.whole;
      cell = λ w l. let n = a.whole in stored_cell (λ i y. assignment_ok r true i y ≡ true) c v x w (omega arith) (either (eqb x 255) (value_ok r v x) (λ f. h)) (a.cell w l);
    }

-- one piece more, be it a pair or none
pub pair_assigns : (r : List ℕ) (g : Gathered) (p : Option Pair) → Assigns r g.cells → Assigns r (pair_step r g p).cells
unfolding pair_step
pair_assigns r g None a = a
pair_assigns r g (Some p) a =
    by_test (pair_fits r g.next p.variable p.value)
    (λ t. rw t (stored_assigns r g.cells p.variable p.value (pair_fits-value r g.next p.variable p.value t) a))
    (λ t. rw t a)

-- the whole list: every cell is 255, or a value of a variable that is used
pub pairs_assign : (r text : List ℕ) → Assigns r (list_of r Pairs text).cells
unfolding list_of no_items item_of assignment_ok
pairs_assign r text =
    list_keeps r Pairs (λ g. Assigns r g.cells) (λ g p a. pair_assigns r g (pair_of p) a) (listed false text) (no_items Pairs)
    (record { whole = length-replicate {A = ℕ} 16 255; cell = λ v l. rw (get_or-replicate {A = ℕ} 16 v 255 0 l) refl })

-- Members: a variable is in, or not.
pub record Marks (r c : List ℕ) : Type 0 where
  pub whole : length c ≡ 16
  pub cell : (v : ℕ) → v < 16 → (eqb (get_or c v 0) 0 || (ltb v (variable_count r) && eqb (get_or c v 0) 1)) ≡ true

-- a variable that is used is marked
pub stored_marks : (r c : List ℕ) (v : ℕ) → value_ok r v 1 ≡ true → Marks r c → Marks r (set c v 1)
unfolding value_ok
stored_marks r c v h a =
    record {
      whole = length-set c v 1 ∙ a.whole;
      cell = λ w l.
          let n = a.whole in
          stored_cell (λ i y. (eqb y 0 || (ltb i (variable_count r) && eqb y 1)) ≡ true) c v 1 w (omega arith)
          (both (ltb v (variable_count r)) true (both_left (ltb v (variable_count r)) _ h) refl) (a.cell w l);
    }

-- one piece more
pub member_marks : (r : List ℕ) (g : Gathered) (d : Option ℕ) → Marks r g.cells → Marks r (pair_step r g (pair_from d (Some 1))).cells
unfolding pair_step
member_marks r g None a = a
member_marks r g (Some v) a =
    by_test (pair_fits r g.next v 1)
    (λ t. rw t (stored_marks r g.cells v (pair_fits-value r g.next v 1 t) a))
    (λ t. rw t a)

-- the whole list: every cell is 0, or 1 for a variable that is used
pub members_mark : (r text : List ℕ) → Marks r (list_of r Members text).cells
unfolding list_of no_items item_of
members_mark r text =
    list_keeps r Members (λ g. Marks r g.cells) (λ g p a. member_marks r g (number_of p) a) (listed false text) (no_items Members)
    (record { whole = length-replicate {A = ℕ} 16 0; cell = λ v l. rw (get_or-replicate {A = ℕ} 16 v 0 0 l) refl })

-- Values: the variables below the next one have theirs, the others are not named.
pub record Valued (r c : List ℕ) (next : ℕ) : Type 0 where
  pub whole : length c ≡ 16
  pub given : (v : ℕ) → v < 16 → v < next → value_ok r v (get_or c v 0) ≡ true
  pub rest : (v : ℕ) → v < 16 → next ≤ v → get_or c v 0 ≡ 255

-- the value of the next variable is stored
pub stored_value : (r c : List ℕ) (next x : ℕ) → value_ok r next x ≡ true → Valued r c next → Valued r (set c next x) (next + 1)
stored_value r c next x h a =
    record {
      whole = length-set c next x ∙ a.whole;
      given = λ v l u.
          let n = a.whole in
          by_test (eqb v next)
          (λ t. let e = eqb-true v next t in rw e (rw (get_or-set_same c next x 0 (omega arith)) h))
          (λ t. let f = eqb-false v next t in rw (get_or-set_other c next v x 0 f) (a.given v l (omega arith)));
      rest = λ v l u. get_or-set_other c next v x 0 (λ e. absurd (omega arith)) ∙ a.rest v l (omega arith);
    }

-- one piece more: a value is kept and the next variable comes, or nothing changes
pub value_valued : (r : List ℕ) (g : Gathered) (d : Option ℕ) → Valued r g.cells g.next
    → Valued r (pair_step r g (pair_from (Some g.next) d)).cells (pair_step r g (pair_from (Some g.next) d)).next
unfolding pair_step
value_valued r g None a = a
value_valued r g (Some x) a =
    by_test (pair_fits r g.next g.next x)
    (λ t. rw t (stored_value r g.cells g.next x (pair_fits-value r g.next g.next x t) a))
    (λ t. rw t a)

-- the whole list: below the next variable every cell is a value, from it on every cell is 255
pub values_valued : (r text : List ℕ) → Valued r (list_of r Values text).cells (list_of r Values text).next
unfolding list_of no_items item_of
values_valued r text =
    list_keeps r Values (λ g. Valued r g.cells g.next) (λ g p a. value_valued r g (number_of p) a) (listed true text) (no_items Values)
    (record {
      whole = length-replicate {A = ℕ} 16 255;
      given = λ v l u. absurd (omega arith);
      rest = λ v l u. get_or-replicate 16 v 255 0 l;
    })
