-- `reader::lists::read_list` meets its contract: an empty list, one piece more, no piece left. Assumes nothing.
use borrow.Author.Tests.{eqb-true, eqb-false}
use Prim.Native.Nat.{◌+◌, ◌<◌, ℕ}
use lib.Dec.{eqb}
use lib.ListN.{drop, get_or, length}
use mathlib.Core.Bool.{false}
use mathlib.Core.List.{List}
use mathlib.Core.Path.{◌∙◌, ◌≡◌, ap, sym}
use native.Mathlib.Omega.{arith}
use Rattle.std.proofs.Common.{rules, tests}
use Rattle.std.proofs.lemmas.Iterator.Splits.{YieldsList-from_slice_split}
use Rattle.std.proofs.lemmas.Iterator.Consumers.{YieldsList-turn, YieldsList-end}
use Rattle.std.proofs.lemmas.List.{at_drop_more, at_drop_all, length_push}
use Rattle.reader.specs.Lists.{is_values, item_of, list_from, list_of, listed, no_items, pair_step}
use Rattle.reader.specs.Text.{comma, pieces}
use Rattle.reader.specs.declared.lists.Gathered.{Gathered}
use Rattle.reader.specs.declared.lists.Kind.{Kind}
use Rattle.reader.proofs.Items.{listed_none, listed_some, listed_values}
use Rattle.reader.proofs.Split.{split_pieces}
use Rattle.reader.proofs.lists.read_list.Goals.{else-is_empty-via-then-is_empty+else-not-is_values, else-is_empty-via-else-is_empty}
use Rattle.reader.proofs.lists.read_list.Goals as goal

module _ (r : List ℕ) (kind : Kind) where
  list-begins : (v : List ℕ) (g : Gathered) → g ≡ no_items kind → listed (is_values kind) v ≡ pieces comma v → list_of r kind v ≡ list_from r kind g (pieces comma v)
  unfolding list_of
  list-begins v g e f = rw (e, f)

  empty-list : (v : List ℕ) (g : Gathered) → g ≡ no_items kind → is_values kind ≡ false → length v ≡ 0 → g ≡ list_of r kind v
  unfolding list_of list_from
  empty-list v g e f h = rw (e, f, listed_none v h)

  next-piece : (ps : List (List ℕ)) (n : ℕ) (p : List ℕ) (g g' : Gathered) → (n < length ps) × (p ≡ get_or ps n p) → g' ≡ pair_step r g (item_of kind g.next p)
      → list_from r kind g (drop n ps) ≡ list_from r kind g' (drop (n + 1) ps)
  unfolding list_from
  next-piece ps n p g g' h e =
      at_drop_more (list_from r kind g) ps n p h.0
      ∙ ap (λ (q : List ℕ). list_from r kind (pair_step r g (item_of kind g.next q)) (drop (n + 1) ps)) (sym h.1)
      ∙ ap (λ (z : Gathered). list_from r kind z (drop (n + 1) ps)) (sym e)

pub returns-then-not-is_values : goal.returns-then-not-is_values
returns-then-not-is_values c =
    let a = c.args in
    empty-list a.rec.now a.kind a.text.now c.new-gathered.result c.new-gathered.ensures (sym c.is_values.ensures ∙ c.if-not-is_values.true) (eqb-true _ _ (sym c.is_empty.ensures ∙ c.if-is_empty.true))

pub loop-piece-init : goal.loop-piece-init
loop-piece-init c =
    let a = c.args in
    list-begins a.rec.now a.kind a.text.now c.new-gathered.result c.new-gathered.ensures
    (elim c.else-is_empty.branch [
      | else-is_empty-via-then-is_empty+else-not-is_values w ↦ ap (λ b. listed b a.text.now) (sym w.is_values.ensures ∙ w.if-not-is_values.false) ∙ listed_values a.text.now
      | else-is_empty-via-else-is_empty w ↦ listed_some (is_values a.kind) a.text.now (eqb-false _ _ (sym c.is_empty.ensures ∙ w.if-is_empty.false))
    ])

pub loop-piece-preserved : goal.loop-piece-preserved
loop-piece-preserved c =
    let a = c.args in
    let l = c.loop-piece in
    let i = c.in-Some.piece in
    let t = YieldsList-turn (YieldsList-from_slice_split _ (λ x. eqb x comma) a.text.now (cc) (cc) (cc) (λ x r q k. search (rules, tests))) l.yielded _ l.yielded_by _ _ i c.in-Some.is c.next.ensures.steps in
    l.invariant
    ∙ next-piece a.rec.now a.kind (pieces comma a.text.now) (length l.yielded) i.now l.gathered c.add.new.self (rw (split_pieces comma a.text.now) at t) (c.add.ensures ∙ ap (pair_step a.rec.now l.gathered) c.item_of-item.ensures)
    ∙ ap (λ (n : ℕ). list_from a.rec.now a.kind c.add.new.self (drop n (pieces comma a.text.now))) (sym (length_push l.yielded i))

pub returns : goal.returns
unfolding list_from
returns c =
    let a = c.args in
    let l = c.loop-piece in
    let t = YieldsList-end (YieldsList-from_slice_split _ (λ x. eqb x comma) a.text.now (cc) (cc) (cc) (λ x r q k. search (rules, tests))) l.yielded _ l.yielded_by _ _ c.in-None.is c.next.ensures.steps in
    sym (l.invariant ∙ at_drop_all (list_from a.rec.now a.kind l.gathered) (pieces comma a.text.now) (length l.yielded) (omega (arith, rw (split_pieces comma a.text.now) at t.1)))
