-- `reader::quick_items::quick_item` meets its contract, kind by kind. Assumes nothing.
use mathlib.Core.Path.{sym, subst}
use native.Mathlib.Omega.{arith}
use Rattle.std.proofs.lemmas.Option.{IfSome_then}
use Rattle.reader.specs.declared.lists.Kind.{Kind}
use Rattle.reader.specs.Quick.{ItemAt}
use Rattle.reader.proofs.QuickNumbers.{value_at, member_at, split_shorter}
use Rattle.reader.proofs.quick_items.quick_item.Goals as goal

pub returns-in-Pairs : goal.returns-in-Pairs
returns-in-Pairs c =
    let a = c.args in
    IfSome_then c.quick_pair.result c.quick_pair.ensures
    (λ p h. (h.0, h.1, subst (λ (k : Kind). ItemAt a.s.now k a.next p.read.variable p.read.value p.rest.now) (sym c.in-Pairs.is) (h.2 a.next)))

pub returns-in_ok-x-in-Values : goal.returns-in_ok-x-in-Values
returns-in_ok-x-in-Values c =
    let a = c.args in
    let h = c.in_ok-x-in-Values.ensures in
    let x = c.in_ok-x-in-Values.x in
    (omega (arith, h.1, c.requires.0), split_shorter a.s.now _ _ h.2, subst (λ (k : Kind). ItemAt a.s.now k a.next a.next x.read x.rest.now) (sym c.in-Values.is) (value_at a.s.now x.rest.now a.next x.read c.requires.1 (omega (arith, h.0)) h.2))

pub returns-in_ok-v-in-Members : goal.returns-in_ok-v-in-Members
returns-in_ok-v-in-Members c =
    let a = c.args in
    let h = c.in_ok-v-in-Members.ensures in
    let v = c.in_ok-v-in-Members.v in
    (omega (arith, h.1, c.requires.0), split_shorter a.s.now _ _ h.2, subst (λ (k : Kind). ItemAt a.s.now k a.next v.read 1 v.rest.now) (sym c.in-Members.is) (member_at a.s.now v.rest.now a.next v.read (omega (arith, h.0)) h.2))
