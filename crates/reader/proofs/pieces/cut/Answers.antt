-- `reader::pieces::cut` meets its contract: the place that the library finds is that of the first b. Assumes nothing.
use Prim.Native.Nat.{◌+◌, ◌≤◌, ℕ}
use borrow.Author.Tests.{ltb-false}
use lib.Dec.{eqb, ltb}
use lib.ListN.{drop, drop_of_length-le, take}
use lib.Seq.{take_all}
use mathlib.Core.Bool.{Bool, true, false, cond, false≢true}
use mathlib.Core.List.{List}
use mathlib.Core.Path.{◌≡◌, ◌∙◌, ap, refl, sym}
use native.Mathlib.Omega.{arith}
use Rattle.std.proofs.Common.{Option, Some, None, rules, tests}
use Rattle.std.proofs.lemmas.Iterator.{YieldsList-from_slice}
use Rattle.std.proofs.lemmas.Iterator.Search.{position_from_yields_List}
use Rattle.std.proofs.lemmas.List.Recursion.{is_position_or_len}
use Rattle.std.specs.List.{position, position_or_len}
use Rattle.std.specs.Option.{is_some, unwrap_or}
use Rattle.task_record.proofs.Rest.{part_rest}
use Rattle.reader.specs.Text.{index_of}
use Rattle.reader.proofs.pieces.cut.Goals.{After-position}
use Rattle.reader.proofs.pieces.cut.Goals as goal

first : (b : ℕ) (s : List ℕ) → position_or_len (λ x. eqb x b) s ≡ index_of b s
unfolding index_of
first b s = sym (is_position_or_len (index_of b) (λ x. eqb x b) refl (λ x xs. ap (cond (eqb x b) 0) (omega arith)) s)

found : (n m k : ℕ) → cond (ltb n m) (Some n) None ≡ Some k → n ≡ k
found n m k = go (ltb n m)
  where
    go : (t : Bool) → cond t (Some n) None ≡ Some k → n ≡ k
    go true e = ap (λ (o : Option ℕ). unwrap_or o 0) e
    go false e = absurd (false≢true (ap is_some e))

missing : (n m : ℕ) → cond (ltb n m) (Some n) None ≡ None → m ≤ n
missing n m = go (ltb n m) (λ e. ltb-false n m e)
  where
    go : (t : Bool) → (t ≡ false → m ≤ n) → cond t (Some n) None ≡ None → m ≤ n
    go true f e = absurd (false≢true (sym (ap is_some e)))
    go false f e = f refl

placed : (c : After-position) → c.position.result ≡ position (λ x. eqb x c.args.b) c.args.s.now
placed c = position_from_yields_List (λ x. eqb x c.args.b) _ _ c.position.result c.position.ensures.ran (YieldsList-from_slice c.args.s.now c.iter.ensures.rest) (λ x b q k. search (rules, tests))

pub returns-in-Some : goal.returns-in-Some
returns-in-Some c =
    let s = c.args.s.now in
    let k = c.in-Some.k in
    let e = sym (found _ _ k (sym (placed (goal.at.returns-in-Some c).After-position) ∙ c.in-Some.is)) ∙ first c.args.b s in
    (ap (λ (n : ℕ). take n s) e, part_rest s (k + 1) ∙ ap (λ (n : ℕ). drop (n + 1) s) e)

pub returns-in-None : goal.returns-in-None
returns-in-None c =
    let s = c.args.s.now in
    let l = missing _ _ (sym (placed (goal.at.returns-in-None c).After-position) ∙ c.in-None.is) in
    let e = first c.args.b s in
    (sym (take_all _ s (omega (arith, e, l))), sym (drop_of_length-le s (omega (arith, e, l))))
