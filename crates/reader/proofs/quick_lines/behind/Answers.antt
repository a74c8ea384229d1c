-- `reader::quick_lines::behind` meets its contract. Assumes nothing.
use mathlib.Core.List.{List, ◌++◌}
use mathlib.Core.Path.{◌∙◌, ap, sym}
use native.Mathlib.Omega.{arith}
use Rattle.std.proofs.Common.{Option, Some, None}
use Rattle.std.specs.Option.{IfSome, MatchOption}
use Rattle.reader.proofs.Keys.{key_prefix}
use Rattle.reader.proofs.QuickLines.{key_split}
use Rattle.reader.proofs.quick_lines.behind.Goals as goal
use Prim.Native.Nat.{ℕ}

where-some : {T : Type 0} (N : Type 0) (P Q : T → Type 0) (found : Option T) → MatchOption found N P → ((x : T) → P x → Q x) → IfSome found Q
where-some N P Q (Some x) h f = f x h
where-some N P Q None h f = tt

pub returns : goal.returns
returns c =
    let s = c.args.s.now in
    let key = c.args.key.now in
    let n = c.saturating_sub.ensures in
    where-some _ _ _ c.strip_prefix.result c.strip_prefix.ensures.cases
    (λ x h. (key_split key s (sym (key_prefix key s) ∙ h.0) ∙ ap (λ (z : List ℕ). key ++ z) (sym h.1), omega (arith, h.2, n, c.if-saturating_sub-lt-VALUE_ROOM.false)))
