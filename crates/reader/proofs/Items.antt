-- The pieces of a list: pairs and numbers, one step of the fold, and which pieces a list's text has.
-- Assumes nothing.
use mathlib.Core.Path.{◌≡◌, refl}
use mathlib.Core.Bool.{Bool, true, false}
use mathlib.Core.List.{List, [], ◌∷◌}
use Prim.Native.Nat.{ℕ, suc, ◌+◌}
use native.Mathlib.Omega.{arith}
use lib.ListN.{length, take, drop, set}
use Rattle.std.proofs.Common.{Option, Some, None}
use Rattle.reader.specs.declared.lists.Gathered.{Gathered}
use Rattle.reader.specs.declared.lists.Pair.{Pair}
use Rattle.reader.specs.Text.{comma, colon, index_of, pieces, number_of}
use Rattle.reader.specs.Lists.{pair_named, pair_from, pair_of, pair_fits, pair_step, listed}

pub pair_parts : (p : List ℕ) (k : ℕ) (a b : Option ℕ) → k ≡ index_of colon p → a ≡ number_of (take k p) → b ≡ number_of (drop (k + 1) p) → pair_of p ≡ pair_from a b
unfolding pair_of
pair_parts p k a b e f g = rw (f, g, e)

-- a pair that keeps the rules, one that breaks them, and what is no pair
module _ (r : List ℕ) (g : Gathered) (p : Option Pair) where
  pub step_fits : (q : Pair) → p ≡ Some q → pair_fits r g.next q.variable q.value ≡ true
      → pair_step r g p ≡ record { form = g.form; list = g.list; next = q.variable + 1; cells = set g.cells q.variable q.value }
  unfolding pair_step
  step_fits q e h = rw (e, h)

  pub step_kept : (v x : ℕ) → p ≡ pair_named v x → pair_fits r g.next v x ≡ true
      → pair_step r g p ≡ record { form = g.form; list = g.list; next = v + 1; cells = set g.cells v x }
  step_kept v x e h = step_fits (record { variable = v; value = x }) e h

  pub step_against : (q : Pair) → p ≡ Some q → pair_fits r g.next q.variable q.value ≡ false
      → pair_step r g p ≡ record { form = g.form; list = false; next = g.next; cells = g.cells }
  unfolding pair_step
  step_against q e h = rw (e, h)

  pub step_ill : p ≡ None → pair_step r g p ≡ record { form = false; list = g.list; next = g.next; cells = g.cells }
  unfolding pair_step
  step_ill e = rw e

pub listed_none : (v : List ℕ) → length v ≡ 0 → listed false v ≡ []
unfolding listed
listed_none [] h = refl
listed_none (x ∷ xs) h = absurd (suc_ne_zero h)
  where
    suc_ne_zero : suc (length xs) ≡ 0 → ⊥
    suc_ne_zero e = omega arith

pub listed_some : (values : Bool) (v : List ℕ) → (length v ≡ 0 → ⊥) → listed values v ≡ pieces comma v
unfolding listed
listed_some values [] h = absurd (h refl)
listed_some values (x ∷ xs) h = refl

pub listed_values : (v : List ℕ) → listed true v ≡ pieces comma v
unfolding listed
listed_values [] = refl
listed_values (x ∷ xs) = refl
