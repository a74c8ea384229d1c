-- Laws of the sum of entries, pattern by pattern: what is summed, and the value of what is left, are the whole value. Assumes nothing.
use mathlib.Core.Path.{◌≡◌, sym, ◌∙◌}
use mathlib.Core.Bool.{false}
use mathlib.Core.List.{List, []}
use Prim.Native.Nat.{ℕ, suc, ◌+◌, ◌*◌, ◌≤◌, ◌<◌}
use native.Mathlib.Numerals.{add-one}
use native.Mathlib.Omega.{arith}
use lib.Dec.{T, eqb}
use lib.ListN.{length, get_or, drop}
use lib.Seq.{drop-cons, drop-drop, get_or-drop}
use Rattle.planning.specs.Extended.{fin, inf, add∞}
use Rattle.planning.specs.Task.{in_sizes}
use Rattle.planning.specs.Table.{index, state_count, infinite_entry, cost_of, value}
use Rattle.planning.proofs.Extended.{add∞-zero, add∞_comm, add∞_assoc}
use Rattle.planning.proofs.Table.{index_below}
use Rattle.patterns.specs.Space.{entries_needed}
use Rattle.patterns.proofs.Weights.{drop_all}

module _ (zs : List ℕ) (ps : List (List ℕ)) (s tabs : List ℕ) where
  -- The patterns below number p are passed: n is the sum of their entries, and their tables end at b.
  pub record Summing (n b p : ℕ) : Type 0 where
    pub passed : p ≤ length ps
    pub whole : value zs ps tabs s ≡ add∞ (fin n) (value zs (drop p ps) (drop b tabs) s)
    pub room : b + entries_needed zs (drop p ps) ≤ length tabs
    pub bounded : n ≤ infinite_entry * p

  pub summing_start : entries_needed zs ps ≤ length tabs → Summing 0 0 0
  summing_start h = record { passed = omega arith; whole = sym (add∞-zero (value zs ps tabs s)); room = omega arith; bounded = omega arith }

  module _ (n b p : ℕ) (a : Summing n b p) where
    pub summing_done : length ps ≤ p → value zs ps tabs s ≡ fin n
    unfolding value
    summing_done l = a.whole ∙ rw (drop_all ps p l, add∞_comm (fin n) (fin 0)) (add∞-zero (fin n))

    module _ (l : p < length ps) (o : T (in_sizes zs s)) where
      -- The place of the entry; the next table begins where this one ends.
      abbrev pub place_of_entry : ℕ
      place_of_entry = b + index zs (get_or ps p []) s

      table_room : b + state_count zs (get_or ps p []) + entries_needed zs (drop (p + 1) ps) ≤ length tabs
      unfolding entries_needed
      table_room = let h = rw (drop-cons ps p [] l) at a.room in rw (add-one p) (omega arith)

      pub place_inside : place_of_entry < length tabs
      place_inside = let i = index_below zs (get_or ps p []) s o in omega (arith, table_room)

      pub table_inside : b + state_count zs (get_or ps p []) ≤ length tabs
      table_inside = omega (arith, table_room)

      one_more : value zs ps tabs s ≡ add∞ (add∞ (fin n) (cost_of (get_or tabs place_of_entry infinite_entry))) (value zs (drop (p + 1) ps) (drop (b + state_count zs (get_or ps p [])) tabs) s)
      unfolding value
      one_more = a.whole ∙ rw (drop-cons ps p [] l, add-one p, get_or-drop b tabs (index zs (get_or ps p []) s) infinite_entry, drop-drop (state_count zs (get_or ps p [])) b tabs)
          (sym (add∞_assoc (fin n) (cost_of (get_or tabs place_of_entry infinite_entry)) (value zs (drop (suc p) ps) (drop (b + state_count zs (get_or ps p [])) tabs) s)))

      -- A finite entry is added; an infinite one decides.
      pub summing_finite : get_or tabs place_of_entry infinite_entry < infinite_entry → eqb (get_or tabs place_of_entry infinite_entry) infinite_entry ≡ false → Summing (n + get_or tabs place_of_entry infinite_entry) (b + state_count zs (get_or ps p [])) (p + 1)
      unfolding cost_of add∞
      summing_finite h e = record { passed = omega arith; whole = one_more ∙ rw e; room = table_room; bounded = omega (arith, a.bounded) }

      pub summing_infinite : get_or tabs place_of_entry infinite_entry ≡ infinite_entry → value zs ps tabs s ≡ inf
      unfolding cost_of add∞
      summing_infinite e = one_more ∙ rw e
