-- Laws of tables built one after the other: each takes its part of the slice, and in the end the slice holds all of them and then what was
-- lent. Assumes nothing.
use Rattle.std.proofs.Common.{◌≡◌, ℕ, suc, ◌+◌, ◌-◌, ◌<◌, ◌≤◌, List, [], ◌++◌, map, length, get_or, take, drop, sym, refl, ap, ◌∙◌, append_assoc, add-one, arith, length-append, length-drop, take-append-drop, length-take-le, drop-cons, drop-drop}
use lib.ListN.{length-map}
use lib.Seq.{take-append_seam, drop-append_seam}
use Rattle.planning.specs.Finite.{tabulate, chain}
use Rattle.planning.specs.Task.{Task}
use Rattle.planning.specs.Table.{state_count, table, tables, entry_of}
use Rattle.planning.proofs.Table.{table-length, light_entries_bounded}
use Rattle.task_record.specs.Numbers.{variable_count, action_count, pattern_count, size_of}
use Rattle.task_record.specs.Record.{Sound}
use Rattle.task_record.specs.TaskOf.{task_of, patterns_of}
use Rattle.task_record.specs.Window.{Sixteen}
use Rattle.task_record.proofs.SoundTask.{sound_well_formed}
use Rattle.tables.specs.Built.{Built}
use Rattle.packed_task.specs.Packed.{compiled}
use Rattle.tables.specs.RecordTables.{built_over}
use Rattle.patterns.specs.Space.{entries_needed}
use Rattle.tables.specs.Steps.{Bounded}
use Rattle.patterns.proofs.Built.{light_weights}
use Rattle.patterns.proofs.Reading.{actions_length}
use Rattle.patterns.proofs.Sizes.{variables_few, sizes_taken, sizes_positive}
use Rattle.packed_task.proofs.SoundPacked.{sound_packable}
use Rattle.patterns.proofs.Weights.{drop_all}

-- One pattern of a sound record: what a build of its table asks, and that it is the definition's.
module _ (r : List ℕ) (sound : Sound r) (sizes : List ℕ) (sixteen : Sixteen (size_of r) sizes)
    (p : List ℕ) (small : state_count (task_of r).sizes p ≤ 4096) where
  pub pattern_bounded : Bounded sizes p (variable_count r)
  pattern_bounded = let e = sizes_taken r sound sizes sixteen in record {
    variables_few = variables_few r sound;
    values_some = rw e (sizes_positive r sound);
    values_few = rw e (sound_packable r sound).values_few;
    states_few = rw e small;
  }

  pub built_is_table : (entries : List ℕ) → Built (compiled (task_of r)) (action_count r) (variable_count r) sizes p entries →
      entries ≡ map entry_of (table (task_of r) p)
  built_is_table entries b = b.is_table (task_of r) (sound_well_formed r sound) (sound_packable r sound)
      (sizes_taken r sound sizes sixteen) refl (sym (actions_length r))
      (λ i k e. let l = light_entries_bounded (task_of r) (light_weights r sound) p small i k e in omega arith)

pub entries-length : (t : Task) (p : List ℕ) → length (map entry_of (table t p)) ≡ state_count t.sizes p
unfolding table
entries-length t p = length-map (table t p) entry_of ∙ table-length t p (λ a. a.weight)

-- A part of a slice replaced by as many entries: what stands up to its end, and after it.
module _ (old part : List ℕ) (begin : ℕ) (room : begin ≤ length old) where
  abbrev pub replaced : ℕ → List ℕ
  replaced end = take begin old ++ (part ++ drop end old)

  module _ (end : ℕ) (ends : end ≡ begin + length part) where
    front_length : length (take begin old ++ part) ≡ end
    front_length = length-append (take begin old) part ∙ rw (length-take-le begin old room, ends)

    pub replaced_front : take end (replaced end) ≡ take begin old ++ part
    replaced_front = rw (← (append_assoc (take begin old) part (drop end old)))
        (ap (λ k. take k ((take begin old ++ part) ++ drop end old)) (sym front_length) ∙ take-append_seam (take begin old ++ part) (drop end old))

    pub replaced_rest : drop end (replaced end) ≡ drop end old
    replaced_rest = rw (← (append_assoc (take begin old) part (drop end old)))
        (ap (λ k. drop k ((take begin old ++ part) ++ drop end old)) (sym front_length) ∙ drop-append_seam (take begin old ++ part) (drop end old))

-- A part that was lent on and came back with other entries.
pub part_back : (old back part : List ℕ) (begin count : ℕ) → back ≡ part →
    take begin old ++ (back ++ drop ((begin + count) - begin) (drop begin old)) ≡ take begin old ++ (part ++ drop (begin + count) old)
part_back old back part begin count e = let k : (begin + count) - begin ≡ count = omega arith in rw (e, k, drop-drop count begin old)

pub part_length : (old : List ℕ) (begin count : ℕ) → begin + count ≤ length old →
    length (take ((begin + count) - begin) (drop begin old)) ≡ count
part_length old begin count h = let k : (begin + count) - begin ≡ count = omega arith in let l = length-drop begin old in
    rw k (length-take-le count (drop begin old) (omega arith))

module _ (r tabs : List ℕ) where
  -- The patterns below number p are built: their tables end at entry b, and what was lent stands after them.
  pub record Chaining (new : List ℕ) (b p : ℕ) : Type 0 where
    pub passed : p ≤ length (patterns_of r)
    pub whole : built_over r tabs ≡
        take b new ++ (tables (task_of r) (drop p (patterns_of r)) ++ drop (entries_needed (task_of r).sizes (patterns_of r)) tabs)
    pub rest : drop b new ≡ drop b tabs
    pub needed : entries_needed (task_of r).sizes (patterns_of r) ≡ b + entries_needed (task_of r).sizes (drop p (patterns_of r))
    pub long : length new ≡ length tabs

  pub chaining_start : Chaining tabs 0 0
  unfolding built_over
  chaining_start = record { passed = omega arith; whole = refl; rest = refl; needed = omega arith; long = refl }

  -- Without patterns there is nothing to build.
  pub none_to_build : pattern_count r ≡ 0 → tabs ≡ built_over r tabs
  unfolding built_over patterns_of tabulate tables chain entries_needed
  none_to_build e = rw e

  module _ (new : List ℕ) (b p : ℕ) (a : Chaining new b p) where
    -- The table of the next pattern has room.
    module _ (l : p < length (patterns_of r)) where
      abbrev pub next : List ℕ
      next = get_or (patterns_of r) p []

      next_needed : entries_needed (task_of r).sizes (patterns_of r) ≡
          b + state_count (task_of r).sizes next + entries_needed (task_of r).sizes (drop (p + 1) (patterns_of r))
      unfolding entries_needed
      next_needed = a.needed ∙ rw (drop-cons (patterns_of r) p [] l, add-one p) (omega arith)

      pub next_inside : entries_needed (task_of r).sizes (patterns_of r) ≤ length tabs → b + state_count (task_of r).sizes next ≤ length new
      next_inside h = rw a.long (omega (arith, next_needed))

      pub chaining_next : (end : ℕ) → end ≡ b + state_count (task_of r).sizes next → end ≤ length new →
          Chaining (take b new ++ (map entry_of (table (task_of r) next) ++ drop end new)) end (p + 1)
      unfolding tables chain
      chaining_next end e h =
          let entries = map entry_of (table (task_of r) next) in let count = state_count (task_of r).sizes next in
          let after = drop (entries_needed (task_of r).sizes (patterns_of r)) tabs in
          let f : end ≡ b + length entries = rw (entries-length (task_of r) next) e in
          let g : b ≤ length new = omega arith in
          let k = length-append (take b new) (entries ++ drop end new) in let m = length-append entries (drop end new) in
          let u = length-take-le b new g in let v = length-drop end new in record {
            passed = omega arith;
            whole = a.whole ∙ rw (drop-cons (patterns_of r) p [] l, replaced_front new entries b g end f, add-one p)
                (ap (λ y. take b new ++ y) (append_assoc entries (tables (task_of r) (drop (suc p) (patterns_of r))) after)
                ∙ sym (append_assoc (take b new) entries (tables (task_of r) (drop (suc p) (patterns_of r)) ++ after)));
            rest = replaced_rest new entries b g end f
                ∙ rw e (sym (drop-drop count b new) ∙ ap (drop count) a.rest ∙ drop-drop count b tabs);
            needed = next_needed ∙ rw e;
            long = omega (arith, a.long);
          }

    pub chaining_end : length (patterns_of r) ≤ p → new ≡ built_over r tabs
    unfolding tables chain entries_needed
    chaining_end l = let d = drop_all (patterns_of r) p l in
        let n : entries_needed (task_of r).sizes (patterns_of r) ≡ b = a.needed ∙ rw d (omega arith) in
        sym (a.whole ∙ rw (d, n, ← a.rest) (take-append-drop b new))
