-- Every sound record is what some text reads to: its own text, `written`. Assumes nothing.
use mathlib.Core.Path.{◌≡◌, refl, sym, ap, ◌∙◌}
use mathlib.Core.Bool.{true, false, ◌&&◌}
use mathlib.Core.List.{List, [], ◌∷◌, ◌++◌, map}
use mathlib.Core.Logic.{inl, inr}
use Prim.Native.Nat.{ℕ, suc, ◌+◌, ◌-◌, ◌*◌, ◌/◌, ◌%◌, ◌≤◌, ◌<◌}
use native.Mathlib.Omega.{arith}
use lib.Dec.{ltb, leb, eqb}
use lib.ListN.{length, drop}
use lib.Seq.{ext_get_or}
use borrow.Author.Tests.{lt-ltb, ltb-true, ltb-false, le-ltb, eqb-true, eqb-false, leb-true}
use Rattle.planning.specs.Finite.{All, Some}
use Rattle.task_record.specs.Layout.{record_size, at_sizes, at_goal, at_start, at_pattern, at_action, at_cost}
use Rattle.task_record.specs.Numbers.{byte, variable_count, action_count, pattern_count, outcome_count, action_cost}
use Rattle.task_record.specs.Record.{size_ok, pattern_ok, count_ok, cost_ok, assignment_ok, Sound}
use Rattle.reader.specs.Text.{line_break}
use Rattle.reader.specs.Grammar.{proceed, complete, read_from, blank, read_whole, read_answer, read_leaves}
use Rattle.reader.specs.Written.{line_of, dues_of, written}
use Rattle.std.specs.Prelude.{Ok}
use Rattle.reader.specs.declared.order.Due.{Due}
use Rattle.reader.specs.declared.order.Due.TheVariants.{Vars}
use Rattle.planning.proofs.Test.{by_test, or-false}
use Rattle.task_record.proofs.Parts.{Bytes}
use Rattle.task_record.proofs.Offsets.{size_at, pattern_at, count_at, block_at, cost_at}
use Rattle.task_record.proofs.Soundness.{sound_cell}
use Rattle.reader.proofs.ReadSound.{read_leaves_lem}
use Rattle.reader.proofs.StoredCells.{blank_whole, blank_front, blank_patterns, blank_count, blank_block, blank_cost}
use Rattle.reader.proofs.WrittenPieces.{lacks, text_lines}
use Rattle.reader.proofs.WrittenLines.{Same, Known, stored, line_taken, line_breaks}
use Rattle.reader.proofs.WrittenStores.{Covers, stored_whole, new_same, kept_same, next_known}
use Rattle.reader.proofs.WrittenOrder.{Run, over, line, dues_run, from_moves, from_goal, from_last, size_line, pattern_line, action_lines, among_outcomes}

-- what some lines leave of a record
unfoldable pub final : List ℕ → List Due → List ℕ → List ℕ
final t [] r = r
final t (due ∷ dues) r = final t dues (stored t due r)

module _ (t : List ℕ) (sound : Sound t) (fit : Bytes t) where
  -- Lines that were written are read.
  pub lines_read : (due : Due) (dues : List Due) (r : List ℕ) (n : ℕ) → Run t due dues → length r ≡ record_size → Known t due r
      → read_from n due r (map (line_of t) dues) ≡ complete (final t dues r)
  unfolding read_from final
  lines_read _ _ r n over w k = refl
  lines_read _ _ r n (line due dues e v run) w k =
      let x = next_known t sound fit r w due e v k in
      let s = stored t due r in
      ap (λ y. proceed n y (λ d q. read_from (n + 1) d q (map (line_of t) dues))) (line_taken t sound r due e v k)
      ∙ ap (λ d. read_from (n + 1) d s (map (line_of t) dues)) x.0
      ∙ lines_read _ dues s (n + 1) run (stored_whole t sound fit r w due v) x.1

  -- What is as the record has it stays so; what a line stores becomes so.
  pub final_whole : (due : Due) (dues : List Due) (r : List ℕ) → Run t due dues → length r ≡ record_size → length (final t dues r) ≡ record_size
  unfolding final
  final_whole _ _ r over w = w
  final_whole _ _ r (line due dues e v run) w = final_whole _ dues (stored t due r) run (stored_whole t sound fit r w due v)

  pub final_kept : (due : Due) (dues : List Due) (r : List ℕ) (k : ℕ) → Run t due dues → length r ≡ record_size → Same t r k
      → Same t (final t dues r) k
  unfolding final
  final_kept _ _ r k over w s = s
  final_kept _ _ r k (line due dues e v run) w s =
      final_kept _ dues (stored t due r) k run (stored_whole t sound fit r w due v) (kept_same t sound fit r w due v k s)

  pub final_covered : (due : Due) (dues : List Due) (r : List ℕ) (k : ℕ) → Run t due dues → length r ≡ record_size → Some (Covers k) dues
      → Same t (final t dues r) k
  unfolding final
  final_covered _ _ r k over w c = elim c [ ]
  final_covered _ _ r k (line due dues e v run) w (inl c) =
      final_kept _ dues (stored t due r) k run (stored_whole t sound fit r w due v) (new_same t sound fit r w due v k c)
  final_covered _ _ r k (line due dues e v run) w (inr c) =
      final_covered _ dues (stored t due r) k run (stored_whole t sound fit r w due v) c

  -- Each cell is stored by a line, or is not used and as in a record with nothing used.
  module _ (k : ℕ) (Q : Type 0) (covered : Some (Covers k) (dues_of t) → Q) (unused : Same t blank k → Q) where
    size_cell : (i : ℕ) → i < 16 → k ≡ at_sizes + i → Q
    unfolding size_ok
    size_cell i l e =
        by_test (ltb i (variable_count t))
        (λ q. covered (size_line (Covers k) t i (ltb-true i (variable_count t) q) (omega arith, omega arith)))
        (λ q.
        let h = rw q at (sym (size_at t i l) ∙ sound_cell t sound (at_sizes + i) (omega arith)) in
        unused (rw e (blank_front (at_sizes + i) (omega arith) ∙ sym (eqb-true (byte t (at_sizes + i)) 0 h))))

    pattern_cell : (i : ℕ) → i < 128 → k ≡ at_pattern 0 + i → Q
    unfolding pattern_ok
    pattern_cell i l e =
        by_test (ltb (i / 16) (pattern_count t))
        (λ q. covered (pattern_line (Covers k) t (i / 16) (ltb-true (i / 16) (pattern_count t) q) (omega arith, omega arith)))
        (λ q.
        let h = rw (q, or-false (eqb (byte t (at_pattern 0 + i)) 0)) at
        (sym (pattern_at t i l) ∙ sound_cell t sound (at_pattern 0 + i) (omega arith)) in
        unused (rw e (blank_patterns i l ∙ sym (eqb-true (byte t (at_pattern 0 + i)) 0 h))))

    -- the number of outcomes of action m
    count_cell : (m : ℕ) → m < 64 → k ≡ at_action m → Q
    unfolding count_ok
    count_cell m l e =
        by_test (ltb m (action_count t))
        (λ q. covered (action_lines (Covers k) t m (ltb-true m (action_count t) q) (λ more. inr (inr (inl (omega arith, omega arith))))))
        (λ q.
        let h = rw q at (sym (count_at t m l) ∙ sound_cell t sound (at_action m) (omega arith)) in
        unused (rw e (blank_count m l ∙ sym (eqb-true (byte t (at_action m)) 0 h))))

    -- a cell of its precondition or of an outcome
    unused_block : (m i : ℕ) → m < 64 → i < 144 → k ≡ at_action m + 1 + i → (ltb m (action_count t) && leb (i / 16) (outcome_count t m)) ≡ false → Q
    unfolding assignment_ok
    unused_block m i a l e q =
        let h = rw (q, or-false (eqb (byte t (at_action m + 1 + i)) 255)) at
        (sym (block_at t m i a l) ∙ sound_cell t sound (at_action m + 1 + i) (omega arith)) in
        let f : at_action m + 1 + i ≡ at_action m + suc i = omega arith in
        unused (rw e (ap (λ z. byte blank z) f ∙ blank_block m i a l ∙ sym (eqb-true (byte t (at_action m + 1 + i)) 255 h)))

    outcome_cell : (m i : ℕ) → m < 64 → 16 ≤ i → i < 144 → k ≡ at_action m + 1 + i → m < action_count t → Q
    outcome_cell m i a b l e u =
        by_test (leb (i / 16) (outcome_count t m))
        (λ q.
        let h = leb-true (i / 16) (outcome_count t m) q in
        covered (action_lines (Covers k) t m u
        (λ more. inr (inr (inr (among_outcomes (Covers k) more m (outcome_count t m) 0 (i / 16 - 1) (omega arith) (omega arith)
        (omega arith, omega arith)))))))
        (λ q. unused_block m i a l e (rw (lt-ltb m (action_count t) u, q)))

    block_cell : (m i : ℕ) → m < 64 → i < 144 → k ≡ at_action m + 1 + i → Q
    block_cell m i a l e =
        by_test (ltb m (action_count t))
        (λ q.
        let u = ltb-true m (action_count t) q in
        by_test (ltb i 16)
        (λ w. let h = ltb-true i 16 w in covered (action_lines (Covers k) t m u (λ more. inl (omega arith, omega arith))))
        (λ w. outcome_cell m i a (ltb-false i 16 w) l e u))
        (λ q. unused_block m i a l e (rw q))

    -- the cost of action m
    cost_cell : (m : ℕ) → m < 64 → k ≡ at_cost m → Q
    unfolding cost_ok
    cost_cell m l e =
        by_test (ltb m (action_count t))
        (λ q. covered (action_lines (Covers k) t m (ltb-true m (action_count t) q) (λ more. inr (inl (omega arith, omega arith)))))
        (λ q.
        let h = rw q at (sym (cost_at t m) ∙ sound_cell t sound (at_cost m) (omega arith)) in
        unused (rw e (blank_cost m l ∙ sym (eqb-true (action_cost t m) 0 h))))

    action_cell : at_action 0 ≤ k → k < at_cost 0 → Q
    action_cell low l =
        by_test (eqb ((k - 184) % 145) 0)
        (λ q. let h = eqb-true ((k - 184) % 145) 0 q in count_cell ((k - 184) / 145) (omega arith) (omega arith))
        (λ q. let h = eqb-false ((k - 184) % 145) 0 q in block_cell ((k - 184) / 145) ((k - 184) % 145 - 1) (omega arith) (omega arith) (later h))
      where
        later : ((k - 184) % 145 ≡ 0 → ⊥) → k ≡ 184 + 145 * ((k - 184) / 145) + 1 + ((k - 184) % 145 - 1)
        later h =
            by_test (ltb 0 ((k - 184) % 145)) (λ w. let g = ltb-true 0 ((k - 184) % 145) w in omega arith)
            (λ w. let g = ltb-false 0 ((k - 184) % 145) w in absurd (h (omega arith)))

    header_cell : k < 8 → Q
    unfolding dues_of
    header_cell l =
        by_test (ltb k 1) (λ q. let h = ltb-true k 1 q in covered (inl (omega arith, omega arith))) (λ q1. let a = ltb-false k 1 q1 in
        by_test (ltb k 2) (λ q. let h = ltb-true k 2 q in covered (from_moves (Covers k) t (inl (omega arith, omega arith))))
        (λ q2. let b = ltb-false k 2 q2 in
        by_test (ltb k 3) (λ q. let h = ltb-true k 3 q in covered (from_goal (Covers k) t (inr (inr (inl (omega arith, omega arith))))))
        (λ q3. let c = ltb-false k 3 q3 in
        by_test (ltb k 4) (λ q. let h = ltb-true k 4 q in covered (from_last (Covers k) t (inl (omega arith, omega arith))))
        (λ q4. let d = ltb-false k 4 q4 in covered (from_last (Covers k) t (inr (inl (omega arith, omega arith))))))))

    pub every-cell : k < record_size → Q
    every-cell l =
        by_test (ltb k at_sizes) (λ q. header_cell (ltb-true k at_sizes q)) (λ q1. let a = ltb-false k at_sizes q1 in
        by_test (ltb k at_goal) (λ q. let h = ltb-true k at_goal q in size_cell (k - 8) (omega arith) (omega arith))
        (λ q2. let b = ltb-false k at_goal q2 in
        by_test (ltb k at_start) (λ q. let h = ltb-true k at_start q in covered (from_goal (Covers k) t (inl (omega arith, omega arith))))
        (λ q3. let c = ltb-false k at_start q3 in
        by_test (ltb k 56) (λ q. let h = ltb-true k 56 q in covered (from_goal (Covers k) t (inr (inl (omega arith, omega arith)))))
        (λ q4. let d = ltb-false k 56 q4 in
        by_test (ltb k 184) (λ q. let h = ltb-true k 184 q in pattern_cell (k - 56) (omega arith) (omega arith))
        (λ q5. let a5 = ltb-false k 184 q5 in
        by_test (ltb k (at_cost 0)) (λ q. action_cell a5 (ltb-true k (at_cost 0) q))
        (λ q6. let a6 = ltb-false k (at_cost 0) q6 in cost_cell (k - at_cost 0) (omega arith) (omega arith)))))))

  lines_plain : (due : Due) (dues : List Due) → Run t due dues → All (λ l. lacks line_break l ≡ true) (map (line_of t) dues)
  lines_plain _ _ over = tt
  lines_plain _ _ (line due dues e v run) = (line_breaks t sound due e v, lines_plain _ dues run)

  -- The text of a sound record reads to that record.
  pub written_reads : length t ≡ record_size → read_whole (written t) ≡ complete t
  unfolding read_whole written
  written_reads whole =
      let run = dues_run t sound in
      let same : (k : ℕ) → k < record_size → Same t (final t (dues_of t) blank) k =
      (λ k l. every-cell k (Same t (final t (dues_of t) blank) k) (final_covered Vars (dues_of t) blank k run blank_whole)
      (final_kept Vars (dues_of t) blank k run blank_whole) l) in
      let w = final_whole Vars (dues_of t) blank run blank_whole in
      ap (λ ls. read_from 1 Vars blank ls) (text_lines (map (line_of t) (dues_of t)) (lines_plain Vars (dues_of t) run))
      ∙ lines_read Vars (dues_of t) blank 1 run blank_whole tt
      ∙ ap (λ z. complete z) (ext_get_or 0 (final t (dues_of t) blank) t (w ∙ sym whole) (λ k l. same k (omega arith)))

-- So every sound record of 9,528 bytes is what some text reads to.
pub sound_record_has_text : (t : List ℕ) → Sound t → Bytes t → length t ≡ record_size → (text : List ℕ) × (read_whole text ≡ complete t)
sound_record_has_text t sound fit whole = (written t, written_reads t sound fit whole)

-- A call with that text and a lent record that is long enough answers Ok, and leaves the record in front of what stood after it.
pub written_is_read : (t record₀ : List ℕ) → Sound t → Bytes t → length t ≡ record_size → record_size ≤ length record₀
    → (read_answer (written t) record₀ ≡ Ok tt) × (read_leaves (written t) record₀ ≡ t ++ drop record_size record₀)
unfolding read_answer
written_is_read t record₀ sound fit whole long =
    let h = written_reads t sound fit whole in
    (rw (le-ltb (length record₀) record_size long, h), read_leaves_lem (written t) record₀ t long h)
