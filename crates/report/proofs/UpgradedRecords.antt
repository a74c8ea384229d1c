-- What program `records` writes for a stored record: what the tool left in a record's room, or a refusal. Assumes nothing.
use Rattle.std.proofs.Common.{◌≡◌, ℕ, ◌≤◌, List, [], ◌++◌, length, get_or, sym, ap, ◌∙◌, arith, Result, Ok, Err}
use lib.ListN.{drop_of_length-le}
use mathlib.Core.List.{append-nil}
use Rattle.task_record.specs.Layout.{record_size}
use Rattle.task_record.specs.declared.refusal.Refusal.{Refusal}
use Rattle.task_record.proofs.SoundTask.{variables_right}
use Rattle.stored.specs.FirstRecord.{first_check}
use Rattle.stored.specs.Upgrade.{upgraded, target_check, upgrade_answer, upgrade_leaves}
use Rattle.stored.proofs.Told.{answered_after}
use Rattle.stored.proofs.KeptTask.{upgraded_kept}
use Rattle.reader.specs.Bytes.{bytes}
use Rattle.report.specs.Lines.{number_line}
use Rattle.report.specs.Report.{refusal_lines, refused_lines}
use Rattle.report.specs.Records.{upgraded_or_refused, upgrade_written}

module _ (r room : List ℕ) (whole : length room ≡ record_size) (x : Result Unit Refusal) (told : x ≡ upgrade_answer r (length room)) where
  answered : (y : Result Unit Refusal) → x ≡ y → upgrade_answer r record_size ≡ y
  answered y e = ap (upgrade_answer r) (sym whole) ∙ sym told ∙ e

  left : (new : List ℕ) → x ≡ Ok tt → new ≡ upgrade_leaves r room → new ≡ upgraded r
  unfolding upgrade_leaves
  left new e h = h ∙ rw (sym told ∙ e, drop_of_length-le room {i = record_size} (omega arith)) (append-nil (upgraded r))

  pub record_written : (new : List ℕ) → x ≡ Ok tt → new ≡ upgrade_leaves r room → upgrade_written r ≡ new
  unfolding upgrade_written upgraded_or_refused
  record_written new e h = rw (answered (Ok tt) e) (sym (left new e h))

  pub refusal_written : (e : Refusal) → x ≡ Err e → upgrade_written r ≡ refused_lines e
  unfolding upgrade_written upgraded_or_refused
  refusal_written e h = rw (answered (Err e) h)

-- A record and a refusal are told apart by the first byte: in a record it is the number of variables, in a refusal the letter r.
module _ (r : List ℕ) where
  pub record_first : upgrade_answer r record_size ≡ Ok tt → get_or (upgrade_written r) 0 0 ≤ 16
  unfolding upgrade_written upgraded_or_refused upgrade_answer
  record_first h =
      let k = upgraded_kept r [] (answered_after (first_check r) (λ u. target_check record_size) h) in
      let v = variables_right (upgraded r ++ []) k.sound in
      rw h (rw append-nil at v.1)

  pub refusal_first : (e : Refusal) → upgrade_answer r record_size ≡ Err e → get_or (upgrade_written r) 0 0 ≡ 114
  unfolding upgrade_written upgraded_or_refused refused_lines refusal_lines number_line bytes
  refusal_first e h = rw h
