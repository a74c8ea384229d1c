-- `reader::text::read_text` meets its contract: 5 for a short record, else what the lines make of a blank record, copied out where the whole
-- text is good; in numbers line 5, then those of the text. Assumes nothing.
use borrow.Author.Rules.{rules}
use Prim.Native.Nat.{ℕ}
use borrow.Author.Tests.{lt-ltb}
use lib.Dec.{ltb}
use lib.ListN.{length}
use mathlib.Core.List.{List}
use mathlib.Core.Path.{◌∙◌, ◌≡◌, ap, refl, sym}
use Rattle.reader.specs.Grammar.{Whole, answer_of, complete, read_answer, read_from, read_leaves, read_whole, refused, whole_of}
use Rattle.task_record.specs.Answers.{short_record}
use Rattle.task_record.specs.Refusals.{refusal_numbers}
use Rattle.task_record.specs.declared.refusal.Refusal.{Refusal}
use Rattle.task_record.specs.declared.refusal.Refusal.TheVariants.{ShortRecord}
use Rattle.planning.specs.Numbers.{Numbers, refused_if}
use Rattle.reader.specs.Answers.{read_numbers, whole_numbers, text_by_lines}
use Rattle.std.proofs.Common.{Result, Err}
use Rattle.std.proofs.lemmas.Result.{err_from_is_err_and}
use mathlib.Core.Bool.{Bool, true, false, cond}
use Rattle.task_record.specs.Layout.{record_size}
use Rattle.reader.specs.Text.{lines_of}
use Rattle.reader.specs.declared.order.Due.TheVariants.{Vars}
use Rattle.reader.proofs.Answers.{answers_read, answers_refused}
use Rattle.reader.proofs.Stores.{sets_front}
use Rattle.reader.proofs.text.read_text.Goals.{Then-is_good}
use Rattle.reader.proofs.text.read_text.Goals as goal

-- a text that is known for good says the record that was filled

good-text : (c : Then-is_good) → read_whole c.args.text.now ≡ complete c.is_good.new.rec
unfolding read_whole
good-text c = ap (λ (r : List ℕ). read_from 1 Vars r (lines_of c.args.text.now)) (sym c.clear.ensures) ∙ c.is_good.ensures c.if-is_good.true

whole-told : (x : Whole) → read_numbers (answer_of x) ≡ whole_numbers x
unfolding read_numbers whole_numbers
whole-told (complete r) = refl
whole-told (refused refusal) = refl

-- one line: a test with its refusal before what the text says
line-told : (b : Bool) (e : Refusal) (x : Result Unit Refusal) (judged : Numbers) → read_numbers x ≡ judged → read_numbers (cond b (Err e) x) ≡ cond b (refusal_numbers e) judged
unfolding read_numbers
line-told true e x judged p = refl
line-told false e x judged p = p

told : (text record₀ : List ℕ) → (x : Result Unit Refusal) → {L : Type 0} → (x ≡ read_answer text record₀) × L → ((x ≡ read_answer text record₀) × L) × (read_numbers x ≡ text_by_lines text record₀)
unfolding read_answer text_by_lines short_record refused_if
told text record₀ x e = (e, ap read_numbers e.0 ∙ line-told (ltb (length record₀) record_size) (ShortRecord (length record₀)) _ _ (whole-told (read_whole text)))

pub returns-then-record-lt-RECORD_SIZE : goal.returns-then-record-lt-RECORD_SIZE
unfolding read_answer read_leaves
returns-then-record-lt-RECORD_SIZE c = let both = told c.args.text.now c.args.record.now _ (simp (lt-ltb _ _ c.if-record-lt-RECORD_SIZE.true), simp (lt-ltb _ _ c.if-record-lt-RECORD_SIZE.true)) in record { value = both.0; numbers = both.1 }

pub returns-then-is_good : goal.returns-then-is_good
returns-then-is_good c = let a = c.args in
    let l = c.draft.inside.cells in
    let d = answers_read a.text.now a.record.now c.if-record-lt-RECORD_SIZE.false l (good-text (goal.at.returns-then-is_good c).Then-is_good ∙ ap complete (sym c.draft.view_is)) in
    let both = told a.text.now a.record.now _ (d.0, c.put_cells.ensures ∙ sets_front a.record.now l record_size (search rules) c.if-record-lt-RECORD_SIZE.false ∙ d.1) in record { value = both.0; numbers = both.1 }

pub returns-in_err-read_slowly : goal.returns-in_err-read_slowly
returns-in_err-read_slowly c = let a = c.args in
    let l = c.read_slowly.new.local in
    let q = err_from_is_err_and c.from_residual.result c.from_residual.ensures.1 in
    let d = answers_refused a.text.now a.record.now c.if-record-lt-RECORD_SIZE.false c.in_err-read_slowly.field-0.0 (c.read_slowly.ensures ∙ ap (λ (r : Result Unit Refusal). whole_of r l) c.in_err-read_slowly.was) in
    let both = told a.text.now a.record.now _ (q.1 ∙ ap Err q.2 ∙ d.0, d.1) in record { value = both.0; numbers = both.1 }

pub returns : goal.returns
returns c = let a = c.args in
    let l = c.read_slowly.new.local in
    let d = answers_read a.text.now a.record.now c.if-record-lt-RECORD_SIZE.false l (c.read_slowly.ensures ∙ ap (λ (r : Result Unit Refusal). whole_of r l) c.in_ok-read_slowly.was) in
    let both = told a.text.now a.record.now _ (d.0, c.put_cells-2.ensures ∙ sets_front a.record.now l record_size (search rules) c.if-record-lt-RECORD_SIZE.false ∙ d.1) in record { value = both.0; numbers = both.1 }
