-- The refusals of all calls, and what calls make of them: each case's numbers, and answers that come after another. Assumes nothing.
use Rattle.std.specs.Prelude.{Result, Ok, Err}
use Rattle.planning.specs.Numbers.{Numbers, refusal}
use Rattle.task_record.specs.declared.refusal.Refusal.{Refusal}
use Rattle.task_record.specs.declared.refusal.Refusal.TheVariants.{UnexpectedLine, WrongForm, OutOfRange, WrongList, ShortRecord, WrongCell, LargePattern, ShortTables, NotAdditive, WrongState, ShortPlan, UnfinishedPlan, UnknownByte, Inapplicable, EarlyArrival, TrailingBytes, TooDeep, ShortRow}

-- "Where a call can say no": each line's number, with its second number.
abbrev pub refusal_numbers : Refusal → Numbers
-- "1: key not the one due, line missing or extra; line, from 1"
refusal_numbers (UnexpectedLine line) = refusal 1 line
-- "2: form of number or list; line"
refusal_numbers (WrongForm line) = refusal 2 line
-- "3: a single number outside its range; line"
refusal_numbers (OutOfRange line) = refusal 3 line
-- "4: list: variable not below N, not ascending, value not below size, start not N long; line"
refusal_numbers (WrongList line) = refusal 4 line
-- "5: lent record below 9,464 bytes; its length"; the bytes are now 9,528
refusal_numbers (ShortRecord length) = refusal 5 length
-- "6: cell outside its rule; lowest offset (budget 4)"
refusal_numbers (WrongCell offset) = refusal 6 offset
-- "7: pattern above 4,096 states; lowest such pattern"
refusal_numbers (LargePattern pattern) = refusal 7 pattern
-- "8: lent tables too short; entries needed"
refusal_numbers (ShortTables needed) = refusal 8 needed
-- "9: not additive; move"
refusal_numbers (NotAdditive action) = refusal 9 action
-- "10: length not 16, else a bad cell; 16, else lowest offset"
refusal_numbers (WrongState offset) = refusal 10 offset
-- "11: found plan longer than buffer; bytes needed"
refusal_numbers (ShortPlan needed) = refusal 11 needed
-- "12: plan ends early; offset"
refusal_numbers (UnfinishedPlan offset) = refusal 12 offset
-- "13: byte neither 254 nor below M; offset"
refusal_numbers (UnknownByte offset) = refusal 13 offset
-- "14: move does not apply; offset"
refusal_numbers (Inapplicable offset) = refusal 14 offset
-- "15: 254 at a state that is no goal; offset"
refusal_numbers (EarlyArrival offset) = refusal 15 offset
-- "16: bytes after the plan; offset"
refusal_numbers (TrailingBytes offset) = refusal 16 offset
-- "17: a move after 32 moves on the path; offset"; it is after 255 moves now
refusal_numbers (TooDeep offset) = refusal 17 offset
-- "18: row below 4,097, with its length"; "with 18 following that length": it is now 1,044,227
refusal_numbers (ShortRow length) = refusal 18 length

-- An answer in numbers, where `told` says those of an answer that is no refusal.
abbrev pub answer_numbers : {A : Type 0} → (A → Numbers) → Result A Refusal → Numbers
answer_numbers told (Ok answer) = told answer
answer_numbers told (Err refused) = refusal_numbers refused

-- "A call tests top to bottom the lines that concern it": where the first lines refuse nothing, what the next say.
abbrev pub after : {A B : Type 0} → Result A Refusal → (A → Result B Refusal) → Result B Refusal
after (Ok answer) next = next answer
after (Err refused) next = Err refused

-- "Apart from 11, refused calls leave every lent slice as found."
abbrev pub where_ok : {A B : Type 0} → Result A Refusal → B → B → B
where_ok (Ok answer) new old = new
where_ok (Err refused) new old = old
