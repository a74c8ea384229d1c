-- What a line's value does to the record, by what it must be: the cases of Grammar's lines behind their keys. Assumes nothing.
use Rattle.std.specs.Prelude.{ℕ, List, Result, Ok, Err}
use Rattle.reader.specs.Text.{number_of}
use Rattle.reader.specs.Lists.{list_of}
use Rattle.reader.specs.Grammar.{Line, faulty, go_on, take_number, take_budget, take_list}
use Rattle.reader.specs.declared.order.Due.{Due}
use Rattle.reader.specs.declared.grammar.LineFault.{LineFault}
use Rattle.reader.specs.declared.due_line.Holds.{Holds}
use Rattle.reader.specs.declared.due_line.Holds.TheVariants.{Number, Budget, List as A_list}
use Rattle.reader.specs.declared.due_line.Value.{Value}

-- the code's answer for a value, and the record that it was lent
abbrev pub went : Due → Result Unit LineFault → List ℕ → Line
went due (Ok done) r = go_on due r
went due (Err fault) r = faulty fault

-- what a value does
abbrev pub take_text : List ℕ → Due → Holds → List ℕ → Line
take_text r due (Number field) text = take_number r due field.low field.high field.at (number_of text)
take_text r due Budget text = take_budget r due (number_of text)
take_text r due (A_list kind at) text = take_list r due kind at (list_of r kind text)

abbrev pub take_value : List ℕ → Due → Value → Line
take_value r due value = take_text r due value.holds value.text.now

-- what a line does that has a value, or a fault in its place
abbrev pub held : List ℕ → Due → Result Value LineFault → Line
held r due (Ok value) = take_value r due value
held r due (Err fault) = faulty fault
