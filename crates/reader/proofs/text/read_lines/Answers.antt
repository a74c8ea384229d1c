-- `reader::text::read_lines` meets its contract: a line is taken, or is faulty, or none is left. Assumes nothing.
use Prim.Native.Nat.{◌+◌, ◌<◌, ℕ, suc}
use lib.ListN.{drop, drop_of_length-le, length, length-drop, take}
use mathlib.Core.List.{List, [], ◌∷◌}
use mathlib.Core.Path.{◌∙◌, ◌≡◌, ap, ap₂, refl, sym}
use native.Mathlib.Omega.{arith}
use borrow.Author.Tests.{eqb-true, eqb-false}
use lib.Dec.{eqb}
use mathlib.Core.Bool.{false≢true, true, false}
use Rattle.std.proofs.Common.{Result, Ok, Err, rules, tests}
use Rattle.std.proofs.lemmas.Result.{err_from_is_err_and}
use Rattle.std.specs.Result.{IsErrAnd, MatchResult, is_ok}
use Rattle.task_record.specs.declared.refusal.Refusal.{Refusal}
use Rattle.reader.specs.Grammar.{fault_at, read_from, refused, told, whole_of}
use Rattle.reader.specs.Text.{index_of, line_break, lines_of}
use Rattle.reader.specs.declared.grammar.LineFault.{LineFault}
use Rattle.reader.specs.declared.order.Due.{Due}
use Rattle.reader.proofs.Lines.{read_complete, read_faulty, read_missing, read_taken}
use Rattle.reader.proofs.Split.{lines_list, lines_none}
use Rattle.reader.proofs.text.read_lines.Goals as goal

-- what the loop's test says of the text that is left

some-left : (t : List ℕ) → eqb (length t) 0 ≡ false → 0 < length t
some-left t e = let n = eqb-false (length t) 0 e in omega (arith, n)

-- the first line and those after it

module _ (t first after : List ℕ) (e : first ≡ take (index_of line_break t) t) (f : after ≡ drop (index_of line_break t + 1) t) where
  by_line : 0 < length t → lines_of t ≡ first ∷ lines_of after
  by_line h =
      let k : suc (index_of line_break t) ≡ index_of line_break t + 1 = omega arith in
      lines_list t h ∙ ap₂ (λ (x y : List ℕ). x ∷ lines_of y) (sym e) (ap (λ (n : ℕ). drop n t) k ∙ sym f)

  shorter : 0 < length t → length after < length t
  shorter h = let n = ap length f ∙ length-drop (index_of line_break t + 1) t in omega arith

-- no line is left

none_left : (t : List ℕ) → eqb (length t) 0 ≡ true → lines_of t ≡ []
none_left t h = let n = eqb-true (length t) 0 h in ap lines_of (drop_of_length-le t {i = 0} (omega (arith, n))) ∙ lines_none

-- what `map_err` was given, by what it gave: it tells a fault with the line's number

abbrev the-fault : {T : Type 0} → Result T Refusal → Refusal → Refusal
the-fault (Ok x) d = d
the-fault (Err e) d = e

abbrev the-due : Result Due Refusal → Due → Due
the-due (Ok d) e = d
the-due (Err r) e = e

module _ (line : ℕ) (post : LineFault → Refusal → Type 0) (says : (f : LineFault) (e : Refusal) → post f e → e ≡ fault_at f line) where
  was-taken : (x : Result Due LineFault) (y : Result Due Refusal) (d : Due) → MatchResult x (λ z. y ≡ Ok z) (λ f. IsErrAnd y (post f)) → y ≡ Ok d → x ≡ Ok d
  was-taken (Ok z) y d h e = ap (λ (w : Result Due Refusal). Ok (the-due w d)) (sym h ∙ e)
  was-taken (Err f) (Ok z) d h e = absurd h
  was-taken (Err f) (Err g) d h e = absurd (false≢true (ap is_ok e))

  was-faulty : (x : Result Due LineFault) (y : Result Due Refusal) (e : Refusal) → MatchResult x (λ z. y ≡ Ok z) (λ f. IsErrAnd y (post f)) → y ≡ Err e
      → (f : LineFault) × (x ≡ Err f) × (e ≡ fault_at f line)
  was-faulty (Ok z) y e h q = absurd (false≢true (sym (ap is_ok (sym h ∙ q))))
  was-faulty (Err f) (Ok z) e h q = absurd h
  was-faulty (Err f) (Err g) e h q = (f, refl, sym (ap (λ (w : Result Due Refusal). the-fault w e) q) ∙ says f g h)

pub returns-in_err-due : goal.returns-in_err-due
returns-in_err-due c =
    let l = c.loop-rest in
    let p = c.cut.result in
    let k = was-faulty l.line _ (λ f e h. search (rules, tests)) c.take_line.result c.map_err.result c.in_err-due.field-0.0 c.map_err.ensures.cases c.in_err-due.was in
    let q = err_from_is_err_and c.from_residual.result c.from_residual.ensures.1 in
    l.invariant.2 ∙ ap (read_from l.line l.due l.rec) (by_line l.rest.now p.0.now p.1.now c.cut.ensures.0 c.cut.ensures.1 (some-left _ (sym c.is_empty.ensures ∙ c.loop-rest-test.true)))
    ∙ read_faulty l.line l.due l.rec p.0.now (lines_of p.1.now) k.0 (c.take_line.ensures ∙ ap (λ (t : Result Due LineFault). told t c.take_line.new.rec) k.1)
    ∙ ap (λ (e : Refusal). refused e) (sym (q.2 ∙ k.2))
    ∙ ap (λ (r : Result Unit Refusal). whole_of r c.take_line.new.rec) (sym q.1)

pub loop-rest-init : goal.loop-rest-init
loop-rest-init c = (omega arith, refl, refl)

pub loop-rest-smaller : goal.loop-rest-smaller
loop-rest-smaller c = shorter c.loop-rest.rest.now c.cut.result.0.now c.cut.result.1.now c.cut.ensures.0 c.cut.ensures.1 (some-left _ (sym c.is_empty.ensures ∙ c.loop-rest-test.true))

pub loop-rest-preserved : goal.loop-rest-preserved
loop-rest-preserved c =
    let l = c.loop-rest in
    let p = c.cut.result in
    let k = was-taken l.line _ (λ f e h. search (rules, tests)) c.take_line.result c.map_err.result c.in_ok-due.due c.map_err.ensures.cases c.in_ok-due.was in (
      omega (arith, l.invariant.0, shorter l.rest.now p.0.now p.1.now c.cut.ensures.0 c.cut.ensures.1 (some-left _ (sym c.is_empty.ensures ∙ c.loop-rest-test.true))),
      search rules,
      l.invariant.2 ∙ ap (read_from l.line l.due l.rec) (by_line l.rest.now p.0.now p.1.now c.cut.ensures.0 c.cut.ensures.1 (some-left _ (sym c.is_empty.ensures ∙ c.loop-rest-test.true)))
          ∙ read_taken l.line l.due l.rec p.0.now (lines_of p.1.now) c.in_ok-due.due c.take_line.new.rec (c.take_line.ensures ∙ ap (λ (t : Result Due LineFault). told t c.take_line.new.rec) k),
    )

pub returns-then-is_end : goal.returns-then-is_end
returns-then-is_end c =
    let l = c.loop-rest in
    l.invariant.2 ∙ ap (read_from l.line l.due l.rec) (none_left l.rest.now (sym c.is_empty.ensures ∙ c.loop-rest-test.false)) ∙ read_complete l.line l.due l.rec (sym c.is_end.ensures ∙ c.if-is_end.true)

pub returns : goal.returns
returns c =
    let l = c.loop-rest in
    l.invariant.2 ∙ ap (read_from l.line l.due l.rec) (none_left l.rest.now (sym c.is_empty.ensures ∙ c.loop-rest-test.false)) ∙ read_missing l.line l.due l.rec (sym c.is_end.ensures ∙ c.if-is_end.false)
