-- `reader::due_line::after_key` meets its contract: the key is the front of the line. Assumes nothing.
use mathlib.Core.Path.{◌≡◌, ◌∙◌, refl, subst, sym}
use Rattle.std.proofs.Common.{Option, Some, None, Result}
use Rattle.std.specs.Option.{MatchOption, ok_or}
use Rattle.std.specs.Result.{MatchResult}
use Rattle.reader.proofs.Keys.{key_prefix}
use Rattle.reader.proofs.due_line.after_key.Goals as goal

by-case : {T E : Type 0} (N : Type 0) (P Q : T → Type 0) (R : E → Type 0) (found : Option T) (e : E) (r : Result T E) → r ≡ ok_or found e → MatchOption found N P
    → ((x : T) → P x → Q x) → (N → R e) → MatchResult r Q R
by-case N P Q R (Some x) e r is h some none = subst (λ z. MatchResult z Q R) (sym is) (some x h)
by-case N P Q R None e r is h some none = subst (λ z. MatchResult z Q R) (sym is) (none h)

pub returns : goal.returns
returns c =
    let told = sym (key_prefix c.args.key.now c.args.line.now) in
    by-case _ _ _ _ c.strip_prefix.result _ c.ok_or.result c.ok_or.ensures.value c.strip_prefix.ensures.cases (λ x h. (told ∙ h.0, h.1)) (λ h. (told ∙ h, refl))
