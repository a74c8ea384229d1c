-- `added_costs`: ones for the actions that are used, and zeros behind them. Assumes nothing.
use Rattle.std.proofs.Common.{◌∙◌}
use Rattle.stored.proofs.UpgradedBytes.{ones_filled}
use Rattle.stored.proofs.upgrade.added_costs.Goals as goal

pub returns : goal.returns
returns c = ones_filled c.args.stored.now c.fill.new.self c.from.result c.requires (c.from.ensures ∙ c.action_count.ensures) (c.fill.ensures.after (λ y h. h))
