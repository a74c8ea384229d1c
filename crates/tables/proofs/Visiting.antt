-- Changes of entries, marks and queue one after the other. Assumes nothing.
use Rattle.std.proofs.Common.{ℕ, Bool, List, length, refl, ◌∙◌}
use Rattle.tables.specs.Steps.{Space}
use Rattle.tables.specs.Queue.{Queue}
use Rattle.tables.specs.Visits.{Going}
use Rattle.tables.proofs.Law.{moved_none, moved_then}

pub going_none : {x : Space} {j : ℕ} {t : List ℕ} {marks : List Bool} {c : ℕ} → Queue (length t) marks c → Going x j t marks c t marks c
going_none {x} {j} {t} {marks} {c} v = record { moved = moved_none x t marks c; queue = v; stays = refl }

pub going_then : {x : Space} {j : ℕ} {t u v : List ℕ} {a b d : List Bool} {k l n : ℕ} → Going x j t a k u b l → Going x j u b l v d n → Going x j t a k v d n
going_then f g = record { moved = moved_then f.moved g.moved; queue = g.queue; stays = g.stays ∙ f.stays }
