-- `Stack::push`: the frame is stored behind those in use. Assumes nothing.
use Rattle.std.proofs.Common.{length, length-set, ap, arith}
use Rattle.plan_check.specs.Stack.{Waiting}
use Rattle.plan_check.proofs.Waiting.{length-topmost_first, top_stored}
use Rattle.plan_check.proofs.stack.Stack.push.Goals as goal

pub bounds-self-inside-self-inside : goal.bounds-self-inside-self-inside
bounds-self-inside-self-inside c =
    let n = length-topmost_first c.self.inside.frames.now c.self.inside.used in
    let same = ap (λ (w : Waiting). length w.frames) c.self.view_is in
    let room = ap (λ (w : Waiting). w.room) c.self.view_is in
    omega (arith, c.requires)

pub invariant_of-self : goal.invariant_of-self
invariant_of-self c =
    let n = length-topmost_first c.self.inside.frames.now c.self.inside.used in
    let same = ap (λ (w : Waiting). length w.frames) c.self.view_is in
    let room = ap (λ (w : Waiting). w.room) c.self.view_is in
    omega (arith, length-set c.self.inside.frames.now c.self.inside.used c.args.frame, c.requires)

pub returns : goal.returns
returns c =
    let s = c.self.inside in
    let n = length-topmost_first s.frames.now s.used in
    let same = ap (λ (w : Waiting). length w.frames) c.self.view_is in
    let room = ap (λ (w : Waiting). w.room) c.self.view_is in
    let stored = top_stored s.frames.now s.used c.args.frame (omega (arith, c.requires)) in
    rw (← c.self.view_is, stored, length-set s.frames.now s.used c.args.frame)
