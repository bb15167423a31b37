use Rattle.std.proofs.Common.{◌-◌, ◌^◌, ◌≤◌, arith, pow_mono}
use Rattle.std.proofs.lemmas.Nat.{one_shl}
use Rattle.policies.specs.MasksLemmas.{sound, step_low, step_high}
use Rattle.policies.proofs.full.Subsets.ranked.Goals as goal

pub overflow_add-found : goal.overflow_add-found
overflow_add-found c =
    let o = one_shl (c.loop-b.b - 1) 32 (omega arith) in
    let m : 2 ^ c.args.self.n ≤ 2 ^ 16 = pow_mono c.args.self.small in
    let b = sound c.args.self.n c.args.self.ones c.args.rank c.requires in
    let s = step_high c.loop-b.b c.loop-b.left c.loop-b.rest c.loop-b-test.true c.loop-b.invariant.1 (omega arith) in
    omega arith

pub loop-b-preserved-then-rest-without : goal.loop-b-preserved-then-rest-without
loop-b-preserved-then-rest-without c =
    let o = one_shl (c.loop-b.b - 1) 32 (omega arith) in
    grind (arith, step_high)

pub loop-b-preserved : goal.loop-b-preserved
loop-b-preserved c = grind (arith, step_low)
