use Rattle.frames.proofs.Packed.{joined}
use Rattle.frames.proofs.bytes.FrameBytes.join.Goals as goal

pub returns : goal.returns
returns c =
    joined c.args.front.now c.args.back.now c.first-front.result.now c.first-back.result.now c.put.new.dst c.put-2.new.dst
    c.first-front.ensures c.first-back.ensures c.put.ensures c.put-2.ensures
