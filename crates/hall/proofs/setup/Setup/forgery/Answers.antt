use Rattle.hall.specs.Join.{terms}
use Rattle.hall.proofs.Tested.{forgery_found}
use Rattle.hall.proofs.setup.Setup.forgery.Goals as goal

pub returns : goal.returns
returns g c =
    forgery_found (terms g.R.Rule g.P.Policy g.S.Check c.args.self.now) c.in_ok-frame.frame c.args.pool.now _ _
    c.forged.ensures (rw c.decode.ensures.is at c.in_ok-frame.ensures.value)
