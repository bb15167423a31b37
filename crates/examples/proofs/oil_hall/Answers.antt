use Rattle.std.proofs.Common.{subst}
use Rattle.rules.specs.declared.oil.Oil.{Oil}
use Rattle.policies.specs.declared.rotating.Rotating.{Rotating}
use Rattle.seals.specs.declared.keyed.Keyed.{Keyed}
use Rattle.hall.specs.declared.setup.Setup.{Setup}
use Rattle.protocol.specs.Run.{Owes}
use Rattle.examples.specs.Site.{site_terms}
use Rattle.examples.proofs.oil_hall.Goals as goal

pub returns : goal.returns
returns c =
    subst (λ (j : Setup Oil Rotating Keyed). Owes (site_terms j.table j.policy j.seal.keys j.batches j.slots))
    c.make.ensures.setup c.make.ensures.law
