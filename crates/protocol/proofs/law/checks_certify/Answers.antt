use Rattle.protocol.proofs.Certificates.{checks_certify}
use Rattle.protocol.proofs.law.checks_certify.Goals as goal

pub returns : goal.returns
returns c = checks_certify
