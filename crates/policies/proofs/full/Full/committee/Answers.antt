use Rattle.policies.specs.MasksLemmas.{listed}
use Rattle.policies.proofs.full.Full.committee.Goals as goal

pub returns-clause-listed : goal.returns-clause-listed
returns-clause-listed c = listed _ _
