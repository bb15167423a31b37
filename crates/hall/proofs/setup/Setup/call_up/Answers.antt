use Rattle.hall.proofs.setup.Setup.call_up.Goals as goal

pub returns : goal.returns
returns g c = rw c.draft.ensures at c.send.ensures.row
