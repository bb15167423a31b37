-- The terms of a hall: what its table, rule, policy and seal mean.
use Rattle.std.specs.Prelude.{ℕ, slice_index}
use Rattle.rules.specs.Lawful.{lawful}
use Rattle.rules.specs.declared.rule.Rule as Rule
use Rattle.policies.specs.Sound.{is_faulty}
use Rattle.policies.specs.declared.policy.Policy as Policy
use Rattle.policies.specs.declared.table.Locked.{Locked}
use Rattle.seals.specs.declared.seal.Check as Check
use Rattle.protocol.specs.Law.{Terms}
use Rattle.hall.specs.declared.setup.Setup.{Setup}

module _ {R P S : Type 0} where
  abbrev pub joined : Locked → R → P → S → ℕ → ℕ → Setup R P S
  joined table rule policy seal batches slots = record { table = table; rule = rule; policy = policy; seal = seal; batches = batches; slots = slots }

  abbrev pub terms : Rule.Ghosts R → Policy.Ghosts P → Check.Ghosts S → Setup R P S → Terms
  terms r p s j = record {
    n = j.table.n;
    t = j.table.t;
    faulty = λ i. is_faulty (slice_index j.table.marks i);
    policy_n = p.stations j.policy;
    policy_t = p.faults j.policy;
    turn = p.turn j.policy;
    seats = p.seats j.policy;
    lawful = lawful;
    rule = r.outcome j.rule;
    tag = s.tag j.seal;
    batches = j.batches;
    slots = j.slots;
  }
