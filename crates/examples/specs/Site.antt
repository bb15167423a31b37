-- The terms of a hall by the oil rule, with rotating committees and keyed tags, written out.
use Rattle.std.specs.Prelude.{ℕ, List, slice_index}
use Rattle.rules.specs.Lawful.{lawful}
use Rattle.rules.specs.Oil.{oil_outcome}
use Rattle.policies.specs.Rotating.{rotating_seats, rotating_turn}
use Rattle.policies.specs.Sound.{is_faulty}
use Rattle.policies.specs.declared.rotating.Rotating.{Rotating}
use Rattle.policies.specs.declared.table.Locked.{Locked}
use Rattle.seals.specs.Keyed.{keyed_tag}
use Rattle.protocol.specs.Law.{Terms}

abbrev pub site_terms : Locked → Rotating → List ℕ → ℕ → ℕ → Terms
site_terms table policy keys batches slots = record {
  n = table.n;
  t = table.t;
  faulty = λ i. is_faulty (slice_index table.marks i);
  policy_n = policy.n;
  policy_t = policy.t;
  turn = rotating_turn policy.t;
  seats = rotating_seats policy.n policy.t;
  lawful = lawful;
  rule = oil_outcome;
  tag = keyed_tag keys;
  batches = batches;
  slots = slots;
}
