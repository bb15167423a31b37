-- The checks of a delivered decision let a frame pass exactly when it is a certificate.
use Rattle.std.proofs.Common.{ℕ, ◌+◌, ◌^◌, ◌<◌, List, refl, arith}
use Rattle.frames.specs.Bytes.{statement, entry_bytes}
use Rattle.frames.specs.Frames.{sender_of, batch_of, entry_of, pairs_of}
use Rattle.frames.specs.Certificates.{pair_sealed}
use Rattle.protocol.specs.Law.{Terms}
use Rattle.protocol.specs.Run.{Lawful}
use Rattle.protocol.specs.Claims.{ChecksCertify}
use Rattle.frames.proofs.Formed.{first_pair_all}
use Rattle.frames.proofs.Frames.{statement_bytes, entry_bytes_bytes}
use Rattle.frames.proofs.Certificates.{certifies, owed_tag, certificate}

small_tag : (d : Terms) → Lawful d → (bs : List ℕ) → sender_of bs < d.n → owed_tag d.n d.t d.batches d.tag bs < 2 ^ 64
small_tag d law bs sends =
    law.tags (sender_of bs) (statement 2 (sender_of bs) (batch_of bs) 0 (d.t + 1) (entry_bytes (entry_of bs))) (omega (arith, sends, law.few_stations)) refl
    (statement_bytes 2 (sender_of bs) (batch_of bs) 0 (d.t + 1) (entry_bytes (entry_of bs)) (omega arith) (omega (arith, sends, law.few_stations)) (omega (arith, law.majority, law.few_stations)) (entry_bytes_bytes (entry_of bs)))

pub checks_certify : ChecksCertify
checks_certify d law bs h = (
  λ p. certifies d.n d.t d.batches d.tag bs h p.formed p.decision p.sender (first_pair_all (pair_sealed d.tag bs) 32 (pairs_of bs) p.pairs),
  λ c. (certificate d.n d.t d.batches d.tag bs h (small_tag d law bs c.sends)).1 c,
)
