-- What the tests of every call show.
use Rattle.std.proofs.Common.{◌≡◌, ℕ, suc, ◌+◌, ◌*◌, ◌<◌, ◌≤◌, true, eqb, leb, List, length, mul-le-mul_right, suc-mul, mul-le-mul, arith}
use Rattle.std.proofs.lemmas.Bool.{leb-true, eqb-true}
use Rattle.base.specs.declared.book.Batch.{Batch}
use Rattle.frames.proofs.Basics.{and_true}
use Rattle.protocol.specs.Law.{Terms}
use Rattle.protocol.specs.Steps.{World, in_range, fitting}

pub few_batches : (d : Terms) → in_range d ≡ true → d.batches ≤ 1000
unfolding in_range
few_batches d e =
    let (_, e₁) = and_true (eqb d.policy_n d.n) _ e in
    let (_, e₂) = and_true (eqb d.policy_t d.t) _ e₁ in
    let (_, e₃) = and_true (leb 1 d.batches) _ e₂ in
    leb-true d.batches 1000 (and_true (leb d.batches 1000) _ e₃).0

-- the lengths of the buffers
pub record Sizes (d : Terms) (intake : List Batch) (w : World) : Type 0 where
  pub intake_size : length intake ≡ d.batches
  pub pool_size : length w.pool ≡ d.slots
  pub book_size : length w.books ≡ d.n * d.batches

pub sizes : (d : Terms) (intake : List Batch) (w : World) → fitting d intake w ≡ true → Sizes d intake w
unfolding fitting
sizes d intake w e =
    let (a, e₁) = and_true (eqb (length intake) d.batches) _ e in
    let (b, c) = and_true (eqb (length w.pool) d.slots) _ e₁ in
    record { intake_size = eqb-true _ _ a; pool_size = eqb-true _ _ b; book_size = eqb-true _ _ c }

-- the books of sixteen stations at most are few
pub entries_fit : (n b : ℕ) → n ≤ 16 → b ≤ 1000 → n * b ≤ 16000
entries_fit n b few short = mul-le-mul few short

-- a place of a station's row lies in the books
pub in_books : (i n b k entries : ℕ) → i < n → k < b → entries ≡ n * b → i * b + k < entries
in_books i n b k entries there left shape =
    let row : suc i * b ≤ n * b = mul-le-mul_right b there in
    omega (arith, row, suc-mul i b, left, shape)
