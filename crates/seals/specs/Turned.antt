-- Numbers of 64 bits that are turned left.
use Rattle.std.specs.Prelude.{ℕ, ◌-◌, ◌*◌, ◌/◌, ◌%◌, ◌^◌, bit_or}

-- x turned left by k places
abbrev pub turned : ℕ → ℕ → ℕ
turned x k = bit_or ((x * 2 ^ (k % 64)) % 2 ^ 64) (x / 2 ^ ((64 - k % 64) % 64))
