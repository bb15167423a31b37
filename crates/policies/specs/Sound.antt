-- What holds of every locked table.
use Rattle.std.specs.Prelude.{ℕ, ◌+◌, ◌*◌, Bool, ◌&&◌, List, take, count_by, ◌==◌, nat_le}

-- a mark of 1
abbrev pub is_faulty : ℕ → Bool
is_faulty mark = mark == 1

-- how many of the first n stations are marked faulty
abbrev pub faulty : ℕ → List ℕ → ℕ
faulty n marks = count_by is_faulty (take n marks)

-- t is 1 to 7, n at least 2t + 1 and at most 16, and at most t stations are faulty
abbrev pub sound : ℕ → ℕ → List ℕ → Bool
sound n t marks = (nat_le 1 t && nat_le t 7) && ((nat_le (2 * t + 1) n && nat_le n 16) && nat_le (faulty n marks) t)
