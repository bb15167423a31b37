-- Numbers as they are written in a script.
use Rattle.std.specs.Prelude.{ℕ, ◌+◌, ◌-◌, ◌*◌, Bool, true, cond, ◌&&◌, List, [], ◌∷◌, length, Some, None, Option, nat_le}

-- every character is one of the digits 0 to 9
abbrev pub all_digits : List ℕ → Bool
all_digits [] = true
all_digits (x ∷ xs) = (nat_le 48 x && nat_le x 57) && all_digits xs

-- the value of digits with the number v in front of them
abbrev pub value_behind : ℕ → List ℕ → ℕ
value_behind v [] = v
value_behind v (x ∷ xs) = value_behind (v * 10 + (x - 48)) xs

-- that value, if these are digits and it is of 32 bits
abbrev pub read_behind : ℕ → List ℕ → Option ℕ
read_behind v w = cond (all_digits w && nat_le (value_behind v w) 4294967295) (Some (value_behind v w)) None

-- the number that a word stands for
abbrev pub number_of : List ℕ → Option ℕ
number_of w = cond (nat_le 1 (length w)) (read_behind 0 w) None
