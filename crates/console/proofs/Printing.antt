-- A book is printed line by line, and a committee station by station.
use Rattle.std.proofs.Common.{◌≡◌, ℕ, ◌+◌, ◌<◌, List, [], ◌∷◌, ◌++◌, length, take, get_or, rules, ap, ◌∙◌, append_assoc, arith}
use Rattle.std.proofs.Output.{has_written_append, has_written_of_eq}
use Rattle.std.proofs.lemmas.List.{take_more, length-take-le}
use Rattle.std.specs.Fmt.{HasWritten}
use Rattle.std.specs.declared.fmt.Formatter.{Formatter}
use Rattle.base.specs.declared.book.Entry.{Entry}
use Rattle.console.specs.Shown.{numbered}

-- what stands where a book has no entry
abbrev pub no_entry : Entry
no_entry = record { grower = 0; amount = 0; carry = 0; figure = 0 }

one_more : {A : Type 0} (text : ℕ → A → List ℕ) (k n : ℕ) (xs : List A) (x : A) → n ≡ k + length xs
    → numbered text k xs ++ text n x ≡ numbered text k (xs ++ x ∷ [])
one_more text k n [] x same = search (rules, same)
one_more text k n (y ∷ ys) x same =
    append_assoc (text k y) (numbered text (k + 1) ys) (text n x) ∙ ap (λ t. text k y ++ t) (one_more text (k + 1) n ys x (omega (arith, same)))

-- a turn prints item k, by the number n
pub next_item : {A : Type 0} {W : Type 0} (took : W → List ℕ → W → Type 0) (text : ℕ → A → List ℕ) (first n : ℕ) (f g h : Formatter W) (xs : List A) (k : ℕ) (d : A) → k < length xs → n ≡ first + k
    → HasWritten took f (numbered text first (take k xs)) g → HasWritten took g (text n (get_or xs k d)) h
    → HasWritten took f (numbered text first (take (k + 1) xs)) h
next_item took text first n f g h xs k d within same before item =
    has_written_of_eq took _ _ _ _
    (one_more text first n (take k xs) (get_or xs k d) (omega (arith, same, length-take-le k xs (omega (arith, within)))) ∙ ap (numbered text first) (search (rules, take_more xs k d within)))
    (has_written_append took f (numbered text first (take k xs)) g (text n (get_or xs k d)) h before item)
