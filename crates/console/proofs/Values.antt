-- A number of a script is what the library reads of digits without a sign.
use Rattle.std.proofs.Common.{rules, ◌≡◌, ◌≢◌, ℕ, ◌^◌, ◌<◌, Bool, true, false, cond, ◌&&◌, leb, List, length, get_or, Some, None, Ok, Err, Option, Result, refl, arith}
use Rattle.std.proofs.lemmas.Bool.{le-leb, leb-true}
use Rattle.std.proofs.lemmas.Fmt.{IsAscii-from_digits}
use Rattle.std.proofs.lemmas.Str.{IsUtf8-from_ascii}
use Rattle.std.proofs.lemmas.Str.Parse.{IsNumeralModel, numerals_by_fold, parse_plain}
use Rattle.std.specs.Result.{result_ok, OkIff}
use Rattle.std.specs.Str.{IsUtf8}
use Rattle.std.specs.Str.Parse.{ParsesUnsigned}
use Rattle.console.specs.Numbers.{all_digits, value_behind, number_of}

abbrev Digits : List ℕ → Type 0
Digits w = all_digits w ≡ true

own : IsNumeralModel Digits (value_behind 0)
own = numerals_by_fold Digits (search rules) value_behind (search rules)

-- no number where one of the tests fails
refused : (a b c : Bool) (o : Option ℕ) → (b ≡ true → a ≡ true → c ≡ true → ⊥) → cond a (cond (b && c) o None) None ≡ None
refused true true true o f = absurd (f refl refl refl)
refused true true false o f = refl
refused true false c o f = refl
refused false b c o f = refl

module _ (w : List ℕ) where
  abbrev v : ℕ
  v = value_behind 0 w

  pub garbled : (IsUtf8 w → ⊥) → None ≡ number_of w
  garbled h = search (rules, refused (leb 1 (length w)) (all_digits w) (leb v 4294967295) (Some v) (λ d some small. h (IsUtf8-from_ascii w (IsAscii-from_digits w (own.to w d)))))

  told : {E : Type 0} (r : Result ℕ E) → OkIff r (Digits w × (0 < length w) × (v < 2 ^ 32)) v → result_ok r ≡ number_of w
  told (Ok x) h = rw (le-leb 1 (length w) h.0.1, h.0.0, le-leb v 4294967295 (omega (arith, h.0.2)), h.1) refl
  told (Err e) h = search (rules, refused (leb 1 (length w)) (all_digits w) (leb v 4294967295) (Some v) (λ d some small. h (d, leb-true 1 (length w) some, omega (arith, leb-true v 4294967295 small))))

  pub number_read : {E : Type 0} (r : Result ℕ E) → ParsesUnsigned 32 10 w r → get_or w 0 0 ≢ 43 → result_ok r ≡ number_of w
  number_read r h plain = told r (parse_plain own 32 w r h plain)
