-- What `parse` reads, compared with what `decimal` spells.
use Rattle.std.proofs.Common.{rules, arith, sym, ap, ◌∙◌, IfSome, ◌≡◌, ◌≢◌, ◌<◌, ◌^◌, ℕ, length, List, get_or, suc, zero, Result, Ok, Err, decimal}
use Rattle.std.specs.Result.{result_ok}
use Rattle.std.specs.Str.Parse.{ParsesUnsigned, AllDigits, digits_value}
use Rattle.std.proofs.lemmas.Fmt.{decimal-digits_value, first_decimal, decimal_digit, decimal_is_IsNumeral, decimal_nonempty}
use Rattle.std.proofs.lemmas.Str.Parse.{IsNumeralModel, numerals_by_value, parse_plain, not_in_digits, tells_digits}

-- how std's numerals are read here
pub digits : IsNumeralModel (AllDigits 10) (digits_value 10)
digits = numerals_by_value (AllDigits 10) tells_digits

-- if `parse` reads a number from a text without a sign or leading zeros, `decimal` spells that text
pub spelt_if_parsed : {E : Type 0} (bs : List ℕ) (r : Result ℕ E) → ParsesUnsigned 64 10 bs r → get_or bs 0 0 ≢ 43 → (get_or bs 0 0 ≡ 48 → length bs ≡ 1) → IfSome (result_ok r) (λ n. bs ≡ decimal n)
spelt_if_parsed {E} bs (Ok n) h plain lone =
    let read = parse_plain digits {E = E} 64 bs (Ok n) h plain in
    sym (decimal-digits_value digits bs read.0.0 read.0.1 lone read.0.2) ∙ ap decimal (sym read.1)
spelt_if_parsed {E} bs (Err x) h plain lone = search rules

-- no number is written with a plus
pub no_plus : (bs : List ℕ) (n : ℕ) → n < 2 ^ 64 → bs ≡ decimal n → get_or bs 0 0 ≢ 43
no_plus bs n small e = let d = decimal_is_IsNumeral n small in rw e (not_in_digits digits (decimal n) 43 d.0.1 (λ r. omega (arith, r)) 0 d.0.0)

-- no number but 0 is written with a zero in front
pub no_leading_zero : (bs : List ℕ) (n : ℕ) → n < 2 ^ 64 → bs ≡ decimal n → get_or bs 0 0 ≡ 48 → length bs ≡ 1
no_leading_zero bs zero small e z = rw e (search (rules, decimal_digit 0 (omega arith)))
no_leading_zero bs (suc n) small e z = let f = first_decimal (suc n) (omega arith) small in let same = e in grind (arith, f, same)

-- what the check needs for words that spell a number
pub ruleset plain_words = (no_plus, no_leading_zero, decimal_nonempty)
