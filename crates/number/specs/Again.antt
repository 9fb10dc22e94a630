-- A number that is shown is its own text: reading gives it back.
use Rattle.std.proofs.Common.{◌≡◌, ℕ, suc, ◌^◌, ◌<◌, ◌≤◌, List, ℤ, pos, negsuc, neg_ℤ, Ok, Err, decimal, SFits, w32, lit≤, Result, sym, ap, ◌∙◌, subst, inl, inr, arith}
use lib.Signed.{mag}
use Rattle.std.proofs.Math.Nat.{pow-le-pow_right}
use Rattle.std.specs.Fmt.{signed_decimal}
use Rattle.std.proofs.lemmas.Fmt.{decimal_nonempty, digits_decimal, digits_value-decimal}
use Rattle.number.specs.declared.decimal.NumberFault.{NumberFault}
use Rattle.number.specs.declared.decimal.NumberFault.TheVariants.{NoDigits, TooLarge}
use Rattle.number.specs.Numbers.{Numeral, worth, ReadsBelow, ReadsSigned}
use Rattle.number.specs.Parsing.{own, minus_first}

pub numeral_decimal : (n : ℕ) → n < 2 ^ 64 → Numeral (decimal n)
numeral_decimal n l = (decimal_nonempty n l, digits_decimal own n l)

pub worth_decimal : (n : ℕ) → n < 2 ^ 64 → worth (decimal n) ≡ n
worth_decimal n l = digits_value-decimal own n l

pub number_again : (k : ℕ) → k ≤ 64 → (n : ℕ) → n < 2 ^ k → (bs : List ℕ) → bs ≡ decimal n → (r : Result ℕ NumberFault) → ReadsBelow (2 ^ k) bs r → r ≡ Ok n
number_again k m n l bs e r h = again r h
  where
    small : n < 2 ^ 64
    small = omega (arith, pow-le-pow_right {n = 2} (lit≤ tt) m)

    again : (r : Result ℕ NumberFault) → ReadsBelow (2 ^ k) bs r → r ≡ Ok n
    again (Ok x) h = ap Ok (h.2 ∙ ap worth e ∙ worth_decimal n small)
    again (Err NoDigits) h = absurd (h (subst Numeral (sym e) (numeral_decimal n small)))
    again (Err TooLarge) h = absurd (omega (arith, h.1, ap worth e ∙ worth_decimal n small))

signed_read : (z : ℤ) (bs : List ℕ) (r : Result ℤ NumberFault) → mag z < 2 ^ 31 → bs ≡ signed_decimal z → ReadsSigned bs r → r ≡ Ok z
signed_read (pos n) bs (Ok y) l e (inl h) = ap Ok (h.2 ∙ ap pos (ap worth e ∙ worth_decimal n (omega arith)))
signed_read (pos n) bs (Ok y) l e (inr (ds, f, h, k, q)) = absurd (minus_first bs ds f (subst Numeral (sym e) (numeral_decimal n (omega arith))).1)
signed_read (negsuc n) bs (Ok y) l e (inl h) = absurd (minus_first bs (decimal (suc n)) e h.0.1)
signed_read (negsuc n) bs (Ok y) l e (inr (ds, f, h, k, q)) =
    let same : ds ≡ decimal (suc n) = cc in
    let w = ap worth same ∙ worth_decimal (suc n) (omega arith) in
    ap Ok (q ∙ ap (λ m. neg_ℤ (pos m)) w)
signed_read (pos n) bs (Err NoDigits) l e h = absurd (h.0 (subst Numeral (sym e) (numeral_decimal n (omega arith))))
signed_read (negsuc n) bs (Err NoDigits) l e h = absurd (h.1 (decimal (suc n)) e (numeral_decimal (suc n) (omega arith)))
signed_read (pos n) bs (Err TooLarge) l e (inl h) = absurd (omega (arith, h.1, ap worth e ∙ worth_decimal n (omega arith)))
signed_read (pos n) bs (Err TooLarge) l e (inr (ds, f, h, k)) = absurd (minus_first bs ds f (subst Numeral (sym e) (numeral_decimal n (omega arith))).1)
signed_read (negsuc n) bs (Err TooLarge) l e (inl h) = absurd (minus_first bs (decimal (suc n)) e h.0.1)
signed_read (negsuc n) bs (Err TooLarge) l e (inr (ds, f, h, k)) =
    let same : ds ≡ decimal (suc n) = cc in
    absurd (omega (arith, k, ap worth same ∙ worth_decimal (suc n) (omega arith)))

pub signed_again : (z : ℤ) → SFits w32 z → (bs : List ℕ) → bs ≡ signed_decimal z → (r : Result ℤ NumberFault) → ReadsSigned bs r → r ≡ Ok z
signed_again z f bs e r h = signed_read z bs r f.sfits e h
