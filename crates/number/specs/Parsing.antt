-- Our digits and their worth are those that the library's `parse` reads and its `{n}` writes.
use Rattle.std.proofs.Common.{◌≡◌, ℕ, ◌^◌, ◌<◌, ◌≤◌, List, ◌∷◌, length, get_or, drop, ℤ, Ok, Err, Result, sym, ap, subst, inl, inr, ⊎_elim, arith, w32, rules, MatchResult}
use Rattle.std.specs.Str.Parse.{ParsesUnsigned, ParsesSigned}
use Rattle.std.proofs.lemmas.Str.Parse.{IsNumeralModel, numerals_by_fold, tells_by_index, parse_digits, parse_signed_digits, parse_signed_minus}
use Rattle.std.proofs.lemmas.Bool.{cases_lt}
use Rattle.number.specs.declared.decimal.NumberFault.{NumberFault}
use Rattle.number.specs.declared.decimal.NumberFault.TheVariants.{NoDigits, TooLarge}
use Rattle.number.specs.Numbers.{Digits, Numeral, worth, worth_after, ReadsBelow, Signed, WithoutMinus, ReadsSigned}

pub own : IsNumeralModel Digits worth
own = numerals_by_fold _ tells_by_index worth_after (search rules)

-- what is not below is as large
pub not_below : (m n : ℕ) → (m < n → ⊥) → n ≤ m
not_below m n h = ⊎_elim (λ l. absurd (h l)) (λ g. g) (cases_lt m n)

-- a number without a sign
pub no_digits : (k : ℕ) (bs ds : List ℕ) → bs ≡ ds → (Numeral ds → ⊥) → ReadsBelow (2 ^ k) bs (Err NoDigits)
no_digits k bs ds e none = λ n. none (subst Numeral e n)

pub parsed : {E : Type 0} (k : ℕ) (bs ds : List ℕ) → bs ≡ ds → Numeral ds → (r : Result ℕ E) → ParsesUnsigned k 10 bs r → MatchResult r (λ n. ReadsBelow (2 ^ k) bs (Ok n)) (λ _. ReadsBelow (2 ^ k) bs (Err TooLarge))
parsed {E} k bs ds e n (Ok x) h =
    let m = subst Numeral (sym e) n in
    let p = parse_digits own {E = E} k bs (Ok x) h m.1 in
    (m, p.0.1, p.1)
parsed {E} k bs ds e n (Err f) h =
    let m = subst Numeral (sym e) n in
    (m, not_below _ _ (λ l. parse_digits own {E = E} k bs (Err f) h m.1 (m.0, l)))

pub number_apart : (k : ℕ) (bs : List ℕ) (e : NumberFault) (n : ℕ) → ReadsBelow (2 ^ k) bs (Err e) → ReadsBelow (2 ^ k) bs (Ok n) → ⊥
number_apart k bs NoDigits n h g = h g.0
number_apart k bs TooLarge n h g = omega (arith, h.1, g.1)

-- a minus is no digit
pub minus_first : (bs ds : List ℕ) → bs ≡ 45 ∷ ds → Digits bs → ⊥
minus_first bs ds e d = let f : get_or bs 0 0 ≡ 45 = ap (λ l. get_or l 0 0) e in let m = ap length e in omega (arith, d 0 (omega arith))

pub no_number : (bs ds : List ℕ) → WithoutMinus bs ds → (Numeral ds → ⊥) → (Numeral bs → ⊥) × ((es : List ℕ) → bs ≡ 45 ∷ es → Numeral es → ⊥)
no_number bs ds (inl e) none = (λ n. minus_first bs ds e n.1, λ es f n. none (subst Numeral (cc (e, f)) n))
no_number bs ds (inr w) none = (λ n. none (subst Numeral (sym w.0) n), λ es f n. w.1 es f)

pub signed_parsed : {E : Type 0} (bs ds : List ℕ) → WithoutMinus bs ds → Numeral ds → (r : Result ℤ E) → ParsesSigned w32 10 bs r → MatchResult r (Signed bs) (λ _. ReadsSigned bs (Err TooLarge))
signed_parsed {E} bs ds (inl e) n (Ok z) h =
    let f : get_or bs 0 0 ≡ 45 = ap (λ l. get_or l 0 0) e in
    let same : drop 1 bs ≡ ds = ap (drop 1) e in
    let p = rw same at (parse_signed_minus own {E = E} w32 bs (Ok z) h f) in
    inr (ds, e, n, p.0.2, p.1)
signed_parsed {E} bs ds (inl e) n (Err x) h =
    let f : get_or bs 0 0 ≡ 45 = ap (λ l. get_or l 0 0) e in
    let same : drop 1 bs ≡ ds = ap (drop 1) e in
    let p = rw same at (parse_signed_minus own {E = E} w32 bs (Err x) h f) in
    inr (ds, e, n, ⊎_elim (λ l. l) (λ g. absurd (p (n.1, n.0, omega arith))) (cases_lt (2 ^ 31) (worth ds)))
signed_parsed {E} bs ds (inr w) n (Ok z) h =
    let m = subst Numeral w.0 n in
    let p = parse_signed_digits own {E = E} w32 bs (Ok z) h m.1 in
    inl (m, p.0.1, p.1)
signed_parsed {E} bs ds (inr w) n (Err x) h =
    let m = subst Numeral w.0 n in
    inl (m, not_below _ _ (λ l. parse_signed_digits own {E = E} w32 bs (Err x) h m.1 (m.0, l)))

-- what a reader of signed numbers refuses is no signed number
pub signed_refused : (bs : List ℕ) (e : NumberFault) → ReadsSigned bs (Err e) → (z : ℤ) → Signed bs z → ⊥
signed_refused bs NoDigits h z (inl p) = h.0 p.0
signed_refused bs NoDigits h z (inr (ds, e, n, l, q)) = h.1 ds e n
signed_refused bs TooLarge (inl h) z (inl p) = omega (arith, h.1, p.1)
signed_refused bs TooLarge (inl h) z (inr (ds, e, n, l, q)) = minus_first bs ds e h.0.1
signed_refused bs TooLarge (inr (es, f, m, g)) z (inl p) = minus_first bs es f p.0.1
signed_refused bs TooLarge (inr (es, f, m, g)) z (inr (ds, e, n, l, q)) =
    let same : ds ≡ es = cc in
    omega (arith, g, l, ap worth same)

pub signed_some : (bs : List ℕ) (z : ℤ) → Signed bs z → 0 < length bs
signed_some bs z (inl p) = p.0.0
signed_some bs z (inr (ds, e, n, l, q)) = let m = ap length e in omega arith
