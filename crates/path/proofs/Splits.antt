-- A list cut at the first place of a number: the cut is unique.
use Rattle.std.proofs.Common.{◌≡◌, ℕ, zero, suc, ◌<◌, List, [], ◌∷◌, ◌++◌, length, get_or, refl, arith}
use Rattle.number.specs.Numbers.{Digits}

-- c is not among xs
abbrev pub Lacks : ℕ → List ℕ → Type 0
Lacks c xs = (i : ℕ) → i < length xs → get_or xs i 0 ≡ c → ⊥

pub rest_lacks : (c x : ℕ) (xs : List ℕ) → Lacks c (x ∷ xs) → Lacks c xs
rest_lacks c x xs h i l e = h (suc i) (omega arith) e

pub first_lacks : (c x : ℕ) (xs : List ℕ) → Lacks c (x ∷ xs) → x ≡ c → ⊥
first_lacks c x xs h e = h 0 (omega arith) e

pub same_split : (c : ℕ) (xs ys us vs : List ℕ) → Lacks c xs → Lacks c us → xs ++ (c ∷ ys) ≡ us ++ (c ∷ vs) → (xs ≡ us) × (ys ≡ vs)
same_split c [] ys [] vs l m e = (refl, cc)
same_split c [] ys (u ∷ us) vs l m e = absurd (first_lacks c u us m (cc))
same_split c (x ∷ xs) ys [] vs l m e = absurd (first_lacks c x xs l (cc))
same_split c (x ∷ xs) ys (u ∷ us) vs l m e =
    let head : x ≡ u = cc in
    let tail : xs ++ (c ∷ ys) ≡ us ++ (c ∷ vs) = cc in
    let p = same_split c xs ys us vs (rest_lacks c x xs l) (rest_lacks c u us m) tail in
    (cc (head, p.0), p.1)

pub at_cut : (c : ℕ) (xs ys : List ℕ) → Lacks c (xs ++ (c ∷ ys)) → ⊥
at_cut c [] ys h = first_lacks c c ys h refl
at_cut c (x ∷ xs) ys h = at_cut c xs ys (rest_lacks c x (xs ++ (c ∷ ys)) h)

pub lacks_cons : (c x : ℕ) (xs : List ℕ) → (x ≡ c → ⊥) → Lacks c xs → Lacks c (x ∷ xs)
lacks_cons c x xs h l zero b e = h e
lacks_cons c x xs h l (suc i) b e = l i (omega arith) e

pub lacks_append : (c : ℕ) (xs ys : List ℕ) → Lacks c xs → Lacks c ys → Lacks c (xs ++ ys)
lacks_append c [] ys l m = m
lacks_append c (x ∷ xs) ys l m = lacks_cons c x (xs ++ ys) (first_lacks c x xs l) (lacks_append c xs ys (rest_lacks c x xs l) m)

-- digits lack every byte that is none
pub digits_lack : (c : ℕ) (xs : List ℕ) → 57 < c → Digits xs → Lacks c xs
digits_lack c xs h d i l e = omega (arith, d i l)

pub digits_lack_low : (c : ℕ) (xs : List ℕ) → c < 48 → Digits xs → Lacks c xs
digits_lack_low c xs h d i l e = omega (arith, d i l)

pub lacks_nil : (c : ℕ) → Lacks c []
lacks_nil c i l e = omega arith
