-- A text in hex, read pair by pair.
use Rattle.std.proofs.Common.{◌≡◌, ℕ, zero, suc, ◌<◌, ◌≤◌, List, [], ◌∷◌, ◌++◌, length, get_or, drop, min, Some, None, Option, sym, refl, ap, ◌∙◌, subst, append_assoc, append-nil, arith}
use Rattle.text.specs.declared.hex.TextFault.{TextFault}
use Rattle.text.specs.declared.hex.TextFault.TheVariants.{BadHex, NoEnd, BadEscape, Memory}
use Rattle.text.specs.Texts.{hex_digit, both, byte_of, HexPairs, Unless}

-- the bytes so far, and the text that is left
pub record Sofar (bs done rest : List ℕ) : Type 0 where
  pub sound : (vs : List ℕ) → HexPairs rest vs → HexPairs bs (done ++ vs)
  pub whole : (vs : List ℕ) → HexPairs bs vs → (ws : List ℕ) × HexPairs rest ws

pub start : (bs done rest : List ℕ) → done ≡ [] → rest ≡ bs → Sofar bs done rest
start bs done rest e f = record { sound = λ vs h. subst (λ l. HexPairs bs (l ++ vs)) (sym e) (subst (λ l. HexPairs l vs) f h); whole = λ vs h. (vs, subst (λ l. HexPairs l vs) (sym f) h) }

pub both_none : (o : Option ℕ) → both o None ≡ None
both_none None = refl
both_none (Some h) = refl

-- past the end
pub past : (xs : List ℕ) (i : ℕ) → length xs ≤ i → get_or xs i 0 ≡ 0
past [] i l = refl
past (x ∷ xs) zero l = absurd (omega arith)
past (x ∷ xs) (suc i) l = past xs i (omega arith)

pub no_byte : (high low : ℕ) → low ≡ 0 → byte_of high low ≡ None
no_byte high low e = ap (byte_of high) e ∙ both_none (hex_digit high)

pub unless_any : (e : TextFault) {P : Type 0} → P → Unless e P
unless_any BadHex p = p
unless_any NoEnd p = p
unless_any BadEscape p = p
unless_any Memory p = tt

-- a chunk of two, or of the last one, in front of the rest
record Front (rest pair more : List ℕ) : Type 0 where
  byte : byte_of (get_or rest 0 0) (get_or rest 1 0) ≡ byte_of (get_or pair 0 0) (get_or pair 1 0)
  behind : drop 2 rest ≡ more

front : (rest pair more : List ℕ) → rest ≡ pair ++ more → length pair ≡ min 2 (length rest) → 0 < length rest → Front rest pair more
front rest [] more e l s = absurd (omega arith)
front rest (x ∷ []) [] e l s = record { byte = ap (λ r. byte_of (get_or r 0 0) (get_or r 1 0)) e; behind = ap (drop 2) e }
front rest (x ∷ []) (y ∷ more) e l s = absurd (let z = ap length e in omega arith)
front rest (x ∷ y ∷ []) more e l s = record { byte = ap (λ r. byte_of (get_or r 0 0) (get_or r 1 0)) e; behind = ap (drop 2) e }
front rest (x ∷ y ∷ z ∷ pair) more e l s = absurd (omega arith)

module _ {bs done rest : List ℕ} (old : Sofar bs done rest) where
  module _ (pair more : List ℕ) (e : rest ≡ pair ++ more) (l : length pair ≡ min 2 (length rest)) (s : 0 < length rest) where
    pub bad_pair : byte_of (get_or pair 0 0) (get_or pair 1 0) ≡ None → (vs : List ℕ) → HexPairs bs vs → ⊥
    bad_pair n vs h = let k = old.whole vs h in none k.0 k.1
      where
        none : (ws : List ℕ) → HexPairs rest ws → ⊥
        none [] h = omega arith
        none (w ∷ ws) h = let z : ◌≡◌ {A = ℕ} 0 1 = cc (h.0, (front rest pair more e l s).byte, n) in omega arith

    pub one_more : (v : ℕ) → byte_of (get_or pair 0 0) (get_or pair 1 0) ≡ Some v → Sofar bs (done ++ (v ∷ [])) more
    one_more v b = record {
      sound = λ vs h. subst (HexPairs bs) (sym (append_assoc done (v ∷ []) vs)) (old.sound (v ∷ vs) (f.byte ∙ b, subst (λ r. HexPairs r vs) (sym f.behind) h));
      whole = λ vs h. let k = old.whole vs h in left k.0 k.1;
    }
      where
        f : Front rest pair more
        f = front rest pair more e l s

        left : (ws : List ℕ) → HexPairs rest ws → (us : List ℕ) × HexPairs more us
        left [] h = absurd (omega arith)
        left (w ∷ ws) h = (ws, subst (λ r. HexPairs r ws) f.behind h.1)

  pub all_read : length rest ≡ 0 → HexPairs bs done
  all_read l = subst (HexPairs bs) (append-nil done) (old.sound [] l)
