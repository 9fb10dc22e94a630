-- A text in quotes, read letter by letter.
use Rattle.std.proofs.Common.{◌≡◌, ℕ, ◌+◌, ◌-◌, ◌<◌, ◌≤◌, Bool, true, false, cond, eqb, List, [], ◌∷◌, ◌++◌, length, get_or, take, drop, Some, None, Ok, Err, Option, sym, refl, ap, ◌∙◌, subst, ⊎_elim, append_assoc, append-nil, add_assoc, arith, length-drop}
use Rattle.std.proofs.lemmas.List.{drop-drop, take_all}
use Rattle.std.proofs.lemmas.Bool.Decides.{nat_tests}
use Rattle.std.proofs.str.Laws.{order}
use Rattle.text.specs.declared.hex.TextFault.{TextFault}
use Rattle.text.specs.declared.hex.TextFault.TheVariants.{BadEscape}
use Rattle.text.specs.declared.quoted.Letter.TheVariants.{Close, Byte}
use Rattle.text.specs.Quotes.{hexed, escaped, letter_of, Used, Quoted}
use Rattle.text.specs.Texts.{byte_of}
use Rattle.text.proofs.Pairs.{past, no_byte}

in_range : (xs : List ℕ) (i v : ℕ) → get_or xs i 0 ≡ v → 0 < v → i < length xs
in_range xs i v e l = ⊎_elim (λ h. h) (λ g. absurd (omega (arith, past xs i g))) (order i (length xs))

used_four : (n : ℕ) (o : Option ℕ) → 4 ≤ n → Used n (hexed o)
used_four n None l = tt
used_four n (Some b) l = (omega arith, l)

module _ (bs : List ℕ) where
  used_hexed : Used (length bs) (hexed (byte_of (get_or bs 2 0) (get_or bs 3 0)))
  used_hexed =
      ⊎_elim
      (λ short. subst (λ o. Used (length bs) (hexed o)) (sym (no_byte (get_or bs 2 0) (get_or bs 3 0) (past bs 3 (omega arith)))) tt)
      (λ long. used_four (length bs) (byte_of (get_or bs 2 0) (get_or bs 3 0)) long)
      (order (length bs) 4)

  used_x : (b : Bool) → Used (length bs) (cond b (hexed (byte_of (get_or bs 2 0) (get_or bs 3 0))) (Err BadEscape))
  used_x true = used_hexed
  used_x false = tt

  used_backslash : (b : Bool) → eqb (get_or bs 1 0) 92 ≡ b → Used (length bs) (cond b (Ok (Byte 92 2)) (cond (eqb (get_or bs 1 0) 120) (hexed (byte_of (get_or bs 2 0) (get_or bs 3 0))) (Err BadEscape)))
  used_backslash true e = (omega arith, in_range bs 1 92 (grind (arith, nat_tests)) (omega arith))
  used_backslash false e = used_x (eqb (get_or bs 1 0) 120)

  used_quote : (b : Bool) → eqb (get_or bs 1 0) 34 ≡ b → Used (length bs) (cond b (Ok (Byte 34 2)) (cond (eqb (get_or bs 1 0) 92) (Ok (Byte 92 2)) (cond (eqb (get_or bs 1 0) 120) (hexed (byte_of (get_or bs 2 0) (get_or bs 3 0))) (Err BadEscape))))
  used_quote true e = (omega arith, in_range bs 1 34 (grind (arith, nat_tests)) (omega arith))
  used_quote false e = used_backslash (eqb (get_or bs 1 0) 92) refl

  pub used_escaped : Used (length bs) (escaped (get_or bs 1 0) (get_or bs 2 0) (get_or bs 3 0))
  used_escaped = used_quote (eqb (get_or bs 1 0) 34) refl

-- the bytes so far, and how far the text is read
pub record Sofar (bs done : List ℕ) (at : ℕ) : Type 0 where
  pub sound : (vs : List ℕ) (m : ℕ) → Quoted (drop at bs) vs m → Quoted bs (done ++ vs) (at + m)
  pub whole : (vs : List ℕ) (n : ℕ) → Quoted bs vs n → (ws : List ℕ) × (m : ℕ) × Quoted (drop at bs) ws m

module _ {bs done : List ℕ} {at : ℕ} (old : Sofar bs done at) where
  pub one_more : (v k : ℕ) → letter_of (drop at bs) ≡ Ok (Byte v k) → Sofar bs (done ++ (v ∷ [])) (at + k)
  one_more v k e = record {
    sound = λ vs m h.
        let p = old.sound (v ∷ vs) (k + m) (k, m, e, subst (λ x. Quoted x vs m) (sym (drop-drop k at bs)) h, refl) in
        rw (append_assoc done (v ∷ []) vs, add_assoc at k m) p;
    whole = λ vs n h. let p = old.whole vs n h in rest p.0 p.1 p.2;
  }
    where
      rest : (ws : List ℕ) (m : ℕ) → Quoted (drop at bs) ws m → (us : List ℕ) × (l : ℕ) × Quoted (drop (at + k) bs) us l
      rest [] m h = absurd (let z : ◌≡◌ {A = ℕ} 0 1 = cc (h.0, e) in omega arith)
      rest (w ∷ ws) m (j, l, f, h, q) =
          let same : j ≡ k = cc in
          (ws, l, subst (λ x. Quoted x ws l) (ap (λ i. drop i (drop at bs)) same ∙ drop-drop k at bs) h)

  pub bad_letter : (f : TextFault) → letter_of (drop at bs) ≡ Err f → (vs : List ℕ) (n : ℕ) → Quoted bs vs n → ⊥
  bad_letter f e vs n h = let p = old.whole vs n h in none p.0 p.1 p.2
    where
      none : (ws : List ℕ) (m : ℕ) → Quoted (drop at bs) ws m → ⊥
      none [] m h = let z : ◌≡◌ {A = ℕ} 0 1 = cc (h.0, e) in omega arith
      none (w ∷ ws) m (j, l, g, h, q) = let z : ◌≡◌ {A = ℕ} 0 1 = cc in omega arith

  pub closed : letter_of (drop at bs) ≡ Ok Close → Quoted bs done (at + 1)
  closed e = subst (λ l. Quoted bs l (at + 1)) (append-nil done) (old.sound [] 1 (e, refl))

-- a slice from an index to the end
pub behind : (bs : List ℕ) → let l = take (length bs - 1) (drop 1 bs) in escaped (get_or l 0 0) (get_or l 1 0) (get_or l 2 0) ≡ escaped (get_or bs 1 0) (get_or bs 2 0) (get_or bs 3 0)
behind bs = ap (λ l. escaped (get_or l 0 0) (get_or l 1 0) (get_or l 2 0)) (take_all (length bs - 1) (drop 1 bs) (omega (arith, length-drop 1 bs))) ∙ after bs
  where
    after : (xs : List ℕ) → escaped (get_or (drop 1 xs) 0 0) (get_or (drop 1 xs) 1 0) (get_or (drop 1 xs) 2 0) ≡ escaped (get_or xs 1 0) (get_or xs 2 0) (get_or xs 3 0)
    after [] = refl
    after (x ∷ xs) = refl

pub letter_from : (bs : List ℕ) (at : ℕ) → letter_of (drop at bs) ≡ letter_of (take (length bs - at) (drop at bs))
letter_from bs at = ap letter_of (sym (take_all (length bs - at) (drop at bs) (omega (arith, length-drop at bs))))
